-- A FOR whose beginning is made, up to the mark of its body: what follows any body.
use Rattle.std.specs.Prelude.{◌≡◌, ℕ, List, [], ◌∷◌, ◌++◌, length, set, false}
use Rattle.cw_order.specs.declared.order.Order.{Order}
use Rattle.cw_order.specs.declared.order.Order.TheVariants as order
use Rattle.cw_unit.specs.declared.layout.Layout.{Layout}
use Rattle.cw_unit.specs.declared.unit.Expr.{Expr}
use Rattle.cw_gen_expr.specs.Pieces.{MarkedOrders, Piece, plain, followed_by}
use Rattle.cw_gen_expr.specs.declared.output.Output.{Output}
use Rattle.cw_gen_expr.specs.Output.{made, added}
use Rattle.cw_gen_expr.specs.ReferenceExpressions.{Scope, item_order, expression_piece}
use Rattle.cw_gen_unit.specs.ReferenceStatements.{keep_orders, number_orders, set_orders, loop_place}
use Rattle.cw_gen_unit.specs.declared.begun.WayOn.{WayOn}
use Rattle.cw_gen_unit.specs.declared.begun.WayOn.TheVariants as way
use Rattle.cw_gen_unit.specs.declared.begun.Begun.{Begun}

-- the orders behind the body
abbrev pub way_orders : Layout → (line item : ℕ) → WayOn → List Order
way_orders y line item (way.Ring ways) = item_order y item 3 ∷ order.Load ∷ order.LoopWay ways ∷ []
way_orders y line item (way.Step start) = order.NextStep (loop_place y item) line start ∷ []

-- a mark is placed
abbrev pub marked_at : ℕ → MarkedOrders → MarkedOrders
marked_at n x = record { orders = x.orders ++ order.Mark ∷ []; labels = x.labels; marks = set x.marks n (length x.orders) }

-- the end of a loop
abbrev pub ended : Layout → (line item : ℕ) → Begun → MarkedOrders → MarkedOrders
ended y line item b x = marked_at b.end (added (plain (way_orders y line item b.way)) x)

-- the loop of any body, whose beginning made the second orders of the first
abbrev pub IsBegun : Layout → (line item : ℕ) → (loop : Piece → Piece) → (x y : MarkedOrders) → Begun → Type 0
IsBegun y line item loop x z b = (body : Piece) → added (loop body) x ≡ ended y line item b (added body z)

-- the same of outputs, unless the second has failed, and of the end of a loop
pub record Begins (y : Layout) (line item : ℕ) (loop : Piece → Piece) (b : Begun) (x z : Output) : Type 0 where
  pub held : z.failed ≡ false → x.failed ≡ false
  pub is : z.failed ≡ false → IsBegun y line item loop (made x) (made z) b

pub record Ends (y : Layout) (line item : ℕ) (b : Begun) (x z : Output) : Type 0 where
  pub held : z.failed ≡ false → x.failed ≡ false
  pub is : z.failed ≡ false → made z ≡ ended y line item b (made x)

-- the values of a STEP element, and what follows the limit
abbrev pub values_with : Scope → (item scale number : ℕ) → (first step limit : Expr) → List Order → Piece
values_with s item f i a b d os =
    followed_by (plain (number_orders s.layout item i))
    (followed_by (expression_piece s a f)
    (followed_by (plain (set_orders s.layout s.line item))
    (followed_by (expression_piece s b f)
    (followed_by (plain (keep_orders s.layout item 1)) (followed_by (expression_piece s d f) (plain (keep_orders s.layout item 2 ++ os)))))))
