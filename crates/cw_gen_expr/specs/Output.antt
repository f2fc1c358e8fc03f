-- Orders to which a piece is added.
use Rattle.std.specs.Prelude.{◌≡◌, ℕ, [], ◌∷◌, ◌++◌, length, take, set, false}
use Rattle.cw_order.specs.declared.order.Order.TheVariants as order
use Rattle.cw_gen_expr.specs.declared.output.Extent.{Extent}
use Rattle.cw_gen_expr.specs.declared.output.Output.{Output}
use Rattle.cw_gen_expr.specs.Pieces.{MarkedOrders, Piece}

abbrev pub made : Output → MarkedOrders
made out = record { orders = out.orders; labels = out.labels; marks = out.marks.items }

-- at the end of these orders, and after their marks
abbrev pub added : Piece → MarkedOrders → MarkedOrders
added p x =
    let y = p (length x.orders) (length x.marks) in
    record { orders = x.orders ++ y.orders; labels = x.labels ++ y.labels; marks = x.marks ++ y.marks }

-- how much there is, and the first so much
abbrev pub extent_of : MarkedOrders → Extent
extent_of x = record { orders = length x.orders; labels = length x.labels; marks = length x.marks }

abbrev pub shortened : Extent → MarkedOrders → MarkedOrders
shortened e x = record { orders = take e.orders x.orders; labels = take e.labels x.labels; marks = take e.marks x.marks }

-- What an output becomes, unless it has failed; then it is of no use, and nothing is known of it. A piece is added,
pub record Adds (p : Piece) (x y : Output) : Type 0 where
  pub held : y.failed ≡ false → x.failed ≡ false
  pub is : y.failed ≡ false → made y ≡ added p (made x)

-- a mark is reserved, which is placed later,
pub record Reserves (mark : ℕ) (x y : Output) : Type 0 where
  pub held : y.failed ≡ false → x.failed ≡ false
  pub next : y.failed ≡ false → mark ≡ length x.marks.items
  pub is : y.failed ≡ false → made y ≡ record { orders = x.orders; labels = x.labels; marks = x.marks.items ++ 0 ∷ [] }

-- and it is placed
pub record Places (mark : ℕ) (x y : Output) : Type 0 where
  pub held : y.failed ≡ false → x.failed ≡ false
  pub is : y.failed ≡ false
      → made y ≡ record { orders = x.orders ++ order.Mark ∷ []; labels = x.labels; marks = set x.marks.items mark (length x.orders) }
