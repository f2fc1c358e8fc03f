-- The first order of an expression, a condition, a reference, an argument and of what stands behind the Start of a statement: one that begins
-- a statement.
use Rattle.std.proofs.Common.{ℕ, ◌+◌, ◌<◌, ◌≤◌, ℤ, max, List, [], ◌∷◌, ◌++◌, map, length, Bool, true, false, Option, Some, None, arith}
use Rattle.std.specs.Prelude.{slice_get, slice_index_or}
use Rattle.cw_unit.specs.declared.layout.Layout.{Layout}
use Rattle.cw_unit.specs.declared.layout.Family.{Family}
use Rattle.cw_unit.specs.declared.layout.Sort.{Sort}
use Rattle.cw_unit.specs.declared.layout.Sort.TheVariants as sort
use Rattle.cw_unit.specs.declared.unit.Label.{Label}
use Rattle.cw_unit.specs.declared.unit.Target.{Target}
use Rattle.cw_unit.specs.declared.unit.Goal.{Goal}
use Rattle.cw_unit.specs.declared.unit.Goal.TheVariants as goal
use Rattle.cw_unit.specs.declared.unit.Dest.{Dest}
use Rattle.cw_unit.specs.declared.unit.Dest.TheVariants as dest
use Rattle.cw_unit.specs.declared.unit.Felem.{Felem}
use Rattle.cw_unit.specs.declared.unit.Arg.{Arg}
use Rattle.cw_unit.specs.declared.unit.Cond.{Cond}
use Rattle.cw_unit.specs.declared.unit.Spot.{Spot}
use Rattle.cw_unit.specs.declared.unit.Ref.{Ref}
use Rattle.cw_unit.specs.declared.unit.Expr.{Expr, Expr-F}
use Rattle.cw_unit.specs.declared.unit.Arg.TheOpen as layer
use Rattle.cw_unit.specs.declared.unit.Arg.TheOpen.{Arg-F, Cond-F, Spot-F}
use Rattle.cw_order.specs.declared.order.Order.{Order}
use Rattle.cw_order.specs.declared.order.Order.TheVariants as order
use Rattle.cw_order.specs.BeginsStatement.{BeginsStatement}
use Rattle.cw_gen_expr.specs.Pieces.{Piece, plain, followed_by, sequence, with_end}
use Rattle.cw_gen_expr.specs.ReferenceExpressions.{Scope, ConditionPiece, placed_by, placed_in, item_order, known_or, named_or, pick_mark, call_order, label_order, value_of, condition_piece, argument_piece, reference_of, expression_piece}
use Rattle.cw_gen_expr.specs.UnitTables.{label_mark}
use Rattle.cw_gen_expr.proofs.Layers.{value_layer, computed_layer, known_layer, argument_layer, spot_layer, indexed_layer, word_item, word_layer, condition_layer, expression_size, expression_size_layer, argument_size, argument_size_layer, spot_size_layer, reference_size, condition_size, condition_size_layer}
use Rattle.cw_gen_unit.specs.ReferenceStatements.{own_order, goal_order, jump_piece, with_middle, loop_place, simple_beginning, begun_loop, parted_piece}
use Rattle.cw_gen_unit.specs.declared.simple.SimpleStep.{SimpleStep}
use Rattle.cw_unit.specs.declared.unit.Target.TheVariants as target
use Rattle.cw_carry.proofs.Runs.Induction.{Below, Layered, of_value, of_condition, of_reference, of_argument}

-- ---- lists and pieces

abbrev pub Leads : List Order → Type 0
Leads [] = ⊥
Leads (o ∷ os) = BeginsStatement o

pub leads_before : (a b : List Order) → Leads a → Leads (a ++ b)
leads_before [] b h = absurd h
leads_before (o ∷ os) b h = h

-- the first order of a piece begins a statement, wherever the piece stands
pub record Leading (p : Piece) : Type 0 where
  pub at : (place next : ℕ) → Leads (p place next).orders

leading : (o : Order) (os : List Order) → BeginsStatement o → Leading (plain (o ∷ os))
leading o os h = record { at = λ place next. h }

pub before : {p : Piece} (q : Piece) → Leading p → Leading (followed_by p q)
before {p} q h = record {
  at = λ place next. let x = p place next in leads_before x.orders (q (place + length x.orders) (next + length x.marks)).orders (h.at place next);
}

-- behind no orders
behind : {q : Piece} → Leading q → Leading (followed_by (plain []) q)
behind h = record { at = λ place next. h.at (place + 0) (next + 0) }

ended : (p : ℕ → Piece) → ((k : ℕ) → Leading (p k)) → Leading (with_end p)
ended p h = record { at = λ place next. leads_before (p next place (next + 1)).orders (order.Mark ∷ []) ((h next).at place (next + 1)) }

middle : (a b : ℕ → Piece) → ((k : ℕ) → Leading (a k)) → Leading (with_middle a b)
middle a b h = record { at = λ place next. (before (b next) (ended a h)).at place next }

known : (k : Option ℤ) {p : Piece} → Leading p → Leading (known_or k p)
known (Some z) h = record { at = λ place next. tt }
known None h = h

pub chosen : (c : ConditionPiece) (between : ℕ → List Order) (a b : Piece) → ((mark : ℕ) → Leading (c false mark)) → Leading (parted_piece c between a b)
chosen c between a b h =
    let first = λ (k m : ℕ). followed_by (c false m) (followed_by a (plain (between k))) in
    ended (λ k. followed_by (with_end (first k)) b) (λ k. before b (ended (first k) (λ m. before (followed_by a (plain (between k))) (h m))))

-- ---- single orders

-- what holds of the order of each place of an item
pub item_holds : (P : Order → Type 0) → ((x : Sort) (f o : ℕ) → P (placed_by x f o)) → ((f o : ℕ) → P (placed_in None f o)) → (y : Layout) (i n : ℕ) → P (item_order y i n)
item_holds P sorted none y i n = of_family (slice_get y.families (slice_index_or y.homes i (0, 0)).0) (slice_index_or y.homes i (0, 0)).0 ((slice_index_or y.homes i (0, 0)).1 + n)
  where
    of_family : (x : Option Family) (f o : ℕ) → P (placed_in x f o)
    of_family None f o = none f o
    of_family (Some x) f o = sorted x.sort f o

sort_leads : (x : Sort) (f o : ℕ) → BeginsStatement (placed_by x f o)
sort_leads (sort.Common d) f o = tt
sort_leads _ f o = tt

pub item_leads : (y : Layout) (i n : ℕ) → BeginsStatement (item_order y i n)
item_leads = item_holds BeginsStatement sort_leads (λ f o. tt)

item : (y : Layout) (i n : ℕ) (os : List Order) → Leading (plain (item_order y i n ∷ os))
item y i n os = leading (item_order y i n) os (item_leads y i n)

named : (y : Layout) (i : ℕ) (w : Option ℕ) {p : Piece} → Leading p → Leading (named_or y i w p)
named y i (Some n) h = item y i n []
named y i None h = h

-- the order for a label of the unit's own is one of two
pub own_order-is : (P : Order → Type 0) (who : Option ℕ) (x : Option Label) (m : ℕ) → P (order.Jump m) → P (order.GoMain m) → P (own_order who x m)
own_order-is P None x m jump main = jump
own_order-is P (Some q) None m jump main = jump
own_order-is P (Some q) (Some x) m jump main = by_procedure x.proc
  where
    by_procedure : (o : Option ℕ) → P (elim o [ None ↦ order.GoMain m | Some r ↦ order.Jump m ])
    by_procedure None = main
    by_procedure (Some r) = jump

module _ (s : Scope) where
  call_leads : (t : Target) → BeginsStatement (call_order s t)
  call_leads (target.Own q) = tt
  call_leads _ = tt

  label_leads : (g : Goal) → BeginsStatement (label_order s g)
  label_leads (goal.Own l) = tt
  label_leads (goal.Common d) = tt

-- ---- trees

module _ (s : Scope) where
  module _ (n : ℕ) (b : Below s Leading n) where
    indexed : (x : Spot-F Arg Cond Expr Spot Ref) → spot_size_layer x ≤ n → Leading (indexed_layer s x)
    indexed (layer.Direct i) le = behind (item s.layout i 0 [])
    indexed (layer.Through i) le = behind (item s.layout i 0 (order.Load ∷ order.InArea s.line ∷ []))
    indexed (layer.One i l u e) le = record { at = λ place next. leads_before _ _ (leads_before _ _ ((b.values e (let z : expression_size e < n = omega (arith, le) in z) 0).at place next)) }
    indexed (layer.Two i l1 u1 l2 u2 m e g) le = record { at = λ place next. leads_before _ _ (leads_before _ _ (leads_before _ _ ((b.values e (let z : expression_size e < n = omega (arith, le) in z) 0).at place next))) }
    indexed (layer.ParamArray i e) le = record { at = λ place next. leads_before _ _ ((b.values e (let z : expression_size e < n = omega (arith, le) in z) 0).at place next) }
    indexed (layer.Word i t m e) le = record { at = λ place next. leads_before _ _ (leads_before _ _ ((b.values e (let z : expression_size e < n = omega (arith, le) in z) 0).at place next)) }
    indexed (layer.Elem i t k m q e) le = record { at = λ place next. leads_before _ _ (leads_before _ _ ((b.values e (let z : expression_size e < n = omega (arith, le) in z) 0).at place next)) }
    indexed (layer.Bare e) le = record { at = λ place next. leads_before _ _ ((b.values e (let z : expression_size e < n = omega (arith, le) in z) 0).at place next) }

    spot : (x : Spot-F Arg Cond Expr Spot Ref) → spot_size_layer x ≤ n → Leading (spot_layer s x)
    spot x le = named s.layout (word_item s x) (word_layer s x) {p = indexed_layer s x} (indexed x le)

    condition : (x : Cond-F Arg Cond Expr Spot Ref) → condition_size_layer x ≤ n → (when : Bool) (mark : ℕ) → Leading (condition_layer s x when mark)
    condition (layer.Cmp op a d) le when mark = record { at = λ place next. leads_before _ _ ((b.values a (let z : expression_size a < n = omega (arith, le) in z) (max (value_of s a).natural (value_of s d).natural)).at place next) }
    condition (layer.And a d) le when mark =
        ended (λ end. followed_by (condition_piece s a false (pick_mark when end mark)) (condition_piece s d when mark))
        (λ k. record { at = λ place next. leads_before _ _ ((b.conditions a (let z : condition_size a < n = omega (arith, le) in z) false (pick_mark when k mark)).at place next) })
    condition (layer.Or a d) le when mark =
        ended (λ end. followed_by (condition_piece s a true (pick_mark when mark end)) (condition_piece s d when mark))
        (λ k. record { at = λ place next. leads_before _ _ ((b.conditions a (let z : condition_size a < n = omega (arith, le) in z) true (pick_mark when mark k)).at place next) })

    argument : (x : Arg-F Arg Cond Expr Spot Ref) → argument_size_layer x ≤ n → Leading (argument_layer s x)
    argument (layer.Value e f) le = record { at = λ place next. leads_before _ _ ((b.values e (let z : expression_size e < n = omega (arith, le) in z) f).at place next) }
    argument (layer.Place r) le = record { at = λ place next. leads_before _ _ ((b.references r (let z : reference_size r < n = omega (arith, le) in z)).at place next) }
    argument (layer.Array i l) le = item s.layout i 0 (order.IndexLess l s.line ∷ order.Save ∷ [])
    argument (layer.Same i) le = item s.layout i 0 (order.Load ∷ order.Save ∷ [])
    argument (layer.Base i) le = item s.layout i 0 (order.Save ∷ [])
    argument (layer.Goal g) le = leading (label_order s g) [] (label_leads s g)
    argument _ le = record { at = λ place next. tt }

    computed : (x : Expr-F Arg Cond Expr Spot Ref) → expression_size_layer x ≤ n → (f : ℕ) → Leading ((computed_layer s x).at f)
    computed (layer.Num k) le f = record { at = λ place next. tt }
    computed (layer.Const z) le f = record { at = λ place next. tt }
    computed (layer.Text i) le f = item s.layout i 0 _
    computed (layer.Read r) le f = record { at = λ place next. leads_before _ _ ((b.references r (let z : reference_size r < n = omega (arith, le) in z)).at place next) }
    computed (layer.Call t []) le f = behind (leading (call_order s t) _ (call_leads s t))
    computed (layer.Call t (a ∷ args)) le f = record { at = λ place next. leads_before _ _ (leads_before _ _ ((b.arguments a (let z : argument_size a < n = omega (arith, le) in z)).at place next)) }
    computed (layer.Force g e) le f = record { at = λ place next. leads_before _ _ ((b.values e (let z : expression_size e < n = omega (arith, le) in z) g).at place next) }
    computed (layer.Locate r) le f = record { at = λ place next. leads_before _ _ ((b.references r (let z : reference_size r < n = omega (arith, le) in z)).at place next) }
    computed (layer.Bits t d e) le f = record { at = λ place next. leads_before _ _ ((b.values e (let z : expression_size e < n = omega (arith, le) in z) (value_of s e).operand).at place next) }
    computed (layer.Logic op a d) le f = record { at = λ place next. leads_before _ _ ((b.values a (let z : expression_size a < n = omega (arith, le) in z) (value_of s a).operand).at place next) }
    computed (layer.Sum a d) le f = record { at = λ place next. leads_before _ _ ((b.values a (let z : expression_size a < n = omega (arith, le) in z) f).at place next) }
    computed (layer.Less a d) le f = record { at = λ place next. leads_before _ _ ((b.values a (let z : expression_size a < n = omega (arith, le) in z) f).at place next) }
    computed (layer.Minus a) le f = record { at = λ place next. leads_before _ _ ((b.values a (let z : expression_size a < n = omega (arith, le) in z) f).at place next) }
    computed (layer.Times a d) le f = record { at = λ place next. leads_before _ _ ((b.values a (let z : expression_size a < n = omega (arith, le) in z) (value_of s a).operand).at place next) }
    computed (layer.Over a d) le f = record { at = λ place next. leads_before _ _ ((b.values a (let z : expression_size a < n = omega (arith, le) in z) (value_of s a).operand).at place next) }
    computed (layer.Choice k a d) le f =
        chosen (condition_piece s k) (λ end. order.Jump end ∷ []) (expression_piece s a f) (expression_piece s d f) (λ m. b.conditions k (let z : condition_size k < n = omega (arith, le) in z) false m)

    value : (x : Expr-F Arg Cond Expr Spot Ref) → expression_size_layer x ≤ n → (f : ℕ) → Leading ((value_layer s x).at f)
    value x le f = known (known_layer s x f) {p = (computed_layer s x).at f} (computed x le f)

    layered : Layered s Leading n
    layered = record { value = value; condition = condition; argument = argument; spot = spot }

  pub value_leads : (e : Expr) (f : ℕ) → Leading (expression_piece s e f)
  value_leads = of_value s Leading layered

  pub condition_leads : (d : Cond) (when : Bool) (mark : ℕ) → Leading (condition_piece s d when mark)
  condition_leads = of_condition s Leading layered

  reference_leads : (r : Ref) → Leading (reference_of s r).address
  reference_leads = of_reference s Leading layered

  argument_leads : (a : Arg) → Leading (argument_piece s a)
  argument_leads = of_argument s Leading layered

  -- ---- statements behind their Start

  pub call_statement_leads : (t : Target) (args : List Arg) (os : List Order) → Leading (followed_by (sequence (map (argument_piece s) args)) (plain (call_order s t ∷ os)))
  call_statement_leads t [] os = behind (leading (call_order s t) os (call_leads s t))
  call_statement_leads t (a ∷ args) os = record { at = λ place next. leads_before _ _ (leads_before _ _ ((argument_leads a).at place next)) }

  goal_leads : (who : Option ℕ) (g : Goal) → BeginsStatement (goal_order s.unit who g)
  goal_leads who (goal.Own l) = own_order-is BeginsStatement who (slice_get s.unit.labels l) (label_mark s.unit l) tt tt
  goal_leads who (goal.Common d) = tt

  pub jump_leads : (who : Option ℕ) (d : Dest) → Leading (jump_piece s who d)
  jump_leads who (dest.Goal g) = leading (goal_order s.unit who g) [] (goal_leads who g)
  jump_leads who (dest.Special k) = record { at = λ place next. tt }
  jump_leads who (dest.Switch n e) = record { at = λ place next. leads_before _ _ ((value_leads e 0).at place next) }
  jump_leads who (dest.CommonSwitch d e) = record { at = λ place next. leads_before _ _ ((value_leads e 0).at place next) }
  jump_leads who (dest.SpecialSwitch k e) = record { at = λ place next. leads_before _ _ ((value_leads e 0).at place next) }

  -- a FOR begins with the address of its variable, or of a word of its own
  pub loop_leads : (x : Option SimpleStep) (i : ℕ) (r : Ref) (es : List Felem) (body : Piece) → Leading (begun_loop s x i r es body)
  loop_leads None i r es body = record { at = λ place next. leads_before _ _ ((reference_leads r).at place next) }
  loop_leads (Some x) i r es body =
      let first = λ (end : ℕ). plain (simple_beginning s.layout i x end) in
      let second = λ (start : ℕ). followed_by body (plain (order.NextStep (loop_place s.layout i) s.line start ∷ [])) in
      ended (λ end. with_middle (λ start. first end) second) (λ end. middle (λ start. first end) second (λ start. item s.layout x.variable 0 _))
