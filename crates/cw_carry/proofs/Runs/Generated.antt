-- What holds of the orders of every expression, condition, reference and argument: a property of lists of orders that joined lists keep,
-- and that plain orders, constants that are words, the orders of references and statements behind their Start have.
use Rattle.std.proofs.Common.{ℕ, suc, ◌+◌, ◌%◌, ◌<◌, ◌≤◌, ℤ, pos, ◌-ℤ◌, max, List, [], ◌∷◌, ◌++◌, map, length, Bool, true, false, Option, Some, None, arith}
use Rattle.std.specs.Prelude.{◌==◌, if◌then◌else◌}
use Rattle.cw_unit.specs.declared.layout.Layout.{Layout}
use Rattle.cw_unit.specs.declared.layout.Sort.{Sort}
use Rattle.cw_unit.specs.declared.layout.Sort.TheVariants as sort
use Rattle.cw_unit.specs.declared.unit.Field.{Field}
use Rattle.cw_unit.specs.declared.unit.LogicOp.{LogicOp}
use Rattle.cw_unit.specs.declared.unit.LogicOp.TheVariants as logic
use Rattle.cw_unit.specs.declared.unit.Target.{Target}
use Rattle.cw_unit.specs.declared.unit.Goal.{Goal}
use Rattle.cw_unit.specs.declared.unit.Goal.TheVariants as goal
use Rattle.cw_unit.specs.declared.unit.Arg.{Arg}
use Rattle.cw_unit.specs.declared.unit.Cond.{Cond}
use Rattle.cw_unit.specs.declared.unit.Spot.{Spot, map-Spot}
use Rattle.cw_unit.specs.declared.unit.Ref.{Ref}
use Rattle.cw_unit.specs.declared.unit.Expr.{Expr, Expr-F}
use Rattle.cw_unit.specs.declared.unit.Arg.TheOpen as layer
use Rattle.cw_unit.specs.declared.unit.Arg.TheOpen.{Arg-F, Cond-F, Spot-F}
use Rattle.cw_word.specs.Decimal.{decimal_floor}
use Rattle.cw_word.specs.Word.{unsigned}
use Rattle.cw_unit.specs.Scales.{answer_scale}
use Rattle.cw_order.specs.declared.order.Order.{Order}
use Rattle.cw_order.specs.declared.order.Order.TheVariants as order
use Rattle.cw_gen_expr.specs.Pieces.{Piece, plain, followed_by, sequence, with_end}
use Rattle.cw_gen_unit.specs.ReferenceStatements.{parted_piece}
use Rattle.cw_gen_expr.specs.ReferenceExpressions.{Scope, Value, Reference, ConditionPiece, saved, two_values, placed_by, item_order, form_orders, bounds_orders, load_orders, rescale_orders, logic_order, number_order, narrow, comparator_for, call_order, label_order, pick_mark, index_piece, indexed_piece, known_or, named_or, known_item, known_word, value_of, condition_piece, argument_piece, reference_of, spot_piece, expression_piece}
use Rattle.cw_gen_expr.proofs.Layers.{value_layer, computed_layer, known_layer, argument_layer, spot_layer, condition_layer, total, expression_size, expression_size_layer, argument_size, argument_size_layer, spot_size_layer, reference_size, condition_size, condition_size_layer}
use Rattle.cw_carry.proofs.Runs.Leading.{Leads, item_holds}
use Rattle.cw_unit.specs.declared.unit.Target.TheVariants as target
use Rattle.cw_carry.proofs.Runs.Induction.{Below, Layered, below, of_value, of_condition, of_reference}

-- ---- properties of lists

-- an order that is no constant, counts on nothing before it and begins no statement
abbrev pub IsPlain : Order → Type 0
IsPlain (order.Const w) = ⊥
IsPlain (order.Start line) = ⊥
IsPlain (order.Element lower span line) = ⊥
IsPlain (order.ElementInside lower second width span) = ⊥
IsPlain (order.Entry width word span line) = ⊥
IsPlain _ = Unit {0}

abbrev pub ArePlain : List Order → Type 0
ArePlain [] = Unit {0}
ArePlain (o ∷ os) = IsPlain o × ArePlain os

pub record ListProperty (y : Layout) : Type 1 where
  pub holds : List Order → Type 0
  pub none : holds []
  pub joined : (a b : List Order) → holds a → holds b → holds (a ++ b)
  pub alone : (o : Order) → IsPlain o → holds (o ∷ [])
  pub constant : (w : ℕ) → w < 65536 → holds (order.Const w ∷ [])
  pub begun : (line : ℕ) (b : List Order) → Leads b → holds b → holds (order.Start line ∷ b)
  pub formed : (compared : Bool) (line : ℕ) (x : Spot-F Piece ConditionPiece Value Piece Reference) → holds (form_orders y compared line x)

-- it holds of the orders of a piece
pub record Holds {y : Layout} (c : ListProperty y) (p : Piece) : Type 0 where
  pub at : (place next : ℕ) → c.holds (p place next).orders

module _ {y : Layout} (c : ListProperty y) where
  listed : (os : List Order) → ArePlain os → c.holds os
  listed [] h = c.none
  listed (o ∷ os) h = c.joined (o ∷ []) os (c.alone o h.0) (listed os h.1)

  pub lists : (os : List Order) → ArePlain os → Holds c (plain os)
  lists os h = record { at = λ place next. listed os h }

  pub constant_first : (n : ℕ) (os : List Order) → ArePlain os → Holds c (plain (number_order n ∷ os))
  constant_first n os h = let z : n % 65536 < 65536 = omega arith in record { at = λ place next. c.joined (number_order n ∷ []) os (c.constant (n % 65536) z) (listed os h) }

  pub both : {p q : Piece} → Holds c p → Holds c q → Holds c (followed_by p q)
  both {p} {q} a b = record {
    at = λ place next. let x = p place next in c.joined x.orders (q (place + length x.orders) (next + length x.marks)).orders (a.at place next) (b.at (place + length x.orders) (next + length x.marks));
  }

  pub ended : (p : ℕ → Piece) → ((k : ℕ) → Holds c (p k)) → Holds c (with_end p)
  ended p a = record { at = λ place next. c.joined (p next place (next + 1)).orders (order.Mark ∷ []) ((a next).at place (next + 1)) (c.alone order.Mark tt) }

  -- a constant, or the order of a word that is known, in place of a piece
  pub known : (k : Option ℤ) {p : Piece} → Holds c p → Holds c (known_or k p)
  known (Some z) h = constant_first (unsigned z) [] tt
  known None h = h

  pub saves : Holds c saved
  saves = lists (order.Save ∷ []) (tt, tt)

  -- one of two by a condition
  pub chosen : (d : ConditionPiece) (between : ℕ → List Order) (p q : Piece) → ((mark : ℕ) → Holds c (d false mark)) → ((end : ℕ) → ArePlain (between end)) → Holds c p → Holds c q → Holds c (parted_piece d between p q)
  chosen d between p q x h a b =
      let first = λ (k m : ℕ). followed_by (d false m) (followed_by p (plain (between k))) in
      ended (λ k. followed_by (with_end (first k)) q) (λ k. both (ended (first k) (λ m. both (x m) (both a (lists (between k) (h k))))) b)

-- ---- orders of items and operations

sort_plain : (x : Sort) (f o : ℕ) → IsPlain (placed_by x f o)
sort_plain (sort.Common d) f o = tt
sort_plain _ f o = tt

pub item_plain : (y : Layout) (i n : ℕ) → IsPlain (item_order y i n)
item_plain = item_holds IsPlain sort_plain (λ f o. tt)

pub named : {y : Layout} (c : ListProperty y) (i : ℕ) (w : Option ℕ) {p : Piece} → Holds c p → Holds c (named_or y i w p)
named {y} c i (Some n) h = lists c (item_order y i n ∷ []) (item_plain y i n, tt)
named c i None h = h

rescale_by : (b : Bool) (line from to : ℕ) → ArePlain (if b then [] else (order.Rescale from to line ∷ []))
rescale_by true line from to = tt
rescale_by false line from to = (tt, tt)

rescale_plain : (line from to : ℕ) → ArePlain (rescale_orders line from to)
rescale_plain line from to = rescale_by (from == to) line from to

load_plain : (x : Option Field) (os : List Order) → ArePlain os → ArePlain (load_orders x ++ os)
load_plain None os h = (tt, h)
load_plain (Some x) os h = (tt, h)

logic_plain : (op : LogicOp) → IsPlain (logic_order op)
logic_plain logic.Mask = tt
logic_plain _ = tt

bounds_plain : (b : Bool) (line : ℕ) (l u : ℤ) → ArePlain (bounds_orders b line l u)
bounds_plain true line l u = (tt, tt)
bounds_plain false line l u = tt

module _ (s : Scope) where
  pub call_plain : (t : Target) → IsPlain (call_order s t)
  call_plain (target.Own q) = tt
  call_plain _ = tt

  label_plain : (g : Goal) → IsPlain (label_order s g)
  label_plain (goal.Own l) = tt
  label_plain (goal.Common d) = tt

-- ---- trees

module _ (s : Scope) (c : ListProperty s.layout) where
  module _ (n : ℕ) (b : Below s (Holds c) n) where
    bounded : (e : Expr) (l u : ℤ) → expression_size e < n → Holds c (followed_by (expression_piece s e 0) (plain (bounds_orders s.unit.bounds s.line l u)))
    bounded e l u lt = both c (b.values e lt 0) (lists c (bounds_orders s.unit.bounds s.line l u) (bounds_plain s.unit.bounds s.line l u))

    abbrev pieces : Spot-F Arg Cond Expr Spot Ref → Spot-F Piece ConditionPiece Value Piece Reference
    pieces x = map-Spot Arg Cond Expr Spot Ref Piece ConditionPiece Value Piece Reference (argument_piece s) (condition_piece s) (value_of s) (spot_piece s) (reference_of s) x

    indexes : (x : Spot-F Arg Cond Expr Spot Ref) → spot_size_layer x ≤ n → Holds c (index_piece s (pieces x))
    indexes (layer.Direct i) le = lists c [] tt
    indexes (layer.Through i) le = lists c [] tt
    indexes (layer.One i l u e) le = bounded e l u (let z : expression_size e < n = omega (arith, le) in z)
    indexes (layer.Two i l1 u1 l2 u2 m e g) le =
        both c (bounded e l1 u1 (let z : expression_size e < n = omega (arith, le) in z)) (both c (saves c) (bounded g l2 u2 (let z : expression_size g < n = omega (arith, le) in z)))
    indexes (layer.ParamArray i e) le = b.values e (let z : expression_size e < n = omega (arith, le) in z) 0
    indexes (layer.Word i t m e) le = bounded e (pos 0) (pos m -ℤ pos 1) (let z : expression_size e < n = omega (arith, le) in z)
    indexes (layer.Elem i t k m q e) le = bounded e (pos 0) (pos m -ℤ pos 1) (let z : expression_size e < n = omega (arith, le) in z)
    indexes (layer.Bare e) le = b.values e (let z : expression_size e < n = omega (arith, le) in z) 0

    spot : (x : Spot-F Arg Cond Expr Spot Ref) → spot_size_layer x ≤ n → Holds c (spot_layer s x)
    spot x le =
        named c (known_item s (pieces x)) (known_word s (pieces x)) {p = indexed_piece s (pieces x)}
        (both c {p = index_piece s (pieces x)} {q = plain (form_orders s.layout s.unit.bounds s.line (pieces x))} (indexes x le) (record { at = λ place next. c.formed s.unit.bounds s.line (pieces x) }))

    -- two values, and orders behind them
    two : {p q : Piece} → Holds c p → Holds c q → (os : List Order) → ArePlain os → Holds c (two_values p q os)
    two x z os h = both c x (both c (saves c) (both c z (lists c os h)))

    condition : (x : Cond-F Arg Cond Expr Spot Ref) → condition_size_layer x ≤ n → (when : Bool) (mark : ℕ) → Holds c (condition_layer s x when mark)
    condition (layer.Cmp op a d) le when mark =
        let f = max (value_of s a).natural (value_of s d).natural in
        two (b.values a (let z : expression_size a < n = omega (arith, le) in z) f) (b.values d (let z : expression_size d < n = omega (arith, le) in z) f) (order.JumpIf (comparator_for when op) mark ∷ []) (tt, tt)
    condition (layer.And a d) le when mark =
        ended c (λ end. followed_by (condition_piece s a false (pick_mark when end mark)) (condition_piece s d when mark))
        (λ k. both c (b.conditions a (let z : condition_size a < n = omega (arith, le) in z) false (pick_mark when k mark)) (b.conditions d (let z : condition_size d < n = omega (arith, le) in z) when mark))
    condition (layer.Or a d) le when mark =
        ended c (λ end. followed_by (condition_piece s a true (pick_mark when mark end)) (condition_piece s d when mark))
        (λ k. both c (b.conditions a (let z : condition_size a < n = omega (arith, le) in z) true (pick_mark when mark k)) (b.conditions d (let z : condition_size d < n = omega (arith, le) in z) when mark))

    argument : (x : Arg-F Arg Cond Expr Spot Ref) → argument_size_layer x ≤ n → Holds c (argument_layer s x)
    argument (layer.Value e f) le = both c (b.values e (let z : expression_size e < n = omega (arith, le) in z) f) (saves c)
    argument (layer.Place r) le = both c (b.references r (let z : reference_size r < n = omega (arith, le) in z)) (saves c)
    argument (layer.Array i l) le = lists c (item_order s.layout i 0 ∷ order.IndexLess l s.line ∷ order.Save ∷ []) (item_plain s.layout i 0, (tt, (tt, tt)))
    argument (layer.Same i) le = lists c (item_order s.layout i 0 ∷ order.Load ∷ order.Save ∷ []) (item_plain s.layout i 0, (tt, (tt, tt)))
    argument (layer.Base i) le = lists c (item_order s.layout i 0 ∷ order.Save ∷ []) (item_plain s.layout i 0, (tt, tt))
    argument (layer.Goal g) le = lists c (label_order s g ∷ []) (label_plain s g, tt)
    argument _ le = lists c _ (tt, tt)

    arguments : (args : List Arg) → total (map argument_size args) < n → Holds c (sequence (map (argument_piece s) args))
    arguments [] lt = lists c [] tt
    arguments (a ∷ args) lt = both c (b.arguments a (let z : argument_size a < n = omega (arith, lt) in z)) (arguments args (let z : total (map argument_size args) < n = omega (arith, lt) in z))

    computed : (x : Expr-F Arg Cond Expr Spot Ref) → expression_size_layer x ≤ n → (f : ℕ) → Holds c ((computed_layer s x).at f)
    computed (layer.Num k) le f = constant_first c (decimal_floor k.whole k.digits k.places f) [] tt
    computed (layer.Const z) le f = constant_first c (unsigned z) (rescale_orders s.line 0 f) (rescale_plain s.line 0 f)
    computed (layer.Text i) le f = lists c (item_order s.layout i 0 ∷ rescale_orders s.line 0 f) (item_plain s.layout i 0, rescale_plain s.line 0 f)
    computed (layer.Read r) le f =
        let a = reference_of s r in
        both c (b.references r (let z : reference_size r < n = omega (arith, le) in z)) (lists c (load_orders a.field ++ rescale_orders s.line a.scale f) (load_plain a.field (rescale_orders s.line a.scale f) (rescale_plain s.line a.scale f)))
    computed (layer.Call t args) le f =
        both c (arguments args (let z : total (map argument_size args) < n = omega (arith, le) in z)) (lists c (call_order s t ∷ rescale_orders s.line (answer_scale s.unit t) f) (call_plain s t, rescale_plain s.line (answer_scale s.unit t) f))
    computed (layer.Force g e) le f = both c (b.values e (let z : expression_size e < n = omega (arith, le) in z) g) (lists c (rescale_orders s.line g f) (rescale_plain s.line g f))
    computed (layer.Locate r) le f = both c (b.references r (let z : reference_size r < n = omega (arith, le) in z)) (lists c (rescale_orders s.line 0 f) (rescale_plain s.line 0 f))
    computed (layer.Bits t d e) le f =
        both c (b.values e (let z : expression_size e < n = omega (arith, le) in z) (value_of s e).operand) (lists c (order.Take t d ∷ rescale_orders s.line 0 f) (tt, rescale_plain s.line 0 f))
    computed (layer.Logic op a d) le f =
        two (b.values a (let z : expression_size a < n = omega (arith, le) in z) (value_of s a).operand) (b.values d (let z : expression_size d < n = omega (arith, le) in z) (value_of s d).operand) (logic_order op ∷ rescale_orders s.line 0 f) (logic_plain op, rescale_plain s.line 0 f)
    computed (layer.Sum a d) le f = two (b.values a (let z : expression_size a < n = omega (arith, le) in z) f) (b.values d (let z : expression_size d < n = omega (arith, le) in z) f) (order.Add s.line ∷ []) (tt, tt)
    computed (layer.Less a d) le f = two (b.values a (let z : expression_size a < n = omega (arith, le) in z) f) (b.values d (let z : expression_size d < n = omega (arith, le) in z) f) (order.Sub s.line ∷ []) (tt, tt)
    computed (layer.Minus a) le f = both c (b.values a (let z : expression_size a < n = omega (arith, le) in z) f) (lists c (order.Neg s.line ∷ []) (tt, tt))
    computed (layer.Times a d) le f =
        let g = (value_of s a).operand in
        let h = (value_of s d).operand in
        two (b.values a (let z : expression_size a < n = omega (arith, le) in z) g) (b.values d (let z : expression_size d < n = omega (arith, le) in z) h) (order.Mul (narrow (pos f -ℤ pos (g + h))) s.line ∷ []) (tt, tt)
    computed (layer.Over a d) le f =
        let g = (value_of s a).operand in
        let h = (value_of s d).operand in
        two (b.values a (let z : expression_size a < n = omega (arith, le) in z) g) (b.values d (let z : expression_size d < n = omega (arith, le) in z) h) (order.Div (narrow (pos (f + h) -ℤ pos g)) s.line ∷ []) (tt, tt)
    computed (layer.Choice k a d) le f =
        chosen c (condition_piece s k) (λ end. order.Jump end ∷ []) (expression_piece s a f) (expression_piece s d f) (λ m. b.conditions k (let z : condition_size k < n = omega (arith, le) in z) false m) (λ end. (tt, tt)) (b.values a (let z : expression_size a < n = omega (arith, le) in z) f) (b.values d (let z : expression_size d < n = omega (arith, le) in z) f)

    value : (x : Expr-F Arg Cond Expr Spot Ref) → expression_size_layer x ≤ n → (f : ℕ) → Holds c ((value_layer s x).at f)
    value x le f = known c (known_layer s x f) {p = (computed_layer s x).at f} (computed x le f)

    layered : Layered s (Holds c) n
    layered = record { value = value; condition = condition; argument = argument; spot = spot }

  pub value_holds : (e : Expr) (f : ℕ) → Holds c (expression_piece s e f)
  value_holds = of_value s (Holds c) layered

  pub condition_holds : (d : Cond) (when : Bool) (mark : ℕ) → Holds c (condition_piece s d when mark)
  condition_holds = of_condition s (Holds c) layered

  pub reference_holds : (r : Ref) → Holds c (reference_of s r).address
  reference_holds = of_reference s (Holds c) layered

  pub arguments_hold : (args : List Arg) → Holds c (sequence (map (argument_piece s) args))
  arguments_hold args = arguments (suc (total (map argument_size args))) (below s (Holds c) layered (suc (total (map argument_size args)))) args (let z : total (map argument_size args) < suc (total (map argument_size args)) = omega arith in z)
