-- The single orders of expressions have code.
use Rattle.std.proofs.Common.{◌≡◌, ℕ, zero, suc, ◌+◌, ◌%◌, ◌<◌, ◌≤◌, ◌==◌, ◌&&◌, nat_le, nat_lt, if◌then◌else◌, ℤ, pos, negsuc, ◌-ℤ◌, List, [], ◌∷◌, ◌++◌, length, Bool, true, false, IsTrue, not, Option, Some, None, slice_get, slice_index_or, refl, arith}
use Rattle.std.proofs.lemmas.Bool.{leb-true}
use Rattle.std.proofs.lemmas.Bool.Decides.{nat_tests}
use Rattle.std.proofs.lemmas.Int.{ints}
use Rattle.std.specs.List.{list_all}
use Rattle.cw_word.specs.FixedPoint.{fits_word}
use Rattle.cw_order.specs.declared.order.Order.{Order}
use Rattle.cw_order.specs.declared.order.Order.TheVariants as order
use Rattle.cw_order.specs.OrderLines.{line_of}
use Rattle.cw_unit.specs.declared.layout.Layout.{Layout}
use Rattle.cw_unit.specs.declared.layout.Family.{Family}
use Rattle.cw_unit.specs.declared.layout.Sort.{Sort}
use Rattle.cw_unit.specs.declared.layout.Sort.TheVariants as sort
use Rattle.cw_unit.specs.declared.unit.Field.{Field}
use Rattle.cw_unit.specs.declared.unit.LogicOp.{LogicOp}
use Rattle.cw_unit.specs.declared.unit.LogicOp.TheVariants as logic
use Rattle.cw_unit.specs.declared.unit.Param.{Param}
use Rattle.cw_unit.specs.declared.unit.Param.TheVariants as param
use Rattle.cw_unit.specs.declared.unit.Target.{Target}
use Rattle.cw_unit.specs.declared.unit.Target.TheVariants as target
use Rattle.cw_unit.specs.declared.unit.Goal.{Goal}
use Rattle.cw_unit.specs.declared.unit.Goal.TheVariants as goal
use Rattle.cw_gen_expr.specs.ReferenceExpressions.{Scope, argument_words, parameter_words, control_place, control_place_from, placed_by, placed_in, item_order, row_order, table_orders, bounds_orders, load_orders, store_orders, rescale_orders, logic_order, narrow, call_order, label_order}
use Rattle.cw_built.specs.Coded.{has_numbers, has_code}
use Rattle.cw_writable.specs.Coded.RangedExpressions.{is_field, are_bounds, can_divide}
use Rattle.cw_writable.specs.Coded.RangedUnits.{is_line}
use Rattle.cw_writable.proofs.Coded.Fine.{both, parts, passed}

pub le_true : (a b : ℕ) → a ≤ b → IsTrue (nat_le a b)
le_true a b h = grind (arith, nat_tests)

pub lt_true : (a b : ℕ) → a < b → IsTrue (nat_lt a b)
lt_true a b h = grind (arith, nat_tests)

-- ---- numbers and lines

-- an order whose numbers are in range and whose line is a word
pub lined : (o : Order) → IsTrue (has_numbers o) → IsTrue (is_line (line_of o)) → IsTrue (has_code o)
lined o h k = both (has_numbers o) (is_line (line_of o)) h k

pub row-lined : (inside : Bool) (lower second : ℤ) (width span line : ℕ) → IsTrue (fits_word lower && (fits_word second && nat_le width 32768)) → IsTrue (is_line line) → IsTrue (has_code (row_order inside lower second width span line))
row-lined true lower second width span line h k = lined (order.ElementInside lower second width span) h refl
row-lined false lower second width span line h k = lined (order.ElementOfTwo lower second width line) h k

pub first : (o : Order) (os : List Order) → IsTrue (has_code o) → IsTrue (list_all has_code os) → IsTrue (list_all has_code (o ∷ os))
first o os h k = both (has_code o) (list_all has_code os) h k

pub first_by : (o : Order) (os : List Order) → IsTrue (has_numbers o) → IsTrue (is_line (line_of o)) → IsTrue (list_all has_code os) → IsTrue (list_all has_code (o ∷ os))
first_by o os h l k = first o os (lined o h l) k

-- ---- items

word-small : (n : ℕ) → IsTrue (nat_lt (n % 65536) 65536)
word-small n = let lt : n % 65536 < 65536 = omega arith in lt_true (n % 65536) 65536 lt

pub item-coded : (y : Layout) (i n : ℕ) → IsTrue (has_code (item_order y i n))
item-coded y i n = at_family (slice_get y.families (slice_index_or y.homes i (0, 0)).0) (slice_index_or y.homes i (0, 0)).0 ((slice_index_or y.homes i (0, 0)).1 + n)
  where
    at_sort : (k : Sort) (f o : ℕ) → IsTrue (has_code (placed_by k f o))
    at_sort (sort.Frame base) f o = lined (order.FrameHome ((base + o) % 65536)) (word-small (base + o)) refl
    at_sort (sort.Common d) f o = refl
    at_sort sort.Own f o = refl
    at_sort (sort.Absolute a) f o = refl

    at_family : (x : Option Family) (f o : ℕ) → IsTrue (has_code (placed_in x f o))
    at_family None f o = refl
    at_family (Some x) f o = at_sort x.sort f o

pub item-first : (y : Layout) (i n : ℕ) (os : List Order) → IsTrue (list_all has_code os) → IsTrue (list_all has_code (item_order y i n ∷ os))
item-first y i n os h = first (item_order y i n) os (item-coded y i n) h

table-coded : (y : Layout) (t : Bool) (i : ℕ) → IsTrue (list_all has_code (table_orders y t i))
table-coded y true i = item-first y i 0 (order.Load ∷ []) refl
table-coded y false i = item-first y i 0 [] refl

-- one order behind a saved index and the address of an item, or a table
pub saved-item : (y : Layout) (i : ℕ) (o : Order) → IsTrue (has_code o) → IsTrue (list_all has_code (order.Save ∷ item_order y i 0 ∷ o ∷ []))
saved-item y i o h = first order.Save (item_order y i 0 ∷ o ∷ []) refl (item-first y i 0 (o ∷ []) (first o [] h refl))

pub saved-table : (y : Layout) (t : Bool) (i : ℕ) (o : Order) → IsTrue (has_code o) → IsTrue (list_all has_code (order.Save ∷ (table_orders y t i ++ o ∷ [])))
saved-table y t i o h = first order.Save (table_orders y t i ++ o ∷ []) refl (passed (table_orders y t i) (o ∷ []) (table-coded y t i) (first o [] h refl))

-- ---- parts, bounds and scales

pub bounds-coded : (c : Bool) (line : ℕ) → IsTrue (is_line line) → (l h : ℤ) → IsTrue (are_bounds l h) → IsTrue (list_all has_code (bounds_orders c line l h))
bounds-coded true line k l h p = first_by (order.InBounds l h line) [] p k refl
bounds-coded false line k l h p = refl

pub load-coded : (o : Option Field) → IsTrue (is_field o) → IsTrue (list_all has_code (load_orders o))
load-coded None h = refl
load-coded (Some s) h = first_by (order.LoadPart s.t s.b (not s.unsigned)) [] h refl refl

pub store-coded : (o : Option Field) → IsTrue (is_field o) → IsTrue (list_all has_code (store_orders o))
store-coded None h = refl
store-coded (Some s) h = first_by (order.StorePart s.t s.b) [] h refl refl

pub rescale-coded : (line : ℕ) → IsTrue (is_line line) → (from to : ℕ) → from ≤ 15 → to ≤ 15 → IsTrue (list_all has_code (rescale_orders line from to))
rescale-coded line l from to h k = picked (from == to)
  where
    picked : (b : Bool) → IsTrue (list_all has_code (if b then [] else (order.Rescale from to line ∷ [])))
    picked true = refl
    picked false = first_by (order.Rescale from to line) [] (both (nat_le from 15) (nat_le to 15) (le_true from 15 h) (le_true to 15 k)) l refl

pub logic-coded : (op : LogicOp) → IsTrue (has_code (logic_order op))
logic-coded logic.Mask = refl
logic-coded logic.Union = refl
logic-coded logic.Differ = refl

-- ---- products and quotients

-- a number, or none in its place
either-way : (P : ℤ → Type 0) (z : ℤ) → P z → P (pos 0) → (b : Bool) → P (if b then z else pos 0)
either-way P z h none true = h
either-way P z h none false = none

module _ (line : ℕ) where
  product : (z : ℤ) → IsTrue (has_numbers (order.Mul z line)) → (b : Bool) → IsTrue (has_numbers (order.Mul (if b then z else pos 0) line))
  product z h = either-way (λ z. IsTrue (has_numbers (order.Mul z line))) z h refl

  product-by : (z : ℤ) (f g : ℕ) → pos f -ℤ pos g ≡ z → f ≤ 15 → g ≤ 30 → IsTrue (has_numbers (order.Mul (narrow z) line))
  product-by (pos n) f g e hf hg = product (pos n) (le_true n 15 (let z : n ≤ 15 = omega (arith, ints, e, hf, hg) in z)) (nat_lt n 128)
  product-by (negsuc n) f g e hf hg = product (negsuc n) (lt_true n 30 (let z : n < 30 = omega (arith, ints, e, hf, hg) in z)) (nat_lt n 128)

  pub product-coded : (f a b : ℕ) → f ≤ 15 → a ≤ 15 → b ≤ 15 → IsTrue (has_numbers (order.Mul (narrow (pos f -ℤ pos (a + b))) line))
  product-coded f a b hf ha hb = product-by (pos f -ℤ pos (a + b)) f (a + b) refl hf (let z : a + b ≤ 30 = omega (arith, ha, hb) in z)

  quotient : (z : ℤ) → IsTrue (has_numbers (order.Div z line)) → (b : Bool) → IsTrue (has_numbers (order.Div (if b then z else pos 0) line))
  quotient z h = either-way (λ z. IsTrue (has_numbers (order.Div z line))) z h refl

  quotient-by : (z : ℤ) (f g : ℕ) → pos f -ℤ pos g ≡ z → g ≤ f + 15 → f ≤ g + 16 → IsTrue (has_numbers (order.Div (narrow z) line))
  quotient-by (pos n) f g e hf hg = quotient (pos n) (le_true n 16 (let z : n ≤ 16 = omega (arith, ints, e, hf, hg) in z)) (nat_lt n 128)
  quotient-by (negsuc n) f g e hf hg = quotient (negsuc n) (lt_true n 15 (let z : n < 15 = omega (arith, ints, e, hf, hg) in z)) (nat_lt n 128)

  pub quotient-coded : (f a b : ℕ) → IsTrue (can_divide f a b) → IsTrue (has_numbers (order.Div (narrow (pos (f + b) -ℤ pos a)) line))
  quotient-coded f a b h =
      let p = parts (nat_le a (f + b + 15)) (nat_le (f + b) (a + 16)) h in
      quotient-by (pos (f + b) -ℤ pos a) (f + b) a refl (leb-true a (f + b + 15) p.0) (leb-true (f + b) (a + 16) p.1)

pub index-fits : (m : ℕ) → m ≤ 32768 → IsTrue (are_bounds (pos 0) (pos m -ℤ pos 1))
index-fits m h = by_case (pos m -ℤ pos 1) refl
  where
    by_case : (z : ℤ) → pos m -ℤ pos 1 ≡ z → IsTrue (fits_word z)
    by_case (pos n) e = lt_true n 32768 (let z : n < 32768 = omega (arith, ints, e, h) in z)
    by_case (negsuc n) e = lt_true n 32768 (let z : n < 32768 = omega (arith, ints, e, h) in z)

-- ---- control parameters

from-place : (q : Param) (k rest : ℕ) (f : ℕ → ℕ) → ((j : ℕ) → f j ≤ rest) → control_place_from q k rest f ≤ rest
from-place (param.Value i s) k rest f h = h k
from-place (param.Location i s) k rest f h = h k
from-place (param.Array i s) k rest f h = h k
from-place (param.Table i n) k rest f h = h k
from-place (param.Label j) zero rest f h = omega arith
from-place (param.Label j) (suc k) rest f h = h k
from-place (param.Switch j) zero rest f h = omega arith
from-place (param.Switch j) (suc k) rest f h = h k
from-place (param.Proc j s) zero rest f h = omega arith
from-place (param.Proc j s) (suc k) rest f h = h k

control-within : (ps : List Param) (k : ℕ) → control_place ps k ≤ argument_words ps
control-within [] k = omega arith
control-within (q ∷ qs) k =
    let le = from-place q k (argument_words qs) (control_place qs) (λ j. control-within qs j) in
    let z : control_place_from q k (argument_words qs) (control_place qs) ≤ parameter_words q + argument_words qs = omega (arith, le) in z

pub control-coded : (ps : List Param) (k : ℕ) → argument_words ps < 256 → IsTrue (nat_lt (control_place ps k) 256)
control-coded ps k h = let le = control-within ps k in lt_true (control_place ps k) 256 (let z : control_place ps k < 256 = omega (arith, le, h) in z)

two-words : (q : Param) → parameter_words q ≤ 2
two-words (param.Value i s) = omega arith
two-words _ = omega arith

words-within : (ps : List Param) → argument_words ps ≤ length ps + length ps
words-within [] = omega arith
words-within (q ∷ qs) = let a = two-words q in let b = words-within qs in let z : parameter_words q + argument_words qs ≤ suc (length qs) + suc (length qs) = omega (arith, a, b) in z

pub few-words : (ps : List Param) → length ps ≤ 32 → argument_words ps < 256
few-words ps h = let w = words-within ps in omega (arith, w, h)

pub call-coded : (s : Scope) (t : Target) → argument_words s.parameters < 256 → IsTrue (is_line s.line) → IsTrue (has_code (call_order s t))
call-coded s (target.Own q) h l = lined (order.CallProc q s.line) refl l
call-coded s (target.Common d) h l = lined (order.CallCommon d s.line) refl l
call-coded s (target.Special k f) h l = lined (order.CallSpecial (control_place s.parameters k) s.line) (control-coded s.parameters k h) l
call-coded s target.Read h l = refl
call-coded s target.Write h l = refl

pub label-coded : (s : Scope) (g : Goal) → IsTrue (has_code (label_order s g))
label-coded s (goal.Own l) = refl
label-coded s (goal.Common d) = refl
