-- The bytes of the orders of expressions and statements, whatever their numbers.
use Rattle.std.proofs.Common.{◌≡◌, ℕ, zero, suc, ◌+◌, ◌-◌, ◌*◌, ◌%◌, ◌^◌, ◌≤◌, ◌==◌, nat_le, nat_lt, if◌then◌else◌, ℤ, pos, negsuc, List, [], ◌∷◌, ◌++◌, length, Bool, true, false, Option, Some, None, slice_get, slice_index_or, refl, ap, arith}
use Rattle.std.proofs.lemmas.Bool.{leb-true}
use Rattle.std.proofs.lemmas.Bool.Decides.{nat_tests}
use Rattle.cw_order.specs.declared.order.Order.{Order}
use Rattle.cw_order.specs.declared.order.Order.TheVariants as order
use Rattle.cw_order.specs.declared.order.Place.{Place}
use Rattle.cw_order.specs.declared.order.Place.TheVariants as cell
use Rattle.cw_unit.specs.Operation.{is_past}
use Rattle.cw_unit.specs.declared.layout.Layout.{Layout}
use Rattle.cw_unit.specs.declared.layout.Family.{Family}
use Rattle.cw_unit.specs.declared.layout.Sort.{Sort}
use Rattle.cw_unit.specs.declared.layout.Sort.TheVariants as sort
use Rattle.cw_unit.specs.declared.unit.Unit.{Unit as SourceUnit}
use Rattle.cw_unit.specs.declared.unit.Field.{Field}
use Rattle.cw_unit.specs.declared.unit.Label.{Label}
use Rattle.cw_unit.specs.declared.unit.LogicOp.{LogicOp}
use Rattle.cw_unit.specs.declared.unit.LogicOp.TheVariants as logic
use Rattle.cw_unit.specs.declared.unit.Param.{Param}
use Rattle.cw_unit.specs.declared.unit.Param.TheVariants as param
use Rattle.cw_unit.specs.declared.unit.Target.{Target}
use Rattle.cw_unit.specs.declared.unit.Target.TheVariants as target
use Rattle.cw_unit.specs.declared.unit.Goal.{Goal}
use Rattle.cw_unit.specs.declared.unit.Goal.TheVariants as goal
use Rattle.cw_gen_expr.specs.ReferenceExpressions.{Scope, argument_words, placed_by, placed_in, item_order, row_order, table_orders, bounds_orders, store_orders, rescale_orders, logic_order, number_order, call_order, control_place, label_order}
use Rattle.cw_gen_expr.specs.ReferenceEntries.{bound_by, bound_in, bound_order, parameter_orders, bind_orders}
use Rattle.cw_gen_expr.specs.UnitTables.{label_mark}
use Rattle.cw_gen_unit.specs.declared.simple.Simple.{Simple}
use Rattle.cw_gen_unit.specs.declared.simple.Simple.TheVariants as simple
use Rattle.cw_gen_unit.specs.declared.simple.SimpleStep.{SimpleStep}
use Rattle.cw_gen_unit.specs.ReferenceStatements.{after_statement_call, from_procedure, own_order, goal_order, keep_orders, number_orders, set_orders, bump_orders, value_orders, limit_orders, past_orders, turn_orders, simple_orders, simple_beginning}
use Rattle.cw_tmpl.proofs.Lengths.{frame_few, argument_few}
use Rattle.cw_tmpl.specs.Templates.{loop_ways_size}
use Rattle.cw_tmpl.specs.Sizes.{shift_size, lowest_size, part_size, times_size, width_size, bound_size, word_size, top_lower_size, times_entry_size, listed_size, sizes_behind, listed_sizes}
use Rattle.cw_word.specs.Word.{unsigned}
use Rattle.cw_order.specs.declared.order.Comparator.TheVariants as comparator
use Rattle.cw_size.proofs.Short.{word_short, one_short, all-behind, sizes-append, first_short}

-- ---- items

-- the address of a word is of one of two forms
by-form : (P : Order → Type 0) → ((f n : ℕ) → P (order.Home f n)) → ((n : ℕ) → P (order.FrameHome n)) → (y : Layout) (i n : ℕ) → P (item_order y i n)
by-form P home frame y i n = at_family (slice_get y.families (slice_index_or y.homes i (0, 0)).0) (slice_index_or y.homes i (0, 0)).0 ((slice_index_or y.homes i (0, 0)).1 + n)
  where
    at_sort : (k : Sort) (f o : ℕ) → P (placed_by k f o)
    at_sort (sort.Frame base) f o = frame ((base + o) % 65536)
    at_sort _ f o = home f (o % 65536)

    at_family : (x : Option Family) (f o : ℕ) → P (placed_in x f o)
    at_family None f o = home f (o % 65536)
    at_family (Some x) f o = at_sort x.sort f o

pub item-short : (y : Layout) (i n : ℕ) → listed_size (item_order y i n) ≤ 8
item-short = by-form (λ o. listed_size o ≤ 8) (λ f n. omega arith) (λ n. omega arith)

-- behind the address of an item, and behind its load
pub item-first : (y : Layout) (i n : ℕ) (os : List Order) (most : ℕ) → listed_sizes os ≤ most → listed_sizes (item_order y i n ∷ os) ≤ 8 + most
item-first y i n os most = first_short (item_order y i n) os 8 most (item-short y i n)

pub item-load : (y : Layout) (i n : ℕ) (os : List Order) (most : ℕ) → listed_sizes os ≤ most → listed_sizes (item_order y i n ∷ order.Load ∷ os) ≤ 7 + most
item-load y i n os most h =
    by-form (λ o. listed_sizes (o ∷ order.Load ∷ os) ≤ 7 + most)
    (λ f m.
    let behind = all-behind (Some (order.Home f m)) (Some order.Load) os in
    let z : 0 + 3 + (0 + sizes_behind (Some (order.Home f m)) (Some order.Load) os) ≤ 7 + most = omega (arith, h, behind) in
    z)
    (λ m.
    let behind = all-behind (Some (order.FrameHome m)) (Some order.Load) os in
    let z : 0 + 6 + (1 + sizes_behind (Some (order.FrameHome m)) (Some order.Load) os) ≤ 7 + most = omega (arith, h, behind) in
    z)
    y
    i
    n

-- behind the store of a saved operand there
pub item-keep : (y : Layout) (i n : ℕ) (os : List Order) (most : ℕ) → listed_sizes os ≤ most → listed_sizes (order.Save ∷ item_order y i n ∷ order.Store ∷ os) ≤ 7 + most
item-keep y i n os most h =
    by-form (λ o. listed_sizes (order.Save ∷ o ∷ order.Store ∷ os) ≤ 7 + most)
    (λ f m.
    let behind = all-behind (Some (order.Home f m)) (Some order.Store) os in
    let z : 0 + 1 + (0 + 3 + (0 + sizes_behind (Some (order.Home f m)) (Some order.Store) os)) ≤ 7 + most = omega (arith, h, behind) in
    z)
    (λ m.
    let behind = all-behind (Some (order.FrameHome m)) (Some order.Store) os in
    let z : 0 + 1 + (0 + 6 + (0 + sizes_behind (Some (order.FrameHome m)) (Some order.Store) os)) ≤ 7 + most = omega (arith, h, behind) in
    z)
    y
    i
    n

-- behind a saved operand
saved-first : (os : List Order) (most : ℕ) → listed_sizes os ≤ most → listed_sizes (order.Save ∷ os) ≤ 1 + most
saved-first os most = first_short order.Save os 1 most (let z : 1 ≤ 1 = omega arith in z)

table-short : (y : Layout) (t : Bool) (i : ℕ) → listed_sizes (table_orders y t i) ≤ 8
table-short y true i = item-load y i 0 [] 1 (let z : 0 ≤ 1 = omega arith in z)
table-short y false i = item-first y i 0 [] 0 (let z : 0 ≤ 0 = omega arith in z)

-- one order behind a saved index and the address of an item, or a table
pub saved-item : (y : Layout) (i : ℕ) (o : Order) (most : ℕ) → listed_size o ≤ most → listed_sizes (order.Save ∷ item_order y i 0 ∷ o ∷ []) ≤ 9 + most
saved-item y i o most h =
    let all = saved-first (item_order y i 0 ∷ o ∷ []) (8 + most) (item-first y i 0 (o ∷ []) most (one_short o most h)) in
    let z : listed_sizes (order.Save ∷ item_order y i 0 ∷ o ∷ []) ≤ 9 + most = omega (arith, all) in
    z

pub saved-table : (y : Layout) (t : Bool) (i : ℕ) (o : Order) (most : ℕ) → listed_size o ≤ most → listed_sizes (order.Save ∷ (table_orders y t i ++ o ∷ [])) ≤ 9 + most
saved-table y t i o most h =
    let table = table-short y t i in
    let both = sizes-append (table_orders y t i) (o ∷ []) in
    let last : listed_sizes (o ∷ []) ≤ most = one_short o most h in
    let all = saved-first (table_orders y t i ++ o ∷ []) (8 + most) (let z : listed_sizes (table_orders y t i ++ o ∷ []) ≤ 8 + most = omega (arith, table, both, last) in z) in
    let z : listed_sizes (order.Save ∷ (table_orders y t i ++ o ∷ [])) ≤ 9 + most = omega (arith, all) in
    z

-- ---- parts, bounds and products

shift-short : (places : ℕ) → shift_size places ≤ 5
shift-short zero = omega arith
shift-short (suc zero) = omega arith
shift-short (suc (suc n)) = omega arith

lowest-short : (all : Bool) → lowest_size all ≤ 3
lowest-short true = omega arith
lowest-short false = omega arith

part-short : (t b : ℕ) (is_signed : Bool) → part_size t b is_signed ≤ 10
part-short t b true =
    let up = shift-short (16 - (t + b)) in
    let down = shift-short (16 - t) in
    let z : shift_size (16 - (t + b)) + shift_size (16 - t) ≤ 10 = omega (arith, up, down) in
    z
part-short t b false =
    let down = shift-short b in
    let lowest = lowest-short (t + b == 16) in
    let z : shift_size b + lowest_size (t + b == 16) ≤ 10 = omega (arith, down, lowest) in
    z

pub take-short : (t b : ℕ) → listed_size (order.Take t b) ≤ 10
take-short t b = part-short t b false

pub load-part-short : (t b : ℕ) (is_signed : Bool) → listed_size (order.LoadPart t b is_signed) ≤ 15
load-part-short t b is_signed = let h = part-short t b is_signed in let z : 5 + part_size t b is_signed ≤ 15 = omega (arith, h) in z

pub store-part-short : (t b : ℕ) → listed_size (order.StorePart t b) ≤ 26
store-part-short t b = let h = shift-short b in let z : shift_size b + 12 ≤ 26 = omega (arith, h) in z

pub bounds-short : (c : Bool) (line : ℕ) (l h : ℤ) → listed_sizes (bounds_orders c line l h) ≤ 20
bounds-short true line (pos zero) h = omega arith
bounds-short true line (pos (suc l)) h = omega arith
bounds-short true line (negsuc l) h = omega arith
bounds-short false line l h = omega arith

pub store-short : (o : Option Field) → listed_sizes (store_orders o) ≤ 26
store-short None = omega arith
store-short (Some s) = let h = store-part-short s.t s.b in one_short (order.StorePart s.t s.b) 26 h

times-short : (n : ℕ) → times_size n ≤ 14
times-short n = picked (n == 32768)
  where
    picked : (b : Bool) → (if b then 14 else 12) ≤ 14
    picked true = omega arith
    picked false = omega arith

-- ---- elements and entries

lower-short : (lower : ℤ) → bound_size lower ≤ 10
lower-short (pos zero) = omega arith
lower-short (pos (suc n)) = omega arith
lower-short (negsuc n) = omega arith

pub element-short : (lower : ℤ) (span line : ℕ) → listed_size (order.Element lower span line) ≤ 31
element-short lower span line = let h = lower-short lower in let z : bound_size lower + 21 ≤ 31 = omega (arith, h) in z

of-two-short : (lower second : ℤ) (width line : ℕ) → listed_size (order.ElementOfTwo lower second width line) ≤ 67
of-two-short lower second width line =
    let h = lower-short lower in
    let k = lower-short second in
    let t = times-short width in
    let z : bound_size second + bound_size lower + times_size width + 33 ≤ 67 = omega (arith, h, k, t) in
    z

top-lower-short : (lower : ℤ) → top_lower_size lower ≤ 3
top-lower-short (pos zero) = omega arith
top-lower-short (pos (suc n)) = omega arith
top-lower-short (negsuc n) = omega arith

inside-short : (lower second : ℤ) (width span : ℕ) → listed_size (order.ElementInside lower second width span) ≤ 67
inside-short lower second width span =
    let h = top-lower-short lower in
    let k = top-lower-short second in
    let z : top_lower_size second + top_lower_size lower + times_entry_size width + 10 ≤ 67 = omega (arith, h, k, picked (width == 1)) in
    z
  where
    picked : (b : Bool) → (if b then 0 else 5) ≤ 5
    picked true = omega arith
    picked false = omega arith

pub row-short : (inside : Bool) (lower second : ℤ) (width span line : ℕ) → listed_size (row_order inside lower second width span line) ≤ 67
row-short true lower second width span line = inside-short lower second width span
row-short false lower second width span line = of-two-short lower second width line

width-short : (width : ℕ) → width_size width ≤ 14
width-short width = picked (width == 1)
  where
    picked : (b : Bool) → (if b then 0 else times_size width) ≤ 14
    picked true = omega arith
    picked false = times-short width

word-short : (word : ℕ) → word_size word ≤ 10
word-short zero = omega arith
word-short (suc n) = omega arith

pub entry-short : (width word span line : ℕ) → listed_size (order.Entry width word span line) ≤ 45
entry-short width word span line =
    let h = width-short width in
    let k = word-short word in
    let z : width_size width + word_size word + 21 ≤ 45 = omega (arith, h, k) in
    z

-- ---- scales

one-rescale : (line from to : ℕ) → listed_size (order.Rescale from to line) ≤ 14
one-rescale line from to = picked (nat_le from to) (times_size (2 ^ (to - from))) (times-short (2 ^ (to - from)))
  where
    picked : (b : Bool) (n : ℕ) → n ≤ 14 → (if b then n else 5) ≤ 14
    picked true n h = h
    picked false n h = omega arith

pub rescale-short : (line from to : ℕ) → listed_sizes (rescale_orders line from to) ≤ 14
rescale-short line from to = picked (from == to)
  where
    picked : (b : Bool) → listed_sizes (if b then [] else (order.Rescale from to line ∷ [])) ≤ 14
    picked true = omega arith
    picked false = let h = one-rescale line from to in one_short (order.Rescale from to line) 14 h

-- to scale 0, and to the same
pub rescale-whole : (line from : ℕ) → listed_sizes (rescale_orders line from 0) ≤ 5
rescale-whole line from = picked (from == 0) refl
  where
    by_order : (b : Bool) → nat_le from 0 ≡ b → (from == 0) ≡ false → (n : ℕ) → (if b then n else 5) ≤ 5
    by_order true e f n =
        let le : from ≤ 0 = leb-true from 0 e in
        let none : from ≡ 0 = omega (arith, le) in
        let same : (from == 0) ≡ true = ap (λ (k : ℕ). k == 0) none in
        absurd (cc)
    by_order false e f n = omega arith

    picked : (b : Bool) → (from == 0) ≡ b → listed_sizes (if b then [] else (order.Rescale from 0 line ∷ [])) ≤ 5
    picked true e = omega arith
    picked false e =
        one_short (order.Rescale from 0 line) 5 (by_order (nat_le from 0) refl e (times_size (2 ^ (0 - from))))

pub rescale-same : (line f : ℕ) → listed_sizes (rescale_orders line f f) ≤ 0
rescale-same line f = picked (f == f) (same f)
  where
    same : (k : ℕ) → (k == k) ≡ true
    same k = grind (arith, nat_tests)

    picked : (b : Bool) → b ≡ true → listed_sizes (if b then [] else (order.Rescale f f line ∷ [])) ≤ 0
    picked true e = omega arith
    picked false e = absurd (cc)

pub logic-short : (op : LogicOp) → listed_size (logic_order op) ≤ 3
logic-short logic.Mask = omega arith
logic-short _ = omega arith

pub product-short : (line : ℕ) (z : ℤ) → listed_size (order.Mul z line) ≤ 24
product-short line (pos zero) = omega arith
product-short line (pos (suc n)) = let h = times-short (2 ^ suc n) in let z : times_size (2 ^ suc n) + 10 ≤ 24 = omega (arith, h) in z
product-short line (negsuc n) = picked (nat_lt n 15)
  where
    picked : (b : Bool) → (if b then 14 else 10) ≤ 24
    picked true = omega arith
    picked false = omega arith

-- ---- calls and jumps

pub call-short : (s : Scope) (t : Target) → listed_size (call_order s t) ≤ 13
call-short s (target.Own q) = omega arith
call-short s (target.Common d) = omega arith
call-short s (target.Special k f) = omega (arith, argument_few (control_place s.parameters k))
call-short s target.Read = omega arith
call-short s target.Write = omega arith

pub after-short : (t : Target) → listed_sizes (after_statement_call t) ≤ 0
after-short (target.Own q) = omega arith
after-short _ = omega arith

-- a control parameter that is handed on, or that a jump goes to
pub hand-short : (k : ℕ) → listed_size (order.SpecialOut k) ≤ 10
hand-short k = omega (arith, argument_few (k + 1), argument_few k)

pub go-short : (k : ℕ) → listed_size (order.GoSpecial k) ≤ 17
go-short k = omega (arith, argument_few (k + 1), argument_few k)

pub through-short : (k line : ℕ) → listed_size (order.GoSwitchSpecial k line) ≤ 13
through-short k line = omega (arith, argument_few (k + 1), argument_few k)

pub label-short : (s : Scope) (g : Goal) → listed_size (label_order s g) ≤ 5
label-short s (goal.Own l) = omega arith
label-short s (goal.Common d) = omega arith

from-short : (x : Option Label) (m : ℕ) → listed_size (from_procedure x m) ≤ 15
from-short None m = omega arith
from-short (Some x) m = by_owner x.proc
  where
    by_owner : (o : Option ℕ) → listed_size (elim o [ None ↦ order.GoMain m | Some q ↦ order.Jump m ]) ≤ 15
    by_owner None = omega arith
    by_owner (Some q) = omega arith

own-short : (who : Option ℕ) (x : Option Label) (m : ℕ) → listed_size (own_order who x m) ≤ 15
own-short None x m = omega arith
own-short (Some q) x m = from-short x m

pub goal-short : (u : SourceUnit) (who : Option ℕ) (g : Goal) → listed_size (goal_order u who g) ≤ 15
goal-short u who (goal.Own l) = own-short who (slice_get u.labels l) (label_mark u l)
goal-short u who (goal.Common d) = omega arith

-- ---- FOR

pub number-short : (y : Layout) (item i : ℕ) → listed_sizes (number_orders y item i) ≤ 10
number-short y item i =
    first_short (number_order i) (keep_orders y item 3) 3 7 (word_short (i % 65536)) (item-keep y item 3 [] 0 (let z : 0 ≤ 0 = omega arith in z))

pub set-short : (y : Layout) (line item : ℕ) → listed_sizes (set_orders y line item) ≤ 15
set-short y line item =
    saved-first (item_order y item 0 ∷ order.SetVariable line ∷ []) 14 (item-first y item 0 (order.SetVariable line ∷ []) 6 (let z : 6 + 0 ≤ 6 = omega arith in z))

pub bump-short : (y : Layout) (line item : ℕ) → listed_sizes (bump_orders y line item) ≤ 14
bump-short y line item = item-first y item 0 (order.AddStep line ∷ []) 6 (let z : 6 + 0 ≤ 6 = omega arith in z)

pub turn-short : (y : Layout) (line item body mark : ℕ) → listed_sizes (item_order y item 0 ∷ order.PutVariable line ∷ order.Exhausted mark ∷ order.Jump body ∷ []) ≤ 23
turn-short y line item body mark =
    item-first y item 0 (order.PutVariable line ∷ order.Exhausted mark ∷ order.Jump body ∷ []) 15 (let z : 6 + (6 + (3 + 0)) ≤ 15 = omega arith in z)

-- the limit of the one STEP element, and its first turn
pub limited-short : (y : Layout) (line item mark : ℕ) → listed_sizes (keep_orders y item 2 ++ item_order y item 0 ∷ order.PutVariable line ∷ order.Exhausted mark ∷ []) ≤ 27
limited-short y line item mark =
    item-keep y item 2 (item_order y item 0 ∷ order.PutVariable line ∷ order.Exhausted mark ∷ []) 20
    (item-first y item 0 (order.PutVariable line ∷ order.Exhausted mark ∷ []) 12 (let z : 6 + (6 + 0) ≤ 12 = omega arith in z))

pub stepped-short : (x : Place) (line mark : ℕ) → listed_size (order.NextStep x line mark) ≤ 17
stepped-short (cell.Word family offset) line mark = omega arith
stepped-short (cell.Frame n) line mark = omega arith

pub ways-short : (ways : List ℕ) → loop_ways_size ways ≤ 20 + 2 * length ways
ways-short [] = omega arith
ways-short (m ∷ []) = omega arith
ways-short (m ∷ n ∷ ms) = omega arith

-- ---- a beginning without the library

-- orders behind others
then-short : (xs ys : List Order) (m n : ℕ) → listed_sizes xs ≤ m → listed_sizes ys ≤ n → listed_sizes (xs ++ ys) ≤ m + n
then-short xs ys m n h k = let all = sizes-append xs ys in let z : listed_sizes (xs ++ ys) ≤ m + n = omega (arith, all, h, k) in z

nothing-short : listed_sizes [] ≤ 0
nothing-short = omega arith

value-short : (y : Layout) (a : Simple) → listed_sizes (value_orders y a) ≤ 7
value-short y (simple.Number z) = let k = word_short (unsigned z % 65536) in one_short (number_order (unsigned z)) 7 (let h : listed_size (number_order (unsigned z)) ≤ 7 = omega (arith, k) in h)
value-short y (simple.Item i) = item-load y i 0 [] 0 nothing-short

limit-short : (y : Layout) (item j : ℕ) (past : Order) → listed_size past ≤ 8 → listed_sizes (limit_orders y item j past) ≤ 23
limit-short y item j past h =
    item-load y j 0 (order.Save ∷ item_order y item 2 ∷ order.Load ∷ past ∷ []) 16
    (saved-first (item_order y item 2 ∷ order.Load ∷ past ∷ []) 15 (item-load y item 2 (past ∷ []) 8 (one_short past 8 h)))

past-short : (y : Layout) (item j : ℕ) (step : ℤ) (end : ℕ) → listed_sizes (past_orders y item j step end) ≤ 23
past-short y item j (pos zero) end = omega arith
past-short y item j (pos (suc n)) end = limit-short y item j (order.JumpIf comparator.Greater end) (let z : 8 ≤ 8 = omega arith in z)
past-short y item j (negsuc n) end = limit-short y item j (order.JumpIf comparator.Less end) (let z : 8 ≤ 8 = omega arith in z)

first-turn-short : (y : Layout) (item j : ℕ) (first : Simple) (step : ℤ) (limit : Simple) (end : ℕ) → listed_sizes (turn_orders y item j first step limit end) ≤ 23
first-turn-short y item j (simple.Number a) s (simple.Number d) end = picked (is_past s a d)
  where
    picked : (b : Bool) → listed_sizes (if b then (order.Jump end ∷ []) else []) ≤ 23
    picked true = omega arith
    picked false = omega arith
first-turn-short y item j (simple.Number a) s (simple.Item i) end = past-short y item j s end
first-turn-short y item j (simple.Item i) s d end = past-short y item j s end

pub simple-short : (y : Layout) (item : ℕ) (x : SimpleStep) (end : ℕ) → listed_sizes (simple_beginning y item x end) ≤ 86
simple-short y item x end =
    let limit : List Order = value_orders y x.limit ++ keep_orders y item 2 in
    let step : List Order = number_order (unsigned x.step) ∷ (keep_orders y item 1 ++ limit) in
    let variable : List Order = keep_orders y x.variable 0 ++ step in
    let first : List Order = value_orders y x.first ++ variable in
    let number : List Order = number_orders y item 1 ++ first in
    then-short (simple_orders y item x) (turn_orders y item x.variable x.first x.step x.limit end) 63 23
    (item-first y x.variable 0 (keep_orders y item 0 ++ number) 55
    (then-short (keep_orders y item 0) number 7 48 (kept item 0)
    (then-short (number_orders y item 1) first 10 38 (number-short y item 1)
    (then-short (value_orders y x.first) variable 7 31 (value-short y x.first)
    (then-short (keep_orders y x.variable 0) step 7 24 (kept x.variable 0)
    (first_short (number_order (unsigned x.step)) (keep_orders y item 1 ++ limit) 3 21 (word_short (unsigned x.step % 65536))
    (then-short (keep_orders y item 1) limit 7 14 (kept item 1) (then-short (value_orders y x.limit) (keep_orders y item 2) 7 7 (value-short y x.limit) (kept item 2)))))))))
    (first-turn-short y item x.variable x.first x.step x.limit end)
  where
    kept : (i n : ℕ) → listed_sizes (keep_orders y i n) ≤ 7
    kept i n = item-keep y i n [] 0 nothing-short

-- ---- parameters

bound-short : (y : Layout) (k i : ℕ) → listed_size (bound_order y k i) ≤ 13
bound-short y k i = at_family (slice_get y.families (slice_index_or y.homes i (0, 0)).0) (slice_index_or y.homes i (0, 0)).0 (slice_index_or y.homes i (0, 0)).1
  where
    at_sort : (x : Sort) (f o : ℕ) → listed_size (bound_by k x f o) ≤ 13
    at_sort (sort.Frame base) f o = omega (arith, argument_few k, frame_few ((base + o) % 65536))
    at_sort _ f o = omega (arith, argument_few k)

    at_family : (x : Option Family) (f o : ℕ) → listed_size (bound_in k x f o) ≤ 13
    at_family None f o = omega (arith, argument_few k)
    at_family (Some x) f o = at_sort x.sort f o

one-bound : (y : Layout) (k i : ℕ) → listed_sizes (bound_order y k i ∷ []) ≤ 13
one-bound y k i = one_short (bound_order y k i) 13 (bound-short y k i)

parameter-short : (y : Layout) (q : Param) (k : ℕ) → listed_sizes (parameter_orders y q k) ≤ 13
parameter-short y (param.Value i s) k = one-bound y k i
parameter-short y (param.Location i s) k = one-bound y k i
parameter-short y (param.Array i s) k = one-bound y k i
parameter-short y (param.Table i n) k = one-bound y k i
parameter-short y _ k = omega arith

pub bind-short : (y : Layout) (qs : List Param) → listed_sizes (bind_orders y qs) ≤ 13 * length qs
bind-short y [] = omega arith
bind-short y (q ∷ qs) =
    let a = parameter-short y q (argument_words qs) in
    let b = bind-short y qs in
    let all = sizes-append (parameter_orders y q (argument_words qs)) (bind_orders y qs) in
    let z : listed_sizes (parameter_orders y q (argument_words qs) ++ bind_orders y qs) ≤ 13 * suc (length qs) = omega (arith, a, b, all) in
    z
