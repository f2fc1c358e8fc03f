-- Orders in their blocks.
use Rattle.std.proofs.Common.{◌≡◌, ℕ, zero, suc, ◌+◌, List, [], ◌∷◌, ◌++◌, length, drop, Option, Some, None, ◌<◌, ◌≤◌, refl, sym, ap, ◌∙◌, subst, arith, Bool, true, false}
use Rattle.std.specs.Prelude.{slice_get, ℤ, ◌+ℤ◌, ◌-ℤ◌, min, int_le, ◌&&◌}
use Rattle.cw_word.specs.FixedPoint.{fits_word}
use Rattle.cw_unit.specs.Words.{Words, Outcome, Changed, Refused, Impossible, Word, Held, Operand, put, put_if, through, is_below, word_at, number_of, with_operands, on_one}
use Rattle.cw_unit.specs.Operation.{Fetch, Indexed, InBounds, fitting, perform}
use Rattle.cw_unit.specs.Stop.{StopKind, AddressRange, IndexRange}
use Rattle.cw_word.specs.Word.{signed}
use Rattle.cw_order.specs.declared.order.Order.{Order}
use Rattle.cw_order.specs.declared.order.Order.TheVariants as order
use Rattle.cw_order.specs.OrderProgram.{OrderProgram}
use Rattle.cw_order.specs.OrderState.{OrderActivation, frame_word}
use Rattle.cw_order.specs.OrderChanges.{put_address, from_base}
use Rattle.cw_order.specs.OrderActions.{home_word}
use Rattle.cw_order.specs.Loading.{loaded_after}
use Rattle.cw_order.specs.OrderMachine.{unrefused}
use Rattle.cw_order.specs.declared.order.Place.{Place}
use Rattle.cw_order.specs.declared.order.Place.TheVariants as cell
use Rattle.cw_tmpl.specs.declared.blocks.Element.{Element}
use Rattle.cw_tmpl.specs.declared.blocks.Test.{Test}
use Rattle.cw_tmpl.specs.declared.blocks.Test.TheVariants as test
use Rattle.cw_tmpl.specs.declared.blocks.Simple.{Simple}
use Rattle.cw_tmpl.specs.declared.blocks.Simple.TheVariants as simple
use Rattle.cw_tmpl.specs.declared.blocks.Form.{Form}
use Rattle.cw_tmpl.specs.declared.blocks.Form.TheVariants as form
use Rattle.cw_tmpl.specs.declared.rows.Column.{Column}
use Rattle.cw_tmpl.specs.declared.rows.Column.TheVariants as column
use Rattle.cw_tmpl.specs.declared.rows.Row.{Row}
use Rattle.cw_tmpl.specs.declared.blocks.Use.{Use}
use Rattle.cw_tmpl.specs.declared.blocks.Use.TheVariants as uses
use Rattle.cw_tmpl.specs.declared.blocks.Block.{Block}
use Rattle.cw_tmpl.specs.declared.blocks.Block.TheVariants as block
use Rattle.cw_follow.specs.Placing.{StandsBehind}
use Rattle.cw_tmpl.specs.Blocks.{address_orders, bounds_orders, element_orders, form_order, column_orders, orders_in_row, orders_to_row, row_order, operand_orders, order_of, count_order, block_at, orders_left, left_at}
use Rattle.cw_tmpl.proofs.Shapes.{front_is, IsBlock, shape}
use Rattle.cw_tmpl.proofs.Sizes.{size_to}
use Rattle.cw_tmpl.specs.ShortForms.{Forms}

-- ---- lists

pub slice_drop : (list : List Order) (k n : ℕ) → slice_get (drop k list) n ≡ slice_get list (k + n)
slice_drop list zero n = ap (slice_get list) (let e : n ≡ 0 + n = omega arith in e)
slice_drop [] (suc k) n = refl
slice_drop (x ∷ xs) (suc k) n = slice_drop xs k n ∙ ap (slice_get (x ∷ xs)) (let e : suc (k + n) ≡ suc k + n = omega arith in e)

pub size_split : (forms : Forms) (number left : ℕ) (list : List Order) (k n here : ℕ) → here ≡ number + k
    → size_to forms number left list (k + n) ≡ size_to forms number left list k + size_to forms here (left_at left list k) (drop k list) n
size_split forms number left list zero n here is =
    let e : 0 + n ≡ n = omega arith in
    let first : number ≡ here = omega (arith, is) in
    ap (size_to forms number left list) e ∙ ap (λ i. size_to forms i left list n) first ∙ (omega arith)
size_split forms number left [] (suc k) zero here is = let e : suc k + 0 ≡ suc k = omega arith in ap (size_to forms number left []) e
size_split forms number left [] (suc k) (suc n) here is = let e : suc k + suc n ≡ suc (k + suc n) = omega arith in ap (size_to forms number left []) e
size_split forms number left (x ∷ xs) (suc k) n here is =
    let e : suc k + n ≡ suc (k + n) = omega arith in
    let rest = size_split forms (suc number) (orders_left (block_at left (x ∷ xs))) xs k n here (omega (arith, is)) in
    ap (size_to forms number left (x ∷ xs)) e ∙ (omega (arith, rest))

pub left_split : (left : ℕ) (list : List Order) (k n : ℕ) → left_at left list (k + n) ≡ left_at (left_at left list k) (drop k list) n
left_split left list zero n = let e : 0 + n ≡ n = omega arith in ap (left_at left list) e
left_split left [] (suc k) zero = let e : suc k + 0 ≡ suc k = omega arith in ap (left_at left []) e
left_split left [] (suc k) (suc n) = let e : suc k + suc n ≡ suc (k + suc n) = omega arith in ap (left_at left []) e
left_split left (x ∷ xs) (suc k) n =
    let e : suc k + n ≡ suc (k + n) = omega arith in
    ap (left_at left (x ∷ xs)) e ∙ left_split (orders_left (block_at left (x ∷ xs))) xs k n

-- ---- a block does not reach an order that never ends one

abbrev AllEnd : ℕ → List Order → Type 0
AllEnd zero os = Unit {0}
AllEnd (suc n) [] = Unit {0}
AllEnd (suc n) (o ∷ os) = StandsBehind o × AllEnd n os

-- all orders of a list are so
abbrev pub Each : (Order → Type 0) → List Order → Type 0
Each P [] = Unit {0}
Each P (o ∷ os) = P o × Each P os

pub each_of_both : (P : Order → Type 0) (xs ys : List Order) → Each P xs → Each P ys → Each P (xs ++ ys)
each_of_both P [] ys f g = g
each_of_both P (o ∷ os) ys f g = (f.0, each_of_both P os ys f.1 g)

-- and so is each of theirs, and one behind them
pub one_of_these : (P : Order → Type 0) (before : List Order) (last o : Order) (rest : List Order) (k : ℕ) → Each P before → P last → k ≤ length before → slice_get (before ++ last ∷ rest) k ≡ Some o → P o
one_of_these P [] last o rest zero f h le e = let same : last ≡ o = cc in subst P same h
one_of_these P [] last o rest (suc k) f h le e = absurd (omega arith)
one_of_these P (x ∷ xs) last o rest zero f h le e = let same : x ≡ o = cc in subst P same f.0
one_of_these P (x ∷ xs) last o rest (suc k) f h le e = one_of_these P xs last o rest k f.1 h (omega arith) e

pub one_before : (P : Order → Type 0) (before : List Order) (last o : Order) (rest : List Order) (k : ℕ) → Each P before → k < length before → slice_get (before ++ last ∷ rest) k ≡ Some o → P o
one_before P [] last o rest k f lt e = absurd (omega arith)
one_before P (x ∷ xs) last o rest zero f lt e = let same : x ≡ o = cc in subst P same f.0
one_before P (x ∷ xs) last o rest (suc k) f lt e = one_before P xs last o rest k f.1 (omega arith) e

pub none_before : (before : List Order) (last : Order) (rest : List Order) (k : ℕ) → k < length before → slice_get (before ++ last ∷ rest) k ≡ None → ⊥
none_before [] last rest k lt e = omega arith
none_before (x ∷ xs) last rest zero lt e = cc
none_before (x ∷ xs) last rest (suc k) lt e = none_before xs last rest k (omega arith) e

place_stands : (x : Place) → Each StandsBehind (address_orders x)
place_stands (cell.Word f n) = (tt, tt)
place_stands (cell.Frame n) = (tt, tt)

element_stands : (e : Element) → Each StandsBehind (element_orders e)
element_stands e =
    each_of_both StandsBehind (address_orders e.index) (order.Load ∷ (bounds_orders e.lower e.test ++ behind)) (place_stands e.index)
    (tt, each_of_both StandsBehind (bounds_orders e.lower e.test) behind (bounds_stand e.test) (tt, (tt, (tt, tt))))
  where
    behind : List Order
    behind = order.Save ∷ order.Home e.family e.first ∷ order.Element e.lower e.span e.line ∷ []

    bounds_stand : (t : Test) → Each StandsBehind (bounds_orders e.lower t)
    bounds_stand (test.Address origin) = tt
    bounds_stand (test.Bounds upper line) = (tt, tt)

operand_stands : (s : Simple) → Each StandsBehind (operand_orders s)
operand_stands (simple.Number w) = (tt, tt)
operand_stands (simple.Contents x) = each_of_both StandsBehind (address_orders x) (order.Load ∷ []) (place_stands x) (tt, tt)
operand_stands (simple.Element e) = each_of_both StandsBehind (element_orders e) (order.Load ∷ []) (element_stands e) (tt, tt)

-- an element of two dimensions
column_stands : (c : Column) → Each StandsBehind (column_orders c)
column_stands (column.Number w) = (tt, tt)
column_stands (column.Contents x) = each_of_both StandsBehind (address_orders x) (order.Load ∷ []) (place_stands x) (tt, tt)

row_stands : (r : Row) → Each StandsBehind (orders_to_row r)
row_stands r = (tt, (tt, each_of_both StandsBehind (column_orders r.column) (orders_in_row r) (column_stands r.column) (tt, (tt, (tt, tt)))))

count_stands : (down : Bool) (line : ℕ) → StandsBehind (count_order down line)
count_stands true line = tt
count_stands false line = tt

form_stands : (lower : ℤ) (f : Form) → StandsBehind (form_order lower f)
form_stands lower (form.Element span line) = tt
form_stands lower (form.Entry width word span line) = tt

use_stands : (u : Use) → StandsBehind (order_of u)
use_stands (uses.Add line) = tt
use_stands _ = tt

ends_with : (xs : List Order) (last : Order) (rest : List Order) → Each StandsBehind xs → StandsBehind last → AllEnd (suc (length xs)) (xs ++ last ∷ rest)
ends_with [] last rest f h = (h, tt)
ends_with (o ∷ os) last rest f h = (f.0, ends_with os last rest f.1 h)

-- where the first one begins the block
ends_behind : (xs : List Order) (last : Order) (rest : List Order) → Each StandsBehind xs → StandsBehind last → AllEnd (length xs) (drop 1 (xs ++ last ∷ rest))
ends_behind [] last rest f h = tt
ends_behind (o ∷ os) last rest f h = ends_with os last rest f.1 h

-- the orders behind the first one of a list end within its block
first_ends : (o : Order) (os : List Order) → AllEnd (orders_left (block_at 0 (o ∷ os))) os
first_ends o os = cases (block_at 0 (o ∷ os)) (shape (o ∷ os))
  where
    ends_so : (n : ℕ) (all : List Order) → o ∷ os ≡ all → AllEnd n (drop 1 all) → AllEnd n os
    ends_so n all e h = subst (λ l. AllEnd n (drop 1 l)) (sym e) h

    cases : (b : Block) → IsBlock b (o ∷ os) → AllEnd (orders_left b) os
    cases (block.Within n) sh = absurd sh
    cases block.Single sh = tt
    cases (block.Fetch x) sh = ends_so (length (address_orders x)) _ sh (ends_behind (address_orders x) order.Load (drop (length (address_orders x)) os) (place_stands x) tt)
    cases (block.Assign x) sh = ends_so (suc (length (address_orders x))) _ sh (ends_with (address_orders x) order.Store (drop (suc (length (address_orders x))) os) (place_stands x) tt)
    cases block.Write sh = ends_so 1 _ sh (tt, tt)
    cases (block.Divide w line) sh = ends_so 2 _ sh.0 (tt, (tt, tt))
    cases (block.Operate s u) sh = ends_so (suc (length (operand_orders s))) _ sh.0 (ends_with (operand_orders s) (order_of u) (drop (suc (length (operand_orders s))) os) (operand_stands s) (use_stands u))
    cases (block.FetchPart x t b is_signed) sh =
        ends_so (length (address_orders x)) _ sh.0 (ends_behind (address_orders x) (order.LoadPart t b is_signed) (drop (length (address_orders x)) os) (place_stands x) tt)
    cases (block.AssignPart x t b) sh =
        ends_so (suc (length (address_orders x))) _ sh.0 (ends_with (address_orders x) (order.StorePart t b) (drop (suc (length (address_orders x))) os) (place_stands x) tt)
    cases (block.FetchElement e) sh = ends_so (length (element_orders e)) _ sh.0 (ends_behind (element_orders e) order.Load (drop (length (element_orders e)) os) (element_stands e) tt)
    cases (block.AssignElement e) sh = ends_so (suc (length (element_orders e))) _ sh.0 (ends_with (element_orders e) order.Store (drop (suc (length (element_orders e))) os) (element_stands e) tt)
    cases (block.Count down line) sh = ends_so 2 _ sh (tt, (count_stands down line, tt))
    cases (block.Halve w power places line) sh = ends_so 2 _ sh.0 (tt, (tt, tt))
    cases (block.FetchBoth n m) sh = ends_so 4 _ sh (tt, (tt, (tt, (tt, tt))))
    cases (block.CompareWord n w c m) sh = ends_so 4 _ sh (tt, (tt, (tt, (tt, tt))))
    cases (block.Bounded b) sh = ends_so 3 _ sh.0 (tt, (tt, (form_stands b.bounds.lower b.form, tt)))
    cases (block.Row r) sh = ends_so (length (orders_to_row r)) _ sh.0 (ends_behind (orders_to_row r) (row_order r) (drop (length (orders_to_row r)) os) (row_stands r) tt)

next_ends : (left : ℕ) (o : Order) (os : List Order) → AllEnd left (o ∷ os) → AllEnd (orders_left (block_at left (o ∷ os))) os
next_ends zero o os h = first_ends o os
next_ends (suc n) o os h = h.1

none_end : (left : ℕ) → AllEnd left []
none_end zero = tt
none_end (suc n) = tt

all_end : (left : ℕ) (list : List Order) (k : ℕ) → AllEnd left list → AllEnd (left_at left list k) (drop k list)
all_end left list zero h = h
all_end left [] (suc k) h = none_end left
all_end left (o ∷ os) (suc k) h = all_end (orders_left (block_at left (o ∷ os))) os k (next_ends left o os h)

-- so a block begins there
pub begins_at : (list : List Order) (k : ℕ) (o : Order) → slice_get list k ≡ Some o → (StandsBehind o → ⊥) → left_at 0 list k ≡ 0
begins_at list k o e never = cases (left_at 0 list k) refl
  where
    cases : (n : ℕ) → left_at 0 list k ≡ n → left_at 0 list k ≡ 0
    cases zero is = is
    cases (suc n) is =
        let h : AllEnd (suc n) (o ∷ drop (suc k) list) = subst (λ l. AllEnd (suc n) l) (front_is list k o e) (subst (λ m. AllEnd m (drop k list)) is (all_end 0 list k tt)) in
        absurd (never h.0)

-- ---- what the orders before the last one of a block do

abbrev pub loaded_then : Option Bool → (Bool → Option Bool) → Option Bool
loaded_then (Some m) f = f m
loaded_then None f = None

abbrev pub chain : Outcome → (Words → Outcome) → Outcome
chain (Changed v) f = f v
chain (Refused kind) f = Refused kind
chain Impossible f = Impossible

chain_ends : (x : Outcome) → chain x Changed ≡ x
chain_ends (Changed v) = refl
chain_ends _ = refl

chain_joins : (x : Outcome) (f g h : Words → Outcome) → ((v : Words) → h v ≡ chain (f v) g) → chain x h ≡ chain (chain x f) g
chain_joins (Changed v) f g h each = each v
chain_joins (Refused kind) f g h each = refl
chain_joins Impossible f g h each = refl

-- orders in turn, each of which goes on with a state or ends them
module _ {State Result : Type 0} (on : State → Result) (go : Result → (State → Result) → Result) (short : Result) (step : Order → State → Result) where
  abbrev in_turn : ℕ → List Order → State → Result
  in_turn zero os s = on s
  in_turn (suc n) [] s = short
  in_turn (suc n) (o ∷ os) s = go (step o s) (in_turn n os)

  in_turn_next : ((x : Result) → go x on ≡ x) → ((s : State) (f : State → Result) → go (on s) f ≡ f s) → ((x : Result) (f g h : State → Result) → ((s : State) → h s ≡ go (f s) g) → go x h ≡ go (go x f) g)
      → (n : ℕ) (os : List Order) (o : Order) (s : State) → slice_get os n ≡ Some o → in_turn (suc n) os s ≡ go (in_turn n os s) (step o)
  in_turn_next ends goes joins n [] o s e = absurd (cc)
  in_turn_next ends goes joins zero (x ∷ xs) o s e = let same : x ≡ o = cc in ends (step x s) ∙ ap (λ y. step y s) same ∙ sym (goes s (step o))
  in_turn_next ends goes joins (suc n) (x ∷ xs) o s e = joins (step x s) (in_turn n xs) (step o) (in_turn (suc n) xs) (λ v. in_turn_next ends goes joins n xs o v e)

module _ (p : OrderProgram) (g : ℕ) (acts : List OrderActivation) where
  abbrev pub puts_word : Order → Words → Outcome
  puts_word order.Save w = Changed w
  puts_word (order.Const n) w = Changed (put (signed n) w)
  puts_word (order.Home f n) w = Changed (put (signed (home_word p.addresses g f n)) w)
  puts_word (order.FrameHome n) w = put_address (frame_word p.limits.area acts n) w
  puts_word order.Load w = unrefused (perform p.limits.area (Fetch None) w)
  puts_word (order.InBounds lower upper line) w = perform p.limits.area (InBounds lower upper) w
  puts_word (order.Element lower span line) w = from_base p.limits.area (λ base. Indexed base lower) w
  puts_word _ w = Impossible

  abbrev pub silently : ℕ → List Order → Words → Outcome
  silently = in_turn Changed chain Impossible puts_word

  pub silently_next : (n : ℕ) (os : List Order) (o : Order) (w : Words) → slice_get os n ≡ Some o → silently (suc n) os w ≡ chain (silently n os w) (puts_word o)
  silently_next = in_turn_next Changed chain Impossible puts_word chain_ends (λ w f. refl) chain_joins

-- where the accumulator is after so many of them
abbrev pub loaded_silently : ℕ → List Order → Bool → Option Bool
loaded_silently = in_turn Some loaded_then None loaded_after

loaded_ends : (x : Option Bool) → loaded_then x Some ≡ x
loaded_ends (Some m) = refl
loaded_ends None = refl

loaded_joins : (x : Option Bool) (f g h : Bool → Option Bool) → ((m : Bool) → h m ≡ loaded_then (f m) g) → loaded_then x h ≡ loaded_then (loaded_then x f) g
loaded_joins (Some m) f g h each = each m
loaded_joins None f g h each = refl

pub loaded_next : (n : ℕ) (os : List Order) (o : Order) (m : Bool) → slice_get os n ≡ Some o → loaded_silently (suc n) os m ≡ loaded_then (loaded_silently n os m) (loaded_after o)
loaded_next = in_turn_next Some loaded_then None loaded_after loaded_ends (λ m f. refl) loaded_joins

-- the orders that can stand in a block before its last one and never stop
abbrev pub Puts : Order → Type 0
Puts order.Save = Unit {0}
Puts (order.Const x) = Unit {0}
Puts (order.Home f n) = Unit {0}
Puts (order.FrameHome n) = Unit {0}
Puts order.Load = Unit {0}
Puts _ = ⊥

-- no stop comes of it
abbrev Silent : Outcome → Type 0
Silent o = (kind : StopKind) → o ≡ Refused kind → ⊥

load_silent : (area : ℕ) (operands : List Operand) (w : Words) → Silent (unrefused (perform area (Fetch None) (with_operands w operands)))
load_silent area [] w kind e = cc
load_silent area (Held c ∷ rest) w kind e = cc
load_silent area (Word a ∷ rest) w kind e = cases (is_below a area) e
  where
    cases : (b : Bool) → unrefused (through b (λ i v. Changed (put (word_at v.memory i) v)) a (with_operands w rest)) ≡ Refused kind → ⊥
    cases true e = cc
    cases false e = cc

address_silent : (a : Option ℕ) (w : Words) → Silent (put_address a w)
address_silent None w kind e = cc
address_silent (Some a) w kind e = cc

pub never_refused : (p : OrderProgram) (g : ℕ) (acts : List OrderActivation) (o : Order) → Puts o → (w : Words) → Silent (puts_word p g acts o w)
never_refused p g acts order.Save h w kind e = cc
never_refused p g acts (order.Const n) h w kind e = cc
never_refused p g acts (order.Home f n) h w kind e = cc
never_refused p g acts (order.FrameHome n) h w kind e = address_silent (frame_word p.limits.area acts n) w kind e
never_refused p g acts order.Load h w kind e = load_silent p.limits.area w.operands w kind e
never_refused p g acts _ h w kind e = h

-- nothing is written
abbrev Unwritten : Words → Outcome → Type 0
Unwritten w o = (v : Words) → o ≡ Changed v → v.output ≡ w.output

load_unwritten : (area : ℕ) (operands : List Operand) (w : Words) → Unwritten w (unrefused (perform area (Fetch None) (with_operands w operands)))
load_unwritten area [] w v e = absurd (cc)
load_unwritten area (Held c ∷ rest) w v e = absurd (cc)
load_unwritten area (Word a ∷ rest) w v e = cases (is_below a area) e
  where
    cases : (b : Bool) → unrefused (through b (λ i t. Changed (put (word_at t.memory i) t)) a (with_operands w rest)) ≡ Changed v → v.output ≡ w.output
    cases true e = let same : put (word_at w.memory (number_of a)) (with_operands w rest) ≡ v = cc in ap (λ x. x.output) (sym same)
    cases false e = absurd (cc)

address_unwritten : (a : Option ℕ) (w : Words) → Unwritten w (put_address a w)
address_unwritten None w v e = absurd (cc)
address_unwritten (Some a) w v e = let same : put (signed a) w ≡ v = cc in ap (λ x. x.output) (sym same)

element_unwritten : (area : ℕ) (lower : ℤ) (operands : List Operand) (w : Words) → Unwritten w (from_base area (λ base. Indexed base lower) (with_operands w operands))
element_unwritten area lower [] w v e = absurd (cc)
element_unwritten area lower (Held c ∷ rest) w v e = absurd (cc)
element_unwritten area lower (Word base ∷ []) w v e = absurd (cc)
element_unwritten area lower (Word base ∷ Held c ∷ rest) w v e = absurd (cc)
element_unwritten area lower (Word base ∷ Word i ∷ rest) w v e = cases (fits_word (i -ℤ lower)) (is_below (base +ℤ (i -ℤ lower)) (min area 32768)) e
  where
    cases : (fits below : Bool) → fitting fits (put_if below AddressRange (base +ℤ (i -ℤ lower)) (with_operands w rest)) ≡ Changed v → v.output ≡ w.output
    cases true true e = let same : put (base +ℤ (i -ℤ lower)) (with_operands w rest) ≡ v = cc in ap (λ x. x.output) (sym same)
    cases true false e = absurd (cc)
    cases false below e = absurd (cc)

bounds_unwritten : (lower upper : ℤ) (operands : List Operand) (w : Words) → Unwritten w (on_one (λ i v. put_if (int_le lower i && int_le i upper) IndexRange i v) operands w)
bounds_unwritten lower upper [] w v e = absurd (cc)
bounds_unwritten lower upper (Held c ∷ rest) w v e = absurd (cc)
bounds_unwritten lower upper (Word i ∷ rest) w v e = cases (int_le lower i && int_le i upper) e
  where
    cases : (b : Bool) → put_if b IndexRange i (with_operands w rest) ≡ Changed v → v.output ≡ w.output
    cases true e = let same : put i (with_operands w rest) ≡ v = cc in ap (λ x. x.output) (sym same)
    cases false e = absurd (cc)

pub never_writes : (p : OrderProgram) (g : ℕ) (acts : List OrderActivation) (o : Order) (w : Words) → Unwritten w (puts_word p g acts o w)
never_writes p g acts order.Save w v e = let same : w ≡ v = cc in ap (λ x. x.output) (sym same)
never_writes p g acts (order.Const n) w v e = let same : put (signed n) w ≡ v = cc in ap (λ x. x.output) (sym same)
never_writes p g acts (order.Home f n) w v e = let same : put (signed (home_word p.addresses g f n)) w ≡ v = cc in ap (λ x. x.output) (sym same)
never_writes p g acts (order.FrameHome n) w v e = address_unwritten (frame_word p.limits.area acts n) w v e
never_writes p g acts order.Load w v e = load_unwritten p.limits.area w.operands w v e
never_writes p g acts (order.InBounds lower upper line) w v e = bounds_unwritten lower upper w.operands w v e
never_writes p g acts (order.Element lower span line) w v e = element_unwritten p.limits.area lower w.operands w v e
never_writes p g acts _ w v e = absurd (cc)
