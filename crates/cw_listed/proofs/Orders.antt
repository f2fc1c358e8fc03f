-- The code of each order alone is told.
use Rattle.std.proofs.Common.{ℕ, zero, suc, ◌+◌, ◌-◌, ◌^◌, ◌==◌, nat_lt, nat_le, ℤ, pos, negsuc}
use Rattle.std.proofs.Common.{if◌then◌else◌, Bool, true, false, List, [], ◌∷◌, ◌++◌, refl}
use Rattle.cw_i86.specs.declared.instr.Instr.{Instr}
use Rattle.cw_i86.specs.declared.instr.Instr.TheVariants as i86
use Rattle.cw_run86.specs.Views.{with_number}
use Rattle.cw_word.specs.BitField.{field_mask}
use Rattle.cw_unit.specs.declared.unit.Goal.{Goal}
use Rattle.cw_unit.specs.declared.unit.Goal.TheVariants as goal
use Rattle.cw_order.specs.declared.order.LabelMark.{LabelMark}
use Rattle.cw_order.specs.declared.order.Order.{Order}
use Rattle.cw_order.specs.declared.order.Order.TheVariants as order
use Rattle.cw_order.specs.declared.order.Place.{Place}
use Rattle.cw_order.specs.declared.order.Place.TheVariants as cell
use Rattle.cw_tmpl.specs.declared.pieces.Coded.{Coded}
use Rattle.cw_tmpl.specs.declared.pieces.Coded.TheVariants as coded
use Rattle.cw_tmpl.specs.Mnemonics.{ax, bx, cx, si, at_bx, set_word, move, add, multiply, operate, change}
use Rattle.cw_tmpl.specs.Mnemonics.{shift_up, shift_down, shift_down_signed, shift_up_once, shift_down_once, shift_down_signed_once}
use Rattle.cw_tmpl.specs.Library.{overflow_entry, address_entry}
use Rattle.cw_tmpl.specs.Names.{Names, mark_place, call_place}
use Rattle.cw_tmpl.specs.Templates.{times_if, times, shifted, shifted_up, shifted_down, shifted_down_signed, lowest_if, part_taken, store_part}
use Rattle.cw_tmpl.specs.Templates.{rescale_if, rescale, product_down, product, quotient, less_bound, plus_word, pieces_size, checked_by}
use Rattle.cw_tmpl.specs.Templates.{ended_back, times_before, rescale_before, product_before, quotient_before, is_checked}
use Rattle.cw_tmpl.specs.Templates.{times_width, based, element, in_row, element_of_two, top_from_lower, times_entry, element_inside, entry, in_bounds, entered, mark_words, goal_words, loop_ways}
use Rattle.cw_tmpl.specs.Templates.{step_taken, switch_pieces, landing_pieces, entry_pieces, template, short_template, template_by}
use Rattle.cw_listed.proofs.Walk.{Told, both}

-- ---- arithmetic

times_told : (top : Bool) (line n : ℕ) → Told (times_if top overflow_entry line n)
times_told true line n = refl
times_told false line n = refl

multiplied_told : (top : Bool) (line n : ℕ) → Told (times_if top address_entry line n)
multiplied_told true line n = refl
multiplied_told false line n = refl

pub shifted_told : (once by_count : Instr) (places : ℕ) → Told (shifted once by_count places)
shifted_told once by_count zero = refl
shifted_told once by_count (suc zero) = refl
shifted_told once by_count (suc (suc n)) = refl

lowest_told : (whole : Bool) (t : ℕ) → Told (lowest_if whole t)
lowest_told true t = refl
lowest_told false t = refl

pub part_told : (t b : ℕ) (is_signed : Bool) → Told (part_taken t b is_signed)
part_told t b true =
    both (shifted_up (16 - (t + b))) (shifted_down_signed (16 - t)) (shifted_told (shift_up_once ax) (shift_up ax) (16 - (t + b)))
    (shifted_told (shift_down_signed_once ax) (shift_down_signed ax) (16 - t))
part_told t b false =
    both (shifted_down b) (lowest_if (t + b == 16) t) (shifted_told (shift_down_once ax) (shift_down ax) b) (lowest_told (t + b == 16) t)

store_told : (t b : ℕ) → Told (store_part t b)
store_told t b =
    both (shifted_up b) (coded.Whole (operate 6 ax at_bx) ∷ coded.Whole (with_number 4 (field_mask t b)) ∷ coded.Whole (change 6 at_bx ax) ∷ [])
    (shifted_told (shift_up_once ax) (shift_up ax) b) refl

rescaled_told : (up top : Bool) (line from to : ℕ) → Told (rescale_if up top line from to)
rescaled_told true top line from to = times_told top line (2 ^ (to - from))
rescaled_told false top line from to = refl

lowered_told : (line : ℕ) (few : Bool) (n : ℕ) → Told (product_down line few n)
lowered_told line true n = refl
lowered_told line false n = refl

product_told : (line : ℕ) (power : ℤ) → Told (product line power)
product_told line (pos zero) = refl
product_told line (pos (suc n)) = times_told (2 ^ suc n == 32768) line (2 ^ suc n)
product_told line (negsuc n) = lowered_told line (nat_lt n 15) n

quotient_told : (line : ℕ) (power : ℤ) → Told (quotient line power)
quotient_told line (pos n) = refl
quotient_told line (negsuc n) = refl

-- ---- checks that jump back

back_told : (ends : Bool) (whole before : List Coded) (line place to : ℕ) → Told whole → Told before → Told (ended_back ends whole before line place to)
back_told true whole before line place to h k = both before (checked_by true line (place + pieces_size before) to) k refl
back_told false whole before line place to h k = h

times_before_told : (top : Bool) (n : ℕ) → Told (times_before top n)
times_before_told true n = refl
times_before_told false n = refl

product_before_told : (line : ℕ) (power : ℤ) → Told (product_before line power)
product_before_told line (pos zero) = refl
product_before_told line (pos (suc n)) = times_before_told (2 ^ suc n == 32768) (2 ^ suc n)
product_before_told line (negsuc n) = refl

quotient_before_told : (line : ℕ) (power : ℤ) → Told (quotient_before line power)
quotient_before_told line (pos n) = refl
quotient_before_told line (negsuc n) = refl

-- ---- addresses

bound_told : (line : ℕ) (lower : ℤ) → Told (less_bound line lower)
bound_told line (pos zero) = refl
bound_told line (pos (suc n)) = refl
bound_told line (negsuc n) = refl

word_told : (line word : ℕ) → Told (plus_word line word)
word_told line zero = refl
word_told line (suc n) = refl

width_told : (one top : Bool) (line n : ℕ) → Told (if one then [] else times_if top address_entry line n)
width_told true top line n = refl
width_told false top line n = multiplied_told top line n

element_told : (line : ℕ) (lower : ℤ) → Told (element line lower)
element_told line lower = both (less_bound line lower) (based line) (bound_told line lower) refl

element_of_two_told : (line : ℕ) (lower second : ℤ) (width : ℕ) → Told (element_of_two line lower second width)
element_of_two_told line lower second width =
    let last : List Coded = in_row line ++ based line in
    let made : List Coded = times address_entry line width ++ last in
    both (less_bound line second) (coded.Whole (move cx ax) ∷ coded.Whole (i86.Pop ax) ∷ (less_bound line lower ++ made)) (bound_told line second)
    (both (less_bound line lower) made (bound_told line lower) (both (times address_entry line width) last (multiplied_told (width == 32768) line width) refl))

pub top_told : (lower : ℤ) → Told (top_from_lower lower)
top_told (pos zero) = refl
top_told (pos (suc n)) = refl
top_told (negsuc n) = refl

pub entry_times_told : (one : Bool) (width : ℕ) → Told (if one then [] else coded.Whole (set_word bx width) ∷ coded.Whole (multiply bx) ∷ [])
entry_times_told true width = refl
entry_times_told false width = refl

element_inside_told : (lower second : ℤ) (width : ℕ) → Told (element_inside lower second width)
element_inside_told lower second width =
    let last : List Coded = coded.Whole (add ax cx) ∷ coded.Whole (add ax si) ∷ [] in
    let made : List Coded = times_entry width ++ last in
    both (top_from_lower second) (coded.Whole (move cx ax) ∷ coded.Whole (i86.Pop ax) ∷ (top_from_lower lower ++ made)) (top_told second)
    (both (top_from_lower lower) made (top_told lower) (both (times_entry width) last (entry_times_told (width == 1) width) refl))

entry_told : (line width word : ℕ) → Told (entry line width word)
entry_told line width word =
    both (times_width line width) (plus_word line word ++ based line) (width_told (width == 1) (width == 32768) line width)
    (both (plus_word line word) (based line) (word_told line word) refl)

bounds_told : (line : ℕ) (lower upper : ℤ) → Told (in_bounds line lower upper)
bounds_told line (pos zero) upper = refl
bounds_told line (pos (suc n)) upper = refl
bounds_told line (negsuc n) upper = refl

-- ---- ways

marks_told : (names : Names) (marks : List ℕ) → Told (mark_words names marks)
marks_told names [] = refl
marks_told names (m ∷ ms) = marks_told names ms

goals_told : (names : Names) (goals : List Goal) → Told (goal_words names goals)
goals_told names [] = refl
goals_told names (goal.Own l ∷ xs) = goals_told names xs
goals_told names (goal.Common d ∷ xs) = goals_told names xs

ways_told : (names : Names) (place : ℕ) (marks : List ℕ) → Told (loop_ways names place marks)
ways_told names place [] = refl
ways_told names place (m ∷ []) = refl
ways_told names place (m ∷ n ∷ ms) = marks_told names ms

step_told : (x : Place) (line place to : ℕ) → Told (step_taken x line place to)
step_told (cell.Word f n) line place to = refl
step_told (cell.Frame n) line place to = refl

entered_told : (size : ℕ) → Told (entered size)
entered_told zero = refl
entered_told (suc n) = refl

pub entry_pieces_told : Told entry_pieces
entry_pieces_told = refl

pub landing_told : (names : Names) (place : ℕ) (m : LabelMark) → Told (landing_pieces names place m)
landing_told names place m = refl

pub switch_told : (names : Names) (place : ℕ) (goals : List Goal) → Told (switch_pieces names place goals)
switch_told names place goals = goals_told names goals

-- ---- orders

template_told : (names : Names) (place : ℕ) (o : Order) → Told (template names place o)
template_told names place (order.LoadPart t b is_signed) = part_told t b is_signed
template_told names place (order.StorePart t b) = store_told t b
template_told names place (order.Rescale from to line) = rescaled_told (nat_le from to) (2 ^ (to - from) == 32768) line from to
template_told names place (order.Mul power line) = product_told line power
template_told names place (order.Div power line) = quotient_told line power
template_told names place (order.Take t b) = part_told t b false
template_told names place (order.Element lower span line) = element_told line lower
template_told names place (order.ElementOfTwo lower second width line) = element_of_two_told line lower second width
template_told names place (order.ElementInside lower second width span) = element_inside_told lower second width
template_told names place (order.Entry width word span line) = entry_told line width word
template_told names place (order.InBounds lower upper line) = bounds_told line lower upper
template_told names place (order.NextStep x line mark) = step_told x line place (mark_place names mark)
template_told names place (order.LoopWay marks) = ways_told names place marks
template_told names place (order.SwitchWay marks line) = marks_told names marks
template_told names place (order.Enter size) = entered_told size
template_told names place _ = refl

short_told : (names : Names) (place number : ℕ) (o : Order) → Told (short_template names place number o)
short_told names place number (order.Add line) = refl
short_told names place number (order.Sub line) = refl
short_told names place number (order.Neg line) = refl
short_told names place number (order.Rescale from to line) =
    back_told (nat_le from to) (rescale line from to) (rescale_before from to) line place (call_place names number)
    (rescaled_told (nat_le from to) (2 ^ (to - from) == 32768) line from to) (times_before_told (2 ^ (to - from) == 32768) (2 ^ (to - from)))
short_told names place number (order.Mul power line) =
    back_told (is_checked power) (product line power) (product_before line power) line place (call_place names number) (product_told line power)
    (product_before_told line power)
short_told names place number (order.Div power line) =
    back_told true (quotient line power) (quotient_before line power) line place (call_place names number) (quotient_told line power)
    (quotient_before_told line power)
short_told names place number (order.Jump mark) = refl
short_told names place number (order.JumpIf c mark) = refl
short_told names place number (order.LoopWay []) = refl
short_told names place number (order.LoopWay (m ∷ [])) = refl
short_told names place number (order.LoopWay (m ∷ n ∷ ms)) = marks_told names ms
short_told names place number o = template_told names place o

pub order_told : (short : Bool) (names : Names) (place number : ℕ) (o : Order) → Told (template_by short names place number o)
order_told true names place number o = short_told names place number o
order_told false names place number o = template_told names place o
