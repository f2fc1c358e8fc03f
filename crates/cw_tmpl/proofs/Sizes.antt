-- The sizes of the code, and the places in it.
use Rattle.std.proofs.Common.{◌≡◌, ℕ, zero, suc, ◌+◌, ◌*◌, ◌≤◌, List, [], ◌∷◌, ◌++◌, length, drop, get_or, Option, Some, None, refl, sym, ap, ap₂, ◌∙◌, subst, arith, append_assoc, length-append}
use Rattle.std.specs.Prelude.{◌%◌, ◌-◌, ◌-ℤ◌, ◌^◌, ◌==◌, nat_le, nat_lt, ℤ, pos, negsuc, Bool, true, false, if◌then◌else◌, slice_get, slice_index}
use Rattle.cw_order.specs.declared.order.Order.{Order}
use Rattle.cw_order.specs.declared.order.Order.TheVariants as order
use Rattle.cw_order.specs.declared.order.Orders.{Orders}
use Rattle.cw_tmpl.specs.declared.pieces.Coded.{Coded}
use Rattle.cw_i86.specs.Encoding.{bytes_of}
use Rattle.cw_i86.specs.declared.instr.Instr.{Instr}
use Rattle.cw_i86.specs.declared.instr.Instr.TheVariants as i86
use Rattle.cw_run86.specs.Views.{with_number}
use Rattle.cw_word.specs.BitField.{field_mask}
use Rattle.cw_order.specs.declared.order.Comparator.{Comparator}
use Rattle.cw_tmpl.specs.declared.pieces.Coded.TheVariants as coded
use Rattle.cw_tmpl.specs.Mnemonics.{add, field, compare_number, ax, bx, cx, si, di, at_si, set_word, load, store, compare, double, multiply, operate, change, shift_up, shift_down_signed, shift_up_once, shift_down_signed_once, jump_if_below}
use Rattle.cw_order.specs.declared.order.Place.{Place}
use Rattle.cw_order.specs.declared.order.Place.TheVariants as cell
use Rattle.cw_tmpl.specs.declared.blocks.Element.{Element}
use Rattle.cw_tmpl.specs.declared.blocks.Test.{Test}
use Rattle.cw_tmpl.specs.declared.blocks.Test.TheVariants as test
use Rattle.cw_tmpl.specs.declared.blocks.Simple.{Simple}
use Rattle.cw_tmpl.specs.declared.blocks.Simple.TheVariants as simple
use Rattle.cw_tmpl.specs.declared.blocks.Form.{Form}
use Rattle.cw_tmpl.specs.declared.blocks.Form.TheVariants as form
use Rattle.cw_tmpl.specs.declared.blocks.Bounded.{Bounded}
use Rattle.cw_tmpl.specs.declared.rows.Column.{Column}
use Rattle.cw_tmpl.specs.declared.rows.Column.TheVariants as column
use Rattle.cw_tmpl.specs.declared.rows.Row.{Row}
use Rattle.cw_tmpl.specs.declared.blocks.Use.{Use}
use Rattle.cw_tmpl.specs.declared.blocks.Use.TheVariants as uses
use Rattle.cw_tmpl.specs.declared.blocks.Block.{Block}
use Rattle.cw_tmpl.specs.declared.blocks.Block.TheVariants as block
use Rattle.cw_tmpl.specs.declared.pieces.Target.TheVariants as target
use Rattle.cw_unit.specs.declared.unit.Goal.{Goal}
use Rattle.cw_unit.specs.declared.unit.Goal.TheVariants as goal
use Rattle.cw_tmpl.specs.Pieces.{blanks}
use Rattle.cw_tmpl.specs.Names.{Names, no_names, mark_place, switch_size}
use Rattle.cw_tmpl.specs.Blocks.{address_orders, bounds_orders, element_orders, orders_to_form, form_order, operand_orders, order_of, count_order, element_at, element_fetched, fetched_or, joined, compared_or, both_or, fetched_behind, block_alone, block_of, block_at, orders_left, left_at, column_orders, orders_in_row, orders_to_row, row_order}
use Rattle.cw_tmpl.proofs.Shapes.{IsBlock, shape}
use Rattle.cw_tmpl.specs.Library.{address_entry}
use Rattle.cw_tmpl.specs.Templates.{rescale, rescale_before, product, product_before, quotient, quotient_before, is_checked, frame_size, template, template_by, mark_words, goal_words, landing_pieces, switch_pieces, address_pieces, load_place, store_place, pieces_size, operated, block_pieces, block_size, order_size, distance, entry_pieces, shifted_up, shifted_down_signed, part_taken, operate_place, change_place, index_added, index_loaded, from_lower, indexes_between, index_below, address_tested, index_tested, element_tested, element_address, with_operand, product_with, checked, branch, call_stop, top_from_lower, top_below, formed, loop_ways_size, doubled_size, word_compared, counted, branch_by, element, column_loaded, column_below, row_summed, column_tested}
use Rattle.cw_tmpl.specs.ShortForms.{Forms, is_short, jump_of, saved}
use Rattle.cw_tmpl.specs.Sizes.{listed_size, size_behind, sizes_behind, listed_sizes, index_size, lower_size, element_size, used_size, shift_size, part_size, size_in_list, owed, number_size, bounds_size, top_lower_size, formed_size, times_entry_size, column_size, row_size}
use Rattle.cw_tmpl.specs.ReferenceCode.{templates, landings, switches, places_from, places_by, entry_size, reach_of, order_places, landings_place, switches_place, names_of, mark_starts, pieces_of, switch_sizes, StandsAt}
use Rattle.cw_tmpl.proofs.Growing.{blanks-append}
use Rattle.cw_tmpl.proofs.Endings.{compared_long, checked_same, ended_same, shorter_by}
use Rattle.cw_tmpl.proofs.Lengths.{frame_few, field_loaded, field_stored, field_operated, field_changed, field_compared, first_long, rescale_long, product_scaled_long, product_down_long, appended_long, appended_one, shifted_long, part_long, store_part_long, element_long, element_of_two_long, element_inside_long, top_lower_long, entry_long, bind_long, bind_frame_long, special_out_long, call_special_long, go_special_long, go_switch_special_long}

-- the words of a table
pub size_of_marks : (names : Names) (ms : List ℕ) → length (blanks (mark_words names ms)) ≡ 2 * length ms
size_of_marks names [] = refl
size_of_marks names (m ∷ ms) = omega (arith, size_of_marks names ms)

pub size_of_goals : (names : Names) (gs : List Goal) → length (blanks (goal_words names gs)) ≡ 2 * length gs
size_of_goals names [] = refl
size_of_goals names (goal.Own l ∷ gs) = omega (arith, size_of_goals names gs)
size_of_goals names (goal.Common d ∷ gs) = omega (arith, size_of_goals names gs)

loop_way_long : (names : Names) (place : ℕ) (marks : List ℕ) → length (blanks (template names place (order.LoopWay marks))) ≡ loop_ways_size marks
loop_way_long names place [] = refl
loop_way_long names place (m ∷ []) = refl
loop_way_long names place (m ∷ n ∷ ms) = omega (arith, size_of_marks names (m ∷ n ∷ ms))

switch_way_long : (names : Names) (place line : ℕ) (marks : List ℕ) → length (blanks (template names place (order.SwitchWay marks line))) ≡ 20 + 2 * length marks
switch_way_long names place line marks = omega (arith, size_of_marks names marks)

step_taken_long : (names : Names) (place : ℕ) (x : Place) (line m : ℕ) → length (blanks (template names place (order.NextStep x line m))) ≡ doubled_size x + 10
step_taken_long names place (cell.Word f n) line m = refl
step_taken_long names place (cell.Frame n) line m = refl

-- the code of an order alone
template_everywhere : (names : Names) (place : ℕ) (o : Order) → length (blanks (template names place o)) ≡ order_size o
template_everywhere names place (order.JumpIf c mark) = refl
template_everywhere names place (order.LoopWay marks) = loop_way_long names place marks ∙ sym (loop_way_long no_names 0 marks)
template_everywhere names place (order.SwitchWay marks line) = switch_way_long names place line marks ∙ sym (switch_way_long no_names 0 line marks)
template_everywhere names place (order.NextStep x line m) = step_taken_long names place x line m ∙ sym (step_taken_long no_names 0 x line m)
template_everywhere names place _ = refl

single_everywhere : (names : Names) (place number : ℕ) (short : Bool) (o : Order) → length (blanks (template_by short names place number o)) ≡ block_size short block.Single o
single_everywhere names place number false o = template_everywhere names place o
single_everywhere names place number true (order.Add line) = refl
single_everywhere names place number true (order.Sub line) = refl
single_everywhere names place number true (order.Neg line) = refl
single_everywhere names place number true (order.Rescale from to line) = ended_same (nat_le from to) (rescale line from to) (rescale_before from to) line _ _ _ _
single_everywhere names place number true (order.Mul s line) = ended_same (is_checked s) (product line s) (product_before line s) line _ _ _ _
single_everywhere names place number true (order.Div s line) = ended_same true (quotient line s) (quotient_before line s) line _ _ _ _
single_everywhere names place number true (order.Jump m) = refl
single_everywhere names place number true (order.JumpIf c m) = refl
single_everywhere names place number true (order.LoopWay []) = template_everywhere names place (order.LoopWay [])
single_everywhere names place number true (order.LoopWay (m ∷ [])) = refl
single_everywhere names place number true (order.LoopWay (m ∷ n ∷ ms)) = template_everywhere names place (order.LoopWay (m ∷ n ∷ ms))
single_everywhere names place number true o = template_everywhere names place o

-- what is done with an operand
operated_everywhere : (names : Names) (place number : ℕ) (short : Bool) (s : Simple) (u : Use) → length (blanks (operated names place number short s u)) ≡ length (blanks (operated no_names 0 0 short s u))
operated_everywhere names place number short s (uses.Add line) = checked_same short (with_operand 0 s) line _ _ _ _
operated_everywhere names place number short s (uses.Subtract line) = checked_same short (with_operand 5 s) line _ _ _ _
operated_everywhere names place number short s (uses.Multiply line) = checked_same short (product_with s) line _ _ _ _
operated_everywhere names place number short s (uses.Compare c m) =
    compared_long short (with_operand 7 s) c (place + pieces_size (with_operand 7 s)) (mark_place names m) ∙ sym (compared_long short (with_operand 7 s) c (0 + pieces_size (with_operand 7 s)) (mark_place no_names m))
operated_everywhere names place number short s uses.Mask = refl
operated_everywhere names place number short s uses.Union = refl
operated_everywhere names place number short s uses.Differ = refl

-- the code of a block is as long wherever it stands
pub size_everywhere : (names : Names) (place number : ℕ) (short : Bool) (b : Block) (o : Order) → length (blanks (block_pieces names place number short b o)) ≡ block_size short b o
size_everywhere names place number short (block.Within n) o = refl
size_everywhere names place number short block.Single o = single_everywhere names place number short o
size_everywhere names place number short (block.Fetch x) o = refl
size_everywhere names place number short (block.Assign x) o = refl
size_everywhere names place number short block.Write o = refl
size_everywhere names place number short (block.Divide w line) o = refl
size_everywhere names place number short (block.Operate s u) o = operated_everywhere names place number short s u
size_everywhere names place number short (block.FetchPart x t b is_signed) o = refl
size_everywhere names place number short (block.AssignPart x t b) o = refl
size_everywhere names place number short (block.FetchElement e) o = refl
size_everywhere names place number short (block.AssignElement e) o = refl
size_everywhere names place number short (block.Count down line) o = checked_same short (coded.Whole (counted down) ∷ []) line _ _ _ _
size_everywhere names place number short (block.Halve w power places line) o = refl
size_everywhere names place number short (block.Bounded b) o = refl
size_everywhere names place number short (block.Row r) o = refl
size_everywhere names place number short (block.FetchBoth n m) o = refl
size_everywhere names place number short (block.CompareWord n w c m) o =
    compared_long short (word_compared n w) c (place + pieces_size (word_compared n w)) (mark_place names m) ∙ sym (compared_long short (word_compared n w) c (0 + pieces_size (word_compared n w)) (mark_place no_names m))

-- ---- the code before a place of the list

-- the bytes of the code of the orders before a place
abbrev pub size_to : Forms → (number left : ℕ) → List Order → (place : ℕ) → ℕ
size_to forms number left os zero = 0
size_to forms number left [] (suc k) = 0
size_to forms number left (o ∷ os) (suc k) =
    let b = block_at left (o ∷ os) in
    block_size (forms number b o) b o + size_to forms (suc number) (orders_left b) os k

-- the bytes of the block that begins with an order of a list, by the number of the order
abbrev pub size_by : Forms → (number : ℕ) → Block → Order → ℕ
size_by forms number b o = block_size (forms number b o) b o

pub size_next : (forms : Forms) (number left : ℕ) (list : List Order) (k here : ℕ) (o : Order) → here ≡ number + k → slice_get list k ≡ Some o
    → size_to forms number left list (suc k) ≡ size_to forms number left list k + size_by forms here (block_at (left_at left list k) (drop k list)) o
size_next forms number left [] k here o is e = absurd (cc)
size_next forms number left (x ∷ xs) zero here o is e =
    let same : x ≡ o = cc in
    let first : number ≡ here = omega (arith, is) in
    let size : size_by forms number (block_at left (x ∷ xs)) x ≡ size_by forms here (block_at left (x ∷ xs)) o = ap₂ (λ n y. size_by forms n (block_at left (x ∷ xs)) y) first same in
    omega (arith, size)
size_next forms number left (x ∷ xs) (suc k) here o is e =
    omega (arith, size_next forms (suc number) (orders_left (block_at left (x ∷ xs))) xs k here o (omega (arith, is)) e)

pub left_next : (left : ℕ) (list : List Order) (k : ℕ) (o : Order) → slice_get list k ≡ Some o → left_at left list (suc k) ≡ orders_left (block_at (left_at left list k) (drop k list))
left_next left [] k o e = absurd (cc)
left_next left (x ∷ xs) zero o e = refl
left_next left (x ∷ xs) (suc k) o e = left_next (orders_left (block_at left (x ∷ xs))) xs k o e

-- the code of the block that begins with an order, in the middle of that of the others
abbrev pub pieces_by : Names → (at number : ℕ) → Block → Order → List Coded
pieces_by names at number b o = block_pieces names at number (is_short names.reach number b o) b o

pub record InMiddle (names : Names) (at number left : ℕ) (list : List Order) (k here : ℕ) (o : Order) : Type 0 where
  pub before : List Coded
  pub behind : List Coded
  pub is : templates names at number left list ≡ before ++ (pieces_by names (at + size_to (is_short names.reach) number left list k) here (block_at (left_at left list k) (drop k list)) o ++ behind)
  pub size : length (blanks before) ≡ size_to (is_short names.reach) number left list k

-- the order at a place of the list has the number of the first one and that place
pub in_middle : (names : Names) (at number left : ℕ) (list : List Order) (k here : ℕ) (o : Order) → here ≡ number + k → slice_get list k ≡ Some o → InMiddle names at number left list k here o
in_middle names at number left [] k here o is e = absurd (cc)
in_middle names at number left (x ∷ xs) zero here o is e =
    let b = block_at left (x ∷ xs) in
    let behind = templates names (at + size_by (is_short names.reach) number b x) (suc number) (orders_left b) xs in
    let same : x ≡ o = cc in
    let there : at ≡ at + 0 = omega arith in
    let first : number ≡ here = omega (arith, is) in
    record {
      before = [];
      behind = behind;
      is = ap (λ y. pieces_by names at number b y ++ behind) same ∙ ap₂ (λ n i. pieces_by names n i b o ++ behind) there first;
      size = refl;
    }
in_middle names at number left (x ∷ xs) (suc k) here o is e =
    let b = block_at left (x ∷ xs) in
    let short = is_short names.reach number b x in
    let next = at + block_size short b x in
    let m = in_middle names next (suc number) (orders_left b) xs k here o (omega (arith, is)) e in
    let X = block_pieces names at number short b x in
    let size = size_to (is_short names.reach) (suc number) (orders_left b) xs k in
    let there : next + size ≡ at + (block_size short b x + size) = omega arith in
    let long = ap length (blanks-append X m.before) ∙ length-append (blanks X) (blanks m.before) in
    let c : Block = block_at (left_at (orders_left b) xs k) (drop k xs) in
    record {
      before = X ++ m.before;
      behind = m.behind;
      is = ap (λ l. X ++ l) m.is ∙ sym (append_assoc X m.before (pieces_by names (next + size) here c o ++ m.behind)) ∙ ap (λ n. (X ++ m.before) ++ (pieces_by names n here c o ++ m.behind)) there;
      size = omega (arith, long, m.size, size_everywhere names at number short b x);
    }

-- ---- places

pub places_are : (forms : Forms) (at number left : ℕ) (os : List Order) (k : ℕ) → k ≤ length os → get_or (places_from forms at number left os) k 0 ≡ at + size_to forms number left os k
places_are forms at number left [] zero le = omega arith
places_are forms at number left [] (suc k) le = absurd (omega arith)
places_are forms at number left (o ∷ os) zero le = omega arith
places_are forms at number left (o ∷ os) (suc k) le =
    let b = block_at left (o ∷ os) in
    omega (arith, places_are forms (at + size_by forms number b o) (suc number) (orders_left b) os k (omega arith))

within : (os : List Order) (k : ℕ) (o : Order) → slice_get os k ≡ Some o → k ≤ length os
within [] k o e = absurd (cc)
within (x ∷ xs) zero o e = omega arith
within (x ∷ xs) (suc k) o e = omega (arith, within xs k o e)

pub stands_at : (names : Names) (os : List Order) (k : ℕ) (o : Order) → slice_get os k ≡ Some o
    → StandsAt (templates names entry_size 0 0 os) (slice_index (places_by (is_short names.reach) os) k) (pieces_by names (slice_index (places_by (is_short names.reach) os) k) k (block_at (left_at 0 os k) (drop k os)) o)
stands_at names os k o e =
    let forms = is_short names.reach in
    let m = in_middle names entry_size 0 0 os k k o (omega arith) e in
    let place : slice_index (places_by forms os) k ≡ entry_size + size_to forms 0 0 os k = places_are forms entry_size 0 0 os k (within os k o e) in
    let long = ap length (blanks-append entry_pieces m.before) ∙ length-append (blanks entry_pieces) (blanks m.before) in
    record {
      before = m.before;
      behind = m.behind;
      is = m.is ∙ ap (λ n. m.before ++ (pieces_by names n k (block_at (left_at 0 os k) (drop k os)) o ++ m.behind)) (sym place);
      place_is = place ∙ (omega (arith, long, m.size));
    }

-- where the code of the order at a place of the list begins in that of its segment
abbrev pub own_place : Orders → (place : ℕ) → ℕ
own_place o k = entry_size + size_to (is_short (reach_of o)) 0 0 o.list k

-- a mark that the list of marks has, at a place of the list or at its end
pub mark_start : (o : Orders) (mark place : ℕ) → slice_get o.marks mark ≡ Some place → place ≤ length o.list → mark_starts o mark ≡ own_place o place
mark_start o mark place e le = ap (slice_index (order_places o)) (got o.marks mark place e) ∙ places_are (is_short (reach_of o)) entry_size 0 0 o.list place le
  where
    got : (marks : List ℕ) (mark place : ℕ) → slice_get marks mark ≡ Some place → slice_index marks mark ≡ place
    got [] mark place e = absurd (cc)
    got (x ∷ xs) zero place e = cc
    got (x ∷ xs) (suc n) place e = got xs n place e

-- a jump by the distance to a place
pub jump_arrives : (base own n to : ℕ) → (base + own + n + distance (own + n) to) % 65536 ≡ (base + to) % 65536
jump_arrives base own n to = omega arith

-- ---- the code of a block is not longer than its orders in a list

-- no address behind this order is that of a block's store
abbrev NoSave : Order → Type 0
NoSave order.Save = ⊥
NoSave _ = Unit {0}

unsaved : (o : Order) → NoSave o → (x y : Order) → size_behind (Some o) (Some x) y ≡ size_behind None (Some x) y
unsaved order.Save h x y = absurd h
unsaved o h x y = refl

behind_unsaved : (o : Order) → NoSave o → (x : Order) (os : List Order) → sizes_behind (Some o) (Some x) os ≡ sizes_behind None (Some x) os
behind_unsaved o h x [] = refl
behind_unsaved o h x (y ∷ ys) = ap (λ n. n + sizes_behind (Some x) (Some y) ys) (unsaved o h x y)

-- behind an order that is neither a save nor the address of a word
behind_other : (before : Option Order) (o : Order) → NoSave o → ((x : Order) → size_behind before (Some o) x ≡ 0 + size_in_list x) → (owed (Some o) ≡ 0) → (os : List Order) → sizes_behind before (Some o) os ≡ listed_sizes os
behind_other before o h same none [] = none
behind_other before o h same none (x ∷ xs) = ap₂ (λ m n. m + n) (same x) (behind_unsaved o h x xs)

-- behind a save that is a block of its own
behind_save : (x : Order) → ((y : Order) → size_behind (Some order.Save) (Some x) y ≡ size_behind None (Some x) y) → (os : List Order) → sizes_behind (Some order.Save) (Some x) os ≡ sizes_behind None (Some x) os
behind_save x same [] = refl
behind_save x same (y ∷ ys) = ap (λ n. n + sizes_behind (Some x) (Some y) ys) (same y)

-- what is fetched from a place is no order alone
fetch_single : (x : Place) → block.Fetch x ≡ block.Single → ⊥
fetch_single x is = cc

fetched_never_single : (x : Place) (e : Option Element) (os : List Order) → fetched_or e os (block.Fetch x) ≡ block.Single → ⊥
fetched_never_single x None os is = fetch_single x is
fetched_never_single x (Some e) os is = cases (slice_get os (length (element_orders e))) is
  where
    cases : (o : Option Order) → element_fetched e o (block.Fetch x) ≡ block.Single → ⊥
    cases (Some order.Load) is = cc
    cases _ is = fetch_single x is

-- nor is it with a comparison or another word behind it
compared_never_single : (n : ℕ) (saves puts jumps : Option Order) (other : Block) → (other ≡ block.Single → ⊥) → compared_or n saves puts jumps other ≡ block.Single → ⊥
compared_never_single n (Some order.Save) (Some (order.Const w)) (Some (order.JumpIf c m)) other never is = cc
compared_never_single n _ _ _ other never is = never is

both_never_single : (n : ℕ) (saves : Option Order) (saved next : Block) → both_or n saves saved next (block.Fetch (cell.Frame n)) ≡ block.Single → ⊥
both_never_single n (Some order.Save) block.Single (block.Fetch (cell.Frame m)) is = cc
both_never_single n _ _ _ is = fetch_single (cell.Frame n) is

joined_single : (b : Block) (os : List Order) → joined b os ≡ block.Single → b ≡ block.Single
joined_single (block.Fetch (cell.Frame n)) os is = absurd (compared_never_single n (slice_get os 2) (slice_get os 3) (slice_get os 4) (fetched_behind n os) (both_never_single n (slice_get os 2) (block_alone (drop 2 os)) (block_alone (drop 3 os))) is)
joined_single b os is = is

-- an order and one behind it, which has no fewer bytes there than alone
before_fits : (o x : Order) (os : List Order) → size_in_list o + owed (Some o) ≡ listed_size o → size_behind None (Some o) x ≡ owed (Some o) + size_in_list x → sizes_behind (Some o) (Some x) os ≡ sizes_behind None (Some x) os
    → listed_size o + listed_sizes (x ∷ os) ≤ listed_sizes (o ∷ x ∷ os)
before_fits o x os size next same = omega (arith, size, next, same)

-- an order that owes no bytes, and those behind it
other_fits : (o : Order) (os : List Order) → size_in_list o ≡ listed_size o → sizes_behind None (Some o) os ≡ listed_sizes os → listed_size o + listed_sizes os ≤ listed_sizes (o ∷ os)
other_fits o os size same = omega (arith, size, same)

-- an order alone, and the orders behind it
single_fits : (o : Order) (os : List Order) → block_of (o ∷ os) ≡ block.Single → listed_size o + listed_sizes os ≤ listed_sizes (o ∷ os)
single_fits order.Save [] is = omega arith
single_fits order.Save (order.Home f n ∷ []) is = omega arith
single_fits order.Save (order.Home f n ∷ order.Store ∷ os) is = absurd (cc)
single_fits order.Save (order.Home f n ∷ o ∷ os) is = before_fits order.Save (order.Home f n) (o ∷ os) refl refl refl
single_fits order.Save (order.FrameHome n ∷ []) is = omega arith
single_fits order.Save (order.FrameHome n ∷ order.Store ∷ os) is = absurd (cc)
single_fits order.Save (order.FrameHome n ∷ o ∷ os) is = before_fits order.Save (order.FrameHome n) (o ∷ os) refl refl refl
single_fits order.Save (x ∷ os) is = before_fits order.Save x os refl refl (behind_save x (λ y. refl) os)
single_fits (order.Home f n) [] is = omega arith
single_fits (order.Home f n) (order.Load ∷ os) is = absurd (fetched_never_single (cell.Word f n) (element_at (Some (cell.Word f n)) (order.Home f n ∷ order.Load ∷ os)) (order.Home f n ∷ order.Load ∷ os) (joined_single _ (order.Home f n ∷ order.Load ∷ os) is))
single_fits (order.Home f n) (x ∷ os) is = before_fits (order.Home f n) x os refl refl (behind_unsaved (order.Home f n) tt x os)
single_fits (order.FrameHome n) [] is = omega arith
single_fits (order.FrameHome n) (order.Load ∷ os) is = absurd (fetched_never_single (cell.Frame n) (element_at (Some (cell.Frame n)) (order.FrameHome n ∷ order.Load ∷ os)) (order.FrameHome n ∷ order.Load ∷ os) (joined_single _ (order.FrameHome n ∷ order.Load ∷ os) is))
single_fits (order.FrameHome n) (x ∷ os) is = before_fits (order.FrameHome n) x os refl refl (behind_unsaved (order.FrameHome n) tt x os)
single_fits o os is = other_fits o os refl (behind_other None o tt (λ x. refl) refl os)

pub listed : (o : Order) → order_size o ≡ listed_size o
listed (order.Const zero) = refl
listed (order.Const (suc w)) = refl
listed (order.JumpIf c m) = refl
listed (order.LoadPart t b is_signed) = omega (arith, part_long t b is_signed)
listed (order.StorePart t b) = store_part_long t b
listed (order.Take t b) = part_long t b false
listed (order.Rescale from to line) = rescale_long (nat_le from to) (2 ^ (to - from) == 32768) line from to
listed (order.Mul (pos zero) line) = refl
listed (order.Mul (pos (suc n)) line) = product_scaled_long (2 ^ suc n == 32768) line (2 ^ suc n)
listed (order.Mul (negsuc n) line) = product_down_long (nat_lt n 15) line n
listed (order.Div (pos n) line) = refl
listed (order.Div (negsuc n) line) = refl
listed (order.InBounds (pos zero) upper line) = refl
listed (order.InBounds (pos (suc n)) upper line) = refl
listed (order.InBounds (negsuc n) upper line) = refl
listed (order.NextStep x line m) = step_taken_long no_names 0 x line m
listed (order.LoopWay marks) = loop_way_long no_names 0 marks
listed (order.SwitchWay marks line) = switch_way_long no_names 0 line marks
listed (order.Enter zero) = refl
listed (order.Enter (suc n)) = refl
listed (order.Bind k family offset) = bind_long k family offset
listed (order.BindFrame k n) = bind_frame_long k n
listed (order.SpecialOut k) = special_out_long k
listed (order.CallSpecial k line) = call_special_long k line
listed (order.GoSpecial k) = go_special_long k
listed (order.GoSwitchSpecial k line) = go_switch_special_long k line
listed (order.Element lower span line) = element_long line lower
listed (order.ElementOfTwo lower second width line) = element_of_two_long line lower second width
listed (order.ElementInside lower second width span) = element_inside_long lower second width
listed (order.Entry width word span line) = entry_long line width word
listed _ = refl

-- words of the frame that are fetched and stored, and the blocks that begin with one
pub fetched_long : (n : ℕ) → pieces_size (address_pieces (cell.Frame n) ++ load_place (cell.Frame n) ∷ []) ≡ frame_size n + 5
fetched_long n = omega (arith, first_long (load ax (field (2 * n % 65536))) [], field_loaded ax (2 * n % 65536))

pub stored_long : (n : ℕ) → pieces_size (address_pieces (cell.Frame n) ++ store_place (cell.Frame n) ∷ []) ≡ frame_size n + 5
stored_long n = omega (arith, first_long (store (field (2 * n % 65536)) ax) [], field_stored ax (2 * n % 65536))

pub part_fetched_long : (n t b : ℕ) (is_signed : Bool) (o : Order) → block_size false (block.FetchPart (cell.Frame n) t b is_signed) o ≡ frame_size n + 5 + part_size t b is_signed
part_fetched_long n t b is_signed o = omega (arith, first_long (load ax (field (2 * n % 65536))) (part_taken t b is_signed), field_loaded ax (2 * n % 65536), part_long t b is_signed)

pub part_stored_long : (n t b : ℕ) (o : Order) → block_size false (block.AssignPart (cell.Frame n) t b) o ≡ shift_size b + (2 * frame_size n + 10)
part_stored_long n t b o =
    let last : List Coded = change_place 6 (cell.Frame n) ∷ [] in
    let taken : List Coded = operate_place 6 (cell.Frame n) ∷ coded.Whole (with_number 4 (field_mask t b)) ∷ last in
    omega (
      arith,
      appended_long (shifted_up b) (address_pieces (cell.Frame n) ++ taken),
      shifted_long (shift_up_once ax) (shift_up ax) b refl refl,
      first_long (operate 6 ax (field (2 * n % 65536))) (coded.Whole (with_number 4 (field_mask t b)) ∷ last),
      first_long (change 6 (field (2 * n % 65536)) ax) [],
      field_operated 6 ax (2 * n % 65536),
      field_changed 6 ax (2 * n % 65536),
    )

pub both_long : (n m : ℕ) (o : Order) → block_size false (block.FetchBoth n m) o ≡ frame_size n + (frame_size m + 8)
both_long n m o =
    let last : List Coded = coded.Whole (load ax (field (2 * m % 65536))) ∷ [] in
    omega (arith, first_long (load ax (field (2 * n % 65536))) (coded.Whole (i86.Push ax) ∷ last), first_long (load ax (field (2 * m % 65536))) [], field_loaded ax (2 * n % 65536), field_loaded ax (2 * m % 65536))

pub word_compared_long : (n w : ℕ) → pieces_size (word_compared n w) ≡ frame_size n + 7
word_compared_long n w = omega (arith, first_long (compare_number (field (2 * n % 65536)) w) [], field_compared (2 * n % 65536) w)

pub compare_word_long : (short : Bool) (n w : ℕ) (c : Comparator) (m : ℕ) (o : Order) → block_size short (block.CompareWord n w c m) o ≡ frame_size n + 7 + (if short then 2 else 5)
compare_word_long short n w c m o = omega (arith, compared_long short (word_compared n w) c (0 + pieces_size (word_compared n w)) (mark_place no_names m), word_compared_long n w)

-- an order that uses one
pub frame_with_long : (op n : ℕ) → length (blanks (with_operand op (simple.Contents (cell.Frame n)))) ≡ frame_size n + 5
frame_with_long op n = omega (arith, first_long (operate op ax (field (2 * n % 65536))) [], field_operated op ax (2 * n % 65536))

pub frame_used_long : (n : ℕ) (u : Use) → block_size false (block.Operate (simple.Contents (cell.Frame n)) u) order.Save ≡ frame_size n + 3 + used_size u
frame_used_long n (uses.Add line) = omega (arith, appended_long (with_operand 0 (simple.Contents (cell.Frame n))) (checked line), frame_with_long 0 n)
frame_used_long n (uses.Subtract line) = omega (arith, appended_long (with_operand 5 (simple.Contents (cell.Frame n))) (checked line), frame_with_long 5 n)
frame_used_long n (uses.Multiply line) =
    let last : List Coded = coded.Whole (multiply cx) ∷ checked line in
    omega (arith, first_long (load ax (field (2 * n % 65536))) last, field_loaded ax (2 * n % 65536))
frame_used_long n uses.Mask = omega (arith, frame_with_long 4 n)
frame_used_long n uses.Union = omega (arith, frame_with_long 1 n)
frame_used_long n uses.Differ = omega (arith, frame_with_long 6 n)
frame_used_long n (uses.Compare c m) =
    omega (arith, compared_long false (with_operand 7 (simple.Contents (cell.Frame n))) c (0 + pieces_size (with_operand 7 (simple.Contents (cell.Frame n)))) (mark_place no_names m), frame_with_long 7 n)

-- the orders of a block, and those behind it
fetch_fits : (x : Place) (rest : List Order) → pieces_size (address_pieces x ++ load_place x ∷ []) + listed_sizes rest ≤ listed_sizes (address_orders x ++ order.Load ∷ rest)
fetch_fits (cell.Word f n) rest = omega (arith, behind_other (Some (order.Home f n)) order.Load tt (λ x. refl) refl rest)
fetch_fits (cell.Frame n) rest = omega (arith, fetched_long n, frame_few n, behind_other (Some (order.FrameHome n)) order.Load tt (λ x. refl) refl rest)

assign_fits : (x : Place) (rest : List Order) → pieces_size (address_pieces x ++ store_place x ∷ []) + listed_sizes rest ≤ listed_sizes (order.Save ∷ (address_orders x ++ order.Store ∷ rest))
assign_fits (cell.Word f n) rest = omega (arith, behind_other (Some (order.Home f n)) order.Store tt (λ x. refl) refl rest)
assign_fits (cell.Frame n) rest = omega (arith, stored_long n, frame_few n, behind_other (Some (order.FrameHome n)) order.Store tt (λ x. refl) refl rest)

-- parts
fetch_part_fits : (x : Place) (t b : ℕ) (is_signed : Bool) (rest : List Order)
    → pieces_size (address_pieces x ++ load_place x ∷ part_taken t b is_signed) + listed_sizes rest ≤ listed_sizes (address_orders x ++ order.LoadPart t b is_signed ∷ rest)
fetch_part_fits (cell.Word f n) t b is_signed rest = omega (arith, part_long t b is_signed, behind_other (Some (order.Home f n)) (order.LoadPart t b is_signed) tt (λ x. refl) refl rest)
fetch_part_fits (cell.Frame n) t b is_signed rest = omega (arith, part_fetched_long n t b is_signed order.Save, frame_few n, behind_other (Some (order.FrameHome n)) (order.LoadPart t b is_signed) tt (λ x. refl) refl rest)

assign_part_fits : (x : Place) (t b : ℕ) (rest : List Order)
    → pieces_size (shifted_up b ++ (address_pieces x ++ operate_place 6 x ∷ coded.Whole (with_number 4 (field_mask t b)) ∷ change_place 6 x ∷ [])) + listed_sizes rest
    ≤ listed_sizes (order.Save ∷ (address_orders x ++ order.StorePart t b ∷ rest))
assign_part_fits x t b rest = cases x
  where
    changed : Place → List Coded
    changed y = address_pieces y ++ operate_place 6 y ∷ coded.Whole (with_number 4 (field_mask t b)) ∷ change_place 6 y ∷ []

    cases : (y : Place) → pieces_size (shifted_up b ++ changed y) + listed_sizes rest ≤ listed_sizes (order.Save ∷ (address_orders y ++ order.StorePart t b ∷ rest))
    cases (cell.Word f n) = omega (arith, appended_long (shifted_up b) (changed (cell.Word f n)), shifted_long (shift_up_once ax) (shift_up ax) b refl refl, behind_other (Some (order.Home f n)) (order.StorePart t b) tt (λ x. refl) refl rest)
    cases (cell.Frame n) = omega (arith, part_stored_long n t b order.Save, frame_few n, behind_other (Some (order.FrameHome n)) (order.StorePart t b) tt (λ x. refl) refl rest)

-- one more, and less
count_fits : (down : Bool) (line : ℕ) (rest : List Order) → 8 + listed_sizes rest ≤ listed_sizes (order.Save ∷ order.Const 1 ∷ count_order down line ∷ rest)
count_fits true line rest = omega (arith, behind_other (Some (order.Const 1)) (order.Sub line) tt (λ x. refl) refl rest)
count_fits false line rest = omega (arith, behind_other (Some (order.Const 1)) (order.Add line) tt (λ x. refl) refl rest)

count_long : (down : Bool) (line : ℕ) → block_size false (block.Count down line) order.Save ≡ 8
count_long true line = refl
count_long false line = refl

-- a shift in place of a product
short_shift : (n : ℕ) → shift_size n ≤ 5
short_shift zero = omega arith
short_shift (suc zero) = omega arith
short_shift (suc (suc n)) = omega arith

halve_fits : (w : ℕ) (power : ℤ) (places line : ℕ) (rest : List Order) → pieces_size (shifted_down_signed places) + listed_sizes rest ≤ listed_sizes (order.Save ∷ order.Const w ∷ order.Mul power line ∷ rest)
halve_fits w power places line rest =
    omega (arith, shifted_long (shift_down_signed_once ax) (shift_down_signed ax) places refl refl, short_shift places, product_size power, behind_other (Some (order.Const w)) (order.Mul power line) tt (λ x. refl) refl rest)
  where
    down : (b : Bool) → 5 ≤ (if b then 14 else 10)
    down true = omega arith
    down false = omega arith

    product_size : (s : ℤ) → 5 ≤ listed_size (order.Mul s line)
    product_size (pos zero) = omega arith
    product_size (pos (suc n)) = omega arith
    product_size (negsuc n) = down (nat_lt n 15)

-- the address of an element, and the orders that make it
pub index_long : (x : Place) (family offset : ℕ) → length (blanks (index_added x family offset)) ≡ index_size x
index_long (cell.Word f n) family offset = refl
index_long (cell.Frame n) family offset = omega (arith, first_long (operate 0 si (field (2 * n % 65536))) [], field_operated 0 si (2 * n % 65536))

pub loaded_long : (x : Place) → length (blanks (index_loaded x)) + 3 ≡ index_size x
loaded_long (cell.Word f n) = refl
loaded_long (cell.Frame n) = omega (arith, first_long (load si (field (2 * n % 65536))) [], field_loaded si (2 * n % 65536))

pub lower_long : (l : ℤ) → length (blanks (from_lower l)) ≡ lower_size l
lower_long (pos zero) = refl
lower_long (pos (suc n)) = refl
lower_long (negsuc n) = refl

-- of an element whose address is tested, and of one whose index is
pub address_long_as : (e : Element) (origin : ℕ) → length (blanks (address_tested e origin)) ≡ index_size e.index + 11
address_long_as e origin =
    let tested : List Coded = coded.Whole (compare si di) ∷ coded.Whole (jump_if_below 5) ∷ (call_stop address_entry e.line ++ coded.Whole (double si) ∷ []) in
    appended_long (index_added e.index e.family origin) tested ∙ ap (λ n. n + 11) (index_long e.index e.family origin)

pub index_long_as : (e : Element) (upper : ℤ) (line : ℕ) → length (blanks (index_tested e upper line)) ≡ index_size e.index + lower_size e.lower + 14
index_long_as e upper line =
    let tested : List Coded = index_below (indexes_between (upper -ℤ e.lower)) line e.family e.first in
    omega (arith, appended_long (index_loaded e.index) (from_lower e.lower ++ tested), appended_long (from_lower e.lower) tested, loaded_long e.index, lower_long e.lower)

tested_long_as : (e : Element) (t : Test) → length (blanks (element_tested e t)) ≡ element_size e t
tested_long_as e (test.Address origin) = address_long_as e origin
tested_long_as e (test.Bounds upper line) = index_long_as e upper line

pub element_long_as : (e : Element) → length (blanks (element_address e)) ≡ element_size e e.test
element_long_as e = tested_long_as e e.test

pub element_with_long : (op : ℕ) (e : Element) → length (blanks (with_operand op (simple.Element e))) ≡ element_size e e.test + 2
element_with_long op e = appended_long (element_address e) (coded.Whole (operate op ax at_si) ∷ []) ∙ ap (λ n. n + 2) (element_long_as e)

pub element_used_long : (e : Element) (u : Use) → block_size false (block.Operate (simple.Element e) u) order.Save ≡ element_size e e.test + used_size u
element_used_long e (uses.Add line) = omega (arith, appended_long (with_operand 0 (simple.Element e)) (checked line), element_with_long 0 e)
element_used_long e (uses.Subtract line) = omega (arith, appended_long (with_operand 5 (simple.Element e)) (checked line), element_with_long 5 e)
element_used_long e (uses.Multiply line) =
    let last : List Coded = coded.Whole (load ax at_si) ∷ coded.Whole (multiply cx) ∷ [] in
    omega (arith, appended_long (product_with (simple.Element e)) (checked line), appended_long (element_address e) last, element_long_as e)
element_used_long e uses.Mask = element_with_long 4 e
element_used_long e uses.Union = element_with_long 1 e
element_used_long e uses.Differ = element_with_long 6 e
element_used_long e (uses.Compare c m) =
    let end : ℕ = 0 + pieces_size (with_operand 7 (simple.Element e)) + 5 in
    omega (arith, appended_long (with_operand 7 (simple.Element e)) (branch c end (mark_place no_names m)), element_with_long 7 e)

pub element_at_long : (e : Element) (i : Instr) → length (bytes_of i) ≡ 2 → length (blanks (element_address e ++ coded.Whole i ∷ [])) ≡ element_size e e.test + 2
element_at_long e i two = omega (arith, appended_long (element_address e) (coded.Whole i ∷ []), appended_one i, two, element_long_as e)

-- there is room for it
address_orders_fit : (x : Place) (f n : ℕ) (l : ℤ) (s line : ℕ) (o : Order) (rest : List Order)
    → (let list : List Order = address_orders x ++ (order.Load ∷ order.Save ∷ order.Home f n ∷ order.Element l s line ∷ o ∷ rest) in
    let behind : ℕ = size_behind (Some (order.Home f n)) (Some (order.Element l s line)) o + sizes_behind (Some (order.Element l s line)) (Some o) rest in
    (index_size x + 20 + behind ≤ listed_sizes list) × (index_size x + 20 + behind ≤ listed_sizes (order.Save ∷ list)))
address_orders_fit (cell.Word f' n') f n l s line o rest = (omega arith, omega arith)
address_orders_fit (cell.Frame n') f n l s line o rest = (omega (arith, frame_few n'), omega (arith, frame_few n'))

short_lower : (l : ℤ) → lower_size l ≤ 4
short_lower (pos zero) = omega arith
short_lower (pos (suc n)) = omega arith
short_lower (negsuc n) = omega arith

bounds_some : (l : ℤ) → top_lower_size l + 10 ≤ bounds_size l
bounds_some (pos zero) = omega arith
bounds_some (pos (suc n)) = omega arith
bounds_some (negsuc n) = omega arith

bounds_orders_fit : (x : Place) (f n : ℕ) (l u : ℤ) (at s line : ℕ) (o : Order) (rest : List Order)
    → (let list : List Order = address_orders x ++ (order.Load ∷ order.InBounds l u at ∷ order.Save ∷ order.Home f n ∷ order.Element l s line ∷ o ∷ rest) in
    let behind : ℕ = size_behind (Some (order.Home f n)) (Some (order.Element l s line)) o + sizes_behind (Some (order.Element l s line)) (Some o) rest in
    (index_size x + lower_size l + 23 + behind ≤ listed_sizes list) × (index_size x + lower_size l + 23 + behind ≤ listed_sizes (order.Save ∷ list)))
bounds_orders_fit (cell.Word f' n') f n l u at s line o rest = (omega (arith, short_lower l, bounds_some l), omega (arith, short_lower l, bounds_some l))
bounds_orders_fit (cell.Frame n') f n l u at s line o rest = (omega (arith, short_lower l, bounds_some l, frame_few n'), omega (arith, short_lower l, bounds_some l, frame_few n'))

-- an order behind them
element_last : (e : Element) (o : Order) (rest : List Order)
    → (let behind : ℕ = size_behind (Some (order.Home e.family e.first)) (Some (order.Element e.lower e.span e.line)) o + sizes_behind (Some (order.Element e.lower e.span e.line)) (Some o) rest in
    (element_size e e.test + 9 + behind ≤ listed_sizes (element_orders e ++ o ∷ rest)) × (element_size e e.test + 9 + behind ≤ listed_sizes (order.Save ∷ (element_orders e ++ o ∷ rest))))
element_last e o rest = cases e.test
  where
    A : List Order
    A = address_orders e.index

    behind : ℕ
    behind = size_behind (Some (order.Home e.family e.first)) (Some (order.Element e.lower e.span e.line)) o + sizes_behind (Some (order.Element e.lower e.span e.line)) (Some o) rest

    made : Test → List Order
    made t = order.Load ∷ (bounds_orders e.lower t ++ order.Save ∷ order.Home e.family e.first ∷ order.Element e.lower e.span e.line ∷ [])

    Fits : Test → List Order → Type 0
    Fits t list = (element_size e t + 9 + behind ≤ listed_sizes list) × (element_size e t + 9 + behind ≤ listed_sizes (order.Save ∷ list))

    cases : (t : Test) → Fits t ((A ++ made t) ++ o ∷ rest)
    cases (test.Address origin) =
        let h = address_orders_fit e.index e.family e.first e.lower e.span e.line o rest in
        subst (λ list. Fits (test.Address origin) list) (sym (append_assoc A (made (test.Address origin)) (o ∷ rest))) (omega (arith, h.0), omega (arith, h.1))
    cases (test.Bounds upper line) =
        let h = bounds_orders_fit e.index e.family e.first e.lower upper line e.span e.line o rest in
        subst (λ list. Fits (test.Bounds upper line) list) (sym (append_assoc A (made (test.Bounds upper line)) (o ∷ rest))) (omega (arith, h.0), omega (arith, h.1))

fetch_element_fits : (e : Element) (rest : List Order) → pieces_size (element_address e ++ coded.Whole (load ax at_si) ∷ []) + listed_sizes rest ≤ listed_sizes (element_orders e ++ order.Load ∷ rest)
fetch_element_fits e rest =
    omega (arith, appended_long (element_address e) (coded.Whole (load ax at_si) ∷ []), element_long_as e, (element_last e order.Load rest).0, behind_other (Some (order.Element e.lower e.span e.line)) order.Load tt (λ x. refl) refl rest)

assign_element_fits : (e : Element) (rest : List Order) → pieces_size (element_address e ++ coded.Whole (store at_si ax) ∷ []) + listed_sizes rest ≤ listed_sizes (order.Save ∷ (element_orders e ++ order.Store ∷ rest))
assign_element_fits e rest =
    omega (arith, appended_long (element_address e) (coded.Whole (store at_si ax) ∷ []), element_long_as e, (element_last e order.Store rest).1, behind_other (Some (order.Element e.lower e.span e.line)) order.Store tt (λ x. refl) refl rest)

-- behind an order that takes a simple operand
used_last : (before : Order) (u : Use) (rest : List Order) → sizes_behind (Some before) (Some (order_of u)) rest ≡ listed_sizes rest
used_last before (uses.Add line) rest = behind_other (Some before) (order.Add line) tt (λ x. refl) refl rest
used_last before (uses.Subtract line) rest = behind_other (Some before) (order.Sub line) tt (λ x. refl) refl rest
used_last before (uses.Multiply line) rest = behind_other (Some before) (order.Mul (pos 0) line) tt (λ x. refl) refl rest
used_last before uses.Mask rest = behind_other (Some before) order.And tt (λ x. refl) refl rest
used_last before uses.Union rest = behind_other (Some before) order.Or tt (λ x. refl) refl rest
used_last before uses.Differ rest = behind_other (Some before) order.Xor tt (λ x. refl) refl rest
used_last before (uses.Compare c m) rest = behind_other (Some before) (order.JumpIf c m) tt (λ x. refl) refl rest

operate_element_fits : (e : Element) (u : Use) (rest : List Order) → pieces_size (operated no_names 0 0 false (simple.Element e) u) + listed_sizes rest ≤ listed_sizes (order.Save ∷ (operand_orders (simple.Element e) ++ order_of u ∷ rest))
operate_element_fits e u rest = element u (used_last order.Load u rest)
  where
    listed_behind : (u : Use) → sizes_behind (Some order.Load) (Some (order_of u)) rest ≡ listed_sizes rest → element_size e e.test + 14 + listed_size (order_of u) + listed_sizes rest ≤ listed_sizes (order.Save ∷ (operand_orders (simple.Element e) ++ order_of u ∷ rest))
    listed_behind u same =
        let A = element_orders e in
        let list : A ++ (order.Load ∷ order_of u ∷ rest) ≡ (A ++ order.Load ∷ []) ++ order_of u ∷ rest = sym (append_assoc A (order.Load ∷ []) (order_of u ∷ rest)) in
        let sizes : listed_sizes (order.Save ∷ (A ++ (order.Load ∷ order_of u ∷ rest))) ≡ listed_sizes (order.Save ∷ ((A ++ order.Load ∷ []) ++ order_of u ∷ rest)) = ap (λ l. listed_sizes (order.Save ∷ l)) list in
        use_behind u same sizes
      where
        use_behind : (u : Use) → sizes_behind (Some order.Load) (Some (order_of u)) rest ≡ listed_sizes rest
            → listed_sizes (order.Save ∷ (element_orders e ++ (order.Load ∷ order_of u ∷ rest))) ≡ listed_sizes (order.Save ∷ ((element_orders e ++ order.Load ∷ []) ++ order_of u ∷ rest))
            → element_size e e.test + 14 + listed_size (order_of u) + listed_sizes rest ≤ listed_sizes (order.Save ∷ ((element_orders e ++ order.Load ∷ []) ++ order_of u ∷ rest))
        use_behind (uses.Add line) same sizes = omega (arith, same, sizes, (element_last e order.Load (order.Add line ∷ rest)).1)
        use_behind (uses.Subtract line) same sizes = omega (arith, same, sizes, (element_last e order.Load (order.Sub line ∷ rest)).1)
        use_behind (uses.Multiply line) same sizes = omega (arith, same, sizes, (element_last e order.Load (order.Mul (pos 0) line ∷ rest)).1)
        use_behind uses.Mask same sizes = omega (arith, same, sizes, (element_last e order.Load (order.And ∷ rest)).1)
        use_behind uses.Union same sizes = omega (arith, same, sizes, (element_last e order.Load (order.Or ∷ rest)).1)
        use_behind uses.Differ same sizes = omega (arith, same, sizes, (element_last e order.Load (order.Xor ∷ rest)).1)
        use_behind (uses.Compare c m) same sizes = omega (arith, same, sizes, (element_last e order.Load (order.JumpIf c m ∷ rest)).1)

    element : (u : Use) → sizes_behind (Some order.Load) (Some (order_of u)) rest ≡ listed_sizes rest
        → pieces_size (operated no_names 0 0 false (simple.Element e) u) + listed_sizes rest ≤ listed_sizes (order.Save ∷ (operand_orders (simple.Element e) ++ order_of u ∷ rest))
    element (uses.Add line) same = omega (arith, listed_behind (uses.Add line) same, element_used_long e (uses.Add line))
    element (uses.Subtract line) same = omega (arith, listed_behind (uses.Subtract line) same, element_used_long e (uses.Subtract line))
    element (uses.Multiply line) same = omega (arith, listed_behind (uses.Multiply line) same, element_used_long e (uses.Multiply line))
    element uses.Mask same = omega (arith, listed_behind uses.Mask same, element_used_long e uses.Mask)
    element uses.Union same = omega (arith, listed_behind uses.Union same, element_used_long e uses.Union)
    element uses.Differ same = omega (arith, listed_behind uses.Differ same, element_used_long e uses.Differ)
    element (uses.Compare c m) same = omega (arith, listed_behind (uses.Compare c m) same, element_used_long e (uses.Compare c m))

number_some : (w : ℕ) → 2 ≤ number_size w
number_some zero = omega arith
number_some (suc w) = omega arith

operate_fits : (s : Simple) (u : Use) (rest : List Order) → pieces_size (operated no_names 0 0 false s u) + listed_sizes rest ≤ listed_sizes (order.Save ∷ (operand_orders s ++ order_of u ∷ rest))
operate_fits (simple.Element e) u rest = operate_element_fits e u rest
operate_fits (simple.Number w) u rest = number u (used_last (order.Const w) u rest)
  where
    some : 2 ≤ number_size w
    some = number_some w

    number : (u : Use) → sizes_behind (Some (order.Const w)) (Some (order_of u)) rest ≡ listed_sizes rest → pieces_size (operated no_names 0 0 false (simple.Number w) u) + listed_sizes rest ≤ listed_sizes (order.Save ∷ order.Const w ∷ order_of u ∷ rest)
    number (uses.Add line) e = omega (arith, e, some)
    number (uses.Subtract line) e = omega (arith, e, some)
    number (uses.Multiply line) e = omega (arith, e, some)
    number uses.Mask e = omega (arith, e, some)
    number uses.Union e = omega (arith, e, some)
    number uses.Differ e = omega (arith, e, some)
    number (uses.Compare c m) e = omega (arith, e, some)
operate_fits (simple.Contents (cell.Word f n)) u rest = word u (used_last order.Load u rest)
  where
    word : (u : Use) → sizes_behind (Some order.Load) (Some (order_of u)) rest ≡ listed_sizes rest
        → pieces_size (operated no_names 0 0 false (simple.Contents (cell.Word f n)) u) + listed_sizes rest ≤ listed_sizes (order.Save ∷ order.Home f n ∷ order.Load ∷ order_of u ∷ rest)
    word (uses.Add line) e = omega (arith, e)
    word (uses.Subtract line) e = omega (arith, e)
    word (uses.Multiply line) e = omega (arith, e)
    word uses.Mask e = omega (arith, e)
    word uses.Union e = omega (arith, e)
    word uses.Differ e = omega (arith, e)
    word (uses.Compare c m) e = omega (arith, e)
operate_fits (simple.Contents (cell.Frame n)) u rest = word u (used_last order.Load u rest) (frame_used_long n u)
  where
    few : frame_size n ≤ 2
    few = frame_few n

    word : (u : Use) → sizes_behind (Some order.Load) (Some (order_of u)) rest ≡ listed_sizes rest → block_size false (block.Operate (simple.Contents (cell.Frame n)) u) order.Save ≡ frame_size n + 3 + used_size u
        → block_size false (block.Operate (simple.Contents (cell.Frame n)) u) order.Save + listed_sizes rest ≤ listed_sizes (order.Save ∷ order.FrameHome n ∷ order.Load ∷ order_of u ∷ rest)
    word (uses.Add line) e size = omega (arith, e, size, few)
    word (uses.Subtract line) e size = omega (arith, e, size, few)
    word (uses.Multiply line) e size = omega (arith, e, size, few)
    word uses.Mask e size = omega (arith, e, size, few)
    word uses.Union e size = omega (arith, e, size, few)
    word uses.Differ e size = omega (arith, e, size, few)
    word (uses.Compare c m) e size = omega (arith, e, size, few)

-- an index that is compared with bounds, and the address that is formed of it
pub formed_long : (f n : ℕ) (w : Form) → length (blanks (formed f n w)) ≡ formed_size w
formed_long f n (form.Element span line) = refl
formed_long f n (form.Entry width word span line) = cases (width == 1)
  where
    cases : (one : Bool) → length (blanks ((if one then [] else coded.Whole (set_word bx width) ∷ coded.Whole (multiply bx) ∷ []) ++ coded.Sum ax (target.Word f (n + word)) ∷ [])) ≡ (if one then 4 else 9)
    cases true = refl
    cases false = refl

pub bounded_long : (b : Bounded) → block_size false (block.Bounded b) order.Save ≡ top_lower_size b.bounds.lower + 10 + formed_size b.form
bounded_long b =
    let test : List Coded = top_below b.bounds.line (indexes_between (b.bounds.upper -ℤ b.bounds.lower)) in
    let last : List Coded = formed b.family b.first b.form in
    omega (arith, appended_long (top_from_lower b.bounds.lower) (test ++ last), appended_long test last, top_lower_long b.bounds.lower, formed_long b.family b.first b.form)

bounded_fits : (b : Bounded) (rest : List Order) → top_lower_size b.bounds.lower + 10 + formed_size b.form + listed_sizes rest ≤ listed_sizes (orders_to_form b ++ form_order b.bounds.lower b.form ∷ rest)
bounded_fits b rest = cases b.form
  where
    one : (i : Bool) → (if i then 4 else 9) ≤ 9
    one true = omega arith
    one false = omega arith

    cases : (w : Form) → top_lower_size b.bounds.lower + 10 + formed_size w + listed_sizes rest ≤ listed_sizes (orders_to_form b ++ form_order b.bounds.lower w ∷ rest)
    cases (form.Element span line) =
        omega (arith, bounds_some b.bounds.lower, behind_other (Some (order.Home b.family b.first)) (order.Element b.bounds.lower span line) tt (λ x. refl) refl rest)
    cases (form.Entry width word span line) =
        omega (arith, one (width == 1), bounds_some b.bounds.lower, behind_other (Some (order.Home b.family b.first)) (order.Entry width word span line) tt (λ x. refl) refl rest)

-- two indexes that are compared with bounds, and the address of both
pub column_long : (c : Column) → length (blanks (column_loaded c)) ≡ column_size c
column_long (column.Number w) = refl
column_long (column.Contents (cell.Word f n)) = refl
column_long (column.Contents (cell.Frame n)) = omega (arith, loaded_long (cell.Frame n))

pub row_long : (r : Row) → block_size false (block.Row r) order.Save ≡ row_size r
row_long r =
    let first : List Coded = top_below r.rows.line (indexes_between (r.rows.upper -ℤ r.rows.lower)) in
    let test : List Coded = column_below r.columns.line (indexes_between (r.columns.upper -ℤ r.columns.lower)) in
    let base : List Coded = formed r.family r.first (form.Entry r.width 0 r.span r.columns.line) in
    let sum : List Coded = coded.Whole (add ax si) ∷ [] in
    omega (
      arith,
      appended_long (top_from_lower r.rows.lower) (first ++ column_tested r),
      appended_long first (column_tested r),
      appended_long (column_loaded r.column) (from_lower r.columns.lower ++ (test ++ row_summed r)),
      appended_long (from_lower r.columns.lower) (test ++ row_summed r),
      appended_long test (row_summed r),
      appended_long base sum,
      top_lower_long r.rows.lower,
      column_long r.column,
      lower_long r.columns.lower,
      formed_long r.family r.first (form.Entry r.width 0 r.span r.columns.line),
    )

row_fits : (r : Row) (rest : List Order) → row_size r + listed_sizes rest ≤ listed_sizes (orders_to_row r ++ row_order r ∷ rest)
row_fits r rest = cases r.column
  where
    times : formed_size (form.Entry r.width 0 r.span r.columns.line) ≡ times_entry_size r.width + 4
    times = one (r.width == 1)
      where
        one : (i : Bool) → (if i then 4 else 9) ≡ (if i then 0 else 5) + 4
        one true = refl
        one false = refl

    same : sizes_behind (Some (order.Home r.family r.first)) (Some (row_order r)) rest ≡ listed_sizes rest
    same = behind_other (Some (order.Home r.family r.first)) (row_order r) tt (λ x. refl) refl rest

    cases : (c : Column) → top_lower_size r.rows.lower + column_size c + lower_size r.columns.lower + formed_size (form.Entry r.width 0 r.span r.columns.line) + 23 + listed_sizes rest
        ≤ listed_sizes ((order.InBounds r.rows.lower r.rows.upper r.rows.line ∷ order.Save ∷ (column_orders c ++ orders_in_row r)) ++ row_order r ∷ rest)
    cases (column.Number w) = omega (arith, same, times, bounds_some r.rows.lower, bounds_some r.columns.lower, short_lower r.columns.lower, number_some w)
    cases (column.Contents (cell.Word f n)) = omega (arith, same, times, bounds_some r.rows.lower, bounds_some r.columns.lower, short_lower r.columns.lower)
    cases (column.Contents (cell.Frame n)) = omega (arith, same, times, bounds_some r.rows.lower, bounds_some r.columns.lower, short_lower r.columns.lower, frame_few n)

-- a block, and the orders behind it
abbrev FromBlock : Block → Order → List Order → Type 0
FromBlock b o os = block_size false b o + listed_sizes (drop (orders_left b) os) ≤ listed_sizes (o ∷ os)

block_fits : (o : Order) (os : List Order) → FromBlock (block_of (o ∷ os)) o os
block_fits o os = cases (block_of (o ∷ os)) refl (shape (o ∷ os))
  where
    all : List Order
    all = o ∷ os

    cases : (b : Block) → block_of (o ∷ os) ≡ b → IsBlock b (o ∷ os) → FromBlock b o os
    cases (block.Within n) is sh = absurd sh
    cases block.Single is sh = omega (arith, listed o, single_fits o os is)
    cases (block.Fetch x) is sh = omega (arith, fetch_fits x (drop (length (address_orders x)) os), ap listed_sizes sh)
    cases (block.Assign x) is sh = omega (arith, assign_fits x (drop (suc (length (address_orders x))) os), ap listed_sizes sh)
    cases block.Write is sh = omega (arith, ap listed_sizes sh, behind_other (Some order.Save) order.WriteByte tt (λ x. refl) refl (drop 1 os))
    cases (block.Divide w line) is sh = omega (arith, ap listed_sizes sh.0, behind_other (Some (order.Const w)) (order.Div (pos 0) line) tt (λ x. refl) refl (drop 2 os))
    cases (block.Operate s u) is sh = omega (arith, operate_fits s u (drop (suc (length (operand_orders s))) os), ap listed_sizes sh.0)
    cases (block.FetchPart x t b is_signed) is sh = omega (arith, fetch_part_fits x t b is_signed (drop (length (address_orders x)) os), ap listed_sizes sh.0)
    cases (block.AssignPart x t b) is sh = omega (arith, assign_part_fits x t b (drop (suc (length (address_orders x))) os), ap listed_sizes sh.0)
    cases (block.FetchElement e) is sh = omega (arith, fetch_element_fits e (drop (length (element_orders e)) os), ap listed_sizes sh.0)
    cases (block.AssignElement e) is sh = omega (arith, assign_element_fits e (drop (suc (length (element_orders e))) os), ap listed_sizes sh.0)
    cases (block.Count down line) is sh = omega (arith, ap listed_sizes sh, count_fits down line (drop 2 os), count_long down line)
    cases (block.Halve w power places line) is sh = omega (arith, ap listed_sizes sh.0, halve_fits w power places line (drop 2 os))
    cases (block.Bounded b) is sh = omega (arith, ap listed_sizes sh.0, bounded_long b, bounded_fits b (drop 3 os))
    cases (block.Row r) is sh = omega (arith, ap listed_sizes sh.0, row_long r, row_fits r (drop (suc (suc (length (column_orders r.column ++ orders_in_row r)))) os))
    cases (block.FetchBoth n m) is sh = omega (arith, both_long n m o, frame_few n, frame_few m, ap listed_sizes sh, behind_other (Some (order.FrameHome m)) order.Load tt (λ x. refl) refl (drop 4 os))
    cases (block.CompareWord n w c m) is sh = omega (arith, compare_word_long false n w c m o, frame_few n, ap listed_sizes sh, number_some w, behind_other (Some (order.Const w)) (order.JumpIf c m) tt (λ x. refl) refl (drop 4 os))

whole_within : (names : Names) (place number left : ℕ) (os : List Order) → length (blanks (templates names place number left os)) ≤ listed_sizes (drop left os)
whole_within names place number zero [] = omega arith
whole_within names place number (suc n) [] = omega arith
whole_within names place number zero (o ∷ os) =
    let b = block_at 0 (o ∷ os) in
    let short = is_short names.reach number b o in
    let X = block_pieces names place number short b o in
    let rest = templates names (place + block_size short b o) (suc number) (orders_left b) os in
    let long = ap length (blanks-append X rest) ∙ length-append (blanks X) (blanks rest) in
    omega (arith, long, size_everywhere names place number short b o, shorter_by short b o, block_fits o os, whole_within names (place + block_size short b o) (suc number) (orders_left b) os)
whole_within names place number (suc n) (o ∷ os) = whole_within names (place + 0) (suc number) n os

pub whole : (names : Names) (place number : ℕ) (os : List Order) → length (blanks (templates names place number 0 os)) ≤ listed_sizes os
whole names place number os = whole_within names place number 0 os

-- ---- a list of orders

pub size_of_templates : (names : Names) (at number left : ℕ) (os : List Order) → length (blanks (templates names at number left os)) ≡ size_to (is_short names.reach) number left os (length os)
size_of_templates names at number left [] = refl
size_of_templates names at number left (o ∷ os) =
    let b = block_at left (o ∷ os) in
    let short = is_short names.reach number b o in
    let X = block_pieces names at number short b o in
    let rest = templates names (at + block_size short b o) (suc number) (orders_left b) os in
    let long = ap length (blanks-append X rest) ∙ length-append (blanks X) (blanks rest) in
    omega (arith, long, size_everywhere names at number short b o, size_of_templates names (at + block_size short b o) (suc number) (orders_left b) os)

-- where the landings start, which is the end of the orders' code
pub landings_at : (o : Orders) → landings_place o ≡ own_place o (length o.list)
landings_at o = places_are (is_short (reach_of o)) entry_size 0 0 o.list (length o.list) (omega arith)
