-- The code of blocks of orders. Each order has code, but for Mark, which only names a place, Start, whose statement begins with the code of the
-- next order, and Drop, behind which AX is free.
--
-- The top operand is in AX, or AX is free, as the orders have it; all others are on the stack of the processor. Addresses of the data area
-- are in words, and DI has their number. A stop is called in the library, with the line behind the call; a routine that may stop, and a call,
-- take the line in DX. The segment is told by the activation record. A jump goes by the distance from its end, so its code hangs on where it
-- stands, and on where the marks' code starts: both are places in the code of the segment. A jump to a mark is near, by a word; where its mark is
-- close by, a block that ends with the jump has a short one, by a byte. A block that ends with a check for an overflow calls the stop; where an earlier
-- block close by calls it with the same line, the check is a short jump back to that CALL.
use Rattle.std.specs.Prelude.{ℕ, ◌*◌, zero, suc, ◌+◌, ◌-◌, ◌%◌, ◌^◌, ◌==◌, ◌&&◌, nat_lt, nat_le, ℤ, pos, negsuc, ◌-ℤ◌, Bool}
use Rattle.std.specs.Prelude.{true, false, List, [], ◌∷◌, ◌++◌, length, if◌then◌else◌, Option, Some, None, slice_index}
use Rattle.cw_i86.specs.declared.instr.Instr.{Instr}
use Rattle.cw_i86.specs.declared.instr.Instr.TheVariants as i86
use Rattle.cw_run86.specs.Views.{with_number, Comparison, Equal, Unequal, Less, NotLess, AtMost, Greater, condition_of}
use Rattle.cw_unit.specs.declared.unit.Goal.{Goal}
use Rattle.cw_unit.specs.declared.unit.Goal.TheVariants as goal
use Rattle.cw_word.specs.BitField.{field_mask}
use Rattle.cw_word.specs.Word.{unsigned}
use Rattle.cw_order.specs.declared.order.Comparator.{Comparator}
use Rattle.cw_order.specs.declared.order.Comparator.TheVariants as comparator
use Rattle.cw_order.specs.declared.order.Order.{Order}
use Rattle.cw_order.specs.declared.order.LabelMark.{LabelMark}
use Rattle.cw_order.specs.declared.order.Order.TheVariants as order
use Rattle.cw_tmpl.specs.declared.pieces.Limit.TheVariants as limit
use Rattle.cw_tmpl.specs.declared.pieces.Target.{Target}
use Rattle.cw_tmpl.specs.declared.pieces.Target.TheVariants as target
use Rattle.cw_tmpl.specs.declared.pieces.Coded.{Coded}
use Rattle.cw_tmpl.specs.declared.pieces.Coded.TheVariants as coded
use Rattle.cw_order.specs.declared.order.Place.{Place}
use Rattle.cw_order.specs.declared.order.Place.TheVariants as cell
use Rattle.cw_tmpl.specs.declared.blocks.Element.{Element}
use Rattle.cw_tmpl.specs.declared.blocks.Test.{Test}
use Rattle.cw_tmpl.specs.declared.blocks.Test.TheVariants as test
use Rattle.cw_tmpl.specs.declared.blocks.Simple.{Simple}
use Rattle.cw_tmpl.specs.declared.blocks.Simple.TheVariants as simple
use Rattle.cw_tmpl.specs.declared.blocks.Form.{Form}
use Rattle.cw_tmpl.specs.declared.blocks.Form.TheVariants as form
use Rattle.cw_tmpl.specs.declared.blocks.Bounded.{Bounded}
use Rattle.cw_tmpl.specs.declared.rows.Column.{Column}
use Rattle.cw_tmpl.specs.declared.rows.Column.TheVariants as column
use Rattle.cw_tmpl.specs.declared.rows.Row.{Row}
use Rattle.cw_tmpl.specs.declared.blocks.Use.{Use}
use Rattle.cw_tmpl.specs.declared.blocks.Use.TheVariants as uses
use Rattle.cw_tmpl.specs.declared.blocks.Block.{Block}
use Rattle.cw_tmpl.specs.declared.blocks.Block.TheVariants as block
use Rattle.cw_tmpl.specs.Mnemonics.{ax, bx, cx, dx, sp, bp, si, di, segment_slot, base_slot, base_record, base_operands, record_depth, calls_slot, rest_slot, slot, first_argument}
use Rattle.cw_tmpl.specs.Mnemonics.{argument, at_bx, at_si, field, set_word, load, store, move, add, subtract, compare, exchange, negate, double, both, either, one_of}
use Rattle.cw_tmpl.specs.Mnemonics.{shift_up, shift_down, shift_down_signed, multiply, divide_signed, jump_to, jump_if_overflow, jump_if_no_overflow, jump_if_below, jump_if_not_below}
use Rattle.cw_tmpl.specs.Mnemonics.{jump_if_equal, jump_if_unequal, jump_if_not_less, jump_if_at_most, jump_if_cx_zero, operate, change, increase, decrease, shift_up_once}
use Rattle.cw_tmpl.specs.Mnemonics.{shift_down_once, shift_down_signed_once, operate_number, compare_number, set_ax}
use Rattle.cw_tmpl.specs.Library.{start_entry, overflow_entry, zero_divisor_entry, address_entry, switch_entry, bounds_entry, enter_entry}
use Rattle.cw_tmpl.specs.Library.{enter_stop_entry, read_entry, product_entry, quotient_down_entry, quotient_up_entry, set_variable_entry}
use Rattle.cw_tmpl.specs.Library.{add_step_entry, put_variable_entry, exhausted_entry, next_step_entry}
use Rattle.cw_tmpl.specs.Pieces.{blanks}
use Rattle.cw_tmpl.specs.Names.{Reach, Names, no_names, mark_place, label_start, procedure_start, switch_start, call_place, own}

-- the bytes of pieces
abbrev pub pieces_size : List Coded → ℕ
pieces_size ps = length (blanks ps)

abbrev pub call_library : ℕ → Coded
call_library entry = coded.Call (target.LibraryAhead entry)

-- a stop, by its entry, with its line behind the call
abbrev pub call_stop : (stop line : ℕ) → List Coded
call_stop stop line = call_library stop ∷ coded.Data line ∷ []

-- the same where the overflow flag is set
abbrev pub unless_overflow : (stop line : ℕ) → List Coded
unless_overflow stop line = coded.Whole (jump_if_no_overflow 5) ∷ call_stop stop line

-- behind an operation on AX that may overflow
abbrev pub checked : (line : ℕ) → List Coded
checked line = unless_overflow overflow_entry line

-- a routine of the library that takes the line in DX
abbrev pub call_at_line : (entry line : ℕ) → List Coded
call_at_line entry line = coded.Whole (set_word dx line) ∷ call_library entry ∷ []

-- the operand below the top one in AX, and the top one in BX
abbrev pub take_two : List Coded
take_two = coded.Whole (move bx ax) ∷ coded.Whole (i86.Pop ax) ∷ []

-- an operation on the two operands on top, of which the top one is in AX and the lower one in BX, which cannot overflow and is the same
-- either way round
abbrev pub on_both : Instr → List Coded
on_both operation = coded.Whole (i86.Pop bx) ∷ coded.Whole operation ∷ []

-- an operation on AX and a word in BX
abbrev pub with_word : (stop line w : ℕ) → Instr → List Coded
with_word stop line w operation = coded.Whole (set_word bx w) ∷ coded.Whole operation ∷ unless_overflow stop line

-- AX times a number up to 32,768. As a word this one is -32,768, so AX is turned first.
abbrev pub times_if : Bool → (stop line n : ℕ) → List Coded
times_if true stop line n = coded.Whole (negate ax) ∷ coded.Whole (set_word bx n) ∷ coded.Whole (multiply bx) ∷ unless_overflow stop line
times_if false stop line n = coded.Whole (set_word bx n) ∷ coded.Whole (multiply bx) ∷ unless_overflow stop line

abbrev pub times : (stop line n : ℕ) → List Coded
times stop line n = times_if (n == 32768) stop line n

-- AX shifted by a number of places: by none it stays
abbrev pub shifted : (once by_count : Instr) → (places : ℕ) → List Coded
shifted once by_count zero = []
shifted once by_count (suc zero) = coded.Whole once ∷ []
shifted once by_count (suc (suc n)) = coded.Whole (set_word cx (suc (suc n))) ∷ coded.Whole by_count ∷ []

abbrev pub shifted_up : (places : ℕ) → List Coded
shifted_up n = shifted (shift_up_once ax) (shift_up ax) n

abbrev pub shifted_down : (places : ℕ) → List Coded
shifted_down n = shifted (shift_down_once ax) (shift_down ax) n

abbrev pub shifted_down_signed : (places : ℕ) → List Coded
shifted_down_signed n = shifted (shift_down_signed_once ax) (shift_down_signed ax) n

-- the lowest t bits of AX, where it has others
abbrev pub lowest_if : Bool → (t : ℕ) → List Coded
lowest_if true t = []
lowest_if false t = coded.Whole (with_number 4 (2 ^ t - 1)) ∷ []

-- t bits of AX from bit b, without a sign, and with one
abbrev pub taken : (t b : ℕ) → List Coded
taken t b = shifted_down b ++ lowest_if (t + b == 16) t

abbrev pub taken_signed : (t b : ℕ) → List Coded
taken_signed t b = shifted_up (16 - (t + b)) ++ shifted_down_signed (16 - t)

abbrev pub part_taken : (t b : ℕ) → (is_signed : Bool) → List Coded
part_taken t b true = taken_signed t b
part_taken t b false = taken t b

-- the word at the address in AX
abbrev pub load_top : List Coded
load_top = coded.Whole exchange ∷ coded.Whole (double bx) ∷ coded.Whole (load ax at_bx) ∷ []

abbrev pub load_part : (t b : ℕ) → (is_signed : Bool) → List Coded
load_part t b is_signed = load_top ++ part_taken t b is_signed

-- A word takes the part's bits of the value in AX: those in which both differ are turned. The address is in AX, and the value below.
abbrev pub store_part : (t b : ℕ) → List Coded
store_part t b =
    coded.Whole (move bx ax) ∷ coded.Whole (i86.Pop ax) ∷ coded.Whole (double bx)
    ∷ (shifted_up b ++ coded.Whole (operate 6 ax at_bx) ∷ coded.Whole (with_number 4 (field_mask t b)) ∷ coded.Whole (change 6 at_bx ax) ∷ [])

abbrev pub rescale_if : (up top : Bool) → (line from to : ℕ) → List Coded
rescale_if true top line from to = times_if top overflow_entry line (2 ^ (to - from))
rescale_if false top line from to = coded.Whole (set_word cx (from - to)) ∷ coded.Whole (shift_down_signed ax) ∷ []

abbrev pub rescale : (line from to : ℕ) → List Coded
rescale line from to = rescale_if (nat_le from to) (2 ^ (to - from) == 32768) line from to

-- A routine of the library on AX and BX and a count; the overflow flag tells that the result fits no word.
abbrev pub by_routine : (line entry count : ℕ) → List Coded
by_routine line entry count = coded.Whole (set_word cx count) ∷ call_library entry ∷ checked line

-- The product of two words has at most 31 bits and a sign: from 2 ^ -16 on it always fits, and is the upper word, shifted further.
abbrev pub product_start : (line : ℕ) → List Coded
product_start line = coded.Whole (i86.Pop bx) ∷ coded.Whole (multiply bx) ∷ checked line

abbrev pub product_up : (line : ℕ) → ℕ → List Coded
product_up line zero = product_start line
product_up line (suc n) = product_start line ++ times overflow_entry line (2 ^ suc n)

abbrev pub product_down : (line : ℕ) → Bool → ℕ → List Coded
product_down line true n = coded.Whole (i86.Pop bx) ∷ by_routine line product_entry (n + 1)
product_down line false n =
    coded.Whole (i86.Pop bx) ∷ coded.Whole (multiply bx)
    ∷ coded.Whole (move ax dx) ∷ coded.Whole (set_word cx (n - 15)) ∷ coded.Whole (shift_down_signed ax) ∷ []

abbrev pub product : (line : ℕ) → ℤ → List Coded
product line (pos n) = product_up line n
product line (negsuc n) = product_down line (nat_lt n 15) n

-- the divisor in BX, which is tested, and the dividend in AX
abbrev pub divisor_tested : (line : ℕ) → List Coded
divisor_tested line = take_two ++ (coded.Whole (either bx bx) ∷ coded.Whole (jump_if_unequal 5) ∷ call_stop zero_divisor_entry line)

abbrev pub quotient : (line : ℕ) → ℤ → List Coded
quotient line (pos n) = divisor_tested line ++ by_routine line quotient_up_entry n
quotient line (negsuc n) = divisor_tested line ++ by_routine line quotient_down_entry (n + 1)

-- the address in AX is tested
abbrev pub in_area : (line : ℕ) → List Coded
in_area line = coded.Whole (compare ax di) ∷ coded.Whole (jump_if_below 5) ∷ call_stop address_entry line

-- an operation on AX and a number, on the way to an address
abbrev pub index_by : (op line w : ℕ) → List Coded
index_by op line w = coded.Whole (with_number op w) ∷ unless_overflow address_entry line

-- an index less the lower bound
abbrev pub less_bound : (line : ℕ) → (lower : ℤ) → List Coded
less_bound line (pos zero) = []
less_bound line lower = index_by 5 line (unsigned lower)

-- the place of a word in its entry is added
abbrev pub plus_word : (line word : ℕ) → List Coded
plus_word line zero = []
plus_word line (suc n) = index_by 0 line (suc n)

-- the number of an entry times its words
abbrev pub times_width : (line width : ℕ) → List Coded
times_width line width = if width == 1 then [] else times address_entry line width

-- the base goes from AX to SI, and what was below it comes to AX
abbrev pub base_kept : List Coded
base_kept = coded.Whole (move si ax) ∷ coded.Whole (i86.Pop ax) ∷ []

-- and is added
abbrev pub based : (line : ℕ) → List Coded
based line = coded.Whole (add ax si) ∷ (unless_overflow address_entry line ++ in_area line)

abbrev pub element : (line : ℕ) → (lower : ℤ) → List Coded
element line lower = base_kept ++ (less_bound line lower ++ based line)

-- the place in the row, in CX, is added
abbrev pub in_row : (line : ℕ) → List Coded
in_row line = coded.Whole (add ax cx) ∷ unless_overflow address_entry line

abbrev pub element_of_two : (line : ℕ) → (lower second : ℤ) → (width : ℕ) → List Coded
element_of_two line lower second width =
    base_kept
    ++ (less_bound line second
    ++ (coded.Whole (move cx ax) ∷ coded.Whole (i86.Pop ax) ∷ (less_bound line lower ++ (times address_entry line width ++ (in_row line ++ based line)))))

-- the top operand less a lower bound
abbrev pub top_from_lower : (lower : ℤ) → List Coded
top_from_lower (pos zero) = []
top_from_lower lower = coded.Whole (with_number 5 (unsigned lower)) ∷ []

-- AX, which counts entries or rows, times their words
abbrev pub times_entry : (width : ℕ) → List Coded
times_entry width = if width == 1 then [] else coded.Whole (set_word bx width) ∷ coded.Whole (multiply bx) ∷ []

-- an element of two dimensions where all numbers fit, and which is in the data area
abbrev pub element_inside : (lower second : ℤ) → (width : ℕ) → List Coded
element_inside lower second width =
    base_kept
    ++ (top_from_lower second
    ++ (coded.Whole (move cx ax) ∷ coded.Whole (i86.Pop ax) ∷ (top_from_lower lower ++ (times_entry width ++ coded.Whole (add ax cx) ∷ coded.Whole (add ax si) ∷ []))))

abbrev pub entry : (line width word : ℕ) → List Coded
entry line width word = base_kept ++ (times_width line width ++ (plus_word line word ++ based line))

-- how many indexes are between the bounds, from how far they are apart
abbrev pub indexes_between : (last : ℤ) → ℕ
indexes_between (pos n) = suc n % 65536
indexes_between (negsuc n) = 0

-- the top operand is compared with so many indexes from 0 on: any other is, as a number without a sign, not below their count
abbrev pub top_below : (line count : ℕ) → List Coded
top_below line count = coded.Whole (with_number 7 count) ∷ coded.Whole (jump_if_below 5) ∷ call_stop bounds_entry line

-- the same with both bounds: where the lower one is 0, as above
abbrev pub with_both_bounds : (line : ℕ) → (lower upper : ℤ) → List Coded
with_both_bounds line lower upper =
    coded.Whole (with_number 7 (unsigned lower)) ∷ coded.Whole (jump_if_not_less 5) ∷ (call_stop bounds_entry line
    ++ coded.Whole (with_number 7 (unsigned upper)) ∷ coded.Whole (jump_if_at_most 5) ∷ call_stop bounds_entry line)

abbrev pub in_bounds : (line : ℕ) → (lower upper : ℤ) → List Coded
in_bounds line (pos zero) upper = top_below line (indexes_between upper)
in_bounds line lower upper = with_both_bounds line lower upper

-- how far it is from the end of an instruction to a place of the same code
abbrev pub distance : (from to : ℕ) → ℕ
distance from to = (to + (65536 - from % 65536)) % 65536

abbrev pub jump_near : (from to : ℕ) → Coded
jump_near from to = coded.Whole (i86.Jump (distance from to))

-- the same as a byte, which has the distance with its sign extended where the places are at most 127 bytes apart
abbrev pub short_distance : (from to : ℕ) → ℕ
short_distance from to = (to + (256 - from % 256)) % 256

abbrev pub jump_short : (from to : ℕ) → Coded
jump_short from to = coded.Whole (i86.JumpShort (short_distance from to))

abbrev pub is_close : (from to : ℕ) → Bool
is_close from to = nat_le from (to + 127) && nat_le to (from + 127)

-- a check that ends a block and begins at a place: whole, or, where the stop is called at a place with the same line behind the CALL, a jump there
abbrev pub checked_by : (short : Bool) → (line place to : ℕ) → List Coded
checked_by true line place to = coded.Whole (jump_if_overflow (short_distance (place + 2) to)) ∷ []
checked_by false line place to = checked line

-- Code that begins at a place and may end with the check: where it does, and that jumps back, by what it has before it.
abbrev pub ended_back : (ends : Bool) → (whole before : List Coded) → (line place to : ℕ) → List Coded
ended_back true whole before line place to = before ++ checked_by true line (place + pieces_size before) to
ended_back false whole before line place to = whole

-- what a multiplication by a number, a call of a routine, a product and a quotient have before the check with which they end
abbrev pub times_before : (top : Bool) → (n : ℕ) → List Coded
times_before true n = coded.Whole (negate ax) ∷ coded.Whole (set_word bx n) ∷ coded.Whole (multiply bx) ∷ []
times_before false n = coded.Whole (set_word bx n) ∷ coded.Whole (multiply bx) ∷ []

abbrev pub routine_before : (entry count : ℕ) → List Coded
routine_before entry count = coded.Whole (set_word cx count) ∷ call_library entry ∷ []

abbrev pub rescale_before : (from to : ℕ) → List Coded
rescale_before from to = times_before (2 ^ (to - from) == 32768) (2 ^ (to - from))

abbrev pub product_before : (line : ℕ) → ℤ → List Coded
product_before line (pos zero) = coded.Whole (i86.Pop bx) ∷ coded.Whole (multiply bx) ∷ []
product_before line (pos (suc n)) = product_start line ++ times_before (2 ^ suc n == 32768) (2 ^ suc n)
product_before line (negsuc n) = coded.Whole (i86.Pop bx) ∷ routine_before product_entry (n + 1)

abbrev pub quotient_before : (line : ℕ) → ℤ → List Coded
quotient_before line (pos n) = divisor_tested line ++ routine_before quotient_up_entry n
quotient_before line (negsuc n) = divisor_tested line ++ routine_before quotient_down_entry (n + 1)

-- whether a product ends with a check: one that is scaled far down always fits
abbrev pub is_checked : ℤ → Bool
is_checked (pos n) = true
is_checked (negsuc n) = nat_lt n 15

-- what a comparator compares
abbrev pub comparison_of : Comparator → Comparison
comparison_of comparator.Less = Less
comparison_of comparator.LessEqual = AtMost
comparison_of comparator.Equal = Equal
comparison_of comparator.GreaterEqual = NotLess
comparison_of comparator.Greater = Greater
comparison_of comparator.Unequal = Unequal

-- what holds where a comparison does not
abbrev pub opposite_of : Comparator → Comparison
opposite_of comparator.Less = NotLess
opposite_of comparator.LessEqual = Greater
opposite_of comparator.Equal = Unequal
opposite_of comparator.GreaterEqual = Less
opposite_of comparator.Greater = AtMost
opposite_of comparator.Unequal = Equal

-- passes over a jump of three bytes
abbrev pub pass_unless : Comparator → Coded
pass_unless c = coded.Whole (i86.JumpIf (condition_of (opposite_of c)) 3)

-- behind a comparison that ends so far into the code of the segment: the way on
abbrev pub branch : Comparator → (end to : ℕ) → List Coded
branch c end to = pass_unless c ∷ jump_near end to ∷ []

-- the same where that place is close by
abbrev pub short_branch : Comparator → (end to : ℕ) → List Coded
short_branch c end to = coded.Whole (i86.JumpIf (condition_of (comparison_of c)) (short_distance end to)) ∷ []

-- behind a comparison that ends at a place
abbrev pub branch_by : (short : Bool) → Comparator → (place to : ℕ) → List Coded
branch_by true c place to = short_branch c (place + 2) to
branch_by false c place to = branch c (place + 5) to

-- goes to a place where a comparison of the two operands on top holds; the code stands at a place
abbrev pub jump_where : Comparator → (place to : ℕ) → List Coded
jump_where c place to = coded.Whole (i86.Pop bx) ∷ coded.Whole (compare bx ax) ∷ branch c (place + 8) to

abbrev pub short_where : Comparator → (place to : ℕ) → List Coded
short_where c place to = coded.Whole (i86.Pop bx) ∷ coded.Whole (compare bx ax) ∷ short_branch c (place + 5) to

-- ---- the entry of a segment

-- what the code of a segment begins with: the base record is made
abbrev pub entry_pieces : List Coded
entry_pieces =
    call_library start_entry
    ∷ coded.Word (target.Limit limit.DataWords) ∷ coded.Word (target.Limit limit.FrameWords)
    ∷ coded.Word (target.Limit limit.Calls) ∷ coded.Word (target.Limit limit.Segment) ∷ []

-- where the number of the segment stands in it: in its last word
abbrev pub segment_word : ℕ
segment_word = length (blanks entry_pieces) - 2

-- ---- calls

-- the bytes of an instruction that loads a register from an argument
abbrev pub argument_load_size : (k : ℕ) → ℕ
argument_load_size k = if nat_lt (first_argument + 2 * k) 128 then 3 else 4

-- a call at a line, with all arguments and operands on the stack; the code stands at a place
abbrev pub call_near : (line place to : ℕ) → List Coded
call_near line place to = coded.Whole (set_word dx line) ∷ coded.Whole (i86.Call (distance (place + 6) to)) ∷ []

-- goes to the place in AX, with the place to come back to on the stack
abbrev pub back_jump : (behind : Target) → List Coded
back_jump behind = coded.Move bx behind ∷ coded.Whole (i86.Push bx) ∷ coded.Whole (jump_to ax) ∷ []

-- a control argument: the record in BP, and the place
abbrev pub control_out : Target → List Coded
control_out t = coded.Whole (i86.Push bp) ∷ coded.Move ax t ∷ coded.Whole (i86.Push ax) ∷ []

-- back in the caller, without the record and so many words of arguments; an answer stays in AX
abbrev pub return_with : (arguments : ℕ) → List Coded
return_with n = coded.Whole (move sp bp) ∷ coded.Whole (i86.Pop bp) ∷ coded.Whole (i86.RetAdd (2 * n)) ∷ []

-- the record in BP, without operands
abbrev pub operands_dropped : List Coded
operands_dropped = coded.Whole (move sp bp) ∷ coded.Whole (set_word ax record_depth) ∷ coded.Whole (subtract sp ax) ∷ []

-- An activation begins whose frame has some words: it begins where the caller's ends. The call that is taken is counted last: so CX tells the stop
-- whether there was one. Until the record is made the caller's is at work. The number of the segment stands in its entry.
abbrev pub frame_entered : (size : ℕ) → List Coded
frame_entered size =
    coded.Whole (load cx (slot calls_slot)) ∷ coded.Whole (jump_if_cx_zero 14)
    ∷ coded.Whole (load ax (slot rest_slot)) ∷ coded.Whole (move bx di) ∷ coded.Whole (subtract bx ax) ∷ coded.Whole (double bx)
    ∷ coded.Whole (with_number 5 size) ∷ coded.Whole (jump_if_not_below 3) ∷ coded.Jump (target.LibraryAhead enter_stop_entry)
    ∷ coded.Whole (decrease cx) ∷ coded.Whole (i86.Push bp) ∷ coded.Whole (move bp sp)
    ∷ coded.PushCode (own segment_word) ∷ coded.Whole (i86.Push cx) ∷ coded.Whole (i86.Push bx) ∷ coded.Whole (i86.Push ax) ∷ []

-- one without a frame is begun by the library
abbrev pub entered : (size : ℕ) → List Coded
entered zero = call_library enter_entry ∷ coded.Data 0 ∷ coded.Word (target.Limit limit.Segment) ∷ []
entered (suc n) = frame_entered (suc n)

abbrev pub entered_size : (size : ℕ) → ℕ
entered_size zero = 7
entered_size (suc n) = 34

-- the base record, without operands, for this segment
abbrev pub base_restored : List Coded
base_restored =
    coded.Whole (set_word bp base_record) ∷ coded.Whole (set_word sp base_operands)
    ∷ coded.Move ax (target.Limit limit.Segment) ∷ coded.Whole (store (slot segment_slot) ax) ∷ []

-- the same, and a jump; the code stands at a place
abbrev pub base_jump : (place to : ℕ) → List Coded
base_jump place to = base_restored ++ jump_near (place + 15) to ∷ []

-- the way to a switch, whose labels the activation at work owns
abbrev pub switch_near : (line place to : ℕ) → List Coded
switch_near line place to = coded.Whole (set_word dx line) ∷ coded.Whole (move si bp) ∷ jump_near (place + 8) to ∷ []

-- ---- loops and switches

-- goes to a place where a loop is exhausted; the routine comes back behind the jump where it is not. The code stands at a place.
abbrev pub past_limit : (place to : ℕ) → List Coded
past_limit place to = call_library exhausted_entry ∷ jump_near (place + 6) to ∷ []

-- the number in AX, counted from 1, is in BX as one counted from 0, and is compared with a number
abbrev pub number_compared : ℕ → List Coded
number_compared n = coded.Whole (with_number 5 1) ∷ coded.Whole (move bx ax) ∷ coded.Whole (with_number 7 n) ∷ []

-- the places of marks
abbrev pub mark_words : Names → List ℕ → List Coded
mark_words names [] = []
mark_words names (m ∷ ms) = coded.Word (own (mark_place names m)) ∷ mark_words names ms

abbrev pub goal_word : Names → Goal → Coded
goal_word names (goal.Own l) = coded.Word (own (label_start names l))
goal_word names (goal.Common d) = coded.Word (target.Definition d)

abbrev pub goal_words : Names → List Goal → List Coded
goal_words names [] = []
goal_words names (x ∷ xs) = goal_word names x ∷ goal_words names xs

-- goes on at the mark of the number; behind the table where there is none
abbrev pub loop_way : Names → (place : ℕ) → List ℕ → List Coded
loop_way names place marks =
    number_compared (length marks) ++ (coded.Whole (jump_if_below 3) ∷ jump_near (place + 13) (place + 20 + 2 * length marks)
    ∷ coded.Whole (double bx) ∷ coded.Way (own (place + 20)) ∷ mark_words names marks)

-- the same of one mark
abbrev pub one_way : Names → (place mark : ℕ) → List Coded
one_way names place m = coded.Whole (decrease ax) ∷ coded.Whole (jump_if_unequal 3) ∷ jump_near (place + 6) (mark_place names m) ∷ []

abbrev pub short_way : Names → (place mark : ℕ) → List Coded
short_way names place m = coded.Whole (decrease ax) ∷ coded.Whole (jump_if_equal (short_distance (place + 3) (mark_place names m))) ∷ []

abbrev pub loop_ways : Names → (place : ℕ) → List ℕ → List Coded
loop_ways names place [] = loop_way names place []
loop_ways names place (m ∷ []) = one_way names place m
loop_ways names place (m ∷ n ∷ ms) = loop_way names place (m ∷ n ∷ ms)

abbrev pub loop_ways_size : List ℕ → ℕ
loop_ways_size [] = 20
loop_ways_size (m ∷ []) = 6
loop_ways_size (m ∷ n ∷ ms) = 20 + 2 * length (m ∷ n ∷ ms)

-- twice the address of a place in BX
abbrev pub place_doubled : Place → List Coded
place_doubled (cell.Word family offset) = coded.Move bx (target.Bytes family offset) ∷ []
place_doubled (cell.Frame n) = coded.Whole (load bx (slot base_slot)) ∷ coded.Whole (operate_number 0 bx (2 * n % 65536)) ∷ []

abbrev pub doubled_size : Place → ℕ
doubled_size (cell.Word family offset) = 3
doubled_size (cell.Frame n) = 7

-- The step of a loop, by its words at a place. Where the body follows, the routine comes back with LE; where it stops, it takes the line from behind
-- the jump. The code stands at a place of the segment
abbrev pub step_taken : Place → (line place to : ℕ) → List Coded
step_taken x line place to =
    place_doubled x
    ++ (call_library next_step_entry ∷ coded.Whole (i86.JumpIf (condition_of Greater) 5) ∷ jump_near (place + (doubled_size x + 8)) to ∷ coded.Data line ∷ [])

-- The index of a switch in AX, counted from 1, is there counted from 0 where the switch has so many labels; it stops at the line where it has not.
abbrev pub switch_tested : (labels line : ℕ) → List Coded
switch_tested n line = coded.Whole (decrease ax) ∷ coded.Whole (with_number 7 n) ∷ coded.Whole (jump_if_below 6) ∷ call_at_line switch_entry line

-- the way of a switch whose labels stand in the body at work: goes on at the mark of the index
abbrev pub switch_way : Names → (line place : ℕ) → List ℕ → List Coded
switch_way names line place marks =
    switch_tested (length marks) line ++ (coded.Whole exchange ∷ coded.Whole (double bx) ∷ coded.Way (own (place + 20)) ∷ mark_words names marks)

-- A switch takes its index in AX, the line in DX, and the record of the activation that owns its labels in SI.
abbrev pub switch_pieces : Names → (place : ℕ) → List Goal → List Coded
switch_pieces names place goals =
    number_compared (length goals) ++ (coded.Whole (jump_if_below 3) ∷ call_library switch_entry ∷ coded.Whole (double bx) ∷ coded.Whole (move bp si)
    ∷ (operands_dropped ++ coded.Way (own (place + 29)) ∷ goal_words names goals))

-- the landing of a label: where its mark's code starts, with the base record
abbrev pub landing_pieces : Names → (place : ℕ) → LabelMark → List Coded
landing_pieces names place m = base_jump place (mark_place names m.mark)

-- ---- one order

abbrev pub template : Names → (place : ℕ) → Order → List Coded
template names place order.Save = coded.Whole (i86.Push ax) ∷ []
template names place (order.Const w) = coded.Whole (set_ax w) ∷ []
template names place (order.Home family offset) = coded.Move ax (target.Word family offset) ∷ []
template names place order.Load = load_top
template names place order.Store = coded.Whole (move bx ax) ∷ coded.Whole (double bx) ∷ coded.Whole (i86.Pop ax) ∷ coded.Whole (store at_bx ax) ∷ []
template names place (order.Add line) = coded.Whole (i86.Pop bx) ∷ coded.Whole (add ax bx) ∷ checked line
template names place (order.Sub line) = coded.Whole (move bx ax) ∷ coded.Whole (i86.Pop ax) ∷ coded.Whole (subtract ax bx) ∷ checked line
template names place (order.Neg line) = coded.Whole (negate ax) ∷ checked line
template names place (order.LoadPart t b is_signed) = load_part t b is_signed
template names place (order.StorePart t b) = store_part t b
template names place (order.Rescale from to line) = rescale line from to
template names place (order.Mul s line) = product line s
template names place (order.Div s line) = quotient line s
template names place order.And = on_both (both ax bx)
template names place order.Or = on_both (either ax bx)
template names place order.Xor = on_both (one_of ax bx)
template names place (order.Take t b) = taken t b
template names place order.Less = take_two ++ (coded.Whole (subtract ax bx) ∷ [])
template names place (order.IndexLess lower line) = with_word address_entry line (unsigned lower) (subtract ax bx)
template names place (order.Element lower span line) = element line lower
template names place (order.ElementOfTwo lower second width line) = element_of_two line lower second width
template names place (order.ElementInside lower second width span) = element_inside lower second width
template names place (order.Entry width word span line) = entry line width word
template names place (order.InArea line) = in_area line
template names place (order.InBounds lower upper line) = in_bounds line lower upper
template names place order.ReadByte = call_library read_entry ∷ []
template names place order.WriteByte = coded.Whole (i86.Pop ax) ∷ coded.Whole (i86.Out 0x12) ∷ []
template names place (order.Start n) = []
template names place order.NextBody = coded.Move ax target.NextSegment ∷ coded.Whole (jump_to ax) ∷ []
template names place (order.Jump mark) = jump_near (place + 3) (mark_place names mark) ∷ []
template names place (order.JumpIf c mark) = jump_where c place (mark_place names mark)
template names place (order.FrameHome n) = coded.Whole (load ax (slot base_slot)) ∷ coded.Whole (shift_down_once ax) ∷ coded.Whole (with_number 0 n) ∷ []
template names place (order.Exhausted mark) = past_limit place (mark_place names mark)
template names place (order.SetVariable line) = call_at_line set_variable_entry line
template names place (order.AddStep line) = call_at_line add_step_entry line
template names place (order.PutVariable line) = call_at_line put_variable_entry line
template names place (order.NextStep x line mark) = step_taken x line place (mark_place names mark)
template names place (order.LoopWay marks) = loop_ways names place marks
template names place (order.SwitchWay marks line) = switch_way names line place marks
-- calls
template names place (order.CallProc q line) = call_near line place (procedure_start names q)
template names place (order.CallCommon d line) = coded.Whole (set_word dx line) ∷ coded.Call (target.DefinitionAhead d) ∷ []
template names place (order.CallSpecial k line) =
    coded.Whole (set_word dx line) ∷ coded.Whole (load ax (argument k)) ∷ back_jump (own (place + (argument_load_size k + 9)))
template names place (order.Enter size) = entered size
template names place (order.Bind k family offset) = coded.Whole (load ax (argument k)) ∷ coded.Store (target.Bytes family offset) ∷ []
template names place (order.BindFrame k offset) =
    coded.Whole (load cx (argument k)) ∷ coded.Whole (load bx (slot base_slot)) ∷ coded.Whole (store (field (2 * offset % 65536)) cx) ∷ []
template names place (order.Return n answers) = return_with n
-- control arguments
template names place (order.LabelOut l) = control_out (own (label_start names l))
template names place (order.LabelCommon d) = control_out (target.Definition d)
template names place (order.SwitchOut n) = control_out (own (switch_start names n))
template names place (order.SwitchCommon d) = control_out (target.Definition d)
template names place (order.ProcOut q) = control_out (own (procedure_start names q))
template names place (order.ProcCommon d) = control_out (target.Definition d)
template names place (order.SpecialOut k) =
    coded.Whole (load ax (argument (k + 1))) ∷ coded.Whole (i86.Push ax) ∷ coded.Whole (load ax (argument k)) ∷ coded.Whole (i86.Push ax) ∷ []
-- jumps that may leave activations
template names place (order.GoMain mark) = base_jump place (mark_place names mark)
template names place (order.GoCommon d) = coded.Jump (target.DefinitionAhead d) ∷ []
template names place (order.GoSpecial k) =
    coded.Whole (load bx (argument k)) ∷ coded.Whole (load bp (argument (k + 1))) ∷ (operands_dropped ++ coded.Whole (jump_to bx) ∷ [])
template names place (order.GoSwitch n line) = switch_near line place (switch_start names n)
template names place (order.GoSwitchCommon d line) =
    coded.Whole (set_word dx line) ∷ coded.Whole (move si bp) ∷ coded.Jump (target.DefinitionAhead d) ∷ []
template names place (order.GoSwitchSpecial k line) =
    coded.Whole (set_word dx line) ∷ coded.Whole (load si (argument (k + 1))) ∷ coded.Whole (load bx (argument k)) ∷ coded.Whole (jump_to bx) ∷ []
-- without code
template names place order.Drop = []
template names place order.Mark = []

-- the same where the jump to its mark is short, or its check jumps back: an order without such a jump or check has one form
abbrev pub short_template : Names → (place number : ℕ) → Order → List Coded
short_template names place number (order.Add line) =
    coded.Whole (i86.Pop bx) ∷ coded.Whole (add ax bx) ∷ checked_by true line (place + 3) (call_place names number)
short_template names place number (order.Sub line) =
    coded.Whole (move bx ax) ∷ coded.Whole (i86.Pop ax) ∷ coded.Whole (subtract ax bx) ∷ checked_by true line (place + 5) (call_place names number)
short_template names place number (order.Neg line) = coded.Whole (negate ax) ∷ checked_by true line (place + 2) (call_place names number)
short_template names place number (order.Rescale from to line) =
    ended_back (nat_le from to) (rescale line from to) (rescale_before from to) line place (call_place names number)
short_template names place number (order.Mul s line) = ended_back (is_checked s) (product line s) (product_before line s) line place (call_place names number)
short_template names place number (order.Div s line) = ended_back true (quotient line s) (quotient_before line s) line place (call_place names number)
short_template names place number (order.Jump mark) = jump_short (place + 2) (mark_place names mark) ∷ []
short_template names place number (order.JumpIf c mark) = short_where c place (mark_place names mark)
short_template names place number (order.LoopWay (m ∷ [])) = short_way names place m
short_template names place number o = template names place o

abbrev pub template_by : (short : Bool) → Names → (place number : ℕ) → Order → List Coded
template_by true names place number o = short_template names place number o
template_by false names place number o = template names place o

-- ---- places and simple operands

-- what is needed before an instruction names a place
abbrev pub address_pieces : Place → List Coded
address_pieces (cell.Word family offset) = []
address_pieces (cell.Frame n) = coded.Whole (load bx (slot base_slot)) ∷ []

-- AX from a place, and to it
abbrev pub load_place : Place → Coded
load_place (cell.Word family offset) = coded.Load (target.Bytes family offset)
load_place (cell.Frame n) = coded.Whole (load ax (field (2 * n % 65536)))

abbrev pub store_place : Place → Coded
store_place (cell.Word family offset) = coded.Store (target.Bytes family offset)
store_place (cell.Frame n) = coded.Whole (store (field (2 * n % 65536)) ax)

-- an operation of the arithmetic unit on AX and the word there
abbrev pub operate_place : ℕ → Place → Coded
operate_place op (cell.Word family offset) = coded.Operate op ax (target.Bytes family offset)
operate_place op (cell.Frame n) = coded.Whole (i86.AluRm op true true ax (field (2 * n % 65536)))

-- the same on the word there and AX
abbrev pub change_place : ℕ → Place → Coded
change_place op (cell.Word family offset) = coded.Change op ax (target.Bytes family offset)
change_place op (cell.Frame n) = coded.Whole (change op (field (2 * n % 65536)) ax)

-- SI from a place
abbrev pub index_loaded : (index : Place) → List Coded
index_loaded (cell.Word f n) = coded.Fetch si (target.Bytes f n) ∷ []
index_loaded (cell.Frame n) = coded.Whole (load bx (slot base_slot)) ∷ coded.Whole (load si (field (2 * n % 65536))) ∷ []

-- less a lower bound
abbrev pub from_lower : (lower : ℤ) → List Coded
from_lower (pos zero) = []
from_lower lower = coded.Whole (operate_number 5 si (unsigned lower)) ∷ []

-- SI with the address of a word of a family and the word at a place added
abbrev pub index_added : (index : Place) → (family offset : ℕ) → List Coded
index_added (cell.Word f n) family offset = coded.Move si (target.Word family offset) ∷ coded.Operate 0 si (target.Bytes f n) ∷ []
index_added (cell.Frame n) family offset =
    coded.Whole (load bx (slot base_slot)) ∷ coded.Move si (target.Word family offset) ∷ coded.Whole (operate 0 si (field (2 * n % 65536))) ∷ []

-- the address of an element, doubled, in SI: it is tested, or the index is
abbrev pub address_tested : Element → (origin : ℕ) → List Coded
address_tested e origin =
    index_added e.index e.family origin
    ++ coded.Whole (compare si di) ∷ coded.Whole (jump_if_below 5) ∷ (call_stop address_entry e.line ++ coded.Whole (double si) ∷ [])

-- SI, where it is below so many indexes, with the address of a word added and doubled
abbrev pub index_below : (count line : ℕ) → (family first : ℕ) → List Coded
index_below count line family first =
    coded.Whole (operate_number 7 si count) ∷ coded.Whole (jump_if_below 5)
    ∷ (call_stop bounds_entry line ++ coded.Sum si (target.Word family first) ∷ coded.Whole (double si) ∷ [])

abbrev pub index_tested : Element → (upper : ℤ) → (line : ℕ) → List Coded
index_tested e upper line = index_loaded e.index ++ (from_lower e.lower ++ index_below (indexes_between (upper -ℤ e.lower)) line e.family e.first)

abbrev pub element_tested : Element → Test → List Coded
element_tested e (test.Address origin) = address_tested e origin
element_tested e (test.Bounds upper line) = index_tested e upper line

abbrev pub element_address : Element → List Coded
element_address e = element_tested e e.test

-- the same with a simple operand
abbrev pub operand_pieces : Simple → List Coded
operand_pieces (simple.Number w) = []
operand_pieces (simple.Contents x) = address_pieces x
operand_pieces (simple.Element e) = element_address e

abbrev pub operation : ℕ → Simple → Coded
operation op (simple.Number w) = coded.Whole (with_number op w)
operation op (simple.Contents x) = operate_place op x
operation op (simple.Element e) = coded.Whole (operate op ax at_si)

-- AX times it
abbrev pub product_with : Simple → List Coded
product_with (simple.Number w) = coded.Whole (set_word bx w) ∷ coded.Whole (multiply bx) ∷ []
product_with (simple.Contents x) = coded.Whole (move cx ax) ∷ (address_pieces x ++ load_place x ∷ coded.Whole (multiply cx) ∷ [])
product_with (simple.Element e) = coded.Whole (move cx ax) ∷ (element_address e ++ coded.Whole (load ax at_si) ∷ coded.Whole (multiply cx) ∷ [])

-- AX with one more, and one less
abbrev pub counted : (down : Bool) → Instr
counted true = decrease ax
counted false = increase ax

-- the address that is formed of an index in AX, which counts from the first word or entry
abbrev pub formed : (family first : ℕ) → Form → List Coded
formed family first (form.Element span line) = coded.Sum ax (target.Word family first) ∷ []
formed family first (form.Entry width word span line) = times_entry width ++ coded.Sum ax (target.Word family (first + word)) ∷ []

-- the index in AX is compared with bounds, and the address is formed without a test
abbrev pub bounded_address : Bounded → List Coded
bounded_address b =
    top_from_lower b.bounds.lower
    ++ (top_below b.bounds.line (indexes_between (b.bounds.upper -ℤ b.bounds.lower)) ++ formed b.family b.first b.form)

-- SI with a second index
abbrev pub column_loaded : Column → List Coded
column_loaded (column.Number w) = coded.Whole (set_word si w) ∷ []
column_loaded (column.Contents x) = index_loaded x

-- SI is compared with so many indexes
abbrev pub column_below : (line count : ℕ) → List Coded
column_below line count = coded.Whole (operate_number 7 si count) ∷ coded.Whole (jump_if_below 5) ∷ call_stop bounds_entry line

-- behind the comparisons of both indexes: the first word of the row, as that of an entry, and the place in the row added
abbrev pub row_summed : Row → List Coded
row_summed r = formed r.family r.first (form.Entry r.width 0 r.span r.columns.line) ++ coded.Whole (add ax si) ∷ []

-- the second index is compared with its bounds
abbrev pub column_tested : Row → List Coded
column_tested r =
    column_loaded r.column
    ++ (from_lower r.columns.lower ++ (column_below r.columns.line (indexes_between (r.columns.upper -ℤ r.columns.lower)) ++ row_summed r))

-- both are, the first one in AX, and the address is made without a test
abbrev pub row_address : Row → List Coded
row_address r =
    top_from_lower r.rows.lower ++ (top_below r.rows.line (indexes_between (r.rows.upper -ℤ r.rows.lower)) ++ column_tested r)

-- ---- blocks

-- an operation on AX and a simple operand
abbrev pub with_operand : (op : ℕ) → Simple → List Coded
with_operand op s = operand_pieces s ++ operation op s ∷ []

abbrev pub operated : Names → (place number : ℕ) → (short : Bool) → Simple → Use → List Coded
operated names place number short s (uses.Add line) = with_operand 0 s
    ++ checked_by short line (place + pieces_size (with_operand 0 s)) (call_place names number)
operated names place number short s (uses.Subtract line) = with_operand 5 s
    ++ checked_by short line (place + pieces_size (with_operand 5 s)) (call_place names number)
operated names place number short s (uses.Multiply line) = product_with s
    ++ checked_by short line (place + pieces_size (product_with s)) (call_place names number)
operated names place number short s uses.Mask = with_operand 4 s
operated names place number short s uses.Union = with_operand 1 s
operated names place number short s uses.Differ = with_operand 6 s
operated names place number short s (uses.Compare c mark) = with_operand 7 s
    ++ branch_by short c (place + pieces_size (with_operand 7 s)) (mark_place names mark)

-- a word of the frame compared with a number
abbrev pub word_compared : (offset number : ℕ) → List Coded
word_compared n w = coded.Whole (load bx (slot base_slot)) ∷ coded.Whole (compare_number (field (2 * n % 65536)) w) ∷ []

-- the code of a block, which begins with an order of a number; its jump to a mark, where it has one that can be, is short or near, and its check
-- goes back or is whole
abbrev pub block_pieces : Names → (place number : ℕ) → (short : Bool) → Block → Order → List Coded
block_pieces names place number short (block.Within n) o = []
block_pieces names place number short block.Single o = template_by short names place number o
block_pieces names place number short (block.Fetch x) o = address_pieces x ++ load_place x ∷ []
block_pieces names place number short (block.Assign x) o = address_pieces x ++ store_place x ∷ []
block_pieces names place number short block.Write o = coded.Whole (i86.Out 0x12) ∷ []
block_pieces names place number short (block.Divide w line) o = coded.Whole (set_word bx w) ∷ coded.Whole i86.Cwd ∷ coded.Whole (divide_signed bx) ∷ []
block_pieces names place number short (block.Operate s u) o = operated names place number short s u
block_pieces names place number short (block.FetchPart x t b is_signed) o = address_pieces x ++ load_place x ∷ part_taken t b is_signed
block_pieces names place number short (block.AssignPart x t b) o =
    shifted_up b ++ (address_pieces x ++ operate_place 6 x ∷ coded.Whole (with_number 4 (field_mask t b)) ∷ change_place 6 x ∷ [])
block_pieces names place number short (block.FetchElement e) o = element_address e ++ coded.Whole (load ax at_si) ∷ []
block_pieces names place number short (block.AssignElement e) o = element_address e ++ coded.Whole (store at_si ax) ∷ []
block_pieces names place number short (block.Count down line) o = coded.Whole (counted down) ∷ checked_by short line (place + 1) (call_place names number)
block_pieces names place number short (block.Halve w power places line) o = shifted_down_signed places
block_pieces names place number short (block.Bounded b) o = bounded_address b
block_pieces names place number short (block.Row r) o = row_address r
block_pieces names place number short (block.FetchBoth n m) o =
    coded.Whole (load bx (slot base_slot)) ∷ coded.Whole (load ax (field (2 * n % 65536)))
    ∷ coded.Whole (i86.Push ax) ∷ coded.Whole (load ax (field (2 * m % 65536))) ∷ []
block_pieces names place number short (block.CompareWord n w c mark) o = word_compared n w
    ++ branch_by short c (place + pieces_size (word_compared n w)) (mark_place names mark)

-- the bytes of a block's code, which are as many wherever it stands and whatever it names
abbrev pub block_size : (short : Bool) → Block → Order → ℕ
block_size short b o = length (blanks (block_pieces no_names 0 0 short b o))

-- those of an order alone, with a near jump
abbrev pub order_size : Order → ℕ
order_size o = block_size false block.Single o

-- the displacement of a word so many bytes behind BX, and of a word of the frame
abbrev pub field_size : (by : ℕ) → ℕ
field_size zero = 0
field_size (suc by) = if nat_lt (suc by) 128 then 1 else 2

abbrev pub frame_size : (offset : ℕ) → ℕ
frame_size n = field_size (2 * n % 65536)
