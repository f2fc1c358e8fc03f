-- The run-time library: the code before that of the first segment, without relocated words. The words of the data area are in DI for the
-- whole run, and BP is at the record at work: behind the place to come back to and the caller's BP it has the segment, the calls that are
-- left, twice the base of the frame, and how many words of the data area are behind the frame.
use Rattle.std.specs.Prelude.{ℕ, ◌+◌, false, true, List, [], ◌∷◌, ◌++◌, length, Option, slice_get, slice_index}
use Rattle.cw_i86.specs.declared.instr.Instr.{Instr}
use Rattle.cw_i86.specs.declared.instr.Instr.TheVariants as i86
use Rattle.cw_i86.specs.declared.instr.Rm.TheVariants as rms
use Rattle.cw_run86.specs.Views.{with_number}
use Rattle.cw_unit.specs.Stop.{StopKind, Overflow, ZeroDivisor, SwitchRange, AddressRange, FramesFull, DepthReached, IndexRange}
use Rattle.cw_tmpl.specs.Mnemonics.{ax, bx, cx, dx, sp, bp, si, di, al, ah, segment_slot, calls_slot, rest_slot}
use Rattle.cw_tmpl.specs.Mnemonics.{slot, at_bx, at_si, near_field, code_at_bx, code_behind_bx}
use Rattle.cw_tmpl.specs.Mnemonics.{code_at_si, code_behind_si, set_word, set_byte, load, store, move, add}
use Rattle.cw_tmpl.specs.Mnemonics.{add_number, add_word, subtract, subtract_word, compare, compare_word}
use Rattle.cw_tmpl.specs.Mnemonics.{one_of, either, negate, double, exchange, shift_up, shift_down, shift_down_signed}
use Rattle.cw_tmpl.specs.Mnemonics.{multiply, divide, jump_to, jump_if_overflow, jump_if_below}
use Rattle.cw_tmpl.specs.Mnemonics.{jump_if_not_below, jump_if_equal, jump_if_unequal, jump_if_sign, jump_if_at_most, jump_if_cx_zero, bytes_of_all}

-- ---- the end, and the entries of earlier libraries

-- The program has ended.
abbrev pub end_routine : List Instr
end_routine = i86.Hlt ∷ []

abbrev pub end_place : ℕ
end_place = 3

-- The routines of earlier libraries had other registers and another record. At their entries stands a byte with which no instruction begins:
-- so code that an earlier generator made stops there as bad code.
abbrev pub no_instruction : ℕ
no_instruction = 0xCC

abbrev pub retired_place : ℕ
retired_place = 4

-- ---- the start of a body

-- Makes the base record of a segment, which holds no activation, at the end of the stack, and drops all that the stack has. Behind the call
-- stand four words: those of the data area and of the frame area, the calls that may be active and the number of the segment.
abbrev pub start_place : ℕ
start_place = 5

abbrev pub start_routine : List Instr
start_routine =
    i86.Pop si ∷ set_word bp 0 ∷ move sp bp ∷ load di code_at_si
    -- the segment, and the calls
    ∷ i86.PushRm (code_behind_si 6) ∷ i86.PushRm (code_behind_si 4)
    -- a word that nothing reads, since a body has no frame, and all words of the frame area are left
    ∷ i86.PushRm (code_behind_si 2) ∷ i86.PushRm (code_behind_si 2)
    ∷ add_number si 8 ∷ jump_to si ∷ []

-- ---- the stops

-- Stops with a kind, at the line in the word behind the call. The way on is the common end of these stops, so many bytes ahead.
abbrev pub stop_routine : (kind ahead : ℕ) → List Instr
stop_routine kind ahead = set_byte al kind ∷ i86.JumpShort ahead ∷ []

-- takes the line from behind the call
abbrev pub line_place : ℕ
line_place = 51

abbrev pub line_taken : List Instr
line_taken = i86.Pop bx ∷ load dx code_at_bx ∷ []

-- Tells the kind in AL, the segment of the record and the line in DX, low byte first.
abbrev pub tell_place : ℕ
tell_place = 55

abbrev pub tell : List Instr
tell =
    i86.Out 0x13 ∷ load ax (slot segment_slot) ∷ i86.Out 0x14 ∷ move ax dx ∷ i86.Out 0x15
    ∷ i86.Mov false true al (rms.Reg ah) ∷ i86.Out 0x16 ∷ i86.Hlt ∷ []

-- Stops with a kind, at the line in DX. The way on leads back.
abbrev pub told_stop : (kind back : ℕ) → List Instr
told_stop kind back = set_byte al kind ∷ i86.JumpShort back ∷ []

-- where the stop of a kind with the line behind its call begins, and that with the line in DX
abbrev pub stop_place : StopKind → ℕ
stop_place Overflow = 35
stop_place ZeroDivisor = 39
stop_place AddressRange = 43
stop_place IndexRange = 47
stop_place SwitchRange = 79
stop_place DepthReached = 83
stop_place FramesFull = 87

abbrev pub bad_address_place : ℕ
bad_address_place = 71

abbrev pub bad_sum_place : ℕ
bad_sum_place = 75

-- ---- calls and input

-- Begins an activation; the line of the call is in DX. Behind the call of this routine stand two words: those of the frame, and the number of the
-- segment. Until the record is made the caller's is at work: so a stop tells the caller's segment.
abbrev pub enter_place : ℕ
enter_place = 91

abbrev pub enter_routine : List Instr
enter_routine =
    i86.Pop si
    -- a call is left
    ∷ load ax (slot calls_slot) ∷ with_number 5 1 ∷ jump_if_below 0xEF
    -- the frame is within the words that are left
    ∷ load cx (slot rest_slot) ∷ subtract_word cx code_at_si ∷ jump_if_below 0xEB
    -- it begins where the caller's ends
    ∷ move bx di ∷ subtract_word bx (slot rest_slot) ∷ double bx
    -- the record: the caller's, the segment, the calls left, twice the base of the frame and the words behind it
    ∷ i86.Push bp ∷ move bp sp ∷ i86.PushRm (code_behind_si 2) ∷ i86.Push ax ∷ i86.Push bx ∷ i86.Push cx
    ∷ add_number si 4 ∷ jump_to si ∷ []

-- The next byte of the input in AX, and at its end -1.
abbrev pub read_place : ℕ
read_place = 130

abbrev pub read_routine : List Instr
read_routine =
    i86.In 0x11 ∷ i86.TestRm false al (rms.Reg al) ∷ jump_if_unequal 5 ∷ i86.In 0x10 ∷ set_byte ah 0 ∷ i86.Ret
    ∷ set_word ax 65535 ∷ i86.Ret ∷ []

-- ---- loops
--
-- These take the address of a loop's words in AX. The first three take the line in DX too: where the address of the control variable is
-- outside the data area, or a sum fits no word, they stop there.

-- BX is twice the address in AX
abbrev pub loop_reached : List Instr
loop_reached = move bx ax ∷ double bx ∷ []

-- the word on the stack becomes the control variable
abbrev pub set_variable_place : ℕ
set_variable_place = 145

abbrev pub set_variable_routine : List Instr
set_variable_routine =
    i86.Pop si ∷ (loop_reached ++ (load bx at_bx ∷ compare bx di ∷ jump_if_not_below 0xAB ∷ double bx ∷ i86.Pop ax ∷ store at_bx ax ∷ jump_to si ∷ []))

-- the step of a loop added to its control variable
abbrev pub add_step_place : ℕ
add_step_place = 163

abbrev pub add_step_routine : List Instr
add_step_routine =
    loop_reached
    ++ (load si at_bx ∷ compare si di ∷ jump_if_not_below 0x9A ∷ double si
    ∷ load ax at_si ∷ add_word ax (near_field 2) ∷ jump_if_overflow 0x95 ∷ store at_si ax ∷ i86.Ret ∷ [])

-- the value of the control variable on the stack; AX stays
abbrev pub put_variable_place : ℕ
put_variable_place = 185

abbrev pub put_variable_routine : List Instr
put_variable_routine =
    i86.Pop si ∷ (loop_reached ++ (load bx at_bx ∷ compare bx di ∷ jump_if_not_below 0x83 ∷ double bx ∷ load cx at_bx ∷ i86.Push cx ∷ jump_to si ∷ []))

-- Takes the value of the control variable from the stack. Where that is past the limit the way on is behind the call, and else 3 bytes
-- further, past a jump. Where the step is negative, the value and the limit are turned bit by bit, which turns their order; where it is 0,
-- none is past the limit.
abbrev pub exhausted_place : ℕ
exhausted_place = 203

abbrev pub exhausted_routine : List Instr
exhausted_routine =
    i86.Pop si ∷ (loop_reached
    ++ (i86.Pop cx ∷ load ax (near_field 2) ∷ load bx (near_field 4) ∷ i86.Cwd
    ∷ with_number 7 0 ∷ jump_if_equal 10
    ∷ one_of cx dx ∷ one_of bx dx ∷ compare cx bx ∷ jump_if_at_most 2 ∷ jump_to si
    ∷ add_number si 3 ∷ jump_to si ∷ []))

-- ---- products and quotients
--
-- These take operands in AX and BX and a count in CX, and come back with their result in AX and OF clear, or, where it fits no word, with OF
-- set. The counts are 1 to 15, and 0 to 16 for the quotient that is scaled up. The divisor is not 0.

-- The product over 2 to the count, rounded down. The two words of the quotient have to be those of one word.
abbrev pub product_place : ℕ
product_place = 236

abbrev pub product_routine : List Instr
product_routine =
    multiply bx ∷ shift_down ax ∷ move bx dx ∷ shift_down_signed dx ∷ negate cx ∷ add_number cx 16
    ∷ shift_up bx ∷ add ax bx ∷ move bx dx ∷ i86.Cwd ∷ compare dx bx ∷ jump_if_unequal 1 ∷ i86.Ret ∷ []

-- sets OF
abbrev pub too_large_place : ℕ
too_large_place = 261

abbrev pub too_large : List Instr
too_large = set_byte al 0x80 ∷ i86.AluRm 0 false true al (rms.Reg al) ∷ i86.Ret ∷ []

-- the magnitudes in AX and BX, and in SI all bits set where the signs differ
abbrev pub magnitudes : List Instr
magnitudes =
    i86.Cwd ∷ move si dx ∷ one_of ax dx ∷ subtract ax dx ∷ exchange
    ∷ i86.Cwd ∷ one_of si dx ∷ one_of ax dx ∷ subtract ax dx ∷ exchange ∷ []

-- the dividend's magnitude over 2 to the count
abbrev pub quotient_down_place : ℕ
quotient_down_place = 266

abbrev pub quotient_down_routine : List Instr
quotient_down_routine = magnitudes ++ (shift_down ax ∷ set_word dx 0 ∷ i86.JumpShort 0x1B ∷ [])

-- The dividend's magnitude times 2 to the count, as a pair of words. From there on both have one way: a quotient that is not below
-- 32,768, or, where the signs differ, 32,769, is too large.
abbrev pub quotient_up_place : ℕ
quotient_up_place = 289

abbrev pub quotient_up_routine : List Instr
quotient_up_routine = magnitudes ++ (move dx ax ∷ shift_up ax ∷ negate cx ∷ add_number cx 16 ∷ shift_down dx ∷ [])

abbrev pub quotient_end_place : ℕ
quotient_end_place = 316

abbrev pub quotient_end : List Instr
quotient_end =
    compare dx bx ∷ jump_if_not_below 0xC5 ∷ divide bx ∷ set_word dx 32768 ∷ subtract dx si ∷ compare ax dx ∷ jump_if_not_below 0xBA
    ∷ one_of ax si ∷ subtract ax si ∷ either ax ax ∷ i86.Ret ∷ []

-- ---- the step of a loop
--
-- What follows the body of a loop of one STEP element. BX is twice the address of the loop's words. It comes back with LE where the body follows,
-- and with its opposite where the loop is left: where word 3 is not the number of the element, or the control variable with its step is past the
-- limit. Where word 0 is no address of the data area, or the sum fits no word, it stops, at the line in the word 5 bytes behind the call.

abbrev pub next_step_place : ℕ
next_step_place = 338

abbrev pub next_step_test : List Instr
next_step_test = i86.AluShort 7 (near_field 6) 1 ∷ jump_if_unequal 0x1D ∷ []

-- a positive step, where the control variable is not word 0 of the loop
abbrev pub stepped_place : ℕ
stepped_place = 344

abbrev pub stepped : List Instr
stepped =
    load si at_bx ∷ compare si di ∷ jump_if_not_below 0x42 ∷ double si ∷ compare si bx ∷ jump_if_equal 0x16
    ∷ load ax (near_field 2) ∷ either ax ax ∷ jump_if_at_most 0x0F
    ∷ add_word ax at_si ∷ jump_if_overflow 0x35 ∷ store at_si ax ∷ compare_word ax (near_field 4) ∷ i86.Ret ∷ []

abbrev pub left_place : ℕ
left_place = 373

abbrev pub left : List Instr
left = set_byte al 1 ∷ i86.AluRm 1 false true al (rms.Reg al) ∷ i86.Ret ∷ []

-- any step: what the store may have changed is read again
abbrev pub stepped_any_place : ℕ
stepped_any_place = 378

abbrev pub stepped_any : List Instr
stepped_any = load ax at_si ∷ add_word ax (near_field 2) ∷ jump_if_overflow 0x23 ∷ store at_si ax ∷ []

abbrev pub turned_place : ℕ
turned_place = 387

abbrev pub turned : List Instr
turned =
    load si at_bx ∷ compare si di ∷ jump_if_not_below 0x17 ∷ double si ∷ load cx at_si ∷ load ax (near_field 2) ∷ either ax ax
    ∷ jump_if_sign 6 ∷ jump_if_equal 3 ∷ compare_word cx (near_field 4) ∷ i86.Ret
    ∷ load ax (near_field 4) ∷ compare ax cx ∷ i86.Ret ∷ []

-- The stops of these, with their line, which stands behind a jump where the call comes back.
abbrev pub step_address_place : ℕ
step_address_place = 416

abbrev pub step_address_stop : List Instr
step_address_stop = set_byte al 4 ∷ i86.JumpShort 2 ∷ []

abbrev pub step_sum_place : ℕ
step_sum_place = 420

abbrev pub step_sum_stop : List Instr
step_sum_stop = set_byte al 1 ∷ []

abbrev pub step_line_place : ℕ
step_line_place = 422

abbrev pub step_line : List Instr
step_line = i86.Pop bx ∷ load dx (code_behind_bx 5) ∷ i86.Jump 65161 ∷ []

-- ---- an activation that code of a segment begins

-- Stops at the line in DX, with Depth where no call is left, which is where CX is 0, and else with Frames.
abbrev pub enter_stop_place : ℕ
enter_stop_place = 430

abbrev pub enter_stop : List Instr
enter_stop = jump_if_cx_zero 3 ∷ i86.Jump 65188 ∷ i86.Jump 65181 ∷ []

-- ---- the whole

-- the stops with the line behind their call, and then those with the line in DX: address and sum of the routines of loops, switch, depth, frames;
-- the step of a loop and the stop of an activation are last
abbrev pub routines : List (List Instr)
routines =
    start_routine
    ∷ stop_routine 1 12 ∷ stop_routine 2 8 ∷ stop_routine 4 4 ∷ stop_routine 7 0 ∷ line_taken ∷ tell
    ∷ told_stop 4 0xEC ∷ told_stop 1 0xE8 ∷ told_stop 3 0xE4 ∷ told_stop 6 0xE0 ∷ told_stop 5 0xDC
    ∷ enter_routine ∷ read_routine ∷ set_variable_routine ∷ add_step_routine ∷ put_variable_routine ∷ exhausted_routine
    ∷ product_routine ∷ too_large ∷ quotient_down_routine ∷ quotient_up_routine ∷ quotient_end
    ∷ next_step_test ∷ stepped ∷ left ∷ stepped_any ∷ turned ∷ step_address_stop ∷ step_sum_stop ∷ step_line ∷ enter_stop ∷ []

abbrev pub joined : List (List Instr) → List Instr
joined [] = []
joined (r ∷ rs) = r ++ joined rs

-- the way past the library, and the end
abbrev pub front : List Instr
front = i86.Jump (2 + length (bytes_of_all (joined routines))) ∷ end_routine

abbrev pub library_bytes : List ℕ
library_bytes = bytes_of_all front ++ no_instruction ∷ bytes_of_all (joined routines)

-- ---- the entries, by number
--
-- Numbers are not used again: 1 to 17 were entries of earlier libraries.

abbrev pub start_entry : ℕ
start_entry = 18

abbrev pub overflow_entry : ℕ
overflow_entry = 19

abbrev pub zero_divisor_entry : ℕ
zero_divisor_entry = 20

abbrev pub address_entry : ℕ
address_entry = 21

abbrev pub bounds_entry : ℕ
bounds_entry = 22

abbrev pub switch_entry : ℕ
switch_entry = 23

abbrev pub read_entry : ℕ
read_entry = 25

abbrev pub product_entry : ℕ
product_entry = 26

abbrev pub quotient_down_entry : ℕ
quotient_down_entry = 27

abbrev pub quotient_up_entry : ℕ
quotient_up_entry = 28

abbrev pub set_variable_entry : ℕ
set_variable_entry = 29

abbrev pub add_step_entry : ℕ
add_step_entry = 30

abbrev pub put_variable_entry : ℕ
put_variable_entry = 31

abbrev pub exhausted_entry : ℕ
exhausted_entry = 32

abbrev pub enter_entry : ℕ
enter_entry = 33

abbrev pub next_step_entry : ℕ
next_step_entry = 34

abbrev pub enter_stop_entry : ℕ
enter_stop_entry = 35

abbrev pub places_of_entries : List ℕ
places_of_entries =
    end_place ∷ retired_place ∷ retired_place ∷ retired_place ∷ retired_place ∷ retired_place ∷ retired_place ∷ retired_place ∷ retired_place
    ∷ retired_place ∷ retired_place ∷ retired_place ∷ retired_place ∷ retired_place ∷ retired_place ∷ retired_place ∷ retired_place ∷ retired_place
    ∷ start_place ∷ stop_place Overflow ∷ stop_place ZeroDivisor ∷ stop_place AddressRange ∷ stop_place IndexRange ∷ stop_place SwitchRange
    ∷ retired_place ∷ read_place ∷ product_place ∷ quotient_down_place ∷ quotient_up_place
    ∷ set_variable_place ∷ add_step_place ∷ put_variable_place ∷ exhausted_place ∷ enter_place ∷ next_step_place
    ∷ enter_stop_place ∷ []

-- the place of a routine
abbrev pub library_entry : ℕ → Option ℕ
library_entry k = slice_get places_of_entries k

abbrev pub entry_place : ℕ → ℕ
entry_place k = slice_index places_of_entries k
