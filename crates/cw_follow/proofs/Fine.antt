-- The pieces of each template are instructions with the numbers of their rows, and stand where their bytes do.
use Rattle.std.proofs.Common.{◌≡◌, ◌≢◌, ℕ, zero, suc, ◌+◌, ◌-◌, ◌/◌, ◌%◌, ◌<◌, ◌≤◌, List, [], ◌∷◌, ◌++◌, length, drop, get_or, sym, refl, ap, ◌∙◌, subst, arith, lit<, append_assoc, length-append, Option, Some, None, Bool, true, false, ℤ, pos, negsuc, ◌*◌, ◌^◌, pow_mono}
use Rattle.std.specs.Prelude.{slice_get, slice_index, slice_index_or, nat_lt, nat_le, ◌==◌, if◌then◌else◌, ◌-ℤ◌}
use Rattle.cw_i86.specs.Encoding.{IsRm, word, IsInstr}
use Rattle.cw_unit.specs.declared.unit.Goal.{Goal}
use Rattle.cw_unit.specs.declared.unit.Goal.TheVariants as goal
use Rattle.cw_unit.specs.declared.unit.Def.{Def}
use Rattle.cw_unit.specs.declared.unit.Def.TheVariants as def
use Rattle.cw_i86.specs.declared.instr.Instr.{Instr}
use Rattle.cw_run86.specs.Views.{with_memory, with_number, Greater, condition_of}
use Rattle.cw_order.specs.declared.order.Comparator.{Comparator}
use Rattle.cw_order.specs.declared.order.Comparator.TheVariants as comparator
use Rattle.cw_order.specs.declared.order.Order.{Order}
use Rattle.cw_order.specs.declared.order.Order.TheVariants as order
use Rattle.cw_order.specs.OrderProgram.{OrderProgram, defined_at}
use Rattle.cw_tmpl.specs.declared.pieces.Limit.TheVariants as limit
use Rattle.cw_tmpl.specs.declared.pieces.Target.{Target}
use Rattle.cw_tmpl.specs.declared.pieces.Target.TheVariants as target
use Rattle.cw_tmpl.specs.declared.pieces.Coded.{Coded}
use Rattle.cw_tmpl.specs.declared.pieces.Coded.TheVariants as coded
use Rattle.cw_tmpl.specs.Pieces.{Filling, bytes_with, size_of, target_of, relocation_of, word_of, word_before, filled}
use Rattle.cw_tmpl.specs.Mnemonics.{field, code_at, entry_of_table, change_memory, operate_number, memory, argument, double, jump_to, jump_if_below, set_word, at_bx, at_si, load, store, subtract, both, either, one_of, operate, change, move, add, multiply, shift_up, shift_up_once, shift_down, shift_down_once, shift_down_signed, shift_down_signed_once}
use Rattle.cw_tmpl.specs.Library.{places_of_entries, entry_place, start_entry, overflow_entry, zero_divisor_entry, address_entry, bounds_entry, switch_entry, enter_entry, enter_stop_entry, read_entry, product_entry, quotient_up_entry, quotient_down_entry, set_variable_entry, add_step_entry, put_variable_entry, exhausted_entry, next_step_entry}
use Rattle.cw_tmpl.specs.Names.{Names, mark_place, call_place, label_start, switch_start, procedure_start}
use Rattle.cw_tmpl.specs.Templates.{ended_back, rescale, rescale_before, product_before, quotient_before, is_checked, word_compared, template, call_library, call_stop, unless_overflow, checked, checked_by, call_at_line, on_both, with_word, times, times_if, shifted, shifted_up, shifted_down, shifted_down_signed, lowest_if, taken, part_taken, load_top, store_part, rescale_if, by_routine, product_start, product_down, product, divisor_tested, quotient, in_area, index_by, less_bound, plus_word, times_width, base_kept, based, element, in_row, element_of_two, element_inside, entry, top_below, with_both_bounds, in_bounds, branch, distance, jump_near, opposite_of, frame_entered, control_out, return_with, operands_dropped, base_jump, number_compared, mark_words, goal_words, loop_way, loop_ways, place_doubled, doubled_size, step_taken, switch_pieces, address_pieces, load_place, store_place, operate_place, change_place, index_added, index_loaded, from_lower, indexes_between, element_tested, element_address, with_operand, product_with, pieces_size, operated, top_from_lower, times_entry, formed, block_pieces, entry_pieces, template_by, branch_by, short_branch, segment_word, argument_load_size, column_loaded, column_below, row_address}
use Rattle.cw_order.specs.declared.order.Place.{Place}
use Rattle.cw_order.specs.declared.order.Place.TheVariants as cell
use Rattle.cw_tmpl.specs.declared.blocks.Element.{Element}
use Rattle.cw_tmpl.specs.declared.blocks.Test.{Test}
use Rattle.cw_tmpl.specs.declared.blocks.Test.TheVariants as test
use Rattle.cw_tmpl.specs.declared.blocks.Simple.{Simple}
use Rattle.cw_tmpl.specs.declared.blocks.Simple.TheVariants as simple
use Rattle.cw_tmpl.specs.declared.blocks.Form.{Form}
use Rattle.cw_tmpl.specs.declared.blocks.Form.TheVariants as form
use Rattle.cw_tmpl.specs.declared.rows.Column.{Column}
use Rattle.cw_tmpl.specs.declared.rows.Column.TheVariants as column
use Rattle.cw_tmpl.specs.declared.rows.Row.{Row}
use Rattle.cw_tmpl.specs.declared.blocks.Use.{Use}
use Rattle.cw_tmpl.specs.declared.blocks.Use.TheVariants as uses
use Rattle.cw_tmpl.specs.declared.blocks.Block.{Block}
use Rattle.cw_tmpl.specs.declared.blocks.Block.TheVariants as block
use Rattle.cw_tmpl.specs.Blocks.{order_of}
use Rattle.cw_tmpl.specs.ReferenceCode.{names_of}
use Rattle.cw_follow.proofs.Fields.{doubled_small, field_fine, argument_fine}
use Rattle.cw_follow.proofs.Fits.{OrderFits, TestFits, ElementFits, SimpleFits, FormFits, ColumnFits, RowFits, BlockFits}
use Rattle.cw_follow.specs.Placing.{Fills, base_of, definition_place}
use Rattle.cw_follow.proofs.Branches.{comparison_small, short_small}
use Rattle.cw_follow.proofs.Stacks.{start_small}
use Rattle.cw_tmpl.proofs.Endings.{rescale_ends, product_ends, quotient_ends}
use Rattle.cw_tmpl.proofs.Growing.{mask_small}
use Rattle.cw_tmpl.proofs.Filling.{size_with}
use Rattle.cw_routines.specs.Ways.{HasWord}
use Rattle.cw_follow.proofs.Bytes.{HasPiece, HasPieces}
use Rattle.cw_i86.specs.declared.instr.Instr.TheVariants as i86
use Rattle.cw_i86.specs.declared.instr.Imm.TheVariants as imm
use Rattle.cw_i86.specs.declared.instr.Place.TheVariants as places
use Rattle.cw_word.specs.FixedPoint.{FitsWord}
use Rattle.cw_word.specs.Word.{unsigned}
use Rattle.cw_routines.proofs.Valid.{byte_there, one_there}
use Rattle.cw_word.specs.BitField.{field_mask}
use Rattle.cw_order.specs.HasCode.{HasCode}
use Rattle.cw_order.specs.OrderLines.{line_of}

-- ---- pieces with their words filled in

-- What is filled in for this target is a word.
abbrev pub IsFilled : Filling → Target → Type 0
IsFilled value t = (after : ℕ) → word_of value after (relocation_of 0 t) < 65536

-- The piece is an instruction with the numbers of its row.
abbrev pub IsFine : Filling → Coded → Type 0
IsFine value (coded.Whole i) = IsInstr i
IsFine value (coded.Move reg t) = (reg < 8) × IsFilled value t
IsFine value (coded.Sum reg t) = (reg < 8) × IsFilled value t
IsFine value (coded.Fetch reg t) = (reg < 8) × IsFilled value t
IsFine value (coded.Load t) = IsFilled value t
IsFine value (coded.Store t) = IsFilled value t
IsFine value (coded.PushCode t) = IsFilled value t
IsFine value (coded.Operate op reg t) = (op < 8) × (reg < 8) × IsFilled value t
IsFine value (coded.Change op reg t) = (op < 8) × (reg < 8) × IsFilled value t
IsFine value (coded.Call t) = IsFilled value t
IsFine value (coded.Jump t) = IsFilled value t
IsFine value (coded.Word t) = IsFilled value t
IsFine value (coded.Data n) = n < 65536
IsFine value (coded.Way t) = IsFilled value t

abbrev pub AllFine : Filling → List Coded → Type 0
AllFine value [] = Unit {0}
AllFine value (p ∷ ps) = IsFine value p × AllFine value ps

-- pieces with others behind them
all_fine-first : (value : Filling) (ps qs : List Coded) → AllFine value (ps ++ qs) → AllFine value ps
all_fine-first value [] qs h = tt
all_fine-first value (p ∷ ps) qs h = (h.0, all_fine-first value ps qs h.1)

pub all_fine-append : (value : Filling) (ps qs : List Coded) → AllFine value ps → AllFine value qs → AllFine value (ps ++ qs)
all_fine-append value [] qs a b = b
all_fine-append value (p ∷ ps) qs a b = (a.0, all_fine-append value ps qs a.1 b)

word_there : (image before behind : List ℕ) (place w : ℕ) → w < 65536 → place ≡ length before → image ≡ before ++ (word w ++ behind) → HasWord image place w
word_there image before behind place w lt at e =
    let low : get_or image place 0 ≡ w % 256 = ap (λ l. get_or l place 0) e ∙ ap (λ n. get_or (before ++ (word w ++ behind)) n 0) (let f : place ≡ length before + 0 = omega arith in f) ∙ byte_there before (word w) behind 0 (lit< tt) in
    let high : get_or image (place + 1) 0 ≡ w / 256 % 256 = ap (λ l. get_or l (place + 1) 0) e ∙ ap (λ n. get_or (before ++ (word w ++ behind)) (n + 1) 0) at ∙ byte_there before (word w) behind 1 (lit< tt) in
    record { within = omega (arith, ap length e, length-append before (word w ++ behind)); is = omega arith }

one_piece : (image before behind : List ℕ) (value : Filling) (place : ℕ) (p : Coded) → IsFine value p → place ≡ length before
    → image ≡ before ++ (bytes_with (word_before value (place + size_of p) (target_of p)) p ++ behind) → HasPiece image (word_before value (place + size_of p) (target_of p)) place p
one_piece image before behind value place (coded.Whole i) fine at e = one_there image before behind place i fine at e
one_piece image before behind value place (coded.Move reg t) fine at e = one_there image before behind place (i86.MovImm reg (imm.Word (word_of value (place + 3) (relocation_of 0 t)))) (fine.0, fine.1 (place + 3)) at e
one_piece image before behind value place (coded.Sum reg t) fine at e = one_there image before behind place (operate_number 0 reg (word_of value (place + 4) (relocation_of 0 t))) (lit< tt, fine.0, fine.1 (place + 4)) at e
one_piece image before behind value place (coded.Fetch reg t) fine at e = one_there image before behind place (load reg (memory (places.Direct (word_of value (place + 4) (relocation_of 0 t))))) (fine.0, fine.1 (place + 4)) at e
one_piece image before behind value place (coded.Load t) fine at e = one_there image before behind place (i86.MovAcc false true false (word_of value (place + 3) (relocation_of 0 t))) (fine (place + 3)) at e
one_piece image before behind value place (coded.Store t) fine at e = one_there image before behind place (i86.MovAcc false true true (word_of value (place + 3) (relocation_of 0 t))) (fine (place + 3)) at e
one_piece image before behind value place (coded.PushCode t) fine at e = one_there image before behind place (i86.PushRm (code_at (word_of value (place + 5) (relocation_of 0 t)))) (fine (place + 5), λ e. absurd (cc)) at e
one_piece image before behind value place (coded.Operate op reg t) fine at e = one_there image before behind place (with_memory op reg (word_of value (place + 4) (relocation_of 0 t))) (fine.0, fine.1, fine.2 (place + 4)) at e
one_piece image before behind value place (coded.Change op reg t) fine at e = one_there image before behind place (change_memory op (word_of value (place + 4) (relocation_of 0 t)) reg) (fine.0, fine.1, fine.2 (place + 4)) at e
one_piece image before behind value place (coded.Call t) fine at e = one_there image before behind place (i86.Call (word_of value (place + 3) (relocation_of 0 t))) (fine (place + 3)) at e
one_piece image before behind value place (coded.Jump t) fine at e = one_there image before behind place (i86.Jump (word_of value (place + 3) (relocation_of 0 t))) (fine (place + 3)) at e
one_piece image before behind value place (coded.Word t) fine at e = word_there image before behind place (word_of value (place + 2) (relocation_of 0 t)) (fine (place + 2)) at e
one_piece image before behind value place (coded.Data n) fine at e = word_there image before behind place n fine at e
one_piece image before behind value place (coded.Way t) fine at e = one_there image before behind place (i86.JumpRm (entry_of_table (word_of value (place + 5) (relocation_of 0 t)))) (lit< tt, fine (place + 5)) at e

-- Where the code of pieces stands, they do.
pub pieces_there : (image before behind : List ℕ) (place : ℕ) (value : Filling) (ps : List Coded) → AllFine value ps → place ≡ length before
    → image ≡ before ++ (filled value place ps ++ behind) → HasPieces image value place ps
pieces_there image before behind place value [] fine at e = tt
pieces_there image before behind place value (p ∷ ps) fine at e =
    let B = bytes_with (word_before value (place + size_of p) (target_of p)) p in
    let F = filled value (place + size_of p) ps in
    let flat : image ≡ before ++ (B ++ (F ++ behind)) = e ∙ ap (λ l. before ++ l) (append_assoc B F behind) in
    let further : place + size_of p ≡ length (before ++ B) = omega (arith, length-append before B, size_with (word_before value (place + size_of p) (target_of p)) p) in (
      one_piece image before (F ++ behind) value place p fine.0 at flat,
      pieces_there image (before ++ B) behind (place + size_of p) value ps fine.1 further (flat ∙ sym (append_assoc before B (F ++ behind))),
    )

-- ---- the templates and the entry

is_ax : 0 < 8
is_ax = lit< tt

cx_register : 1 < 8
cx_register = lit< tt

dx_register : 2 < 8
dx_register = lit< tt

is_bx : 3 < 8
is_bx = lit< tt

-- a register that is pushed and popped
abbrev IsFree : ℕ → Type 0
IsFree r = (r < 8) × (r ≢ 4)

ax_free : IsFree 0
ax_free = (is_ax, λ e. omega arith)

bx_free : IsFree 3
bx_free = (is_bx, λ e. omega arith)

bp_free : IsFree 5
bp_free = (lit< tt, λ e. omega arith)

below : (w n : ℕ) → w ≡ n % 65536 → w < 65536
below w n e = omega arith

distance_small : (from to : ℕ) → distance from to < 65536
distance_small from to = omega arith

condition_small : (c : Comparator) → condition_of (opposite_of c) < 16
condition_small comparator.Less = lit< tt
condition_small _ = lit< tt

definition_small : (p : OrderProgram) (d : Option (ℕ × Def)) → definition_place p d < 65536
definition_small p (Some (g, def.Label l)) = start_small p g (slice_get p.units g) (λ o. label_start (names_of o) l)
definition_small p (Some (g, def.Switch n)) = start_small p g (slice_get p.units g) (λ o. switch_start (names_of o) n)
definition_small p (Some (g, def.Proc q)) = start_small p g (slice_get p.units g) (λ o. procedure_start (names_of o) q)
definition_small p None = lit< tt

module _ (p : OrderProgram) (segment next : ℕ) (value : Filling) (fills : Fills p segment next value) (near : next < 65536) where
  home_filled : (family offset : ℕ) → IsFilled value (target.Word family offset)
  home_filled family offset after = below (value 1 family offset after) (slice_index (slice_index_or p.addresses.homes segment []) family + offset) (fills.homes family offset after)

  library_filled : (entry : ℕ) → entry < length places_of_entries → IsFilled value (target.LibraryAhead entry)
  library_filled entry lt after = below (value 7 entry 0 after) (entry_place entry + (65536 - after % 65536)) (fills.library entry after lt)

  next_filled : IsFilled value target.NextSegment
  next_filled after = omega (arith, fills.next_is after)

  pub entry_fine : AllFine value entry_pieces
  entry_fine =
      let area : IsFilled value (target.Limit limit.DataWords) = λ after. below (value 8 0 0 after) p.limits.area (fills.area after) in
      let frames : IsFilled value (target.Limit limit.FrameWords) = λ after. below (value 8 1 0 after) p.limits.frames (fills.frames after) in
      let depth : IsFilled value (target.Limit limit.Calls) = λ after. below (value 8 2 0 after) p.limits.depth (fills.depth after) in
      let number : IsFilled value (target.Limit limit.Segment) = λ after. below (value 8 3 0 after) (segment + 1) (fills.number after) in
      (library_filled start_entry (lit< tt), (area, (frames, (depth, (number, tt)))))

  bytes_filled : (family offset : ℕ) → IsFilled value (target.Bytes family offset)
  bytes_filled family offset after = let e = fills.bytes family offset after in omega arith

  call_stop_fine : (stop line : ℕ) → stop < length places_of_entries → line < 65536 → AllFine value (call_stop stop line)
  call_stop_fine stop line lt small = (library_filled stop lt, (small, tt))

  stop_fine : (stop line : ℕ) → stop < length places_of_entries → line < 65536 → AllFine value (unless_overflow stop line)
  stop_fine stop line lt small = ((lit< tt, lit< tt), call_stop_fine stop line lt small)

  checked_fine : (line : ℕ) → line < 65536 → AllFine value (checked line)
  checked_fine line small = stop_fine overflow_entry line (lit< tt) small

  times_fine : (b : Bool) (stop line n : ℕ) → stop < length places_of_entries → line < 65536 → n < 65536 → AllFine value (times_if b stop line n)
  times_fine true stop line n lt small word = ((lit< tt, lit< tt, is_ax), ((is_bx, word), ((lit< tt, lit< tt, is_bx), stop_fine stop line lt small)))
  times_fine false stop line n lt small word = ((is_bx, word), ((lit< tt, lit< tt, is_bx), stop_fine stop line lt small))

  routine_fine : (line entry count : ℕ) → line < 65536 → entry < length places_of_entries → count < 65536 → AllFine value (by_routine line entry count)
  routine_fine line entry count small lt word = ((cx_register, word), (library_filled entry lt, checked_fine line small))

  at_line_fine : (entry line : ℕ) → entry < length places_of_entries → line < 65536 → AllFine value (call_at_line entry line)
  at_line_fine entry line lt small = ((dx_register, small), (library_filled entry lt, tt))

  load_fine : AllFine value load_top
  load_fine = (is_bx, ((lit< tt, λ e. omega arith, is_bx), ((is_ax, (lit< tt, λ e. omega arith)), tt)))

  both_fine : (i : Instr) → IsInstr i → AllFine value (on_both i)
  both_fine i instr = (bx_free, (instr, tt))

  word_fine : (stop line w : ℕ) (i : Instr) → stop < length places_of_entries → line < 65536 → w < 65536 → IsInstr i → AllFine value (with_word stop line w i)
  word_fine stop line w i lt small word instr = ((is_bx, word), (instr, stop_fine stop line lt small))

  -- a shift of AX
  shifted_fine : (once by_count : Instr) (n : ℕ) → IsInstr once → IsInstr by_count → n < 65536 → AllFine value (shifted once by_count n)
  shifted_fine once by_count zero one many small = tt
  shifted_fine once by_count (suc zero) one many small = (one, tt)
  shifted_fine once by_count (suc (suc n)) one many small = ((cx_register, small), (many, tt))

  up_fine : (n : ℕ) → n ≤ 16 → AllFine value (shifted_up n)
  up_fine n few = shifted_fine (shift_up_once 0) (shift_up 0) n (lit< tt, λ e. omega arith, is_ax) (lit< tt, λ e. omega arith, is_ax) (omega arith)

  down_fine : (n : ℕ) → n ≤ 16 → AllFine value (shifted_down n)
  down_fine n few = shifted_fine (shift_down_once 0) (shift_down 0) n (lit< tt, λ e. omega arith, is_ax) (lit< tt, λ e. omega arith, is_ax) (omega arith)

  down_signed_fine : (n : ℕ) → n ≤ 16 → AllFine value (shifted_down_signed n)
  down_signed_fine n few = shifted_fine (shift_down_signed_once 0) (shift_down_signed 0) n (lit< tt, λ e. omega arith, is_ax) (lit< tt, λ e. omega arith, is_ax) (omega arith)

  lowest_fine : (whole : Bool) (t : ℕ) → t ≤ 16 → AllFine value (lowest_if whole t)
  lowest_fine true t few = tt
  lowest_fine false t few = let power : 2 ^ t ≤ 2 ^ 16 = pow_mono few in ((lit< tt, (let x : 2 ^ t - 1 < 65536 = omega arith in x)), tt)

  taken_fine : (t b : ℕ) → t + b ≤ 16 → AllFine value (taken t b)
  taken_fine t b room = all_fine-append value (shifted_down b) (lowest_if (t + b == 16) t) (down_fine b (omega arith)) (lowest_fine (t + b == 16) t (omega arith))

  part_fine : (t b : ℕ) (is_signed : Bool) → t + b ≤ 16 → AllFine value (part_taken t b is_signed)
  part_fine t b true room = all_fine-append value (shifted_up (16 - (t + b))) (shifted_down_signed (16 - t)) (up_fine (16 - (t + b)) (omega arith)) (down_signed_fine (16 - t) (omega arith))
  part_fine t b false room = taken_fine t b room

  store_part_fine : (t b : ℕ) → t + b ≤ 16 → AllFine value (store_part t b)
  store_part_fine t b room =
      let changes : AllFine value (coded.Whole (operate 6 0 at_bx) ∷ coded.Whole (with_number 4 (field_mask t b)) ∷ coded.Whole (change 6 at_bx 0) ∷ []) =
      ((lit< tt, is_ax, (lit< tt, λ e. omega arith)), ((lit< tt, mask_small t b room), ((lit< tt, is_ax, (lit< tt, λ e. omega arith)), tt))) in
      ((is_bx, is_ax), (ax_free, ((lit< tt, λ e. omega arith, is_bx), all_fine-append value (shifted_up b) _ (up_fine b (omega arith)) changes)))

  power_small : (n k : ℕ) → n ≤ k → k ≤ 15 → 2 ^ n < 65536
  power_small n k le few = let power : 2 ^ n ≤ 2 ^ 15 = pow_mono (let h : n ≤ 15 = omega arith in h) in omega arith

  rescale_fine : (up top : Bool) (line from to : ℕ) → line < 65536 → from ≤ 15 → to ≤ 15 → AllFine value (rescale_if up top line from to)
  rescale_fine true top line from to small lf lt = times_fine top overflow_entry line (2 ^ (to - from)) (lit< tt) small (power_small (to - from) to (omega arith) lt)
  rescale_fine false top line from to small lf lt = ((cx_register, (let x : from - to < 65536 = omega arith in x)), ((lit< tt, λ e. omega arith, is_ax), tt))

  product_start_fine : (line : ℕ) → line < 65536 → AllFine value (product_start line)
  product_start_fine line small = (bx_free, ((lit< tt, lit< tt, is_bx), checked_fine line small))

  product_fine : (line : ℕ) → line < 65536 → (s : ℤ) → HasCode (order.Mul s line) → AllFine value (product line s)
  product_fine line small (pos zero) h = product_start_fine line small
  product_fine line small (pos (suc n)) h =
      all_fine-append value (product_start line) (times overflow_entry line (2 ^ suc n)) (product_start_fine line small)
      (times_fine (2 ^ suc n == 32768) overflow_entry line (2 ^ suc n) (lit< tt) small (power_small (suc n) (suc n) (omega arith) h))
  product_fine line small (negsuc n) h = down (nat_lt n 15)
    where
      down : (b : Bool) → AllFine value (product_down line b n)
      down true = (bx_free, routine_fine line product_entry (n + 1) small (lit< tt) (omega arith))
      down false = (bx_free, ((lit< tt, lit< tt, is_bx), ((is_ax, dx_register), ((cx_register, (let x : n - 15 < 65536 = omega arith in x)), ((lit< tt, λ e. omega arith, is_ax), tt)))))

  divisor_fine : (line : ℕ) → line < 65536 → AllFine value (divisor_tested line)
  divisor_fine line small = ((is_bx, is_ax), (ax_free, ((lit< tt, is_bx, is_bx), ((lit< tt, lit< tt), call_stop_fine zero_divisor_entry line (lit< tt) small))))

  quotient_fine : (line : ℕ) → line < 65536 → (s : ℤ) → HasCode (order.Div s line) → AllFine value (quotient line s)
  quotient_fine line small (pos n) h =
      all_fine-append value (divisor_tested line) (by_routine line quotient_up_entry n) (divisor_fine line small) (routine_fine line quotient_up_entry n small (lit< tt) (omega arith))
  quotient_fine line small (negsuc n) h =
      all_fine-append value (divisor_tested line) (by_routine line quotient_down_entry (n + 1)) (divisor_fine line small) (routine_fine line quotient_down_entry (n + 1) small (lit< tt) (omega arith))

  unsigned_small : (z : ℤ) → FitsWord z → unsigned z < 65536
  unsigned_small (pos n) h = omega (arith, h.sfits)
  unsigned_small (negsuc n) h = omega (arith, h.sfits)

  -- ---- the way to an address

  by_number_fine : (op line w : ℕ) → op < 8 → line < 65536 → w < 65536 → AllFine value (index_by op line w)
  by_number_fine op line w lt small word = ((lt, word), stop_fine address_entry line (lit< tt) small)

  less_fine : (line : ℕ) → line < 65536 → (lower : ℤ) → FitsWord lower → AllFine value (less_bound line lower)
  less_fine line small (pos zero) fl = tt
  less_fine line small (pos (suc n)) fl = by_number_fine 5 line (unsigned (pos (suc n))) (lit< tt) small (unsigned_small (pos (suc n)) fl)
  less_fine line small (negsuc n) fl = by_number_fine 5 line (unsigned (negsuc n)) (lit< tt) small (unsigned_small (negsuc n) fl)

  plus_fine : (line : ℕ) → line < 65536 → (word : ℕ) → word < 32768 → AllFine value (plus_word line word)
  plus_fine line small zero lt = tt
  plus_fine line small (suc n) lt = by_number_fine 0 line (suc n) (lit< tt) small (let x : suc n < 65536 = omega arith in x)

  width_fine : (one : Bool) (line width : ℕ) → line < 65536 → width ≤ 32768 → AllFine value (if one then [] else times address_entry line width)
  width_fine true line width small most = tt
  width_fine false line width small most = times_fine (width == 32768) address_entry line width (lit< tt) small (omega arith)

  added_fine : (r line : ℕ) → r < 8 → line < 65536 → (qs : List Coded) → AllFine value qs → AllFine value (coded.Whole (add 0 r) ∷ (unless_overflow address_entry line ++ qs))
  added_fine r line lt small qs fine = ((lit< tt, is_ax, lt), all_fine-append value (unless_overflow address_entry line) qs (stop_fine address_entry line (lit< tt) small) fine)

  area_fine : (line : ℕ) → line < 65536 → AllFine value (in_area line)
  area_fine line small = ((lit< tt, is_ax, lit< tt), ((lit< tt, lit< tt), call_stop_fine address_entry line (lit< tt) small))

  based_fine : (line : ℕ) → line < 65536 → AllFine value (based line)
  based_fine line small = added_fine 6 line (lit< tt) small (in_area line) (area_fine line small)

  base_kept_fine : (qs : List Coded) → AllFine value qs → AllFine value (base_kept ++ qs)
  base_kept_fine qs fine = ((lit< tt, is_ax), (ax_free, fine))

  element_fine : (line : ℕ) → line < 65536 → (lower : ℤ) → FitsWord lower → AllFine value (element line lower)
  element_fine line small lower fl = base_kept_fine _ (all_fine-append value (less_bound line lower) (based line) (less_fine line small lower fl) (based_fine line small))

  element_of_two_fine : (line : ℕ) → line < 65536 → (lower second : ℤ) (width : ℕ) → FitsWord lower → FitsWord second → width ≤ 32768 → AllFine value (element_of_two line lower second width)
  element_of_two_fine line small lower second width fl fs most =
      let ends : List Coded = in_row line ++ based line in
      let row : List Coded = less_bound line lower ++ (times address_entry line width ++ ends) in
      let ends_fine : AllFine value ends = added_fine 1 line (lit< tt) small (based line) (based_fine line small) in
      let row_fine : AllFine value row = all_fine-append value (less_bound line lower) (times address_entry line width ++ ends) (less_fine line small lower fl)
      (all_fine-append value (times address_entry line width) ends (times_fine (width == 32768) address_entry line width (lit< tt) small (omega arith)) ends_fine) in
      base_kept_fine _ (all_fine-append value (less_bound line second) (coded.Whole (move 1 0) ∷ coded.Whole (i86.Pop 0) ∷ row) (less_fine line small second fs) ((cx_register, is_ax), (ax_free, row_fine)))

  top_lower_fine : (lower : ℤ) → FitsWord lower → AllFine value (top_from_lower lower)
  top_lower_fine (pos zero) fl = tt
  top_lower_fine (pos (suc n)) fl = ((lit< tt, unsigned_small (pos (suc n)) fl), tt)
  top_lower_fine (negsuc n) fl = ((lit< tt, unsigned_small (negsuc n) fl), tt)

  times_entry_fine : (one : Bool) (width : ℕ) → width < 65536 → AllFine value (if one then [] else coded.Whole (set_word 3 width) ∷ coded.Whole (multiply 3) ∷ [])
  times_entry_fine true width small = tt
  times_entry_fine false width small = ((is_bx, small), ((lit< tt, lit< tt, is_bx), tt))

  element_inside_fine : (lower second : ℤ) (width : ℕ) → FitsWord lower → FitsWord second → width ≤ 32768 → AllFine value (element_inside lower second width)
  element_inside_fine lower second width fl fs most =
      let sums : List Coded = coded.Whole (add 0 1) ∷ coded.Whole (add 0 6) ∷ [] in
      let row_fine : AllFine value (top_from_lower lower ++ (times_entry width ++ sums)) = all_fine-append value (top_from_lower lower) (times_entry width ++ sums) (top_lower_fine lower fl)
      (all_fine-append value (times_entry width) sums (times_entry_fine (width == 1) width (omega arith)) ((lit< tt, is_ax, lit< tt), ((lit< tt, is_ax, lit< tt), tt))) in
      base_kept_fine _ (all_fine-append value (top_from_lower second) _ (top_lower_fine second fs) ((cx_register, is_ax), (ax_free, row_fine)))

  entry_of_table_fine : (line : ℕ) → line < 65536 → (width word : ℕ) → width ≤ 32768 → word < 32768 → AllFine value (entry line width word)
  entry_of_table_fine line small width word most lt =
      base_kept_fine _ (all_fine-append value (times_width line width) (plus_word line word ++ based line) (width_fine (width == 1) line width small most)
      (all_fine-append value (plus_word line word) (based line) (plus_fine line small word lt) (based_fine line small)))

  between_small : (last : ℤ) → indexes_between last < 65536
  between_small (pos n) = omega arith
  between_small (negsuc n) = lit< tt

  below_fine : (line count : ℕ) → line < 65536 → count < 65536 → AllFine value (top_below line count)
  below_fine line count small lt = ((lit< tt, lt), ((lit< tt, lit< tt), call_stop_fine bounds_entry line (lit< tt) small))

  both_bounds_fine : (line : ℕ) → line < 65536 → (lower upper : ℤ) → FitsWord lower → FitsWord upper → AllFine value (with_both_bounds line lower upper)
  both_bounds_fine line small lower upper fl fu = (
    (lit< tt, unsigned_small lower fl),
    (
      (lit< tt, lit< tt),
      (
        library_filled bounds_entry (lit< tt),
        (small, ((lit< tt, unsigned_small upper fu), ((lit< tt, lit< tt), call_stop_fine bounds_entry line (lit< tt) small))),
      ),
    ),
  )

  bounds_fine : (line : ℕ) → line < 65536 → (lower upper : ℤ) → FitsWord lower → FitsWord upper → AllFine value (in_bounds line lower upper)
  bounds_fine line small (pos zero) upper fl fu = below_fine line (indexes_between upper) small (between_small upper)
  bounds_fine line small (pos (suc n)) upper fl fu = both_bounds_fine line small (pos (suc n)) upper fl fu
  bounds_fine line small (negsuc n) upper fl fu = both_bounds_fine line small (negsuc n) upper fl fu

  branch_fine : (c : Comparator) (end to : ℕ) → AllFine value (branch c end to)
  branch_fine c end to = ((condition_small c, lit< tt), (distance_small end to, tt))

  short_branch_fine : (c : Comparator) (end to : ℕ) → AllFine value (short_branch c end to)
  short_branch_fine c end to = ((comparison_small c, short_small end to), tt)

  branch_by_fine : (short : Bool) (c : Comparator) (place to : ℕ) → AllFine value (branch_by short c place to)
  branch_by_fine true c place to = short_branch_fine c (place + 2) to
  branch_by_fine false c place to = branch_fine c (place + 5) to

  place_filled : (add : ℕ) → IsFilled value (target.Place add)
  place_filled add after = below (value 3 0 add after) (base_of p segment + add) (fills.places add after)

  definition_filled : (d : ℕ) → IsFilled value (target.Definition d)
  definition_filled d after =
      let small = definition_small p (defined_at p segment d) in
      let e = fills.definitions d after in
      let lt : value 4 d 0 after < 65536 = omega arith in
      lt

  ahead_filled : (d : ℕ) → IsFilled value (target.DefinitionAhead d)
  ahead_filled d after = below (value 5 d 0 after) (definition_place p (defined_at p segment d) + (65536 - after % 65536)) (fills.ahead d after)

  number_filled : IsFilled value (target.Limit limit.Segment)
  number_filled after = below (value 8 3 0 after) (segment + 1) (fills.number after)

  dropped_fine : AllFine value operands_dropped
  dropped_fine = ((lit< tt, lit< tt), ((lit< tt, lit< tt), ((lit< tt, lit< tt, lit< tt), tt)))

  pub base_fine : (place to : ℕ) → AllFine value (base_jump place to)
  base_fine place to = ((lit< tt, lit< tt), ((lit< tt, lit< tt), ((is_ax, number_filled), ((is_ax, (lit< tt, lit< tt)), (distance_small (place + 15) to, tt)))))

  frame_entered_fine : (size : ℕ) → size < 65536 → AllFine value (frame_entered size)
  frame_entered_fine size small =
      let made : AllFine value (drop 9 (frame_entered size)) = (cx_register, (bp_free, ((lit< tt, lit< tt), (place_filled segment_word, ((cx_register, λ e. omega arith), (bx_free, (ax_free, tt))))))) in
      let taken : AllFine value (drop 6 (frame_entered size)) = ((lit< tt, small), ((lit< tt, lit< tt), (library_filled enter_stop_entry (lit< tt), made))) in
      ((cx_register, (lit< tt, lit< tt)), ((lit< tt, lit< tt), ((is_ax, (lit< tt, lit< tt)), ((lit< tt, lit< tt), ((lit< tt, is_bx, is_ax), ((lit< tt, λ e. omega arith, is_bx), taken))))))

  control_fine : (t : Target) → IsFilled value t → AllFine value (control_out t)
  control_fine t filled = (bp_free, ((is_ax, filled), (ax_free, tt)))

  number_fine : (n : ℕ) → n < 65536 → AllFine value (number_compared n)
  number_fine n lt = ((lit< tt, lit< tt), ((is_bx, is_ax), ((lit< tt, lt), tt)))

  return_fine : (n : ℕ) → n < 256 → AllFine value (return_with n)
  return_fine n lt = ((lit< tt, lit< tt), (bp_free, ((let small : 2 * n < 65536 = omega arith in small), tt)))

  argument_taken_fine : (r n : ℕ) → r < 8 → n < 257 → IsInstr (load r (argument n))
  argument_taken_fine r n lr lt = let small : 4 + 2 * n < 65536 = omega arith in (lr, argument_fine n small)

  framed_fine : (n : ℕ) → IsRm (field (2 * n % 65536))
  framed_fine n = field_fine (2 * n % 65536) (doubled_small n)

  mark_words_fine : (names : Names) (ms : List ℕ) → AllFine value (mark_words names ms)
  mark_words_fine names [] = tt
  mark_words_fine names (m ∷ ms) = (place_filled (mark_place names m % 65536), mark_words_fine names ms)

  goal_words_fine : (names : Names) (gs : List Goal) → AllFine value (goal_words names gs)
  goal_words_fine names [] = tt
  goal_words_fine names (goal.Own l ∷ gs) = (place_filled (label_start names l % 65536), goal_words_fine names gs)
  goal_words_fine names (goal.Common d ∷ gs) = (definition_filled d, goal_words_fine names gs)

  pub switch_fine : (names : Names) (place : ℕ) (gs : List Goal) → length gs < 65536 → AllFine value (switch_pieces names place gs)
  switch_fine names place gs lt =
      let table : List Coded = coded.Way (target.Place ((place + 29) % 65536)) ∷ goal_words names gs in
      let rest : List Coded = coded.Whole (jump_if_below 3) ∷ call_library switch_entry ∷ coded.Whole (double 3) ∷ coded.Whole (move 5 6) ∷ (operands_dropped ++ table) in
      let fine : AllFine value rest = (
        (lit< tt, lit< tt),
        (
          library_filled switch_entry (lit< tt),
          (
            (lit< tt, λ e. omega arith, is_bx),
            (
              (lit< tt, lit< tt),
              all_fine-append value operands_dropped table dropped_fine (place_filled ((place + 29) % 65536), goal_words_fine names gs),
            ),
          ),
        ),
      ) in
      all_fine-append value (number_compared (length gs)) rest (number_fine (length gs) lt) fine

  loop_fine : (names : Names) (place : ℕ) (marks : List ℕ) → length marks < 65536 → AllFine value (loop_way names place marks)
  loop_fine names place marks lt =
      let rest : List Coded = coded.Whole (jump_if_below 3) ∷ jump_near (place + 13) (place + 20 + 2 * length marks) ∷ coded.Whole (double 3) ∷ coded.Way (target.Place ((place + 20) % 65536)) ∷ mark_words names marks in
      let fine : AllFine value rest =
      ((lit< tt, lit< tt), (distance_small (place + 13) (place + 20 + 2 * length marks), ((lit< tt, λ e. omega arith, is_bx), (place_filled ((place + 20) % 65536), mark_words_fine names marks)))) in
      all_fine-append value (number_compared (length marks)) rest (number_fine (length marks) lt) fine

  loops_fine : (names : Names) (place : ℕ) (marks : List ℕ) → length marks < 65536 → AllFine value (loop_ways names place marks)
  loops_fine names place [] lt = loop_fine names place [] lt
  loops_fine names place (m ∷ []) lt = (is_ax, ((lit< tt, lit< tt), (distance_small (place + 6) (mark_place names m), tt)))
  loops_fine names place (m ∷ n ∷ ms) lt = loop_fine names place (m ∷ n ∷ ms) lt

  -- the step of a loop
  doubled_fine : (x : Place) → AllFine value (place_doubled x)
  doubled_fine (cell.Word f n) = ((is_bx, bytes_filled f n), tt)
  doubled_fine (cell.Frame n) =
      let small : 2 * n % 65536 < 65536 = omega arith in
      ((is_bx, (lit< tt, lit< tt)), ((lit< tt, is_bx, small), tt))

  step_fine : (x : Place) (line place to : ℕ) → line < 65536 → AllFine value (step_taken x line place to)
  step_fine x line place to small =
      let end = place + (doubled_size x + 8) in
      all_fine-append value (place_doubled x) (call_library next_step_entry ∷ coded.Whole (i86.JumpIf (condition_of Greater) 5) ∷ jump_near end to ∷ coded.Data line ∷ []) (doubled_fine x)
      (library_filled next_step_entry (lit< tt), ((lit< tt, lit< tt), (distance_small end to, (small, tt))))

  few_more : (k : ℕ) → k < 256 → k < 257
  few_more k lt = omega arith

  few_next : (k : ℕ) → k < 256 → k + 1 < 257
  few_next k lt = omega arith

  template_fine : (names : Names) (place : ℕ) (o : Order) → OrderFits o → AllFine value (template names place o)
  template_fine names place order.Save fits = (ax_free, tt)
  template_fine names place (order.Const zero) fits = ((lit< tt, is_ax, is_ax), tt)
  template_fine names place (order.Const (suc w)) fits = ((is_ax, fits.0), tt)
  template_fine names place (order.Home family offset) fits = ((is_ax, home_filled family offset), tt)
  template_fine names place order.Load fits = load_fine
  template_fine names place order.Store fits = ((is_bx, is_ax), ((lit< tt, λ e. omega arith, is_bx), (ax_free, ((is_ax, (lit< tt, λ e. omega arith)), tt))))
  template_fine names place (order.Add line) fits = (bx_free, ((lit< tt, is_ax, is_bx), checked_fine line fits.2))
  template_fine names place (order.Sub line) fits = ((is_bx, is_ax), (ax_free, ((lit< tt, is_ax, is_bx), checked_fine line fits.2)))
  template_fine names place (order.Neg line) fits = ((lit< tt, lit< tt, is_ax), checked_fine line fits.2)
  template_fine names place (order.LoadPart t b is_signed) fits = all_fine-append value load_top (part_taken t b is_signed) load_fine (part_fine t b is_signed fits.1.1)
  template_fine names place (order.StorePart t b) fits = store_part_fine t b fits.1.1
  template_fine names place (order.Rescale from to line) fits = rescale_fine (nat_le from to) (2 ^ (to - from) == 32768) line from to fits.2 fits.1.0 fits.1.1
  template_fine names place (order.Mul s line) fits = product_fine line fits.2 s fits.1
  template_fine names place (order.Div s line) fits = quotient_fine line fits.2 s fits.1
  template_fine names place order.And fits = both_fine (both 0 3) (lit< tt, is_ax, is_bx)
  template_fine names place order.Or fits = both_fine (either 0 3) (lit< tt, is_ax, is_bx)
  template_fine names place order.Xor fits = both_fine (one_of 0 3) (lit< tt, is_ax, is_bx)
  template_fine names place (order.Take t b) fits = taken_fine t b fits.1.1
  template_fine names place order.Less fits = ((is_bx, is_ax), (ax_free, ((lit< tt, is_ax, is_bx), tt)))
  template_fine names place (order.IndexLess lower line) fits = word_fine address_entry line (unsigned lower) (subtract 0 3) (lit< tt) fits.2 (unsigned_small lower fits.1) (lit< tt, is_ax, is_bx)
  template_fine names place (order.Element lower span line) fits = element_fine line fits.2 lower fits.1
  template_fine names place (order.ElementOfTwo lower second width line) fits = element_of_two_fine line fits.2 lower second width fits.1.0 fits.1.1 fits.1.2
  template_fine names place (order.ElementInside lower second width span) fits = element_inside_fine lower second width fits.1.0 fits.1.1 fits.1.2
  template_fine names place (order.Entry width word span line) fits = entry_of_table_fine line fits.2 width word fits.1.0 fits.1.1
  template_fine names place (order.InArea line) fits = area_fine line fits.2
  template_fine names place (order.InBounds lower upper line) fits = bounds_fine line fits.2 lower upper fits.1.0 fits.1.1
  template_fine names place order.ReadByte fits = (library_filled read_entry (lit< tt), tt)
  template_fine names place order.WriteByte fits = (ax_free, (lit< tt, tt))
  template_fine names place order.NextBody fits = ((is_ax, next_filled), (is_ax, tt))
  template_fine names place (order.Jump mark) fits = (distance_small (place + 3) (mark_place names mark), tt)
  template_fine names place (order.JumpIf c mark) fits = (bx_free, ((lit< tt, is_bx, is_ax), branch_fine c (place + 8) (mark_place names mark)))
  template_fine names place (order.FrameHome n) fits = ((is_ax, (lit< tt, lit< tt)), ((lit< tt, λ e. omega arith, is_ax), ((lit< tt, fits.1), tt)))
  template_fine names place (order.Exhausted mark) fits = (library_filled exhausted_entry (lit< tt), (distance_small (place + 6) (mark_place names mark), tt))
  template_fine names place (order.SetVariable line) fits = at_line_fine set_variable_entry line (lit< tt) fits.2
  template_fine names place (order.AddStep line) fits = at_line_fine add_step_entry line (lit< tt) fits.2
  template_fine names place (order.PutVariable line) fits = at_line_fine put_variable_entry line (lit< tt) fits.2
  template_fine names place (order.NextStep x line mark) fits = step_fine x line place (mark_place names mark) fits.2
  template_fine names place (order.LoopWay marks) fits = loops_fine names place marks (let f = fits.1 in omega arith)
  template_fine names place (order.SwitchWay marks line) fits =
      let few : length marks < 65536 = (let f = fits.1 in omega arith) in (
        is_ax,
        ((lit< tt, few), ((lit< tt, lit< tt), ((dx_register, fits.2), (library_filled switch_entry (lit< tt), (is_bx, ((lit< tt, λ e. omega arith, is_bx), (place_filled ((place + 20) % 65536), mark_words_fine names marks))))))),
      )
  template_fine names place (order.CallProc q line) fits = ((dx_register, fits.2), (distance_small (place + 6) (procedure_start names q), tt))
  template_fine names place (order.CallCommon d line) fits = ((dx_register, fits.2), (ahead_filled d, tt))
  template_fine names place (order.CallSpecial k line) fits =
      ((dx_register, fits.2), (argument_taken_fine 0 k is_ax (few_more k fits.1), ((is_bx, place_filled ((place + (argument_load_size k + 9)) % 65536)), (bx_free, (is_ax, tt)))))
  template_fine names place (order.Enter zero) fits = (library_filled enter_entry (lit< tt), (fits.1, (number_filled, tt)))
  template_fine names place (order.Enter (suc n)) fits = frame_entered_fine (suc n) fits.1
  template_fine names place (order.Bind k family offset) fits = (argument_taken_fine 0 k is_ax (few_more k fits.1), (bytes_filled family offset, tt))
  template_fine names place (order.BindFrame k offset) fits =
      (argument_taken_fine 1 k cx_register (few_more k fits.1.0), ((is_bx, (lit< tt, lit< tt)), ((cx_register, framed_fine offset), tt)))
  template_fine names place (order.Return n answers) fits = return_fine n fits.1
  template_fine names place (order.LabelOut l) fits = control_fine (target.Place (label_start names l % 65536)) (place_filled (label_start names l % 65536))
  template_fine names place (order.LabelCommon d) fits = control_fine (target.Definition d) (definition_filled d)
  template_fine names place (order.SwitchOut n) fits = control_fine (target.Place (switch_start names n % 65536)) (place_filled (switch_start names n % 65536))
  template_fine names place (order.SwitchCommon d) fits = control_fine (target.Definition d) (definition_filled d)
  template_fine names place (order.ProcOut q) fits = control_fine (target.Place (procedure_start names q % 65536)) (place_filled (procedure_start names q % 65536))
  template_fine names place (order.ProcCommon d) fits = control_fine (target.Definition d) (definition_filled d)
  template_fine names place (order.SpecialOut k) fits = (argument_taken_fine 0 (k + 1) is_ax (few_next k fits.1), (ax_free, (argument_taken_fine 0 k is_ax (few_more k fits.1), (ax_free, tt))))
  template_fine names place (order.GoMain mark) fits = base_fine place (mark_place names mark)
  template_fine names place (order.GoCommon d) fits = (ahead_filled d, tt)
  template_fine names place (order.GoSpecial k) fits =
      (argument_taken_fine 3 k is_bx (few_more k fits.1), (argument_taken_fine 5 (k + 1) (lit< tt) (few_next k fits.1), all_fine-append value operands_dropped (coded.Whole (jump_to 3) ∷ []) dropped_fine (is_bx, tt)))
  template_fine names place (order.GoSwitch n line) fits = ((dx_register, fits.2), ((lit< tt, lit< tt), (distance_small (place + 8) (switch_start names n), tt)))
  template_fine names place (order.GoSwitchCommon d line) fits = ((dx_register, fits.2), ((lit< tt, lit< tt), (ahead_filled d, tt)))
  template_fine names place (order.GoSwitchSpecial k line) fits =
      ((dx_register, fits.2), (argument_taken_fine 6 (k + 1) (lit< tt) (few_next k fits.1), (argument_taken_fine 3 k is_bx (few_more k fits.1), (is_bx, tt))))
  template_fine names place _ fits = tt

  -- with its jump short or near, and its check whole or a jump back
  checked_by_fine : (short : Bool) (line place to : ℕ) → line < 65536 → AllFine value (checked_by short line place to)
  checked_by_fine true line place to small = ((lit< tt, short_small (place + 2) to), tt)
  checked_by_fine false line place to small = checked_fine line small

  ended_fine : (ends : Bool) (whole before : List Coded) (line place to : ℕ) → line < 65536 → (ends ≡ true → whole ≡ before ++ checked line) → AllFine value whole → AllFine value (ended_back ends whole before line place to)
  ended_fine true whole before line place to small is fine =
      all_fine-append value before _ (all_fine-first value before (checked line) (subst (AllFine value) (is refl) fine)) (checked_by_fine true line (place + pieces_size before) to small)
  ended_fine false whole before line place to small is fine = fine

  template_by_fine : (names : Names) (place number : ℕ) (short : Bool) (o : Order) → OrderFits o → AllFine value (template_by short names place number o)
  template_by_fine names place number false o fits = template_fine names place o fits
  template_by_fine names place number true (order.Add line) fits = (bx_free, ((lit< tt, is_ax, is_bx), checked_by_fine true line (place + 3) (call_place names number) fits.2))
  template_by_fine names place number true (order.Sub line) fits = ((is_bx, is_ax), (ax_free, ((lit< tt, is_ax, is_bx), checked_by_fine true line (place + 5) (call_place names number) fits.2)))
  template_by_fine names place number true (order.Neg line) fits = ((lit< tt, lit< tt, is_ax), checked_by_fine true line (place + 2) (call_place names number) fits.2)
  template_by_fine names place number true (order.Rescale from to line) fits =
      ended_fine (nat_le from to) (rescale line from to) (rescale_before from to) line place (call_place names number) fits.2 (rescale_ends line from to) (template_fine names place (order.Rescale from to line) fits)
  template_by_fine names place number true (order.Mul s line) fits =
      ended_fine (is_checked s) (product line s) (product_before line s) line place (call_place names number) fits.2 (product_ends line s) (template_fine names place (order.Mul s line) fits)
  template_by_fine names place number true (order.Div s line) fits =
      ended_fine true (quotient line s) (quotient_before line s) line place (call_place names number) fits.2 (λ e. quotient_ends line s) (template_fine names place (order.Div s line) fits)
  template_by_fine names place number true (order.Jump mark) fits = (short_small (place + 2) (mark_place names mark), tt)
  template_by_fine names place number true (order.JumpIf c mark) fits = (bx_free, ((lit< tt, is_bx, is_ax), short_branch_fine c (place + 5) (mark_place names mark)))
  template_by_fine names place number true (order.LoopWay []) fits = template_fine names place (order.LoopWay []) fits
  template_by_fine names place number true (order.LoopWay (m ∷ [])) fits = (is_ax, ((lit< tt, short_small (place + 3) (mark_place names m)), tt))
  template_by_fine names place number true (order.LoopWay (m ∷ n ∷ ms)) fits = template_fine names place (order.LoopWay (m ∷ n ∷ ms)) fits
  template_by_fine names place number true o fits = template_fine names place o fits

  address_fine : (x : Place) → AllFine value (address_pieces x)
  address_fine (cell.Word f n) = tt
  address_fine (cell.Frame n) = ((is_bx, (lit< tt, lit< tt)), tt)

  load_place_fine : (x : Place) → IsFine value (load_place x)
  load_place_fine (cell.Word f n) = bytes_filled f n
  load_place_fine (cell.Frame n) = (is_ax, framed_fine n)

  store_place_fine : (x : Place) → IsFine value (store_place x)
  store_place_fine (cell.Word f n) = bytes_filled f n
  store_place_fine (cell.Frame n) = (is_ax, framed_fine n)

  operate_place_fine : (op : ℕ) (x : Place) → op < 8 → IsFine value (operate_place op x)
  operate_place_fine op (cell.Word f n) lt = (lt, is_ax, bytes_filled f n)
  operate_place_fine op (cell.Frame n) lt = (lt, is_ax, framed_fine n)

  change_place_fine : (op : ℕ) (x : Place) → op < 8 → IsFine value (change_place op x)
  change_place_fine op (cell.Word f n) lt = (lt, is_ax, bytes_filled f n)
  change_place_fine op (cell.Frame n) lt = (lt, is_ax, framed_fine n)

  -- the address of an element
  index_fine : (x : Place) (family offset : ℕ) → AllFine value (index_added x family offset)
  index_fine (cell.Word f n) family offset = ((lit< tt, home_filled family offset), ((lit< tt, lit< tt, bytes_filled f n), tt))
  index_fine (cell.Frame n) family offset = ((is_bx, (lit< tt, lit< tt)), ((lit< tt, home_filled family offset), ((lit< tt, lit< tt, framed_fine n), tt)))

  loaded_fine : (x : Place) → AllFine value (index_loaded x)
  loaded_fine (cell.Word f n) = ((lit< tt, bytes_filled f n), tt)
  loaded_fine (cell.Frame n) = ((is_bx, (lit< tt, lit< tt)), ((lit< tt, framed_fine n), tt))

  from_lower_fine : (lower : ℤ) → FitsWord lower → AllFine value (from_lower lower)
  from_lower_fine (pos zero) fl = tt
  from_lower_fine (pos (suc n)) fl = ((lit< tt, lit< tt, unsigned_small (pos (suc n)) fl), tt)
  from_lower_fine (negsuc n) fl = ((lit< tt, lit< tt, unsigned_small (negsuc n) fl), tt)

  element_tested_fine : (e : Element) (t : Test) → TestFits e t → AllFine value (element_tested e t)
  element_tested_fine e (test.Address origin) small =
      all_fine-append value (index_added e.index e.family origin) _ (index_fine e.index e.family origin)
      ((lit< tt, lit< tt, lit< tt), ((lit< tt, lit< tt), all_fine-append value (call_stop address_entry e.line) (coded.Whole (double 6) ∷ []) (call_stop_fine address_entry e.line (lit< tt) small) ((lit< tt, λ e. omega arith, lit< tt), tt)))
  element_tested_fine e (test.Bounds upper line) fits =
      let last_pieces : List Coded = coded.Sum 6 (target.Word e.family e.first) ∷ coded.Whole (double 6) ∷ [] in
      all_fine-append value (index_loaded e.index) _ (loaded_fine e.index)
      (all_fine-append value (from_lower e.lower) _ (from_lower_fine e.lower fits.0) (
        (lit< tt, lit< tt, between_small (upper -ℤ e.lower)),
        ((lit< tt, lit< tt), all_fine-append value (call_stop bounds_entry line) last_pieces (call_stop_fine bounds_entry line (lit< tt) fits.1) ((lit< tt, home_filled e.family e.first), ((lit< tt, λ e. omega arith, lit< tt), tt))),
      ))

  element_address_fine : (e : Element) → ElementFits e → AllFine value (element_address e)
  element_address_fine e fits = element_tested_fine e e.test fits

  with_operand_fine : (op : ℕ) (s : Simple) → op < 8 → SimpleFits s → AllFine value (with_operand op s)
  with_operand_fine op (simple.Number w) lt fits = ((lt, fits), tt)
  with_operand_fine op (simple.Contents x) lt fits = all_fine-append value (address_pieces x) (operate_place op x ∷ []) (address_fine x) (operate_place_fine op x lt, tt)
  with_operand_fine op (simple.Element e) lt fits = all_fine-append value (element_address e) (coded.Whole (operate op 0 at_si) ∷ []) (element_address_fine e fits) ((lt, is_ax, (lit< tt, λ e. omega arith)), tt)

  product_with_fine : (s : Simple) → SimpleFits s → AllFine value (product_with s)
  product_with_fine (simple.Number w) fits = ((is_bx, fits), ((lit< tt, lit< tt, is_bx), tt))
  product_with_fine (simple.Contents x) fits =
      ((cx_register, is_ax), all_fine-append value (address_pieces x) (load_place x ∷ coded.Whole (multiply 1) ∷ []) (address_fine x) (load_place_fine x, ((lit< tt, lit< tt, cx_register), tt)))
  product_with_fine (simple.Element e) fits =
      ((cx_register, is_ax), all_fine-append value (element_address e) (coded.Whole (load 0 at_si) ∷ coded.Whole (multiply 1) ∷ []) (element_address_fine e fits) ((is_ax, (lit< tt, λ e. omega arith)), ((lit< tt, lit< tt, cx_register), tt)))

  operated_fine : (names : Names) (place number : ℕ) (short : Bool) (s : Simple) (u : Use) → SimpleFits s → line_of (order_of u) < 65536 → AllFine value (operated names place number short s u)
  operated_fine names place number short s (uses.Add line) fits small = all_fine-append value (with_operand 0 s) _ (with_operand_fine 0 s (lit< tt) fits) (checked_by_fine short line (place + pieces_size (with_operand 0 s)) (call_place names number) small)
  operated_fine names place number short s (uses.Subtract line) fits small = all_fine-append value (with_operand 5 s) _ (with_operand_fine 5 s (lit< tt) fits) (checked_by_fine short line (place + pieces_size (with_operand 5 s)) (call_place names number) small)
  operated_fine names place number short s (uses.Multiply line) fits small = all_fine-append value (product_with s) _ (product_with_fine s fits) (checked_by_fine short line (place + pieces_size (product_with s)) (call_place names number) small)
  operated_fine names place number short s uses.Mask fits small = with_operand_fine 4 s (lit< tt) fits
  operated_fine names place number short s uses.Union fits small = with_operand_fine 1 s (lit< tt) fits
  operated_fine names place number short s uses.Differ fits small = with_operand_fine 6 s (lit< tt) fits
  operated_fine names place number short s (uses.Compare c mark) fits small =
      let behind = place + pieces_size (with_operand 7 s) in
      all_fine-append value (with_operand 7 s) (branch_by short c behind (mark_place names mark)) (with_operand_fine 7 s (lit< tt) fits) (branch_by_fine short c behind (mark_place names mark))

  -- an address that is formed of an index in AX
  formed_fine : (family first : ℕ) (f : Form) → FormFits f → AllFine value (formed family first f)
  formed_fine family first (form.Element span line) fits = ((is_ax, home_filled family first), tt)
  formed_fine family first (form.Entry width word span line) fits =
      all_fine-append value (times_entry width) (coded.Sum 0 (target.Word family (first + word)) ∷ []) (times_entry_fine (width == 1) width fits) ((is_ax, home_filled family (first + word)), tt)

  -- one that is made of both indexes
  column_fine : (c : Column) → ColumnFits c → AllFine value (column_loaded c)
  column_fine (column.Number w) fits = ((lit< tt, fits), tt)
  column_fine (column.Contents x) fits = loaded_fine x

  column_below_fine : (line count : ℕ) → line < 65536 → count < 65536 → AllFine value (column_below line count)
  column_below_fine line count small few = ((lit< tt, lit< tt, few), ((lit< tt, lit< tt), call_stop_fine bounds_entry line (lit< tt) small))

  row_fine : (r : Row) → RowFits r → AllFine value (row_address r)
  row_fine r fits =
      let first : List Coded = top_below r.rows.line (indexes_between (r.rows.upper -ℤ r.rows.lower)) in
      let second : List Coded = column_below r.columns.line (indexes_between (r.columns.upper -ℤ r.columns.lower)) in
      let base : List Coded = formed r.family r.first (form.Entry r.width 0 r.span r.columns.line) in
      all_fine-append value (top_from_lower r.rows.lower) _ (top_lower_fine r.rows.lower fits.0)
      (all_fine-append value first _ (below_fine r.rows.line _ fits.1 (between_small (r.rows.upper -ℤ r.rows.lower)))
      (all_fine-append value (column_loaded r.column) _ (column_fine r.column fits.2)
      (all_fine-append value (from_lower r.columns.lower) _ (from_lower_fine r.columns.lower fits.3)
      (all_fine-append value second _ (column_below_fine r.columns.line _ fits.4 (between_small (r.columns.upper -ℤ r.columns.lower)))
      (all_fine-append value base _ (formed_fine r.family r.first (form.Entry r.width 0 r.span r.columns.line) fits.5) ((lit< tt, is_ax, lit< tt), tt))))))

  pub block_fine : (names : Names) (place number : ℕ) (short : Bool) (b : Block) (o : Order) → BlockFits b o → AllFine value (block_pieces names place number short b o)
  block_fine names place number short (block.Within n) o fits = tt
  block_fine names place number short block.Single o fits = template_by_fine names place number short o fits
  block_fine names place number short (block.Fetch x) o fits = all_fine-append value (address_pieces x) (load_place x ∷ []) (address_fine x) (load_place_fine x, tt)
  block_fine names place number short (block.Assign x) o fits = all_fine-append value (address_pieces x) (store_place x ∷ []) (address_fine x) (store_place_fine x, tt)
  block_fine names place number short block.Write o fits = (lit< tt, tt)
  block_fine names place number short (block.Divide w line) o fits = ((is_bx, fits), (tt, ((lit< tt, lit< tt, is_bx), tt)))
  block_fine names place number short (block.Operate s u) o fits = operated_fine names place number short s u fits.0 fits.1
  block_fine names place number short (block.FetchPart x t b is_signed) o fits =
      all_fine-append value (address_pieces x) (load_place x ∷ part_taken t b is_signed) (address_fine x) (load_place_fine x, part_fine t b is_signed fits)
  block_fine names place number short (block.AssignPart x t b) o fits =
      all_fine-append value (shifted_up b) _ (up_fine b (omega arith))
      (all_fine-append value (address_pieces x) _ (address_fine x) (operate_place_fine 6 x (lit< tt), ((lit< tt, mask_small t b fits), (change_place_fine 6 x (lit< tt), tt))))
  block_fine names place number short (block.FetchElement e) o fits = all_fine-append value (element_address e) (coded.Whole (load 0 at_si) ∷ []) (element_address_fine e fits) ((is_ax, (lit< tt, λ e. omega arith)), tt)
  block_fine names place number short (block.AssignElement e) o fits = all_fine-append value (element_address e) (coded.Whole (store at_si 0) ∷ []) (element_address_fine e fits) ((is_ax, (lit< tt, λ e. omega arith)), tt)
  block_fine names place number short (block.Count true line) o fits = (is_ax, checked_by_fine short line (place + 1) (call_place names number) fits)
  block_fine names place number short (block.Count false line) o fits = (is_ax, checked_by_fine short line (place + 1) (call_place names number) fits)
  block_fine names place number short (block.Halve w power places line) o fits = down_signed_fine places (omega arith)
  block_fine names place number short (block.FetchBoth n m) o fits = ((is_bx, (lit< tt, lit< tt)), ((is_ax, framed_fine n), (ax_free, ((is_ax, framed_fine m), tt))))
  block_fine names place number short (block.CompareWord n w c m) o fits =
      let behind = place + pieces_size (word_compared n w) in
      all_fine-append value (word_compared n w) (branch_by short c behind (mark_place names m)) ((is_bx, (lit< tt, lit< tt)), ((lit< tt, framed_fine n, fits), tt)) (branch_by_fine short c behind (mark_place names m))
  block_fine names place number short (block.Bounded b) o fits =
      let test : List Coded = top_below b.bounds.line (indexes_between (b.bounds.upper -ℤ b.bounds.lower)) in
      let last : List Coded = formed b.family b.first b.form in
      all_fine-append value (top_from_lower b.bounds.lower) (test ++ last) (top_lower_fine b.bounds.lower fits.0)
      (all_fine-append value test last (below_fine b.bounds.line _ fits.1 (between_small (b.bounds.upper -ℤ b.bounds.lower))) (formed_fine b.family b.first b.form fits.2))
  block_fine names place number short (block.Row r) o fits = row_fine r fits
