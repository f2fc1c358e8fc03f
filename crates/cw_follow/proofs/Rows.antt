-- What the instructions of the templates and of the library do to a view, as the laws of cw_run86 and cw_rows86 say.
use Rattle.std.proofs.Common.{◌≡◌, ℕ, suc, ◌+◌, ◌*◌, ◌%◌, ◌<◌, ◌≤◌, Bool, true, false, ℤ, pos, unsigned_abs, int_rem, List, length}
use Rattle.std.specs.Prelude.{◌==◌, bit_and, bit_or, bit_xor, slice_index}
use Rattle.cw_i86.specs.State.{State, sign_extended}
use Rattle.cw_i86.specs.MachineRun.{IsStart, Running, end_told}
use Rattle.cw_i86.specs.declared.instr.Instr.TheVariants as i86
use Rattle.cw_i86.specs.declared.instr.Imm.TheVariants as imm
use Rattle.cw_i86.specs.declared.instr.Rm.TheVariants as rms
use Rattle.cw_i86.specs.declared.instr.Place.TheVariants as places
use Rattle.cw_run86.specs.Processor.{Processor, processor_step, processor_start, observed, with_given}
use Rattle.cw_run86.specs.Views.{View, Sees, Has, Goes, IsTop, starting_view, register, on, with_place, with_register, with_result, with_cell, with_stack, with_told, sum_overflows, difference_overflows, word_sum, word_difference, with_other, with_memory, with_number, Compared, Compares, Comparison, condition_of, words_compare, word_down_signed, shift_overflow, product_low, product_high, product_overflows, with_pair, double_overflows, with_overflow, sign_of}
use Rattle.cw_word.specs.FixedPoint.{FitsWord, scaled_quotient}
use Rattle.cw_word.specs.Word.{unsigned}
use Rattle.cw_i86.specs.Effect.{holds}
use Rattle.cw_i86.specs.Encoding.{bytes_of}
use Rattle.cw_i86.specs.declared.flags.Flags.{Flags}
use Rattle.cw_rows86.specs.Locations.{Lands}
use Rattle.cw_rows86.specs.Operations.{Compare, flags_after, counted_to, flags_counted}
use Rattle.cw_rows86.specs.Acts.{Act, instruction, Needs, after, flags_of}
use Rattle.cw_follow.proofs.WordLaws.{WordLaws}
use Rattle.cw_follow.proofs.RoutineLaws.{RoutineLaws}

pub record Rows : Type 0 where
  pub words : WordLaws
  pub routines : RoutineLaws
  -- starting
  pub starts : (code words input : List ℕ) (s : State) → length code ≤ 65536 → length words ≤ 32768 → IsStart code words s → Sees code (starting_view words input) (processor_start s input)
  -- moves
  pub number : (code : List ℕ) (v : View) (r w : ℕ) → Has code v.place (i86.MovImm r (imm.Word w)) → Goes code v (with_register r w (on (i86.MovImm r (imm.Word w)) v))
  pub move : (code : List ℕ) (v : View) (r q : ℕ) → Has code v.place (i86.Mov true true r (rms.Reg q)) → Goes code v (with_register r (register v q) (on (i86.Mov true true r (rms.Reg q)) v))
  pub exchange : (code : List ℕ) (v : View) (r : ℕ) → Has code v.place (i86.XchgAx r) → Goes code v (with_register 0 (register v r) (with_register r (register v 0) (on (i86.XchgAx r) v)))
  -- stacking
  pub push : (code : List ℕ) (v : View) (r n : ℕ) → Has code v.place (i86.Push r) → n < 32768 → IsTop v (suc n) → Goes code v (with_register 4 (2 * n) (with_stack n (register v r) (on (i86.Push r) v)))
  pub pop : (code : List ℕ) (v : View) (r n : ℕ) → Has code v.place (i86.Pop r) → n < 32768 → IsTop v n → Goes code v (with_register r (v.stack n) (with_register 4 (2 * suc n % 65536) (on (i86.Pop r) v)))
  -- memory
  pub load : (code : List ℕ) (v : View) (r k : ℕ) → Has code v.place (i86.Mov true true r (rms.Mem (record { cs = false; place = places.Plain 7 }))) → k < 32768 → register v 3 ≡ 2 * k → Goes code v (with_register r (v.cells k) (on (i86.Mov true true r (rms.Mem (record { cs = false; place = places.Plain 7 }))) v))
  pub store : (code : List ℕ) (v : View) (r k : ℕ) → Has code v.place (i86.Mov true false r (rms.Mem (record { cs = false; place = places.Plain 7 }))) → k < 32768 → register v 3 ≡ 2 * k → Goes code v (with_cell k (register v r) (on (i86.Mov true false r (rms.Mem (record { cs = false; place = places.Plain 7 }))) v))
  pub load_slot : (code : List ℕ) (v : View) (r by k : ℕ) → Has code v.place (i86.Mov true true r (rms.Mem (record { cs = false; place = places.Near 6 by }))) → k < 32768 → (register v 5 + sign_extended by) % 65536 ≡ 2 * k → Goes code v (with_register r (v.stack k) (on (i86.Mov true true r (rms.Mem (record { cs = false; place = places.Near 6 by }))) v))
  -- fields
  pub store_slot : (code : List ℕ) (v : View) (r by k : ℕ) → Has code v.place (i86.Mov true false r (rms.Mem (record { cs = false; place = places.Near 6 by }))) → k < 32768 → (register v 5 + sign_extended by) % 65536 ≡ 2 * k → Goes code v (with_stack k (register v r) (on (i86.Mov true false r (rms.Mem (record { cs = false; place = places.Near 6 by }))) v))
  -- arithmetic
  pub add : (code : List ℕ) (v : View) (r q : ℕ) → Has code v.place (i86.AluRm 0 true true r (rms.Reg q)) → Goes code v (with_result r (word_sum (register v r) (register v q)) (sum_overflows (register v r) (register v q)) (on (i86.AluRm 0 true true r (rms.Reg q)) v))
  pub subtract : (code : List ℕ) (v : View) (r q : ℕ) → Has code v.place (i86.AluRm 5 true true r (rms.Reg q)) → Goes code v (with_result r (word_difference (register v r) (register v q)) (difference_overflows (register v r) (register v q)) (on (i86.AluRm 5 true true r (rms.Reg q)) v))
  pub negate : (code : List ℕ) (v : View) (r : ℕ) → Has code v.place (i86.Unary 3 true (rms.Reg r)) → Goes code v (with_result r (word_difference 0 (register v r)) (difference_overflows 0 (register v r)) (on (i86.Unary 3 true (rms.Reg r)) v))
  pub double : (code : List ℕ) (v : View) (r : ℕ) → Has code v.place (i86.Shift 4 true false (rms.Reg r)) → register v r < 32768 → Goes code v (with_result r (2 * register v r) (double_overflows (register v r)) (on (i86.Shift 4 true false (rms.Reg r)) v))
  pub both : (code : List ℕ) (v : View) (r q : ℕ) → Has code v.place (i86.AluRm 4 true true r (rms.Reg q)) → Goes code v (with_result r (bit_and (register v r) (register v q)) false (on (i86.AluRm 4 true true r (rms.Reg q)) v))
  pub either : (code : List ℕ) (v : View) (r q : ℕ) → Has code v.place (i86.AluRm 1 true true r (rms.Reg q)) → Goes code v (with_result r (bit_or (register v r) (register v q)) false (on (i86.AluRm 1 true true r (rms.Reg q)) v))
  pub one : (code : List ℕ) (v : View) (r q : ℕ) → Has code v.place (i86.AluRm 6 true true r (rms.Reg q)) → Goes code v (with_result r (bit_xor (register v r) (register v q)) false (on (i86.AluRm 6 true true r (rms.Reg q)) v))
  pub shift_down_signed : (code : List ℕ) (v : View) (r : ℕ) → Has code v.place (i86.Shift 7 true true (rms.Reg r)) → register v r < 65536 → Goes code v (with_result r (word_down_signed (register v r) (register v 1 % 256)) (shift_overflow 7 (register v r) (register v 1 % 256) v.overflow) (on (i86.Shift 7 true true (rms.Reg r)) v))
  pub multiply : (code : List ℕ) (v : View) (r : ℕ) → Has code v.place (i86.Unary 5 true (rms.Reg r)) → Goes code v (with_overflow (product_overflows (register v 0) (register v r)) (with_pair (product_low (register v 0) (register v r)) (product_high (register v 0) (register v r)) (on (i86.Unary 5 true (rms.Reg r)) v)))
  pub extend : (code : List ℕ) (v : View) → Has code v.place i86.Cwd → Goes code v (with_register 2 (sign_of (register v 0)) (on i86.Cwd v))
  pub quotient : (code : List ℕ) (v : View) (r : ℕ) (x n : ℤ) → Has code v.place (i86.Unary 7 true (rms.Reg r)) → FitsWord x → FitsWord n → 2 ≤ unsigned_abs n → register v 0 ≡ unsigned x → register v 2 ≡ sign_of (unsigned x) → register v r ≡ unsigned n
      → Goes code v (with_pair (unsigned (scaled_quotient x n (pos 0))) (unsigned (int_rem x n)) (on (i86.Unary 7 true (rms.Reg r)) v))
  pub quotient_fits : (x n : ℤ) → FitsWord x → 2 ≤ unsigned_abs n → FitsWord (scaled_quotient x n (pos 0))
  -- jumps
  pub near : (code : List ℕ) (v : View) (by : ℕ) → Has code v.place (i86.Jump by) → Goes code v (with_place ((v.place + 3 + by) % 65536) v)
  pub short : (code : List ℕ) (v : View) (by : ℕ) → Has code v.place (i86.JumpShort by) → Goes code v (with_place ((v.place + 2 + sign_extended by) % 65536) v)
  pub jump_to : (code : List ℕ) (v : View) (r : ℕ) → Has code v.place (i86.JumpRm (rms.Reg r)) → Goes code v (with_place (register v r) v)
  pub no_overflow : (code : List ℕ) (v : View) (by : ℕ) → Has code v.place (i86.JumpIf 1 by) → v.overflow ≡ false → Goes code v (with_place ((v.place + 2 + sign_extended by) % 65536) v)
  pub passes : (code : List ℕ) (v : View) (by : ℕ) → Has code v.place (i86.JumpIf 1 by) → v.overflow ≡ true → Goes code v (on (i86.JumpIf 1 by) v)
  pub call : (code : List ℕ) (v : View) (by n : ℕ) → Has code v.place (i86.Call by) → n < 32768 → IsTop v (suc n) → Goes code v (with_place ((v.place + 3 + by) % 65536) (with_register 4 (2 * n) (with_stack n ((v.place + 3) % 65536) v)))
  pub through_table : (code : List ℕ) (v : View) (by at to : ℕ) → Has code v.place (i86.JumpRm (rms.Mem (record { cs = true; place = places.Far 7 by }))) → (register v 3 + by) % 65536 ≡ at → at + 2 ≤ length code → slice_index code at + 256 * slice_index code (at + 1) ≡ to → Goes code v (with_place to v)
  -- offsets and numbers
  pub load_at : (code : List ℕ) (v : View) (offset k : ℕ) → Has code v.place (i86.MovAcc false true false offset) → k < 32768 → offset ≡ 2 * k → Goes code v (with_register 0 (v.cells k) (on (i86.MovAcc false true false offset) v))
  pub store_at : (code : List ℕ) (v : View) (offset k : ℕ) → Has code v.place (i86.MovAcc false true true offset) → k < 32768 → offset ≡ 2 * k → Goes code v (with_cell k (register v 0) (on (i86.MovAcc false true true offset) v))
  pub add_at : (code : List ℕ) (v : View) (r offset k : ℕ) → Has code v.place (with_memory 0 r offset) → k < 32768 → offset ≡ 2 * k → Goes code v (with_result r (word_sum (register v r) (v.cells k)) (sum_overflows (register v r) (v.cells k)) (on (with_memory 0 r offset) v))
  pub add_number : (code : List ℕ) (v : View) (w : ℕ) → Has code v.place (with_number 0 w) → Goes code v (with_result 0 (word_sum (register v 0) w) (sum_overflows (register v 0) w) (on (with_number 0 w) v))
  pub subtract_number : (code : List ℕ) (v : View) (w : ℕ) → Has code v.place (with_number 5 w) → Goes code v (with_result 0 (word_difference (register v 0) w) (difference_overflows (register v 0) w) (on (with_number 5 w) v))
  -- comparisons
  pub compare : (code : List ℕ) (v : View) (r q : ℕ) → Has code v.place (with_other 7 r q) → Compares code (register v r) (register v q) (with_other 7 r q) v
  pub compare_number : (code : List ℕ) (v : View) (w : ℕ) → Has code v.place (with_number 7 w) → Compares code (register v 0) w (with_number 7 w) v
  pub compared_jumps : (code : List ℕ) (v : View) (c : Comparison) (by a b : ℕ) (p : Processor) → Has code v.place (i86.JumpIf (condition_of c) by) → a < 65536 → b < 65536 → words_compare c a b ≡ true → Sees code v p → Compared a b p → Sees code (with_place ((v.place + 2 + sign_extended by) % 65536) v) (processor_step p)
  pub compared_passes : (code : List ℕ) (v : View) (c : Comparison) (by a b : ℕ) (p : Processor) → Has code v.place (i86.JumpIf (condition_of c) by) → a < 65536 → b < 65536 → words_compare c a b ≡ false → Sees code v p → Compared a b p → Sees code (on (i86.JumpIf (condition_of c) by) v) (processor_step p)
  pub jumps_below : (code : List ℕ) (v : View) (by a b : ℕ) (p : Processor) → Has code v.place (i86.JumpIf 2 by) → a < b → Sees code v p → Compared a b p → Sees code (with_place ((v.place + 2 + sign_extended by) % 65536) v) (processor_step p)
  pub passes_above : (code : List ℕ) (v : View) (by a b : ℕ) (p : Processor) → Has code v.place (i86.JumpIf 2 by) → b ≤ a → Sees code v p → Compared a b p → Sees code (on (i86.JumpIf 2 by) v) (processor_step p)
  pub as_compared : (a b : ℕ) (flags : Flags) (p : Processor) → p.state.flags ≡ flags_after Compare a b flags → Compared a b p
  -- the zero flag behind INC or DEC, and jumps on any condition of the flags
  pub counted_zero : (down : Bool) (a : ℕ) (flags : Flags) → holds (flags_counted down a flags) 4 ≡ (counted_to down a == 0)
  pub jumps_if : (code : List ℕ) (v : View) (condition by : ℕ) (p : Processor) → Has code v.place (i86.JumpIf condition by) → Sees code v p → holds p.state.flags condition ≡ true
      → Lands code (with_place ((v.place + 2 + sign_extended by) % 65536) v) p
  pub passes_if : (code : List ℕ) (v : View) (condition by : ℕ) (p : Processor) → Has code v.place (i86.JumpIf condition by) → Sees code v p → holds p.state.flags condition ≡ false
      → Lands code (on (i86.JumpIf condition by) v) p
  -- acts: any operation over any operand
  pub acts : (code : List ℕ) (a : Act) (n : ℕ) (v : View) (p : Processor) → Has code n (instruction a) → Needs code a v → Sees code (with_place n v) p
      → Sees code (with_place ((n + length (bytes_of (instruction a))) % 65536) (after a v)) (processor_step p) × ((processor_step p).state.flags ≡ flags_of a v p.state.flags)
  -- ports
  pub out : (code : List ℕ) (v : View) (port : ℕ) → Has code v.place (i86.Out port) → Goes code v (with_told (with_given port (register v 0 % 256) v.told) (on (i86.Out port) v))
  pub halts : (code : List ℕ) (v : View) (p : Processor) → Has code v.place i86.Hlt → Sees code v p → observed (processor_step p) ≡ record { output = v.told.output; end = end_told v.told.kind v.told.segment (v.told.line_low + 256 * v.told.line_high) }
  pub rests : (code : List ℕ) (v : View) (p : Processor) → Has code v.place i86.Hlt → Sees code v p → processor_step (processor_step p) ≡ processor_step p
  pub runs : (code : List ℕ) (v : View) (p : Processor) → Sees code v p → observed p ≡ record { output = v.told.output; end = Running }
