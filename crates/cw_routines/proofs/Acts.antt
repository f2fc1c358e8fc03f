-- Instructions that go on at the next one, and what they leave of a view and of the flags.
use Rattle.std.proofs.Common.{◌≡◌, ℕ, suc, ◌+◌, ◌-◌, ◌*◌, ◌/◌, ◌%◌, ◌<◌, ◌≤◌, Bool, true, false, List, length, refl, sym, ap, ap₂, subst, ◌∙◌, arith}
use Rattle.std.specs.Prelude.{slice_index, slice_set, bit_and, bit_or, bit_xor, nat_lt, nat_eq, ◌==◌, if◌then◌else◌, Some, None}
use Rattle.cw_i86.specs.Encoding.{bytes_of}
use Rattle.cw_i86.specs.Sums.{sum_flags, difference_flags, logic_flags, keeping_carry}
use Rattle.cw_i86.specs.Shifts.{shift_flags, repeated}
use Rattle.cw_i86.specs.Products.{product_flags, quotient_of}
use Rattle.cw_i86.specs.MachineRun.{taken, left_after}
use Rattle.cw_i86.specs.State.{sign_extended, sized_register, with_sized_register, operand, with_operand, with_value_at, segment_of, offset_of, push as pushed, default_segment, data_segment, with_word}
use Rattle.cw_i86.specs.Effect.{alu_value, alu_flags, operated, counted, moved, exchanged, tested, shifted, unary, signed_multiplied, divided, with_quotient, negated as with_negative, word_extended, pop_to, returned}
use Rattle.cw_i86.specs.declared.shift.ShiftOp.TheVariants.{Shl, Shr, Sar}
use Rattle.cw_i86.specs.declared.flags.Flags.{Flags}
use Rattle.cw_i86.specs.declared.instr.Instr.{Instr}
use Rattle.cw_i86.specs.declared.instr.Instr.TheVariants as i86
use Rattle.cw_i86.specs.declared.instr.Imm.TheVariants as imm
use Rattle.cw_i86.specs.declared.instr.Rm.TheVariants as rms
use Rattle.cw_i86.specs.declared.instr.Place.{Place}
use Rattle.cw_run86.specs.Addressing.{offset_in}
use Rattle.cw_run86.proofs.Addressing.{offset_is}
use Rattle.cw_run86.specs.Processor.{Processor, does, behind, completed, processor_step, with_given, with_state}
use Rattle.cw_run86.specs.Views.{View, Has, register, with_register, with_cell, with_stack, with_input, with_told, with_pair, put_word, word_sum, word_difference, word_up, word_down, word_down_signed, product_low, product_high, product_overflows, sign_of}
use Rattle.cw_run86.proofs.Tests.{Finds}
use Rattle.cw_run86.proofs.Memory.{Holds}
use Rattle.cw_tmpl.specs.Mnemonics.{memory}
use Rattle.std.proofs.lemmas.Bool.{lt-ltb, ne_eqb}
use Rattle.cw_run86.proofs.Stack.{cell_written, stack_written, stack_read, once_set, twice_set, down, even, up as up_one}
use Rattle.cw_run86.proofs.Sums.{plain_sum, plain_difference, written}
use Rattle.cw_run86.proofs.Shifted.{up_many, down_many, down_signed_many}
use Rattle.cw_routines.specs.Ways.{At, standing}
use Rattle.cw_routines.proofs.Arrive.{arrives, arrives_past, held, past_it, past_by}
use Rattle.cw_routines.proofs.Sources.{Source, rm_of, SourceNeeds, value_of, reads}

module _ (finds : Finds) {code : List ℕ} {at : ℕ} {v : View} {f : Flags} {p : Processor} (s : At code at v f p) where
  -- the memory, the registers and the code segment behind an instruction are those before it
  read : (src : Source) (i : Instr) → SourceNeeds code src v → operand (behind i p.state) true (rm_of src) ≡ value_of src v
  read src i n = reads src s n (behind i p.state) refl refl refl

  one : (r : ℕ) → slice_index p.state.registers r ≡ register v r
  one r = ap (λ rs. slice_index rs r) s.sees.registers

  pub number : (r w : ℕ) → Has code at (i86.MovImm r (imm.Word w)) → At code (at + 3) (with_register r w v) f (processor_step p)
  unfolding with_sized_register
  number r w h = arrives finds {w = with_register r w v} (i86.MovImm r (imm.Word w)) (omega arith) (omega arith) h s refl (held s) refl
      (ap (λ rs. slice_set rs r w) s.sees.registers) (past_it _ at 3 s.sees.place) s.flags refl refl

  pub low_byte : (b : ℕ) → Has code at (i86.MovImm 0 (imm.Byte b)) → At code (at + 2) (with_register 0 (register v 0 / 256 * 256 + b) v) f (processor_step p)
  unfolding with_sized_register
  low_byte b h = arrives finds {w = with_register 0 (register v 0 / 256 * 256 + b) v} (i86.MovImm 0 (imm.Byte b)) (omega arith) (omega arith) h s refl (held s) refl
      (ap (λ rs. slice_set rs 0 (slice_index rs 0 / 256 * 256 + b)) s.sees.registers) (past_it _ at 2 s.sees.place) s.flags refl refl

  pub high_byte : (b : ℕ) → Has code at (i86.MovImm 4 (imm.Byte b)) → At code (at + 2) (with_register 0 (b * 256 + register v 0 % 256) v) f (processor_step p)
  unfolding with_sized_register
  high_byte b h = arrives finds {w = with_register 0 (b * 256 + register v 0 % 256) v} (i86.MovImm 4 (imm.Byte b)) (omega arith) (omega arith) h s refl (held s) refl
      (ap (λ rs. slice_set rs 0 (b * 256 + slice_index rs 0 % 256)) s.sees.registers) (past_it _ at 2 s.sees.place) s.flags refl refl

  pub low_from_high : Has code at (i86.Mov false true 0 (rms.Reg 4)) → At code (at + 2) (with_register 0 (register v 0 / 256 * 256 + register v 0 / 256) v) f (processor_step p)
  unfolding moved operand sized_register with_sized_register
  low_from_high h = arrives finds {w = with_register 0 (register v 0 / 256 * 256 + register v 0 / 256) v} (i86.Mov false true 0 (rms.Reg 4)) (omega arith) (omega arith) h s refl
      (held s) refl (ap (λ rs. slice_set rs 0 (slice_index rs 0 / 256 * 256 + slice_index rs 0 / 256)) s.sees.registers) (past_it _ at 2 s.sees.place) s.flags refl refl

  pub load : (r : ℕ) (src : Source) → 0 < length (bytes_of (i86.Mov true true r (rm_of src))) → length (bytes_of (i86.Mov true true r (rm_of src))) ≤ 7
      → Has code at (i86.Mov true true r (rm_of src)) → SourceNeeds code src v
      → At code (at + length (bytes_of (i86.Mov true true r (rm_of src)))) (with_register r (value_of src v) v) f (processor_step p)
  unfolding moved with_sized_register
  load r src some short h n =
      let i = i86.Mov true true r (rm_of src) in
      arrives finds {w = with_register r (value_of src v) v} i some short h s refl (held s) refl (once_set _ _ r _ _ s.sees.registers (read src i n))
      (past_it _ at (length (bytes_of i)) s.sees.place) s.flags refl refl

  pub store : (place : Place) (r k : ℕ) → 0 < length (bytes_of (i86.Mov true false r (memory place))) → length (bytes_of (i86.Mov true false r (memory place))) ≤ 7
      → Has code at (i86.Mov true false r (memory place))
      → default_segment place ≡ data_segment → k < 32768 → offset_in v.registers place ≡ 2 * k
      → At code (at + length (bytes_of (i86.Mov true false r (memory place)))) (with_cell k (register v r) v) f (processor_step p)
  unfolding moved with_operand sized_register segment_of with_value_at
  store place r k some short h segment lt is =
      let i = i86.Mov true false r (memory place) in
      let there : offset_of (behind i p.state) place ≡ 2 * k = offset_is (behind i p.state) v.registers place s.sees.registers ∙ is in
      let written = cell_written code (standing at f v) p (offset_of (behind i p.state) place) k (slice_index p.state.registers r) (register v r) s.sees lt there (one r) in
      arrives finds {w = with_cell k (register v r) v} i some short h s refl
      (subst (λ g. Holds code (put_word v.cells k (register v r)) v.stack (with_word p.state.memory g (offset_of (behind i p.state) place) (slice_index p.state.registers r)))
      (sym segment) written)
      refl s.sees.registers (past_it _ at (length (bytes_of i)) s.sees.place) s.flags refl refl

  -- ---- the arithmetic unit

  -- an operation on a register and a source: it leaves the view w and the flags g
  abbrev pub Operates : (kind r : ℕ) (src : Source) (w : View) (g : Flags) → Type 0
  Operates kind r src w g =
      0 < length (bytes_of (i86.AluRm kind true true r (rm_of src))) → length (bytes_of (i86.AluRm kind true true r (rm_of src))) ≤ 7
      → Has code at (i86.AluRm kind true true r (rm_of src)) → SourceNeeds code src v
      → At code (at + length (bytes_of (i86.AluRm kind true true r (rm_of src)))) w g (processor_step p)

  -- one that writes its result
  changes : (op r : ℕ) (src : Source) (n : ℕ) (g : Flags) → (op == 7) ≡ false → ((c : Bool) → alu_value op 32768 (register v r) (value_of src v) c ≡ n)
      → alu_flags op 32768 (register v r) (value_of src v) f ≡ g → Operates op r src (with_register r n v) g
  changes op r src n g writes value flags some short h needs =
      let i = i86.AluRm op true true r (rm_of src) in
      let b = read src i needs in
      arrives finds {w = with_register r n v} i some short h s (ap (λ t. with_state t p) (written (behind i p.state) op r (operand (behind i p.state) true (rm_of src)) writes)) (held s) refl
      (once_set _ _ r _ _ s.sees.registers (ap₂ (λ a b. alu_value op 32768 a b p.state.flags.cf) (one r) b ∙ value p.state.flags.cf))
      (past_it _ at (length (bytes_of i)) s.sees.place)
      (ap₂ (λ a b. alu_flags op 32768 a b p.state.flags) (one r) b ∙ ap (alu_flags op 32768 (register v r) (value_of src v)) s.flags ∙ flags) refl refl

  pub sum : (r : ℕ) (src : Source) → Operates 0 r src (with_register r (word_sum (register v r) (value_of src v)) v) (sum_flags 32768 (register v r) (value_of src v) false)
  unfolding alu_value alu_flags
  sum r src = changes 0 r src _ _ refl (λ c. plain_sum (register v r) (value_of src v)) refl

  pub difference : (r : ℕ) (src : Source) → Operates 5 r src (with_register r (word_difference (register v r) (value_of src v)) v) (difference_flags 32768 (register v r) (value_of src v) false)
  unfolding alu_value alu_flags
  difference r src = changes 5 r src _ _ refl (λ c. plain_difference (register v r) (value_of src v)) refl

  pub either : (r : ℕ) (src : Source) → Operates 1 r src (with_register r (bit_or (register v r) (value_of src v)) v) (logic_flags 32768 (bit_or (register v r) (value_of src v)) f)
  unfolding alu_value alu_flags
  either r src = changes 1 r src _ _ refl (λ c. refl) refl

  pub one_of : (r : ℕ) (src : Source) → Operates 6 r src (with_register r (bit_xor (register v r) (value_of src v)) v) (logic_flags 32768 (bit_xor (register v r) (value_of src v)) f)
  unfolding alu_value alu_flags
  one_of r src = changes 6 r src _ _ refl (λ c. refl) refl

  pub comparison : (r : ℕ) (src : Source) → Operates 7 r src v (difference_flags 32768 (register v r) (value_of src v) false)
  unfolding operated alu_flags operand sized_register
  comparison r src some short h n =
      let i = i86.AluRm 7 true true r (rm_of src) in
      arrives finds {w = v} i some short h s refl (held s) refl s.sees.registers (past_it _ at (length (bytes_of i)) s.sees.place)
      (ap₂ (λ a b. difference_flags 32768 a b false) (one r) (read src i n)) refl refl

  -- with a byte that is sign-extended
  pub sum_short : (r b : ℕ) → Has code at (i86.AluShort 0 (rms.Reg r) b)
      → At code (at + 3) (with_register r (word_sum (register v r) (sign_extended b)) v) (sum_flags 32768 (register v r) (sign_extended b) false) (processor_step p)
  unfolding operated with_operand with_sized_register alu_value alu_flags operand sized_register
  sum_short r b h =
      arrives finds {w = with_register r (word_sum (register v r) (sign_extended b)) v} (i86.AluShort 0 (rms.Reg r) b) (omega arith) (omega arith) h s refl (held s) refl
      (once_set _ _ r _ _ s.sees.registers (ap (λ a. (a + sign_extended b + 0) % 65536) (one r) ∙ plain_sum (register v r) (sign_extended b)))
      (past_it _ at 3 s.sees.place) (ap (λ a. sum_flags 32768 a (sign_extended b) false) (one r)) refl refl

  -- of a word and a byte that is sign-extended
  pub comparison_short : (src : Source) (b : ℕ) → 0 < length (bytes_of (i86.AluShort 7 (rm_of src) b)) → length (bytes_of (i86.AluShort 7 (rm_of src) b)) ≤ 7
      → Has code at (i86.AluShort 7 (rm_of src) b) → SourceNeeds code src v
      → At code (at + length (bytes_of (i86.AluShort 7 (rm_of src) b))) v (difference_flags 32768 (value_of src v) (sign_extended b) false) (processor_step p)
  unfolding operated alu_flags
  comparison_short src b some short h n =
      let i = i86.AluShort 7 (rm_of src) b in
      arrives finds {w = v} i some short h s refl (held s) refl s.sees.registers (past_it _ at (length (bytes_of i)) s.sees.place)
      (ap (λ a. difference_flags 32768 a (sign_extended b) false) (read src i n)) refl refl

  -- of AX and a number
  pub difference_number : (w : ℕ) → Has code at (i86.AluAcc 5 (imm.Word w))
      → At code (at + 3) (with_register 0 (word_difference (register v 0) w) v) (difference_flags 32768 (register v 0) w false) (processor_step p)
  unfolding operated with_operand with_sized_register alu_value alu_flags operand sized_register
  difference_number w h =
      arrives finds {w = with_register 0 (word_difference (register v 0) w) v} (i86.AluAcc 5 (imm.Word w)) (omega arith) (omega arith) h s refl (held s) refl
      (once_set _ _ 0 _ _ s.sees.registers (ap (λ a. (a + 65536 - (w + 0)) % 65536) (one 0) ∙ plain_difference (register v 0) w))
      (past_it _ at 3 s.sees.place) (ap (λ a. difference_flags 32768 a w false) (one 0)) refl refl

  -- of AX with a word
  pub comparison_number : (w : ℕ) → Has code at (i86.AluAcc 7 (imm.Word w)) → At code (at + 3) v (difference_flags 32768 (register v 0) w false) (processor_step p)
  unfolding operated alu_flags operand sized_register
  comparison_number w h = arrives finds {w = v} (i86.AluAcc 7 (imm.Word w)) (omega arith) (omega arith) h s refl (held s) refl s.sees.registers (past_it _ at 3 s.sees.place)
      (ap (λ a. difference_flags 32768 a w false) (one 0)) refl refl

  pub less_one : (r : ℕ) → Has code at (i86.Dec r)
      → At code (at + 1) (with_register r (word_difference (register v r) 1) v) (keeping_carry f (difference_flags 32768 (register v r) 1 false)) (processor_step p)
  unfolding counted with_operand with_sized_register operand sized_register
  less_one r h =
      arrives finds {w = with_register r (word_difference (register v r) 1) v} (i86.Dec r) (omega arith) (omega arith) h s refl (held s) refl
      (once_set _ _ r _ _ s.sees.registers (ap (λ a. (a + 65536 - 1) % 65536) (one r)))
      (past_it _ at 1 s.sees.place) (ap₂ (λ f a. keeping_carry f (difference_flags 32768 a 1 false)) s.flags (one r)) refl refl

  pub negative : (r : ℕ) → Has code at (i86.Unary 3 true (rms.Reg r))
      → At code (at + 2) (with_register r (word_difference 0 (register v r)) v) (difference_flags 32768 0 (register v r) false) (processor_step p)
  unfolding unary with_negative operand with_operand sized_register with_sized_register
  negative r h =
      arrives finds {w = with_register r (word_difference 0 (register v r)) v} (i86.Unary 3 true (rms.Reg r)) (omega arith) (omega arith) h s refl (held s) refl
      (once_set _ _ r _ _ s.sees.registers (ap (λ a. (0 + 65536 - (a + 0)) % 65536) (one r) ∙ plain_difference 0 (register v r)))
      (past_it _ at 2 s.sees.place) (ap (λ a. difference_flags 32768 0 a false) (one r)) refl refl

  -- of AL with itself
  pub test_low : Has code at (i86.TestRm false 0 (rms.Reg 0)) → At code (at + 2) v (logic_flags 128 (bit_and (register v 0 % 256) (register v 0 % 256)) f) (processor_step p)
  unfolding tested operand sized_register
  test_low h = arrives finds {w = v} (i86.TestRm false 0 (rms.Reg 0)) (omega arith) (omega arith) h s refl (held s) refl s.sees.registers (past_it _ at 2 s.sees.place)
      (ap₂ (λ a f. logic_flags 128 (bit_and (a % 256) (a % 256)) f) (one 0) s.flags) refl refl

  pub or_low : Has code at (i86.AluRm 1 false true 0 (rms.Reg 0))
      → At code (at + 2) (with_register 0 (register v 0 / 256 * 256 + bit_or (register v 0 % 256) (register v 0 % 256)) v)
      (logic_flags 128 (bit_or (register v 0 % 256) (register v 0 % 256)) f) (processor_step p)
  unfolding operated with_operand with_sized_register alu_value alu_flags operand sized_register
  or_low h =
      arrives finds {w = with_register 0 (register v 0 / 256 * 256 + bit_or (register v 0 % 256) (register v 0 % 256)) v} (i86.AluRm 1 false true 0 (rms.Reg 0)) (omega arith)
      (omega arith) h s refl (held s) refl
      (ap (λ rs. slice_set rs 0 (slice_index rs 0 / 256 * 256 + bit_or (slice_index rs 0 % 256) (slice_index rs 0 % 256))) s.sees.registers)
      (past_it _ at 2 s.sees.place) (ap₂ (λ a f. logic_flags 128 (bit_or (a % 256) (a % 256)) f) (one 0) s.flags) refl refl

  pub add_low : Has code at (i86.AluRm 0 false true 0 (rms.Reg 0))
      → At code (at + 2) (with_register 0 (register v 0 / 256 * 256 + (register v 0 % 256 + register v 0 % 256 + 0) % 256) v)
      (sum_flags 128 (register v 0 % 256) (register v 0 % 256) false) (processor_step p)
  unfolding operated with_operand with_sized_register alu_value alu_flags operand sized_register
  add_low h =
      arrives finds {w = with_register 0 (register v 0 / 256 * 256 + (register v 0 % 256 + register v 0 % 256 + 0) % 256) v} (i86.AluRm 0 false true 0 (rms.Reg 0)) (omega arith)
      (omega arith) h s refl (held s) refl
      (ap (λ rs. slice_set rs 0 (slice_index rs 0 / 256 * 256 + (slice_index rs 0 % 256 + slice_index rs 0 % 256 + 0) % 256)) s.sees.registers)
      (past_it _ at 2 s.sees.place) (ap (λ a. sum_flags 128 (a % 256) (a % 256) false) (one 0)) refl refl

  -- ---- shifts

  twice : (a : ℕ) → 2 * (a % 32768) + 0 ≡ 2 * a % 65536
  twice a = omega arith

  pub double_word : (r : ℕ) → Has code at (i86.Shift 4 true false (rms.Reg r))
      → At code (at + 2) (with_register r (2 * register v r % 65536) v) (shift_flags Shl 32768 (register v r) 1 f) (processor_step p)
  unfolding shifted operand with_operand sized_register with_sized_register repeated
  double_word r h =
      arrives finds {w = with_register r (2 * register v r % 65536) v} (i86.Shift 4 true false (rms.Reg r)) (omega arith) (omega arith) h s refl (held s) refl
      (once_set _ _ r _ _ s.sees.registers (ap (λ a. 2 * (a % 32768) + 0) (one r) ∙ twice (register v r)))
      (past_it _ at 2 s.sees.place) (ap₂ (λ a f. shift_flags Shl 32768 a 1 f) (one r) s.flags) refl refl

  pub double : (r : ℕ) → Has code at (i86.Shift 4 true false (rms.Reg r)) → register v r < 32768
      → At code (at + 2) (with_register r (2 * register v r) v) (shift_flags Shl 32768 (register v r) 1 f) (processor_step p)
  double r h lt =
      let e : 2 * register v r % 65536 ≡ 2 * register v r = omega arith in
      subst (λ n. At code (at + 2) (with_register r n v) (shift_flags Shl 32768 (register v r) 1 f) (processor_step p)) e (double_word r h)

  pub up : (r : ℕ) → Has code at (i86.Shift 4 true true (rms.Reg r)) → register v r < 65536
      → At code (at + 2) (with_register r (word_up (register v r) (register v 1 % 256)) v) (shift_flags Shl 32768 (register v r) (register v 1 % 256) f) (processor_step p)
  unfolding shifted operand with_operand sized_register with_sized_register
  up r h lt =
      arrives finds {w = with_register r (word_up (register v r) (register v 1 % 256)) v} (i86.Shift 4 true true (rms.Reg r)) (omega arith) (omega arith) h s refl (held s) refl
      (once_set _ _ r _ _ s.sees.registers (ap₂ (λ a n. (repeated Shl 32768 (n % 256) (a, p.state.flags.cf)).0) (one r) (one 1)
      ∙ up_many (register v 1 % 256) (register v r) p.state.flags.cf lt))
      (past_it _ at 2 s.sees.place)
      (ap (λ rs. shift_flags Shl 32768 (slice_index rs r) (slice_index rs 1 % 256) p.state.flags) s.sees.registers
      ∙ ap (shift_flags Shl 32768 (register v r) (register v 1 % 256)) s.flags) refl refl

  pub down_by : (r : ℕ) → Has code at (i86.Shift 5 true true (rms.Reg r))
      → At code (at + 2) (with_register r (word_down (register v r) (register v 1 % 256)) v) (shift_flags Shr 32768 (register v r) (register v 1 % 256) f) (processor_step p)
  unfolding shifted operand with_operand sized_register with_sized_register
  down_by r h =
      arrives finds {w = with_register r (word_down (register v r) (register v 1 % 256)) v} (i86.Shift 5 true true (rms.Reg r)) (omega arith) (omega arith) h s refl (held s) refl
      (once_set _ _ r _ _ s.sees.registers (ap₂ (λ a n. (repeated Shr 32768 (n % 256) (a, p.state.flags.cf)).0) (one r) (one 1)
      ∙ down_many (register v 1 % 256) (register v r) p.state.flags.cf))
      (past_it _ at 2 s.sees.place)
      (ap (λ rs. shift_flags Shr 32768 (slice_index rs r) (slice_index rs 1 % 256) p.state.flags) s.sees.registers
      ∙ ap (shift_flags Shr 32768 (register v r) (register v 1 % 256)) s.flags) refl refl

  pub down_signed : (r : ℕ) → Has code at (i86.Shift 7 true true (rms.Reg r)) → register v r < 65536
      → At code (at + 2) (with_register r (word_down_signed (register v r) (register v 1 % 256)) v) (shift_flags Sar 32768 (register v r) (register v 1 % 256) f) (processor_step p)
  unfolding shifted operand with_operand sized_register with_sized_register
  down_signed r h lt =
      arrives finds {w = with_register r (word_down_signed (register v r) (register v 1 % 256)) v} (i86.Shift 7 true true (rms.Reg r)) (omega arith) (omega arith) h s refl
      (held s) refl
      (once_set _ _ r _ _ s.sees.registers (ap₂ (λ a n. (repeated Sar 32768 (n % 256) (a, p.state.flags.cf)).0) (one r) (one 1)
      ∙ down_signed_many (register v 1 % 256) (register v r) p.state.flags.cf lt))
      (past_it _ at 2 s.sees.place)
      (ap (λ rs. shift_flags Sar 32768 (slice_index rs r) (slice_index rs 1 % 256) p.state.flags) s.sees.registers
      ∙ ap (shift_flags Sar 32768 (register v r) (register v 1 % 256)) s.flags) refl refl

  -- ---- products and quotients

  pub product : (r : ℕ) → Has code at (i86.Unary 5 true (rms.Reg r))
      → At code (at + 2) (with_pair (product_low (register v 0) (register v r)) (product_high (register v 0) (register v r)) v)
      (product_flags (product_overflows (register v 0) (register v r)) f) (processor_step p)
  unfolding unary signed_multiplied operand sized_register
  product r h =
      arrives finds {w = with_pair (product_low (register v 0) (register v r)) (product_high (register v 0) (register v r)) v} (i86.Unary 5 true (rms.Reg r)) (omega arith)
      (omega arith) h s refl (held s) refl
      (ap (λ rs. slice_set (slice_set rs 0 (product_low (slice_index rs 0) (slice_index rs r))) 2 (product_high (slice_index rs 0) (slice_index rs r))) s.sees.registers)
      (past_it _ at 2 s.sees.place)
      (ap₂ (λ rs f. product_flags (product_overflows (slice_index rs 0) (slice_index rs r)) f) s.sees.registers s.flags) refl refl

  quotient_is : (a b : ℕ) → 0 < b → a / b < 65536 → quotient_of 32768 a b ≡ Some (a / b, a % b)
  quotient_is a b some fits =
      let not_zero : nat_eq b 0 ≡ false = ne_eqb b 0 (λ e. omega arith) in
      let below : nat_lt (a / b) 65536 ≡ true = lt-ltb (a / b) 65536 fits in
      ap (λ t. if t then None else (if nat_lt (a / b) 65536 then Some (a / b, a % b) else None)) not_zero ∙ ap (λ t. if t then Some (a / b, a % b) else None) below

  pub quotient : (r : ℕ) → Has code at (i86.Unary 6 true (rms.Reg r)) → 0 < register v r → (65536 * register v 2 + register v 0) / register v r < 65536
      → At code (at + 2) (with_pair ((65536 * register v 2 + register v 0) / register v r) ((65536 * register v 2 + register v 0) % register v r) v) f (processor_step p)
  unfolding unary divided operand sized_register
  quotient r h some fits =
      let i = i86.Unary 6 true (rms.Reg r) in
      let of_registers : (List ℕ → ℕ) = λ rs. 65536 * slice_index rs 2 + slice_index rs 0 in
      let some' : 0 < slice_index p.state.registers r = subst (λ n. 0 < n) (sym (one r)) some in
      let fits' : of_registers p.state.registers / slice_index p.state.registers r < 65536 = subst (λ rs. of_registers rs / slice_index rs r < 65536) (sym s.sees.registers) fits in
      let now = slice_index p.state.registers r in
      let t = record (behind i p.state) { registers = slice_set (slice_set p.state.registers 0 (of_registers p.state.registers / now)) 2 (of_registers p.state.registers % now) } in
      arrives finds {w = with_pair (of_registers v.registers / register v r) (of_registers v.registers % register v r) v} {t = t} i (omega arith) (omega arith) h s
      (ap (λ o. completed (with_quotient (behind i p.state) true o) p) (quotient_is (of_registers p.state.registers) (slice_index p.state.registers r) some' fits'))
      (held s) refl
      (ap (λ rs. slice_set (slice_set rs 0 (of_registers rs / slice_index rs r)) 2 (of_registers rs % slice_index rs r)) s.sees.registers)
      (past_it _ at 2 s.sees.place) s.flags refl refl

  pub extend : Has code at i86.Cwd → At code (at + 1) (with_register 2 (sign_of (register v 0)) v) f (processor_step p)
  unfolding word_extended
  extend h = arrives finds {w = with_register 2 (sign_of (register v 0)) v} i86.Cwd (omega arith) (omega arith) h s refl (held s) refl
      (ap (λ rs. slice_set rs 2 (sign_of (slice_index rs 0))) s.sees.registers) (past_it _ at 1 s.sees.place) s.flags refl refl

  pub exchange : (r : ℕ) → Has code at (i86.XchgAx r) → At code (at + 1) (with_register 0 (register v r) (with_register r (register v 0) v)) f (processor_step p)
  unfolding exchanged operand with_operand sized_register with_sized_register
  exchange r h = arrives finds {w = with_register 0 (register v r) (with_register r (register v 0) v)} (i86.XchgAx r) (omega arith) (omega arith) h s refl (held s) refl
      (ap (λ rs. slice_set (slice_set rs r (slice_index rs 0)) 0 (slice_index rs r)) s.sees.registers) (past_it _ at 1 s.sees.place) s.flags refl refl

  -- ---- the stack

  pub push : (r n : ℕ) → Has code at (i86.Push r) → n < 32768 → register v 4 ≡ 2 * suc n % 65536
      → At code (at + 1) (with_register 4 (2 * n) (with_stack n (register v r) v)) f (processor_step p)
  unfolding pushed
  push r n h lt top =
      let lower = down n _ _ lt (one 4) top in
      arrives finds {w = with_register 4 (2 * n) (with_stack n (register v r) v)} (i86.Push r) (omega arith) (omega arith) h s refl
      (stack_written code (standing at f v) p _ n _ (register v r) s.sees lt lower (one r)) refl (once_set _ _ 4 _ _ s.sees.registers lower)
      (past_it _ at 1 s.sees.place) s.flags refl refl

  pub push_from : (src : Source) (n : ℕ) → 0 < length (bytes_of (i86.PushRm (rm_of src))) → length (bytes_of (i86.PushRm (rm_of src))) ≤ 7 → Has code at (i86.PushRm (rm_of src))
      → SourceNeeds code src v → n < 32768 → register v 4 ≡ 2 * suc n % 65536
      → At code (at + length (bytes_of (i86.PushRm (rm_of src)))) (with_register 4 (2 * n) (with_stack n (value_of src v) v)) f (processor_step p)
  unfolding pushed
  push_from src n some short h needs lt top =
      let i = i86.PushRm (rm_of src) in
      let lower = down n _ _ lt (one 4) top in
      arrives finds {w = with_register 4 (2 * n) (with_stack n (value_of src v) v)} i some short h s refl
      (stack_written code (standing at f v) p _ n _ (value_of src v) s.sees lt lower (read src i needs)) refl (once_set _ _ 4 _ _ s.sees.registers lower)
      (past_it _ at (length (bytes_of i)) s.sees.place) s.flags refl refl

  pub pop : (r n w m : ℕ) → Has code at (i86.Pop r) → n < 32768 → register v 4 ≡ 2 * n % 65536 → v.stack n ≡ w → 2 * suc n % 65536 ≡ m
      → At code (at + 1) (with_register r w (with_register 4 m v)) f (processor_step p)
  unfolding pop_to
  pop r n w m h lt top is after =
      arrives finds {w = with_register r w (with_register 4 m v)} (i86.Pop r) (omega arith) (omega arith) h s refl (held s) refl
      (twice_set _ _ 4 r _ _ _ _ s.sees.registers (up_one n _ _ lt (one 4) top ∙ after) (stack_read code (standing at f v) p _ n s.sees lt (one 4 ∙ even n _ lt top) ∙ is))
      (past_it _ at 1 s.sees.place) s.flags refl refl

  -- ---- jumps

  pub short : (by : ℕ) → Has code at (i86.JumpShort by) → At code (at + 2 + sign_extended by) v f (processor_step p)
  short by h = arrives finds {w = v} (i86.JumpShort by) (omega arith) (omega arith) h s refl (held s) refl s.sees.registers
      (past_by _ at 2 (sign_extended by) s.sees.place) s.flags refl refl

  pub near : (by : ℕ) → Has code at (i86.Jump by) → At code (at + 3 + by) v f (processor_step p)
  near by h = arrives finds {w = v} (i86.Jump by) (omega arith) (omega arith) h s refl (held s) refl s.sees.registers (past_by _ at 3 by s.sees.place) s.flags refl refl

  pub jump_to : (r to : ℕ) → Has code at (i86.JumpRm (rms.Reg r)) → register v r ≡ to % 65536 → At code to v f (processor_step p)
  unfolding operand sized_register
  jump_to r to h is = arrives finds {w = v} (i86.JumpRm (rms.Reg r)) (omega arith) (omega arith) h s refl (held s) refl s.sees.registers (one r ∙ is) s.flags refl refl

  pub return : (n m to : ℕ) → Has code at i86.Ret → n < 32768 → register v 4 ≡ 2 * n % 65536 → 2 * suc n % 65536 ≡ m → v.stack n ≡ to % 65536
      → At code to (with_register 4 m v) f (processor_step p)
  unfolding returned
  return n m to h lt top after is =
      arrives finds {w = with_register 4 m v} i86.Ret (omega arith) (omega arith) h s refl (held s) refl
      (once_set _ _ 4 _ _ s.sees.registers (up_one n _ _ lt (one 4) top ∙ after))
      (stack_read code (standing at f v) p _ n s.sees lt (one 4 ∙ even n _ lt top) ∙ is) s.flags refl refl

  further : (n k sp top : ℕ) → sp ≡ top → top ≡ 2 * n % 65536 → (sp + (2 + k)) % 65536 ≡ (2 * suc n + k) % 65536
  further n k sp top e is = omega arith

  -- and drops so many bytes more
  pub return_past : (n k m to : ℕ) → Has code at (i86.RetAdd k) → n < 32768 → register v 4 ≡ 2 * n % 65536 → (2 * suc n + k) % 65536 ≡ m → v.stack n ≡ to % 65536
      → At code to (with_register 4 m v) f (processor_step p)
  unfolding returned
  return_past n k m to h lt top after is =
      arrives finds {w = with_register 4 m v} (i86.RetAdd k) (omega arith) (omega arith) h s refl (held s) refl
      (once_set _ _ 4 _ _ s.sees.registers (further n k _ _ (one 4) top ∙ after))
      (stack_read code (standing at f v) p _ n s.sees lt (one 4 ∙ even n _ lt top) ∙ is) s.flags refl refl

  -- ---- the ports

  pub take : (port : ℕ) → Has code at (i86.In port)
      → At code (at + 2) (with_input (left_after port v.input) (with_register 0 (register v 0 / 256 * 256 + taken port v.input) v)) f (processor_step p)
  take port h =
      let i = i86.In port in
      let w = with_input (left_after port v.input) (with_register 0 (register v 0 / 256 * 256 + taken port v.input) v) in
      arrives_past finds {w = w} {q = does i p} i (omega arith) (omega arith) h s refl refl (held s) refl
      (ap (λ rs. slice_set rs 0 (slice_index rs 0 / 256 * 256 + taken port p.input)) s.sees.registers ∙ ap (λ i. slice_set v.registers 0 (register v 0 / 256 * 256 + taken port i)) s.sees.input)
      (past_it _ at 2 s.sees.place) s.flags (ap (left_after port) s.sees.input) s.sees.told

  pub out : (port : ℕ) → Has code at (i86.Out port) → At code (at + 2) (with_told (with_given port (register v 0 % 256) v.told) v) f (processor_step p)
  out port h =
      let i = i86.Out port in
      arrives_past finds {w = with_told (with_given port (register v 0 % 256) v.told) v} {q = does i p} i (omega arith) (omega arith) h s refl refl (held s) refl s.sees.registers
      (past_it _ at 2 s.sees.place) s.flags s.sees.input
      (ap (λ rs. with_given port (slice_index rs 0 % 256) p.told) s.sees.registers ∙ ap (with_given port (register v 0 % 256)) s.sees.told)
