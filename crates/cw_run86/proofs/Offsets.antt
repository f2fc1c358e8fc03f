-- The word of the data segment at an offset that an instruction names, and numbers that an instruction has.
use Rattle.std.proofs.Common.{◌≡◌, ℕ, ◌+◌, ◌*◌, ◌%◌, ◌<◌, Bool, true, false, List, refl, ap, arith}
use Rattle.std.specs.Prelude.{◌==◌}
use Rattle.cw_i86.specs.State.{data_segment, word_at, sized_register, with_sized_register, operand, with_operand, segment_of, offset_of, value_at, with_value_at}
use Rattle.cw_i86.specs.Effect.{alu_value, alu_flags, moved_acc}
use Rattle.cw_i86.specs.declared.flags.Flags.{Flags}
use Rattle.cw_i86.specs.declared.instr.Instr.TheVariants as i86
use Rattle.cw_i86.specs.declared.instr.Imm.TheVariants as imm
use Rattle.cw_run86.specs.Views.{View, Has, Goes, register, on, with_register, with_cell, with_result, sum_overflows, difference_overflows, word_sum, word_difference, at_offset, with_memory, with_number}
use Rattle.cw_run86.proofs.Tests.{Finds}
use Rattle.cw_run86.proofs.Memory.{holds}
use Rattle.cw_run86.proofs.Goes.{goes, sees}
use Rattle.cw_run86.proofs.Stack.{register_is, cell_read, cell_written, once_set}
use Rattle.cw_run86.proofs.Sums.{plain_sum, plain_difference, plain_sum_overflows, plain_difference_overflows, operates}

module _ (finds : Finds) (code : List ℕ) (v : View) where
  pub load : (at k : ℕ) → Has code v.place (i86.MovAcc false true false at) → k < 32768 → at ≡ 2 * k → Goes code v (with_register 0 (v.cells k) (on (i86.MovAcc false true false at) v))
  unfolding moved_acc with_sized_register value_at
  load at k has lt is =
      goes finds code v _ _ has (omega arith)
      (λ p s. sees code v _ p _ s (holds code v p s) refl (once_set _ _ 0 _ _ s.registers (cell_read code v p at k s lt is))
      (ap (λ n. (n + 3) % 65536) s.place) s.overflow refl refl)

  pub store : (at k : ℕ) → Has code v.place (i86.MovAcc false true true at) → k < 32768 → at ≡ 2 * k → Goes code v (with_cell k (register v 0) (on (i86.MovAcc false true true at) v))
  unfolding moved_acc sized_register with_value_at
  store at k has lt is =
      goes finds code v _ _ has (omega arith)
      (λ p s. sees code v _ p _ s (cell_written code v p at k _ (register v 0) s lt is (register_is code v p 0 s)) refl s.registers
      (ap (λ n. (n + 3) % 65536) s.place) s.overflow refl refl)

  pub set : (at w k : ℕ) → Has code v.place (i86.MovRm (at_offset at) (imm.Word w)) → k < 32768 → at ≡ 2 * k → Goes code v (with_cell k w (on (i86.MovRm (at_offset at) (imm.Word w)) v))
  unfolding with_operand segment_of offset_of with_value_at
  set at w k has lt is =
      goes finds code v _ _ has (omega arith)
      (λ p s. sees code v _ p _ s (cell_written code v p at k _ w s lt is refl) refl s.registers
      (ap (λ n. (n + 6) % 65536) s.place) s.overflow refl refl)

  -- an operation on a register and the word at an offset
  of_memory : (op r at k n : ℕ) (o : Bool) → (op == 7) ≡ false → ((c : Bool) → alu_value op 32768 (register v r) (v.cells k) c ≡ n)
      → ((f : Flags) → (alu_flags op 32768 (register v r) (v.cells k) f).of ≡ o) → Has code v.place (with_memory op r at) → k < 32768 → at ≡ 2 * k
      → Goes code v (with_result r n o (on (with_memory op r at) v))
  unfolding operand segment_of offset_of value_at
  of_memory op r at k n o writes value overflow has lt is =
      operates finds code v (with_memory op r at) op r (v.cells k) n o (λ s. word_at s.memory data_segment at) writes value overflow has (omega arith) (λ p. refl) (λ p s. cell_read code v p at k s lt is)

  pub add : (r at k : ℕ) → Has code v.place (with_memory 0 r at) → k < 32768 → at ≡ 2 * k
      → Goes code v (with_result r (word_sum (register v r) (v.cells k)) (sum_overflows (register v r) (v.cells k)) (on (with_memory 0 r at) v))
  unfolding alu_value alu_flags
  add r at k = of_memory 0 r at k _ _ refl (λ c. plain_sum (register v r) (v.cells k)) (λ f. plain_sum_overflows (register v r) (v.cells k))

  pub subtract : (r at k : ℕ) → Has code v.place (with_memory 5 r at) → k < 32768 → at ≡ 2 * k
      → Goes code v (with_result r (word_difference (register v r) (v.cells k)) (difference_overflows (register v r) (v.cells k)) (on (with_memory 5 r at) v))
  unfolding alu_value alu_flags
  subtract r at k = of_memory 5 r at k _ _ refl (λ c. plain_difference (register v r) (v.cells k)) (λ f. plain_difference_overflows (register v r) (v.cells k))

  -- on AX and a number
  of_number : (op w n : ℕ) (o : Bool) → (op == 7) ≡ false → ((c : Bool) → alu_value op 32768 (register v 0) w c ≡ n)
      → ((f : Flags) → (alu_flags op 32768 (register v 0) w f).of ≡ o) → Has code v.place (with_number op w) → Goes code v (with_result 0 n o (on (with_number op w) v))
  of_number op w n o writes value overflow has = operates finds code v (with_number op w) op 0 w n o (λ s. w) writes value overflow has (omega arith) (λ p. refl) (λ p s. refl)

  pub add_number : (w : ℕ) → Has code v.place (with_number 0 w) → Goes code v (with_result 0 (word_sum (register v 0) w) (sum_overflows (register v 0) w) (on (with_number 0 w) v))
  unfolding alu_value alu_flags
  add_number w = of_number 0 w _ _ refl (λ c. plain_sum (register v 0) w) (λ f. plain_sum_overflows (register v 0) w)

  pub subtract_number : (w : ℕ) → Has code v.place (with_number 5 w) → Goes code v (with_result 0 (word_difference (register v 0) w) (difference_overflows (register v 0) w) (on (with_number 5 w) v))
  unfolding alu_value alu_flags
  subtract_number w = of_number 5 w _ _ refl (λ c. plain_difference (register v 0) w) (λ f. plain_difference_overflows (register v 0) w)
