-- Sums and differences of registers that hold words, negatives, and doubling.
use Rattle.std.proofs.Common.{◌≡◌, ℕ, ◌+◌, ◌-◌, ◌*◌, ◌%◌, ◌<◌, ◌≤◌, Bool, true, false, List, length, pos, refl, sym, ap, ap₂, subst, ◌∙◌, arith}
use Rattle.std.proofs.Math.IntN.{+ℤ_idr}
use Rattle.std.specs.Prelude.{slice_index, slice_set, bit_and, bit_or, bit_xor, ◌==◌, ◌+ℤ◌, ◌-ℤ◌}
use Rattle.cw_i86.specs.Encoding.{bytes_of}
use Rattle.cw_i86.specs.Sums.{overflows, signed}
use Rattle.cw_i86.specs.Shifts.{repeated}
use Rattle.cw_i86.specs.State.{State, with_flags, with_register, sized_register, with_sized_register, operand, with_operand}
use Rattle.cw_i86.specs.Effect.{alu_value, alu_flags, operated, negated as with_negative, unary, shifted}
use Rattle.cw_i86.specs.declared.flags.Flags.{Flags}
use Rattle.cw_i86.specs.declared.instr.Instr.{Instr}
use Rattle.cw_i86.specs.declared.instr.Instr.TheVariants as i86
use Rattle.cw_i86.specs.declared.instr.Rm.TheVariants as rms
use Rattle.cw_run86.specs.Processor.{Processor, behind, does, with_state}
use Rattle.cw_run86.specs.Views.{View, Sees, Has, Goes, register, on, with_result, with_other, double_overflows, sum_overflows, difference_overflows, word_sum, word_difference}
use Rattle.cw_run86.proofs.Tests.{Finds}
use Rattle.cw_run86.proofs.Memory.{holds}
use Rattle.cw_run86.proofs.Goes.{goes, sees}
use Rattle.cw_run86.proofs.Stack.{register_is, once_set}

-- no carry comes in
pub plain_sum : (a b : ℕ) → (a + b + 0) % 65536 ≡ word_sum a b
plain_sum a b = omega arith

pub plain_difference : (a b : ℕ) → (a + 65536 - (b + 0)) % 65536 ≡ word_difference a b
plain_difference a b = omega arith

pub plain_sum_overflows : (a b : ℕ) → overflows 32768 (signed 32768 a +ℤ signed 32768 b +ℤ pos 0) ≡ sum_overflows a b
plain_sum_overflows a b = ap (overflows 32768) (+ℤ_idr (signed 32768 a +ℤ signed 32768 b))

pub plain_difference_overflows : (a b : ℕ) → overflows 32768 (signed 32768 a -ℤ signed 32768 b -ℤ pos 0) ≡ difference_overflows a b
plain_difference_overflows a b = ap (overflows 32768) (+ℤ_idr (signed 32768 a -ℤ signed 32768 b))

-- an operation that writes its result
pub written : (s : State) (op r b : ℕ) → (op == 7) ≡ false
    → operated s op true (rms.Reg r) b ≡ with_flags (with_register s r (alu_value op 32768 (slice_index s.registers r) b s.flags.cf)) (alu_flags op 32768 (slice_index s.registers r) b s.flags)
unfolding operated operand with_operand sized_register with_sized_register
written s op r b writes = rw writes

module _ (finds : Finds) (code : List ℕ) (v : View) where
  -- an instruction that operates on a register and a word that it reads leaves a result and an overflow flag
  pub operates : (i : Instr) (op r w n : ℕ) (o : Bool) (source : State → ℕ) → (op == 7) ≡ false
      → ((c : Bool) → alu_value op 32768 (register v r) w c ≡ n) → ((f : Flags) → (alu_flags op 32768 (register v r) w f).of ≡ o)
      → Has code v.place i → length (bytes_of i) ≤ 7
      → ((p : Processor) → does i p ≡ with_state (operated (behind i p.state) op true (rms.Reg r) (source (behind i p.state))) p)
      → ((p : Processor) → Sees code v p → source (behind i p.state) ≡ w) → Goes code v (with_result r n o (on i v))
  operates i op r w n o source writes value overflow has short acts reads =
      goes finds code v _ _ has short
      (λ p s. subst (Sees code (with_result r n o (on i v))) (sym (acts p ∙ ap (λ t. with_state t p) (written (behind i p.state) op r (source (behind i p.state)) writes)))
      (sees code v _ p _ s (holds code v p s) refl
      (once_set _ _ r _ _ s.registers (ap₂ (λ a b. alu_value op 32768 a b p.state.flags.cf) (register_is code v p r s) (reads p s) ∙ value p.state.flags.cf))
      (ap (λ n. (n + length (bytes_of i)) % 65536) s.place)
      (ap₂ (λ a b. (alu_flags op 32768 a b p.state.flags).of) (register_is code v p r s) (reads p s) ∙ overflow p.state.flags)
      refl refl))

  -- on two registers
  of_registers : (op r q n : ℕ) (o : Bool) → (op == 7) ≡ false → ((c : Bool) → alu_value op 32768 (register v r) (register v q) c ≡ n)
      → ((f : Flags) → (alu_flags op 32768 (register v r) (register v q) f).of ≡ o) → Has code v.place (with_other op r q) → Goes code v (with_result r n o (on (with_other op r q) v))
  unfolding operand sized_register
  of_registers op r q n o writes value overflow has =
      operates (with_other op r q) op r (register v q) n o (λ s. slice_index s.registers q) writes value overflow has (omega arith) (λ p. refl) (λ p s. register_is code v p q s)

  pub add : (r q : ℕ) → Has code v.place (with_other 0 r q) → Goes code v (with_result r (word_sum (register v r) (register v q)) (sum_overflows (register v r) (register v q)) (on (with_other 0 r q) v))
  unfolding alu_value alu_flags
  add r q = of_registers 0 r q _ _ refl (λ c. plain_sum (register v r) (register v q)) (λ f. plain_sum_overflows (register v r) (register v q))

  pub subtract : (r q : ℕ) → Has code v.place (with_other 5 r q)
      → Goes code v (with_result r (word_difference (register v r) (register v q)) (difference_overflows (register v r) (register v q)) (on (with_other 5 r q) v))
  unfolding alu_value alu_flags
  subtract r q = of_registers 5 r q _ _ refl (λ c. plain_difference (register v r) (register v q)) (λ f. plain_difference_overflows (register v r) (register v q))

  pub negate : (r : ℕ) → Has code v.place (i86.Unary 3 true (rms.Reg r))
      → Goes code v (with_result r (word_difference 0 (register v r)) (difference_overflows 0 (register v r)) (on (i86.Unary 3 true (rms.Reg r)) v))
  unfolding unary with_negative operand with_operand sized_register with_sized_register
  negate r has =
      goes finds code v _ _ has (omega arith)
      (λ p s. sees code v _ p _ s (holds code v p s) refl
      (ap (λ rs. slice_set rs r ((0 + 65536 - (slice_index rs r + 0)) % 65536)) s.registers ∙ ap (slice_set v.registers r) (plain_difference 0 (register v r)))
      (ap (λ n. (n + 2) % 65536) s.place)
      (ap (λ rs. overflows 32768 (signed 32768 0 -ℤ signed 32768 (slice_index rs r) -ℤ pos 0)) s.registers ∙ plain_difference_overflows 0 (register v r))
      refl refl)

  pub both : (r q : ℕ) → Has code v.place (with_other 4 r q) → Goes code v (with_result r (bit_and (register v r) (register v q)) false (on (with_other 4 r q) v))
  unfolding alu_value alu_flags
  both r q = of_registers 4 r q _ _ refl (λ c. refl) (λ f. refl)

  pub either : (r q : ℕ) → Has code v.place (with_other 1 r q) → Goes code v (with_result r (bit_or (register v r) (register v q)) false (on (with_other 1 r q) v))
  unfolding alu_value alu_flags
  either r q = of_registers 1 r q _ _ refl (λ c. refl) (λ f. refl)

  pub one : (r q : ℕ) → Has code v.place (with_other 6 r q) → Goes code v (with_result r (bit_xor (register v r) (register v q)) false (on (with_other 6 r q) v))
  unfolding alu_value alu_flags
  one r q = of_registers 6 r q _ _ refl (λ c. refl) (λ f. refl)

  doubled : (a : ℕ) → a < 32768 → 2 * (a % 32768) + 0 ≡ 2 * a
  doubled a lt = omega arith

  pub double : (r : ℕ) → Has code v.place (i86.Shift 4 true false (rms.Reg r)) → register v r < 32768
      → Goes code v (with_result r (2 * register v r) (double_overflows (register v r)) (on (i86.Shift 4 true false (rms.Reg r)) v))
  unfolding shifted operand with_operand sized_register with_sized_register repeated
  double r has small =
      goes finds code v _ _ has (omega arith)
      (λ p s. sees code v _ p _ s (holds code v p s) refl
      (ap (λ rs. slice_set rs r (2 * (slice_index rs r % 32768) + 0)) s.registers ∙ ap (slice_set v.registers r) (doubled (register v r) small))
      (ap (λ n. (n + 2) % 65536) s.place)
      (ap (λ rs. double_overflows (slice_index rs r)) s.registers)
      refl refl)
