-- Products and quotients of registers, and the sign of AX in DX.
use Rattle.std.proofs.Common.{◌≡◌, ℕ, ◌+◌, ◌*◌, ◌/◌, ◌%◌, ◌<◌, true, false, List, refl, sym, ap, subst, ◌∙◌, arith}
use Rattle.std.proofs.lemmas.Bool.{lt-ltb, ne_eqb}
use Rattle.std.specs.Prelude.{slice_index, slice_set, nat_lt, nat_eq, if◌then◌else◌, Some, None}
use Rattle.cw_i86.specs.Products.{quotient_of}
use Rattle.cw_i86.specs.State.{sized_register, operand}
use Rattle.cw_i86.specs.Effect.{unary, signed_multiplied, divided, with_quotient, word_extended}
use Rattle.cw_i86.specs.declared.instr.Instr.TheVariants as i86
use Rattle.cw_i86.specs.declared.instr.Rm.TheVariants as rms
use Rattle.cw_run86.specs.Processor.{behind, completed}
use Rattle.cw_run86.specs.Views.{View, Sees, Has, Goes, register, on, with_register, with_pair, with_overflow, product_low, product_high, product_overflows, sign_of}
use Rattle.cw_run86.proofs.Tests.{Finds}
use Rattle.cw_run86.proofs.Memory.{holds}
use Rattle.cw_run86.proofs.Goes.{goes, sees}
use Rattle.cw_run86.proofs.Stack.{register_is}

module _ (finds : Finds) (code : List ℕ) (v : View) where
  pub multiply : (r : ℕ) → Has code v.place (i86.Unary 5 true (rms.Reg r))
      → Goes code v (with_overflow (product_overflows (register v 0) (register v r)) (with_pair (product_low (register v 0) (register v r)) (product_high (register v 0) (register v r)) (on (i86.Unary 5 true (rms.Reg r)) v)))
  unfolding unary signed_multiplied operand sized_register
  multiply r has =
      goes finds code v _ _ has (omega arith)
      (λ p s. sees code v _ p _ s (holds code v p s) refl
      (ap (λ rs. slice_set (slice_set rs 0 (product_low (slice_index rs 0) (slice_index rs r))) 2 (product_high (slice_index rs 0) (slice_index rs r))) s.registers)
      (ap (λ n. (n + 2) % 65536) s.place)
      (ap (λ rs. product_overflows (slice_index rs 0) (slice_index rs r)) s.registers)
      refl refl)

  -- the quotient is there
  quotient_is : (a b : ℕ) → 0 < b → a / b < 65536 → quotient_of 32768 a b ≡ Some (a / b, a % b)
  quotient_is a b some fits =
      let not_zero : nat_eq b 0 ≡ false = ne_eqb b 0 (λ e. omega arith) in
      let below : nat_lt (a / b) 65536 ≡ true = lt-ltb (a / b) 65536 fits in
      ap (λ t. if t then None else (if nat_lt (a / b) 65536 then Some (a / b, a % b) else None)) not_zero ∙ ap (λ t. if t then Some (a / b, a % b) else None) below

  pub divide : (r : ℕ) → Has code v.place (i86.Unary 6 true (rms.Reg r)) → 0 < register v r → (65536 * register v 2 + register v 0) / register v r < 65536
      → Goes code v (with_pair ((65536 * register v 2 + register v 0) / register v r) ((65536 * register v 2 + register v 0) % register v r) (on (i86.Unary 6 true (rms.Reg r)) v))
  unfolding unary divided operand sized_register
  divide r has some fits =
      goes finds code v _ _ has (omega arith)
      (λ p s. let of_registers : (List ℕ → ℕ) = λ rs. 65536 * slice_index rs 2 + slice_index rs 0 in
      let some' : 0 < slice_index p.state.registers r = subst (λ n. 0 < n) (sym (register_is code v p r s)) some in
      let fits' : of_registers p.state.registers / slice_index p.state.registers r < 65536 = subst (λ rs. of_registers rs / slice_index rs r < 65536) (sym s.registers) fits in
      let w = with_pair (of_registers v.registers / register v r) (of_registers v.registers % register v r) (on (i86.Unary 6 true (rms.Reg r)) v) in
      subst (λ o. Sees code w (completed (with_quotient (behind (i86.Unary 6 true (rms.Reg r)) p.state) true o) p))
      (sym (quotient_is (of_registers p.state.registers) (slice_index p.state.registers r) some' fits'))
      (sees code v w p _ s (holds code v p s) refl
      (ap (λ rs. slice_set (slice_set rs 0 (of_registers rs / slice_index rs r)) 2 (of_registers rs % slice_index rs r)) s.registers)
      (ap (λ n. (n + 2) % 65536) s.place) s.overflow refl refl))

  pub extend : Has code v.place i86.Cwd → Goes code v (with_register 2 (sign_of (register v 0)) (on i86.Cwd v))
  unfolding word_extended
  extend has =
      goes finds code v _ _ has (omega arith)
      (λ p s. sees code v _ p _ s (holds code v p s) refl (ap (λ rs. slice_set rs 2 (sign_of (slice_index rs 0))) s.registers) (ap (λ n. (n + 1) % 65536) s.place) s.overflow refl refl)
