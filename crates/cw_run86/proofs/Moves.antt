-- Moves between registers, and of numbers to registers.
use Rattle.std.proofs.Common.{ℕ, ◌+◌, ◌*◌, ◌/◌, ◌%◌, true, false, List, refl, ap, arith}
use Rattle.std.specs.Prelude.{slice_index, slice_set}
use Rattle.cw_i86.specs.State.{sized_register, with_sized_register, operand}
use Rattle.cw_i86.specs.Effect.{moved}
use Rattle.cw_i86.specs.declared.instr.Instr.TheVariants as i86
use Rattle.cw_i86.specs.declared.instr.Imm.TheVariants as imm
use Rattle.cw_i86.specs.declared.instr.Rm.TheVariants as rms
use Rattle.cw_run86.specs.Views.{View, Has, Goes, register as register_of, on, with_register}
use Rattle.cw_run86.proofs.Tests.{Finds}
use Rattle.cw_run86.proofs.Memory.{holds}
use Rattle.cw_run86.proofs.Goes.{goes, sees}

module _ (finds : Finds) (code : List ℕ) (v : View) where
  pub number : (r w : ℕ) → Has code v.place (i86.MovImm r (imm.Word w)) → Goes code v (with_register r w (on (i86.MovImm r (imm.Word w)) v))
  unfolding with_sized_register
  number r w has =
      goes finds code v _ _ has (omega arith)
      (λ p s. sees code v _ p _ s (holds code v p s) refl (ap (λ rs. slice_set rs r w) s.registers) (ap (λ n. (n + 3) % 65536) s.place) s.overflow refl refl)

  pub low_byte : (b : ℕ) → Has code v.place (i86.MovImm 0 (imm.Byte b))
      → Goes code v (with_register 0 (register_of v 0 / 256 * 256 + b) (on (i86.MovImm 0 (imm.Byte b)) v))
  unfolding with_sized_register
  low_byte b has =
      goes finds code v _ _ has (omega arith)
      (λ p s. sees code v _ p _ s (holds code v p s) refl (ap (λ rs. slice_set rs 0 (slice_index rs 0 / 256 * 256 + b)) s.registers) (ap (λ n. (n + 2) % 65536) s.place) s.overflow refl refl)

  pub register : (r q : ℕ) → Has code v.place (i86.Mov true true r (rms.Reg q)) → Goes code v (with_register r (register_of v q) (on (i86.Mov true true r (rms.Reg q)) v))
  unfolding moved operand sized_register with_sized_register
  register r q has =
      goes finds code v _ _ has (omega arith)
      (λ p s. sees code v _ p _ s (holds code v p s) refl (ap (λ rs. slice_set rs r (slice_index rs q)) s.registers) (ap (λ n. (n + 2) % 65536) s.place) s.overflow refl refl)

  pub high_byte : Has code v.place (i86.Mov false true 0 (rms.Reg 4))
      → Goes code v (with_register 0 (register_of v 0 / 256 * 256 + register_of v 0 / 256) (on (i86.Mov false true 0 (rms.Reg 4)) v))
  unfolding moved operand sized_register with_sized_register
  high_byte has =
      goes finds code v _ _ has (omega arith)
      (λ p s. sees code v _ p _ s (holds code v p s) refl (ap (λ rs. slice_set rs 0 (slice_index rs 0 / 256 * 256 + slice_index rs 0 / 256)) s.registers)
      (ap (λ n. (n + 2) % 65536) s.place) s.overflow refl refl)
