-- The code of an index of one compare, instruction by instruction.
use Rattle.std.proofs.Common.{◌≡◌, ℕ, ◌+◌, ◌%◌, ◌<◌, Bool, true, false, List, refl, ap, subst, ◌∙◌, arith}
use Rattle.std.specs.Prelude.{nat_lt}
use Rattle.cw_i86.specs.declared.instr.Instr.TheVariants as i86
use Rattle.cw_i86.specs.Effect.{alu_flags, holds}
use Rattle.cw_run86.specs.Processor.{Processor, Told, processor_after}
use Rattle.cw_run86.specs.Views.{Sees, Has, with_place, word_sum, difference_overflows}
use Rattle.cw_run86.proofs.Tests.{Finds}
use Rattle.cw_rows86.specs.Acts.{HasActs}
use Rattle.cw_run86.specs.Views.{view}
use Rattle.cw_rows86.specs.AddressCode.{index_code, behind_test}
use Rattle.cw_rows86.proofs.Acting.{straight}
use Rattle.cw_rows86.proofs.Jumping.{jumps, passes}
use Rattle.cw_rows86.proofs.Conditions.{difference_below}

module _ (finds : Finds) (code : List ℕ) (at j x k area : ℕ) (ax cx dx bx sp bp si : ℕ) (overflow : Bool) (cells stack : ℕ → ℕ) (input : List ℕ) (told : Told) (p : Processor) where
  -- as far as the comparison
  compared : HasActs code at (index_code j x k area) → j < 32768 → cells j ≡ x → at + 17 < 65536 → Sees code (view at ax cx dx bx sp bp si area overflow cells stack input told) p
      → Sees code (view (at + 10) ax cx dx (word_sum x k) sp bp si area (difference_overflows (word_sum x k) area) cells stack input told) (processor_after 3 p) × (holds (processor_after 3 p).state.flags 2 ≡ nat_lt (word_sum x k) area)
  unfolding alu_flags
  compared has lt is room s =
      let here : at ≡ at % 65536 = omega arith in
      let there : (at + 4 + 4 + 2) % 65536 ≡ at + 10 = omega arith in
      let v = view at ax cx dx bx sp bp si area overflow cells stack input told in
      let r = straight finds code (index_code j x k area) at v p has (((refl, refl, lt, refl), is), ((refl, tt, refl), ((refl, refl), tt))) (subst (λ n. Sees code (view n ax cx dx bx sp bp si area overflow cells stack input told) p) here s) in (
        subst (λ n. Sees code (view n ax cx dx (word_sum x k) sp bp si area (difference_overflows (word_sum x k) area) cells stack input told) (processor_after 3 p)) there r.0,
        ap (λ f. holds f 2) r.1 ∙ difference_below (word_sum x k) area,
      )

  -- the jump
  jumped : (inside : Bool) → Has code (at + 10) (i86.JumpIf 2 5) → at + 17 < 65536 → holds (processor_after 3 p).state.flags 2 ≡ inside
      → Sees code (view (at + 10) ax cx dx (word_sum x k) sp bp si area (difference_overflows (word_sum x k) area) cells stack input told) (processor_after 3 p)
      → Sees code (view (behind_test inside at) ax cx dx (word_sum x k) sp bp si area (difference_overflows (word_sum x k) area) cells stack input told) (processor_after 4 p)
  jumped true jump room below s =
      let end : (at + 10 + 2 + 5) % 65536 ≡ at + 17 = omega arith in
      let v = view (at + 10) ax cx dx (word_sum x k) sp bp si area (difference_overflows (word_sum x k) area) cells stack input told in
      subst (λ n. Sees code (with_place n v) (processor_after 4 p)) end (jumps finds code v 2 5 (processor_after 3 p) jump s below).0
  jumped false jump room above s =
      let end : (at + 10 + 2) % 65536 ≡ at + 12 = omega arith in
      let v = view (at + 10) ax cx dx (word_sum x k) sp bp si area (difference_overflows (word_sum x k) area) cells stack input told in
      subst (λ n. Sees code (with_place n v) (processor_after 4 p)) end (passes finds code v 2 5 (processor_after 3 p) jump s above).0

  pub tested : (inside : Bool) → HasActs code at (index_code j x k area) → Has code (at + 10) (i86.JumpIf 2 5) → j < 32768 → cells j ≡ x → at + 17 < 65536 → nat_lt (word_sum x k) area ≡ inside
      → Sees code (view at ax cx dx bx sp bp si area overflow cells stack input told) p
      → Sees code (view (behind_test inside at) ax cx dx (word_sum x k) sp bp si area (difference_overflows (word_sum x k) area) cells stack input told) (processor_after 4 p)
  tested inside has jump lt is room test s = let c = compared has lt is room s in jumped inside jump room (c.1 ∙ test) c.0
