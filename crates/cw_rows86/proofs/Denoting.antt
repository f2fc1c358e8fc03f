-- Each way of addressing, and the word that it denotes.
use Rattle.std.proofs.Common.{◌≡◌, ℕ, ◌+◌, ◌*◌, ◌%◌, ◌<◌, ◌≤◌, List, length, refl}
use Rattle.std.specs.Prelude.{slice_index}
use Rattle.cw_i86.specs.State.{sign_extended}
use Rattle.cw_i86.specs.declared.instr.Rm.TheVariants as rms
use Rattle.cw_i86.specs.declared.instr.Place.{Place}
use Rattle.cw_i86.specs.declared.instr.Place.TheVariants.{Direct, Plain, Near, Far}
use Rattle.cw_run86.specs.Addressing.{offset_in}
use Rattle.cw_run86.specs.Views.{View}
use Rattle.cw_rows86.specs.Locations.{InRegister, InData, InStack, InCode, contents, Denotes, in_memory, in_code, HasWord}

module _ (code rs : List ℕ) where
  pub of_register : (r : ℕ) → Denotes code rs (rms.Reg r) (InRegister r)
  of_register r = refl

  pub at_offset : (k : ℕ) → k < 32768 → Denotes code rs (in_memory (Direct (2 * k))) (InData k)
  at_offset k lt = (refl, refl, lt, refl)

  pub at_bx : (k : ℕ) → k < 32768 → slice_index rs 3 ≡ 2 * k → Denotes code rs (in_memory (Plain 7)) (InData k)
  at_bx k lt is = (refl, refl, lt, is)

  pub at_si : (k : ℕ) → k < 32768 → slice_index rs 6 ≡ 2 * k → Denotes code rs (in_memory (Plain 4)) (InData k)
  at_si k lt is = (refl, refl, lt, is)

  pub near_bx : (by k : ℕ) → k < 32768 → (slice_index rs 3 + sign_extended by) % 65536 ≡ 2 * k → Denotes code rs (in_memory (Near 7 by)) (InData k)
  near_bx by k lt is = (refl, refl, lt, is)

  pub far_bx : (by k : ℕ) → k < 32768 → (slice_index rs 3 + by) % 65536 ≡ 2 * k → Denotes code rs (in_memory (Far 7 by)) (InData k)
  far_bx by k lt is = (refl, refl, lt, is)

  pub near_bp : (by k : ℕ) → k < 32768 → (slice_index rs 5 + sign_extended by) % 65536 ≡ 2 * k → Denotes code rs (in_memory (Near 6 by)) (InStack k)
  near_bp by k lt is = (refl, refl, lt, is)

  pub far_bp : (by k : ℕ) → k < 32768 → (slice_index rs 5 + by) % 65536 ≡ 2 * k → Denotes code rs (in_memory (Far 6 by)) (InStack k)
  far_bp by k lt is = (refl, refl, lt, is)

  -- CS:[BX], CS:[SI], CS:[SI+d], CS:[BX+t] and CS:[at] alike
  pub at_code : (place : Place) (at : ℕ) → at + 2 ≤ length code → offset_in rs place ≡ at → Denotes code rs (in_code place) (InCode at)
  at_code place at within is = (refl, within, is)

pub read_there : (code : List ℕ) (v : View) (at w : ℕ) → HasWord code at w → contents code v (InCode at) ≡ w
read_there code v at w h = h.is
