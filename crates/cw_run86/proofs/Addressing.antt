-- The offset of a place is that over the words of the registers.
use Rattle.std.proofs.Common.{◌≡◌, ℕ, ◌+◌, ◌%◌, List, refl, ap}
use Rattle.cw_i86.specs.State.{State, sign_extended, form_base, offset_of}
use Rattle.cw_i86.specs.declared.instr.Place.{Place}
use Rattle.cw_i86.specs.declared.instr.Place.TheVariants.{Direct, Plain, Near, Far}
use Rattle.cw_run86.specs.Addressing.{base_in, offset_in}

pub offset_is : (s : State) (rs : List ℕ) (place : Place) → s.registers ≡ rs → offset_of s place ≡ offset_in rs place
unfolding offset_of form_base
offset_is s rs (Direct at) e = refl
offset_is s rs (Plain form) e = ap (λ r. base_in r form) e
offset_is s rs (Near form by) e = ap (λ r. (base_in r form + sign_extended by) % 65536) e
offset_is s rs (Far form by) e = ap (λ r. (base_in r form + by) % 65536) e
