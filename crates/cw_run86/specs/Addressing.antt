-- Addressing modes, over the words of the registers.
use Rattle.std.specs.Prelude.{ℕ, ◌+◌, ◌%◌, ◌==◌, List, slice_index, if◌then◌else◌}
use Rattle.cw_i86.specs.State.{sign_extended}
use Rattle.cw_i86.specs.declared.instr.Place.{Place}
use Rattle.cw_i86.specs.declared.instr.Place.TheVariants.{Direct, Plain, Near, Far}

-- the sum of registers that an address form names
abbrev pub base_in : List ℕ → (form : ℕ) → ℕ
base_in rs form =
    if form == 0 then (slice_index rs 3 + slice_index rs 6) % 65536
    else if form == 1 then (slice_index rs 3 + slice_index rs 7) % 65536
    else if form == 2 then (slice_index rs 5 + slice_index rs 6) % 65536
    else if form == 3 then (slice_index rs 5 + slice_index rs 7) % 65536
    else if form == 4 then slice_index rs 6
    else if form == 5 then slice_index rs 7
    else if form == 6 then slice_index rs 5
    else slice_index rs 3

abbrev pub offset_in : List ℕ → Place → ℕ
offset_in rs (Direct at) = at
offset_in rs (Plain form) = base_in rs form
offset_in rs (Near form by) = (base_in rs form + sign_extended by) % 65536
offset_in rs (Far form by) = (base_in rs form + by) % 65536
