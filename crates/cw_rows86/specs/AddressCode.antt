-- The code of an element whose index is word j of the data area: MOV BX,[j]; ADD BX,k; CMP BX,DI, where DI is the length of the area.
use Rattle.std.specs.Prelude.{ℕ, ◌+◌, ◌*◌, Bool, true, false, List, [], ◌∷◌}
use Rattle.cw_i86.specs.declared.instr.Rm.TheVariants as rms
use Rattle.cw_i86.specs.declared.instr.Place.TheVariants.{Direct}
use Rattle.cw_rows86.specs.Locations.{InRegister, InData, in_memory}
use Rattle.cw_rows86.specs.Operations.{Add, Compare}
use Rattle.cw_rows86.specs.Acts.{Act, Into, OperateNumberOnto, Operate}

-- x is the index
abbrev pub index_code : (j x k area : ℕ) → List Act
index_code j x k area =
    Into 3 (in_memory (Direct (2 * j))) (InData j) x ∷ OperateNumberOnto Add k (rms.Reg 3) (InRegister 3) x
    ∷ Operate Compare 3 (rms.Reg 7) (InRegister 7) area ∷ []

-- the place behind the test: past the check, where the index is inside the area
abbrev pub behind_test : (inside : Bool) → (at : ℕ) → ℕ
behind_test true at = at + 17
behind_test false at = at + 12
