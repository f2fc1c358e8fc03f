-- What bytes are, read as an instruction from the first on.
use Rattle.std.specs.Prelude.{ℕ, ◌≡◌, List, ◌++◌, length}
use Rattle.cw_i86.specs.declared.instr.Instr.{Instr}
use Rattle.cw_i86.specs.Encoding.{bytes_of, IsInstr, BeginsWith}
use Rattle.cw_dec86.specs.declared.Decoded.{Decoded}
use Rattle.cw_dec86.specs.declared.Decoded.TheVariants.{Done, NeedMore, Unknown}

-- they begin with no instruction
abbrev pub BeginsNone : List ℕ → Type 0
BeginsNone bytes = (i : Instr) → IsInstr i → BeginsWith bytes i → ⊥

-- they and some bytes behind them, or none, begin with an instruction
abbrev pub GoesOn : List ℕ → Type 0
GoesOn bytes = (i : Instr) × IsInstr i × (more : List ℕ) × BeginsWith (bytes ++ more) i

abbrev pub Reads : List ℕ → Decoded → Type 0
Reads bytes (Done i n) = IsInstr i × BeginsWith bytes i × (n ≡ length (bytes_of i))
Reads bytes NeedMore = BeginsNone bytes × GoesOn bytes
Reads bytes Unknown = ¬ GoesOn bytes
