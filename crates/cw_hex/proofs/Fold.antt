-- What is told line by line, as the loader goes.
use Rattle.std.proofs.Common.{◌≡◌, ℕ, ◌+◌, Bool, List, [], ◌∷◌, Option, Some, None, Result, Ok, Err, cond}
use Rattle.std.specs.Prelude.{◌||◌, false}
use Rattle.cw_i86.specs.State.{State}
use Rattle.cw_hex.specs.declared.fault.HexFault.{HexFault}
use Rattle.cw_hex.specs.declared.fault.HexFault.TheVariants.{NoEnd}
use Rattle.cw_hex.specs.declared.reading.Reading.{Reading}
use Rattle.cw_hex.specs.HexFormat.{lines_of, is_end, line_fault, after_line}

abbrev pub at_end : ℕ → Reading → Result State HexFault
at_end number r = cond r.is_ended (Ok r.cpu) (Err (NoEnd number))

abbrev pub or_fault : Option HexFault → Result State HexFault → Result State HexFault
or_fault None told = told
or_fault (Some fault) told = Err fault

-- what lines tell, the first of them having this number
abbrev pub lines_told : ℕ → Reading → List (List ℕ) → Result State HexFault
lines_told number r [] = at_end number r
lines_told number r (line ∷ lines) = or_fault (line_fault r.is_ended number line) (lines_told (number + 1) (after_line line r) lines)

abbrev pub start_reading : State → Reading
start_reading s = record { cpu = s; base = 0; is_ended = false }

-- what a text tells from a state on
abbrev pub hex_told : State → List ℕ → Result State HexFault
hex_told s text = lines_told 1 (start_reading s) (lines_of text)

-- whether the end has come, before lines or with one of them
abbrev pub ended_after : Bool → List (List ℕ) → Bool
ended_after e [] = e
ended_after e (line ∷ lines) = ended_after (e || is_end line) lines

-- No line has a fault. The first has this number, and it is told whether the end came before it.
abbrev pub Faultless : ℕ → Bool → List (List ℕ) → Type 0
Faultless n e [] = Unit {0}
Faultless n e (line ∷ lines) = (line_fault e n line ≡ None) × Faultless (n + 1) (e || is_end line) lines
