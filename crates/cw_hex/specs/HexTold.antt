-- What a HEX text tells, and its first fault.
use Rattle.std.specs.Prelude.{◌≡◌, ◌⊎◌, ℕ, ◌+◌, true, false, List, [], ◌∷◌, ◌++◌, length, Some, None, Result, Ok, Err, ⊤}
use Rattle.std.specs.List.{list_any}
use Rattle.cw_i86.specs.State.{State}
use Rattle.cw_i86.specs.MachineRun.{IsStart}
use Rattle.cw_hex.specs.declared.fault.HexFault.{HexFault}
use Rattle.cw_hex.specs.declared.fault.HexFault.TheVariants.{NoEnd, NoMemory}
use Rattle.cw_hex.specs.HexFormat.{lines_of, is_end, line_fault, after_lines}

-- a processor as programs begin in, with nothing in its memory
abbrev pub IsCleared : State → Type 0
IsCleared s = IsStart [] [] s

-- None of the lines has a fault. A fault of a line hangs on the lines before it.
abbrev pub AreFaultless : List (List ℕ) → Type 0
AreFaultless lines =
    (before : List (List ℕ)) (line : List ℕ) (behind : List (List ℕ)) → lines ≡ before ++ line ∷ behind
    → line_fault (list_any is_end before) (length before + 1) line ≡ None

-- The lines are empty or records, the last record ends the text, and from a cleared processor they lead to this one.
pub record TellsHex (text : List ℕ) (s : State) : Type 0 where
  pub start : State
  pub cleared : IsCleared start
  pub faultless : AreFaultless (lines_of text)
  pub ended : list_any is_end (lines_of text) ≡ true
  pub told : s ≡ (after_lines (lines_of text) (record { cpu = start; base = 0; is_ended = false })).cpu

-- a line has this fault, and those before it have none
pub record HasLineFault (lines : List (List ℕ)) (fault : HexFault) : Type 0 where
  pub before : List (List ℕ)
  pub line : List ℕ
  pub behind : List (List ℕ)
  pub cut : lines ≡ before ++ line ∷ behind
  pub faultless : AreFaultless before
  pub wrong : line_fault (list_any is_end before) (length before + 1) line ≡ Some fault

-- all lines are right, and none ends the text
pub record LacksEnd (lines : List (List ℕ)) (fault : HexFault) : Type 0 where
  pub faultless : AreFaultless lines
  pub not_ended : list_any is_end lines ≡ false
  pub is : fault ≡ NoEnd (length lines + 1)

abbrev pub IsFirstHexFault : List ℕ → HexFault → Type 0
IsFirstHexFault text fault = HasLineFault (lines_of text) fault ⊎ LacksEnd (lines_of text) fault

-- what the loader answers, unless memory is wanted
abbrev pub AnswersHex : List ℕ → Result State HexFault → Type 0
AnswersHex text (Ok s) = TellsHex text s
AnswersHex text (Err NoMemory) = ⊤
AnswersHex text (Err fault) = IsFirstHexFault text fault
