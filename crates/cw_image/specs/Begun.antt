-- The statements that a run of an image begins, where it is told at which places of the code statements begin.
use Rattle.std.specs.Prelude.{◌≡◌, ◌⊎◌, ℕ, zero, suc, ◌+◌, ◌*◌, ◌==◌, ℤ, List, [], ◌∷◌, ◌++◌, map, if◌then◌else◌}
use Rattle.cw_word.specs.Word.{signed}
use Rattle.cw_i86.specs.State.{State, word_at, data_segment}
use Rattle.cw_i86.specs.MachineRun.{Event, End, Runs, FitsInput, IsOver}

-- a place in the code of an image at which a statement begins, with the number of its segment, from 1, and its line
pub record StatementPlace : Type 0 where
  pub place : ℕ
  pub segment : ℕ
  pub line : ℕ

-- the statements at a place, by segment and line
abbrev pub lines_at : List StatementPlace → (place : ℕ) → List (ℕ × ℕ)
lines_at [] n = []
lines_at (x ∷ xs) n = if x.place == n then (x.segment, x.line) ∷ lines_at xs n else lines_at xs n

-- so many words of the data segment, the first of which has this number
abbrev pub data_words : (first count : ℕ) → State → List ℤ
data_words k zero s = []
data_words k (suc n) s = signed (word_at s.memory data_segment (2 * k)) ∷ data_words (k + 1) n s

-- the statements that begin at CS:IP: segment, line, and the words of the data area
abbrev pub beginning : List StatementPlace → (area : ℕ) → State → List (ℕ × ℕ × List ℤ)
beginning places area s = map (λ x. (x.0, x.1, data_words 0 area s)) (lines_at places s.instruction_pointer)

-- In the first n instructions of a run from a state over this input these statements begin, in order: before each of them those at
-- CS:IP. Behind the last instruction of a run none begin.
abbrev pub Begins : List StatementPlace → (area : ℕ) → State → (input : List ℕ) → (n : ℕ) → List (ℕ × ℕ × List ℤ) → Type 0
Begins places area s input zero begun = begun ≡ []
Begins places area s input (suc n) begun =
    (before : List (ℕ × ℕ × List ℤ)) × (events : List Event) × Begins places area s input n before × FitsInput input events
    × (((t : State) × Runs n s events t × (begun ≡ before ++ beginning places area t))
    ⊎ ((end : End) × IsOver s n events end × (begun ≡ before)))
