-- What is told of a run that is watched, by the statements that it begins.
use Rattle.std.specs.Prelude.{◌≡◌, ℕ, ◌<◌, ◌==◌, ◌&&◌, ℤ, pos, List, [], All, flat_map, map, slice_index_or, nat_eq, if◌then◌else◌}
use Rattle.std.specs.List.{filter, IsDistinct}
use Rattle.cw_i86.specs.State.{State}
use Rattle.cw_i86.specs.MachineRun.{Event, FitsInput}
use Rattle.cw_image.specs.Begun.{StatementPlace, Begins}
use Rattle.cw_trace.specs.Reports.{line_text, Reports}
use Rattle.cw_trace.specs.declared.watch.Watch.{Watch}

-- the places at which a statement of this segment and line begins
abbrev pub places_of : (segment line : ℕ) → List StatementPlace → List ℕ
places_of segment line places = map (λ x. x.place) (filter (λ x. x.segment == segment && x.line == line) places)

-- The watch has the places of its line in the segment of this number, each once, and its words stand in the data area.
pub record Watches (watch : Watch) (segment : ℕ) (places : List StatementPlace) (area : ℕ) : Type 0 where
  pub places_are : watch.places ≡ places_of segment watch.line places
  pub once : IsDistinct nat_eq watch.places
  pub within : All (λ word. word.address < area) watch.words

-- what words hold
abbrev pub held_in : List ℤ → ℕ → ℤ
held_in words address = slice_index_or words address (pos 0)

-- the line that tells of a statement which began, where it is of the watched line in the segment of this number
abbrev pub told_of : Watch → (segment : ℕ) → ℕ × ℕ × List ℤ → List ℕ
told_of watch segment begun = if begun.0 == segment && begun.1 == watch.line then line_text watch (held_in begun.2) else []

-- What is told of a run is a line for each statement that it begins at the watched line, in order, which names the words as they are then.
abbrev pub TellsOfBegun : Type 0
TellsOfBegun = (watch : Watch) (segment : ℕ) (places : List StatementPlace) (area : ℕ) (s : State) (input : List ℕ)
    (n : ℕ) (events : List Event) (text : List ℕ) (begun : List (ℕ × ℕ × List ℤ))
    → Watches watch segment places area → s.code_segment ≡ 0x1000 → FitsInput input events → Reports watch s events n text → Begins places area s input n begun
    → text ≡ flat_map (told_of watch segment) begun
