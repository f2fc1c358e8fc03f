-- How a call that runs texts goes up to its closing line: files are read, their units linked, and their image run.
-- What it promises, cw_correct says, and nothing here.
use Rattle.std.specs.Prelude.{◌≡◌, ◌⊎◌, ℕ, List, Result, Ok, Err}
use Rattle.cw_unit.specs.declared.unit.Unit.{Unit as SourceUnit}
use Rattle.cw_unit.specs.declared.layout.Limits.{Limits}
use Rattle.cw_compile.specs.Texts.{text_limit}
use Rattle.cw_link.specs.declared.linking.Linked.{Linked}
use Rattle.cw_build.specs.Linking.{Links, IsLinkFault, image_of}
use Rattle.cw_build.specs.Building.{IsLinkedOf}
use Rattle.cw_files.specs.Texts.{HasUnit}
use Rattle.cw_files.specs.Reading.{AllTaken, Stopped, StopsTexts, SameCounts}
use Rattle.cw_correct.specs.Calls.{Surroundings, Call, told_files}
use Rattle.cw_correct.specs.Files.{counts_before, counts_after}
use Rattle.cw_correct.specs.Going.{Telling, names_of}
use Rattle.cw_say.specs.declared.status.Status.{Status}
use Rattle.cw_say.specs.declared.status.Status.TheVariants.{Unlinked, NoMemory}
use Rattle.cw_actions.specs.Going.Runs.{Streams, streams_at, Runs}

abbrev pub streams_of : Surroundings → Streams
streams_of s = streams_at s.left s.input_faults s.out s.out_faults s.say s.say_faults

-- ---- linking

-- when a status comes of units that have no image
abbrev pub IsUnlinked : List SourceUnit → Limits → Status → Type 0
IsUnlinked us limits NoMemory = Unit {0}
IsUnlinked us limits (Unlinked fault) = IsLinkFault us limits fault
IsUnlinked us limits status = ⊥

abbrev pub AnswersLinked : List SourceUnit → Limits → Result Linked Status → Type 0
AnswersLinked us limits (Ok linked) = IsLinkedOf us limits linked
AnswersLinked us limits (Err status) = IsUnlinked us limits status

-- ---- up to the closing line, where the surroundings stand as after the call

-- a file was not read, or refused
pub record StopsReading (c : Call) (status : Status) : Type 0 where
  pub stopped : Stopped text_limit HasUnit (λ texts taken. StopsTexts (told_files c) texts taken (counts_before c) (counts_after c) status) (told_files c)
  pub same : streams_of c.after ≡ streams_of c.before

-- the units of the files were not linked
pub record StopsLinking (c : Call) (us : List SourceUnit) (status : Status) : Type 0 where
  pub unlinked : IsUnlinked us c.limits status
  pub same : streams_of c.after ≡ streams_of c.before

-- what is said of them was written and their image run; and these are their names
pub record RunsUnits (telling : Telling) (c : Call) (us : List SourceUnit) (segments : List (List ℕ)) (status : Status) : Type 0 where
  pub links : Links us c.limits
  pub named : segments ≡ names_of us
  pub runs : Runs (telling us) (image_of us c.limits) c.steps (streams_of c.before) (streams_of c.after) status

-- each file has a unit
pub record Takes (c : Call) (us : List SourceUnit) : Type 0 where
  pub all : AllTaken text_limit HasUnit (told_files c) us
  pub counts : SameCounts (counts_before c) (counts_after c)

abbrev pub Goes : Telling → Call → (segments : List (List ℕ)) → Status → Type 0
Goes telling c segments status = StopsReading c status
    ⊎ ((us : List SourceUnit) × Takes c us × (StopsLinking c us status ⊎ RunsUnits telling c us segments status))
