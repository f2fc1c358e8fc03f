-- Between two files of a call: what was taken so far, and what comes of the next file.
use Rattle.std.specs.Prelude.{◌≡◌, ℕ, List, [], ◌∷◌, ◌++◌, length, Result, Ok, Err}
use Rattle.cw_io.specs.File.{Told}
use Rattle.cw_unit.specs.declared.unit.Unit.{Unit as SourceUnit}
use Rattle.cw_say.specs.compile.Texts.{text_limit}
use Rattle.cw_build.specs.Building.{IsMadeOf}
use Rattle.cw_say.specs.declared.status.Status.{Status}
use Rattle.cw_files.specs.Texts.{HasUnit, HasObject, object_limit}
use Rattle.cw_files.specs.Reading.{HaveBytes, HaveValues, Counts, SameCounts, Stopped, StopsTexts, StopsObjects}
use Rattle.cw_files.specs.declared.segments.Segment.{Segment}

-- the first files were taken as these values
pub record Takes {X : Type 0} (limit : ℕ) (Accepts : List ℕ → X → Type 0) (files : List Told) (values : List X) : Type 0 where
  pub texts : List (List ℕ)
  pub have_bytes : HaveBytes limit files texts
  pub have_values : HaveValues Accepts texts values
  pub same_length : length texts ≡ length values

-- behind those that were compiled to these units the next is compiled too, or the call stops there
abbrev pub AnswersUnit : List Told → List SourceUnit → (before after : Counts) → Result Segment Status → Type 0
AnswersUnit files us before after (Ok segment) = Takes text_limit HasUnit files (us ++ segment.unit ∷ [])
    × IsMadeOf segment.unit segment.made × SameCounts before after
AnswersUnit files us before after (Err status) = Stopped text_limit HasUnit (λ texts taken. StopsTexts files texts taken before after status) files

-- the same behind these objects
abbrev pub AnswersObject : List Told → (objects : List (List ℕ)) → (before after : Counts) → Result (List ℕ) Status → Type 0
AnswersObject files objects before after (Ok object) = Takes object_limit HasObject files (objects ++ object ∷ []) × SameCounts before after
AnswersObject files objects before after (Err status) = Stopped object_limit HasObject (λ texts taken. StopsObjects files texts taken before after status) files
