-- Source texts that are kept beside what they are compiled to.
use Rattle.std.specs.Prelude.{◌≡◌, List, length, Result, Ok, Err}
use Rattle.cw_io.specs.File.{Told}
use Rattle.cw_compile.specs.Texts.{text_limit}
use Rattle.cw_files.specs.Texts.{HasUnit}
use Rattle.cw_files.specs.Reading.{HaveBytes, HaveValues, Counts, SameCounts, Stopped, StopsTexts, AreSegmentsOf}
use Rattle.cw_say.specs.declared.status.Status.{Status}
use Rattle.cw_actions.specs.declared.code.reading.Sources.{Sources}

-- the first files have these texts, and what these were compiled to
pub record Keeps (files : List Told) (sources : Sources) : Type 0 where
  pub have_texts : HaveBytes text_limit files sources.texts
  pub have_units : HaveValues HasUnit sources.texts sources.segments.units
  pub same_length : length sources.texts ≡ length sources.segments.units
  pub segments : AreSegmentsOf sources.segments.units sources.segments

-- the texts of all files, or why the reading stopped
abbrev pub AnswersSources : List Told → (before after : Counts) → Result Sources Status → Type 0
AnswersSources files before after (Ok sources) = Keeps files sources × (length sources.segments.units ≡ length files) × SameCounts before after
AnswersSources files before after (Err status) = Stopped text_limit HasUnit (λ texts taken. StopsTexts files texts taken before after status) files
