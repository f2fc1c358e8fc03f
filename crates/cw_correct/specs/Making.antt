-- What `big` promises: the texts of the large program are made, and run as `go` runs those of files; a line of its own stands in place of the storage map.
use Rattle.std.specs.Prelude.{◌≡◌, ℕ, List, ◌++◌, decimal, codes, Some}
use Rattle.cw_io.specs.File.{AllStay}
use Rattle.cw_unit.specs.Allocation.{storage_map}
use Rattle.cw_big.specs.LargeProgram.{large_program}
use Rattle.cw_correct.specs.Calls.{Surroundings, Call}
use Rattle.cw_correct.specs.Going.{Telling, RunsTexts}
use Rattle.cw_say.specs.declared.status.Status.{Status}
use Rattle.cw_say.specs.declared.status.Status.TheVariants.{Usage, Refused, NoFile, Outside, BadFile, TooLong, NoPlace, NoItem}
use Rattle.cw_say.specs.declared.status.Which.TheVariants.{Store}
use Rattle.cw_say.specs.declared.status.Long.TheVariants.{File}

-- how many texts there are, and how many words the families of their items take up to the last end
abbrev pub line_with : (copies end : ℕ) → List ℕ
line_with copies end = codes "big " ++ decimal copies ++ codes " words " ++ decimal end ++ codes "\n"

abbrev pub program_line : (copies : ℕ) → Telling
program_line copies us = line_with copies (storage_map us).end

-- in place of the store, one that never fails and tells of each name a file that holds just that name
abbrev pub in_memory : Surroundings → Surroundings
in_memory s = record s { files = λ text. Some (Some text); store_faults = 0; absences = 0 }

-- the call as one that runs the texts of the large program, each in a file that is called as it reads
abbrev pub over_program : (copies : ℕ) → Call → Call
over_program copies c = record c { names = large_program copies; before = in_memory c.before; after = in_memory c.after }

-- The status is none that tells of a file or of a stop word: each text is made, and none is refused.
abbrev pub NoneOfFiles : Status → Type 0
NoneOfFiles Usage = ⊥
NoneOfFiles (Refused number fault) = ⊥
NoneOfFiles (NoFile number) = ⊥
NoneOfFiles (BadFile number fault) = ⊥
NoneOfFiles (Outside Store) = ⊥
NoneOfFiles (TooLong (File number)) = ⊥
NoneOfFiles NoPlace = ⊥
NoneOfFiles (NoItem index) = ⊥
NoneOfFiles status = Unit {0}

pub record MakesRight (copies : ℕ) (c : Call) (input : List ℕ) (status : Status) : Type 0 where
  pub runs : RunsTexts (program_line copies) (over_program copies c) input status
  pub none_of_files : NoneOfFiles status
  pub store_faults : c.after.store_faults ≡ c.before.store_faults
  pub absences : c.after.absences ≡ c.before.absences
  pub stays : AllStay c.before.files c.after.files
