-- What the actions that run nothing use of the outside, at some time: the store, and the stream `out`.
use Rattle.std.specs.Prelude.{ℕ, List, Option}
use Rattle.cw_io.specs.File.{Told}
use Rattle.cw_files.specs.Reading.{Counts}

-- the store: its files, and its counts
pub record Files : Type 0 where
  pub told : List ℕ → Told
  pub counts : Counts

abbrev pub files_at : (told : List ℕ → Told) → (faults absences : ℕ) → Files
files_at told faults absences = record { told = told; counts = record { faults = faults; absences = absences } }

-- the stream `out`: what it holds, and its count
pub record Out : Type 0 where
  pub held : Option (List ℕ)
  pub faults : ℕ

abbrev pub out_at : (held : Option (List ℕ)) → (faults : ℕ) → Out
out_at held faults = record { held = held; faults = faults }
