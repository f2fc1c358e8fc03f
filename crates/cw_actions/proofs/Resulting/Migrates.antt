-- A call of `migrate` keeps its promise.
use Rattle.std.proofs.Common.{ℕ, ◌≤◌, List, [], ◌∷◌, ◌++◌, length, sym, ◌∙◌, subst, arith}
use Rattle.std.specs.Prelude.{codes, slice_index_or}
use Rattle.cw_io.specs.File.{AllStay}
use Rattle.cw_view.specs.ObjectFormat.{IsObject}
use Rattle.cw_obj.specs.Migration.{IsMigrated}
use Rattle.cw_files.specs.Texts.{HasObject, object_limit}
use Rattle.cw_files.specs.Reading.{HaveValues, AllTaken, StopsObjects, SameCounts}
use Rattle.cw_correct.specs.Calls.{Call, told_files, IsUntouched, IsUnwritten, first_name}
use Rattle.cw_correct.specs.Files.{counts_before, counts_after, AllAccepted}
use Rattle.cw_correct.specs.Results.{WritesFile, MigratesTo, MigratesRight}
use Rattle.cw_actions.specs.Resulting.Outside.{Files, files_at}
use Rattle.cw_actions.specs.Resulting.Idle.{AllowsIdle}
use Rattle.cw_actions.specs.Resulting.Written.{GivesFile}
use Rattle.cw_actions.specs.Resulting.Results.{MigratesObject}
use Rattle.cw_say.specs.declared.status.Status.{Status}
use Rattle.cw_say.specs.declared.status.Status.TheVariants.{Ended, NoMemory}
use Rattle.cw_actions.proofs.Resulting.Cases.{gives_file, migrates_object}
use Rattle.cw_actions.proofs.Resulting.Keeping.{Closed, writes_file}
use Rattle.cw_actions.proofs.Resulting.Objects.{objects as object_files}
use Rattle.cw_actions.proofs.Resulting.Rights.{migrates_right}
use Rattle.cw_actions.proofs.Resulting.Filing as filing
use Rattle.cw_actions.proofs.Resulting.Filing.{Reads, StopsReading, keeps_file, read_stopped, read_all, accepted, wanted}

-- the first of those that were taken is an object
pub first_is_object : (texts objects : List (List ℕ)) → HaveValues HasObject texts objects → 1 ≤ length objects → IsObject (slice_index_or objects 0 [])
first_is_object texts [] values some = absurd (omega (arith, some))
first_is_object [] (object ∷ objects) values some = absurd values
first_is_object (text ∷ texts) (object ∷ objects) values some = subst IsObject (sym values.0.1) values.0.0

-- no status but Ended promises more of the result
migrates_nothing : (objects : List (List ℕ)) (result : List ℕ) → MigratesTo objects result NoMemory
migrates_nothing [] result = tt
migrates_nothing (object ∷ objects) result = tt

pub idle : AllowsIdle MigratesRight
idle c x = migrates_right c x.untouched x.unwritten [] [] [] NoMemory (filing.idle object_files c x) tt x.stays

-- nor one at which the reading stopped
stops_migrate : (c : Call) (texts objects : List (List ℕ)) (s : Status) → StopsObjects (told_files c) texts (length objects) (counts_before c) (counts_after c) s → MigratesTo objects [] s
stops_migrate c texts [] s x = tt
stops_migrate c texts (object ∷ objects) Ended x = absurd x
stops_migrate c texts (object ∷ objects) _ x = tt

module _ (c : Call) (untouched : IsUntouched c.before c.after) (unwritten : IsUnwritten c.before c.after) where
  abbrev new_name : List ℕ
  new_name = first_name c ++ codes ".SG2"

  abbrev right : (texts objects : List (List ℕ)) (result : List ℕ) (s : Status) → Reads object_files c texts objects s → MigratesTo objects result s → WritesFile c new_name result (AllAccepted c objects) s → MigratesRight c s
  right = migrates_right c untouched unwritten

  pub stopped : (s : Status) → Closed c s → AllStay c.before.files c.after.files → StopsReading object_files c s → MigratesRight c s
  stopped s closed stay x =
      right x.texts x.values [] s (read_stopped object_files c s closed x) (stops_migrate c x.texts x.values s x.stops) (keeps_file object_files c x.texts (length x.values) stay new_name [] (AllAccepted c x.values) s x.stops)

  module _ (objects : List (List ℕ)) (x : AllTaken object_limit HasObject (told_files c) objects) (between : Files) (stay : AllStay c.before.files between.told) (same : SameCounts (counts_before c) between.counts) where
    abbrev after : Files
    after = files_at c.after.files c.after.store_faults c.after.absences

    to_any : (xs : List (List ℕ)) (result : List ℕ) (s : Status) → IsMigrated (slice_index_or xs 0 []) result → GivesFile new_name result between after s → MigratesTo xs result s
    to_any [] result s is gives = tt
    to_any (object ∷ xs) result s is gives = gives_file (λ t. MigratesTo (object ∷ xs) result t) new_name result between after (λ y. is) (λ y. tt) (λ y. tt) s gives

    pub written : (s : Status) → Closed c s → MigratesObject (first_name c) (slice_index_or objects 0 []) between after s → MigratesRight c s
    written s closed migrates =
        migrates_object (λ t. Closed c t → MigratesRight c t) (first_name c) (slice_index_or objects 0 []) between after
        (λ y end. right x.texts objects [] NoMemory (wanted object_files c end objects x) (migrates_nothing objects []) (λ other. y other ∙ stay other))
        (λ t result is gives end.
        right x.texts objects result t (read_all object_files c t end objects x between same new_name result gives) (to_any objects result t is gives)
        (writes_file c untouched new_name result (AllAccepted c objects) t (accepted object_files c objects x) unwritten between stay same end gives))
        s migrates closed
