-- A call of `exec`, by what its parts answer.
use Rattle.std.proofs.Common.{◌≡◌, ℕ, List, [], ◌∷◌, Ok, Err, refl}
use Rattle.cw_io.specs.File.{AllStay}
use Rattle.cw_unit.specs.declared.layout.Limits.{Limits}
use Rattle.cw_files.specs.declared.images.Runnable.{Runnable}
use Rattle.cw_files.specs.Reading.{counts_at, AnswersRunnable}
use Rattle.cw_write.specs.Said.{Says}
use Rattle.cw_say.specs.Closing.{closing_line}
use Rattle.cw_words.specs.declared.action.Action.TheVariants.{Exec}
use Rattle.cw_correct.specs.Calls.{Surroundings, call_as}
use Rattle.cw_correct.specs.Closing.{Closes}
use Rattle.cw_correct.specs.Correct.{IsCorrectCall}
use Rattle.cw_say.specs.declared.status.Status.{Status}
use Rattle.cw_say.specs.declared.status.Status.TheVariants.{Ended}
use Rattle.cw_actions.specs.Executing.Runs.{image_side, Runs}
use Rattle.cw_actions.proofs.Going.Called.{before_line, closes_by}
use Rattle.cw_actions.proofs.Executing.Right.{run_right, unread_right}

module _ (limits : Limits) (steps : ℕ) (names : List (List ℕ)) (before after : Surroundings) (name : List ℕ) (status : Status) (stays : AllStay before.files after.files) (one : names ≡ name ∷ []) where
  -- up to the closing line nothing was said
  abbrev between : Surroundings
  between = before_line after before.say before.say_faults

  closes : (segments : List (List ℕ)) → Says before.say after.say before.say_faults after.say_faults (closing_line names segments status) → (status ≡ Ended → after.say_faults ≡ before.say_faults) → Closes between after names segments status
  closes segments says ended = closes_by between after.say after.say_faults names segments status says ended

  -- where the file was read, and what it tells ran
  pub ran : (runnable : Runnable) → AnswersRunnable (before.files name) (counts_at before.store_faults before.absences) (counts_at after.store_faults after.absences) (Ok runnable) → Runs runnable.cpu steps (image_side before) (image_side after) status
      → Says before.say after.say before.say_faults after.say_faults (closing_line names runnable.names status) → (status ≡ Ended → after.say_faults ≡ before.say_faults) → IsCorrectCall (call_as Exec limits steps names before after) status
  ran runnable taken runs says ended =
      run_right (call_as Exec limits steps names before after) between name runnable stays one taken.1 (refl, refl) refl refl taken.0 status runs (closes runnable.names says ended)

  -- where it was not read
  pub unread : image_side after ≡ image_side before → AnswersRunnable (before.files name) (counts_at before.store_faults before.absences) (counts_at after.store_faults after.absences) (Err status)
      → Says before.say after.say before.say_faults after.say_faults (closing_line names [] status) → (status ≡ Ended → after.say_faults ≡ before.say_faults) → IsCorrectCall (call_as Exec limits steps names before after) status
  unread side taken says ended =
      unread_right (call_as Exec limits steps names before after) between name status stays one (record { side = side; said = refl; say_faults = refl }) taken (closes [] says ended)
