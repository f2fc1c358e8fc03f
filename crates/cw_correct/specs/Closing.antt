-- How a call is closed: what stands before and after its closing line is written.
use Rattle.std.specs.Prelude.{◌≡◌, ℕ, List}
use Rattle.cw_write.specs.Said.{Says}
use Rattle.cw_say.specs.Closing.{closing_line}
use Rattle.cw_correct.specs.Calls.{Surroundings}
use Rattle.cw_say.specs.declared.status.Status.{Status}
use Rattle.cw_say.specs.declared.status.Status.TheVariants.{Ended}

-- Only `say` changes from between to after.
pub record Closes (between after : Surroundings) (names segments : List (List ℕ)) (status : Status) : Type 0 where
  pub says : Says between.say after.say between.say_faults after.say_faults (closing_line names segments status)
  pub ended : status ≡ Ended → after.say_faults ≡ between.say_faults
  pub files : after.files ≡ between.files
  pub store_faults : after.store_faults ≡ between.store_faults
  pub absences : after.absences ≡ between.absences
  pub left : after.left ≡ between.left
  pub input_faults : after.input_faults ≡ between.input_faults
  pub out : after.out ≡ between.out
  pub out_faults : after.out_faults ≡ between.out_faults
