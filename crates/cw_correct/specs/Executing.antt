-- What `exec` promises: what its file tells runs, an image or a HEX text.
use Rattle.std.specs.Prelude.{◌≡◌, ◌≢◌, ℕ, ◌+◌, ◌≤◌, List, [], ◌∷◌, length}
use Rattle.cw_io.specs.Count.{Rose}
use Rattle.cw_io.specs.File.{AllStay}
use Rattle.cw_i86.specs.MachineRun as run
use Rattle.cw_ports.specs.Pieces.{input_limit}
use Rattle.cw_ports.specs.Running.{Taken, TakenWithin}
use Rattle.cw_link_files.specs.files.declared.images.Runnable.{Runnable}
use Rattle.cw_link_files.specs.files.Texts.{HasRunnable, object_limit}
use Rattle.cw_link_files.specs.files.Reading.{HaveBytes, HaveValues, AllTaken, StopsRunnables}
use Rattle.cw_correct.specs.Calls.{Call, told_files, NoFault}
use Rattle.cw_correct.specs.Files.{counts_before, counts_after, AllAccepted}
use Rattle.cw_correct.specs.Saying.{SaysLast}
use Rattle.cw_correct.specs.Running.{Begins, RunsImage, ReadsInput}
use Rattle.cw_correct.specs.Meaning.{TellBytes}
use Rattle.cw_say.specs.declared.status.Status.{Status}
use Rattle.cw_say.specs.declared.status.Status.TheVariants.{Ended, Usage, Refused, Unlinked, Stopped, Unfinished, NoFile, Outside, NoMemory}
use Rattle.cw_say.specs.declared.status.Status.TheVariants.{BadFile, TooLong, BadCode, Divided, TooMany, NoPlace, NoItem}
use Rattle.cw_say.specs.declared.status.Which.TheVariants.{Store, Input, Out, Say}
use Rattle.cw_say.specs.declared.status.Long.TheVariants.{File}
use Rattle.cw_say.specs.declared.status.Long.TheVariants as long

-- what the run begins with, where the one file was accepted
abbrev pub begins_first : List Runnable → Begins
begins_first [] start = ⊥
begins_first (runnable ∷ runnables) start = start ≡ runnable.cpu

abbrev pub first_names : List Runnable → List (List ℕ)
first_names [] = []
first_names (runnable ∷ runnables) = runnable.names

-- For the bytes of the file, and what they tell: of a file that is not accepted, and of a run
abbrev pub ExecComes : Call → (texts : List (List ℕ)) → List Runnable → Status → Type 0
ExecComes c texts runnables Usage = ⊥
ExecComes c texts runnables (Refused number fault) = ⊥
ExecComes c texts runnables (Unlinked fault) = ⊥
ExecComes c texts runnables (TooMany count) = ⊥
ExecComes c texts runnables NoPlace = ⊥
ExecComes c texts runnables (NoItem index) = ⊥
ExecComes c texts runnables (Outside Say) = ⊥
ExecComes c texts runnables NoMemory = Unit {0}
ExecComes c texts runnables (BadFile number fault) = StopsRunnables (told_files c) texts (length runnables)
    (counts_before c) (counts_after c) (BadFile number fault)
ExecComes c texts runnables (NoFile number) = StopsRunnables (told_files c) texts (length runnables) (counts_before c) (counts_after c) (NoFile number)
ExecComes c texts runnables (TooLong (File number)) = StopsRunnables (told_files c) texts (length runnables)
    (counts_before c) (counts_after c) (TooLong (File number))
ExecComes c texts runnables (Outside Store) = StopsRunnables (told_files c) texts (length runnables) (counts_before c) (counts_after c) (Outside Store)
ExecComes c texts runnables (Outside Input) = AllAccepted c runnables × Rose c.before.input_faults c.after.input_faults
ExecComes c texts runnables (Outside Out) = AllAccepted c runnables × Rose c.before.out_faults c.after.out_faults
ExecComes c texts runnables (TooLong long.Input) = AllAccepted c runnables × Taken c.before.left c.after.left (input_limit + 1)
ExecComes c texts runnables status = AllAccepted c runnables

-- how a run ends, or that memory was wanted
abbrev pub IsRunEnd : Status → Type 0
IsRunEnd Ended = Unit {0}
IsRunEnd (Stopped kind segment line) = Unit {0}
IsRunEnd (Unfinished steps) = Unit {0}
IsRunEnd (BadCode offset) = Unit {0}
IsRunEnd (Divided offset) = Unit {0}
IsRunEnd NoMemory = Unit {0}
IsRunEnd status = ⊥

-- an image or HEX text that the store tells runs, where nothing outside fails, the input is no longer than it may be, and memory is found
abbrev pub CompletesExec : Call → (input : List ℕ) → Status → Type 0
CompletesExec c input status =
    (texts : List (List ℕ)) (runnables : List Runnable) → TellBytes (told_files c) texts
    → AllTaken object_limit HasRunnable (told_files c) runnables → NoFault c.before c.after
    → length input ≤ input_limit → IsRunEnd status

pub record ExecutesRight (c : Call) (input : List ℕ) (status : Status) : Type 0 where
  pub texts : List (List ℕ)
  pub runnables : List Runnable
  pub instructions : ℕ
  pub shown : run.Observed
  pub have_bytes : HaveBytes object_limit (told_files c) texts
  pub have_runnables : HaveValues HasRunnable texts runnables
  pub comes : ExecComes c texts runnables status
  pub says : SaysLast c.before c.after c.names (first_names runnables) status
  pub runs_image : RunsImage c input (begins_first runnables) instructions shown status
  pub read_ahead : ReadsInput c input (begins_first runnables) instructions shown status
  pub within_limit : status ≢ TooLong long.Input → TakenWithin c.before.left c.after.left
  pub completes : CompletesExec c input status
  pub stays : AllStay c.before.files c.after.files
