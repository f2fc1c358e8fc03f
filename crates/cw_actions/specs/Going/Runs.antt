-- How a listing was written and an image run, as the functions of this crate tell each other.
use Rattle.std.specs.Prelude.{◌≡◌, ◌⊎◌, ℕ, ◌<◌, ◌≤◌, List, length, take, Option}
use Rattle.cw_io.specs.Bytes.{after_told}
use Rattle.cw_io.specs.Count.{Rose}
use Rattle.cw_i86.specs.State.{State}
use Rattle.cw_i86.specs.MachineRun as run
use Rattle.cw_ports.specs.Running.{Outside, outside, RunTells}
use Rattle.cw_ports.specs.declared.running.ImageEnd.{ImageEnd}
use Rattle.cw_ports.specs.declared.running.ImageEnd.TheVariants as ends
use Rattle.cw_image.specs.declared.image.Image.{Image}
use Rattle.cw_say.specs.declared.status.Status.{Status}
use Rattle.cw_say.specs.declared.status.Status.TheVariants.{Ended, Stopped, Unfinished, NoMemory, TooLong, BadCode, Divided}
use Rattle.cw_say.specs.declared.status.Status.TheVariants as statuses
use Rattle.cw_say.specs.declared.status.Which.TheVariants.{Input, Out, Say}
use Rattle.cw_say.specs.declared.status.Long.TheVariants as long

-- what an image uses, and `say`, at some time
pub record Streams : Type 0 where
  pub outside : Outside
  pub say : Option (List ℕ)
  pub say_faults : ℕ

abbrev pub streams_at : (left : Option (List ℕ)) → (input_faults : ℕ) → (out : Option (List ℕ)) → (out_faults : ℕ)
    → (say : Option (List ℕ)) → (say_faults : ℕ) → Streams
streams_at left input_faults out out_faults say say_faults = record { outside = outside left input_faults out out_faults; say = say; say_faults = say_faults }

-- the status of a run of so many steps that ends so
abbrev pub status_of : (steps : ℕ) → ImageEnd → Status
status_of steps ends.Ended = Ended
status_of steps (ends.Stopped kind segment line) = Stopped kind segment line
status_of steps ends.Unfinished = Unfinished steps
status_of steps (ends.BadCode offset) = BadCode offset
status_of steps (ends.Divided offset) = Divided offset
status_of steps ends.InputFault = statuses.Outside Input
status_of steps ends.OutFault = statuses.Outside Out
status_of steps ends.TooLong = TooLong long.Input

-- the text was written to `say`
pub record Lists (text : List ℕ) (a b : Streams) : Type 0 where
  pub said : b.say ≡ after_told a.say text
  pub same : b.say_faults ≡ a.say_faults

-- or it was cut short
pub record ListsPart (text : List ℕ) (a b : Streams) : Type 0 where
  pub count : ℕ
  pub proper : count < length text
  pub said : b.say ≡ after_told a.say (take count text)
  pub later : a.say_faults ≤ b.say_faults
  pub rose : Rose a.say_faults b.say_faults
  pub outside : b.outside ≡ a.outside

-- it was written, and the image started and ran
pub record ListsAndRuns (text : List ℕ) (image : Image) (steps : ℕ) (a b : Streams) (status : Status) : Type 0 where
  pub lists : Lists text a b
  pub start : State
  pub is_start : run.IsStart image.code image.words start
  pub end : ImageEnd
  pub is : status ≡ status_of steps end
  pub tells : RunTells end start steps a.outside b.outside

-- that, or memory was wanted before, or `say` failed
abbrev pub Runs : (text : List ℕ) → Image → (steps : ℕ) → (a b : Streams) → Status → Type 0
Runs text image steps a b status =
    ((status ≡ NoMemory) × (b ≡ a)) ⊎ ((status ≡ statuses.Outside Say) × ListsPart text a b) ⊎ ListsAndRuns text image steps a b status
