-- How the run of units was traced, as the functions of this crate tell each other. What it promises, cw_correct says, and nothing here.
use Rattle.std.specs.Prelude.{◌≡◌, ◌⊎◌, ℕ, List}
use Rattle.cw_io.specs.Bytes.{after_told}
use Rattle.cw_i86.specs.State.{State}
use Rattle.cw_i86.specs.MachineRun as run
use Rattle.cw_image.specs.declared.image.Image.{Image}
use Rattle.cw_trace.specs.declared.watch.Watch.{Watch}
use Rattle.cw_watch.specs.declared.fault.WatchFault.{WatchFault}
use Rattle.cw_watch.specs.declared.fault.WatchFault.TheVariants as faults
use Rattle.cw_watched.specs.Watched.{WatchedTells, said_at}
use Rattle.cw_watched.specs.declared.running.WatchedEnd.{WatchedEnd}
use Rattle.cw_watched.specs.declared.running.WatchedEnd.TheVariants as watched
use Rattle.cw_say.specs.declared.status.Status.{Status}
use Rattle.cw_say.specs.declared.status.Status.TheVariants.{NoMemory, Outside, NoPlace, NoItem}
use Rattle.cw_say.specs.declared.status.Which.TheVariants.{Say}
use Rattle.cw_actions.specs.Going.Runs.{Streams, status_of, ListsPart}

-- the status of a run of so many steps that ended so
abbrev pub watched_status : (steps : ℕ) → WatchedEnd → Status
watched_status steps (watched.Image end) = status_of steps end
watched_status steps watched.SayFault = Outside Say

-- that of a stop that means nothing
abbrev pub fault_status : WatchFault → Status
fault_status faults.NoPlace = NoPlace
fault_status (faults.NoItem index) = NoItem index
fault_status faults.NoMemory = NoMemory

-- The listing was written, and then the image started and ran, watched.
pub record ListsAndWatches (text : List ℕ) (image : Image) (watch : Watch) (steps : ℕ) (a b : Streams) (status : Status) : Type 0 where
  pub start : State
  pub is_start : run.IsStart image.code image.words start
  pub end : WatchedEnd
  pub is : status ≡ watched_status steps end
  pub tells : WatchedTells watch end start steps a.outside b.outside (said_at (after_told a.say text) a.say_faults) (said_at b.say b.say_faults)

-- that, or memory was wanted before, or `say` failed
abbrev pub WatchesRun : (text : List ℕ) → Image → Watch → (steps : ℕ) → (a b : Streams) → Status → Type 0
WatchesRun text image watch steps a b status =
    ((status ≡ NoMemory) × (b ≡ a)) ⊎ ((status ≡ Outside Say) × ListsPart text a b) ⊎ ListsAndWatches text image watch steps a b status
