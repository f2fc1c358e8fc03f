-- Laws of what is promised of a call that runs texts.
use Rattle.std.specs.Prelude.{◌≡◌, ◌≢◌, ◌⊎◌, ◌≤◌, ℕ, List, [], length, map, Option, Some}
use Rattle.cw_io.specs.File.{AllStay}
use Rattle.cw_i86.specs.State.{State}
use Rattle.cw_i86.specs.MachineRun as run
use Rattle.cw_ports.specs.Running.{IsInput, RunShows, reached, shown_of}
use Rattle.cw_ports.specs.declared.running.ImageEnd.{ImageEnd}
use Rattle.cw_unit.specs.declared.unit.Unit.{Unit as SourceUnit}
use Rattle.cw_unit.specs.declared.layout.Limits.{Limits}
use Rattle.cw_place.specs.Placement.{IsLimits}
use Rattle.cw_build.specs.Linking.{Links, image_of}
use Rattle.cw_words.specs.declared.action.Action.{Action}
use Rattle.cw_correct.specs.Calls.{Surroundings, Call, call_as, told_files, NoFault}
use Rattle.cw_correct.specs.Closing.{Closes}
use Rattle.cw_correct.specs.Going.{Telling, names_of, RunsTexts}
use Rattle.cw_say.specs.declared.status.Status.{Status}
use Rattle.cw_say.specs.declared.status.Status.TheVariants.{Outside, NoMemory, TooLong}
use Rattle.cw_say.specs.declared.status.Which.TheVariants.{Say}
use Rattle.cw_say.specs.declared.status.Long.TheVariants as long
use Rattle.cw_actions.specs.Going.Runs.{status_of, Lists, ListsPart}
use Rattle.cw_actions.specs.Going.Goes.{streams_of, Takes, Goes}

-- it runs texts, over the input that the source tells or over some bytes
abbrev pub IsRight : Telling → Call → Status → Type 0
IsRight telling c status = (input : List ℕ) × IsInput c.before.left input × RunsTexts telling c input status

-- A call that goes so up to its closing line, and is closed so, keeps its promise.
abbrev pub KeepsPromise : Type 0
KeepsPromise =
    (telling : Telling) (action : Action) (limits : Limits) (steps : ℕ) (names segments : List (List ℕ))
    (before between after : Surroundings) (status : Status) → IsLimits limits → 1 ≤ length names
    → length names ≤ 200
    → AllStay before.files between.files → Goes telling (call_as action limits steps names before between) segments
    status → Closes between after names segments status
    → IsRight telling (call_as action limits steps names before after) status

-- So does a call that did nothing but for its closing line, for want of memory.
abbrev pub IsRightIdle : Type 0
IsRightIdle =
    (telling : Telling) (action : Action) (limits : Limits) (steps : ℕ) (names : List (List ℕ))
    (before after : Surroundings) → Closes before after names [] NoMemory
    → IsRight telling (call_as action limits steps names before after) NoMemory

-- It runs texts, of which these are the units, and tells of so many instructions and of what shows of them.
pub record RunsAs (telling : Telling) (c : Call) (input : List ℕ) (status : Status) (us : List SourceUnit) (n : ℕ) (shown : run.Observed) : Type 0 where
  pub runs : RunsTexts telling c input status
  pub units : runs.units ≡ us
  pub instructions : runs.instructions ≡ n
  pub shown_is : runs.shown ≡ shown

-- what was said of the units was written, and their image started and ran
abbrev pub KeepsRun : Type 0
KeepsRun =
    (telling : Telling) (action : Action) (limits : Limits) (steps : ℕ) (names : List (List ℕ))
    (before between after : Surroundings) (us : List SourceUnit) (input : List ℕ) (s : State) (end : ImageEnd)
    → IsLimits limits → 1 ≤ length names → length names ≤ 200
    → AllStay before.files between.files → Takes (call_as action limits steps names before between) us
    → Links us limits → Lists (telling us) (streams_of before) (streams_of between)
    → run.IsStart (image_of us limits).code (image_of us limits).words s
    → (shows : RunShows end s input steps (streams_of before).outside (streams_of between).outside)
    → Closes between after names (names_of us) (status_of steps end)
    → RunsAs telling (call_as action limits steps names before after) input (status_of steps end) us
    (reached end s input steps (streams_of before).outside (streams_of between).outside shows)
    (shown_of end s input steps (streams_of before).outside (streams_of between).outside shows)

-- or it could not be written
abbrev pub KeepsListing : Type 0
KeepsListing =
    (telling : Telling) (action : Action) (limits : Limits) (steps : ℕ) (names : List (List ℕ))
    (before between after : Surroundings) (us : List SourceUnit) (input : List ℕ) → IsLimits limits
    → 1 ≤ length names → length names ≤ 200
    → AllStay before.files between.files → Takes (call_as action limits steps names before between) us
    → Links us limits → ListsPart (telling us) (streams_of before) (streams_of between)
    → Closes between after names (names_of us) (Outside Say)
    → (shown : run.Observed) × RunsAs telling (call_as action limits steps names before after) input (Outside Say) us 0 shown

-- Two statuses never come of one call, where the store tells its files, no count rose, and memory was found; and
-- where one is TooLong(Input), the source its input.
abbrev pub HasOneStatus : Type 0
HasOneStatus =
    (telling : Telling) (c : Call) (input : List ℕ) (a b : Status) (found : List (Option (List ℕ)))
    → told_files c ≡ map Some found → NoFault c.before c.after → a ≢ NoMemory → b ≢ NoMemory
    → ((a ≡ TooLong long.Input) ⊎ (b ≡ TooLong long.Input) → (told : List ℕ) × (c.before.left ≡ Some told))
    → RunsTexts telling c input a → RunsTexts telling c input b → a ≡ b
