-- Laws of what is promised of a call of `trace`.
use Rattle.std.specs.Prelude.{◌≡◌, ◌≢◌, ◌⊎◌, ◌≤◌, ◌<◌, ℕ, List, [], length, map, All, Option, Some, Ok, Err, nat_eq}
use Rattle.std.specs.List.{IsDistinct}
use Rattle.cw_io.specs.File.{AllStay}
use Rattle.cw_ports.specs.Running.{IsInput}
use Rattle.cw_unit.specs.declared.unit.Unit.{Unit as SourceUnit}
use Rattle.cw_unit.specs.declared.layout.Limits.{Limits}
use Rattle.cw_place.specs.Placement.{IsLimits}
use Rattle.cw_build.specs.Linking.{Links, image_of, map_text}
use Rattle.cw_stop.specs.declared.stopping.Stop.{Stop}
use Rattle.cw_trace.specs.declared.watch.Watch.{Watch}
use Rattle.cw_watch.specs.declared.fault.WatchFault.{WatchFault}
use Rattle.cw_traced.specs.Places.Reported.{MeansInUnits}
use Rattle.cw_words.specs.declared.action.Action.{Action}
use Rattle.cw_correct.specs.Calls.{Surroundings, Call, call_as, told_files, NoFault}
use Rattle.cw_correct.specs.Closing.{Closes}
use Rattle.cw_correct.specs.Going.{names_of}
use Rattle.cw_correct.specs.Tracing.{named_by, TracesRight}
use Rattle.cw_say.specs.declared.status.Status.{Status}
use Rattle.cw_say.specs.declared.status.Status.TheVariants.{NoMemory, TooLong}
use Rattle.cw_say.specs.declared.status.Long.TheVariants as long
use Rattle.cw_actions.specs.Going.Goes.{streams_of, StopsReading, StopsLinking, Takes}
use Rattle.cw_actions.specs.Tracing.Tracing.{fault_status, WatchesRun}

-- it traces texts, over the input that the source tells or over some bytes
abbrev pub IsTraced : Stop → Call → Status → Type 0
IsTraced stop c status = (input : List ℕ) × IsInput c.before.left input × TracesRight stop c input status

-- A call keeps its promise, once it is closed, whose reading or linking stopped;
abbrev pub KeepsStopped : Type 0
KeepsStopped =
    (stop : Stop) (action : Action) (limits : Limits) (steps : ℕ) (names : List (List ℕ))
    (before between after : Surroundings) (status : Status) → IsLimits limits → 1 ≤ length names
    → length names ≤ 200
    → AllStay before.files between.files
    → StopsReading (call_as action limits steps names before between) status
    ⊎ ((us : List SourceUnit) × Takes (call_as action limits steps names before between) us
    × StopsLinking (call_as action limits steps names before between) us status)
    → Closes between after names [] status → IsTraced stop (call_as action limits steps names before after) status

-- whose stop means nothing, or where memory was wanted to find what it means;
abbrev pub KeepsFault : Type 0
KeepsFault =
    (stop : Stop) (action : Action) (limits : Limits) (steps : ℕ) (names : List (List ℕ))
    (before between after : Surroundings) (us : List SourceUnit) (fault : WatchFault) → IsLimits limits
    → 1 ≤ length names → length names ≤ 200
    → AllStay before.files between.files → Takes (call_as action limits steps names before between) us
    → Links us limits → MeansInUnits us limits stop (Err fault) → streams_of between ≡ streams_of before
    → Closes between after (named_by stop names (fault_status fault)) [] (fault_status fault)
    → IsTraced stop (call_as action limits steps names before after) (fault_status fault)

-- and whose image was to run, watched.
abbrev pub KeepsRun : Type 0
KeepsRun =
    (stop : Stop) (watch : Watch) (action : Action) (limits : Limits) (steps : ℕ) (names : List (List ℕ))
    (before between after : Surroundings) (us : List SourceUnit) (status : Status) → IsLimits limits
    → 1 ≤ length names → length names ≤ 200
    → AllStay before.files between.files → Takes (call_as action limits steps names before between) us
    → Links us limits → MeansInUnits us limits stop (Ok watch) → IsDistinct nat_eq watch.places
    → All (λ word. word.address < limits.area) watch.words
    → WatchesRun (map_text us limits) (image_of us limits) watch steps (streams_of before) (streams_of between)
    status → Closes between after names (names_of us) status
    → IsTraced stop (call_as action limits steps names before after) status

-- So does a call that did nothing but for its closing line, for want of memory.
abbrev pub IsRightIdle : Type 0
IsRightIdle =
    (stop : Stop) (action : Action) (limits : Limits) (steps : ℕ) (names : List (List ℕ))
    (before after : Surroundings) → Closes before after names [] NoMemory
    → IsTraced stop (call_as action limits steps names before after) NoMemory

-- Two statuses never come of one call, where the store tells its files, no count rose, and memory was found; and
-- where one is TooLong(Input), the source its input.
abbrev pub HasOneStatus : Type 0
HasOneStatus =
    (stop : Stop) (c : Call) (input : List ℕ) (a b : Status) (found : List (Option (List ℕ)))
    → told_files c ≡ map Some found → NoFault c.before c.after → a ≢ NoMemory → b ≢ NoMemory
    → ((a ≡ TooLong long.Input) ⊎ (b ≡ TooLong long.Input) → (told : List ℕ) × (c.before.left ≡ Some told))
    → TracesRight stop c input a → TracesRight stop c input b → a ≡ b
