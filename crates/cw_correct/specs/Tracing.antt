-- What `trace` promises: the image of the texts runs as for `go`, and between the storage map and the closing line stands a report for each statement that the
-- source begins at the segment and the line of the stop word.
use Rattle.std.specs.Prelude.{◌≡◌, ◌⊎◌, ℕ, ◌+◌, ◌<◌, ◌≤◌, false, List, [], ◌∷◌, ◌++◌, length, map, take, Ok, Err, codes, decimal}
use Rattle.cw_io.specs.Bytes.{after_told}
use Rattle.cw_io.specs.Count.{Rose}
use Rattle.cw_io.specs.File.{AllStay}
use Rattle.cw_i86.specs.MachineRun as run
use Rattle.cw_cpu86.specs.Ports.{AreBytes}
use Rattle.cw_ports.specs.Running.{TakenWithin}
use Rattle.cw_unit.specs.declared.unit.Unit.{Unit as SourceUnit}
use Rattle.cw_unit.specs.declared.layout.Limits.{Limits}
use Rattle.cw_unit.specs.Allocation.{storage_map}
use Rattle.cw_unit.specs.ValidStorage.{ValidStorageMap}
use Rattle.cw_unit.specs.Program.{program_of}
use Rattle.cw_unit.specs.Configuration.{FramesApart, activations_of}
use Rattle.cw_unit.specs.Behaviour.{configuration_after}
use Rattle.cw_say.specs.compile.Texts.{text_limit}
use Rattle.cw_build.specs.Linking.{Links, image_of, map_text}
use Rattle.cw_stop.specs.declared.stopping.Stop.{Stop}
use Rattle.cw_trace.specs.declared.watch.Watch.{Watch}
use Rattle.cw_watch.specs.declared.fault.WatchFault.{WatchFault}
use Rattle.cw_watch.specs.declared.fault.WatchFault.TheVariants as faults
use Rattle.cw_traced.specs.Places.Reported.{MeansInUnits, ReportsUnits}
use Rattle.cw_link_files.specs.files.Texts.{HasUnit}
use Rattle.cw_link_files.specs.files.Reading.{HaveBytes, HaveValues}
use Rattle.cw_correct.specs.Calls.{Call, told_files, IsUntouched, IsUnwritten}
use Rattle.cw_correct.specs.Files.{AllAccepted}
use Rattle.cw_correct.specs.Saying.{SaysFirst, SaysLast}
use Rattle.cw_correct.specs.Running.{begins_as, Leaves}
use Rattle.cw_correct.specs.Going.{names_of, RunsTexts}
use Rattle.cw_say.specs.declared.status.Status.{Status}
use Rattle.cw_say.specs.declared.status.Status.TheVariants.{Ended, Stopped, Unfinished, Outside, TooLong, BadCode, Divided, NoPlace, NoItem}
use Rattle.cw_say.specs.declared.status.Which.TheVariants.{Input, Out, Say}
use Rattle.cw_say.specs.declared.status.Long.TheVariants as long

-- ---- a stop that means nothing

-- the segment and the line that a stop names
abbrev pub stop_text : Stop → List ℕ
stop_text stop = stop.segment ++ (codes " " ++ decimal stop.line)

-- the names that a closing line is told of: those of the files, what the stop names, or what it watches
abbrev pub named_by : Stop → (files : List (List ℕ)) → Status → List (List ℕ)
named_by stop files NoPlace = stop_text stop ∷ []
named_by stop files (NoItem index) = map (λ watched. watched.text) stop.watched
named_by stop files status = files

-- The texts compile and link, and what the stop means in their units is this fault. Nothing else is done.
pub record FindsNone (fault : WatchFault) (stop : Stop) (c : Call) (status : Status) : Type 0 where
  pub texts : List (List ℕ)
  pub units : List SourceUnit
  pub have_texts : HaveBytes text_limit (told_files c) texts
  pub have_units : HaveValues HasUnit texts units
  pub all : AllAccepted c units
  pub links : Links units c.limits
  pub means : MeansInUnits units c.limits stop (Err fault)
  pub says : SaysLast c.before c.after (named_by stop c.names status) [] status
  pub untouched : IsUntouched c.before c.after
  pub unwritten : IsUnwritten c.before c.after
  pub stays : AllStay c.before.files c.after.files

-- ---- reports

-- the stop means a watch
abbrev pub Watches : List SourceUnit → Limits → Stop → Type 0
Watches us limits stop = (watch : Watch) × MeansInUnits us limits stop (Ok watch)

-- the text is what is reported in so many instructions, which show so much
abbrev pub ReportsAt : Stop → Limits → (input : List ℕ) → List SourceUnit → (n : ℕ) → (shown : run.Observed) → (text : List ℕ) → Type 0
ReportsAt stop limits input us n shown text = AreBytes input → ReportsUnits us limits stop input n shown text

-- or in one more, which tried to use a port
abbrev pub ReportsNext : Stop → Limits → (input : List ℕ) → List SourceUnit → (n : ℕ) → (text : List ℕ) → Type 0
ReportsNext stop limits input us n text = AreBytes input → (shown : run.Observed) × ReportsUnits us limits stop input (n + 1) shown text

-- What is reported of a run behind whose n instructions this shows. Where it was cut short at an instruction that
-- asks for input, that one was reported of too; where
-- `out` failed, maybe. Nothing is reported where the image did not run.
abbrev pub ReportsRun : Stop → Limits → (input : List ℕ) → List SourceUnit → (n : ℕ) → (shown : run.Observed) → (text : List ℕ) → Status → Type 0
ReportsRun stop limits input us n shown text Ended = Watches us limits stop × ReportsAt stop limits input us n shown text
ReportsRun stop limits input us n shown text (Stopped kind segment line) = Watches us limits stop × ReportsAt stop limits input us n shown text
ReportsRun stop limits input us n shown text (Unfinished ran) = Watches us limits stop × ReportsAt stop limits input us n shown text
ReportsRun stop limits input us n shown text (BadCode offset) = Watches us limits stop × ReportsAt stop limits input us n shown text
ReportsRun stop limits input us n shown text (Divided offset) = Watches us limits stop × ReportsAt stop limits input us n shown text
ReportsRun stop limits input us n shown text (Outside Input) = Watches us limits stop × ReportsNext stop limits input us n text
ReportsRun stop limits input us n shown text (TooLong long.Input) = Watches us limits stop × ReportsNext stop limits input us n text
ReportsRun stop limits input us n shown text (Outside Out) = Watches us limits stop
    × (ReportsAt stop limits input us n shown text ⊎ ReportsNext stop limits input us n text)
ReportsRun stop limits input us n shown text (Outside Say) = Watches us limits stop × (text ≡ [])
ReportsRun stop limits input us n shown text status = text ≡ []

-- ---- the promise

-- as `go`, with the reports behind the storage map
pub record Traces (stop : Stop) (c : Call) (input : List ℕ) (status : Status) : Type 0 where
  pub reports : List ℕ
  pub runs : RunsTexts (λ us. map_text us c.limits ++ reports) c input status
  pub right : ReportsRun stop c.limits input runs.units runs.instructions runs.shown reports status

-- A report could not be written whole. The run was cut short behind so many instructions, before the one of which it
-- tells: `say` got the storage map, all that is
-- reported in these, and a proper first part of what is reported with one more; `out` got all that they write, unless it failed too.
pub record FailsToReport (stop : Stop) (c : Call) (input : List ℕ) : Type 0 where
  pub texts : List (List ℕ)
  pub units : List SourceUnit
  pub have_texts : HaveBytes text_limit (told_files c) texts
  pub have_units : HaveValues HasUnit texts units
  pub all : AllAccepted c units
  pub links : Links units c.limits
  pub instructions : ℕ
  pub within : instructions < c.steps
  pub shown : run.Observed
  pub leaves : Leaves c input (begins_as (image_of units c.limits)) instructions shown false
  pub running : shown.end ≡ run.Running
  pub count : ℕ
  pub output : c.after.out ≡ after_told c.before.out (take count shown.output)
  pub whole : (Rose c.before.out_faults c.after.out_faults → ⊥) → count ≡ length shown.output
  pub no_input_fault : c.after.input_faults ≡ c.before.input_faults
  pub within_limit : TakenWithin c.before.left c.after.left
  pub reports : List ℕ
  pub next : List ℕ
  pub watches : Watches units c.limits stop
  pub in_front : ReportsAt stop c.limits input units instructions shown reports
  pub behind : ReportsNext stop c.limits input units instructions (reports ++ next)
  pub says : SaysFirst c.before c.after (map_text units c.limits ++ (reports ++ next)) c.names (names_of units) (Outside Say)
  pub reaches : length (map_text units c.limits ++ reports) ≤ says.is_first.0
  pub valid_storage : ValidStorageMap units c.limits (storage_map units)
  pub frames_apart : (m : ℕ) → FramesApart (program_of units c.limits) (activations_of (configuration_after (program_of units c.limits) input m))
  pub stays : AllStay c.before.files c.after.files

abbrev pub TracesRight : Stop → Call → (input : List ℕ) → Status → Type 0
TracesRight stop c input NoPlace = FindsNone faults.NoPlace stop c NoPlace
TracesRight stop c input (NoItem index) = FindsNone (faults.NoItem index) stop c (NoItem index)
TracesRight stop c input (Outside Say) = Traces stop c input (Outside Say) ⊎ FailsToReport stop c input
TracesRight stop c input status = Traces stop c input status
