-- What the functions of the call answer, in the words of the call.
use Rattle.std.proofs.Common.{◌≡◌, ◌⊎◌, ℕ, ◌<◌, ◌≤◌, List, [], length, Option, Some, Result, Ok, Err, Bor, sym, subst, inl, inr, arith}
use Rattle.std.specs.Prelude.{All, nat_eq, map, drop, slice_index_or}
use Rattle.std.specs.List.{IsDistinct}
use Rattle.std.proofs.lemmas.List.{length-map}
use Rattle.cw_io.specs.Bytes.{after_told}
use Rattle.cw_io.specs.File.{AllStay}
use Rattle.cw_i86.specs.State.{State}
use Rattle.cw_unit.specs.declared.unit.Unit.{Unit as SourceUnit}
use Rattle.cw_unit.specs.declared.layout.Limits.{Limits}
use Rattle.cw_unit.specs.declared.layout.Map.{Map}
use Rattle.cw_unit.specs.Allocation.{storage_map}
use Rattle.cw_image.specs.declared.image.Image.{Image}
use Rattle.cw_place.specs.Placement.{IsLimits}
use Rattle.cw_build.specs.Compiled.{object_of}
use Rattle.cw_build.specs.Linking.{Links, image_of, map_text}
use Rattle.cw_stop.specs.declared.stopping.Stop.{Stop}
use Rattle.cw_stop.specs.Stopping.{stop_in}
use Rattle.cw_trace.specs.declared.watch.Watch.{Watch}
use Rattle.cw_watch.specs.Watching.{AnswersWatch}
use Rattle.cw_watch.specs.declared.fault.WatchFault.{WatchFault}
use Rattle.cw_watch.specs.declared.fault.WatchFault.TheVariants as watch_faults
use Rattle.cw_watched.specs.Watched.{WatchedTells, said_at}
use Rattle.cw_watched.specs.declared.running.WatchedEnd.{WatchedEnd}
use Rattle.cw_traced.specs.Places.Reported.{MeansInUnits}
use Rattle.cw_write.specs.Said.{Says}
use Rattle.cw_say.specs.Closing.{closing_line}
use Rattle.cw_say.specs.declared.status.Status.{Status}
use Rattle.cw_say.specs.declared.status.Status.TheVariants.{Ended, NoItem}
use Rattle.cw_words.specs.declared.action.Action.TheVariants.{Trace}
use Rattle.cw_correct.specs.Calls.{Surroundings, Call, call_as}
use Rattle.cw_correct.specs.Going.{names_of}
use Rattle.cw_correct.specs.Tracing.{named_by, TracesRight}
use Rattle.cw_correct.specs.Correct.{IsCorrectCall}
use Rattle.cw_actions.specs.Going.Runs.{Streams}
use Rattle.cw_actions.specs.Going.Loads.{Loads}
use Rattle.cw_actions.specs.Going.Goes.{streams_of, StopsReading, StopsLinking, Takes}
use Rattle.cw_actions.proofs.Going.Called.{before_line, named, closes_by}
use Rattle.cw_actions.specs.Tracing.Tracing.{watched_status, fault_status, WatchesRun}
use Rattle.cw_actions.specs.Tracing.Laws.{IsTraced, KeepsStopped, KeepsFault, KeepsRun}

-- ---- what is meant and run

pub watches_as : (text other : List ℕ) (image meant : Image) (watch : Watch) (steps : ℕ) (a b : Streams) (status : Status) → text ≡ other → image ≡ meant → WatchesRun text image watch steps a b status → WatchesRun other meant watch steps a b status
watches_as text other image meant watch steps a b status e f runs =
    let P : List ℕ → Type 0 = λ t. WatchesRun t image watch steps a b status in
    let Q : Image → Type 0 = λ i. WatchesRun other i watch steps a b status in
    subst Q f (subst P e runs)

module _ (image : Image) (said : List ℕ) (watch : Watch) (steps : ℕ) (a b : Streams) (status : Status) where
  pub not_loaded : Loads said image a b (Err status) → WatchesRun said image watch steps a b status
  not_loaded (inl x) = inl x
  not_loaded (inr x) = inr (inl x)

  -- an image that was loaded was run
  pub watched : (between : Streams) (start : State) (end : WatchedEnd) → Loads said image a between (Ok start) → status ≡ watched_status steps end
      → WatchedTells watch end start steps a.outside b.outside (said_at between.say between.say_faults) (said_at b.say b.say_faults) → WatchesRun said image watch steps a b status
  watched between start end loads is tells =
      let P : Option (List ℕ) → ℕ → Type 0 = λ say faults. WatchedTells watch end start steps a.outside b.outside (said_at say faults) (said_at b.say b.say_faults) in
      inr (inr (record { start = start; is_start = loads.0; end = end; is = is; tells = subst (λ faults. P (after_told a.say said) faults) loads.1.same (subst (λ say. P say between.say_faults) loads.1.said tells) }))

-- the answer of objects and a map is that of the units whose objects and map these are
pub means_as : (us : List SourceUnit) (limits : Limits) (stop : Stop) (objects : List (List ℕ)) (m : Map) (answer : Result Watch WatchFault) → objects ≡ map object_of us → m ≡ storage_map us → AnswersWatch objects m limits stop answer
    → MeansInUnits us limits stop answer
means_as us limits stop objects m answer same is answers =
    let P : List (List ℕ) → Type 0 = λ os. AnswersWatch os m limits stop answer in
    subst (λ homes. AnswersWatch (map object_of us) homes limits stop answer) is (subst P same answers)

pub means_fault : (us : List SourceUnit) (limits : Limits) (stop : Stop) (objects : List (List ℕ)) (m : Map) (answer fault : WatchFault) → objects ≡ map object_of us → m ≡ storage_map us → answer ≡ fault → AnswersWatch objects m limits stop (Err answer)
    → MeansInUnits us limits stop (Err fault)
means_fault us limits stop objects m answer fault same is e answers = subst (λ f. MeansInUnits us limits stop (Err f)) e (means_as us limits stop objects m (Err answer) same is answers)

-- ---- the call, once it is closed

module _ (stop : Stop) (limits : Limits) (steps : ℕ) (names : List (Bor (List ℕ))) (before after : Surroundings) (said : Option (List ℕ)) (faults : ℕ) (within : IsLimits limits) (some : 1 ≤ length names) (few : length names ≤ 200) (stays : AllStay before.files after.files) where
  abbrev between : Surroundings
  between = before_line after said faults

  -- up to the closing line
  abbrev call : Call
  call = call_as Trace limits steps (named names) before between

  abbrev IsTracedSo : Status → Type 0
  IsTracedSo status = IsTraced stop (call_as Trace limits steps (named names) before after) status

  some_names : 1 ≤ length (named names)
  some_names = omega (arith, length-map names (λ (name : Bor (List ℕ)). name.now), some)

  few_names : length (named names) ≤ 200
  few_names = omega (arith, length-map names (λ (name : Bor (List ℕ)). name.now), few)

  pub closed_stopped : KeepsStopped → (status result : Status) → result ≡ status
      → Says said after.say faults after.say_faults (closing_line (named names) [] status) → (status ≡ Ended → after.say_faults ≡ faults)
      → StopsReading call status ⊎ ((us : List SourceUnit) × Takes call us × StopsLinking call us status) → IsTracedSo result
  closed_stopped keeps status result same says ended stops =
      subst IsTracedSo (sym same)
      (keeps stop Trace limits steps (named names) before between after status within some_names few_names stays stops (closes_by between after.say after.say_faults (named names) [] status says ended))

  pub closed_fault : KeepsFault → (us : List SourceUnit) (fault : WatchFault) (result : Status) → result ≡ fault_status fault → Takes call us → Links us limits → MeansInUnits us limits stop (Err fault)
      → streams_of between ≡ streams_of before → Says said after.say faults after.say_faults (closing_line (named_by stop (named names) (fault_status fault)) [] (fault_status fault)) → (fault_status fault ≡ Ended → after.say_faults ≡ faults)
      → IsTracedSo result
  closed_fault keeps us fault result same takes links means untouched says ended =
      subst IsTracedSo (sym same)
      (keeps stop Trace limits steps (named names) before between after us fault within some_names few_names stays takes links means untouched
      (closes_by between after.say after.say_faults (named_by stop (named names) (fault_status fault)) [] (fault_status fault) says ended))

  pub closed_item : KeepsFault → (us : List SourceUnit) (index number : ℕ) (result : Status) → index ≡ number → result ≡ NoItem number → Takes call us → Links us limits
      → MeansInUnits us limits stop (Err (watch_faults.NoItem index)) → streams_of between ≡ streams_of before → Says said after.say faults after.say_faults (closing_line (named_by stop (named names) (NoItem number)) [] (NoItem number))
      → IsTracedSo result
  closed_item keeps us index number result is same takes links means untouched says =
      closed_fault keeps us (watch_faults.NoItem number) result same takes links (subst (λ n. MeansInUnits us limits stop (Err (watch_faults.NoItem n))) is means) untouched says (λ e. absurd (cc))

  pub closed_run : KeepsRun → (us : List SourceUnit) (watch : Watch) (segments : List (List ℕ)) (status result : Status) → result ≡ status → segments ≡ names_of us → Takes call us → Links us limits
      → MeansInUnits us limits stop (Ok watch) → IsDistinct nat_eq watch.places → All (λ word. word.address < limits.area) watch.words → WatchesRun (map_text us limits) (image_of us limits) watch steps (streams_of before) (streams_of between) status
      → Says said after.say faults after.say_faults (closing_line (named names) segments status) → (status ≡ Ended → after.say_faults ≡ faults)
      → IsTracedSo result
  closed_run keeps us watch segments status result same are takes links means once inside runs says ended =
      let P : List (List ℕ) → Type 0 = λ all. Says said after.say faults after.say_faults (closing_line (named names) all status) in
      subst IsTracedSo (sym same)
      (keeps stop watch Trace limits steps (named names) before between after us status within some_names few_names stays takes links means once inside runs
      (closes_by between after.say after.say_faults (named names) (names_of us) status (subst P are says) ended))

-- of the stop word and the names behind it
pub asked : (names texts : List (List ℕ)) (limits : Limits) (steps : ℕ) (stop : Stop) (before after : Surroundings) (status : Status) → stop_in (slice_index_or names 0 []) ≡ Some stop → texts ≡ drop 1 names
    → IsTraced stop (call_as Trace limits steps texts before after) status → IsCorrectCall (call_as Trace limits steps names before after) status
asked names texts limits steps stop before after status told behind (input, is_input, right) =
    (input, is_input, (stop, told, subst (λ others. TracesRight stop (call_as Trace limits steps others before after) input status) behind right))
