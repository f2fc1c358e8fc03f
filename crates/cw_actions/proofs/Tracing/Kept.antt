-- A call of `trace` that goes so, and is closed so, keeps its promise.
use Rattle.std.proofs.Common.{◌≡◌, ◌≢◌, ◌⊎◌, ℕ, ◌+◌, ◌<◌, ◌≤◌, List, [], ◌++◌, length, take, Option, Ok, Err, refl, sym, ap, ◌∙◌, subst, inl, inr, arith, append-nil, append_assoc, length-append}
use Rattle.std.specs.Prelude.{All, nat_eq}
use Rattle.std.specs.List.{IsDistinct}
use Rattle.std.proofs.lemmas.List.{length-map}
use Rattle.std.proofs.Math.Seq.{take-append-add}
use Rattle.cw_io.specs.Bytes.{before_told, after_told}
use Rattle.cw_io.specs.Count.{Rose}
use Rattle.cw_io.specs.File.{Told, AllStay}
use Rattle.cw_i86.specs.State.{State}
use Rattle.cw_i86.specs.MachineRun.{Event, Observed, IsStart, FitsInput, Shows}
use Rattle.cw_ports.specs.Running as ports
use Rattle.cw_ports.specs.declared.running.ImageEnd.{ImageEnd}
use Rattle.cw_ports.specs.declared.running.ImageEnd.TheVariants as ends
use Rattle.cw_unit.specs.declared.unit.Unit.{Unit as SourceUnit}
use Rattle.cw_unit.specs.declared.layout.Limits.{Limits}
use Rattle.cw_unit.specs.Program.{program_of}
use Rattle.cw_place.specs.Placement.{IsLimits}
use Rattle.cw_build.specs.Compiled.{IsCompilable}
use Rattle.cw_build.specs.Linking.{Links, image_of, map_text}
use Rattle.cw_files.specs.Reading.{Counts, StopsTexts}
use Rattle.cw_stop.specs.declared.stopping.Stop.{Stop}
use Rattle.cw_trace.specs.Reports.{Reports}
use Rattle.cw_trace.specs.declared.watch.Watch.{Watch}
use Rattle.cw_watch.specs.declared.fault.WatchFault.{WatchFault}
use Rattle.cw_watch.specs.declared.fault.WatchFault.TheVariants as faults
use Rattle.cw_watched.specs.Watched.{TellsOf, ToldRun, CutShort, WatchedShows, said_at}
use Rattle.cw_watched.specs.declared.running.WatchedEnd.{WatchedEnd}
use Rattle.cw_watched.specs.declared.running.WatchedEnd.TheVariants as watched
use Rattle.cw_traced.specs.Places.Reported.{MeansInUnits, ReportsUnits}
use Rattle.cw_write.specs.Said.{Says}
use Rattle.cw_write.proofs.Said.{after_told-append}
use Rattle.cw_say.specs.Closing.{closing_line}
use Rattle.cw_say.specs.declared.status.Status.{Status}
use Rattle.cw_say.specs.declared.status.Status.TheVariants.{Refused, Unlinked, NoFile, NoMemory, TooLong, NoPlace, NoItem}
use Rattle.cw_say.specs.declared.status.Status.TheVariants as statuses
use Rattle.cw_say.specs.declared.status.Which.TheVariants.{Store, Input, Out, Say}
use Rattle.cw_say.specs.declared.status.Long.TheVariants.{File}
use Rattle.cw_say.specs.declared.status.Long.TheVariants as long
use Rattle.cw_words.specs.declared.action.Action.{Action}
use Rattle.cw_correct.specs.Calls.{Surroundings, Call, call_as, told_files}
use Rattle.cw_correct.specs.Closing.{Closes}
use Rattle.cw_correct.specs.Saying.{IsFirstPart}
use Rattle.cw_correct.specs.Going.{Telling, names_of, RunsTexts}
use Rattle.cw_correct.specs.Tracing.{named_by, FindsNone, Watches, ReportsAt, ReportsNext, ReportsRun, FailsToReport, TracesRight}
use Rattle.cw_actions.specs.Going.Runs.{Streams, status_of, Lists, ListsPart}
use Rattle.cw_actions.specs.Going.Goes.{streams_of, IsUnlinked, StopsReading, StopsLinking, Takes}
use Rattle.cw_actions.specs.Going.Laws as going
use Rattle.cw_actions.specs.Going.Laws.{IsRight, RunsAs}
use Rattle.cw_actions.specs.Resulting.Texts.{AreCompilable}
use Rattle.cw_actions.proofs.Going.Given.{OnStorage}
use Rattle.cw_actions.proofs.Going.Called.{closes_wanted}
use Rattle.cw_actions.proofs.Executing.Running.{after_nothing, some_input}
use Rattle.cw_actions.specs.Tracing.Tracing.{watched_status, fault_status, WatchesRun}
use Rattle.cw_actions.specs.Tracing.Laws.{IsTraced}

-- on texts that run
pub record OnTexts : Type 0 where
  pub keeps : going.KeepsPromise
  pub run : going.KeepsRun
  pub listing : going.KeepsListing
  pub idle : going.IsRightIdle

-- on reports
pub record OnReports : Type 0 where
  pub shown : (us : List SourceUnit) (limits : Limits) (stop : Stop) (watch : Watch) (input : List ℕ) (s : State) (k : ℕ) (o : Observed) (events : List Event) (text : List ℕ)
      → us ≢ [] → length us ≤ 200 → All IsCompilable us → IsLimits limits → Links us limits → All (λ b. b < 256) input → IsStart (image_of us limits).code (image_of us limits).words s
      → MeansInUnits us limits stop (Ok watch) → IsDistinct nat_eq watch.places → All (λ word. word.address < limits.area) watch.words
      → Shows s input k o → FitsInput input events → Reports watch s events k text → ReportsUnits us limits stop input k o text
  pub some : (us : List SourceUnit) (limits : Limits) (stop : Stop) (watch : Watch) (input : List ℕ) (s : State) (k : ℕ) (events : List Event) (text : List ℕ)
      → us ≢ [] → length us ≤ 200 → All IsCompilable us → IsLimits limits → Links us limits → All (λ b. b < 256) input → IsStart (image_of us limits).code (image_of us limits).words s
      → MeansInUnits us limits stop (Ok watch) → IsDistinct nat_eq watch.places → All (λ word. word.address < limits.area) watch.words
      → FitsInput input events → Reports watch s events k text → (o : Observed) × Shows s input k o × ReportsUnits us limits stop input k o text

-- the laws that the promise of `trace` stands on
pub record Given : Type 0 where
  pub texts : OnTexts
  pub compiled : AreCompilable
  pub storages : OnStorage
  pub reports : OnReports

-- ---- statuses before anything is written

abbrev IsEarly : Status → Type 0
IsEarly (Refused number fault) = Unit {0}
IsEarly (Unlinked fault) = Unit {0}
IsEarly (NoFile number) = Unit {0}
IsEarly (statuses.Outside Store) = Unit {0}
IsEarly (TooLong (File number)) = Unit {0}
IsEarly NoMemory = Unit {0}
IsEarly status = ⊥

early_read : (files : List Told) (texts : List (List ℕ)) (taken : ℕ) (before after : Counts) (status : Status) → StopsTexts files texts taken before after status → IsEarly status
early_read files texts taken before after (Refused number fault) x = tt
early_read files texts taken before after (NoFile number) x = tt
early_read files texts taken before after (statuses.Outside Store) x = tt
early_read files texts taken before after (TooLong (File number)) x = tt
early_read files texts taken before after NoMemory x = tt
early_read files texts taken before after _ x = absurd x

early_linked : (us : List SourceUnit) (limits : Limits) (status : Status) → IsUnlinked us limits status → IsEarly status
early_linked us limits NoMemory x = tt
early_linked us limits (Unlinked fault) x = tt
early_linked us limits _ x = absurd x

-- ---- a call that is closed

module _ (given : Given) (stop : Stop) (action : Action) (limits : Limits) (steps : ℕ) (names : List (List ℕ)) (before between after : Surroundings) where
  abbrev c : Call
  c = call_as action limits steps names before after

  abbrev d : Call
  d = call_as action limits steps names before between

  abbrev a : Streams
  a = streams_of before

  abbrev b : Streams
  b = streams_of between

  -- nothing is reported
  abbrev bare : Telling
  bare us = map_text us limits ++ []

  early : (input : List ℕ) (status : Status) → IsEarly status → RunsTexts bare c input status → TracesRight stop c input status
  early input (Refused number fault) x runs = record { reports = []; runs = runs; right = refl }
  early input (Unlinked fault) x runs = record { reports = []; runs = runs; right = refl }
  early input (NoFile number) x runs = record { reports = []; runs = runs; right = refl }
  early input (statuses.Outside Store) x runs = record { reports = []; runs = runs; right = refl }
  early input (TooLong (File number)) x runs = record { reports = []; runs = runs; right = refl }
  early input NoMemory x runs = record { reports = []; runs = runs; right = refl }
  early input _ x runs = absurd x

  traced : (status : Status) → IsEarly status → IsRight bare c status → IsTraced stop c status
  traced status x (input, is_input, runs) = (input, is_input, early input status x runs)

  pub idle : Closes before after names [] NoMemory → IsTraced stop c NoMemory
  idle closes = traced NoMemory tt (given.texts.idle bare action limits steps names before after closes)

  module _ (within : IsLimits limits) (some : 1 ≤ length names) (most : length names ≤ 200) (stays : AllStay before.files between.files) where
    pub stopped : (status : Status) → StopsReading d status ⊎ ((us : List SourceUnit) × Takes d us × StopsLinking d us status) → Closes between after names [] status → IsTraced stop c status
    stopped status (inl x) closes =
        traced status (early_read (told_files d) x.stopped.texts (length x.stopped.values) _ _ status x.stopped.stops)
        (given.texts.keeps bare action limits steps names [] before between after status within some most stays (inl x) closes)
    stopped status (inr (us, takes, x)) closes =
        traced status (early_linked us limits status x.unlinked)
        (given.texts.keeps bare action limits steps names [] before between after status within some most stays (inr (us, takes, inl x)) closes)

    module _ (us : List SourceUnit) (takes : Takes d us) (links : Links us limits) where
      all_of : length us ≡ length names
      all_of = takes.all.all ∙ length-map names before.files

      most_units : length us ≤ 200
      most_units = omega (arith, all_of, most)

      some_units : us ≢ []
      some_units e = absurd (omega (arith, ap length e, all_of, some))

      compiled : All IsCompilable us
      compiled = given.compiled takes.all.texts us takes.all.have_values

      stay : Closes between after names (names_of us) NoMemory → AllStay before.files after.files
      stay closes name = ap (λ f. f name) closes.files ∙ stays name

      no_memory : b ≡ a → Closes between after names (names_of us) NoMemory → IsTraced stop c NoMemory
      no_memory same closes =
          traced NoMemory tt
          (given.texts.keeps bare action limits steps names (names_of us) before between after NoMemory within some most stays
          (inr (us, takes, inr (record { links = links; named = refl; runs = inl (refl, same) }))) closes)

      -- ---- where the stop means nothing

      says_last : (all : List (List ℕ)) (status : Status) → b ≡ a → Says between.say after.say between.say_faults after.say_faults (closing_line all [] status)
          → Says (after_told before.say []) after.say between.say_faults after.say_faults (closing_line all [] status)
      says_last all status same says =
          let P : Option (List ℕ) → Type 0 = λ told. Says told after.say between.say_faults after.say_faults (closing_line all [] status) in
          let held : between.say ≡ before.say = ap (λ x. x.say) same in
          subst P (held ∙ sym (after_nothing before.say)) says

      finds_none : (fault : WatchFault) (status : Status) → IsFirstPart [] before.say_faults between.say_faults status [] → MeansInUnits us limits stop (Err fault) → b ≡ a → Closes between after (named_by stop names status) [] status
          → FindsNone fault stop c status
      finds_none fault status is_first means same closes = record {
        texts = takes.all.texts;
        units = us;
        have_texts = takes.all.have_bytes;
        have_units = takes.all.have_values;
        all = all_of;
        links = links;
        means = means;
        says = record {
          first = [];
          middle = between.say_faults;
          is_first = is_first;
          later = omega (arith, ap (λ x. x.say_faults) same);
          closing = says_last (named_by stop names status) status same closes.says;
        };
        untouched = record { input = closes.left ∙ ap (λ x. x.outside.left) same; faults = closes.input_faults ∙ ap (λ x. x.outside.input_faults) same };
        unwritten = record { out = closes.out ∙ ap (λ x. x.outside.held) same; faults = closes.out_faults ∙ ap (λ x. x.outside.out_faults) same };
        stays = λ name. ap (λ f. f name) closes.files ∙ stays name;
      }

      pub means_nothing : (fault : WatchFault) → MeansInUnits us limits stop (Err fault) → b ≡ a → Closes between after (named_by stop names (fault_status fault)) [] (fault_status fault) → IsTraced stop c (fault_status fault)
      means_nothing faults.NoPlace means same closes =
          let (input, is_input) = some_input before.left in
          (input, is_input, finds_none faults.NoPlace NoPlace refl means same closes)
      means_nothing (faults.NoItem index) means same closes =
          let (input, is_input) = some_input before.left in
          (input, is_input, finds_none (faults.NoItem index) (NoItem index) refl means same closes)
      means_nothing faults.NoMemory means same closes =
          no_memory same (closes_wanted between after (named_by stop names NoMemory) [] names (names_of us) closes)

      -- ---- where the image was to run, watched

      module _ (watch : Watch) (means : MeansInUnits us limits stop (Ok watch)) (once : IsDistinct nat_eq watch.places) (inside : All (λ word. word.address < limits.area) watch.words) where
        abbrev listing : List ℕ
        listing = map_text us limits

        watches : Watches us limits stop
        watches = (watch, means)

        say_failed : ListsPart listing a b → Closes between after names (names_of us) (statuses.Outside Say) → IsTraced stop c (statuses.Outside Say)
        say_failed part closes =
            let (input, is_input) = some_input before.left in
            let bared : ListsPart (bare us) a b = subst (λ t. ListsPart t a b) (sym (append-nil listing)) part in
            let (o, r) = given.texts.listing bare action limits steps names before between after us input within some most stays takes links bared closes in
            (input, is_input, inl (record { reports = []; runs = r.runs; right = (subst (λ vs. Watches vs limits stop) (sym r.units) watches, refl) }))

        module _ (s : State) (start : IsStart (image_of us limits).code (image_of us limits).words s) (input : List ℕ) where
          reports_at : (k : ℕ) (o : Observed) (text : List ℕ) → Shows s input k o → TellsOf watch s input k text → ReportsAt stop limits input us k o text
          reports_at k o text shows (events, fits, reports) =
              λ bytes. given.reports.shown us limits stop watch input s k o events text some_units most_units compiled within links bytes start means once inside shows fits reports

          reports_next : (n : ℕ) (text : List ℕ) → TellsOf watch s input (n + 1) text → ReportsNext stop limits input us n text
          reports_next n text (events, fits, reports) =
              λ bytes. let (o, shows, reported) = given.reports.some us limits stop watch input s (n + 1) events text some_units most_units compiled within links bytes start means once inside fits reports in (o, reported)

          -- what is told of these units, instructions and show is told of those that the promise names
          told_of : (telling : Telling) (status : Status) (n : ℕ) (o : Observed) (text : List ℕ) (r : RunsAs telling c input status us n o) → ReportsRun stop limits input us n o text status
              → ReportsRun stop limits input r.runs.units r.runs.instructions r.runs.shown text status
          told_of telling status n o text r told =
              let units : ReportsRun stop limits input r.runs.units n o text status = subst (λ vs. ReportsRun stop limits input vs n o text status) (sym r.units) told in
              let count : ReportsRun stop limits input r.runs.units r.runs.instructions o text status = subst (λ k. ReportsRun stop limits input r.runs.units k o text status) (sym r.instructions) units in
              subst (λ q. ReportsRun stop limits input r.runs.units r.runs.instructions q text status) (sym r.shown_is) count

          abbrev WasTold : ImageEnd → Type 0
          WasTold end = ToldRun watch end s input steps a.outside b.outside (said_at (after_told a.say listing) a.say_faults) (said_at b.say b.say_faults)

          abbrev telling : List ℕ → Telling
          telling text vs = map_text vs limits ++ text

          run_as : (end : ImageEnd) (t : WasTold end) → Closes between after names (names_of us) (status_of steps end)
              → RunsAs (telling t.text) c input (status_of steps end) us (ports.reached end s input steps a.outside b.outside t.shows) (ports.shown_of end s input steps a.outside b.outside t.shows)
          run_as end t closes =
              let lists : Lists (listing ++ t.text) a b = record { said = t.writes ∙ after_told-append a.say listing t.text; same = t.same } in
              given.texts.run (telling t.text) action limits steps names before between after us input s end within some most stays takes links lists start t.shows closes

          image_ran : (end : ImageEnd) → WasTold end → Closes between after names (names_of us) (status_of steps end) → TracesRight stop c input (status_of steps end)
          image_ran ends.InputFault t closes =
              let r = run_as ends.InputFault t closes in
              let cut = t.shows.0.0 in
              record { reports = t.text; runs = r.runs; right = told_of (telling t.text) (statuses.Outside Input) cut.n cut.shown t.text r (watches, reports_next cut.n t.text t.tells) }
          image_ran ends.TooLong t closes =
              let r = run_as ends.TooLong t closes in
              let cut = t.shows.0 in
              record { reports = t.text; runs = r.runs; right = told_of (telling t.text) (TooLong long.Input) cut.n cut.shown t.text r (watches, reports_next cut.n t.text t.tells) }
          image_ran ends.OutFault t closes =
              let r = run_as ends.OutFault t closes in
              let n = t.shows.0 in
              let o = t.shows.3 in
              record { reports = t.text; runs = r.runs; right = told_of (telling t.text) (statuses.Outside Out) n o t.text r (watches, some_of n o t.text t.shows.4.shows t.tells) }
            where
              some_of : (n : ℕ) (o : Observed) (text : List ℕ) → Shows s input n o → TellsOf watch s input n text ⊎ TellsOf watch s input (n + 1) text → ReportsAt stop limits input us n o text ⊎ ReportsNext stop limits input us n text
              some_of n o text shows (inl tells) = inl (reports_at n o text shows tells)
              some_of n o text shows (inr tells) = inr (reports_next n text tells)
          image_ran end t closes =
              let r = run_as end t closes in
              let o = t.shows.0 in
              record { reports = t.text; runs = r.runs; right = told_of (telling t.text) (status_of steps end) steps o t.text r (watches, reports_at steps o t.text t.shows.1.shows t.tells) }

          abbrev Short : Type 0
          Short = CutShort watch s input steps a.outside b.outside (said_at (after_told a.say listing) a.say_faults) (said_at b.say b.say_faults)

          -- where the text that was to be written was cut
          cut_in : (xs ys zs : List ℕ) (n : ℕ) → xs ++ (ys ++ take n zs) ≡ take (length (xs ++ ys) + n) (xs ++ (ys ++ zs))
          cut_in xs ys zs n = rw (← append_assoc xs ys zs, take-append-add, append_assoc) refl

          cut_short : Short → Closes between after names (names_of us) (statuses.Outside Say) → FailsToReport stop c input
          cut_short t closes =
              let count = length (listing ++ t.text) + t.part in
              let P : Option (List ℕ) → Type 0 = λ told. Says told after.say between.say_faults after.say_faults (closing_line names (names_of us) (statuses.Outside Say)) in
              let held : between.say ≡ after_told before.say (listing ++ (t.text ++ take t.part t.next)) = t.writes ∙ after_told-append a.say listing (t.text ++ take t.part t.next) in
              record {
                texts = takes.all.texts;
                units = us;
                have_texts = takes.all.have_bytes;
                have_units = takes.all.have_values;
                all = all_of;
                links = links;
                instructions = t.n;
                within = t.within;
                shown = t.shown;
                leaves = record {
                  shows = record { start = s; is_start = start; shows = t.ran.shows };
                  ahead = record {
                    hand = t.ran.ahead.hand;
                    piece = t.ran.ahead.piece;
                    rest = t.ran.ahead.rest ∙ ap (before_told t.ran.ahead.hand) (sym closes.left);
                    untouched = λ none. closes.left ∙ t.ran.ahead.untouched none;
                  };
                  asks = t.ran.asks;
                };
                running = t.running;
                count = t.count;
                output = closes.out ∙ t.output;
                whole = λ quiet. t.whole (λ rose. quiet (subst (λ k. Rose before.out_faults k) (sym closes.out_faults) rose));
                no_input_fault = closes.input_faults ∙ t.no_input_fault;
                within_limit = subst (λ l. ports.TakenWithin before.left l) (sym closes.left) t.within_limit;
                reports = t.text;
                next = t.next;
                watches = watches;
                in_front = reports_at t.n t.shown t.text t.ran.shows t.tells;
                behind = reports_next t.n (t.text ++ t.next) t.tells_next;
                says = record {
                  first = listing ++ (t.text ++ take t.part t.next);
                  middle = between.say_faults;
                  is_first = (
                    count,
                    omega (arith, t.proper, length-append listing t.text, length-append listing (t.text ++ t.next), length-append t.text t.next),
                    cut_in listing t.text t.next t.part,
                    t.rose,
                  );
                  later = t.later;
                  closing = subst P held closes.says;
                };
                reaches = omega arith;
                valid_storage = given.storages.map us limits compiled links;
                frames_apart = given.storages.frames (program_of us limits) input;
                stays = λ name. ap (λ f. f name) closes.files ∙ stays name;
              }

          watched_ran : (end : WatchedEnd) → WatchedShows watch end s input steps a.outside b.outside (said_at (after_told a.say listing) a.say_faults) (said_at b.say b.say_faults)
              → Closes between after names (names_of us) (watched_status steps end) → TracesRight stop c input (watched_status steps end)
          watched_ran (watched.Image end) t closes = image_ran end t closes
          watched_ran watched.SayFault t closes = inr (cut_short t closes)

        pub ran : (status : Status) → WatchesRun listing (image_of us limits) watch steps a b status → Closes between after names (names_of us) status → IsTraced stop c status
        ran status (inl (e, same)) closes = subst (IsTraced stop c) (sym e) (no_memory same (subst (Closes between after names (names_of us)) e closes))
        ran status (inr (inl (e, part))) closes = subst (IsTraced stop c) (sym e) (say_failed part (subst (Closes between after names (names_of us)) e closes))
        ran status (inr (inr r)) closes =
            let (input, is_input, shows) = r.tells in
            (input, is_input, subst (TracesRight stop c input) (sym r.is) (watched_ran r.start r.is_start input r.end shows (subst (Closes between after names (names_of us)) r.is closes)))
