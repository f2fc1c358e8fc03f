-- A call that goes so, and is closed so, keeps its promise.
use Rattle.std.proofs.Common.{◌≡◌, ◌≢◌, ℕ, ◌≤◌, List, [], map, length, take, Option, Some, refl, sym, ap, ap₂, ◌∙◌, subst, inl, inr, arith}
use Rattle.std.specs.Prelude.{All}
use Rattle.std.proofs.lemmas.List.{length-map}
use Rattle.cw_io.specs.Count.{Rose}
use Rattle.cw_io.specs.File.{AllStay}
use Rattle.cw_i86.specs.State.{State}
use Rattle.cw_i86.specs.MachineRun as run
use Rattle.cw_cpu86.specs.Ports.{AreBytes}
use Rattle.cw_ports.specs.Running as ports
use Rattle.cw_ports.specs.declared.running.ImageEnd.{ImageEnd}
use Rattle.cw_ports.specs.declared.running.ImageEnd.TheVariants as ends
use Rattle.cw_unit.specs.declared.unit.Unit.{Unit as SourceUnit}
use Rattle.cw_unit.specs.declared.layout.Limits.{Limits}
use Rattle.cw_unit.specs.Program.{program_of}
use Rattle.cw_unit.specs.Stop.{Running as SourceRunning}
use Rattle.cw_unit.specs.Behaviour.{observed}
use Rattle.cw_place.specs.Placement.{IsLimits}
use Rattle.cw_compile.specs.Texts.{text_limit}
use Rattle.cw_link.specs.declared.fault.LinkFault.{LinkFault}
use Rattle.cw_build.specs.Compiled.{IsCompilable, contents_of_units}
use Rattle.cw_build.specs.Linking.{image_of, Links, IsLinkFault}
use Rattle.cw_files.specs.Texts.{HasUnit}
use Rattle.cw_files.specs.Reading.{Counts, counts_at, HaveBytes, HaveValues, AllTaken, StopsTexts}
use Rattle.cw_write.specs.Said.{Says}
use Rattle.cw_say.specs.Closing.{closing_line}
use Rattle.cw_words.specs.declared.action.Action.{Action}
use Rattle.cw_correct.specs.Calls.{Surroundings, Call, call_as, told_files, NoFault, IsUntouched}
use Rattle.cw_correct.specs.Results.{IsDone}
use Rattle.cw_correct.specs.Files.{counts_before, counts_after}
use Rattle.cw_correct.specs.Closing.{Closes}
use Rattle.cw_correct.specs.Saying.{IsFirstPart, SaysFirst}
use Rattle.cw_correct.specs.Running.{begins_as, RunsImage, ReadsInput}
use Rattle.cw_correct.specs.Meaning.{PreservesMeaning, TellsUnits, CompletesRuns}
use Rattle.cw_correct.specs.Going.{Telling, GoComes, names_of, RunsTexts}
use Rattle.cw_say.specs.declared.status.Status.{Status}
use Rattle.cw_say.specs.declared.status.Status.TheVariants.{Refused, Unlinked, NoFile, Outside, NoMemory, TooLong}
use Rattle.cw_say.specs.declared.status.Which.TheVariants.{Store, Say}
use Rattle.cw_say.specs.declared.status.Long.TheVariants.{File}
use Rattle.cw_say.specs.declared.status.Long.TheVariants as long
use Rattle.cw_actions.specs.Going.Runs.{Streams, status_of, Lists, ListsPart, Runs}
use Rattle.cw_actions.specs.Going.Laws.{IsRight, RunsAs}
use Rattle.cw_actions.specs.Going.Goes.{streams_of, IsUnlinked, StopsReading, Goes}
use Rattle.cw_actions.proofs.Resulting.Links.{links_not_faulty}
use Rattle.cw_actions.proofs.Going.Meant as meant
use Rattle.cw_actions.proofs.Going.Given.{Given}
use Rattle.cw_actions.proofs.Resulting.Sizes.{same_length, cause}
use Rattle.cw_actions.proofs.Resulting.Readings.{all_told, tells as told_texts}
use Rattle.cw_actions.proofs.Resulting.Outcomes.{Kind, all_taken, stop_done}
use Rattle.cw_actions.proofs.Resulting.Units.{units as unit_files, same_units}
use Rattle.cw_actions.proofs.Executing.Running.{after_nothing, some_input, untaken, nothing, WasCut, answers}

-- ---- a call that is closed

module _ (given : Given) (telling : Telling) (action : Action) (limits : Limits) (steps : ℕ) (names : List (List ℕ)) (before between after : Surroundings) (segments : List (List ℕ)) (stays : AllStay before.files between.files) where
  abbrev c : Call
  c = call_as action limits steps names before after

  abbrev a : Streams
  a = streams_of before

  abbrev b : Streams
  b = streams_of between

  abbrev ClosesBy : Status → Type 0
  ClosesBy status = Closes between after names segments status

  any : (status : Status) → ((input : List ℕ) → RunsTexts telling c input status) → IsRight telling c status
  any status right =
      let (input, is_input) = some_input before.left in
      (input, is_input, right input)

  make : (input : List ℕ) (status : Status) → ClosesBy status → (texts : List (List ℕ)) (us : List SourceUnit) (n : ℕ) (shown : run.Observed) → HaveBytes text_limit (told_files c) texts → HaveValues HasUnit texts us
      → GoComes c texts us status → SaysFirst before after (telling us) names (names_of us) status → RunsImage c input (begins_as (image_of us limits)) n shown status → ReadsInput c input (begins_as (image_of us limits)) n shown status
      → (status ≢ TooLong long.Input → ports.TakenWithin before.left after.left) → (AreBytes input → PreservesMeaning (program_of us limits) input n shown status) → CompletesRuns c input status → RunsTexts telling c input status
  make input status closes texts us n shown have units comes lists runs reads within preserves completes = record {
    texts = texts;
    units = us;
    instructions = n;
    shown = shown;
    have_texts = have;
    have_units = units;
    comes = comes;
    telling_first = lists;
    runs_image = runs;
    read_ahead = reads;
    within_limit = within;
    preserves = preserves;
    valid_storage = λ all links. meant.valid given.units given.storages limits texts us units links;
    frames_apart = given.storages.frames (program_of us limits) input;
    completes = completes;
    stays = λ name. ap (λ f. f name) closes.files ∙ stays name;
  }

  -- with what it tells of
  made : (input : List ℕ) (status : Status) → ClosesBy status → (texts : List (List ℕ)) (us : List SourceUnit) (n : ℕ) (shown : run.Observed) → HaveBytes text_limit (told_files c) texts → HaveValues HasUnit texts us
      → GoComes c texts us status → SaysFirst before after (telling us) names (names_of us) status → RunsImage c input (begins_as (image_of us limits)) n shown status → ReadsInput c input (begins_as (image_of us limits)) n shown status
      → (status ≢ TooLong long.Input → ports.TakenWithin before.left after.left) → (AreBytes input → PreservesMeaning (program_of us limits) input n shown status) → CompletesRuns c input status → RunsAs telling c input status us n shown
  unfolding make
  made input status closes texts us n shown have units comes lists runs reads within preserves completes = record {
    runs = make input status closes texts us n shown have units comes lists runs reads within preserves completes;
    units = refl;
    instructions = refl;
    shown_is = refl;
  }

  -- ---- where the image did not run

  -- nothing changed until the call was closed
  still : (input : List ℕ) (status : Status) → b ≡ a → ClosesBy status → (texts : List (List ℕ)) (us : List SourceUnit) → HaveBytes text_limit (told_files c) texts → HaveValues HasUnit texts us
      → GoComes c texts us status → IsFirstPart (telling us) before.say_faults between.say_faults status [] → Says between.say after.say between.say_faults after.say_faults (closing_line names (names_of us) status)
      → (after.out ≡ before.out → RunsImage c input (begins_as (image_of us limits)) 0 nothing status) → (IsUntouched before after → ReadsInput c input (begins_as (image_of us limits)) 0 nothing status)
      → (AreBytes input → PreservesMeaning (program_of us limits) input 0 nothing status) → CompletesRuns c input status → RunsTexts telling c input status
  still input status same closes texts us have units comes is_first says runs reads preserves completes =
      let P : Option (List ℕ) → Type 0 = λ told. Says told after.say between.say_faults after.say_faults (closing_line names (names_of us) status) in
      let held : between.say ≡ before.say = ap (λ x. x.say) same in
      let faults : between.say_faults ≡ before.say_faults = ap (λ x. x.say_faults) same in
      let untouched : IsUntouched before after = record { input = closes.left ∙ ap (λ x. x.outside.left) same; faults = closes.input_faults ∙ ap (λ x. x.outside.input_faults) same } in
      make input status closes texts us 0 nothing have units comes
      (record { first = []; middle = between.say_faults; is_first = is_first; later = omega (arith, faults); closing = subst P (held ∙ sym (after_nothing before.say)) says })
      (runs (closes.out ∙ ap (λ x. x.outside.held) same)) (reads untouched) (λ other. untaken before.left after.left untouched.input) preserves completes

  no_memory : (input : List ℕ) → b ≡ a → ClosesBy NoMemory → RunsTexts telling c input NoMemory
  no_memory input same closes = still input NoMemory same closes [] [] tt tt tt refl closes.says (λ x. x) (λ x. x) (λ bytes. tt) (λ us m tells links quiet bytes short soon ends. tt)

  -- ---- where a file stopped the reading

  abbrev kind : Kind
  kind = unit_files given.texts

  all_are_told : (us : List SourceUnit) (tells : TellsUnits c us) → told_files c ≡ all_told (map Some tells.texts)
  all_are_told us tells = tells.told ∙ told_texts tells.texts

  abbrev Stops : (texts : List (List ℕ)) → (us : List SourceUnit) → Status → Type 0
  Stops texts us status = StopsTexts (told_files c) texts (length us) (counts_before c) (counts_after c) status

  -- a status that tells of a file
  module _ (input : List ℕ) (texts : List (List ℕ)) (us : List SourceUnit) (have : HaveBytes text_limit (told_files c) texts) (units : HaveValues HasUnit texts us) (same : b ≡ a) where
    -- where all texts are told and have units, nothing stops the reading
    done : (vs : List SourceUnit) → TellsUnits c vs → NoFault before after → (status : Status) → Stops texts us status → IsDone status
    done vs tells quiet status stops = stop_done kind c (map Some tells.texts) (all_are_told vs tells) texts us have units quiet vs tells.units status stops

    stops_at : (status : Status) → Stops texts us status → ClosesBy status → RunsTexts telling c input status
    stops_at NoMemory stops closes = no_memory input same closes
    stops_at (Refused number fault) stops closes =
        still input (Refused number fault) same closes texts us have units stops refl closes.says (λ x. x) (λ x. x) (λ bytes. tt)
        (λ vs m tells links quiet bytes short soon ends. done vs tells quiet (Refused number fault) stops)
    stops_at (NoFile number) stops closes =
        still input (NoFile number) same closes texts us have units stops refl closes.says (λ x. x) (λ x. x) (λ bytes. tt) (λ vs m tells links quiet bytes short soon ends. done vs tells quiet (NoFile number) stops)
    stops_at (Outside Store) stops closes =
        still input (Outside Store) same closes texts us have units stops refl closes.says (λ x. x) (λ x. x) (λ bytes. tt) (λ vs m tells links quiet bytes short soon ends. done vs tells quiet (Outside Store) stops)
    stops_at (TooLong (File number)) stops closes =
        still input (TooLong (File number)) same closes texts us have units stops refl closes.says (λ x. x) (λ x. x) (λ bytes. tt)
        (λ vs m tells links quiet bytes short soon ends. done vs tells quiet (TooLong (File number)) stops)
    stops_at _ stops closes = absurd stops

  abbrev d : Call
  d = call_as action limits steps names before between

  -- the counts of the store stand while the line is written
  pub reading : (status : Status) → StopsReading d status → ClosesBy status → IsRight telling c status
  reading status x closes =
      let s = x.stopped in
      let counts : counts_after d ≡ counts_after c = sym (ap₂ counts_at closes.store_faults closes.absences) in
      let P : Counts → Type 0 = λ k. StopsTexts (told_files c) s.texts (length s.values) (counts_before c) k status in
      any status (λ input. stops_at input s.texts s.values s.have_bytes s.have_values x.same status (subst P counts s.stops) closes)

  -- ---- where each file has a unit

  module _ (within : IsLimits limits) (some : 1 ≤ length names) (most : length names ≤ 200) (us : List SourceUnit) (taken : AllTaken text_limit HasUnit (told_files c) us) where
    all_of : length us ≡ length names
    all_of = taken.all ∙ length-map names before.files

    most_units : length us ≤ 200
    most_units = omega (arith, all_of, most)

    some_units : us ≢ []
    some_units e = absurd (omega (arith, ap length e, all_of, some))

    compiled : All IsCompilable us
    compiled = given.units taken.texts us taken.have_values

    units_are : (vs : List SourceUnit) → TellsUnits c vs → vs ≡ us
    units_are vs tells =
        same_units given.texts (map Some tells.texts) vs us (all_taken kind c (map Some tells.texts) (all_are_told vs tells) vs tells.units) (all_taken kind c (map Some tells.texts) (all_are_told vs tells) us taken)

    -- ---- that do not link

    unlinked : (input : List ℕ) (fault : LinkFault) → b ≡ a → IsLinkFault us limits fault → ClosesBy (Unlinked fault) → RunsTexts telling c input (Unlinked fault)
    unlinked input fault same faulty closes =
        let L : List SourceUnit → Type 0 = λ vs. Links vs limits in
        let items = cause given.texts given.sizes limits taken.texts us taken.have_values (same_length (told_files c) taken.texts us taken.have_bytes taken.have_values taken.all) fault faulty in
        still input (Unlinked fault) same closes taken.texts us taken.have_bytes taken.have_values (all_of, faulty, items) refl closes.says (λ x. x) (λ x. x) (λ bytes. tt)
        (λ vs m tells links quiet bytes short soon ends. absurd (links_not_faulty (contents_of_units us) limits fault (subst L (units_are vs tells) links) faulty))

    linking_stops : (input : List ℕ) (status : Status) → IsUnlinked us limits status → b ≡ a → ClosesBy status → RunsTexts telling c input status
    linking_stops input NoMemory x same closes = no_memory input same closes
    linking_stops input (Unlinked fault) x same closes = unlinked input fault same x closes
    linking_stops input _ x same closes = absurd x

    -- ---- that link

    module _ (links : Links us limits) where
      abbrev listing : List ℕ
      listing = telling us

      pub say_failed : (input : List ℕ) → ListsPart listing a b → ClosesBy (Outside Say) → RunsAs telling c input (Outside Say) us 0 nothing
      say_failed input part closes =
          let s = Outside Say in
          let P : Option (List ℕ) → Type 0 = λ told. Says told after.say between.say_faults after.say_faults (closing_line names (names_of us) s) in
          let left : after.left ≡ before.left = closes.left ∙ ap (λ o. o.left) part.outside in
          let rose : Rose before.say_faults between.say_faults = part.rose in
          made input s closes taken.texts us 0 nothing taken.have_bytes taken.have_values (all_of, links)
          (record { first = take part.count listing; middle = between.say_faults; is_first = (part.count, part.proper, refl, part.rose); later = part.later; closing = subst P part.said closes.says })
          (closes.out ∙ ap (λ o. o.held) part.outside) (record { input = left; faults = closes.input_faults ∙ ap (λ o. o.input_faults) part.outside })
          (λ other. untaken before.left after.left left) (λ bytes. tt)
          (λ vs m tells also quiet bytes short soon ends. absurd (quiet.say (omega (arith, rose, closes.says.later))))

      module _ (named : segments ≡ names_of us) (counts : (between.store_faults ≡ before.store_faults) × (between.absences ≡ before.absences)) (x : Lists listing a b) where
        -- the whole map was said
        lists_whole : (status : Status) → IsFirstPart listing before.say_faults between.say_faults status listing → ClosesBy status → SaysFirst before after listing names (names_of us) status
        lists_whole status is_first closes =
            let P : Option (List ℕ) → Type 0 = λ told. Says told after.say between.say_faults after.say_faults (closing_line names (names_of us) status) in
            let faults : between.say_faults ≡ before.say_faults = x.same in
            let Q : List (List ℕ) → Type 0 = λ all. Says between.say after.say between.say_faults after.say_faults (closing_line names all status) in
            record {
              first = listing;
              middle = between.say_faults;
              is_first = is_first;
              later = omega (arith, faults);
              closing = subst P x.said (subst Q named closes.says);
            }

        module _ (s : State) (start : run.IsStart (image_of us limits).code (image_of us limits).words s) (input : List ℕ) where
          -- when the status of a run comes
          run_comes : (end : ImageEnd) → WasCut c input end → GoComes c taken.texts us (status_of steps end)
          run_comes ends.InputFault cause = (all_of, links, cause)
          run_comes ends.OutFault cause = (all_of, links, cause)
          run_comes ends.TooLong cause = (all_of, links, cause.0)
          run_comes _ cause = (all_of, links)

          -- the listing stands before it
          listing_first : (end : ImageEnd) → IsFirstPart listing before.say_faults between.say_faults (status_of steps end) listing
          listing_first ends.Ended = refl
          listing_first _ = refl

          abbrev Run : ImageEnd → Type 0
          Run end = ports.RunShows end s input steps a.outside b.outside

          abbrev reached : (end : ImageEnd) → Run end → ℕ
          reached end r = ports.reached end s input steps a.outside b.outside r

          abbrev shown_of : (end : ImageEnd) → Run end → run.Observed
          shown_of end r = ports.shown_of end s input steps a.outside b.outside r

          shows_there : (end : ImageEnd) (r : Run end) → run.Shows s input (reached end r) (shown_of end r)
          shows_there ends.InputFault r = r.0.0.ran.shows
          shows_there ends.TooLong r = r.0.ran.shows
          shows_there ends.OutFault r = r.4.shows
          shows_there _ r = r.1.shows

          -- no run meets bad code or a division that faults
          preserves : (end : ImageEnd) (r : Run end) → AreBytes input → PreservesMeaning (program_of us limits) input (reached end r) (shown_of end r) (status_of steps end)
          preserves (ends.BadCode offset) r bytes = meant.never_bad given.runs us limits some_units most_units compiled within links input bytes s start steps offset r.0 r.1.shows r.2
          preserves (ends.Divided offset) r bytes = meant.never_divided given.runs us limits some_units most_units compiled within links input bytes s start steps offset r.0 r.1.shows r.2
          preserves end r bytes = meant.preserves given.runs us limits some_units most_units compiled within links input bytes s start (reached end r) (shown_of end r) (shows_there end r)

          completes : (end : ImageEnd) (r : Run end) → WasCut c input end → CompletesRuns c input (status_of steps end)
          completes ends.Unfinished r cause = λ vs m tells also quiet bytes short soon over.
              let meant_over = subst (λ ws. (observed (program_of ws limits) input m).end ≢ SourceRunning) (units_are vs tells) over in
              absurd (meant.never_running given.runs us limits some_units most_units compiled within links input bytes s start steps m soon meant_over r.0 r.1.shows r.2)
          completes (ends.BadCode offset) r cause = λ vs m tells also quiet bytes short soon over. preserves (ends.BadCode offset) r bytes
          completes (ends.Divided offset) r cause = λ vs m tells also quiet bytes short soon over. preserves (ends.Divided offset) r bytes
          completes ends.InputFault r cause = λ vs m tells also quiet bytes short soon over. absurd (quiet.input cause)
          completes ends.OutFault r cause = λ vs m tells also quiet bytes short soon over. absurd (quiet.out cause)
          completes ends.TooLong r cause = λ vs m tells also quiet bytes short soon over. absurd (omega (arith, short, cause.1))
          completes _ r cause = λ vs m tells also quiet bytes short soon over. tt

          pub run_goes : (end : ImageEnd) (r : Run end) → ClosesBy (status_of steps end) → RunsAs telling c input (status_of steps end) us (reached end r) (shown_of end r)
          run_goes end r closes =
              let status = status_of steps end in
              let told = answers c between input (begins_as (image_of us limits)) names segments s start counts.0 counts.1 x.same end r closes in
              made input status closes taken.texts us (reached end r) (shown_of end r) taken.have_bytes taken.have_values (run_comes end told.cause) (lists_whole status (listing_first end) closes) told.runs_image told.read_ahead told.within_limit
              (preserves end r) (completes end r told.cause)

      -- part by part
      runs_goes : (status : Status) → segments ≡ names_of us → (between.store_faults ≡ before.store_faults) × (between.absences ≡ before.absences) → Runs listing (image_of us limits) steps a b status → ClosesBy status → IsRight telling c status
      runs_goes status named counts (inl (e, same)) closes =
          any status (λ input. subst (RunsTexts telling c input) (sym e) (no_memory input same (subst ClosesBy e closes)))
      runs_goes status named counts (inr (inl (e, part))) closes =
          any status (λ input. subst (RunsTexts telling c input) (sym e) (say_failed input part (subst ClosesBy e closes)).runs)
      runs_goes status named counts (inr (inr r)) closes =
          let (input, is_input, shows) = r.tells in
          (input, is_input, subst (RunsTexts telling c input) (sym r.is) (run_goes named counts r.lists r.start r.is_start input r.end shows (subst ClosesBy r.is closes)).runs)

  pub keeps : (status : Status) → IsLimits limits → 1 ≤ length names → length names ≤ 200 → Goes telling d segments status → ClosesBy status → IsRight telling c status
  keeps status within some most (inl x) closes = reading status x closes
  keeps status within some most (inr (us, takes, inl x)) closes = any status (λ input. linking_stops within some most us takes.all input status x.unlinked x.same closes)
  keeps status within some most (inr (us, takes, inr x)) closes = runs_goes within some most us takes.all x.links status x.named takes.counts x.runs closes
