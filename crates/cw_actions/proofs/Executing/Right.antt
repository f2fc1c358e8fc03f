-- What `exec` does keeps its promise.
use Rattle.std.proofs.Common.{◌≡◌, ◌≢◌, ℕ, List, [], ◌∷◌, length, map, Some, refl, sym, ap, ◌∙◌, subst, arith}
use Rattle.cw_io.specs.File.{AllStay}
use Rattle.cw_i86.specs.MachineRun as run
use Rattle.cw_ports.specs.Running as ports
use Rattle.cw_ports.specs.declared.running.ImageEnd.{ImageEnd}
use Rattle.cw_ports.specs.declared.running.ImageEnd.TheVariants as ends
use Rattle.cw_files.specs.declared.images.Runnable.{Runnable}
use Rattle.cw_files.specs.Texts.{HasRunnable, object_limit}
use Rattle.cw_files.specs.Reading as reading
use Rattle.cw_files.specs.Reading.{HaveBytes, HaveValues, AllTaken, StopsRunnables}
use Rattle.cw_write.specs.Said.{Says}
use Rattle.cw_say.specs.Closing.{closing_line}
use Rattle.cw_correct.specs.Calls.{Surroundings, Call, told_files, NoFault, IsUntouched}
use Rattle.cw_correct.specs.Meaning.{TellBytes}
use Rattle.cw_correct.specs.Results.{IsDone}
use Rattle.cw_correct.specs.Closing.{Closes}
use Rattle.cw_correct.specs.Files.{counts_before, counts_after}
use Rattle.cw_correct.specs.Saying.{IsFirstPart, SaysLast}
use Rattle.cw_correct.specs.Running.{RunsImage, ReadsInput}
use Rattle.cw_correct.specs.Executing.{begins_first, first_names, ExecComes, CompletesExec, ExecutesRight}
use Rattle.cw_say.specs.declared.status.Status.{Status}
use Rattle.cw_say.specs.declared.status.Status.TheVariants.{NoFile, Outside, NoMemory, BadFile, TooLong}
use Rattle.cw_say.specs.declared.status.Which.TheVariants.{Store}
use Rattle.cw_say.specs.declared.status.Long.TheVariants.{File}
use Rattle.cw_say.specs.declared.status.Long.TheVariants as long
use Rattle.cw_actions.specs.Executing.Runs.{image_side, Runs}
use Rattle.cw_actions.specs.Going.Runs.{status_of}
use Rattle.cw_actions.specs.Executing.Laws.{IsRightIdle}
use Rattle.cw_actions.proofs.Executing.Running.{after_nothing, some_input, untaken, nothing, WasCut, Answers, answers}
use Rattle.cw_actions.proofs.Resulting.Readings.{tells}
use Rattle.cw_actions.proofs.Resulting.Outcomes.{stop_done}
use Rattle.cw_actions.proofs.Executing.Files.{runnable_files}

-- ---- what is said

-- the closing line alone, where nothing was said before
pub says_last : (c : Call) (b : Surroundings) (names segments : List (List ℕ)) (status : Status) → b.say ≡ c.before.say → b.say_faults ≡ c.before.say_faults → IsFirstPart [] c.before.say_faults b.say_faults status []
    → Says b.say c.after.say b.say_faults c.after.say_faults (closing_line names segments status) → SaysLast c.before c.after names segments status
says_last c b names segments status same same_faults is says = record {
  first = [];
  middle = b.say_faults;
  is_first = is;
  later = omega (arith, same_faults);
  closing = subst (λ told. Says told c.after.say b.say_faults c.after.say_faults (closing_line names segments status)) (same ∙ sym (after_nothing c.before.say)) says;
}

-- a run says nothing itself
run_first : (steps faults middle : ℕ) (end : ImageEnd) → IsFirstPart [] faults middle (status_of steps end) []
run_first steps faults middle ends.Ended = refl
run_first steps faults middle _ = refl

-- ---- when a status comes of a run

run_comes : (c : Call) (input : List ℕ) (texts : List (List ℕ)) (runnables : List Runnable) (end : ImageEnd) → length runnables ≡ length c.names → WasCut c input end → ExecComes c texts runnables (status_of c.steps end)
run_comes c input texts runnables ends.InputFault all cause = (all, cause)
run_comes c input texts runnables ends.OutFault all cause = (all, cause)
run_comes c input texts runnables ends.TooLong all cause = (all, cause.0)
run_comes c input texts runnables _ all cause = all

run_completes : (c : Call) (input : List ℕ) (end : ImageEnd) → WasCut c input end → CompletesExec c input (status_of c.steps end)
run_completes c input ends.InputFault cause = λ texts runnables told taken quiet short. absurd (quiet.input cause)
run_completes c input ends.OutFault cause = λ texts runnables told taken quiet short. absurd (quiet.out cause)
run_completes c input ends.TooLong cause = λ texts runnables told taken quiet short. absurd (omega (arith, short, cause.1))
run_completes c input _ cause = λ texts runnables told taken quiet short. tt

-- ---- what is told of a call

module _ (c : Call) (input : List ℕ) (texts : List (List ℕ)) (runnables : List Runnable) (n : ℕ) (shown : run.Observed) (status : Status) where
  make : HaveBytes object_limit (told_files c) texts → HaveValues HasRunnable texts runnables → ExecComes c texts runnables status → SaysLast c.before c.after c.names (first_names runnables) status → RunsImage c input (begins_first runnables) n shown status
      → ReadsInput c input (begins_first runnables) n shown status → (status ≢ TooLong long.Input → ports.TakenWithin c.before.left c.after.left) → CompletesExec c input status → AllStay c.before.files c.after.files → ExecutesRight c input status
  make have values comes says runs reads within completes stays = record {
    texts = texts;
    runnables = runnables;
    instructions = n;
    shown = shown;
    have_bytes = have;
    have_runnables = values;
    comes = comes;
    says = says;
    runs_image = runs;
    read_ahead = reads;
    within_limit = within;
    completes = completes;
    stays = stays;
  }

-- ---- where nothing ran

-- the surroundings as far as a run uses them are as before the call, and nothing was said
pub record IsQuiet (c : Call) (b : Surroundings) : Type 0 where
  pub side : image_side b ≡ image_side c.before
  pub said : b.say ≡ c.before.say
  pub say_faults : b.say_faults ≡ c.before.say_faults

module _ (c : Call) (b : Surroundings) (stays : AllStay c.before.files c.after.files) where
  -- what was read, and what it tells, where nothing ran
  still : (input : List ℕ) (segments : List (List ℕ)) (status : Status) (texts : List (List ℕ)) (runnables : List Runnable) → IsQuiet c b → Closes b c.after c.names segments status
      → HaveBytes object_limit (told_files c) texts → HaveValues HasRunnable texts runnables → ExecComes c texts runnables status → SaysLast c.before c.after c.names (first_names runnables) status
      → (c.after.out ≡ c.before.out → RunsImage c input (begins_first runnables) 0 nothing status) → (IsUntouched c.before c.after → ReadsInput c input (begins_first runnables) 0 nothing status)
      → CompletesExec c input status → ExecutesRight c input status
  still input segments status texts runnables quiet closes have values comes says runs reads completes =
      let untouched : IsUntouched c.before c.after = record { input = closes.left ∙ ap (λ s. s.left) quiet.side; faults = closes.input_faults ∙ ap (λ s. s.input_faults) quiet.side } in
      make c input texts runnables 0 nothing status have values comes says (runs (closes.out ∙ ap (λ s. s.held) quiet.side)) (reads untouched) (λ other. untaken c.before.left c.after.left untouched.input) completes stays

  pub no_memory : (input : List ℕ) (segments : List (List ℕ)) → IsQuiet c b → Closes b c.after c.names segments NoMemory → ExecutesRight c input NoMemory
  no_memory input segments quiet closes =
      still input segments NoMemory [] [] quiet closes tt tt tt (says_last c b c.names [] NoMemory quiet.said quiet.say_faults refl closes.says) (λ same. same) (λ same. same) (λ texts runnables told taken quiet short. tt)

  -- ---- where the one file is not read, or is refused

  module _ (input : List ℕ) (quiet : IsQuiet c b) (texts : List (List ℕ)) (runnables : List Runnable) (have : HaveBytes object_limit (told_files c) texts) (values : HaveValues HasRunnable texts runnables) where
    abbrev Stops : Status → Type 0
    Stops status = StopsRunnables (told_files c) texts (length runnables) (counts_before c) (counts_after c) status

    -- what is told and taken does not stop the reading
    done : (status : Status) → Stops status → (told : List (List ℕ)) (others : List Runnable) → TellBytes (told_files c) told → AllTaken object_limit HasRunnable (told_files c) others → NoFault c.before c.after → IsDone status
    done status x told others tell taken calm = stop_done runnable_files c (map Some told) (tell ∙ tells told) texts runnables have values calm others taken status x

    unread : (status : Status) → Closes b c.after c.names [] status → IsFirstPart [] c.before.say_faults b.say_faults status [] → Says b.say c.after.say b.say_faults c.after.say_faults (closing_line c.names (first_names runnables) status)
        → ExecComes c texts runnables status → (c.after.out ≡ c.before.out → RunsImage c input (begins_first runnables) 0 nothing status) → (IsUntouched c.before c.after → ReadsInput c input (begins_first runnables) 0 nothing status)
        → CompletesExec c input status → ExecutesRight c input status
    unread status closes first says comes runs reads completes =
        still input [] status texts runnables quiet closes have values comes (says_last c b c.names (first_names runnables) status quiet.said quiet.say_faults first says) runs reads completes

    pub stops : (status : Status) → Stops status → Closes b c.after c.names [] status → ExecutesRight c input status
    stops NoMemory x closes = no_memory input [] quiet closes
    stops (BadFile number fault) x closes =
        unread (BadFile number fault) closes refl closes.says x (λ same. same) (λ same. same) (λ told others tell taken calm short. done (BadFile number fault) x told others tell taken calm)
    stops (NoFile number) x closes =
        unread (NoFile number) closes refl closes.says x (λ same. same) (λ same. same) (λ told others tell taken calm short. done (NoFile number) x told others tell taken calm)
    stops (TooLong (File number)) x closes =
        unread (TooLong (File number)) closes refl closes.says x (λ same. same) (λ same. same) (λ told others tell taken calm short. done (TooLong (File number)) x told others tell taken calm)
    stops (Outside Store) x closes =
        unread (Outside Store) closes refl closes.says x (λ same. same) (λ same. same) (λ told others tell taken calm short. done (Outside Store) x told others tell taken calm)
    stops _ x closes = absurd x

-- ---- the call

abbrev pub IsRight : Call → Status → Type 0
IsRight c status = (input : List ℕ) × ports.IsInput c.before.left input × ExecutesRight c input status

-- of the bytes of the file that are not taken
pub unread_right : (c : Call) (b : Surroundings) (name : List ℕ) (status : Status) → AllStay c.before.files c.after.files → c.names ≡ name ∷ [] → IsQuiet c b
    → reading.Stopped object_limit HasRunnable (λ texts taken. StopsRunnables (c.before.files name ∷ []) texts taken (counts_before c) (counts_after c) status) (c.before.files name ∷ []) → Closes b c.after c.names [] status → IsRight c status
unread_right c b name status stays one quiet x closes =
    let files : c.before.files name ∷ [] ≡ told_files c = sym (ap (λ names. map c.before.files names) one) in
    let (input, is_input) = some_input c.before.left in (
      input,
      is_input,
      stops c b stays input quiet x.texts x.values
          (subst (λ files. HaveBytes object_limit files x.texts) files x.have_bytes) x.have_values status
          (subst (λ files. StopsRunnables files x.texts (length x.values) (counts_before c) (counts_after c) status) files x.stops) closes,
    )

module _ (c : Call) (b : Surroundings) (name : List ℕ) (runnable : Runnable) (stays : AllStay c.before.files c.after.files) (one : c.names ≡ name ∷ [])
    (same : reading.SameCounts (counts_before c) (counts_after c)) (closed : (b.store_faults ≡ c.after.store_faults) × (b.absences ≡ c.after.absences)) (said : b.say ≡ c.before.say) (quiet_say : b.say_faults ≡ c.before.say_faults)
    (all : AllTaken object_limit HasRunnable (c.before.files name ∷ []) (runnable ∷ [])) where
  files : c.before.files name ∷ [] ≡ told_files c
  files = sym (ap (λ names. map c.before.files names) one)

  ran_right : (input : List ℕ) (n : ℕ) (shown : run.Observed) (end : ImageEnd) → Answers c input (begins_first (runnable ∷ [])) n shown end → Closes b c.after c.names runnable.names (status_of c.steps end) → ExecutesRight c input (status_of c.steps end)
  ran_right input n shown end a closes =
      make c input all.texts (runnable ∷ []) n shown (status_of c.steps end) (subst (λ files. HaveBytes object_limit files all.texts) files all.have_bytes) all.have_values (run_comes c input all.texts (runnable ∷ []) end (sym (ap length one)) a.cause)
      (says_last c b c.names runnable.names (status_of c.steps end) said quiet_say (run_first c.steps c.before.say_faults b.say_faults end) closes.says) a.runs_image a.read_ahead a.within_limit (run_completes c input end a.cause) stays

  pub run_right : (status : Status) → Runs runnable.cpu c.steps (image_side c.before) (image_side b) status → Closes b c.after c.names runnable.names status → IsRight c status
  run_right status r closes =
      let (input, is_input, shows) = r.tells in
      let closed_so : Closes b c.after c.names runnable.names (status_of c.steps r.end) = subst (Closes b c.after c.names runnable.names) r.is closes in (
        input,
        is_input,
        subst (ExecutesRight c input) (sym r.is)
            (ran_right input _ _ r.end (answers c b input (begins_first (runnable ∷ [])) c.names runnable.names runnable.cpu refl (closed.0 ∙ same.0) (closed.1 ∙ same.1) quiet_say r.end shows closed_so) closed_so),
      )

-- nothing was done for want of memory
pub idle : IsRightIdle
idle c input closes = no_memory c c.before (λ name. ap (λ files. files name) closes.files) input [] (record { side = refl; said = refl; say_faults = refl }) closes
