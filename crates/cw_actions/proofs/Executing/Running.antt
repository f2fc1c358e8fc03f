-- A run answers its call as it is to, whatever it begins with.
use Rattle.std.proofs.Common.{◌≡◌, ◌≢◌, ℕ, ◌+◌, ◌<◌, Bool, true, false, List, [], length, Option, Some, None, refl, sym, ap, ◌∙◌, subst, arith, append-nil}
use Rattle.std.proofs.lemmas.List.Elements.{All-nil}
use Rattle.cw_io.specs.Bytes.{before_told, after_told}
use Rattle.cw_io.specs.Count.{Rose}
use Rattle.cw_i86.specs.State.{State}
use Rattle.cw_i86.specs.MachineRun as run
use Rattle.cw_ports.specs.Pieces.{input_limit}
use Rattle.cw_ports.specs.Running as ports
use Rattle.cw_ports.specs.declared.running.ImageEnd.{ImageEnd}
use Rattle.cw_ports.specs.declared.running.ImageEnd.TheVariants as ends
use Rattle.cw_correct.specs.Calls.{Surroundings, Call}
use Rattle.cw_correct.specs.Closing.{Closes}
use Rattle.cw_correct.specs.Running.{Begins, ImageShows, Tells, Ran, Cut, RunsImage, Leaves, ReadsInput}
use Rattle.cw_say.specs.declared.status.Status.{Status}
use Rattle.cw_say.specs.declared.status.Status.TheVariants.{Ended, Stopped, Unfinished, TooLong, BadCode, Divided}
use Rattle.cw_say.specs.declared.status.Long.TheVariants as long
use Rattle.cw_actions.specs.Executing.Runs.{image_side}
use Rattle.cw_actions.specs.Going.Runs.{status_of}

pub after_nothing : (told : Option (List ℕ)) → after_told told [] ≡ told
after_nothing None = refl
after_nothing (Some held) = ap Some (append-nil held)

before_nothing : (told : Option (List ℕ)) → before_told [] told ≡ told
before_nothing None = refl
before_nothing (Some left) = refl

-- an input of a run, where none ran
pub some_input : (left : Option (List ℕ)) → (input : List ℕ) × ports.IsInput left input
some_input None = ([], All-nil (λ b. b < 256))
some_input (Some told) = (told, refl)

pub untaken : (left left' : Option (List ℕ)) → left' ≡ left → ports.TakenWithin left left'
untaken left left' same = (0, ([], sym same ∙ sym (before_nothing left'), refl), omega arith)

-- what shows where nothing ran
abbrev pub nothing : run.Observed
nothing = record { output = []; end = run.Running }

-- why a run is cut short, as the counts and the input tell it
abbrev pub WasCut : Call → (input : List ℕ) → ImageEnd → Type 0
WasCut c input ends.InputFault = Rose c.before.input_faults c.after.input_faults
WasCut c input ends.OutFault = Rose c.before.out_faults c.after.out_faults
WasCut c input ends.TooLong = ports.Taken c.before.left c.after.left (input_limit + 1) × (input_limit < length input)
WasCut c input end = Unit {0}

-- what a call shows of a run that ends so, behind so many instructions, and what it reads
pub record Answers (c : Call) (input : List ℕ) (begins : Begins) (n : ℕ) (shown : run.Observed) (end : ImageEnd) : Type 0 where
  pub runs_image : RunsImage c input begins n shown (status_of c.steps end)
  pub read_ahead : ReadsInput c input begins n shown (status_of c.steps end)
  pub within_limit : status_of c.steps end ≢ TooLong long.Input → ports.TakenWithin c.before.left c.after.left
  pub cause : WasCut c input end

-- for the surroundings when the run is over, of which only what is said changes until the call is closed
module _ (c : Call) (b : Surroundings) (input : List ℕ) (begins : Begins) (names segments : List (List ℕ)) (start : State) (is_start : begins start) where
  abbrev image_shows : (n : ℕ) (o : run.Observed) → run.Shows start input n o → ImageShows begins input n o
  image_shows n o shows = record { start = start; is_start = is_start; shows = shows }

  leaves : (n : ℕ) (o : run.Observed) (is_asking : Bool) → ports.Ran start input n c.before.left b.left is_asking o → c.after.left ≡ b.left → Leaves c input begins n o is_asking
  leaves n o is_asking x same = record {
    shows = image_shows n o x.shows;
    ahead = record {
      hand = x.ahead.hand;
      piece = x.ahead.piece;
      rest = x.ahead.rest ∙ ap (before_told x.ahead.hand) (sym same);
      untouched = λ none. same ∙ x.ahead.untouched none;
    };
    asks = x.asks;
  }

  took : ports.TakenWithin c.before.left b.left → c.after.left ≡ b.left → ports.TakenWithin c.before.left c.after.left
  took taken same = subst (λ l. ports.TakenWithin c.before.left l) (sym same) taken

  cut : (n : ℕ) (o : run.Observed) → n < c.steps → run.Shows start input n o → o.end ≡ run.Running → c.after.out ≡ after_told c.before.out o.output → Cut c input begins n o
  cut n o few shows running output = record { within = few; shows = image_shows n o shows; running = running; output = output }

  module _ (same_faults : b.store_faults ≡ c.before.store_faults) (same_absences : b.absences ≡ c.before.absences) (same_say : b.say_faults ≡ c.before.say_faults) where
    ran : (status : Status) (o : run.Observed) → run.Shows start input c.steps o → Tells c.steps status o.end → b.out ≡ after_told c.before.out o.output → b.input_faults ≡ c.before.input_faults → b.out_faults ≡ c.before.out_faults
        → Closes b c.after names segments status → Ran c input begins c.steps o status
    ran status o shows tells output quiet_input quiet_out closes = record {
      all = refl;
      shows = image_shows c.steps o shows;
      tells = tells;
      output = closes.out ∙ output;
      no_store_fault = closes.store_faults ∙ same_faults;
      no_absence = closes.absences ∙ same_absences;
      no_input_fault = closes.input_faults ∙ quiet_input;
      no_out_fault = closes.out_faults ∙ quiet_out;
      no_say_fault = λ e. closes.ended e ∙ same_say;
    }

    -- all that was taken is within the limit
    taken_within : (end : ImageEnd) (n : ℕ) (o : run.Observed) → ports.TakenWithin c.before.left b.left → c.after.left ≡ b.left → RunsImage c input begins n o (status_of c.steps end) → ReadsInput c input begins n o (status_of c.steps end)
        → WasCut c input end → Answers c input begins n o end
    taken_within end n o taken same runs reads cause = record { runs_image = runs; read_ahead = reads; within_limit = λ other. took taken same; cause = cause }

    pub answers : (end : ImageEnd) (x : ports.RunShows end start input c.steps (image_side c.before) (image_side b)) → Closes b c.after names segments (status_of c.steps end)
        → Answers c input begins (ports.reached end start input c.steps (image_side c.before) (image_side b) x) (ports.shown_of end start input c.steps (image_side c.before) (image_side b) x) end
    unfolding leaves
    answers ends.Ended (o, x, told, output, taken, quiet_input, quiet_out) closes =
        taken_within ends.Ended c.steps o taken closes.left (ran Ended o x.shows told output quiet_input quiet_out closes) (leaves c.steps o false x closes.left) tt
    answers (ends.Stopped kind number line) (o, x, told, output, taken, quiet_input, quiet_out) closes =
        taken_within (ends.Stopped kind number line) c.steps o taken closes.left (ran (Stopped kind number line) o x.shows told output quiet_input quiet_out closes) (leaves c.steps o false x closes.left) tt
    answers ends.Unfinished (o, x, told, output, taken, quiet_input, quiet_out) closes =
        taken_within ends.Unfinished c.steps o taken closes.left (ran (Unfinished c.steps) o x.shows (told, refl) output quiet_input quiet_out closes) (leaves c.steps o false x closes.left) tt
    answers (ends.BadCode offset) (o, x, told, output, taken, quiet_input, quiet_out) closes =
        taken_within (ends.BadCode offset) c.steps o taken closes.left (ran (BadCode offset) o x.shows told output quiet_input quiet_out closes) (leaves c.steps o false x closes.left) tt
    answers (ends.Divided offset) (o, x, told, output, taken, quiet_input, quiet_out) closes =
        taken_within (ends.Divided offset) c.steps o taken closes.left (ran (Divided offset) o x.shows told output quiet_input quiet_out closes) (leaves c.steps o false x closes.left) tt
    answers ends.InputFault ((x, dry), taken, rose) closes =
        taken_within ends.InputFault x.n x.shown taken closes.left (cut x.n x.shown x.within x.ran.shows x.running (closes.out ∙ x.output)) (leaves x.n x.shown true x.ran closes.left, dry)
        (subst (λ k. Rose c.before.input_faults k) (sym closes.input_faults) rose)
    answers ends.TooLong (x, taken, long_input) closes = record {
      runs_image = (cut x.n x.shown x.within x.ran.shows x.running (closes.out ∙ x.output), long_input);
      read_ahead = leaves x.n x.shown true x.ran closes.left;
      within_limit = λ other. absurd (other refl);
      cause = (subst (λ l. ports.Taken c.before.left l (input_limit + 1)) (sym closes.left) taken, long_input);
    }
    answers ends.OutFault (n, few, is_asking, o, x, (count, output), taken, quiet_input, rose) closes =
        taken_within ends.OutFault n o taken closes.left
        (record { within = few; shows = image_shows n o x.shows; count = count; output = closes.out ∙ output; no_input_fault = closes.input_faults ∙ quiet_input })
        (is_asking, leaves n o is_asking x closes.left) (subst (λ k. Rose c.before.out_faults k) (sym closes.out_faults) rose)
