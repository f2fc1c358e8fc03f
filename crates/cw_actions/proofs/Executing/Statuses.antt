-- Two statuses never come of one call of `exec`.
use Rattle.std.proofs.Common.{◌≡◌, ◌⊎◌, ℕ, ◌+◌, List, [], ◌∷◌, length, refl, sym, ◌∙◌, subst, inl, inr}
use Rattle.cw_i86.specs.State.{State}
use Rattle.cw_i86.specs.MachineRun as run
use Rattle.cw_ports.specs.Pieces.{input_limit}
use Rattle.cw_ports.specs.Running.{Taken, TakenWithin}
use Rattle.cw_files.specs.declared.images.Runnable.{Runnable}
use Rattle.cw_files.specs.Texts.{HasRunnable, IsBadRunnable, object_limit}
use Rattle.cw_files.specs.Reading.{StopsRunnables}
use Rattle.cw_correct.specs.Calls.{Call, told_files, NoFault}
use Rattle.cw_correct.specs.Files.{counts_before, counts_after, AllAccepted}
use Rattle.cw_correct.specs.Running.{ImageShows, Tells, Ran}
use Rattle.cw_correct.specs.Executing.{begins_first, ExecutesRight}
use Rattle.cw_say.specs.declared.status.Status.{Status}
use Rattle.cw_say.specs.declared.status.Status.TheVariants.{Ended, Stopped, Unfinished, NoFile, Outside, NoMemory, BadFile, TooLong, BadCode, Divided}
use Rattle.cw_say.specs.declared.status.Which.TheVariants.{Store, Input, Out}
use Rattle.cw_say.specs.declared.status.Long.TheVariants.{File}
use Rattle.cw_say.specs.declared.status.Long.TheVariants as long
use Rattle.cw_actions.specs.Executing.Laws.{HasOneStatus}
use Rattle.cw_actions.proofs.Resulting.Readings.{Found, all_told, same_values}
use Rattle.cw_actions.proofs.Resulting.Outcomes.{all_run, stop_runs}
use Rattle.cw_actions.proofs.Resulting.Fates.{Fate, stopped, one_fate, Any, any}
use Rattle.cw_actions.proofs.Executing.Files.{one_runnable, one_bad, runnable_files}
use Rattle.cw_actions.proofs.Going.Given.{OneRun}
use Rattle.cw_actions.proofs.Executing.Ends.{not_too_long, TellsInput, too_many, one_of_runs}

module _ (c : Call) (input : List ℕ) where
  -- what comes of a run
  abbrev OfRun : List Runnable → Status → Type 0
  OfRun runnables s =
      (((o : run.Observed) × ImageShows (begins_first runnables) input c.steps o × Tells c.steps s o.end) × TakenWithin c.before.left c.after.left)
      ⊎ ((s ≡ TooLong long.Input) × Taken c.before.left c.after.left (input_limit + 1))

  module _ (found : List Found) (told : told_files c ≡ all_told found) (quiet : NoFault c.before c.after) where
    abbrev FateOf : Status → Type 0
    FateOf s = Fate runnable_files OfRun found s

    of_stop : (s : Status) (x : ExecutesRight c input s) → StopsRunnables (told_files c) x.texts (length x.runnables) (counts_before c) (counts_after c) s → FateOf s
    of_stop s x stops = stopped runnable_files OfRun found x.runnables s (stop_runs runnable_files c found told x.texts x.runnables x.have_bytes x.have_runnables quiet s stops)

    of_all : (s : Status) (x : ExecutesRight c input s) → AllAccepted c x.runnables → OfRun x.runnables s → FateOf s
    of_all s x all of = inr (inr (x.runnables, all_run runnable_files c found told x.texts x.runnables x.have_bytes x.have_runnables all, of))

    of_run : (s : Status) (x : ExecutesRight c input s) → AllAccepted c x.runnables → Ran c input (begins_first x.runnables) x.instructions x.shown s → FateOf s
    of_run s x all ran =
        of_all s x all (inl ((x.shown, subst (λ n. ImageShows (begins_first x.runnables) input n x.shown) ran.all ran.shows, ran.tells), x.within_limit (not_too_long c.steps s x.shown.end ran.tells)))

    fate : (s : Status) → ExecutesRight c input s → FateOf s
    fate NoMemory x = inl refl
    fate (BadFile number fault) x = of_stop (BadFile number fault) x x.comes
    fate (NoFile number) x = of_stop (NoFile number) x x.comes
    fate (TooLong (File number)) x = of_stop (TooLong (File number)) x x.comes
    fate (TooLong long.Input) x = of_all (TooLong long.Input) x x.comes.0 (inr (refl, x.comes.1))
    fate (Outside Store) x = of_stop (Outside Store) x x.comes
    fate (Outside Input) x = absurd (quiet.input x.comes.1)
    fate (Outside Out) x = absurd (quiet.out x.comes.1)
    fate Ended x = of_run Ended x x.comes x.runs_image
    fate (Stopped kind segment line) x = of_run (Stopped kind segment line) x x.comes x.runs_image
    fate (Unfinished count) x = of_run (Unfinished count) x x.comes x.runs_image
    fate (BadCode offset) x = of_run (BadCode offset) x x.comes x.runs_image
    fate (Divided offset) x = of_run (Divided offset) x x.comes x.runs_image
    fate _ x = absurd x.comes

module _ (runs : OneRun) (c : Call) (input : List ℕ) where
  one_start : (runnables : List Runnable) (s t : State) → begins_first runnables s → begins_first runnables t → s ≡ t
  one_start [] s t x y = absurd x
  one_start (runnable ∷ runnables) s t x y = x ∙ sym y

  one_of_run : (runnables : List Runnable) (s t : Status) → TellsInput c s t → OfRun c input runnables s → OfRun c input runnables t → s ≡ t
  one_of_run runnables s t telling (inl ((o, x, tells), within)) (inl ((q, y, told), too)) =
      one_of_runs c runs (begins_first runnables) (one_start runnables) input s t o q x tells y told
  one_of_run runnables s t telling (inl (ran, within)) (inr (f, taken)) =
      let told = telling (inr f) in
      absurd (too_many c told.0 told.1 within taken)
  one_of_run runnables s t telling (inr (e, taken)) (inl (ran, within)) =
      let told = telling (inl e) in
      absurd (too_many c told.0 told.1 within taken)
  one_of_run runnables s t telling (inr (e, taken)) (inr (f, too)) = e ∙ sym f

pub one_status : OneRun → HasOneStatus
one_status runs c input s t found told quiet other also telling x y =
    one_fate runnable_files (OfRun c input) Any (λ bytes f g fit p q. one_bad bytes f g p q) found s t
    (λ xs ys p q a b. one_of_run runs c input ys s t telling (subst (λ zs. OfRun c input zs s) (same_values object_limit HasRunnable IsBadRunnable BadFile (one_runnable runs.starts) 0 found xs ys p q) a) b)
    (any found) other also (fate c input found told quiet s x) (fate c input found told quiet t y)
