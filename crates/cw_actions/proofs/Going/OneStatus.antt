-- Two statuses never come of one call that runs texts, or finds that their image is not to run.
use Rattle.std.proofs.Common.{◌≡◌, ◌≢◌, ◌⊎◌, ℕ, ◌+◌, List, map, length, Option, Some, refl, sym, ap, ◌∙◌, subst, inl, inr, arith}
use Rattle.cw_i86.specs.MachineRun as run
use Rattle.cw_ports.specs.Pieces.{input_limit}
use Rattle.cw_ports.specs.Running.{Taken, TakenWithin}
use Rattle.cw_unit.specs.declared.unit.Unit.{Unit as SourceUnit}
use Rattle.cw_compile.specs.Texts.{text_limit}
use Rattle.cw_link.specs.declared.fault.LinkFault.{LinkFault}
use Rattle.cw_build.specs.Compiled.{contents_of_units}
use Rattle.cw_build.specs.Linking.{Links, IsLinkFault, image_of}
use Rattle.cw_files.specs.Texts.{HasUnit}
use Rattle.cw_files.specs.Reading.{AllTaken, StopsTexts}
use Rattle.cw_correct.specs.Calls.{Call, told_files, NoFault}
use Rattle.cw_correct.specs.Running.{begins_as, ImageShows, Tells, Ran}
use Rattle.cw_correct.specs.Going.{Telling, RunsTexts}
use Rattle.cw_say.specs.declared.status.Status.{Status}
use Rattle.cw_say.specs.declared.status.Status.TheVariants.{Ended, Refused, Unlinked, Stopped, Unfinished, NoFile, Outside, NoMemory, TooLong, BadCode, Divided}
use Rattle.cw_say.specs.declared.status.Which.TheVariants.{Store, Input, Out, Say}
use Rattle.cw_say.specs.declared.status.Long.TheVariants.{File}
use Rattle.cw_say.specs.declared.status.Long.TheVariants as long
use Rattle.cw_correct.specs.Files.{counts_before, counts_after, AllAccepted}
use Rattle.cw_actions.specs.Going.Laws.{HasOneStatus}
use Rattle.cw_actions.proofs.Resulting.Links.{links_not_faulty, one_fault}
use Rattle.cw_actions.proofs.Resulting.Readings.{Found, all_told}
use Rattle.cw_actions.proofs.Resulting.Outcomes.{all_taken, all_run, stop_runs}
use Rattle.cw_actions.proofs.Resulting.Fates.{Fate, stopped, one_fate, Any, any}
use Rattle.cw_actions.proofs.Resulting.Units.{units, same_units}
use Rattle.cw_actions.specs.Resulting.Texts.{OneOfText}
use Rattle.cw_actions.proofs.Going.Given.{OneRun}
use Rattle.cw_actions.proofs.Executing.Ends.{not_too_long, TellsInput, too_many, one_of_runs}

-- ---- what comes of a call

-- something holds, where the status tells that an image ran as far as it could
abbrev pub WhereRan : Status → Type 0 → Type 0
WhereRan Ended Holds = Holds
WhereRan (Stopped kind segment line) Holds = Holds
WhereRan (Unfinished ran) Holds = Holds
WhereRan (BadCode offset) Holds = Holds
WhereRan (Divided offset) Holds = Holds
WhereRan (TooLong long.Input) Holds = Holds
WhereRan status Holds = Unit {0}

-- The files have units, and these link; of them and the status something holds, where their image is not to run.
pub record IsNotRun (Never : List SourceUnit → Status → Type 0) (c : Call) (status : Status) : Type 0 where
  pub units : List SourceUnit
  pub taken : AllTaken text_limit HasUnit (told_files c) units
  pub links : Links units c.limits
  pub never : Never units status

-- a status of texts that run, where something holds of the units, or of texts that are not to run
abbrev pub Comes : (Also : List SourceUnit → Type 0) → (Never : List SourceUnit → Status → Type 0) → Call → (input : List ℕ) → Status → Type 0
Comes Also Never c input status = ((telling : Telling) × (runs : RunsTexts telling c input status) × WhereRan status (Also runs.units)) ⊎ IsNotRun Never c status

-- not both hold, and not of two statuses
pub record AreApart (Also : List SourceUnit → Type 0) (Never : List SourceUnit → Status → Type 0) : Type 0 where
  pub one : (us : List SourceUnit) (s t : Status) → Never us s → Never us t → s ≡ t
  pub apart : (us : List SourceUnit) (s : Status) → Never us s → Also us → ⊥

-- Two statuses never come of one call, where the store tells its files, no count rose, and memory was found; and where one is TooLong(Input), the source its input.
abbrev pub HasOneStatusOf : Type 1
HasOneStatusOf =
    (Also : List SourceUnit → Type 0) (Never : List SourceUnit → Status → Type 0) → AreApart Also Never
    → (c : Call) (input : List ℕ) (a b : Status) (found : List (Option (List ℕ))) → told_files c ≡ map Some found → NoFault c.before c.after → a ≢ NoMemory → b ≢ NoMemory
    → ((a ≡ TooLong long.Input) ⊎ (b ≡ TooLong long.Input) → (told : List ℕ) × (c.before.left ≡ Some told)) → Comes Also Never c input a → Comes Also Never c input b → a ≡ b

-- ---- by what comes of the files

module _ (Also : List SourceUnit → Type 0) (Never : List SourceUnit → Status → Type 0) (c : Call) (input : List ℕ) where
  -- what comes of units
  abbrev OfUnits : List SourceUnit → Status → Type 0
  OfUnits us s =
      ((fault : LinkFault) × IsLinkFault us c.limits fault × (s ≡ Unlinked fault))
      ⊎ (Links us c.limits × Also us × ((o : run.Observed) × ImageShows (begins_as (image_of us c.limits)) input c.steps o × Tells c.steps s o.end) × TakenWithin c.before.left c.after.left)
      ⊎ (Links us c.limits × Also us × (s ≡ TooLong long.Input) × Taken c.before.left c.after.left (input_limit + 1))
      ⊎ (Links us c.limits × Never us s)

  module _ (texts : OneOfText) (found : List Found) (told : told_files c ≡ all_told found) (quiet : NoFault c.before c.after) where
    abbrev FateOf : Status → Type 0
    FateOf s = Fate (units texts) OfUnits found s

    of_stop : (said : Telling) (s : Status) (x : RunsTexts said c input s) → StopsTexts (told_files c) x.texts (length x.units) (counts_before c) (counts_after c) s → FateOf s
    of_stop said s x stops = stopped (units texts) OfUnits found x.units s (stop_runs (units texts) c found told x.texts x.units x.have_texts x.have_units quiet s stops)

    of_units : (said : Telling) (s : Status) (x : RunsTexts said c input s) → AllAccepted c x.units → OfUnits x.units s → FateOf s
    of_units said s x all of = inr (inr (x.units, all_run (units texts) c found told x.texts x.units x.have_texts x.have_units all, of))

    of_run : (said : Telling) (s : Status) (x : RunsTexts said c input s) → Also x.units → AllAccepted c x.units → Links x.units c.limits → Ran c input (begins_as (image_of x.units c.limits)) x.instructions x.shown s → FateOf s
    of_run said s x also all links ran =
        let within : TakenWithin c.before.left c.after.left = x.within_limit (not_too_long c.steps s x.shown.end ran.tells) in
        of_units said s x all (inr (inl (links, also, (x.shown, subst (λ n. ImageShows (begins_as (image_of x.units c.limits)) input n x.shown) ran.all ran.shows, ran.tells), within)))

    of_call : (said : Telling) (s : Status) (x : RunsTexts said c input s) → WhereRan s (Also x.units) → FateOf s
    of_call said NoMemory x also = inl refl
    of_call said (Refused number fault) x also = of_stop said (Refused number fault) x x.comes
    of_call said (NoFile number) x also = of_stop said (NoFile number) x x.comes
    of_call said (TooLong (File number)) x also = of_stop said (TooLong (File number)) x x.comes
    of_call said (Outside Store) x also = of_stop said (Outside Store) x x.comes
    of_call said (Unlinked fault) x also = of_units said (Unlinked fault) x x.comes.0 (inl (fault, x.comes.1, refl))
    of_call said (TooLong long.Input) x also = of_units said (TooLong long.Input) x x.comes.0 (inr (inr (inl (x.comes.1, also, refl, x.comes.2))))
    of_call said (Outside Input) x also = absurd (quiet.input x.comes.2)
    of_call said (Outside Out) x also = absurd (quiet.out x.comes.2)
    of_call said (Outside Say) x also =
        let (count, proper, is, rose) = x.telling_first.is_first in
        absurd (quiet.say (omega (arith, rose, x.telling_first.closing.later)))
    of_call said Ended x also = of_run said Ended x also x.comes.0 x.comes.1 x.runs_image
    of_call said (Stopped kind segment line) x also = of_run said (Stopped kind segment line) x also x.comes.0 x.comes.1 x.runs_image
    of_call said (Unfinished count) x also = of_run said (Unfinished count) x also x.comes.0 x.comes.1 x.runs_image
    of_call said (BadCode offset) x also = of_run said (BadCode offset) x also x.comes.0 x.comes.1 x.runs_image
    of_call said (Divided offset) x also = of_run said (Divided offset) x also x.comes.0 x.comes.1 x.runs_image
    of_call said _ x also = absurd x.comes

    fate : (s : Status) → Comes Also Never c input s → FateOf s
    fate s (inl (said, x, also)) = of_call said s x also
    fate s (inr x) = inr (inr (x.units, all_taken (units texts) c found told x.units x.taken, inr (inr (inr (x.links, x.never)))))

module _ (runs : OneRun) (Also : List SourceUnit → Type 0) (Never : List SourceUnit → Status → Type 0) (rules : AreApart Also Never) (c : Call) (input : List ℕ) where
  one_of_units : (us : List SourceUnit) (s t : Status) → TellsInput c s t → OfUnits Also Never c input us s → OfUnits Also Never c input us t → s ≡ t
  one_of_units us s t telling (inl (p, x, e)) (inl (q, y, f)) = e ∙ ap Unlinked (one_fault (contents_of_units us) c.limits p q x y) ∙ sym f
  one_of_units us s t telling (inl (p, x, e)) (inr (inl y)) = absurd (links_not_faulty (contents_of_units us) c.limits p y.0 x)
  one_of_units us s t telling (inl (p, x, e)) (inr (inr (inl y))) = absurd (links_not_faulty (contents_of_units us) c.limits p y.0 x)
  one_of_units us s t telling (inl (p, x, e)) (inr (inr (inr y))) = absurd (links_not_faulty (contents_of_units us) c.limits p y.0 x)
  one_of_units us s t telling (inr (inl x)) (inl (q, y, f)) = absurd (links_not_faulty (contents_of_units us) c.limits q x.0 y)
  one_of_units us s t telling (inr (inr (inl x))) (inl (q, y, f)) = absurd (links_not_faulty (contents_of_units us) c.limits q x.0 y)
  one_of_units us s t telling (inr (inr (inr x))) (inl (q, y, f)) = absurd (links_not_faulty (contents_of_units us) c.limits q x.0 y)
  one_of_units us s t telling (inr (inl (links, also, (o, x, tells), within))) (inr (inl (links', also', (q, y, tell), too))) =
      one_of_runs c runs (begins_as (image_of us c.limits)) (runs.starts (image_of us c.limits).code (image_of us c.limits).words) input s t o q x tells y tell
  one_of_units us s t telling (inr (inl (links, also, ran, within))) (inr (inr (inl (links', also', f, taken)))) =
      let bytes = telling (inr f) in
      absurd (too_many c bytes.0 bytes.1 within taken)
  one_of_units us s t telling (inr (inl (links, also, ran, within))) (inr (inr (inr (links', never)))) = absurd (rules.apart us t never also)
  one_of_units us s t telling (inr (inr (inl (links, also, e, taken)))) (inr (inl (links', also', ran, within))) =
      let bytes = telling (inl e) in
      absurd (too_many c bytes.0 bytes.1 within taken)
  one_of_units us s t telling (inr (inr (inl (links, also, e, taken)))) (inr (inr (inl (links', also', f, too)))) = e ∙ sym f
  one_of_units us s t telling (inr (inr (inl (links, also, e, taken)))) (inr (inr (inr (links', never)))) = absurd (rules.apart us t never also)
  one_of_units us s t telling (inr (inr (inr (links, never)))) (inr (inl (links', also', ran, within))) = absurd (rules.apart us s never also')
  one_of_units us s t telling (inr (inr (inr (links, never)))) (inr (inr (inl (links', also', f, taken)))) = absurd (rules.apart us s never also')
  one_of_units us s t telling (inr (inr (inr (links, never)))) (inr (inr (inr (links', never')))) = rules.one us s t never never'

pub one_status_of : OneOfText → OneRun → HasOneStatusOf
one_status_of texts runs Also Never rules c input s t found told quiet other also telling x y =
    one_fate (units texts) (OfUnits Also Never c input) Any (λ text f g fit p q. texts.one_refusal text f g p q) found s t
    (λ us vs p q of too. one_of_units runs Also Never rules c input vs s t telling (subst (λ ws. OfUnits Also Never c input ws s) (same_units texts found us vs p q) of) too)
    (any found) other also (fate Also Never c input texts found told quiet s x) (fate Also Never c input texts found told quiet t y)

-- of a call that does nothing else
where_ran : (s : Status) → WhereRan s (Unit {0})
where_ran (TooLong long.Input) = tt
where_ran _ = tt

pub one_status : HasOneStatusOf → HasOneStatus
one_status given said c input s t found told quiet other also telling x y =
    given (λ us. Unit {0}) (λ us status. ⊥) (record { one = λ us p q never never'. absurd never; apart = λ us p never x. never }) c input s t found told quiet other also telling
    (inl (said, x, where_ran s)) (inl (said, y, where_ran t))
