-- What is told of a watched run of an image, by what its ports conclude and by what was told of the run of the processor.
use Rattle.std.proofs.Common.{◌≡◌, ℕ, suc, ◌+◌, ◌<◌, ◌≤◌, false, List, [], ◌++◌, length, take, refl, sym, ap, subst, ◌∙◌, inl, inr, arith, append-nil}
use Rattle.std.proofs.Math.Seq.{take-length}
use Rattle.std.specs.Prelude.{◌⊎◌}
use Rattle.cw_io.specs.Bytes.{after_told}
use Rattle.cw_io.specs.Count.{Rose}
use Rattle.cw_i86.specs.State.{State}
use Rattle.cw_i86.specs.MachineRun.{Event, End, Running, Observed, FitsInput}
use Rattle.cw_cpu86.specs.Ports.{Device}
use Rattle.cw_cpu86.specs.Answers.{Went, RunAnswers, events_of, steps_shown}
use Rattle.cw_cpu86.specs.declared.cpu.RunEnd.{RunEnd}
use Rattle.cw_cpu86.specs.declared.cpu.RunEnd.TheVariants as ends
use Rattle.cw_ports.specs.Running.{Outside, Ran, TakenWithin, RunShows, reached}
use Rattle.cw_ports.specs.Concluding.{EndsAlike, Concludes}
use Rattle.cw_ports.specs.declared.running.ImageEnd.{ImageEnd}
use Rattle.cw_ports.specs.declared.running.ImageEnd.TheVariants.{Ended, Stopped, Unfinished, BadCode, Divided, InputFault, OutFault, TooLong}
use Rattle.cw_trace.specs.Reports.{Reports, told_at}
use Rattle.cw_trace.specs.Answers.{reach_of, Tells, TellsPart}
use Rattle.cw_trace.specs.declared.watch.Watch.{Watch}
use Rattle.cw_watched.specs.Watched.{TellsOf, TellsRun, Said, WatchedTells, CutShort}
use Rattle.cw_watched.specs.declared.running.WatchedEnd.TheVariants.{Image, SayFault}

-- ---- a run that ended

-- a run that was cut short stood at an instruction that a port refused
reach_cut : (end : RunEnd) (n steps : ℕ) → n ≡ steps_shown end steps → n < steps → reach_of end steps ≡ n + 1
reach_cut (ends.PortFault m) n steps is less = omega (arith, is)
reach_cut _ n steps is less = absurd (omega (arith, is, less))

-- one of which all steps show was not
reach_all : (end : RunEnd) (steps : ℕ) (s : State) (d : Device) (s' : State) (d' : Device) → RunAnswers end steps s d s' d' → steps ≡ steps_shown end steps → reach_of end steps ≡ steps
reach_all (ends.PortFault m) steps s d s' d' answers is = absurd (omega (arith, is, answers.0))
reach_all _ steps s d s' d' answers is = refl

reach_some : (end : RunEnd) (n steps : ℕ) → n ≡ steps_shown end steps → (reach_of end steps ≡ n) ⊎ (reach_of end steps ≡ n + 1)
reach_some (ends.PortFault m) n steps is = inr (omega (arith, is))
reach_some _ n steps is = inl (sym is)

tells_at : (watch : Watch) (s : State) (input : List ℕ) (events : List Event) (text : List ℕ) (k n : ℕ) → FitsInput input events → Reports watch s events k text → k ≡ n → TellsOf watch s input n text
tells_at watch s input events text k n fits reports is = (events, fits, subst (λ m. Reports watch s events m text) is reports)

module _ (watch : Watch) (end : RunEnd) (steps : ℕ) (s : State) (d : Device) (s' : State) (d' : Device) (answers : RunAnswers end steps s d s' d') (a b : Outside) (input : List ℕ) (text : List ℕ)
    (fits : FitsInput input (events_of end steps s d s' d' answers)) (reports : Reports watch s (events_of end steps s d s' d' answers) (reach_of end steps) text) where
  abbrev Told : ImageEnd → Type 0
  Told status = (shows : RunShows status s input steps a b) → reached status s input steps a b shows ≡ steps_shown end steps → TellsRun status watch s input (reached status s input steps a b shows) text

  abbrev at : (n : ℕ) → reach_of end steps ≡ n → TellsOf watch s input n text
  at n is = tells_at watch s input (events_of end steps s d s' d' answers) text (reach_of end steps) n fits reports is

  tells_run : (status : ImageEnd) → Told status
  tells_run InputFault shows behind = at (shows.0.0.n + 1) (reach_cut end shows.0.0.n steps behind shows.0.0.within)
  tells_run TooLong shows behind = at (shows.0.n + 1) (reach_cut end shows.0.n steps behind shows.0.within)
  tells_run OutFault shows behind = elim (reach_some end shows.0 steps behind) [ inl is ↦ inl (at shows.0 is) | inr is ↦ inr (at (shows.0 + 1) is) ]
  tells_run _ shows behind = at steps (reach_all end steps s d s' d' answers behind)

pub told_run : (watch : Watch) (end : RunEnd) (shown : End) (status : ImageEnd) (steps : ℕ) (s : State) (d : Device) (s' : State) (d' : Device) (a b : Outside) (said said' : Said) (answers : RunAnswers end steps s d s' d')
    → Concludes end shown status s (events_of end steps s d s' d' answers) steps a b → Tells watch s (events_of end steps s d s' d' answers) (reach_of end steps) said.held said'.held → said'.faults ≡ said.faults
    → WatchedTells watch (Image status) s steps a b said said'
told_run watch end shown status steps s d s' d' a b said said' answers k tells same = (
  k.input,
  k.is_input,
  record {
    shows = k.shows;
    text = tells.0;
    tells = tells_run watch end steps s d s' d' answers a b k.input tells.0 k.fits tells.1 status k.shows k.behind;
    writes = tells.2;
    same = same;
  },
)

-- ---- a run that was cut short where a report could not be written

module _ (watch : Watch) (n steps : ℕ) (less : n < steps) (s : State) (d : Device) (s' : State) (d' : Device) (went : Went n s d s' d') (a b : Outside) (said said' : Said)
    (part : TellsPart watch s s' went.events n said.held said'.held) (later : said.faults ≤ said'.faults) (rose : Rose said.faults said'.faults) (input : List ℕ) (fits : FitsInput input went.events) where
  cut_by : (shown : Observed) → Ran s input n a.left b.left false shown → shown.end ≡ Running → (count : ℕ) → b.held ≡ after_told a.held (take count shown.output) → ((Rose a.out_faults b.out_faults → ⊥) → count ≡ length shown.output)
      → TakenWithin a.left b.left → b.input_faults ≡ a.input_faults → CutShort watch s input steps a b said said'
  cut_by shown ran running count output whole within_limit no_input_fault = record {
    n = n;
    within = less;
    shown = shown;
    ran = ran;
    running = running;
    count = count;
    output = output;
    whole = whole;
    within_limit = within_limit;
    no_input_fault = no_input_fault;
    text = part.0;
    tells = (went.events, fits, part.1);
    next = told_at watch s';
    tells_next = (went.events, fits, subst (λ m. Reports watch s went.events m (part.0 ++ told_at watch s')) {x = suc n} {y = n + 1} (omega arith) (part.0, part.1, inl (s', went.events, [], went.runs, sym (append-nil went.events), refl)));
    part = part.2.0;
    proper = part.2.1;
    writes = part.2.2;
    later = later;
    rose = rose;
  }

  all_of : (shown : Observed) → b.held ≡ after_told a.held shown.output → b.held ≡ after_told a.held (take (length shown.output) shown.output)
  all_of shown is = is ∙ ap (after_told a.held) (sym (take-length shown.output))

  cut_at : (status : ImageEnd) → (shows : RunShows status s input n a b) → reached status s input n a b shows ≡ n → EndsAlike ends.Limit Running status s input n a b shows → CutShort watch s input steps a b said said'
  cut_at InputFault shows behind alike = absurd (omega (arith, behind, shows.0.0.within))
  cut_at TooLong shows behind alike = absurd (omega (arith, behind, shows.0.within))
  cut_at OutFault shows behind alike =
      let ran : Ran s input n a.left b.left false shows.3 = subst (λ m. Ran s input m a.left b.left false shows.3) behind (subst (λ x. Ran s input shows.0 a.left b.left x shows.3) alike.0 shows.4) in
      cut_by shows.3 ran alike.1 shows.5.0 shows.5.1 (λ none. absurd (none shows.8)) shows.6 shows.7
  cut_at _ shows behind alike = cut_by shows.0 shows.1 alike (length shows.0.output) (all_of shows.0 shows.3) (λ none. refl) shows.4 shows.5

pub cut_short : (watch : Watch) (status : ImageEnd) (n steps : ℕ) (s : State) (d : Device) (s' : State) (d' : Device) (a b : Outside) (said said' : Said) → n < steps → (went : Went n s d s' d') → Concludes ends.Limit Running status s went.events n a b
    → TellsPart watch s s' went.events n said.held said'.held → said.faults ≤ said'.faults → Rose said.faults said'.faults → WatchedTells watch SayFault s steps a b said said'
cut_short watch status n steps s d s' d' a b said said' less went k part later rose =
    (k.input, k.is_input, cut_at watch n steps less s d s' d' went a b said said' part later rose k.input k.fits status k.shows k.behind k.alike)
