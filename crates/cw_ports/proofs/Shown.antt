-- How the run of an image ends, by how that of the processor did, and by what the ports told.
use Rattle.std.proofs.Common.{◌≡◌, ℕ, ◌+◌, ◌*◌, ◌-◌, ◌^◌, ◌<◌, ◌≤◌, Bool, true, false, List, [], ◌∷◌, ◌++◌, length, length-append, take, drop, replicate, Option, None, Some, refl, ap, arith, sym, ◌∙◌, inl, inr, subst, append_assoc, true≢false}
use Rattle.std.proofs.Math.Bool.{or_assoc}
use Rattle.std.specs.Prelude.{◌==◌, ◌||◌, ◌⊎◌, not, option_map, if◌then◌else◌}
use Rattle.std.proofs.lemmas.List.Elements.{All-nil, All-cons, All-replicate}
use Rattle.cw_io.specs.Bytes.{before_told, after_told}
use Rattle.cw_i86.specs.State.{State}
use Rattle.cw_i86.specs.MachineRun.{Event, Silent, Takes, Gives, Observed, IsAtWork, IsOver, End, Running, Bad, Divided, end_told, end_after, written, left_after, left_behind, FitsInput, asks_input, is_of_input}
use Rattle.cw_cpu86.specs.Ports.{Device, AreBytes, MayBeLeft, FitsUntold, FitsTold, at_end_behind, Follows}
use Rattle.cw_cpu86.specs.Answers.{RunAnswers, RunCounts, Went, NoneTold, events_of, steps_shown, end_shown}
use Rattle.cw_cpu86.specs.declared.cpu.RunEnd.{RunEnd}
use Rattle.cw_cpu86.specs.declared.cpu.RunEnd.TheVariants as ends
use Rattle.std.proofs.lemmas.List.{append_cancel_left, length-replicate}
use Rattle.std.proofs.Math.Seq.{take-append_seam}
use Rattle.cw_ports.specs.Pieces.{Took, Wrote, input_limit}
use Rattle.cw_io.specs.Count.{Rose}
use Rattle.cw_ports.specs.Later.{InputSide, InputGoes, InputFrom, SupplyCause, OutputSide, OutputGoes, OutputFrom, OutputLater, OutputCause, IsSettled, SidesLater, faults_of}
use Rattle.cw_ports.specs.Laws.{output_goes_on, before_nothing}
use Rattle.cw_ports.specs.Supplies.{is_open, is_too_long}
use Rattle.cw_ports.specs.declared.supply.Supply.{Supply}
use Rattle.cw_ports.specs.Running.{IsInput, AsksInput, Ran, Taken, Tells, Outside, Cut, RunShows, reached}
use Rattle.cw_ports.specs.Concluding.{IsFresh, outside_of, Means, IsQuiet, EndsAlike, Concludes}
use Rattle.cw_ports.specs.declared.supply.Supply.TheVariants.{Open, Faulty}
use Rattle.cw_ports.specs.declared.supply.Supply.TheVariants as supplies
use Rattle.cw_ports.specs.declared.running.ImageEnd.{ImageEnd}
use Rattle.cw_ports.specs.declared.running.ImageEnd.TheVariants.{Ended, Stopped, Unfinished, BadCode, Divided, InputFault, OutFault, TooLong}
use Rattle.cw_ports.proofs.Pieces.{settled_open}

-- so many steps from a state, what they said to the ports, and the ports before and after them and after an instruction that was refused
record Seen (s : State) (n : ℕ) (d d' : Device) (is_asking : Bool) (end : End) (events : List Event) : Type 0 where
  fits : FitsTold d.left d.at_end events
  at_end : d'.at_end ≡ at_end_behind events d.at_end
  stands : IsAtWork s n events end ⊎ IsOver s n events end
  left : d'.left ≡ option_map (left_behind events) d.left
  held : d'.held ≡ after_told d.held (written events)
  used : d'.is_used ≡ (d.is_used || (asks_input events || is_asking))
  cut : d'.is_cut ≡ (d.is_cut || is_asking)
  asks : is_asking ≡ true → AsksInput s n events

or-none : (b : Bool) → (b || false) ≡ b
or-none true = refl
or-none false = refl

by_went : (s : State) (n k : ℕ) (d : Device) (t : State) (e : Device) (end : End) (w : Went k s d t e) → IsAtWork s n w.events end ⊎ IsOver s n w.events end → Seen s n d e false end w.events
by_went s n k d t e end w is = record {
  fits = w.follows.fits;
  at_end = w.follows.at_end;
  stands = is;
  left = w.follows.left;
  held = w.follows.held;
  used = w.follows.is_used ∙ ap (λ b. d.is_used || b) (sym (or-none (asks_input w.events)));
  cut = w.follows.is_cut ∙ sym (or-none d.is_cut);
  asks = λ is. absurd (true≢false (sym is));
}

told_end : (d d' : Device) (events : List Event) → NoneTold d → Follows events d d' → end_told d'.kind d'.segment (d'.line_low + 256 * d'.line_high) ≡ end_after events
told_end d d' events none f = rw (f.kind, f.segment, f.line_low, f.line_high, none.kind, none.segment, none.line_low, none.line_high) refl

-- what is seen of a run, and that it asks for nothing more unless a port refused
abbrev IsSeen : (end : RunEnd) (limit : ℕ) (s s' : State) (d d' : Device) → RunAnswers end limit s d s' d' → Type 0
IsSeen end limit s s' d d' answers =
    (is_asking : Bool) × IsQuiet end is_asking × Seen s (steps_shown end limit) d d' is_asking (end_shown end d') (events_of end limit s d s' d' answers)

seen : (end : RunEnd) (limit : ℕ) (s s' : State) (d d' : Device) → NoneTold d → (answers : RunAnswers end limit s d s' d') → IsSeen end limit s s' d d' answers
seen ends.Limit limit s s' d d' none w = (false, refl, by_went s limit limit d s' d' Running w (inl (s', w.runs, refl)))
seen (ends.Halted n) limit s s' d d' none (some, within, (t, w, steps)) =
    (false, refl, by_went s limit (n - 1) d t d' _ w (inr (n - 1, t, omega (arith, some, within), w.runs, inl (s', steps, told_end d d' w.events none w.follows))))
seen (ends.BadCode offset n) limit s s' d d' none (within, w, steps, is) =
    (false, refl, by_went s limit n d s' d' (Bad offset) w (inr (n, s', within, w.runs, inr (inl (steps, ap Bad is)))))
seen (ends.Divide offset n) limit s s' d d' none (within, w, steps, is) =
    (false, refl, by_went s limit n d s' d' (Divided offset) w (inr (n, s', within, w.runs, inr (inr (steps, ap Divided is)))))
seen (ends.PortFault n) limit s s' d d' none (within, (e, w, inl (port, stands, is))) = (
  is_of_input port,
  tt,
  record {
    fits = w.follows.fits;
    at_end = ap (λ x. x.at_end) is ∙ w.follows.at_end;
    stands = inl (s', w.runs, refl);
    left = ap (λ x. x.left) is ∙ w.follows.left;
    held = ap (λ x. x.held) is ∙ w.follows.held;
    used = ap (λ x. x.is_used) is ∙ ap (λ b. b || is_of_input port) w.follows.is_used ∙ or_assoc d.is_used (asks_input w.events) (is_of_input port);
    cut = ap (λ x. x.is_cut) is ∙ ap (λ b. b || is_of_input port) w.follows.is_cut;
    asks = λ asked. (s', port, w.runs, stands, asked);
  },
)
seen (ends.PortFault n) limit s s' d d' none (within, (e, w, inr (port, stands, is))) = (
  false,
  tt,
  subst (λ x. Seen s n d x false Running w.events) (sym is) (by_went s n n d s' e Running w (inl (s', w.runs, refl))),
)

-- ---- the input

-- bytes that fit by what is known of the end are those of some input
abbrev pub Fitting : Type 0
Fitting =
    (events : List Event) (at_end : Option Bool) (later : List ℕ) → FitsUntold at_end events → AreBytes later → MayBeLeft (at_end_behind events at_end) later
    → (input : List ℕ) × AreBytes input × MayBeLeft at_end input × FitsInput input events × (left_behind events input ≡ later)

-- what may be left at last: where nothing is known of the end, at least so many bytes
some_later : (at_end : Option Bool) (n : ℕ) → (later : List ℕ) × AreBytes later × MayBeLeft at_end later × (at_end ≡ None → n ≤ length later)
some_later None n = (replicate n 0, All-replicate (λ b. b < 256) n 0 (omega arith), tt, λ none. omega (arith, length-replicate {A = ℕ} n 0))
some_later (Some true) n = ([], All-nil (λ b. b < 256), refl, λ none. absurd (cc))
some_later (Some false) n =
    let some : 0 < length {A = ℕ} (0 ∷ []) = omega arith in
    (0 ∷ [], All-cons (λ b. b < 256) 0 [] (omega arith) (All-nil (λ b. b < 256)), some, λ none. absurd (cc))

after_shorter : (is : Bool) (input : List ℕ) → length (if is then drop 1 input else input) ≤ length input
after_shorter true [] = omega arith
after_shorter true (x ∷ input) = omega arith
after_shorter false input = omega arith

behind_shorter : (events : List Event) (input : List ℕ) → length (left_behind events input) ≤ length input
behind_shorter [] input = omega arith
behind_shorter (Silent ∷ events) input = behind_shorter events input
behind_shorter (Gives port value ∷ events) input = behind_shorter events input
behind_shorter (Takes port value ∷ events) input = omega (arith, behind_shorter events (left_after port input), after_shorter (port == 0x10) input)

-- The input of a run: the told one, or one that is made of what was taken, of at least so many bytes where nothing is known of its end.
pub record HasInput (left : Option (List ℕ)) (events : List Event) (n : ℕ) : Type 0 where
  pub input : List ℕ
  pub is_input : IsInput left input
  pub fits : FitsInput input events
  pub long : left ≡ None → at_end_behind events None ≡ None → n ≤ length input

has_input : Fitting → (left : Option (List ℕ)) (events : List Event) (n : ℕ) → FitsTold left None events → HasInput left events n
has_input fitting (Some told) events n fits = record { input = told; is_input = refl; fits = fits; long = λ none. absurd (cc) }
has_input fitting None events n fits =
    let l = some_later (at_end_behind events None) n in
    let k = fitting events None l.0 fits l.1 l.2 in
    record {
      input = k.0;
      is_input = k.1;
      fits = k.3;
      long = λ none open_end. omega (arith, l.3 open_end, behind_shorter events k.0, ap length k.4);
    }

-- ---- with what was taken

no_more : (left left' : Option (List ℕ)) (taken : ℕ) → Took left left' 0 taken → taken ≡ 0 → left' ≡ left
no_more left left' taken ([], is, count) none = sym (is ∙ before_nothing left')
no_more left left' taken (x ∷ bytes, is, count) none = absurd (omega (arith, count, none))

ran : (s : State) (input : List ℕ) (n : ℕ) (d d' : Device) (is_asking : Bool) (end : End) (events : List Event) (left left' : Option (List ℕ)) (hand : List ℕ) (taken : ℕ)
    → Seen s n d d' is_asking end events → FitsInput input events → d.left ≡ left → d.is_used ≡ false → d'.left ≡ before_told hand left' → length hand ≤ 4096 → Took left left' 0 taken → (d'.is_used ≡ false → taken ≡ 0)
    → Ran s input n left left' is_asking (record { output = written events; end = end })
ran s input n d d' is_asking end events left left' hand taken seen fits is fresh in_hand piece took unused = record {
  shows = record { events = events; fits = fits; output = refl; end = seen.stands };
  ahead = record {
    hand = hand;
    piece = piece;
    rest = ap (option_map (left_behind events)) (sym is) ∙ sym seen.left ∙ in_hand;
    untouched = λ none. no_more left left' taken took (unused (seen.used ∙ ap (λ b. b || (asks_input events || is_asking)) fresh ∙ none));
  };
  asks = seen.asks;
}

-- What the ports keep: what they tell is what is in hand and what the source has left, and what the sink holds and what waits for it.
pub record Keeps (d : Device) (b : InputSide) (p : OutputSide) (gathered : ℕ) (hand waiting : List ℕ) : Type 0 where
  pub left : d.left ≡ before_told hand b.left
  pub piece : length hand ≤ 4096
  pub held : d.held ≡ after_told p.held waiting
  pub none_waits : gathered ≡ 0 → after_told p.held waiting ≡ p.held
  pub unused : d.is_used ≡ false → b.taken ≡ 0
  pub cut : is_open b.supply ≡ false → d.is_cut ≡ true
  pub unknown : is_open b.supply ≡ false → d.at_end ≡ None
  pub dry : b.supply ≡ Faulty → hand ≡ []

-- an instruction that a port refused is one of those that were allowed
abbrev IsWithin : RunEnd → (steps : ℕ) → Type 0
IsWithin (ends.PortFault n) steps = n < steps
IsWithin end steps = Unit {0}

shown_within : (end : RunEnd) (limit : ℕ) (s s' : State) (d d' : Device) → RunAnswers end limit s d s' d' → (steps_shown end limit ≤ limit) × IsWithin end limit
shown_within ends.Limit limit s s' d d' answers = (omega arith, tt)
shown_within (ends.Halted n) limit s s' d d' answers = (omega arith, tt)
shown_within (ends.BadCode offset n) limit s s' d d' answers = (omega arith, tt)
shown_within (ends.Divide offset n) limit s s' d d' answers = (omega arith, tt)
shown_within (ends.PortFault n) limit s s' d d' answers = (omega (arith, answers.0), answers.0)

-- what a run from ports to which nothing was told shows and takes, as the ports stand then
pub record Came (end : RunEnd) (steps : ℕ) (s : State) (events : List Event) (d' : Device) (a : InputSide) (o : OutputSide) (b : InputSide) (p : OutputSide) (gathered : ℕ) : Type 0 where
  pub is_asking : Bool
  pub quiet : IsQuiet end is_asking
  pub within : (steps_shown end steps ≤ steps) × IsWithin end steps
  pub input : List ℕ
  pub is_input : IsInput a.left input
  pub fits : FitsInput input events
  pub long : a.left ≡ None → d'.at_end ≡ None → input_limit + 1 ≤ length input
  pub ran : Ran s input (steps_shown end steps) a.left b.left is_asking (record { output = written events; end = end_shown end d' })
  pub dry : b.supply ≡ Faulty → ran.ahead.hand ≡ []
  pub cut : d'.is_cut ≡ is_asking
  pub held : d'.held ≡ after_told o.held (written events)
  pub took : Took a.left b.left 0 b.taken
  pub cause : SupplyCause b.supply a.faults b
  pub whole : o.is_broken ≡ false
  pub later : OutputLater o p
  pub counts : RunCounts end 0 (faults_of b.supply p.is_broken)
  pub settled : IsSettled b.supply gathered p.is_broken

no_faults : (supply : Supply) (is_broken : Bool) → supply ≡ Open → is_broken ≡ false → faults_of supply is_broken ≡ 0
no_faults supply is_broken is whole = ap (λ x. faults_of x is_broken) is ∙ ap (faults_of Open) whole

counts_from : (end : RunEnd) (before before' now : ℕ) → before ≡ before' → RunCounts end before now → RunCounts end before' now
counts_from end before before' now same counts = subst (λ n. RunCounts end n now) same counts

pub came : Fitting → (end : RunEnd) (steps : ℕ) (s s' : State) (d d' : Device) (a : InputSide) (o : OutputSide) (gathered : ℕ) (b : InputSide) (p : OutputSide) (gathered' : ℕ) (hand waiting : List ℕ)
    → Keeps d' b p gathered' hand waiting → IsFresh d a o → (answers : RunAnswers end steps s d s' d') → RunCounts end (faults_of a.supply o.is_broken) (faults_of b.supply p.is_broken) → SidesLater a o gathered b p gathered'
    → Came end steps s (events_of end steps s d s' d' answers) d' a o b p gathered'
unfolding ran
came fitting end steps s s' d d' a o gathered b p gathered' hand waiting keeps fresh answers counts later =
    let events = events_of end steps s d s' d' answers in
    let goes : InputGoes a b = subst (λ x. InputFrom x a b) fresh.input.supply later.0 (omega (arith, fresh.input.taken)) in
    let took : Took a.left b.left 0 b.taken = subst (λ n. Took a.left b.left n b.taken) fresh.input.taken goes.took in
    let told = seen end steps s s' d d' fresh.none answers in
    let fits : FitsTold a.left None events = subst (λ e. FitsTold a.left e events) fresh.input.unknown (subst (λ l. FitsTold l d.at_end events) fresh.input.same_left told.2.fits) in
    let over = has_input fitting a.left events (input_limit + 1) fits in
    record {
      is_asking = told.0;
      quiet = told.1;
      within = shown_within end steps s s' d d' answers;
      input = over.input;
      is_input = over.is_input;
      fits = over.fits;
      long = λ untold known. over.long untold (sym (told.2.at_end ∙ ap (at_end_behind events) fresh.input.unknown) ∙ known);
      ran = ran s over.input (steps_shown end steps) d d' told.0 (end_shown end d') events a.left b.left hand b.taken told.2 over.fits fresh.input.same_left fresh.input.unused keeps.left keeps.piece took keeps.unused;
      dry = keeps.dry;
      cut = told.2.cut ∙ ap (λ x. x || told.0) fresh.input.uncut;
      held = told.2.held ∙ ap (λ h. after_told h (written events)) fresh.output.same_held;
      took = took;
      cause = goes.cause;
      whole = fresh.output.whole;
      later = later.1;
      counts = counts_from end _ _ _ (no_faults a.supply o.is_broken fresh.input.supply fresh.output.whole) counts;
      settled = later.2 (settled_open a.supply gathered o.is_broken (ap is_open fresh.input.supply));
    }

-- ---- what was written

abbrev value_of : Option (List ℕ) → List ℕ
value_of None = []
value_of (Some xs) = xs

some_is : (x y : List ℕ) → ◌≡◌ {A = Option (List ℕ)} (Some x) (Some y) → x ≡ y
some_is x y e = ap value_of e

-- what a sink got of what was told is a first part of it
first_part : (old new : Option (List ℕ)) (text rest : List ℕ) → Wrote old new → after_told new rest ≡ after_told old text → (count : ℕ) × (new ≡ after_told old (take count text))
first_part None new text rest (bytes, is) whole = (0, is)
first_part (Some held) new text rest (bytes, is) whole =
    let made : ◌≡◌ {A = Option (List ℕ)} (Some ((held ++ bytes) ++ rest)) (Some (held ++ text)) = ap (λ t. after_told t rest) (sym is) ∙ whole in
    let same : held ++ (bytes ++ rest) ≡ held ++ text = sym (append_assoc held bytes rest) ∙ some_is _ _ made in
    let cut : bytes ++ rest ≡ text = append_cancel_left held _ _ same in
    (length bytes, is ∙ ap (λ xs. Some (held ++ xs)) (sym (ap (take (length bytes)) (sym cut) ∙ take-append_seam bytes rest)))

taken_of : (left left' : Option (List ℕ)) (n : ℕ) → Took left left' 0 n → Taken left left' n
taken_of left left' n (bytes, is, count) = (bytes, is, omega (arith, count))

-- ---- statuses

-- what shows, and behind how many instructions
abbrev Shown : RunEnd → (shown : End) → (status : ImageEnd) → State → (input : List ℕ) → (steps : ℕ) → (x y : Outside) → Type 0
Shown end shown status s input steps x y =
    (shows : RunShows status s input steps x y) × (reached status s input steps x y shows ≡ steps_shown end steps) × EndsAlike end shown status s input steps x y shows

-- a run that came to its end
shows_end : (status : ImageEnd) (end : RunEnd) (told : End) (s : State) (input : List ℕ) (steps : ℕ) (a b : InputSide) (o r : OutputSide) (shown : Observed) → steps ≡ steps_shown end steps → shown.end ≡ told
    → Ran s input steps a.left b.left false shown → Tells status shown.end → r.held ≡ after_told o.held shown.output → Took a.left b.left 0 b.taken → b.faults ≡ a.faults → b.taken ≤ input_limit → r.faults ≡ o.faults
    → Shown end told status s input steps (outside_of a o) (outside_of b r)
shows_end Ended end told s input steps a b o r shown all is ran tells held took faults within same = ((shown, ran, tells, held, (b.taken, taken_of a.left b.left b.taken took, within), faults, same), all, is)
shows_end (Stopped kind segment line) end told s input steps a b o r shown all is ran tells held took faults within same = ((shown, ran, tells, held, (b.taken, taken_of a.left b.left b.taken took, within), faults, same), all, is)
shows_end Unfinished end told s input steps a b o r shown all is ran tells held took faults within same = ((shown, ran, tells, held, (b.taken, taken_of a.left b.left b.taken took, within), faults, same), all, is)
shows_end (BadCode offset) end told s input steps a b o r shown all is ran tells held took faults within same = ((shown, ran, tells, held, (b.taken, taken_of a.left b.left b.taken took, within), faults, same), all, is)
shows_end (Divided offset) end told s input steps a b o r shown all is ran tells held took faults within same = ((shown, ran, tells, held, (b.taken, taken_of a.left b.left b.taken took, within), faults, same), all, is)
shows_end _ end told s input steps a b o r shown all is ran tells held took faults within same = absurd tells

open_if : (supply : Supply) (is_broken : Bool) → faults_of supply is_broken ≡ 0 → supply ≡ Open
open_if Open is_broken none = refl
open_if Faulty is_broken none = absurd (omega (arith, none))
open_if supplies.TooLong is_broken none = absurd (omega (arith, none))

faulty_if : (supply : Supply) (is_broken : Bool) → is_broken ≡ false → is_too_long supply ≡ false → Rose 0 (faults_of supply is_broken) → supply ≡ Faulty
faulty_if Open true is other rose = absurd (true≢false is)
faulty_if Open false is other rose = absurd (omega (arith, rose))
faulty_if Faulty is_broken is other rose = refl
faulty_if supplies.TooLong is_broken is other rose = absurd (true≢false other)

too_long_if : (supply : Supply) → is_too_long supply ≡ true → supply ≡ supplies.TooLong
too_long_if Open is = absurd (true≢false (sym is))
too_long_if Faulty is = absurd (true≢false (sym is))
too_long_if supplies.TooLong is = refl

-- where the sink failed or bytes are gathered for it, the source is as it was
open_unless : (supply : Supply) (gathered : ℕ) (is_broken : Bool) → IsSettled supply gathered is_broken → (gathered ≡ 0 → is_broken ≡ false → ⊥) → supply ≡ Open
open_unless Open gathered is_broken settled busy = refl
open_unless Faulty gathered is_broken settled busy = absurd (busy settled.0 settled.1)
open_unless supplies.TooLong gathered is_broken settled busy = absurd (busy settled.0 settled.1)

broken_if : (is_broken : Bool) → false ≡ not is_broken → is_broken ≡ true
broken_if true is = refl
broken_if false is = absurd (true≢false (sym is))

whole_if : (is_broken : Bool) → true ≡ not is_broken → is_broken ≡ false
whole_if true is = absurd (true≢false is)
whole_if false is = refl

-- a sink that is whole later was so before
whole_before : (is_broken : Bool) (p r : OutputSide) → p.is_broken ≡ is_broken → OutputFrom is_broken p r → r.is_broken ≡ false → p.is_broken ≡ false
whole_before true p r is later whole = ap (λ x. x.is_broken) (sym later) ∙ whole
whole_before false p r is later whole = is

-- an input of which so many bytes were taken has them
has_taken : (left left' : Option (List ℕ)) (input : List ℕ) (n : ℕ) → IsInput left input → Taken left left' n → (left ≡ None → n ≤ length input) → n ≤ length input
has_taken None left' input n is taken long = long refl
has_taken (Some told) None input n is (bytes, same, count) long = absurd (cc)
has_taken (Some told) (Some rest) input n is (bytes, same, count) long =
    let whole : told ≡ bytes ++ rest = some_is _ _ same in
    omega (arith, count, length-append bytes rest, ap length whole, ap length is)

-- what is gathered was written, as far as the sink took it, and is_done says whether that was all
pub record Flushes (p r : OutputSide) (gathered : ℕ) (waiting rest : List ℕ) (is_done : Bool) : Type 0 where
  pub later : OutputLater p r
  pub told : after_told r.held rest ≡ after_told p.held waiting
  pub done : is_done ≡ not r.is_broken
  pub empty : is_done ≡ true → after_told r.held rest ≡ r.held
  pub nothing : gathered ≡ 0 → p.is_broken ≡ false → is_done ≡ true

module _ (steps : ℕ) (s : State) (events : List Event) (d' : Device) (a : InputSide) (o : OutputSide) (b : InputSide) (p : OutputSide) (gathered : ℕ) where
  abbrev CameTo : RunEnd → Type 0
  CameTo end = Came end steps s events d' a o b p gathered

  -- what the image shows where the sink stands so at last
  abbrev ConcludesAs : RunEnd → ImageEnd → OutputSide → Type 0
  ConcludesAs end status r = Concludes end (end_shown end d') status s events steps (outside_of a o) (outside_of b r)

  concludes : (end : RunEnd) (status : ImageEnd) (r : OutputSide) (k : CameTo end) → Shown end (end_shown end d') status s k.input steps (outside_of a o) (outside_of b r) → ConcludesAs end status r
  concludes end status r k shown = record { input = k.input; is_input = k.is_input; fits = k.fits; shows = shown.0; behind = shown.1; alike = shown.2 }

  -- ---- all was written, and no port refused

  quiet_end : (status : ImageEnd) (end : RunEnd) (r : OutputSide) (k : CameTo end) → steps_shown end steps ≡ steps → k.is_asking ≡ false → Tells status (end_shown end d') → faults_of b.supply p.is_broken ≡ 0
      → OutputGoes o r → r.is_broken ≡ false → r.held ≡ d'.held → ConcludesAs end status r
  quiet_end status end r k all none tells quiet goes whole written_all =
      let made : Observed = record { output = written events; end = end_shown end d' } in
      let cause : SupplyCause Open a.faults b = subst (λ x. SupplyCause x a.faults b) (open_if b.supply p.is_broken quiet) k.cause in
      let same : r.faults ≡ o.faults = subst (λ x. OutputCause x o.faults r.faults) whole goes.cause in
      concludes end status r k
      (shows_end status end (end_shown end d') s k.input steps a b o r made (sym all) refl
      (subst (λ n. Ran s k.input n a.left b.left false made) all (subst (λ x. Ran s k.input (steps_shown end steps) a.left b.left x made) none k.ran))
      tells (written_all ∙ k.held) k.took cause.0 cause.1 same)

  -- ---- the sink failed

  broken_end : (end : RunEnd) (r : OutputSide) (rest : List ℕ) (k : CameTo end) → OutputGoes o r → r.is_broken ≡ true → after_told r.held rest ≡ d'.held → b.supply ≡ Open → ConcludesAs end OutFault r
  broken_end end r rest k goes broken whole is_open =
      let cause : SupplyCause Open a.faults b = subst (λ x. SupplyCause x a.faults b) is_open k.cause in
      let part = first_part o.held r.held (written events) rest goes.wrote (whole ∙ k.held) in
      let rose : Rose o.faults r.faults = subst (λ x. OutputCause x o.faults r.faults) broken goes.cause in
      let made : Observed = record { output = written events; end = end_shown end d' } in
      concludes end OutFault r k
      ((steps_shown end steps, k.within.0, k.is_asking, made, k.ran, part, (b.taken, taken_of a.left b.left b.taken k.took, cause.1), cause.0, rose), refl, (k.quiet, refl))

  -- ---- the source failed, or gave a byte too many

  abbrev Asked : (n : ℕ) (input : List ℕ) → Bool → Type 0
  Asked n input is_asking = Ran s input n a.left b.left is_asking (record { output = written events; end = Running })

  -- it was asked, with the same bytes in hand
  asked : (n : ℕ) (input : List ℕ) (is_asking : Bool) → is_asking ≡ true → (r : Asked n input is_asking) → (t : Asked n input true) × (r.ahead.hand ≡ [] → t.ahead.hand ≡ [])
  asked n input true is r = (r, λ dry. dry)
  asked n input false is r = absurd (true≢false (sym is))

  module _ (n : ℕ) (k : CameTo (ends.PortFault n)) (r : OutputSide) (is_cut : d'.is_cut ≡ true) (written_all : r.held ≡ d'.held) where
    abbrev cut : Cut s k.input steps (outside_of a o) (outside_of b r)
    cut = record {
      n = n;
      within = k.within.1;
      shown = record { output = written events; end = Running };
      ran = (asked n k.input k.is_asking (sym k.cut ∙ is_cut) k.ran).0;
      running = refl;
      output = written_all ∙ k.held;
    }

    faulty_end : b.supply ≡ Faulty → ConcludesAs (ends.PortFault n) InputFault r
    faulty_end is =
        let cause : SupplyCause Faulty a.faults b = subst (λ x. SupplyCause x a.faults b) is k.cause in
        concludes (ends.PortFault n) InputFault r k
        (((cut, (asked n k.input k.is_asking (sym k.cut ∙ is_cut) k.ran).1 (k.dry is)), (b.taken, taken_of a.left b.left b.taken k.took, cause.1), cause.0), refl, tt)

    too_long_end : b.supply ≡ supplies.TooLong → d'.at_end ≡ None → ConcludesAs (ends.PortFault n) TooLong r
    too_long_end is unknown =
        let cause : SupplyCause supplies.TooLong a.faults b = subst (λ x. SupplyCause x a.faults b) is k.cause in
        let taken : Taken a.left b.left (input_limit + 1) = subst (λ m. Taken a.left b.left m) cause (taken_of a.left b.left b.taken k.took) in
        let long : input_limit + 1 ≤ length k.input = has_taken a.left b.left k.input (input_limit + 1) k.is_input taken (λ untold. k.long untold unknown) in
        concludes (ends.PortFault n) TooLong r k ((cut, taken, omega (arith, long)), refl, tt)

  -- ---- each way to end

  too_many_counted : b.supply ≡ supplies.TooLong → faults_of b.supply p.is_broken ≡ 0 → ⊥
  too_many_counted is counts =
      let bad : 2 ^ 64 - 1 ≡ 0 = ap (λ x. faults_of x p.is_broken) (sym is) ∙ counts in
      omega (arith, bad)

  -- a byte too many was taken, and nothing more is written
  pub concludes_too_long : {hand waiting : List ℕ} (end : RunEnd) → Keeps d' b p gathered hand waiting → is_too_long b.supply ≡ true → CameTo end → ConcludesAs end TooLong p
  concludes_too_long {hand} {waiting} (ends.PortFault n) keeps too_long k =
      let is = too_long_if b.supply too_long in
      let settled : (gathered ≡ 0) × (p.is_broken ≡ false) = subst (λ x. IsSettled x gathered p.is_broken) is k.settled in
      too_long_end n k p (keeps.cut (ap is_open is)) (sym (keeps.none_waits settled.0) ∙ sym keeps.held) is (keeps.unknown (ap is_open is))
  concludes_too_long _ keeps too_long k = absurd (too_many_counted (too_long_if b.supply too_long) k.counts)

  goes_out : (r : OutputSide) (end : RunEnd) → CameTo end → OutputLater p r → OutputGoes o r
  goes_out r end k later = subst (λ x. OutputFrom x o r) k.whole (output_goes_on o p r k.later later)

  module _ (r : OutputSide) {hand waiting rest : List ℕ} (keeps : Keeps d' b p gathered hand waiting) where
    -- not all was written
    pub concludes_broken : (end : RunEnd) → Flushes p r gathered waiting rest false → CameTo end → ConcludesAs end OutFault r
    concludes_broken end flushes k =
        broken_end end r rest k (goes_out r end k flushes.later) (broken_if r.is_broken flushes.done) (flushes.told ∙ sym keeps.held)
        (open_unless b.supply gathered p.is_broken k.settled (λ none whole. true≢false (sym (flushes.nothing none whole))))

    module _ (flushes : Flushes p r gathered waiting rest true) where
      abbrev whole : r.is_broken ≡ false
      whole = whole_if r.is_broken flushes.done

      abbrev written_all : r.held ≡ d'.held
      written_all = sym (flushes.empty refl) ∙ flushes.told ∙ sym keeps.held

      -- all was written
      pub concludes_written : (status : ImageEnd) (end : RunEnd) → is_too_long b.supply ≡ false → Means end (end_shown end d') status → CameTo end → ConcludesAs end status r
      concludes_written status (ends.PortFault n) within means k =
          let is = faulty_if b.supply p.is_broken (whole_before p.is_broken p r refl flushes.later whole) within k.counts.1 in
          subst (λ x. ConcludesAs (ends.PortFault n) x r) (sym means) (faulty_end n k r (keeps.cut (ap is_open is)) written_all is)
      concludes_written status ends.Limit within means k = quiet_end status ends.Limit r k refl k.quiet means k.counts (goes_out r ends.Limit k flushes.later) whole written_all
      concludes_written status (ends.Halted n) within means k = quiet_end status (ends.Halted n) r k refl k.quiet means k.counts (goes_out r (ends.Halted n) k flushes.later) whole written_all
      concludes_written status (ends.BadCode offset n) within means k =
          quiet_end status (ends.BadCode offset n) r k refl k.quiet means k.counts (goes_out r (ends.BadCode offset n) k flushes.later) whole written_all
      concludes_written status (ends.Divide offset n) within means k =
          quiet_end status (ends.Divide offset n) r k refl k.quiet means k.counts (goes_out r (ends.Divide offset n) k flushes.later) whole written_all
