-- What the ports tell after one event more.
use Rattle.std.proofs.Common.{◌≡◌, ℕ, List, [], ◌∷◌, ◌++◌, Bool, true, false, refl, sym, ap, subst, ◌∙◌}
use Rattle.std.proofs.lemmas.List.{append-nil, append_assoc}
use Rattle.std.proofs.Math.Bool.{or_assoc}
use Rattle.std.specs.Prelude.{◌==◌, ◌||◌, Option, Some, None, option_map, if◌then◌else◌}
use Rattle.cw_io.specs.Bytes.{after_told}
use Rattle.cw_i86.specs.MachineRun.{Event, Silent, Takes, Gives, left_after, left_behind, FitsInput, is_of_input, asks_input, written_by, written, given_to, last_given}
use Rattle.cw_cpu86.specs.Ports.{Device, Answers, FitsUntold, FitsTold, Follows, IsTaken, at_end_after, at_end_behind}

-- ---- lists of events

written-append : (a b : List Event) → written (a ++ b) ≡ written a ++ written b
written-append [] b = refl
written-append (event ∷ a) b = ap (λ bytes. written_by event ++ bytes) (written-append a b) ∙ sym (append_assoc (written_by event) (written a) (written b))

last_given-append : (port : ℕ) (a b : List Event) (before : ℕ) → last_given port (a ++ b) before ≡ last_given port b (last_given port a before)
last_given-append port [] b before = refl
last_given-append port (event ∷ a) b before = last_given-append port a b (given_to port event before)

left_behind-append : (a b : List Event) (input : List ℕ) → left_behind (a ++ b) input ≡ left_behind b (left_behind a input)
left_behind-append [] b input = refl
left_behind-append (Silent ∷ a) b input = left_behind-append a b input
left_behind-append (Takes port value ∷ a) b input = left_behind-append a b (left_after port input)
left_behind-append (Gives port value ∷ a) b input = left_behind-append a b input

asks_input-append : (a b : List Event) → asks_input (a ++ b) ≡ (asks_input a || asks_input b)
asks_input-append [] b = refl
asks_input-append (Silent ∷ a) b = asks_input-append a b
asks_input-append (Takes port value ∷ a) b =
    ap (λ rest. is_of_input port || rest) (asks_input-append a b) ∙ sym (or_assoc (is_of_input port) (asks_input a) (asks_input b))
asks_input-append (Gives port value ∷ a) b = asks_input-append a b

pub FitsInput-append : (a b : List Event) (input : List ℕ) → FitsInput input a → FitsInput (left_behind a input) b → FitsInput input (a ++ b)
FitsInput-append [] b input fits more = more
FitsInput-append (Silent ∷ a) b input fits more = FitsInput-append a b input fits more
FitsInput-append (Takes port value ∷ a) b input fits more = (fits.0, FitsInput-append a b (left_after port input) fits.1 more)
FitsInput-append (Gives port value ∷ a) b input fits more = FitsInput-append a b input fits more

pub FitsInput-parts : (a b : List Event) (input : List ℕ) → FitsInput input (a ++ b) → FitsInput input a × FitsInput (left_behind a input) b
FitsInput-parts [] b input fits = (tt, fits)
FitsInput-parts (Silent ∷ a) b input fits = FitsInput-parts a b input fits
FitsInput-parts (Takes port value ∷ a) b input fits =
    let parts = FitsInput-parts a b (left_after port input) fits.1 in
    ((fits.0, parts.0), parts.1)
FitsInput-parts (Gives port value ∷ a) b input fits = FitsInput-parts a b input fits

at_end_behind-append : (a b : List Event) (at_end : Option Bool) → at_end_behind (a ++ b) at_end ≡ at_end_behind b (at_end_behind a at_end)
at_end_behind-append [] b at_end = refl
at_end_behind-append (Silent ∷ a) b at_end = at_end_behind-append a b at_end
at_end_behind-append (Takes port value ∷ a) b at_end = at_end_behind-append a b (at_end_after port value at_end)
at_end_behind-append (Gives port value ∷ a) b at_end = at_end_behind-append a b at_end

FitsUntold-append : (a b : List Event) (at_end : Option Bool) → FitsUntold at_end a → FitsUntold (at_end_behind a at_end) b → FitsUntold at_end (a ++ b)
FitsUntold-append [] b at_end fits more = more
FitsUntold-append (Silent ∷ a) b at_end fits more = FitsUntold-append a b at_end fits more
FitsUntold-append (Takes port value ∷ a) b at_end fits more = (fits.0, FitsUntold-append a b (at_end_after port value at_end) fits.1 more)
FitsUntold-append (Gives port value ∷ a) b at_end fits more = FitsUntold-append a b at_end fits more

-- ---- what is told

told-nil : (told : Option (List ℕ)) → after_told told [] ≡ told
told-nil None = refl
told-nil (Some held) = ap Some (append-nil held)

told-append : (told : Option (List ℕ)) (a b : List ℕ) → after_told (after_told told a) b ≡ after_told told (a ++ b)
told-append None a b = refl
told-append (Some held) a b = ap Some (append_assoc held a b)

map-same : (left : Option (List ℕ)) → option_map (λ input. input) left ≡ left
map-same None = refl
map-same (Some input) = refl

or-false : (b : Bool) → (b || false) ≡ b
or-false true = refl
or-false false = refl

-- ---- one event

held_after : (event : Event) (old new : Device) → Answers event old new → new.held ≡ after_told old.held (written (event ∷ []))
held_after Silent old new is = ap (λ d. d.held) is ∙ sym (told-nil old.held)
held_after (Takes port value) old new is = ap (λ d. d.held) is.1 ∙ sym (told-nil old.held)
held_after (Gives port value) old new is =
    let given : (test : Bool) → (if test then after_told old.held (value ∷ []) else old.held) ≡ after_told old.held ((if test then value ∷ [] else []) ++ []) =
    elim [ true ↦ refl | false ↦ sym (told-nil old.held) ] in
    ap (λ d. d.held) is ∙ given (port == 0x12)

-- what the ports that tell a stop hold
told_after : (event : Event) (old new : Device) → Answers event old new
    → (new.kind ≡ given_to 0x13 event old.kind) × (new.segment ≡ given_to 0x14 event old.segment) × (new.line_low ≡ given_to 0x15 event old.line_low) × (new.line_high ≡ given_to 0x16 event old.line_high)
told_after Silent old new is = (ap (λ d. d.kind) is, ap (λ d. d.segment) is, ap (λ d. d.line_low) is, ap (λ d. d.line_high) is)
told_after (Takes port value) old new is = (ap (λ d. d.kind) is.1, ap (λ d. d.segment) is.1, ap (λ d. d.line_low) is.1, ap (λ d. d.line_high) is.1)
told_after (Gives port value) old new is = (ap (λ d. d.kind) is, ap (λ d. d.segment) is, ap (λ d. d.line_low) is, ap (λ d. d.line_high) is)

is_used_after : (event : Event) (old new : Device) → Answers event old new → new.is_used ≡ (old.is_used || asks_input (event ∷ []))
is_used_after Silent old new is = ap (λ d. d.is_used) is ∙ sym (or-false old.is_used)
is_used_after (Takes port value) old new is = ap (λ d. d.is_used) is.1 ∙ ap (λ b. old.is_used || b) (sym (or-false (is_of_input port)))
is_used_after (Gives port value) old new is = ap (λ d. d.is_used) is ∙ sym (or-false old.is_used)

is_cut_after : (event : Event) (old new : Device) → Answers event old new → new.is_cut ≡ old.is_cut
is_cut_after Silent old new is = ap (λ d. d.is_cut) is
is_cut_after (Takes port value) old new is = ap (λ d. d.is_cut) is.1
is_cut_after (Gives port value) old new is = ap (λ d. d.is_cut) is

left_after_event : (event : Event) (old new : Device) → Answers event old new → new.left ≡ option_map (left_behind (event ∷ [])) old.left
left_after_event Silent old new is = ap (λ d. d.left) is ∙ sym (map-same old.left)
left_after_event (Takes port value) old new is = ap (λ d. d.left) is.1
left_after_event (Gives port value) old new is = ap (λ d. d.left) is ∙ sym (map-same old.left)

at_end_after_event : (event : Event) (old new : Device) → Answers event old new → new.at_end ≡ at_end_behind (event ∷ []) old.at_end
at_end_after_event Silent old new is = ap (λ d. d.at_end) is
at_end_after_event (Takes port value) old new is = ap (λ d. d.at_end) is.1
at_end_after_event (Gives port value) old new is = ap (λ d. d.at_end) is

-- ---- one more event

left_more : (left : Option (List ℕ)) (a b : List Event) → option_map (left_behind b) (option_map (left_behind a) left) ≡ option_map (left_behind (a ++ b)) left
left_more None a b = refl
left_more (Some input) a b = ap Some (sym (left_behind-append a b input))

fits_more : (left : Option (List ℕ)) (at_end : Option Bool) (events : List Event) (event : Event) (old new : Device) → old.left ≡ option_map (left_behind events) left
    → old.at_end ≡ at_end_behind events at_end → FitsTold left at_end events → Answers event old new → FitsTold left at_end (events ++ event ∷ [])
fits_more None at_end events Silent old new is end fits answers = FitsUntold-append events (Silent ∷ []) at_end fits tt
fits_more None at_end events (Takes port value) old new is end fits answers =
    let here : IsTaken None old.at_end port value = subst (λ left. IsTaken left old.at_end port value) is answers.0 in
    FitsUntold-append events (Takes port value ∷ []) at_end fits (subst (λ e. IsTaken None e port value) end here, tt)
fits_more None at_end events (Gives port value) old new is end fits answers = FitsUntold-append events (Gives port value ∷ []) at_end fits tt
fits_more (Some input) at_end events Silent old new is end fits answers = FitsInput-append events (Silent ∷ []) input fits tt
fits_more (Some input) at_end events (Takes port value) old new is end fits answers =
    FitsInput-append events (Takes port value ∷ []) input fits (subst (λ left. IsTaken left old.at_end port value) is answers.0, tt)
fits_more (Some input) at_end events (Gives port value) old new is end fits answers = FitsInput-append events (Gives port value ∷ []) input fits tt

pub follows_more : (events : List Event) (event : Event) (d e f : Device) → Follows events d e → Answers event e f → Follows (events ++ event ∷ []) d f
follows_more events event d e f so_far answers =
    let one = event ∷ [] in
    let told = told_after event e f answers in
    record {
      fits = fits_more d.left d.at_end events event e f so_far.left so_far.at_end so_far.fits answers;
      left = left_after_event event e f answers ∙ ap (option_map (left_behind one)) so_far.left ∙ left_more d.left events one;
      at_end = at_end_after_event event e f answers ∙ ap (at_end_behind one) so_far.at_end ∙ sym (at_end_behind-append events one d.at_end);
      is_used = is_used_after event e f answers ∙ ap (λ b. b || asks_input one) so_far.is_used ∙ or_assoc d.is_used (asks_input events) (asks_input one)
          ∙ ap (λ b. d.is_used || b) (sym (asks_input-append events one));
      is_cut = is_cut_after event e f answers ∙ so_far.is_cut;
      held = held_after event e f answers ∙ ap (λ told. after_told told (written one)) so_far.held ∙ told-append d.held (written events) (written one)
          ∙ ap (after_told d.held) (sym (written-append events one));
      kind = told.0 ∙ ap (given_to 0x13 event) so_far.kind ∙ sym (last_given-append 0x13 events one d.kind);
      segment = told.1 ∙ ap (given_to 0x14 event) so_far.segment ∙ sym (last_given-append 0x14 events one d.segment);
      line_low = told.2 ∙ ap (given_to 0x15 event) so_far.line_low ∙ sym (last_given-append 0x15 events one d.line_low);
      line_high = told.3 ∙ ap (given_to 0x16 event) so_far.line_high ∙ sym (last_given-append 0x16 events one d.line_high);
    }

pub follows_none : (d : Device) → Follows [] d d
follows_none d = record {
  fits = fits_none d.left d.at_end;
  left = sym (map-same d.left);
  at_end = refl;
  is_used = sym (or-false d.is_used);
  is_cut = refl;
  held = sym (told-nil d.held);
  kind = refl;
  segment = refl;
  line_low = refl;
  line_high = refl;
}
  where
    fits_none : (left : Option (List ℕ)) (at_end : Option Bool) → FitsTold left at_end []
    fits_none None at_end = tt
    fits_none (Some input) at_end = tt
