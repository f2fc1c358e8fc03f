-- What events tell, with one event more.
use Rattle.std.proofs.Common.{◌≡◌, ℕ, List, [], ◌∷◌, ◌++◌, refl, sym, ap, ◌∙◌}
use Rattle.std.proofs.lemmas.List.{append-nil, append_assoc}
use Rattle.cw_i86.specs.MachineRun.{Event, Silent, Takes, Gives, left_after, left_behind, FitsInput, written_by, written, given_to, last_given}
use Rattle.cw_run86.specs.Processor.{Told}

written-more : (events : List Event) (e : Event) → written (events ++ e ∷ []) ≡ written events ++ written_by e
written-more [] e = append-nil (written_by e)
written-more (x ∷ events) e = ap (λ bytes. written_by x ++ bytes) (written-more events e) ∙ sym (append_assoc (written_by x) (written events) (written_by e))

last_given-more : (port : ℕ) (events : List Event) (e : Event) (before : ℕ) → last_given port (events ++ e ∷ []) before ≡ given_to port e (last_given port events before)
last_given-more port [] e before = refl
last_given-more port (x ∷ events) e before = last_given-more port events e (given_to port x before)

pub left_behind-more : (events : List Event) (e : Event) (input : List ℕ) → left_behind (events ++ e ∷ []) input ≡ left_behind (e ∷ []) (left_behind events input)
left_behind-more [] e input = refl
left_behind-more (Silent ∷ events) e input = left_behind-more events e input
left_behind-more (Takes port value ∷ events) e input = left_behind-more events e (left_after port input)
left_behind-more (Gives port value ∷ events) e input = left_behind-more events e input

pub fits_more : (events : List Event) (e : Event) (input : List ℕ) → FitsInput input events → FitsInput (left_behind events input) (e ∷ []) → FitsInput input (events ++ e ∷ [])
fits_more [] e input fits more = more
fits_more (Silent ∷ events) e input fits more = fits_more events e input fits more
fits_more (Takes port value ∷ events) e input fits more = (fits.0, fits_more events e (left_after port input) fits.1 more)
fits_more (Gives port value ∷ events) e input fits more = fits_more events e input fits more

unfoldable pub told_by : List Event → Told
told_by events = record {
  output = written events;
  kind = last_given 0x13 events 0;
  segment = last_given 0x14 events 0;
  line_low = last_given 0x15 events 0;
  line_high = last_given 0x16 events 0;
}

abbrev pub after_event : Event → Told → Told
after_event e t = record {
  output = t.output ++ written_by e;
  kind = given_to 0x13 e t.kind;
  segment = given_to 0x14 e t.segment;
  line_low = given_to 0x15 e t.line_low;
  line_high = given_to 0x16 e t.line_high;
}

pub told_more : (events : List Event) (e : Event) → told_by (events ++ e ∷ []) ≡ after_event e (told_by events)
unfolding told_by
told_more events e =
    rw (written-more events e, last_given-more 0x13 events e 0, last_given-more 0x14 events e 0, last_given-more 0x15 events e 0, last_given-more 0x16 events e 0) refl
