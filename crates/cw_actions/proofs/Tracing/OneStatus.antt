-- Two statuses never come of one call of `trace`.
use Rattle.std.proofs.Common.{◌≡◌, ◌⊎◌, ℕ, ◌<◌, zero, suc, List, [], ◌∷◌, ◌++◌, map, length, take, Option, Some, None, slice_get, Err, refl, sym, ap, ◌∙◌, inl, inr, arith, true≢false}
use Rattle.std.specs.Prelude.{min, All, IsSome}
use Rattle.std.proofs.lemmas.Bool.{cases_order}
use Rattle.std.proofs.lemmas.List.{length-map}
use Rattle.std.proofs.lemmas.List.Elements.{All-head, All-tail}
use Rattle.cw_unit.specs.declared.unit.Unit.{Unit as SourceUnit}
use Rattle.cw_unit.specs.declared.layout.Limits.{Limits}
use Rattle.cw_unit.specs.Allocation.{storage_map}
use Rattle.cw_build.specs.Compiled.{object_of}
use Rattle.cw_stop.specs.declared.stopping.Stop.{Stop}
use Rattle.cw_stop.specs.declared.stopping.Watched.{Watched}
use Rattle.cw_trace.specs.declared.watch.WatchedWord.{WatchedWord}
use Rattle.cw_watch.specs.Watching.{MeanWords, IsFirstNone, watched_address, stop_places, lines_from}
use Rattle.cw_watch.specs.declared.fault.WatchFault.{WatchFault}
use Rattle.cw_watch.specs.declared.fault.WatchFault.TheVariants as faults
use Rattle.cw_traced.specs.Places.Reported.{MeansInUnits}
use Rattle.cw_say.specs.declared.status.Status.{Status}
use Rattle.cw_say.specs.declared.status.Status.TheVariants.{Ended, Stopped, Unfinished, TooLong, BadCode, Divided, NoPlace, NoItem}
use Rattle.cw_say.specs.declared.status.Status.TheVariants as statuses
use Rattle.cw_say.specs.declared.status.Which.TheVariants.{Say}
use Rattle.cw_say.specs.declared.status.Long.TheVariants as long
use Rattle.cw_build.specs.Linking.{map_text}
use Rattle.cw_correct.specs.Calls.{Call, NoFault}
use Rattle.cw_correct.specs.Going.{Telling}
use Rattle.cw_correct.specs.Tracing.{FindsNone, Watches, TracesRight}
use Rattle.cw_actions.proofs.Going.OneStatus.{Comes, AreApart, HasOneStatusOf}
use Rattle.cw_actions.specs.Tracing.Tracing.{fault_status}
use Rattle.cw_actions.specs.Tracing.Laws.{HasOneStatus}

-- ---- the first watched name that means no word

module _ (us : List SourceUnit) (area : ℕ) where
  abbrev address : Watched → Option ℕ
  address name = watched_address (lines_from 0 (storage_map us).homes (map object_of us)) area name

  -- the words that all mean one have no such name
  first_means : (names : List Watched) (words : List WatchedWord) (k : ℕ) (name : Watched) → MeanWords (lines_from 0 (storage_map us).homes (map object_of us)) area names words → slice_get names k ≡ Some name → address name ≡ None → ⊥
  first_means [] words k name means stands none = absurd (cc)
  first_means (n ∷ ns) [] k name means stands none = absurd means
  first_means (n ∷ ns) (w ∷ ws) zero name means stands none = absurd (cc)
  first_means (n ∷ ns) (w ∷ ws) (suc k) name means stands none = first_means ns ws k name means.2 stands none

  is_some : (o : Option ℕ) → IsSome o → o ≡ None → ⊥
  is_some None some none = true≢false (sym some)
  is_some (Some n) some none = absurd (cc)

  -- of two, neither stands before the other
  not_before : (names : List Watched) (j k : ℕ) (name : Watched) → j < k → slice_get names j ≡ Some name → All (λ other. IsSome (address other)) (take k names) → address name ≡ None → ⊥
  not_before [] j k name less stands all none = absurd (cc)
  not_before (n ∷ ns) j zero name less stands all none = absurd (omega (arith, less))
  not_before (n ∷ ns) zero (suc k) name less stands all none =
      let same : n ≡ name = cc in
      is_some (address n) (All-head (λ other. IsSome (address other)) n (take k ns) all) (ap address same ∙ none)
  not_before (n ∷ ns) (suc j) (suc k) name less stands all none = not_before ns j k name (omega (arith, less)) stands (All-tail (λ other. IsSome (address other)) n (take k ns) all) none

  first_once : (names : List Watched) (j k : ℕ) → IsFirstNone (lines_from 0 (storage_map us).homes (map object_of us)) area names j → IsFirstNone (lines_from 0 (storage_map us).homes (map object_of us)) area names k → j ≡ k
  first_once names j k x y = by (cases_order j k)
    where
      by : (j ≡ k) ⊎ ((j < k) ⊎ (k < j)) → j ≡ k
      by (inl e) = e
      by (inr (inl less)) = absurd (not_before names j k x.name less x.stands y.before x.none)
      by (inr (inr less)) = absurd (not_before names k j y.name less y.stands x.before y.none)

-- ---- what a stop means

-- a fault of the stop
abbrev IsOfStop : WatchFault → Type 0
IsOfStop faults.NoPlace = Unit {0}
IsOfStop (faults.NoItem index) = Unit {0}
IsOfStop faults.NoMemory = ⊥

module _ (stop : Stop) (limits : Limits) where
  -- it means nothing, as the status tells
  abbrev Never : List SourceUnit → Status → Type 0
  Never us status = (fault : WatchFault) × IsOfStop fault × MeansInUnits us limits stop (Err fault) × (status ≡ fault_status fault)

  abbrev Also : List SourceUnit → Type 0
  Also us = Watches us limits stop

  no_place : (us : List SourceUnit) → MeansInUnits us limits stop (Err faults.NoPlace) → 0 < length (stop_places stop (map object_of us)) → ⊥
  no_place us none some = omega (arith, some, ap length none)

  one_fault : (us : List SourceUnit) (f g : WatchFault) → IsOfStop f → IsOfStop g → MeansInUnits us limits stop (Err f) → MeansInUnits us limits stop (Err g) → fault_status f ≡ fault_status g
  one_fault us faults.NoPlace faults.NoPlace p q x y = refl
  one_fault us faults.NoPlace (faults.NoItem index) p q x y = absurd (no_place us x y.0)
  one_fault us faults.NoPlace faults.NoMemory p q x y = absurd q
  one_fault us (faults.NoItem index) faults.NoPlace p q x y = absurd (no_place us y x.0)
  one_fault us (faults.NoItem index) (faults.NoItem other) p q (some, (number, first, is)) (also, (count, second, so)) =
      ap NoItem (is ∙ ap (λ n. min n 65535) (first_once us limits.area stop.watched number count first second) ∙ sym so)
  one_fault us (faults.NoItem index) faults.NoMemory p q x y = absurd q
  one_fault us faults.NoMemory g p q x y = absurd p

  one : (us : List SourceUnit) (s t : Status) → Never us s → Never us t → s ≡ t
  one us s t (f, p, x, e) (g, q, y, h) = e ∙ one_fault us f g p q x y ∙ sym h

  not_watched : (us : List SourceUnit) (f : WatchFault) → IsOfStop f → MeansInUnits us limits stop (Err f) → Also us → ⊥
  not_watched us faults.NoPlace p x (watch, is) = omega (arith, is.some, ap length is.places, ap length x)
  not_watched us (faults.NoItem index) p (some, (number, first, e)) (watch, is) =
      first_means us limits.area stop.watched watch.words number first.name is.words first.stands first.none
  not_watched us faults.NoMemory p x w = p

  apart : (us : List SourceUnit) (s : Status) → Never us s → Also us → ⊥
  apart us s (f, p, x, e) w = not_watched us f p x w

  pub are_apart : AreApart Also Never
  are_apart = record { one = one; apart = apart }

-- ---- of a call

module _ (stop : Stop) (c : Call) (input : List ℕ) (quiet : NoFault c.before c.after) where
  abbrev ComesSo : Status → Type 0
  ComesSo status = Comes (Also stop c.limits) (Never stop c.limits) c input status

  abbrev telling : List ℕ → Telling
  telling reports us = map_text us c.limits ++ reports

  none : (fault : WatchFault) (status : Status) → IsOfStop fault → status ≡ fault_status fault → FindsNone fault stop c status → ComesSo status
  none fault status of e x = inr (record {
    units = x.units;
    taken = record { texts = x.texts; have_bytes = x.have_texts; have_values = x.have_units; all = x.all ∙ sym (length-map c.names c.before.files) };
    links = x.links;
    never = (fault, of, x.means, e);
  })

  comes : (status : Status) → TracesRight stop c input status → ComesSo status
  comes NoPlace x = none faults.NoPlace NoPlace tt refl x
  comes (NoItem index) x = none (faults.NoItem index) (NoItem index) tt refl x
  comes (statuses.Outside Say) (inl x) = inl (telling x.reports, x.runs, tt)
  comes (statuses.Outside Say) (inr x) =
      let (count, proper, is, rose) = x.says.is_first in
      absurd (quiet.say (omega (arith, rose, x.says.closing.later)))
  comes Ended x = inl (telling x.reports, x.runs, x.right.0)
  comes (Stopped kind segment line) x = inl (telling x.reports, x.runs, x.right.0)
  comes (Unfinished count) x = inl (telling x.reports, x.runs, x.right.0)
  comes (BadCode offset) x = inl (telling x.reports, x.runs, x.right.0)
  comes (Divided offset) x = inl (telling x.reports, x.runs, x.right.0)
  comes (TooLong long.Input) x = inl (telling x.reports, x.runs, x.right.0)
  comes _ x = inl (telling x.reports, x.runs, tt)

pub one_status : HasOneStatusOf → HasOneStatus
one_status given stop c input s t found told quiet other also tells x y =
    given (Also stop c.limits) (Never stop c.limits) (are_apart stop c.limits) c input s t found told quiet other also tells (comes stop c input quiet s x) (comes stop c input quiet t y)
