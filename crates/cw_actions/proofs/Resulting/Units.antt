-- Texts as they are read: as units, or as their canonical texts.
use Rattle.std.proofs.Common.{◌≡◌, ◌⊎◌, ℕ, List, Option, Some, None, refl, inl, inr, slice_get}
use Rattle.cw_io.specs.File.{Told}
use Rattle.cw_unit.specs.declared.unit.Unit.{Unit as SourceUnit}
use Rattle.cw_compile.specs.declared.fault.Refusal.{Refusal}
use Rattle.cw_compile.specs.Texts.{text_limit, IsCanonicalOf, IsRefused}
use Rattle.cw_files.specs.Texts.{HasUnit}
use Rattle.cw_files.specs.Reading.{Counts, IsRefusedAt, IsUnread, StopsTexts}
use Rattle.cw_say.specs.declared.status.Status.{Status}
use Rattle.cw_say.specs.declared.status.Status.TheVariants.{Refused}
use Rattle.cw_actions.specs.Resulting.Texts.{OneOfText}
use Rattle.cw_actions.proofs.Resulting.Readings.{Found, RefusesAt, same_values}
use Rattle.cw_actions.proofs.Resulting.Outcomes.{IsRefusedAs, Kind, FileRuns}
use Rattle.cw_actions.proofs.Resulting.Texts.{one_unit, not_refused, shown_not_refused}

refused_at : (o : Option (List ℕ)) (fault : Refusal) → IsRefusedAt o fault → RefusesAt IsRefused o fault
refused_at None fault x = x
refused_at (Some text) fault x = x

pub stop_is : (files : List Told) (texts : List (List ℕ)) (taken : ℕ) (before after : Counts) (s : Status) → StopsTexts files texts taken before after s → IsUnread text_limit files taken before after s ⊎ IsRefusedAs Refusal IsRefused Refused texts taken s
stop_is files texts taken before after (Refused number fault) x = inr (number, fault, x.0, refused_at (slice_get texts number) fault x.1, refl)
stop_is files texts taken before after _ x = inl x

-- accepted as what no text is that is refused
abbrev pub texts_as : (Value : Type 0) (Accepts : List ℕ → Value → Type 0) → ((text : List ℕ) (x : Value) (fault : Refusal) → Accepts text x → IsRefused text fault → ⊥) → Kind
texts_as Value Accepts not_both = record {
  Value = Value;
  Wrong = Refusal;
  limit = text_limit;
  Accepts = Accepts;
  Refuses = IsRefused;
  status_of = Refused;
  is_refusal = λ number fault. tt;
  not_both = not_both;
  Stops = StopsTexts;
  stop_is = stop_is;
}

abbrev pub units : OneOfText → Kind
units given = texts_as SourceUnit HasUnit (not_refused given)

abbrev pub shown_texts : OneOfText → Kind
shown_texts given = texts_as (List ℕ) IsCanonicalOf (shown_not_refused given)

pub same_units : (given : OneOfText) (found : List Found) (us vs : List SourceUnit) → FileRuns (units given) found us None → FileRuns (units given) found vs None → us ≡ vs
same_units given found us vs x y = same_values text_limit HasUnit IsRefused Refused (λ text u v is also. one_unit given text u v is also) 0 found us vs x y
