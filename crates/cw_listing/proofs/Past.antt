-- Codes without a unit have no remarks and no words.
use Rattle.std.proofs.Common.{◌≡◌, ℕ, ◌≤◌, List, ◌++◌, length, sym, ap, ◌∙◌}
use Rattle.std.specs.Prelude.{slice_get}
use Rattle.std.proofs.lemmas.Option.{slice_get_past}
use Rattle.std.proofs.lemmas.List.{append-nil}
use Rattle.cw_unit.specs.declared.unit.Unit.{Unit as SourceUnit}
use Rattle.cw_tmpl.specs.declared.assembling.Code.{Code}
use Rattle.cw_listing.specs.declared.remark.Remark.{Remark}
use Rattle.cw_listing.specs.Remarks.{unit_remarks, unit_words}

pub no_remarks : (xs : List Remark) (start : ℕ) (us : List SourceUnit) (k : ℕ) (c : Code) (source : List ℕ) → length us ≤ k → xs ≡ xs ++ unit_remarks start (slice_get us k) c source
no_remarks xs start us k c source past = sym (ap (λ u. xs ++ unit_remarks start u c source) (slice_get_past us k past) ∙ append-nil xs)

pub no_words : (xs : List Remark) (start : ℕ) (us : List SourceUnit) (k : ℕ) (c : Code) → length us ≤ k → xs ≡ xs ++ unit_words start (slice_get us k) c
no_words xs start us k c past = sym (ap (λ u. xs ++ unit_words start u c) (slice_get_past us k past) ∙ append-nil xs)
