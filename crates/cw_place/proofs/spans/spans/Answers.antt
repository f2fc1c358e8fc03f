use Rattle.std.proofs.Common.{sym, subst, ◌∙◌, rules}
use Rattle.std.specs.List.{All}
use Rattle.std.specs.List.Sorted.{IsPermutation}
use Rattle.std.proofs.lemmas.List.Sorted.{IsNonDecreasingBy-from_sort_by_key, All-permutation}
use Rattle.cw_place.specs.Sweep.{IsSpan}
use Rattle.cw_place.proofs.SameFits.{sorted_fits, swept_by}
use Rattle.cw_place.proofs.spans.spans.Goals as goal

pub returns-in-Ok-clause-each : goal.returns-in-Ok-clause-each
returns-in-Ok-clause-each c =
    All-permutation IsSpan c.into_vec-spans.result.items c.sort_by_key.new.self.items c.in-Ok.ensures.permutation (subst (All IsSpan) (sym c.into_vec-spans.ensures) c.in_ok-all_spans.ensures.each)

pub returns-in-Ok-clause-swept : goal.returns-in-Ok-clause-swept
returns-in-Ok-clause-swept c =
    swept_by _ (returns-in-Ok-clause-each c) (IsNonDecreasingBy-from_sort_by_key (λ s. s.start) _ c.in-Ok.ensures.sorted (λ a r q k. search rules))

pub returns-in-Ok-clause-fits : goal.returns-in-Ok-clause-fits
returns-in-Ok-clause-fits c = λ x a.
    sorted_fits c.args.spaces.now c.sort_by_key.new.self.items x a (subst (λ ss. IsPermutation ss c.sort_by_key.new.self.items) (c.into_vec-spans.ensures ∙ c.in_ok-all_spans.ensures.all) c.in-Ok.ensures.permutation)
