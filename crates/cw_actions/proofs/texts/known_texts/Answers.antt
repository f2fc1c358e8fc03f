use Rattle.cw_unit.specs.declared.layout.Limits.{Limits}
use Rattle.cw_actions.proofs.texts.known_texts.Goals as goal

pub returns-clause-one : goal.returns-clause-one
returns-clause-one c =
    let outcome = c.one_outcome.ensures in
    record { one_unit = outcome.one_unit; one_refusal = outcome.one_refusal; not_both = outcome.not_both; tokens = outcome.tokens }

pub returns-clause-compiled : goal.returns-clause-compiled
returns-clause-compiled c = c.compiled_units.ensures

-- that of the units stands at all limits
pub returns-clause-sizes : goal.returns-clause-sizes
returns-clause-sizes c = λ texts us have.
    let limits : Limits = record { area = 0; frames = 0; depth = 0 } in
    c.linked_units.ensures.size us limits (c.compiled_units.ensures texts us have)
