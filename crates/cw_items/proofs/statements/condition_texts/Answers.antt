use Rattle.cw_facts.specs.declared.fact.Reading.TheVariants as reading
use Rattle.cw_items.proofs.statements.condition_texts.Goals as goal

pub returns : goal.returns
returns c = c.condition_strings.ensures reading.Value
