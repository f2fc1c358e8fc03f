use Rattle.cw_facts.specs.declared.fact.Reading.TheVariants as reading
use Rattle.cw_items.proofs.statements.expression_texts.Goals as goal

pub returns : goal.returns
returns c = c.expression_strings.ensures reading.Value
