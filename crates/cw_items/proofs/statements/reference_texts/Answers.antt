use Rattle.cw_facts.specs.declared.fact.Reading.TheVariants as reading
use Rattle.cw_items.proofs.statements.reference_texts.Goals as goal

pub returns : goal.returns
returns c = c.reference_strings.ensures reading.Whole
