use Rattle.std.proofs.lemmas.Result.{on_ok_weaker}
use Rattle.cw_facts.specs.declared.fact.Reading.TheVariants as reading
use Rattle.cw_facts.specs.Uses.{expression_uses, reference_uses}
use Rattle.cw_items.proofs.Adding.{two_more}
use Rattle.cw_items.proofs.statements.assigned_texts.Goals as goal

pub returns-clause-target : goal.returns-clause-target
returns-clause-target c =
    on_ok_weaker c.expression_strings.result
    (two_more c.args.owner.now (reference_uses c.args.r.now reading.Target) (expression_uses c.args.e.now reading.Value) c.args.out.now c.reference_strings.new.out c.expression_strings.new.out (c.in_ok-reference_strings.ensures reading.Target))
    (c.expression_strings.ensures reading.Value)

pub returns-clause-whole : goal.returns-clause-whole
returns-clause-whole c =
    on_ok_weaker c.expression_strings.result
    (two_more c.args.owner.now (reference_uses c.args.r.now reading.Whole) (expression_uses c.args.e.now reading.Value) c.args.out.now c.reference_strings.new.out c.expression_strings.new.out (c.in_ok-reference_strings.ensures reading.Whole))
    (c.expression_strings.ensures reading.Value)
