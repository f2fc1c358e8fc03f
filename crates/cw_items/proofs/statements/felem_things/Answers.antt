use Rattle.std.proofs.Common.{ap, sym, ◌∙◌, ◌++◌}
use Rattle.std.proofs.lemmas.Result.{on_ok_weaker}
use Rattle.cw_tree.specs.declared.expression.RawCond.{RawCond}
use Rattle.cw_tree.specs.declared.expression.RawExpr.{RawExpr}
use Rattle.cw_tree.specs.declared.statement.RawFelem.{RawFelem}
use Rattle.cw_facts.specs.declared.fact.Reading.TheVariants as reading
use Rattle.cw_facts.specs.Uses.{expression_uses, condition_uses}
use Rattle.cw_items.specs.Things.{texts, felem_things}
use Rattle.cw_items.proofs.Adding.{two_more, three_more}
use Rattle.cw_items.proofs.statements.felem_things.Goals as goal

pub returns-in_ok-expression_texts-in-While : goal.returns-in_ok-expression_texts-in-While
returns-in_ok-expression_texts-in-While c =
    let o = c.args.owner.now in
    let out = c.args.out.now in
    on_ok_weaker c.condition_texts.result
    (λ added. two_more o (expression_uses c.get-in-While.result.now reading.Value) (condition_uses c.get-in-While-2.result.now reading.Value) out c.expression_texts-in-While.new.out c.condition_texts.new.out c.in_ok-expression_texts-in-While.ensures added
    ∙ ap (λ (x : RawExpr). out ++ texts o (expression_uses x reading.Value ++ condition_uses c.get-in-While-2.result.now reading.Value)) c.get-in-While.ensures
    ∙ ap (λ (x : RawCond). out ++ texts o (expression_uses c.in-While.e reading.Value ++ condition_uses x reading.Value)) c.get-in-While-2.ensures
    ∙ ap (λ (x : RawFelem). out ++ felem_things x o) (sym c.in-While.is))
    c.condition_texts.ensures

pub returns-in_ok-expression_texts-in-Step-2 : goal.returns-in_ok-expression_texts-in-Step-2
returns-in_ok-expression_texts-in-Step-2 c =
    let o = c.args.owner.now in
    let out = c.args.out.now in
    on_ok_weaker c.expression_texts-in-Step-3.result
    (λ added. three_more o (expression_uses c.get-in-Step.result.now reading.Value) (expression_uses c.get-in-Step-2.result.now reading.Value) (expression_uses c.get-in-Step-3.result.now reading.Value)
    out c.expression_texts-in-Step.new.out c.expression_texts-in-Step-2.new.out c.expression_texts-in-Step-3.new.out c.in_ok-expression_texts-in-Step.ensures c.in_ok-expression_texts-in-Step-2.ensures added
    ∙ ap (λ (x : RawExpr). out ++ texts o (expression_uses x reading.Value ++ (expression_uses c.get-in-Step-2.result.now reading.Value ++ expression_uses c.get-in-Step-3.result.now reading.Value))) c.get-in-Step.ensures
    ∙ ap (λ (x : RawExpr). out ++ texts o (expression_uses c.in-Step.first reading.Value ++ (expression_uses x reading.Value ++ expression_uses c.get-in-Step-3.result.now reading.Value))) c.get-in-Step-2.ensures
    ∙ ap (λ (x : RawExpr). out ++ texts o (expression_uses c.in-Step.first reading.Value ++ (expression_uses c.in-Step.step reading.Value ++ expression_uses x reading.Value))) c.get-in-Step-3.ensures
    ∙ ap (λ (x : RawFelem). out ++ felem_things x o) (sym c.in-Step.is))
    c.expression_texts-in-Step-3.ensures
