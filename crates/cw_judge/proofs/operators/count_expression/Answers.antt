use Rattle.std.proofs.Common.{ap, ◌∙◌}
use Rattle.cw_judge.specs.Operators.{tally_judged, expression_operators}
use Rattle.cw_judge.proofs.Counting.{few_counted}
use Rattle.cw_judge.proofs.operators.count_expression.Goals as goal

pub returns : goal.returns
returns c =
    c.judge_tally.ensures ∙ ap (λ t. tally_judged t c.args.first.now) c.expression_operators.ensures
    ∙ few_counted (expression_operators c.args.e.now) 1024 c.args.first.now
