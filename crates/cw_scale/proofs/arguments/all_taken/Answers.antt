use Rattle.cw_scale.proofs.Passing.{taken_goes_on, no_argument, not_taken, no_parameter_left}
use Rattle.cw_scale.proofs.arguments.all_taken.Goals as goal

pub loop-param-preserved : goal.loop-param-preserved
loop-param-preserved c =
    taken_goes_on c.args.named.now c.args.params.now c.loop-param.param-index c.param-item.result c.loop-param.rest.now c.argument-item.result c.expression_shape.result c.takes.result _
    c.loop-param-test.true c.param-item.is c.in-len1-up.len_at_least c.argument-item.is c.expression_shape.ensures c.takes.ensures c.if-not-takes.false c.loop-param.invariant

pub returns-in-empty : goal.returns-in-empty
returns-in-empty c =
    no_argument c.args.named.now c.args.params.now c.loop-param.param-index c.param-item.result c.loop-param.rest.now _ c.loop-param-test.true c.param-item.is c.in-empty.len_below c.loop-param.invariant

pub returns-then-not-takes : goal.returns-then-not-takes
returns-then-not-takes c =
    not_taken c.args.named.now c.args.params.now c.loop-param.param-index c.param-item.result c.loop-param.rest.now c.argument-item.result c.expression_shape.result c.takes.result _
    c.loop-param-test.true c.param-item.is c.in-len1-up.len_at_least c.argument-item.is c.expression_shape.ensures c.takes.ensures c.if-not-takes.true c.loop-param.invariant

pub returns : goal.returns
returns c =
    no_parameter_left c.args.named.now c.args.params.now c.loop-param.param-index c.loop-param.rest.now c.is_empty.result _ c.loop-param-test.false c.is_empty.ensures c.loop-param.invariant
