use Rattle.cw_show.specs.ExpressionTokens.{bits_tokens}
use Rattle.cw_show.proofs.Adding.{begun, one_more_joined, none_more_joined}
use Rattle.cw_show.proofs.expression.put_all_bits.Goals as goal

pub loop-one-init : goal.loop-one-init
loop-one-init c = begun _ _

pub loop-one-preserved : goal.loop-one-preserved
loop-one-preserved c = one_more_joined bits_tokens c.args.bits.now c.loop-one.one-index c.one-item.result c.loop-one-test.true c.one-item.is c.loop-one.invariant c.put_bits.ensures

pub returns : goal.returns
returns c = none_more_joined bits_tokens c.args.bits.now c.loop-one.one-index c.loop-one-test.false c.loop-one.invariant
