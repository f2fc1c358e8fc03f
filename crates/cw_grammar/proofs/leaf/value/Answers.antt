use Rattle.std.proofs.Common.{arith}
use Rattle.cw_grammar.proofs.Numbers.{first_bound, one_more}
use Rattle.cw_grammar.proofs.leaf.value.Goals as goal

pub overflow_mul-value : goal.overflow_mul-value
overflow_mul-value c = omega (arith, first_bound c.args.digits.now c.loop-digit.digit-index c.requires.digits c.requires.few)

pub overflow_add-value : goal.overflow_add-value
overflow_add-value c = omega (arith, first_bound c.args.digits.now c.loop-digit.digit-index c.requires.digits c.requires.few)

pub loop-digit-preserved : goal.loop-digit-preserved
loop-digit-preserved c =
    omega (arith, one_more c.args.digits.now c.loop-digit.digit-index c.requires.digits c.loop-digit-test.true)
