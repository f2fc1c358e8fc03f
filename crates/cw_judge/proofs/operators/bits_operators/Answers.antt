use Rattle.cw_judge.proofs.Counting.{bits_more, bits_done}
use Rattle.cw_judge.proofs.operators.bits_operators.Goals as goal

pub loop-one-preserved : goal.loop-one-preserved
loop-one-preserved c =
    bits_more c.args.bits.now c.loop-one.one-index c.one-item.result c.loop-one.tally c.count-tally.result _
    c.loop-one-test.true c.one-item.is c.count-tally.ensures c.loop-one.invariant

pub returns : goal.returns
returns c = bits_done c.args.bits.now c.loop-one.one-index c.loop-one.tally _ c.loop-one-test.false c.loop-one.invariant
