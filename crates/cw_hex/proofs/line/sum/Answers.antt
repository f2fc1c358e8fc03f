use Rattle.cw_hex.proofs.Digits.{sum_done}
use Rattle.cw_hex.proofs.line.sum.Goals as goal

pub returns : goal.returns
returns c = sum_done c.args.digits.now c.loop-k.k c.loop-k.total c.loop-k-test.false c.loop-k.invariant.small c.loop-k.invariant.so_far
