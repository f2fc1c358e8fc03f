use Rattle.std.proofs.Common.{◌≡◌, ap, replicate, arith}
use Rattle.cw_show.proofs.Adding.{no_bytes, bytes_become, one_more_zero}
use Rattle.cw_show.proofs.leaf.put_zeros.Goals as goal

pub loop-init : goal.loop-init
loop-init c = no_bytes c.args.out.now

pub loop-preserved : goal.loop-preserved
loop-preserved c = one_more_zero c.loop.counter c.loop.invariant c.put.ensures

pub returns : goal.returns
returns c =
    let all : c.loop.counter ≡ c.args.count = omega arith in
    bytes_become c.loop.invariant (ap (λ k. replicate k 48) all)
