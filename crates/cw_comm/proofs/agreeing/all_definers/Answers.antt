use Rattle.std.proofs.Common.{◌≡◌}
use Rattle.cw_comm.proofs.Definers.{one_definer}
use Rattle.cw_comm.proofs.agreeing.all_definers.Goals as goal

pub loop-name-preserved : goal.loop-name-preserved
loop-name-preserved c =
    rw c.in_ok-push.ensures.ok
    (one_definer c.args.listed.now.segments.now c.args.listed.now.names.now c.loop-name.name c.loop-name.list _ c.from_one.result c.loop-name-test.true c.from_one.ensures c.loop-name.invariant)
