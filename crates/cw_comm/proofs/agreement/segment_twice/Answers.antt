use Rattle.std.proofs.Common.{refl}
use Rattle.cw_comm.proofs.Keyed.{next_face, twice_is}
use Rattle.cw_comm.proofs.agreement.segment_twice.Goals as goal

pub loop-segment-preserved : goal.loop-segment-preserved
loop-segment-preserved c =
    rw c.in-Ok.ensures.keys
    (next_face c.loop-segment.seen.keys _ c.args.segments.now c.loop-segment.segment-index c.segment-item.result c.in-Ok.is_new _ c.loop-segment-test.true c.segment-item.is refl c.in-Ok.ensures.added c.if-not-is_new.false c.loop-segment.invariant)

pub returns-then-not-is_new : goal.returns-then-not-is_new
returns-then-not-is_new c =
    twice_is c.loop-segment.seen.keys c.segment-item.result.name c.args.segments.now c.loop-segment.segment-index c.segment-item.result c.in-Ok.is_new _ c.loop-segment-test.true c.segment-item.is refl c.in-Ok.ensures.added c.if-not-is_new.true c.loop-segment.invariant
