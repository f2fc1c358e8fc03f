use Rattle.std.proofs.Common.{refl}
use Rattle.cw_show.proofs.Adding.{in_order, becomes}
use Rattle.cw_show.proofs.showing.put_segment.Goals as goal

pub returns : goal.returns
returns c = becomes (in_order c.put_comms.ensures (in_order c.put_word.ensures (in_order c.put_name.ensures (in_order c.put_block.ensures c.put_word-2.ensures))))
    (rw c.as_slice.ensures refl)
