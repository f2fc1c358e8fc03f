use Rattle.std.proofs.Common.{◌+◌, drop}
use Rattle.cw_graph.proofs.Telling.{late_next, late_end}
use Rattle.cw_graph.proofs.ranking.settle_all.Goals as goal

pub loop-number-preserved : goal.loop-number-preserved
loop-number-preserved c =
    let late = c.args.late.now in
    let i = c.loop-number.number-index in
    record {
      ranked = c.in_ok-settle.ensures.ranked;
      passed = c.in_ok-settle.ensures.passed;
      waiting = c.in_ok-settle.ensures.waiting;
      settled = λ told w. c.in_ok-settle.ensures.settled told (drop (i + 1) late) (late_next c.args.graph.now _ _ _ told late i c.loop-number-test.true (c.loop-number.invariant.settled told w));
    }

pub returns-clause-settled : goal.returns-clause-settled
returns-clause-settled c = λ told w.
    late_end c.args.graph.now _ _ _ told c.args.late.now c.loop-number.number-index c.loop-number-test.false (c.loop-number.invariant.settled told w)
