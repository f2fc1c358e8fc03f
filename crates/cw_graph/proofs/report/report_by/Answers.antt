use Rattle.cw_graph.proofs.Choices.{all_heights, unbounded_is}
use Rattle.cw_graph.proofs.report.report_by.Goals as goal

pub returns-in-Some : goal.returns-in-Some
returns-in-Some c =
    unbounded_is c.args.graph.now c.args.levels.now c.requires.whole c.requires.levels c.in_ok-flags.flags.items c.in-Some.node c.in_ok-flags.ensures (rw c.as_slice.ensures.value at c.in-Some.ensures)

pub bound_in-requires-clause-heights : goal.bound_in-requires-clause-heights
bound_in-requires-clause-heights c =
    all_heights c.args.graph.now c.args.levels.now c.requires.whole c.requires.levels c.in_ok-flags.flags.items c.in_ok-flags.ensures (rw c.as_slice.ensures.value at c.in-None.ensures)
