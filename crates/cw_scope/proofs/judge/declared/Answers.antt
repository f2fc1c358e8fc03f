use Rattle.cw_scope.proofs.Keeping.{declared_next, all_are_declared}
use Rattle.cw_scope.proofs.judge.declared.Goals as goal

pub loop-fact-preserved : goal.loop-fact-preserved
loop-fact-preserved c = declared_next c.args.facts.now c.loop-fact.fact-index c.fact-item.result c.loop-fact.table _ _ c.loop-fact-test.true c.fact-item.is c.in_ok-table.ensures c.loop-fact.invariant

pub returns : goal.returns
returns c = all_are_declared c.args.facts.now c.loop-fact.fact-index c.loop-fact.table _ c.loop-fact-test.false c.loop-fact.invariant
