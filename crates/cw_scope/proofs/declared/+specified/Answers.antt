use Rattle.cw_scope.specs.Resolved.{fact_signatures}
use Rattle.cw_scope.proofs.Keeping.{rows_next}
use Rattle.cw_scope.proofs.declared.+specified.Goals as goal

pub signatures_of-loop-fact-preserved : goal.signatures_of-loop-fact-preserved
signatures_of-loop-fact-preserved t c =
    rows_next fact_signatures c.args.facts.now c.loop-fact.fact-index c.fact-item.result c.loop-fact.all _ _ c.loop-fact-test.true c.fact-item.is c.in_ok-all.ensures c.loop-fact.invariant
