use Rattle.std.proofs.Common.{◌≡◌, ◌++◌, map, drop}
use Rattle.cw_scope.specs.Resolved.{all_rows, fact_signatures}
use Rattle.cw_scope.proofs.declared.+specified.Given as goal

abbrev pub invariant-signatures_of-loop-fact : goal.invariant-signatures_of-loop-fact
invariant-signatures_of-loop-fact l = l.all ++ all_rows (map fact_signatures (drop l.fact-index l.facts)) ≡ l.fn.before ++ all_rows (map fact_signatures l.facts)
