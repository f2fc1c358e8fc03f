use Rattle.std.proofs.Common.{◌≡◌, ◌++◌, map, drop}
use Rattle.cw_scope.specs.Resolved.{all_rows, fact_declarations}
use Rattle.cw_scope.proofs.declared.+declared.Given as goal

abbrev pub invariant-declarations_of-loop-fact : goal.invariant-declarations_of-loop-fact
invariant-declarations_of-loop-fact l = l.all ++ all_rows (map fact_declarations (drop l.fact-index l.facts)) ≡ l.fn.before ++ all_rows (map fact_declarations l.facts)
