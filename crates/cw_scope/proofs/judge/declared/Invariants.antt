use Rattle.std.proofs.Common.{◌≡◌, ◌++◌, map, drop}
use Rattle.cw_scope.specs.NameRules.{all_declared, said}
use Rattle.cw_scope.proofs.judge.declared.Given as goal

abbrev pub invariant-loop-fact : goal.invariant-loop-fact
invariant-loop-fact l = l.table ++ all_declared (map said (drop l.fact-index l.facts)) ≡ all_declared (map said l.facts)
