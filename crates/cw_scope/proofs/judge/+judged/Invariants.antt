use Rattle.std.proofs.Common.{◌≡◌, ◌++◌, map, drop}
use Rattle.cw_scope.specs.NameRules.{all_faults, all_resolved, said}
use Rattle.cw_scope.proofs.judge.+judged.Given as goal

abbrev pub invariant-judge_facts-loop-fact : goal.invariant-judge_facts-loop-fact
invariant-judge_facts-loop-fact l = record {
  blocks : l.blocks.items ≡ l.initial.blocks.items;
  first : all_faults l.initial.blocks.items (map said (drop l.fact-index l.facts)) l.findings.first ≡ all_faults l.initial.blocks.items (map said l.facts) l.initial.findings.first;
  resolved : l.findings.resolved ++ all_resolved l.initial.blocks.items (map said (drop l.fact-index l.facts)) ≡ l.initial.findings.resolved ++ all_resolved l.initial.blocks.items (map said l.facts);
}
