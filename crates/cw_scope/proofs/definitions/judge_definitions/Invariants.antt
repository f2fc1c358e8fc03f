use Rattle.std.proofs.Common.{◌≡◌, map, drop}
use Rattle.cw_scope.specs.Definitions.{each_listed, defined}
use Rattle.cw_scope.proofs.definitions.judge_definitions.Given as goal

abbrev pub invariant-loop-fact : goal.invariant-loop-fact
invariant-loop-fact l = each_listed l.signatures l.communicators (map (defined l.signatures) (drop l.fact-index l.facts)) l.first ≡ each_listed l.signatures l.communicators (map (defined l.signatures) l.facts) l.initial.first
