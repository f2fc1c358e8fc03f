use Rattle.std.proofs.Common.{◌≡◌, ◌++◌, map, drop}
use Rattle.cw_make.specs.Labels.{joined, fact_labels}
use Rattle.cw_make.proofs.labels.+labels.Given as goal

abbrev pub invariant-facts_labels-loop-fact : goal.invariant-facts_labels-loop-fact
invariant-facts_labels-loop-fact l = l.out ++ joined (map (fact_labels l.numbers) (drop l.fact-index l.facts)) l.proc ≡ l.initial.out ++ joined (map (fact_labels l.numbers) l.facts) l.proc
