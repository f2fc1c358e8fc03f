use Rattle.std.proofs.Common.{◌≡◌, ◌++◌, drop}
use Rattle.cw_facts.specs.Text.{communicators_facts}
use Rattle.cw_facts.proofs.text.communicators.Given as goal

abbrev pub invariant-loop-list : goal.invariant-loop-list
invariant-loop-list l = l.out ++ communicators_facts (drop l.list-index l.lists) ≡ l.initial.out ++ communicators_facts l.lists
