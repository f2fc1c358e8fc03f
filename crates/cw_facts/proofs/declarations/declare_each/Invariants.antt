use Rattle.std.proofs.Common.{◌≡◌, ◌++◌, drop}
use Rattle.cw_facts.specs.Facts.{each_declares}
use Rattle.cw_facts.proofs.declarations.declare_each.Given as goal

abbrev pub invariant-loop-name : goal.invariant-loop-name
invariant-loop-name l = l.out ++ each_declares l.kind (drop l.name-index l.names) ≡ l.initial.out ++ each_declares l.kind l.names
