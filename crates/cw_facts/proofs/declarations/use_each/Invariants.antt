use Rattle.std.proofs.Common.{◌≡◌, ◌++◌, drop}
use Rattle.cw_facts.specs.Facts.{each_uses}
use Rattle.cw_facts.proofs.declarations.use_each.Given as goal

abbrev pub invariant-loop-name : goal.invariant-loop-name
invariant-loop-name l = l.out ++ each_uses (drop l.name-index l.names) ≡ l.initial.out ++ each_uses l.names
