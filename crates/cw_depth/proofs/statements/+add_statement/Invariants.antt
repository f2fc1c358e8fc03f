use Rattle.std.proofs.Common.{◌≡◌, ◌++◌, map, drop}
use Rattle.cw_depth.specs.Mentions.{joined, in_statement}
use Rattle.cw_depth.proofs.statements.+add_statement.Given as goal

abbrev pub invariant-loop-each : goal.invariant-loop-each
invariant-loop-each l = l.out ++ joined (map in_statement (drop l.each-index l.each-items)) ≡ l.initial.out ++ joined (map in_statement l.each-items)
