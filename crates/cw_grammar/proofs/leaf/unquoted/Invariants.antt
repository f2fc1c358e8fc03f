use Rattle.std.proofs.Common.{◌≡◌, ◌++◌, ◌-◌, drop, length}
use Rattle.cw_grammar.specs.Tokens.{unquoted}
use Rattle.cw_grammar.proofs.leaf.unquoted.Given as goal

abbrev pub invariant-loop-at : goal.invariant-loop-at
invariant-loop-at l = l.found ++ unquoted (drop l.at l.text) ≡ unquoted l.text

abbrev pub decreases-loop-at : goal.decreases-loop-at
decreases-loop-at l = length l.text - l.at
