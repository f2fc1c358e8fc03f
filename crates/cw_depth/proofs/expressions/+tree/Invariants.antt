use Rattle.std.proofs.Common.{◌≡◌, ◌++◌, map, drop}
use Rattle.cw_depth.specs.Mentions.{joined, in_argument}
use Rattle.cw_depth.proofs.expressions.+tree.Given as goal

abbrev pub invariant-add_arguments-loop-argument : goal.invariant-add_arguments-loop-argument
invariant-add_arguments-loop-argument l = l.out ++ joined (map in_argument (drop l.argument-index l.arguments)) ≡ l.initial.out ++ joined (map in_argument l.arguments)
