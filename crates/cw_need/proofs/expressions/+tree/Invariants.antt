use Rattle.std.proofs.Common.{◌≡◌, ◌+◌, ◌≤◌, max, drop}
use Rattle.cw_unit.specs.StackBound.{arguments_depth, argument_depths}
use Rattle.cw_need.specs.Told.{told}
use Rattle.cw_need.proofs.expressions.+tree.Given as goal

abbrev pub invariant-arguments_depth-loop-argument : goal.invariant-arguments_depth-loop-argument
invariant-arguments_depth-loop-argument l = record {
  rest : told (max l.most (l.held + arguments_depth (argument_depths (drop l.argument-index l.arguments)))) ≡ told (arguments_depth (argument_depths l.arguments));
  most : l.most ≤ 65536;
  held : l.held ≤ 65536;
}
