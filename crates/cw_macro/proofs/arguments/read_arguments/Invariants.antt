-- The arguments so far, the one at hand, and those still to read.
use Rattle.std.proofs.Common.{◌≡◌, [], length, map, reverse}
use Rattle.cw_macro.specs.Expansion.{arguments}
use Rattle.cw_macro.specs.Views.{left_of, leveled, lists_of}
use Rattle.cw_macro.proofs.Lists.{behind}
use Rattle.cw_macro.proofs.arguments.read_arguments.Given as goal

abbrev pub invariant-loop-item : goal.invariant-loop-item
invariant-loop-item l = arguments [] (left_of l.initial.left) ≡ behind (lists_of l.given) (map leveled l.argument) (arguments (reverse l.brackets.items) (left_of l.left))

abbrev pub decreases-loop-item : goal.decreases-loop-item
decreases-loop-item l = length (left_of l.left)
