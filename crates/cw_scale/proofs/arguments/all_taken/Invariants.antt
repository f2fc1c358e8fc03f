use Rattle.std.proofs.Common.{◌≡◌, map, drop}
use Rattle.cw_scale.specs.TypeRules.{all_taken, expression}
use Rattle.cw_scale.proofs.arguments.all_taken.Given as goal

abbrev pub invariant-loop-param : goal.invariant-loop-param
invariant-loop-param l = all_taken l.named (drop l.param-index l.params) (map (expression l.named) l.rest) ≡ all_taken l.named l.params (map (expression l.named) l.arguments)
