use Rattle.std.proofs.Common.{◌≡◌, drop}
use Rattle.cw_judge.specs.Judged.{arguments_counted}
use Rattle.cw_judge.proofs.sites.count_arguments.Given as goal

abbrev pub invariant-loop-argument : goal.invariant-loop-argument
invariant-loop-argument l = arguments_counted (drop l.argument-index l.arguments) l.first ≡ arguments_counted l.arguments l.initial.first
