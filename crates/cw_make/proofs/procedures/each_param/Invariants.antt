use Rattle.std.proofs.Common.{◌≡◌, ◌++◌, drop}
use Rattle.cw_make.specs.Procedures.{each_param}
use Rattle.cw_make.proofs.procedures.each_param.Given as goal

abbrev pub invariant-loop-name : goal.invariant-loop-name
invariant-loop-name l = l.out ++ each_param l.text.numbers.now l.param (drop l.name-index l.names) ≡ l.initial.out ++ each_param l.text.numbers.now l.param l.names
