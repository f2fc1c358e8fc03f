use Rattle.std.proofs.Common.{◌≡◌, ◌++◌, drop}
use Rattle.cw_make.specs.Procedures.{params_of}
use Rattle.cw_make.proofs.procedures.params_of.Given as goal

abbrev pub invariant-loop-param : goal.invariant-loop-param
invariant-loop-param l = l.all ++ params_of l.text.numbers.now (drop l.param-index l.params) ≡ params_of l.text.numbers.now l.params
