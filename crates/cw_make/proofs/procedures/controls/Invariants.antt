use Rattle.std.proofs.Common.{◌≡◌, drop}
use Rattle.cw_make.specs.Procedures.{controls_from}
use Rattle.cw_make.proofs.procedures.controls.Given as goal

abbrev pub invariant-loop-param : goal.invariant-loop-param
invariant-loop-param l = controls_from l.count (drop l.param-index l.params) ≡ controls_from 0 l.params
