use Rattle.std.proofs.Common.{◌≡◌, ◌++◌, drop}
use Rattle.cw_gen_unit.specs.ReferenceUnits.{procedure_marks}
use Rattle.cw_gen_unit.proofs.unit.procedure_marks.Given as goal

abbrev pub invariant-loop-i : goal.invariant-loop-i
invariant-loop-i l = l.marks ++ procedure_marks l.unit l.i (drop l.i l.unit.procs) ≡ procedure_marks l.unit 0 l.unit.procs
