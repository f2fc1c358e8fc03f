use Rattle.std.proofs.Common.{◌≡◌, ◌++◌, drop}
use Rattle.cw_gen_unit.specs.ReferenceUnits.{label_marks}
use Rattle.cw_gen_unit.proofs.unit.label_marks.Given as goal

abbrev pub invariant-loop-i : goal.invariant-loop-i
invariant-loop-i l = l.marks ++ label_marks l.unit l.i (drop l.i l.labels) ≡ label_marks l.unit 0 l.labels
