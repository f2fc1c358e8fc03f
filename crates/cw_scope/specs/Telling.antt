-- The faults that a judgement tells: with no fault before it, it answers the earliest of them.
use Rattle.std.specs.Prelude.{List}
use Rattle.cw_table.specs.Earliest.{Keeps}
use Rattle.cw_scope.specs.declared.fault.Fault.{Fault}
use Rattle.cw_scope.specs.Faults.{Judgement, comes_before}

abbrev pub Tells : Judgement → List Fault → Type 0
Tells j told = Keeps comes_before j told
