use Rattle.std.proofs.Common.{◌≡◌, take}
use Rattle.cw_unit.specs.declared.layout.Limits.{Limits}
use Rattle.cw_unit.specs.Program.{program_at}
use Rattle.cw_list.specs.Rows.{rows_from}
use Rattle.cw_list.proofs.unit_rows.Given as goal

abbrev pub invariant-loop-segment : goal.invariant-loop-segment
invariant-loop-segment l = (limits : Limits) → l.rows ≡ rows_from (program_at l.units l.map limits) 0 (take l.segment l.units)
