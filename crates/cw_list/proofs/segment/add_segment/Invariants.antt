use Rattle.std.proofs.Common.{◌≡◌, ◌++◌, take}
use Rattle.cw_list.specs.Rows.{segment_rows}
use Rattle.cw_list.proofs.segment.add_segment.Given as goal

abbrev pub invariant-loop-n : goal.invariant-loop-n
invariant-loop-n l = l.rows ≡ l.fn.rows ++ segment_rows l.unit l.layout l.addresses 0 (take l.n l.unit.items)
