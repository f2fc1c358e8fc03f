use Rattle.std.proofs.Common.{◌≡◌, ◌++◌, take}
use Rattle.cw_list.specs.Listing.{row_lines}
use Rattle.cw_list.proofs.lines.add_rows.Given as goal

abbrev pub invariant-loop-k : goal.invariant-loop-k
invariant-loop-k l = l.text.items ≡ l.fn.text.items ++ row_lines (take l.k l.rows)
