use Rattle.std.proofs.Common.{◌≡◌, ◌++◌, drop}
use Rattle.cw_make_stmt.specs.Made.{labels_of}
use Rattle.cw_make_stmt.proofs.parts.labels_of.Given as goal

abbrev pub invariant-loop-name : goal.invariant-loop-name
invariant-loop-name l = l.all ++ labels_of l.numbers (drop l.name-index l.names) ≡ labels_of l.numbers l.names
