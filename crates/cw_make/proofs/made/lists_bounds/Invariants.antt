use Rattle.std.proofs.Common.{◌≡◌, drop}
use Rattle.cw_make.specs.Made.{lists_bounds}
use Rattle.cw_make.proofs.made.lists_bounds.Given as goal

abbrev pub invariant-loop-row : goal.invariant-loop-row
invariant-loop-row l = lists_bounds (drop l.row-index l.declarations) ≡ lists_bounds l.declarations
