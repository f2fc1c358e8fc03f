use Rattle.std.proofs.Common.{length, ◌-◌, ◌+◌, ◌≡◌, ◌≤◌, drop}
use Rattle.cw_lex.specs.Found.{bracket_end}
use Rattle.cw_lex.proofs.piece.bracket_end.Given as goal

abbrev pub invariant-loop-at : goal.invariant-loop-at
invariant-loop-at l = record {
  within : l.at ≤ length l.bytes;
  some : 1 ≤ l.depth;
  shallow : l.depth ≤ l.at + 1;
  same : bracket_end 1 0 l.bytes ≡ bracket_end l.depth l.at (drop l.at l.bytes);
}

abbrev pub decreases-loop-at : goal.decreases-loop-at
decreases-loop-at l = length l.bytes - l.at
