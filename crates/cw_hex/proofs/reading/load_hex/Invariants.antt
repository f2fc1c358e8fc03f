use Rattle.std.proofs.Common.{◌≡◌, ◌+◌, ◌≤◌, length}
use Rattle.cw_hex.specs.HexFormat.{lines_of}
use Rattle.cw_hex.proofs.Fold.{lines_told}
use Rattle.cw_hex.proofs.reading.load_hex.Given as goal

abbrev pub invariant-loop-rest : goal.invariant-loop-rest
invariant-loop-rest l = record {
  so_far : lines_told l.number l.reading (lines_of l.rest) ≡ lines_told 1 l.initial.reading (lines_of l.text);
  number : l.number + length l.rest ≤ length l.text + 1;
}

abbrev pub decreases-loop-rest : goal.decreases-loop-rest
decreases-loop-rest l = length l.rest
