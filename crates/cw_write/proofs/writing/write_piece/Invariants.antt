use Rattle.std.proofs.Common.{◌≡◌, ◌-◌, ◌≤◌, length, take}
use Rattle.cw_io.specs.Bytes.{after_told}
use Rattle.cw_write.proofs.writing.write_piece.Given as goal

abbrev pub invariant-rest : goal.invariant-rest
invariant-rest g l = record {
  within : l.done ≤ length l.piece;
  held : g.S.Sink.held l.sink ≡ after_told (g.S.Sink.held l.fn.sink) (take l.done l.piece);
  faults : g.S.Sink.faults l.sink ≡ g.S.Sink.faults l.fn.sink;
}

abbrev pub decreases-rest : goal.decreases-rest
decreases-rest g l = length l.piece - l.done
