use Rattle.std.proofs.Common.{◌≡◌, take}
use Rattle.cw_io.specs.Bytes.{after_told}
use Rattle.cw_write.specs.Said.{joined}
use Rattle.cw_write.proofs.writing.write_line.Given as goal

abbrev pub invariant-loop-piece : goal.invariant-loop-piece
invariant-loop-piece g l = record {
  held : g.S.Sink.held l.sink ≡ after_told (g.S.Sink.held l.fn.sink) (joined (take l.piece-index l.pieces));
  faults : g.S.Sink.faults l.sink ≡ g.S.Sink.faults l.fn.sink;
}
