use Rattle.std.proofs.Common.{◌≡◌, ◌-◌, ◌≤◌, length, take}
use Rattle.cw_io.specs.Bytes.{after_told}
use Rattle.cw_ports.proofs.outlet.write_piece.Given as goal

abbrev pub invariant-rest : goal.invariant-rest
invariant-rest g l = record {
  within : l.done ≤ length l.piece;
  held : g.O.Sink.held l.sink ≡ after_told (g.O.Sink.held l.fn.sink) (take l.done l.piece);
  faults : g.O.Sink.faults l.sink ≡ g.O.Sink.faults l.fn.sink;
}

abbrev pub decreases-rest : goal.decreases-rest
decreases-rest g l = length l.piece - l.done
