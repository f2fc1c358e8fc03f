use Rattle.std.proofs.Common.{◌≡◌, take}
use Rattle.cw_write.specs.Said.{joined}
use Rattle.cw_trace.specs.Gathering.{KeepsRest}
use Rattle.cw_trace.proofs.line.Line.add_all.Given as goal

abbrev pub invariant-loop-piece : goal.invariant-loop-piece
invariant-loop-piece g l = record {
  keeps : KeepsRest (g.S.Sink.held l.fn.say) l.fn.self (g.S.Sink.held l.say) l.self (joined (take l.piece-index l.pieces));
  faults : g.S.Sink.faults l.say ≡ g.S.Sink.faults l.fn.say;
}
