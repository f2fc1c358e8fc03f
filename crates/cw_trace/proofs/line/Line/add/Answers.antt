use Rattle.cw_trace.proofs.Added.{adds_written}
use Rattle.cw_trace.proofs.line.Line.add.Goals as goal

pub returns-then-piece-gt-ROOM : goal.returns-then-piece-gt-ROOM
returns-then-piece-gt-ROOM g c =
    let flushed = c.in_ok-flush.ensures in
    adds_written _ _ _ _ _ _ flushed.writes.ok flushed.writes.ok_faults flushed.none c.write_piece.ensures
