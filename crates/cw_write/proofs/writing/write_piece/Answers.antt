use Rattle.std.proofs.Common.{rules}
use Rattle.cw_write.proofs.Said.{piece_goes_on}
use Rattle.cw_write.proofs.writing.write_piece.Goals as goal

pub rest-preserved : goal.rest-preserved
rest-preserved g c = record {
  within = search rules;
  held = piece_goes_on _ (g.S.Sink.held c.rest.sink) _ c.args.piece.now c.rest.done c.in_ok-done.field-0 c.rest.invariant.held (search rules);
  faults = search rules;
}
