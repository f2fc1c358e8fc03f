use Rattle.std.proofs.Common.{rules}
use Rattle.cw_ports.proofs.Pieces.{piece_goes_on}
use Rattle.cw_ports.proofs.outlet.write_piece.Goals as goal

pub rest-preserved : goal.rest-preserved
rest-preserved g c = record {
  within = search rules;
  held = piece_goes_on _ (g.O.Sink.held c.rest.sink) _ c.args.piece.now c.rest.done c.in-Ok.count c.rest.invariant.held (search rules);
  faults = search rules;
}
