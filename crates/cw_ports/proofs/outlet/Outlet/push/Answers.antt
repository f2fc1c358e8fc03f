use Rattle.std.proofs.Common.{rules, ◌≡◌, ◌+◌}
use Rattle.cw_ports.proofs.Pieces.{piece_written, last_refused}
use Rattle.cw_ports.proofs.outlet.Outlet.push.Goals as goal

pub returns-then-count-eq-PIECE-clause-taken : goal.returns-then-count-eq-PIECE-clause-taken
returns-then-count-eq-PIECE-clause-taken g c = λ _.
    let s = c.args.self.now in
    let whole : c.write_piece-count.result ≡ s.to + 1 = search rules in
    piece_written (g.O.Sink.held s.out.now) (g.O.Sink.held c.write_piece-count.new.sink) s.bytes s.from s.to c.write_piece-count.result c.args.value (s.start c.requires) whole (search rules)
    c.write_piece-count.ensures.held

pub returns-else-count-eq-PIECE-clause-refused : goal.returns-else-count-eq-PIECE-clause-refused
returns-else-count-eq-PIECE-clause-refused g c = λ _.
    let s = c.args.self.now in
    last_refused (g.O.Sink.held s.out.now) (g.O.Sink.held c.write_piece-count.new.sink) s.bytes s.from c.write_piece-count.result s.to c.args.value (s.start c.requires) (search rules)
    c.write_piece-count.ensures.held
