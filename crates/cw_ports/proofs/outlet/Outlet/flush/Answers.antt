use Rattle.std.proofs.Common.{rules, ap, ◌∙◌, take, ◌≡◌}
use Rattle.cw_io.specs.Bytes.{after_told}
use Rattle.cw_ports.proofs.Pieces.{rest_stays}
use Rattle.cw_ports.proofs.outlet.Outlet.flush.Goals as goal

pub returns-else-count-gathered-clause-told : goal.returns-else-count-gathered-clause-told
returns-else-count-gathered-clause-told g c =
    let s = c.args.self.now in
    let gathered : c.split_at.result.0.now ≡ take s.to s.bytes = search rules in
    rest_stays (g.O.Sink.held s.out.now) (g.O.Sink.held c.write_piece-count.new.sink) s.bytes s.from c.write_piece-count.result s.to (s.start c.if-self.false) (search rules)
    (c.write_piece-count.ensures.held ∙ ap (λ xs. after_told (g.O.Sink.held s.out.now) (take c.write_piece-count.result xs)) gathered)
