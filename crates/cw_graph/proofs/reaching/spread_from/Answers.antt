use Rattle.std.proofs.Common.{◌≡◌, arith, slice_index}
use Rattle.std.proofs.lemmas.Grind.{common_steps}
use Rattle.std.proofs.lemmas.Result.{on_ok_weaker}
use Rattle.cw_graph.proofs.Results.{on_ok_both}
use Rattle.cw_graph.specs.Rows.{row_of}
use Rattle.cw_graph.proofs.Visiting.{row_listed, spread_more}
use Rattle.cw_graph.proofs.reaching.spread_from.Goals as goal

pub visit_all-requires-clause-listed : goal.visit_all-requires-clause-listed
visit_all-requires-clause-listed c =
    let row : c.row_of-row.result.now ≡ row_of c.args.graph.now.rows (slice_index c.args.order.now.items c.args.told) = grind (arith, common_steps) in
    rw row (λ k h. row_listed c.args.graph.now c.args.flags.now.items c.args.order.now.items c.args.told k c.requires.visited c.requires.told h)

pub returns-clause-spread : goal.returns-clause-spread
returns-clause-spread c =
    let row : c.row_of-row.result.now ≡ row_of c.args.graph.now.rows (slice_index c.args.order.now.items c.args.told) = grind (arith, common_steps) in
    on_ok_weaker c.visit_all.result (λ both. spread_more c.args.graph.now c.args.flags.now.items _ c.args.order.now.items _ c.args.told c.requires.told both.0 (rw row at both.1)) (on_ok_both _ _ c.visit_all.result c.visit_all.ensures.grows c.visit_all.ensures.row)
