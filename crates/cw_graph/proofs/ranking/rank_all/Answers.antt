use Rattle.std.proofs.Common.{◌≡◌, length, arith}
use Rattle.std.proofs.lemmas.Grind.{common_steps}
use Rattle.cw_graph.proofs.Telling.{ranked_begun, all_wait_begun}
use Rattle.cw_graph.proofs.ranking.rank_all.Goals as goal

pub settle_all-requires-clause-ranked : goal.settle_all-requires-clause-ranked
settle_all-requires-clause-ranked c = rw c.new-order.ensures.items (ranked_begun c.args.graph.now c.args.levels.now.items c.requires.levels_size c.requires.no_levels)

pub tell_all-requires-clause-all : goal.tell_all-requires-clause-all
tell_all-requires-clause-all c =
    let size : length c.in_ok-all.all ≡ length c.args.graph.now.rows = grind (arith, common_steps) in
    c.in_ok-settle_all.ensures.settled 0 (rw (c.new-order.ensures.items, c.as_slice-2.ensures) (all_wait_begun c.args.graph.now c.args.levels.now.items c.args.waiting.now.items c.in_ok-all.all size c.in_ok-all.ensures.1))
