use Rattle.std.proofs.Common.{◌≡◌, ◌∙◌, slice_index, arith}
use Rattle.std.proofs.lemmas.Result.{on_ok_weaker}
use Rattle.std.proofs.lemmas.Grind.{common_steps}
use Rattle.cw_graph.proofs.Telling.{told_next}
use Rattle.cw_graph.proofs.ranking.tell.Goals as goal

pub returns-clause-settled : goal.returns-clause-settled
returns-clause-settled c =
    let at' : c.index.result.now ≡ slice_index c.args.order.now.items c.args.told = grind (arith, common_steps) in
    let late = rw at' at c.take_waiting-late.ensures.taken in
    on_ok_weaker c.settle_all.result
    (λ settled. told_next c.args.graph.now _ _ _ _ c.args.waiting.now.items _ _ c.args.told _ c.requires.told c.requires.ranked c.requires.waiting (c.as_slice.ensures ∙ late) (rw at' at c.take_waiting-late.ensures.left) settled)
    c.settle_all.ensures.settled
