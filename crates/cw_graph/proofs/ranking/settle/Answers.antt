use Rattle.std.proofs.Common.{◌≡◌, ◌<◌, ◌≤◌, ◌+◌, length, slice_index, None, arith}
use Rattle.std.proofs.lemmas.Result.{on_ok_weaker}
use Rattle.std.proofs.lemmas.Grind.{common_steps}
use Rattle.cw_graph.specs.Rows.{row_of}
use Rattle.cw_graph.specs.Levels.{level_of}
use Rattle.cw_graph.proofs.Settling.{ranked_after, all_wait_after, all_wait_behind}
use Rattle.cw_graph.proofs.ranking.settle.Goals as goal

pub returns-then-place-row-clause-settled : goal.returns-then-place-row-clause-settled
returns-then-place-row-clause-settled c =
    let g = c.args.graph.now in
    let a = c.args.number in
    let place = c.first_open-place.result in
    let levels = c.args.levels.now.items in
    let low : place < length (row_of g.rows a) = grind (arith, common_steps) in
    let none : level_of levels (slice_index (row_of g.rows a) place) ≡ None = grind (arith, common_steps) in
    let lead : c.number_at.result ≡ slice_index (row_of g.rows a) place = grind (arith, common_steps) in
    on_ok_weaker c.wait.result
    (λ e told late w. all_wait_behind g levels c.args.order.now.items c.args.waiting.now.items _ told a place late c.requires.waiting c.requires.whole low none (rw lead at e) w)
    c.wait.ensures

pub returns-else-place-row-clause-ranked : goal.returns-else-place-row-clause-ranked
returns-else-place-row-clause-ranked c =
    let g = c.args.graph.now in
    let a = c.args.number in
    let levels = c.args.levels.now.items in
    let none : level_of levels a ≡ None = grind (arith, common_steps) in
    let level = rw c.as_slice-else-place-row.ensures.value at c.level_by_row-level.ensures.level in
    let low : c.level_by_row-level.result ≤ length c.args.order.now.items + 1 = rw c.as_slice-else-place-row-2.ensures.value at c.level_by_row-level.ensures.low in
    on_ok_weaker c.close.result
    (λ e. ranked_after g levels _ c.args.order.now.items _ a _ c.requires.ranked c.requires.number none level low e)
    c.close.ensures

pub returns-else-place-row-clause-settled : goal.returns-else-place-row-clause-settled
returns-else-place-row-clause-settled c =
    on_ok_weaker c.close.result
    (λ e told late w. all_wait_after c.args.graph.now c.args.levels.now.items _ c.args.order.now.items _ c.args.waiting.now.items told c.args.number _ late c.requires.ranked c.requires.number e w)
    c.close.ensures
