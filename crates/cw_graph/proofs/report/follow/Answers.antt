use Rattle.std.proofs.Common.{◌≡◌, ◌+◌, ◌-◌, refl, arith}
use Rattle.std.proofs.lemmas.Grind.{common_steps}
use Rattle.cw_graph.proofs.Choices.{next_low, next_level, chain_next}
use Rattle.cw_graph.proofs.report.follow.Goals as goal

pub loop-left-preserved : goal.loop-left-preserved
loop-left-preserved c =
    let g = c.args.graph.now in
    let levels = c.args.levels.now in
    let left = c.loop-left.left in
    let node = c.loop-left.node in
    let b = c.next_of-node.result in
    let whole = c.requires.whole in
    let right = c.requires.levels in
    let e : left ≡ (left - 1) + 1 = omega (arith, c.loop-left-test.true) in
    let next = c.next_of-node.ensures (left - 1) e in
    let pushed = c.in_ok-push.ensures.ok in
    record {
      node = next_low g levels whole right node (left - 1) b next;
      level = next_level g levels whole right node (left - 1) ((left - 1) + 1) b refl next;
      size = grind (arith, common_steps);
      before = rw pushed (chain_next g levels whole right c.args.start node (left - 1) left b c.loop-left.chain e next c.loop-left.invariant.before);
    }
