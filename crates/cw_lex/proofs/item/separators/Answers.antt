use Rattle.std.proofs.Common.{arith, ◌≡◌, ◌∙◌, ◌-◌, ℕ, List, ap, length, take, drop}
use Rattle.std.proofs.lemmas.List.{length-drop, take_all}
use Rattle.cw_lex.specs.Found.{comment_size}
use Rattle.cw_lex.proofs.Gaps.{gap_step}
use Rattle.cw_lex.proofs.item.separators.Goals as goal

rest : (at : ℕ) (bs : List ℕ) → take (length bs - at) (drop at bs) ≡ drop at bs
rest at bs = grind (arith, take_all, length-drop)

-- src/item.rt:202:5
pub loop-at-preserved : goal.loop-at-preserved
loop-at-preserved c = record {
  within = omega (arith, c.loop-at-test.true, c.comment_size-n.ensures.within, length-drop c.loop-at.at c.args.bytes.now);
  same = gap_step c.args.bytes.now c.loop-at.at c.comment_size-n.result (c.comment_size-n.ensures.value ∙ ap comment_size (rest c.loop-at.at c.args.bytes.now)) (omega (arith, c.if-n-eq0.false)) c.loop-at.invariant.same;
}
