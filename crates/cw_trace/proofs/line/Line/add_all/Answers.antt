use Rattle.std.proofs.Common.{refl, ◌∙◌}
use Rattle.cw_trace.proofs.Added.{item_more, item_cut}
use Rattle.cw_trace.proofs.line.Line.add_all.Goals as goal

pub returns-in-Err : goal.returns-in-Err
returns-in-Err g c =
    item_cut (λ piece. piece.now) c.args.pieces.now c.loop-piece.piece-index _ _ _ _ _ _ c.loop-piece-test.true refl c.loop-piece.invariant.keeps c.loop-piece.invariant.faults c.in-Err.ensures

pub loop-piece-preserved : goal.loop-piece-preserved
loop-piece-preserved g c = record {
  keeps = item_more (λ piece. piece.now) c.args.pieces.now c.loop-piece.piece-index _ _ _ _ _ _ _ _ c.loop-piece-test.true refl c.loop-piece.invariant.keeps c.in_default.ensures.ok;
  faults = c.in_default.ensures.ok_faults ∙ c.loop-piece.invariant.faults;
}
