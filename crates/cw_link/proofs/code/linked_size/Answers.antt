use Rattle.std.proofs.Common.{◌+◌, ap, length, ◌∙◌}
use Rattle.cw_place.specs.Placement.{told_words}
use Rattle.cw_link.proofs.Segments.{next_size, all_size}
use Rattle.cw_link.proofs.code.linked_size.Goals as goal

pub loop-view-preserved : goal.loop-view-preserved
loop-view-preserved c = record {
  size = next_size c.args.views.now c.loop-view.view-index c.loop-view.size c.saturating_add-size.result c.view-item.result _ c.loop-view-test.true c.view-item.is (c.saturating_add-size.ensures ∙ ap (λ bytes. told_words (c.loop-view.size + length bytes)) c.code.ensures) c.loop-view.invariant.size;
  small = c.saturating_add-size.type_inv;
}

pub returns : goal.returns
returns c = all_size c.args.views.now c.loop-view.view-index c.loop-view.size _ c.loop-view-test.false c.loop-view.invariant.small c.loop-view.invariant.size
