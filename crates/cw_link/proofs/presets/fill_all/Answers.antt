use Rattle.std.proofs.Common.{◌+◌, ◌++◌, map, ◌∙◌}
use Rattle.cw_link.specs.Contents.{contents_of}
use Rattle.cw_link.specs.LinkedImage.{filled_word}
use Rattle.cw_link.proofs.Segments.{next_presets}
use Rattle.cw_link.proofs.presets.fill_all.Goals as goal

pub loop-segment-preserved : goal.loop-segment-preserved
loop-segment-preserved c =
    let r = c.loop-segment.invariant.filled in
    let view = c.index-views-segment.result in
    let own = c.list_at-homes.result.now in
    let f = filled_word (c.loop-segment.segment + 1) own in
    record {
      count = c.fill_presets.ensures.count ∙ c.loop-segment.invariant.count;
      filled = (r.0 ++ map f (contents_of view).presets, c.fill_presets.ensures.filled r.0 r.1, next_presets c.args.views.now c.args.homes.now c.loop-segment.segment view own r.0 _ c.loop-segment-test.true c.index-views-segment.is c.list_at-homes.ensures r.2);
    }
