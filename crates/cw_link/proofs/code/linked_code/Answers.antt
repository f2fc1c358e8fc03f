use Rattle.std.proofs.Common.{◌≡◌, ◌+◌, [], get_or, refl, map, drop, ap, length, ◌∙◌, arith}
use Rattle.cw_link.specs.Contents.{contents_of}
use Rattle.cw_link.specs.LinkedImage.{links_at, next_entry}
use Rattle.cw_link.proofs.Segments.{code_fits, next_end, next_code, links_are, contents_at}
use Rattle.cw_link.proofs.code.linked_code.Goals as goal

pub overflow_cast-end : goal.overflow_cast-end
overflow_cast-end c = omega (arith, code_fits c.args.views.now c.loop-segment.segment c.loop-segment.start _ _ c.index-views-segment.result c.code.result.now c.loop-segment-test.true c.index-views-segment.is c.loop-segment.invariant.end c.code.ensures c.requires.short)

pub overflow_add-end : goal.overflow_add-end
overflow_add-end c = omega (arith, code_fits c.args.views.now c.loop-segment.segment c.loop-segment.start _ _ c.index-views-segment.result c.code.result.now c.loop-segment-test.true c.index-views-segment.is c.loop-segment.invariant.end c.code.ensures c.requires.short)

pub loop-segment-preserved : goal.loop-segment-preserved
loop-segment-preserved c =
    let views = c.args.views.now in
    let g = c.loop-segment.segment in
    let view = c.index-views-segment.result in
    let lt = c.loop-segment-test.true in
    let is = c.index-views-segment.is in
    let end : c.loop-segment.start + length c.code.result.now ≡ c.loop-segment.start + length (contents_of view).code = ap (λ bytes. c.loop-segment.start + length bytes) c.code.ensures in
    let rest = map contents_of (drop (g + 1) views) in
    record {
      end = next_end views g c.loop-segment.start _ view _ lt is end c.loop-segment.invariant.end;
      filled = next_code views c.args.limits.now _ c.loop-segment.code.items c.relocate.new.image.items g c.loop-segment.start _ view _ lt is end c.relocate.ensures
          (links_are _ (links_at (map contents_of views) g c.loop-segment.start (contents_of view) rest) (c.list_at.ensures ∙ ap (λ hs. get_or hs g []) c.requires.homes) (c.list_at-in-loop-segment.ensures ∙ c.requires.definitions g (contents_of view) (contents_at views g view lt is)) refl refl (c.next_entry.ensures ∙ ap (λ e. next_entry e rest) end)) c.loop-segment.invariant.filled;
    }
