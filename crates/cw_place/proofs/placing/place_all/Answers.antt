use Rattle.std.proofs.Common.{◌≡◌, [], Some, get_or, slice_get, ap, ◌∙◌}
use Rattle.std.proofs.lemmas.Option.{slice_get-get_or}
use Rattle.cw_unit.specs.Allocation.{last_end_of}
use Rattle.cw_place.specs.declared.space.Space.{Space}
use Rattle.cw_place.specs.Placement.{told_words}
use Rattle.cw_place.proofs.Kept.{next_homes, all_homes, all_before}
use Rattle.cw_place.proofs.placing.place_all.Goals as goal

pub loop-segment-preserved : goal.loop-segment-preserved
loop-segment-preserved c =
    let spaces = c.args.spaces.now in
    let g = c.loop-segment.segment in
    let s : Space = get_or spaces g (record { families = []; need = 0 }) in
    let is : slice_get spaces g ≡ Some s = slice_get-get_or spaces g _ c.loop-segment-test.true in
    record {
      placed = c.in_ok-addresses.ensures.placed;
      homes = c.in_ok-push.ensures.ok ∙ next_homes c.args.agreed.now spaces g s c.loop-segment.homes c.in_ok-addresses.addresses is c.loop-segment.invariant.homes (c.in_ok-addresses.ensures.homes s is);
    }

pub returns-clause-homes : goal.returns-clause-homes
returns-clause-homes c = all_homes c.args.agreed.now c.args.spaces.now c.loop-segment.segment c.loop-segment.homes c.loop-segment-test.false c.loop-segment.invariant.homes

pub returns-clause-end : goal.returns-clause-end
returns-clause-end c =
    c.loop-segment.invariant.placed.end ∙ ap (λ ps. told_words (last_end_of 0 ps)) (all_before c.args.agreed.now c.args.spaces.now c.loop-segment.segment c.loop-segment-test.false)
