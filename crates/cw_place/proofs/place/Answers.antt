use Rattle.std.proofs.Common.{◌≡◌, ◌≤◌, ◌+◌, arith, rules}
use Rattle.cw_unit.specs.Allocation.{last_end_of, placed_families}
use Rattle.cw_place.specs.Fitting.{control_words}
use Rattle.cw_place.specs.Segments.{segment_storage}
use Rattle.cw_place.proofs.SameFits.{swept_for}
use Rattle.cw_place.proofs.Kept.{map_is}
use Rattle.cw_place.proofs.place.Goals as goal

pub place_all-requires-clause-spans : goal.place_all-requires-clause-spans
place_all-requires-clause-spans c =
    swept_for c.args.agreed.now c.args.spaces.now c.in_ok-spans.spans.items c.as_slice-absolute.result.now c.as_slice-absolute.ensures.value c.in_ok-spans.ensures.swept c.in_ok-spans.ensures.each c.in_ok-spans.ensures.fits

pub returns : goal.returns
returns c =
    let ss = segment_storage c.args.agreed.now c.args.spaces.now in
    let room = c.requires.limits.1 in
    let need = c.saturating_add-need.ensures in
    let end : c.in_ok-homes.end ≡ last_end_of 0 (placed_families ss) = omega (arith, c.in_ok-homes.ensures.end, need, c.if-need-from.false, room) in
    let small : c.in_ok-homes.end ≤ 65535 = omega (arith, need, c.if-need-from.false, room) in
    let fits : last_end_of 0 (placed_families ss) + c.args.limits.now.frames ≤ c.args.limits.now.area = omega (arith, need, c.if-need-from.false, room, end) in
    let control : control_words c.args.limits.now.depth c.args.spaces.now ≤ 32000 = omega (arith, c.control_words-control.ensures, c.if-control-gt-CONTROL.false) in
    (search rules, fits, control, map_is ss c.in_ok-homes.homes c.in_ok-homes.end c.in_ok-homes.ensures.homes end small)
