use Rattle.std.proofs.Common.{◌≡◌, ◌≤◌, ◌<◌, Some, length, get_or, slice_get, ap, subst, ◌∙◌, arith, rules}
use Rattle.std.proofs.lemmas.Option.{slice_get-get_or, slice_get_read, get_or_from_slice_get}
use Rattle.cw_unit.specs.declared.layout.Family.{Family}
use Rattle.cw_unit.specs.declared.layout.Sort.TheVariants as sort
use Rattle.cw_place.specs.declared.space.Space.{Space}
use Rattle.cw_place.specs.Placing.{HasPlaced}
use Rattle.cw_place.proofs.Kept.{next_address, all_addresses, all_placed}
use Rattle.cw_place.proofs.placing.place_segment.Goals as goal

pub loop-number-preserved : goal.loop-number-preserved
loop-number-preserved c = record {
  placed = c.place_family.ensures.placed;
  homes = λ s is.
      let agreed = c.args.agreed.now in
      let spaces = c.args.spaces.now in
      let g = c.args.segment in
      let n = c.loop-number.number in
      let f : Family = get_or s.families n (record { sort = sort.Own; extent = 0 }) in
      let count = ap length (c.as_slice-count.ensures ∙ ap (λ (x : Space). x.families) (get_or_from_slice_get spaces g s c.index-spaces-segment.result is)) in
      let within : n < length s.families = omega (arith, count, c.loop-number-test.true) in
      let at : slice_get s.families n ≡ Some f = slice_get-get_or s.families n _ within in
      c.in_ok-push.ensures.ok ∙ next_address agreed spaces g n s f c.loop-number.homes c.place_family.result is at (c.loop-number.invariant.homes s is) (c.place_family.ensures.address s f is at);
}

pub returns-clause-placed : goal.returns-clause-placed
returns-clause-placed c =
    let spaces = c.args.spaces.now in
    let g = c.args.segment in
    let t = c.index-spaces-segment.result in
    let found : slice_get spaces g ≡ Some t = slice_get_read spaces (length spaces) g t (search rules) c.requires.segment c.index-spaces-segment.is in
    let count = ap length (c.as_slice-count.ensures ∙ ap (λ (x : Space). x.families) (get_or_from_slice_get spaces g t t found)) in
    let all : length t.families ≤ c.loop-number.number = omega (arith, count, c.loop-number-test.false) in
    subst (λ ps. HasPlaced c.args.agreed.now c.args.room.now.spans.now ps c.loop-number.placing) (all_placed c.args.agreed.now spaces g c.loop-number.number t found all) c.loop-number.invariant.placed

pub returns-clause-homes : goal.returns-clause-homes
returns-clause-homes c = λ s is.
    let spaces = c.args.spaces.now in
    let g = c.args.segment in
    let count = ap length (c.as_slice-count.ensures ∙ ap (λ (x : Space). x.families) (get_or_from_slice_get spaces g s c.index-spaces-segment.result is)) in
    let all : length s.families ≤ c.loop-number.number = omega (arith, count, c.loop-number-test.false) in
    all_addresses c.args.agreed.now spaces g c.loop-number.number s c.loop-number.homes is all (c.loop-number.invariant.homes s is)
