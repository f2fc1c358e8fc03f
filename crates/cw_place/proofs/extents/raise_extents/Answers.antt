use Rattle.std.proofs.Common.{◌≡◌, ℕ, ◌<◌, max, Vec, length, map, get_or, sym, ap, ◌∙◌, arith, rules}
use Rattle.std.proofs.lemmas.Option.{get_or_from_slice_get}
use Rattle.cw_unit.specs.declared.layout.Family.{Family}
use Rattle.cw_unit.specs.declared.layout.Sort.TheVariants as sort
use Rattle.cw_place.specs.declared.space.Space.{Space}
use Rattle.cw_unit.specs.Allocation.{name_at}
use Rattle.cw_place.specs.Segments.{numbers_of}
use Rattle.cw_place.proofs.Numbers.{numbers_read, descriptor_below, next_extent, common_read, unchanged, raised_all}
use Rattle.cw_place.proofs.extents.raise_extents.Goals as goal
use Rattle.cw_place.proofs.extents.raise_extents.Goals.{in-Common, in_default}

pub loop-n-preserved : goal.loop-n-preserved
loop-n-preserved c =
    let agreed = c.args.agreed.now in
    let spaces = c.args.spaces.now in
    let g = c.args.segment in
    let n = c.loop-n.n in
    let of = c.requires.of in
    let numbers : c.as_slice-numbers.result.now ≡ numbers_of agreed g = c.as_slice-numbers.ensures ∙ numbers_read agreed spaces of g _ c.requires.segment (search rules) in
    let families : c.as_slice-families.result.now ≡ c.index-spaces-segment.result.families = search rules in
    let fs = c.as_slice-families.result.now in
    let there : n < length c.index-spaces-segment.result.families = omega (arith, ap length families, c.loop-n-test.true) in
    let below : (f : Family) (d : ℕ) → (get_or fs n f).sort ≡ sort.Common d → d < length (numbers_of agreed g) = λ f d e.
    descriptor_below agreed spaces of g c.index-spaces-segment.result c.requires.segment c.index-spaces-segment.is n d f there (ap (λ gs. (get_or gs n f).sort) (sym families) ∙ e) in
    elim c.match-families-n.branch [
      | in-Common w ↦
          record {
            count = ap (λ (v : Vec ℕ _). length v.items) w.extents-is ∙ w.raise.ensures.count ∙ c.loop-n.invariant.count;
            raised = λ k lt. next_extent (name_at agreed.names k) _ fs n _ _ _ _ c.loop-n-test.true (ap (λ (v : Vec ℕ _). get_or v.items k 0) w.extents-is ∙ w.raise.ensures.raised k ∙ ap (max (get_or c.loop-n.extents.items k 0)) (sym (common_read agreed spaces of g w.in-Common.descriptor k _ _ _ numbers w.in-Common.is (below _ w.in-Common.descriptor w.in-Common.is) lt))) (c.loop-n.invariant.raised k lt);
          }
      | in_default w ↦
          record {
            count = ap (λ (v : Vec ℕ _). length v.items) w.extents-is ∙ c.loop-n.invariant.count;
            raised = λ k lt. next_extent (name_at agreed.names k) _ fs n _ _ _ _ c.loop-n-test.true (unchanged (name_at agreed.names k) _ _ _ _ (ap (λ (v : Vec ℕ _). get_or v.items k 0) w.extents-is) w.in_default.not-Common) (c.loop-n.invariant.raised k lt);
          }
    ]

pub returns-clause-raised : goal.returns-clause-raised
returns-clause-raised c = λ k s lt is.
    let agreed = c.args.agreed.now in
    let spaces = c.args.spaces.now in
    let g = c.args.segment in
    let of = c.requires.of in
    let numbers : c.as_slice-numbers.result.now ≡ numbers_of agreed g = c.as_slice-numbers.ensures ∙ numbers_read agreed spaces of g _ c.requires.segment (search rules) in
    let families : c.as_slice-families.result.now ≡ s.families = c.as_slice-families.ensures ∙ ap (λ (x : Space). x.families) (get_or_from_slice_get spaces g s c.index-spaces-segment.result is) in
    raised_all (name_at agreed.names k) _ _ c.as_slice-families.result.now _ c.loop-n.n _ _ (ap (map (name_at agreed.names)) numbers) families c.loop-n-test.false (c.loop-n.invariant.raised k lt)
