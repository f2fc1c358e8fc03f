use Rattle.std.proofs.Common.{ℕ, ◌+◌, Option, Some, set, get_or, sym, ap, subst, ◌∙◌, rules}
use Rattle.std.specs.Vec.{with_item}
use Rattle.cw_unit.specs.declared.layout.Family.{Family}
use Rattle.cw_unit.specs.Allocation.{Shared, Private, name_at, last_end_of, start_of, family_address}
use Rattle.cw_place.specs.Segments.{numbers_of, names_of}
use Rattle.cw_place.specs.Placing.{placed_before, told, HasPlaced}
use Rattle.cw_place.proofs.Steps.{known_read, first_read, looked_up, at_absolute, at_frame, own_absent, at_own, own_extent, at_old, at_new, common_address, placed_own, placed_common, start_placed}
use Rattle.cw_place.proofs.Placed.{start_found}
use Rattle.cw_place.proofs.placing.place_family.Goals as goal

abbrev some : ℕ → Option ℕ
some x = Some x

pub returns-in-Absolute-clause-placed : goal.returns-in-Absolute-clause-placed
returns-in-Absolute-clause-placed c =
    let r = first_read c.args.spaces.now c.args.segment c.args.number c.index-spaces-segment.result c.as_slice.result.now _ c.requires.segment c.index-spaces-segment.is c.requires.number (search rules) c.in-Absolute.is in
    subst (λ ps. HasPlaced c.args.agreed.now c.args.room.now.spans.now ps c.args.placing.now) (sym (at_absolute c.args.agreed.now c.args.spaces.now c.requires.of c.args.segment c.args.number c.index-spaces-segment.result _ r.here c.in-Absolute.address r.sorted)) c.requires.placed

pub returns-in-Frame-clause-placed : goal.returns-in-Frame-clause-placed
returns-in-Frame-clause-placed c =
    let r = first_read c.args.spaces.now c.args.segment c.args.number c.index-spaces-segment.result c.as_slice.result.now _ c.requires.segment c.index-spaces-segment.is c.requires.number (search rules) c.in-Frame.is in
    subst (λ ps. HasPlaced c.args.agreed.now c.args.room.now.spans.now ps c.args.placing.now) (sym (at_frame c.args.agreed.now c.args.spaces.now c.requires.of c.args.segment c.args.number c.index-spaces-segment.result _ r.here c.in-Frame.offset r.sorted)) c.requires.placed

pub returns-in-Absolute-clause-address : goal.returns-in-Absolute-clause-address
returns-in-Absolute-clause-address c = λ s f is at.
    let r = known_read c.args.spaces.now c.args.segment c.args.number s f c.index-spaces-segment.result c.as_slice.result.now _ (record { segment = is; family = at }) c.index-spaces-segment.is (search rules) c.in-Absolute.is in
    sym (ap (family_address (told (placed_before c.args.agreed.now c.args.spaces.now c.args.segment (c.args.number + 1))) c.args.segment (names_of c.args.agreed.now c.args.segment) c.args.number) r.sorted)

pub returns-in-Frame-clause-address : goal.returns-in-Frame-clause-address
returns-in-Frame-clause-address c = λ s f is at.
    let r = known_read c.args.spaces.now c.args.segment c.args.number s f c.index-spaces-segment.result c.as_slice.result.now _ (record { segment = is; family = at }) c.index-spaces-segment.is (search rules) c.in-Frame.is in
    sym (ap (family_address (told (placed_before c.args.agreed.now c.args.spaces.now c.args.segment (c.args.number + 1))) c.args.segment (names_of c.args.agreed.now c.args.segment) c.args.number) r.sorted)

pub returns-in-Own-clause-placed : goal.returns-in-Own-clause-placed
returns-in-Own-clause-placed c =
    let r = first_read c.args.spaces.now c.args.segment c.args.number c.index-spaces-segment.result c.as_slice.result.now _ c.requires.segment c.index-spaces-segment.is c.requires.number (search rules) c.in-Own.is in
    let extent = ap (λ (f : Family). f.extent) r.read ∙ sym (own_extent c.args.agreed.now c.args.spaces.now c.requires.of c.args.segment c.args.number c.index-spaces-segment.result _ r.here) in
    subst (λ qs. HasPlaced c.args.agreed.now c.args.room.now.spans.now qs (record { starts = c.args.placing.now.starts; sweep = c.place_next.new.sweep })) (sym (at_own c.args.agreed.now c.args.spaces.now c.requires.of c.args.segment c.args.number c.index-spaces-segment.result _ r.here r.sorted))
    (placed_own c.args.agreed.now c.args.spaces.now c.requires.of c.args.room.now.spans.now c.requires.spans (placed_before c.args.agreed.now c.args.spaces.now c.args.segment c.args.number) c.args.placing.now c.requires.placed c.args.segment c.args.number _ c.place_next.new.sweep extent
    (c.place_next.ensures.end (last_end_of 0 (placed_before c.args.agreed.now c.args.spaces.now c.args.segment c.args.number)) c.requires.placed.end) c.place_next.ensures.within c.place_next.ensures.passed)

pub returns-in-Own-clause-address : goal.returns-in-Own-clause-address
returns-in-Own-clause-address c = λ s f is at.
    let r = known_read c.args.spaces.now c.args.segment c.args.number s f c.index-spaces-segment.result c.as_slice.result.now _ (record { segment = is; family = at }) c.index-spaces-segment.is (search rules) c.in-Own.is in
    let extent = ap (λ (f : Family). f.extent) r.read ∙ sym (own_extent c.args.agreed.now c.args.spaces.now c.requires.of c.args.segment c.args.number s f r.here) in
    start_placed c.args.agreed.now c.args.spaces.now c.requires.of c.args.room.now.spans.now c.requires.spans (placed_before c.args.agreed.now c.args.spaces.now c.args.segment c.args.number) c.args.placing.now c.requires.placed (Private c.args.segment c.args.number) _ _ extent
    (own_absent c.args.agreed.now c.args.spaces.now c.requires.of c.args.segment c.args.number s f r.here) (c.place_next.ensures.start (last_end_of 0 (placed_before c.args.agreed.now c.args.spaces.now c.args.segment c.args.number)) c.requires.placed.end)
    ∙ ap (λ qs. start_of (Private c.args.segment c.args.number) (told qs)) (sym (at_own c.args.agreed.now c.args.spaces.now c.requires.of c.args.segment c.args.number s f r.here r.sorted))
    ∙ sym (ap (family_address (told (placed_before c.args.agreed.now c.args.spaces.now c.args.segment (c.args.number + 1))) c.args.segment (names_of c.args.agreed.now c.args.segment) c.args.number) r.sorted)

pub returns-in-Some-clause-placed : goal.returns-in-Some-clause-placed
returns-in-Some-clause-placed c =
    let q = first_read c.args.spaces.now c.args.segment c.args.number c.index-spaces-segment.result c.as_slice.result.now _ c.requires.segment c.index-spaces-segment.is c.requires.number (search rules) c.in-Common.is in
    let l = looked_up c.args.agreed.now c.args.spaces.now c.requires.of c.args.room.now.spans.now (placed_before c.args.agreed.now c.args.spaces.now c.args.segment c.args.number) c.args.placing.now c.requires.placed c.args.segment c.args.number c.in-Common.descriptor c.index-spaces-segment.result c.as_slice.result.now c.as_slice-in-Common-2.result.now c.index.result.now
    c.requires.segment c.index-spaces-segment.is c.requires.number (search rules) c.in-Common.is (search rules) c.index.ensures in
    subst (λ qs. HasPlaced c.args.agreed.now c.args.room.now.spans.now qs c.args.placing.now)
    (sym (at_old c.args.agreed.now c.args.spaces.now c.requires.of c.args.segment c.args.number c.index-spaces-segment.result _ q.here c.in-Common.descriptor c.in-Some.start q.sorted l.below (l.placed ∙ c.in-Some.is))) c.requires.placed

pub returns-in-Some-clause-address : goal.returns-in-Some-clause-address
returns-in-Some-clause-address c = λ s f is at.
    let r = known_read c.args.spaces.now c.args.segment c.args.number s f c.index-spaces-segment.result c.as_slice.result.now _ (record { segment = is; family = at }) c.index-spaces-segment.is (search rules) c.in-Common.is in
    let l = looked_up c.args.agreed.now c.args.spaces.now c.requires.of c.args.room.now.spans.now (placed_before c.args.agreed.now c.args.spaces.now c.args.segment c.args.number) c.args.placing.now c.requires.placed c.args.segment c.args.number c.in-Common.descriptor c.index-spaces-segment.result c.as_slice.result.now c.as_slice-in-Common-2.result.now c.index.result.now
    c.requires.segment c.index-spaces-segment.is c.requires.number (search rules) c.in-Common.is (search rules) c.index.ensures in
    start_found (Shared (name_at c.args.agreed.now.names (get_or (numbers_of c.args.agreed.now c.args.segment) c.in-Common.descriptor 0))) (told (placed_before c.args.agreed.now c.args.spaces.now c.args.segment c.args.number)) c.in-Some.start (l.placed ∙ c.in-Some.is)
    ∙ ap (λ qs. start_of (Shared (name_at c.args.agreed.now.names (get_or (numbers_of c.args.agreed.now c.args.segment) c.in-Common.descriptor 0))) (told qs)) (sym (at_old c.args.agreed.now c.args.spaces.now c.requires.of c.args.segment c.args.number s f r.here c.in-Common.descriptor c.in-Some.start r.sorted l.below (l.placed ∙ c.in-Some.is)))
    ∙ sym (common_address c.args.agreed.now c.args.spaces.now c.requires.of c.args.segment c.args.number s f r.here c.in-Common.descriptor (told (placed_before c.args.agreed.now c.args.spaces.now c.args.segment (c.args.number + 1))) r.sorted l.below)

pub returns-in-None-clause-placed : goal.returns-in-None-clause-placed
returns-in-None-clause-placed c =
    let q = first_read c.args.spaces.now c.args.segment c.args.number c.index-spaces-segment.result c.as_slice.result.now _ c.requires.segment c.index-spaces-segment.is c.requires.number (search rules) c.in-Common.is in
    let l = looked_up c.args.agreed.now c.args.spaces.now c.requires.of c.args.room.now.spans.now (placed_before c.args.agreed.now c.args.spaces.now c.args.segment c.args.number) c.args.placing.now c.requires.placed c.args.segment c.args.number c.in-Common.descriptor c.index-spaces-segment.result c.as_slice.result.now c.as_slice-in-Common-2.result.now c.index.result.now
    c.requires.segment c.index-spaces-segment.is c.requires.number (search rules) c.in-Common.is (search rules) c.index.ensures in
    let extent = ap (λ k. get_or c.args.room.now.extents.now k 0) l.named ∙ c.requires.extents.extent (get_or (numbers_of c.args.agreed.now c.args.segment) c.in-Common.descriptor 0) l.known in
    subst (λ qs. HasPlaced c.args.agreed.now c.args.room.now.spans.now qs (record { starts = with_item c.args.placing.now.starts (get_or c.as_slice-in-Common-2.result.now c.in-Common.descriptor 0) (Some c.place_next-start.result); sweep = c.place_next-start.new.sweep }))
    (sym (at_new c.args.agreed.now c.args.spaces.now c.requires.of c.args.segment c.args.number c.index-spaces-segment.result _ q.here c.in-Common.descriptor q.sorted l.below (l.placed ∙ c.in-None.is)))
    (placed_common c.args.agreed.now c.args.spaces.now c.requires.of c.args.room.now.spans.now c.requires.spans (placed_before c.args.agreed.now c.args.spaces.now c.args.segment c.args.number) c.args.placing.now c.requires.placed (get_or (numbers_of c.args.agreed.now c.args.segment) c.in-Common.descriptor 0) _ _ c.place_next-start.new.sweep l.known extent
    (ap (λ k. set c.args.placing.now.starts.items k (some c.place_next-start.result)) l.named ∙ ap (λ a. set c.args.placing.now.starts.items (get_or (numbers_of c.args.agreed.now c.args.segment) c.in-Common.descriptor 0) (some a)) (c.place_next-start.ensures.start (last_end_of 0 (placed_before c.args.agreed.now c.args.spaces.now c.args.segment c.args.number)) c.requires.placed.end)) (l.told_at ∙ c.in-None.is)
    (c.place_next-start.ensures.end (last_end_of 0 (placed_before c.args.agreed.now c.args.spaces.now c.args.segment c.args.number)) c.requires.placed.end) c.place_next-start.ensures.within c.place_next-start.ensures.passed)

pub returns-in-None-clause-address : goal.returns-in-None-clause-address
returns-in-None-clause-address c = λ s f is at.
    let r = known_read c.args.spaces.now c.args.segment c.args.number s f c.index-spaces-segment.result c.as_slice.result.now _ (record { segment = is; family = at }) c.index-spaces-segment.is (search rules) c.in-Common.is in
    let l = looked_up c.args.agreed.now c.args.spaces.now c.requires.of c.args.room.now.spans.now (placed_before c.args.agreed.now c.args.spaces.now c.args.segment c.args.number) c.args.placing.now c.requires.placed c.args.segment c.args.number c.in-Common.descriptor c.index-spaces-segment.result c.as_slice.result.now c.as_slice-in-Common-2.result.now c.index.result.now
    c.requires.segment c.index-spaces-segment.is c.requires.number (search rules) c.in-Common.is (search rules) c.index.ensures in
    let extent = ap (λ k. get_or c.args.room.now.extents.now k 0) l.named ∙ c.requires.extents.extent (get_or (numbers_of c.args.agreed.now c.args.segment) c.in-Common.descriptor 0) l.known in
    start_placed c.args.agreed.now c.args.spaces.now c.requires.of c.args.room.now.spans.now c.requires.spans (placed_before c.args.agreed.now c.args.spaces.now c.args.segment c.args.number) c.args.placing.now c.requires.placed (Shared (name_at c.args.agreed.now.names (get_or (numbers_of c.args.agreed.now c.args.segment) c.in-Common.descriptor 0))) _ _ extent (l.placed ∙ c.in-None.is) (c.place_next-start.ensures.start (last_end_of 0 (placed_before c.args.agreed.now c.args.spaces.now c.args.segment c.args.number)) c.requires.placed.end)
    ∙ ap (λ qs. start_of (Shared (name_at c.args.agreed.now.names (get_or (numbers_of c.args.agreed.now c.args.segment) c.in-Common.descriptor 0))) (told qs)) (sym (at_new c.args.agreed.now c.args.spaces.now c.requires.of c.args.segment c.args.number s f r.here c.in-Common.descriptor r.sorted l.below (l.placed ∙ c.in-None.is)))
    ∙ sym (common_address c.args.agreed.now c.args.spaces.now c.requires.of c.args.segment c.args.number s f r.here c.in-Common.descriptor (told (placed_before c.args.agreed.now c.args.spaces.now c.args.segment (c.args.number + 1))) r.sorted l.below)
