use Rattle.std.proofs.Common.{Bor, List, ℕ, [], refl, inl, inr, arith}
use Rattle.std.proofs.lemmas.List.{length-map}
use Rattle.cw_build.specs.Linking.{map_text}
use Rattle.cw_actions.proofs.Resulting.Told.{units_taken, units_stopped}
use Rattle.cw_actions.proofs.Going.Library.{named_so, can_load}
use Rattle.cw_actions.proofs.Going.Called.{runs_as, closed}
use Rattle.cw_actions.proofs.go.going.go.Goals as goal

pub link_segments-requires : goal.link_segments-requires
link_segments-requires g c =
    let (all, segments, counts) = c.in-Ok.ensures.taken in
    let same = length-map c.args.names.now (λ (name : Bor (List ℕ)). g.F.Store.file c.args.files.now name.now) in
    record { are = segments; compiled = c.compiled_units.ensures all.texts c.in-Ok.segments.units all.have_values; few = omega (arith, all.all, same, c.requires.few); within = c.requires.limits }

pub storage_text-text-requires : goal.storage_text-text-requires
storage_text-text-requires g c = (c.in-Ok.ensures.taken.1, (c.in-Ok-link_segments.ensures, c.requires.limits))

pub load_and_run-status-requires : goal.load_and_run-status-requires
load_and_run-status-requires g c =
    let linked = c.in-Ok-link_segments.ensures in
    can_load c.linked_units.ensures.code c.in-Ok.segments.units c.args.limits.now c.requires.limits linked.links c.in-Ok-link_segments.linked.image linked.image

pub returns-in-Ok-link_segments : goal.returns-in-Ok-link_segments
returns-in-Ok-link_segments g c =
    let (all, segments, counts) = c.in-Ok.ensures.taken in
    let us = c.in-Ok.segments.units in
    let linked = c.in-Ok-link_segments.ensures in
    let listing = map_text us c.args.limits.now in
    let runs = runs_as listing _ _ _ _ _ _ _ refl linked.image (c.load_and_run-status.ensures listing c.storage_text-text.ensures) in
    closed c.promises.ensures.keeps _ _ c.args.names.now c.as_slice.result.now _ _ _ _ _ _ c.close.ensures.same c.requires.limits c.requires.some c.requires.few c.read_units.ensures.stay c.close.ensures.line c.close.ensures.ended
    (inr (us, record { all = units_taken _ _ us all; counts = counts }, inr (record { links = linked.links; named = named_so us c.args.limits.now _ _ linked.image c.as_slice.ensures; runs = runs })))

pub returns-in-Ok : goal.returns-in-Ok
returns-in-Ok g c =
    let (all, segments, counts) = c.in-Ok.ensures.taken in
    let us = c.in-Ok.segments.units in
    closed c.promises.ensures.keeps _ _ c.args.names.now [] _ _ _ _ _ _ c.close-in-Err-link_segments.ensures.same c.requires.limits c.requires.some c.requires.few c.read_units.ensures.stay c.close-in-Err-link_segments.ensures.line c.close-in-Err-link_segments.ensures.ended
    (inr (us, record { all = units_taken _ _ us all; counts = counts }, inl (record { unlinked = c.in-Err-link_segments.ensures; same = refl })))

pub returns : goal.returns
returns g c =
    closed c.promises.ensures.keeps _ _ c.args.names.now [] _ _ _ _ _ _ c.close-in-Err.ensures.same c.requires.limits c.requires.some c.requires.few c.read_units.ensures.stay c.close-in-Err.ensures.line c.close-in-Err.ensures.ended
    (inl (record { stopped = units_stopped _ _ _ _ _ c.in-Err.ensures.taken; same = refl }))
