use Rattle.std.proofs.Common.{◌≤◌, Bor, List, ℕ, map, length, refl, inl, inr, arith}
use Rattle.std.proofs.lemmas.List.{length-map}
use Rattle.cw_actions.proofs.Resulting.Told.{units_taken, units_stopped, behind, names_behind, count_behind}
use Rattle.cw_actions.proofs.Tracing.Called.{asked, closed_stopped}
use Rattle.cw_actions.proofs.trace.tracing.trace.Goals as goal

pub read_units-requires : goal.read_units-requires
read_units-requires g c = omega (arith, c.requires.few, count_behind c.args.names.now)

pub link_segments-requires : goal.link_segments-requires
link_segments-requires g c =
    let (all, segments, counts) = c.in-Ok.ensures.taken in
    let same = length-map (behind c.args.names.now) (λ (name : Bor (List ℕ)). g.F.Store.file c.args.files.now name.now) in
    record { are = segments; compiled = c.compiled_units.ensures all.texts c.in-Ok.segments.units all.have_values; few = omega (arith, all.all, same, c.requires.few, count_behind c.args.names.now); within = c.requires.limits }

pub trace_linked-requires : goal.trace_linked-requires
trace_linked-requires g c =
    let (all, segments, counts) = c.in-Ok.ensures.taken in
    record {
      limits = c.requires.limits;
      segments = segments;
      compiled = c.compiled_units.ensures all.texts c.in-Ok.segments.units all.have_values;
      linked = c.in-Ok-link_segments.ensures;
    }

pub returns-in-Ok-link_segments : goal.returns-in-Ok-link_segments
returns-in-Ok-link_segments g c =
    let (all, segments, counts) = c.in-Ok.ensures.taken in
    let old = c.args.files.now in
    let new = c.read_units.new.files in
    let some : 1 ≤ length (behind c.args.names.now) = omega (arith, c.requires.some, count_behind c.args.names.now) in
    let few : length (behind c.args.names.now) ≤ 200 = omega (arith, c.requires.few, count_behind c.args.names.now) in
    asked (map (λ (name : Bor (List ℕ)). name.now) c.args.names.now) _ _ _ c.args.stop.now _ _ _ c.requires.stop (names_behind c.args.names.now)
    (c.trace_linked.ensures (g.F.Store.file old) (g.F.Store.file new) (g.F.Store.faults old) (g.F.Store.faults new) (g.F.Store.absences old) (g.F.Store.absences new) some few
    (units_taken (g.F.Store.file old) (behind c.args.names.now) c.in-Ok.segments.units all) counts c.read_units.ensures.stay)

pub returns-in-Ok : goal.returns-in-Ok
returns-in-Ok g c =
    let (all, segments, counts) = c.in-Ok.ensures.taken in
    let some : 1 ≤ length (behind c.args.names.now) = omega (arith, c.requires.some, count_behind c.args.names.now) in
    let few : length (behind c.args.names.now) ≤ 200 = omega (arith, c.requires.few, count_behind c.args.names.now) in
    asked (map (λ (name : Bor (List ℕ)). name.now) c.args.names.now) _ _ _ c.args.stop.now _ _ _ c.requires.stop (names_behind c.args.names.now)
    (closed_stopped c.args.stop.now _ _ (behind c.args.names.now) _ _ _ _ c.requires.limits some few c.read_units.ensures.stay c.traces.ensures.stopped _ _ c.close.ensures.same c.close.ensures.line c.close.ensures.ended
    (inr (c.in-Ok.segments.units, record { all = units_taken _ _ _ all; counts = counts }, record { unlinked = c.in-Err-link_segments.ensures; same = refl })))

pub returns : goal.returns
returns g c =
    let some : 1 ≤ length (behind c.args.names.now) = omega (arith, c.requires.some, count_behind c.args.names.now) in
    let few : length (behind c.args.names.now) ≤ 200 = omega (arith, c.requires.few, count_behind c.args.names.now) in
    asked (map (λ (name : Bor (List ℕ)). name.now) c.args.names.now) _ _ _ c.args.stop.now _ _ _ c.requires.stop (names_behind c.args.names.now)
    (closed_stopped c.args.stop.now _ _ (behind c.args.names.now) _ _ _ _ c.requires.limits some few c.read_units.ensures.stay c.traces.ensures.stopped _ _ c.close-in-Err.ensures.same c.close-in-Err.ensures.line c.close-in-Err.ensures.ended
    (inl (record { stopped = units_stopped _ _ _ _ _ c.in-Err.ensures.taken; same = refl })))
