use Rattle.std.proofs.Common.{◌≤◌, List, ℕ, map, length, arith, refl, ap, subst, sym}
use Rattle.std.specs.List.{AllByRecursion}
use Rattle.std.proofs.lemmas.List.{length-map}
use Rattle.cw_view.specs.ObjectFormat.{IsObject}
use Rattle.cw_actions.specs.Resulting.Outside.{files_at}
use Rattle.cw_actions.proofs.Resulting.Told.{objects_taken, objects_stopped, behind, names_behind, count_behind, first_named}
use Rattle.cw_actions.proofs.Archiving.Archived.{opened, short, stopped, written, renamed}
use Rattle.cw_actions.proofs.libraries.archiving.make_library.Goals as goal

pub read_objects-requires : goal.read_objects-requires
read_objects-requires g c = omega (arith, c.requires.few, count_behind c.args.names.now)

pub save_library-status-requires-clause-number : goal.save_library-status-requires-clause-number
save_library-status-requires-clause-number g c =
    let all = c.in-Ok.ensures.taken.0.all in
    let count = length-map (behind c.args.names.now) (λ name. g.F.Store.file c.args.files.now name.now) in (
      omega (arith, c.requires.some, ap length c.as_slice.ensures, all, count, count_behind c.args.names.now),
      omega (arith, c.requires.few, ap length c.as_slice.ensures, all, count, count_behind c.args.names.now),
    )

pub save_library-status-requires-clause-objects : goal.save_library-status-requires-clause-objects
save_library-status-requires-clause-objects g c =
    let Q : List (List ℕ) → Type 0 = λ objects. AllByRecursion IsObject objects in
    subst Q (sym c.as_slice.ensures) (opened c.in-Ok.ensures.taken.0.texts c.in-Ok.objects c.in-Ok.ensures.taken.0.have_values)

pub save_library-status-requires-clause-short : goal.save_library-status-requires-clause-short
save_library-status-requires-clause-short g c =
    let Q : List (List ℕ) → Type 0 = λ objects. AllByRecursion (λ m. length m ≤ 16777216) objects in
    let taken = c.in-Ok.ensures.taken.0 in
    subst Q (sym c.as_slice.ensures) (short _ taken.texts c.in-Ok.objects taken.have_bytes taken.have_values)

pub returns-in-Ok : goal.returns-in-Ok
returns-in-Ok g c = λ left input_faults held out_faults.
    let middle = c.read_objects.new.files in
    renamed (map (λ name. name.now) c.args.names.now) _ _ c.args.limits.now c.args.steps _ _ _ (first_named c.args.names.now _ (omega (arith, c.requires.some))) (names_behind c.args.names.now)
    (written _ _ (record { input = refl; faults = refl }) (record { out = refl; faults = refl }) _ _ c.close.ensures.same (record { says = c.close.ensures.line; ended = c.close.ensures.ended }) c.in-Ok.objects (objects_taken _ _ c.in-Ok.objects c.in-Ok.ensures.taken.0)
    (files_at (g.F.Store.file middle) (g.F.Store.faults middle) (g.F.Store.absences middle)) c.in-Ok.ensures.stay c.in-Ok.ensures.taken.1 (rw c.as_slice.ensures at c.save_library-status.ensures))

pub returns-in-Err : goal.returns-in-Err
returns-in-Err g c = λ left input_faults held out_faults.
    renamed (map (λ name. name.now) c.args.names.now) _ _ c.args.limits.now c.args.steps _ _ _ refl (names_behind c.args.names.now)
    (stopped _ _ (record { input = refl; faults = refl }) (record { out = refl; faults = refl }) _ _ c.close-in-Err.ensures.same (record { says = c.close-in-Err.ensures.line; ended = c.close-in-Err.ensures.ended }) c.in-Err.ensures.stay (objects_stopped _ _ _ _ _ c.in-Err.ensures.taken))
