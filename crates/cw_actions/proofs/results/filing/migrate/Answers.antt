use Rattle.std.proofs.Common.{◌∙◌, List, ℕ, [], arith, refl, ap, subst, sym}
use Rattle.std.specs.Prelude.{slice_index_or}
use Rattle.std.proofs.lemmas.List.{length-map}
use Rattle.cw_view.specs.ObjectFormat.{IsObject}
use Rattle.cw_actions.specs.Resulting.Outside.{files_at}
use Rattle.cw_actions.proofs.Resulting.Told.{objects_taken, objects_stopped}
use Rattle.cw_actions.proofs.Resulting.Migrates.{first_is_object, stopped, written}
use Rattle.cw_actions.proofs.results.filing.migrate.Goals as goal

pub read_objects-requires : goal.read_objects-requires
read_objects-requires g c = omega (arith, c.requires.few)

pub migrate_object-status-requires : goal.migrate_object-status-requires
migrate_object-status-requires g c =
    let taken = c.in-Ok.ensures.taken in
    let Q : List ℕ → Type 0 = λ object. IsObject object in
    let same = c.first_object-object.ensures ∙ ap (λ (objects : List (List ℕ)). slice_index_or objects 0 []) c.as_slice.ensures in
    subst Q (sym same) (first_is_object taken.0.texts c.in-Ok.objects taken.0.have_values (omega (arith, c.requires.some, taken.0.all, length-map c.args.names.now (λ name. g.F.Store.file c.args.files.now name.now))))

pub returns-in-Ok : goal.returns-in-Ok
returns-in-Ok g c = λ left input_faults held out_faults.
    let middle = c.read_objects.new.files in
    rw c.close.ensures.same
    (written _ (record { input = refl; faults = refl }) (record { out = refl; faults = refl }) c.in-Ok.objects (objects_taken _ _ c.in-Ok.objects c.in-Ok.ensures.taken.0)
    (files_at (g.F.Store.file middle) (g.F.Store.faults middle) (g.F.Store.absences middle)) c.in-Ok.ensures.stay c.in-Ok.ensures.taken.1 _ (record { says = c.close.ensures.line; ended = c.close.ensures.ended })
    (rw (c.first_object-object.ensures ∙ ap (λ (objects : List (List ℕ)). slice_index_or objects 0 []) c.as_slice.ensures) at (rw c.first_name.ensures at c.migrate_object-status.ensures)))

pub returns-in-Err : goal.returns-in-Err
returns-in-Err g c = λ left input_faults held out_faults.
    rw c.close-in-Err.ensures.same (stopped _ (record { input = refl; faults = refl }) (record { out = refl; faults = refl }) _ (record { says = c.close-in-Err.ensures.line; ended = c.close-in-Err.ensures.ended }) c.in-Err.ensures.stay (objects_stopped _ _ _ _ _ c.in-Err.ensures.taken))
