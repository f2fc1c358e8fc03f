use Rattle.std.proofs.Common.{[], ◌∙◌, List, ℕ, arith, refl, ap}
use Rattle.std.specs.Prelude.{slice_index_or}
use Rattle.cw_actions.specs.Resulting.Outside.{files_at}
use Rattle.cw_actions.proofs.Resulting.Told.{units_taken, units_stopped}
use Rattle.cw_actions.proofs.Resulting.Compiles.{first_of, stopped, written}
use Rattle.cw_actions.proofs.results.filing.compile.Goals as goal

pub read_units-requires : goal.read_units-requires
read_units-requires g c = omega (arith, c.requires.few)

pub returns-in-Ok : goal.returns-in-Ok
returns-in-Ok g c = λ left input_faults held out_faults.
    let (all, segments, counts) = c.in-Ok.ensures.taken in
    let middle = c.read_units.new.files in
    written c.known_texts.ensures.one _ (record { input = refl; faults = refl }) (record { out = refl; faults = refl }) _ _ c.close.ensures.same (record { says = c.close.ensures.line; ended = c.close.ensures.ended }) c.in-Ok.segments.units (units_taken _ _ _ all)
    (files_at (g.F.Store.file middle) (g.F.Store.faults middle) (g.F.Store.absences middle)) c.in-Ok.ensures.stay counts
    (rw (c.first_object-object.ensures ∙ ap (λ (objects : List (List ℕ)). slice_index_or objects 0 []) c.as_slice.ensures ∙ first_of c.in-Ok.segments.units _ segments.objects) at (rw c.first_name.ensures at c.save_beside-status.ensures))

pub returns-in-Err : goal.returns-in-Err
returns-in-Err g c = λ left input_faults held out_faults.
    stopped c.known_texts.ensures.one _ (record { input = refl; faults = refl }) (record { out = refl; faults = refl }) _ _ c.close-in-Err.ensures.same (record { says = c.close-in-Err.ensures.line; ended = c.close-in-Err.ensures.ended }) c.in-Err.ensures.stay (units_stopped _ _ _ _ _ c.in-Err.ensures.taken)
