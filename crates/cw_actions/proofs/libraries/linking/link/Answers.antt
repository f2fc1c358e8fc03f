use Rattle.std.proofs.Common.{arith, refl}
use Rattle.std.proofs.lemmas.List.{length-map}
use Rattle.cw_actions.specs.Resulting.Outside.{files_at}
use Rattle.cw_link_files.proofs.Takings.{all_objects}
use Rattle.cw_actions.proofs.Archiving.Parts.{parts_taken, parts_stopped}
use Rattle.cw_actions.proofs.Archiving.Linked.{stopped, written}
use Rattle.cw_actions.proofs.libraries.linking.link.Goals as goal

pub link_taken-requires-clause-taken : goal.link_taken-requires-clause-taken
link_taken-requires-clause-taken g c =
    let taken = c.in-Ok.ensures.taken in
    all_objects _ taken.0 c.in-Ok.taken (omega (arith, c.requires.few, length-map c.args.names.now (λ name. g.F.Store.file c.args.files.now name.now))) taken.1 taken.2

pub returns-in-Ok : goal.returns-in-Ok
returns-in-Ok g c = λ left input_faults held out_faults.
    let middle = c.read_link_files.new.files in
    let taken = c.in-Ok.ensures.taken in
    written (record { library = c.library_format.ensures.one; no_fault = c.library_format.ensures.not_both; list = c.one_link_list.ensures.one }) _ (record { input = refl; faults = refl }) (record { out = refl; faults = refl }) _ _ c.close.ensures.same (record { says = c.close.ensures.line; ended = c.close.ensures.ended })
    taken.0 (parts_taken _ _ taken.0 taken.1) (files_at (g.F.Store.file middle) (g.F.Store.faults middle) (g.F.Store.absences middle)) c.in-Ok.ensures.stay taken.3 c.in-Ok.taken taken.2 c.link_taken.ensures

pub returns-in-Err : goal.returns-in-Err
returns-in-Err g c = λ left input_faults held out_faults.
    stopped (record { library = c.library_format.ensures.one; no_fault = c.library_format.ensures.not_both; list = c.one_link_list.ensures.one }) _ (record { input = refl; faults = refl }) (record { out = refl; faults = refl }) _ _ c.close-in-Err.ensures.same (record { says = c.close-in-Err.ensures.line; ended = c.close-in-Err.ensures.ended }) c.in-Err.ensures.stay (parts_stopped _ _ _ _ _ c.in-Err.ensures.taken)
