use Rattle.std.proofs.Common.{arith, refl}
use Rattle.std.proofs.lemmas.List.{length-map}
use Rattle.cw_actions.specs.Resulting.Outside.{files_at}
use Rattle.cw_actions.proofs.Resulting.Hexes.{one_file, stopped, written}
use Rattle.cw_actions.proofs.results.filing.hex.Goals as goal

pub returns-in-Ok : goal.returns-in-Ok
returns-in-Ok g c = λ left input_faults held out_faults.
    let middle = c.read_image_file.new.files in
    let names = length-map c.args.names.now (λ name. name.now) in
    let one = one_file (g.F.Store.file c.args.files.now) _ (omega (arith, c.requires.few, names)) (omega (arith, c.requires.some, names)) _ c.first_name-name.ensures in
    written _ (record { input = refl; faults = refl }) (record { out = refl; faults = refl }) _ one _ _ c.close.ensures.same (record { says = c.close.ensures.line; ended = c.close.ensures.ended }) _ c.first_name-name.ensures c.in-Ok.image c.in-Ok.ensures.taken.0
    (files_at (g.F.Store.file middle) (g.F.Store.faults middle) (g.F.Store.absences middle)) c.in-Ok.ensures.stay c.in-Ok.ensures.taken.1 c.hex_image.ensures

pub returns-in-Err : goal.returns-in-Err
returns-in-Err g c = λ left input_faults held out_faults.
    let names = length-map c.args.names.now (λ name. name.now) in
    let one = one_file (g.F.Store.file c.args.files.now) _ (omega (arith, c.requires.few, names)) (omega (arith, c.requires.some, names)) _ c.first_name-name.ensures in
    stopped _ (record { input = refl; faults = refl }) (record { out = refl; faults = refl }) _ one _ _ c.close-in-Err.ensures.same (record { says = c.close-in-Err.ensures.line; ended = c.close-in-Err.ensures.ended }) c.in-Err.ensures.stay c.in-Err.ensures.taken
