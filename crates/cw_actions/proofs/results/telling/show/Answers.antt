use Rattle.std.proofs.Common.{◌≡◌, ◌≤◌, List, ℕ, map, Bor, length, arith, refl, ap}
use Rattle.std.proofs.lemmas.List.{length-map}
use Rattle.cw_actions.proofs.Resulting.Steps.{have_one, unread_one}
use Rattle.cw_actions.proofs.Resulting.Shows.{unread_shows, shows}
use Rattle.cw_actions.proofs.results.telling.show.Goals as goal

pub show_text-requires : goal.show_text-requires
show_text-requires g c = omega (arith, ap length c.as_slice.ensures.value, c.in-Ok.ensures.within)

pub returns-in-Ok : goal.returns-in-Ok
returns-in-Ok g c = λ left input_faults.
    let names = map (λ (name : Bor (List ℕ)). name.now) c.args.names.now in
    let count = length-map c.args.names.now (λ (name : Bor (List ℕ)). name.now) in
    let few : length names ≤ 1 = omega (arith, c.requires.few, count) in
    let some : 1 ≤ length names = omega (arith, c.requires.some, count) in
    let one : length names ≡ 1 = omega (arith, few, some) in
    let have = have_one (g.F.Store.file c.args.files.now) names few some _ c.first_name.ensures _ _ c.as_slice.ensures.value c.in-Ok.ensures.whole c.in-Ok.ensures.within in
    rw c.close.ensures.same
    (shows c.known_texts.ensures.one _ (record { input = refl; faults = refl }) c.in-Ok.ensures.stay _ (record { says = c.close.ensures.line; ended = c.close.ensures.ended }) c.as_slice.result.now have one c.in-Ok.ensures.same c.show_text.ensures)

pub returns-in-Err : goal.returns-in-Err
returns-in-Err g c = λ left input_faults.
    let names = length-map c.args.names.now (λ name. name.now) in
    rw c.close-in-Err.ensures.same
    (unread_shows c.known_texts.ensures.one _ (record { input = refl; faults = refl }) c.in-Err.ensures.stay _ (record { says = c.close-in-Err.ensures.line; ended = c.close-in-Err.ensures.ended }) (record { out = refl; faults = refl })
    (unread_one _ _ (omega (arith, c.requires.few, names)) (omega (arith, c.requires.some, names)) _ c.first_name.ensures _ _ _ c.in-Err.ensures.unread))
