use Rattle.std.proofs.Common.{arith, rules, refl}
use Rattle.std.proofs.lemmas.List.{length-map}
use Rattle.cw_correct.specs.Results.{IsCode}
use Rattle.cw_actions.specs.Going.Linking.{AreLinkable}
use Rattle.cw_actions.proofs.Coding.{all_of}
use Rattle.cw_actions.proofs.Resulting.Told.{same_told, units_stopped}
use Rattle.cw_actions.proofs.Resulting.Maps.{stopped, written}
use Rattle.cw_actions.proofs.results.telling.code_files.Goals as goal

pub code_units-requires : goal.code_units-requires
code_units-requires g c =
    let (kept, all, counts) = c.in-Ok.ensures.taken in
    let count = length-map c.args.names.now (λ name. g.F.Store.file c.args.files.now name.now) in
    let linkable : AreLinkable c.in-Ok.sources.segments.units c.in-Ok.sources.segments c.args.limits.now =
    record { are = kept.segments; compiled = c.known_texts.ensures.compiled c.in-Ok.sources.texts c.in-Ok.sources.segments.units kept.have_units; few = omega (arith, c.requires.few, all, count); within = c.requires.limits } in
    search (rules, linkable)

pub returns-in-Ok : goal.returns-in-Ok
returns-in-Ok g c = λ left input_faults.
    let (kept, all, counts) = c.in-Ok.ensures.taken in
    written c.known_texts.ensures.one IsCode _ (record { input = refl; faults = refl }) c.in-Ok.ensures.stay _ _ c.close.ensures.same (record { says = c.close.ensures.line; ended = c.close.ensures.ended }) c.known_texts.ensures.sizes c.in-Ok.sources.segments.units
    (all_of _ _ c.in-Ok.sources (same_told (g.F.Store.file c.args.files.now) c.args.names.now) kept all) counts c.code_units.ensures

pub returns-in-Err : goal.returns-in-Err
returns-in-Err g c = λ left input_faults.
    stopped c.known_texts.ensures.one IsCode _ (record { input = refl; faults = refl }) c.in-Err.ensures.stay _ _ c.close-in-Err.ensures.same (record { says = c.close-in-Err.ensures.line; ended = c.close-in-Err.ensures.ended }) (record { out = refl; faults = refl }) (units_stopped _ _ _ _ _ c.in-Err.ensures.taken)
