use Rattle.std.proofs.Common.{arith, rules, refl}
use Rattle.std.proofs.lemmas.List.{length-map}
use Rattle.cw_correct.specs.Results.{IsMap}
use Rattle.cw_actions.specs.Going.Linking.{AreLinkable}
use Rattle.cw_actions.proofs.Resulting.Told.{units_taken, units_stopped}
use Rattle.cw_actions.proofs.Resulting.Maps.{stopped, written}
use Rattle.cw_actions.proofs.results.telling.map_files.Goals as goal

pub map_units-requires : goal.map_units-requires
map_units-requires g c =
    let (all, segments, counts) = c.in-Ok.ensures.taken in
    let count = length-map c.args.names.now (λ name. g.F.Store.file c.args.files.now name.now) in
    let linkable : AreLinkable c.in-Ok.segments.units c.in-Ok.segments c.args.limits.now =
    record { are = segments; compiled = c.known_texts.ensures.compiled all.texts c.in-Ok.segments.units all.have_values; few = omega (arith, c.requires.few, all.all, count); within = c.requires.limits } in
    search (rules, linkable)

pub returns-in-Ok : goal.returns-in-Ok
returns-in-Ok g c = λ left input_faults.
    written c.known_texts.ensures.one (λ texts. IsMap) _ (record { input = refl; faults = refl }) c.in-Ok.ensures.stay _ _ c.close.ensures.same (record { says = c.close.ensures.line; ended = c.close.ensures.ended })
    c.known_texts.ensures.sizes c.in-Ok.segments.units (units_taken _ _ _ c.in-Ok.ensures.taken.0) c.in-Ok.ensures.taken.2 c.map_units.ensures

pub returns-in-Err : goal.returns-in-Err
returns-in-Err g c = λ left input_faults.
    stopped c.known_texts.ensures.one (λ texts. IsMap) _ (record { input = refl; faults = refl }) c.in-Err.ensures.stay _ _ c.close-in-Err.ensures.same (record { says = c.close-in-Err.ensures.line; ended = c.close-in-Err.ensures.ended }) (record { out = refl; faults = refl }) (units_stopped _ _ _ _ _ c.in-Err.ensures.taken)
