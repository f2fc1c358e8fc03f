use Rattle.std.proofs.Common.{arith, rules, refl}
use Rattle.cw_actions.specs.Going.Linking.{AreLinkable}
use Rattle.cw_depth.specs.declared.depth_report.Report.{Report}
use Rattle.cw_depth.specs.Told.{IsReport}
use Rattle.std.proofs.lemmas.List.{length-map}
use Rattle.cw_depth.specs.Numbering.{AreFew}
use Rattle.cw_correct.specs.Results.{BoundsRuns, IsDepth}
use Rattle.cw_actions.proofs.Telling.Few.{are_few}
use Rattle.cw_actions.proofs.Resulting.Told.{units_taken, units_stopped}
use Rattle.cw_actions.proofs.Resulting.Maps.{stopped, written}
use Rattle.cw_actions.proofs.results.telling.depth_files.Goals as goal

pub depth_units-requires : goal.depth_units-requires
depth_units-requires g c =
    let (all, segments, counts) = c.in-Ok.ensures.taken in
    let us = c.in-Ok.segments.units in
    let count = length-map c.args.names.now (λ name. g.F.Store.file c.args.files.now name.now) in
    let few : AreFew us = are_few c.few_procedures.ensures all.texts us all.have_values (omega (arith, c.requires.some, all.all, count)) (omega (arith, c.requires.few, all.all, count)) in
    let linkable : AreLinkable us c.in-Ok.segments c.args.limits.now = record { are = segments; compiled = c.known_texts.ensures.compiled all.texts us all.have_values; few = few.segments; within = c.requires.limits } in
    let bounds : (report : Report) → IsReport us report → BoundsRuns us report = λ report told. c.report_bounds_runs.ensures all.texts us report few.some all.have_values told in
    search (rules, linkable, few, bounds)

pub returns-in-Ok : goal.returns-in-Ok
returns-in-Ok g c = λ left input_faults.
    written c.known_texts.ensures.one (λ texts. IsDepth) _ (record { input = refl; faults = refl }) c.in-Ok.ensures.stay _ _ c.close.ensures.same (record { says = c.close.ensures.line; ended = c.close.ensures.ended })
    c.known_texts.ensures.sizes c.in-Ok.segments.units (units_taken _ _ _ c.in-Ok.ensures.taken.0) c.in-Ok.ensures.taken.2 c.depth_units.ensures

pub returns-in-Err : goal.returns-in-Err
returns-in-Err g c = λ left input_faults.
    stopped c.known_texts.ensures.one (λ texts. IsDepth) _ (record { input = refl; faults = refl }) c.in-Err.ensures.stay _ _ c.close-in-Err.ensures.same (record { says = c.close-in-Err.ensures.line; ended = c.close-in-Err.ensures.ended }) (record { out = refl; faults = refl }) (units_stopped _ _ _ _ _ c.in-Err.ensures.taken)
