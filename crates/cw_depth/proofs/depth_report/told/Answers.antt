use Rattle.std.proofs.Common.{◌≡◌, ◌<◌, Some, length, arith, ◌∙◌, sym, ap, List}
use Rattle.std.specs.Prelude.{slice_get}
use Rattle.std.proofs.lemmas.Grind.{common_steps}
use Rattle.std.proofs.lemmas.Option.{gets}
use Rattle.cw_depth.specs.declared.node.Node.{Node}
use Rattle.cw_depth.specs.declared.node.Node.TheVariants.{Procedure}
use Rattle.cw_depth.proofs.Reporting.{segment_small}
use Rattle.cw_depth.proofs.depth_report.told.Goals as goal

pub overflow_add-result : goal.overflow_add-result
overflow_add-result c =
    let us = c.args.units.now in
    let g = c.in-Some-Procedure.segment in
    let q = c.in-Some-Procedure.number in
    let there : slice_get c.args.nodes.now c.args.number ≡ Some (Procedure g q) = grind (arith, common_steps, gets, c.in-Some-Procedure.ensures.lookup) in
    let low : g < length us = segment_small us c.args.number g q (sym (ap (λ (xs : List Node). slice_get xs c.args.number) c.requires.nodes) ∙ there) in
    omega (arith, c.requires.few.segments)
