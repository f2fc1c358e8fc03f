use Rattle.std.proofs.Common.{◌≡◌, length, ap, ◌∙◌, sym, arith, List}
use Rattle.std.specs.Prelude.{slice_get}
use Rattle.std.proofs.lemmas.Option.{slice_get-get_or}
use Rattle.std.proofs.lemmas.Grind.{common_steps}
use Rattle.cw_depth.specs.declared.node.Node.{Node}
use Rattle.cw_depth.specs.declared.node.Node.TheVariants.{Body}
use Rattle.cw_depth.specs.Numbering.{nodes_of}
use Rattle.cw_depth.proofs.Adding.{rows_more}
use Rattle.cw_depth.proofs.rows.rows_for.Goals as goal

pub loop-node-preserved : goal.loop-node-preserved
loop-node-preserved c =
    let us = c.args.units.now in
    let i = c.loop-node.node-index in
    let at' = slice_get-get_or c.args.nodes.now i (Body 0) c.loop-node-test.true in
    let size : i ≡ length c.loop-node.rows = sym c.loop-node.invariant.size in
    record {
      size = grind (arith, common_steps);
      rows = rows_more us c.loop-node.heads c.row_for.new.heads c.loop-node.rows _ _ _ c.in_ok-row_for.ensures.extends c.loop-node.invariant.rows (ap (slice_get (nodes_of us)) (sym size) ∙ sym (ap (λ (xs : List Node). slice_get xs i) c.requires.nodes) ∙ at') c.in_ok-row_for.ensures.row c.in_ok-push.ensures.ok;
    }
