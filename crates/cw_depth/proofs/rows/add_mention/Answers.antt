use Rattle.std.proofs.lemmas.Result.{on_ok_weaker}
use Rattle.cw_depth.proofs.Adding.{adds_own, adds_common}
use Rattle.cw_depth.proofs.rows.add_mention.Goals as goal

pub returns-in-Own : goal.returns-in-Own
returns-in-Own c = rw c.in-Own.is
    (on_ok_weaker c.add_procedure.result (λ e. adds_own c.args.units.now c.args.heads.now c.args.node _ c.in-Own.number c.args.row.now _ c.segment_of.ensures e) c.add_procedure.ensures)

pub returns-in-Common : goal.returns-in-Common
returns-in-Common c = rw c.in-Common.is
    (on_ok_weaker c.add_procedure-in-Common.result (λ e. adds_common c.args.units.now c.args.heads.now c.args.node _ c.in-Common.descriptor _ c.args.row.now _ c.segment_of-in-Common.ensures c.named_in-place.ensures e) c.add_procedure-in-Common.ensures)
