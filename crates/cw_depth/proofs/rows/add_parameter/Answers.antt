use Rattle.std.proofs.lemmas.Result.{on_ok_weaker}
use Rattle.cw_depth.proofs.Adding.{adds_parameter}
use Rattle.cw_depth.proofs.rows.add_parameter.Goals as goal

pub returns-in_ok-head-in-Some : goal.returns-in_ok-head-in-Some
returns-in_ok-head-in-Some c =
    on_ok_weaker c.add_group.result
    (λ e. adds_parameter c.args.units.now c.args.heads.now c.number.new.self c.args.node c.args.control c.in_ok-head-in-Some.head c.in-Some.spec.now c.args.row.now _ c.in-Some.ensures c.in_ok-head-in-Some.ensures.keeps c.in_ok-head-in-Some.ensures.number (rw c.requires at e))
    c.add_group.ensures
