use Rattle.cw_gen_expr.proofs.Adding.{◌⨟◌, lost}
use Rattle.cw_gen_unit.proofs.statements.put_go.Goals as goal

pub returns-in-Ok : goal.returns-in-Ok
returns-in-Ok c = let all = c.put_begin.ensures ⨟ c.put_jump.ensures c.args.who c.in-Ok.ensures in all

pub returns-in-Err : goal.returns-in-Err
returns-in-Err c = lost c.fail.ensures
