use Rattle.std.proofs.Common.{rules}
use Rattle.cw_gen_expr.proofs.Adding.{lost}
use Rattle.cw_gen_expr.proofs.output.Output.put.Goals as goal

pub returns-in-Ok : goal.returns-in-Ok
returns-in-Ok c = record { held = λ h. h; is = λ h. search rules }

pub returns-in-Err : goal.returns-in-Err
returns-in-Err c = lost c.fail.ensures
