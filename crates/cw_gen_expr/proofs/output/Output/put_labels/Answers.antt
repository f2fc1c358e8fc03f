use Rattle.std.proofs.Common.{sym, ◌∙◌}
use Rattle.cw_gen_expr.proofs.Adding.{lost}
use Rattle.cw_gen_expr.proofs.output.Output.put_labels.Goals as goal

pub returns-in-Ok : goal.returns-in-Ok
returns-in-Ok c = record { held = λ h. sym c.set_labels.ensures.held ∙ h; is = λ h. c.in-Ok.ensures.placed }

pub returns-in-Err : goal.returns-in-Err
returns-in-Err c = lost c.fail.ensures
