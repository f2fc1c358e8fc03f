use Rattle.std.proofs.Common.{sym, ◌∙◌}
use Rattle.std.proofs.lemmas.Bool.{false≢true}
use Rattle.cw_gen_expr.proofs.output.Output.reserve.Goals as goal

pub returns-in-Ok : goal.returns-in-Ok
returns-in-Ok c = record { held = λ h. sym c.new_mark.ensures.held ∙ h; next = λ h. c.in-Ok.ensures.mark; is = λ h. c.in-Ok.ensures.reserved }

pub returns-in-Err : goal.returns-in-Err
returns-in-Err c =
    record { held = λ h. absurd (false≢true (sym h ∙ c.fail.ensures)); next = λ h. absurd (false≢true (sym h ∙ c.fail.ensures)); is = λ h. absurd (false≢true (sym h ∙ c.fail.ensures)) }
