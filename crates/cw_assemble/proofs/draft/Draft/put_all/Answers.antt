use Rattle.cw_assemble.proofs.Growing.{lost}
use Rattle.cw_assemble.proofs.draft.Draft.put_all.Goals as goal

pub returns-in-Ok : goal.returns-in-Ok
returns-in-Ok c = record { held = λ h. h; is = λ h. c.in-Ok.ensures }

pub returns-in-Err : goal.returns-in-Err
returns-in-Err c = lost c.fail.ensures
