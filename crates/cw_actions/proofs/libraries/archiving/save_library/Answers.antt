use Rattle.std.proofs.Common.{◌∙◌, refl}
use Rattle.cw_actions.proofs.libraries.archiving.save_library.Goals as goal

pub returns-in-Ok : goal.returns-in-Ok
returns-in-Ok g c = rw (c.as_slice.ensures.value ∙ c.in-Ok.ensures) at c.save.ensures

pub returns-in-Err : goal.returns-in-Err
returns-in-Err g c = λ name. refl
