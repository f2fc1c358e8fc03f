use Rattle.cw_cpu86.proofs.Rows.{push_steps}
use Rattle.cw_cpu86.proofs.cpu.Cpu.push_register.Goals as goal

pub returns : goal.returns
returns c = push_steps _ _ _ _ _ c.requires.r c.requires.not_sp c.requires.stands c.advance.ensures c.register-word.ensures c.push.ensures
