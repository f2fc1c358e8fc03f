use Rattle.cw_cpu86.proofs.Rows.{pop_steps}
use Rattle.cw_cpu86.proofs.cpu.Cpu.pop_register.Goals as goal

pub returns : goal.returns
returns c = pop_steps _ _ _ _ c.requires.r c.requires.not_sp c.requires.stands c.advance.ensures c.pop_to.ensures
