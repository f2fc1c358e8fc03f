use Rattle.cw_cpu86.proofs.Rows.{count_steps}
use Rattle.cw_cpu86.proofs.cpu.Cpu.count_named.Goals as goal

pub returns : goal.returns
returns c = count_steps _ _ _ _ _ c.requires.r c.requires.stands c.advance.ensures c.count_register.ensures
