use Rattle.cw_cpu86.proofs.Rows.{jump_steps}
use Rattle.cw_cpu86.proofs.cpu.Cpu.jump_near.Goals as goal

pub returns : goal.returns
returns c = jump_steps _ _ _ _ c.requires c.word_behind-by.type_inv c.word_behind-by.ensures c.advance.ensures c.advance-2.ensures
