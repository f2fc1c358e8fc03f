use Rattle.cw_cpu86.proofs.Rows.{set_steps}
use Rattle.cw_cpu86.proofs.cpu.Cpu.set_number.Goals as goal

pub returns : goal.returns
returns c = set_steps _ _ _ _ _ c.requires.r c.requires.stands c.word_behind-word.type_inv c.word_behind-word.ensures c.advance.ensures c.set_register.ensures
