use Rattle.cw_cpu86.proofs.Rows.{operate_number_steps}
use Rattle.cw_cpu86.proofs.cpu.Cpu.operate_number.Goals as goal

pub returns : goal.returns
returns c = operate_number_steps _ _ _ _ _ c.requires.op c.requires.stands c.word_behind-word.type_inv c.word_behind-word.ensures c.advance.ensures c.operate_word.ensures
