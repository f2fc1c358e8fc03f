use Rattle.std.proofs.Common.{arith}
use Rattle.cw_cpu86.proofs.Rows.{operate_register_steps}
use Rattle.cw_cpu86.proofs.cpu.Cpu.operate_register_by.Goals as goal

pub returns-clause-goes : goal.returns-clause-goes
returns-clause-goes c = λ e.
    operate_register_steps _ _ _ _ _ _ c.requires.op c.requires.stands c.byte_behind-mode.ensures c.byte_behind-mode.type_inv (omega arith) c.advance.ensures c.register-word.ensures c.operate_word.ensures
