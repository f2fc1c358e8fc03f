use Rattle.std.proofs.Common.{arith}
use Rattle.cw_cpu86.proofs.Rows.{operate_steps}
use Rattle.cw_cpu86.proofs.cpu.Cpu.operate_operand.Goals as goal

pub returns-clause-goes : goal.returns-clause-goes
returns-clause-goes c = λ e.
    let named = c.in-Some.ensures in
    operate_steps _ _ _ _ _ named.0 _ _ c.requires.op c.requires.stands (omega arith) named.1 named.2 c.advance.ensures c.operate_word.ensures
