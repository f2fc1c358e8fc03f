use Rattle.std.proofs.Common.{arith}
use Rattle.cw_cpu86.proofs.Rows.{store_steps}
use Rattle.cw_cpu86.proofs.cpu.Cpu.store_register.Goals as goal

pub returns-clause-goes : goal.returns-clause-goes
returns-clause-goes c = λ e.
    let at = c.in-Some.ensures in
    store_steps _ _ _ _ at.0 _ _ _ _ c.requires (omega arith) at.1 at.2 at.3 c.advance.ensures c.register-word.ensures c.set_value_at.ensures
