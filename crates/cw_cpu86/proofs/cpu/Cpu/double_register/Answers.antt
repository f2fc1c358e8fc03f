use Rattle.std.proofs.Common.{rules}
use Rattle.cw_cpu86.proofs.Rows.{double_steps}
use Rattle.cw_cpu86.proofs.cpu.Cpu.double_register.Goals as goal

pub returns-clause-goes : goal.returns-clause-goes
returns-clause-goes c = λ e. double_steps _ _ _ _ c.requires c.byte_behind-mode.ensures (search rules) c.advance.ensures c.double.ensures
