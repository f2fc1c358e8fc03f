use Rattle.cw_cpu86.proofs.Rows.{exchange_steps}
use Rattle.cw_cpu86.proofs.cpu.Cpu.exchange_with_bx.Goals as goal

pub returns : goal.returns
returns c = exchange_steps _ _ _ c.requires c.advance.ensures c.exchange_ax.ensures
