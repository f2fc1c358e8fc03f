use Rattle.cw_cpu86.proofs.Rows.{return_steps}
use Rattle.cw_cpu86.proofs.cpu.Cpu.return_near.Goals as goal

pub returns : goal.returns
returns c = return_steps _ _ _ c.requires c.advance.ensures c.return_past.ensures
