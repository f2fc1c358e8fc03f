use Rattle.cw_cpu86.proofs.Rows.{return_past_steps}
use Rattle.cw_cpu86.proofs.cpu.Cpu.return_dropping.Goals as goal

pub returns : goal.returns
returns c = return_past_steps _ _ _ _ c.requires c.word_behind-bytes.type_inv c.word_behind-bytes.ensures c.advance.ensures c.return_past.ensures
