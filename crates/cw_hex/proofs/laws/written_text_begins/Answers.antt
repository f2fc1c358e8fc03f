use Rattle.cw_hex.proofs.Begun.{written_begins}
use Rattle.cw_hex.proofs.laws.written_text_begins.Goals as goal

pub returns : goal.returns
returns c = written_begins c.one_start.ensures
