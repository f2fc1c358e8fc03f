use Rattle.cw_read_back.proofs.Plain.Expands.{text_expands}
use Rattle.cw_read_back.proofs.laws.plain.expands_to_itself.Goals as goal

pub returns : goal.returns
returns c n ts x l d = text_expands ts l d
