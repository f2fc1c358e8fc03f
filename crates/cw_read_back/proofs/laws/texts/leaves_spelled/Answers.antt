use Rattle.cw_read_back.proofs.Texts.Texts.{leaves_of}
use Rattle.cw_read_back.proofs.laws.texts.leaves_spelled.Goals as goal

pub returns : goal.returns
returns c n ts raw h d = leaves_of n ts raw h d
