use Rattle.cw_read_back.proofs.Shorter.Texts.{no_longer}
use Rattle.cw_read_back.proofs.laws.shorter.no_longer.Goals as goal

pub returns : goal.returns
returns c n ts raw d = no_longer n ts raw d
