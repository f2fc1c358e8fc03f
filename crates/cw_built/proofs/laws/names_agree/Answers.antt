use Rattle.cw_built.proofs.NamesAgreeing.{agree}
use Rattle.cw_built.proofs.laws.names_agree.Goals as goal

pub returns : goal.returns
returns c = agree
