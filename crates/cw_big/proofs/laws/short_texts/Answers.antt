use Rattle.cw_big.proofs.Lengths.{short}
use Rattle.cw_big.proofs.laws.short_texts.Goals as goal

pub returns : goal.returns
returns c = short
