use Rattle.cw_order.proofs.FittingWords.{step-fits}
use Rattle.cw_order.proofs.laws.words.Goals as goal

pub returns : goal.returns
returns c p s fits = step-fits p s fits
