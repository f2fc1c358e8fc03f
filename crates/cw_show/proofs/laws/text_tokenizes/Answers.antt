use Rattle.std.proofs.Common.{false, []}
use Rattle.cw_show.proofs.Separated.{text_lexes}
use Rattle.cw_show.proofs.laws.text_tokenizes.Goals as goal

pub returns : goal.returns
returns c ts a n = text_lexes ts a false n []
