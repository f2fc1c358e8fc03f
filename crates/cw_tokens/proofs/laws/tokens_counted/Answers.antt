-- What is derived counts no more than its tokens.
use Rattle.cw_tokens.proofs.Counted.{counted}
use Rattle.cw_tokens.proofs.laws.tokens_counted.Goals as goal

pub returns : goal.returns
returns c n ts raw d = counted n ts raw d
