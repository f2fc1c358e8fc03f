use Rattle.std.proofs.Common.{[], ◌∷◌, ap}
use Rattle.cw_show.proofs.Adding.{bytes_become}
use Rattle.cw_show.proofs.token.end_token.Goals as goal

pub returns : goal.returns
returns c = bytes_become c.put.ensures (ap (λ b. b ∷ []) c.separator.ensures)
