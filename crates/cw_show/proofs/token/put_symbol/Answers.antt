use Rattle.std.proofs.Common.{refl}
use Rattle.cw_show.proofs.Adding.{becomes}
use Rattle.cw_show.proofs.token.put_symbol.Goals as goal

pub returns : goal.returns
returns c = becomes c.put_token.ensures (rw c.symbol_text.ensures refl)
