use Rattle.std.proofs.Common.{refl}
use Rattle.cw_show.proofs.Adding.{becomes}
use Rattle.cw_show.proofs.token.put_word.Goals as goal

pub returns : goal.returns
returns c = becomes c.put_token.ensures (rw c.word_text.ensures refl)
