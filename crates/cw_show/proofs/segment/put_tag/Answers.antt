use Rattle.std.proofs.Common.{refl}
use Rattle.cw_show.proofs.Adding.{becomes}
use Rattle.cw_show.proofs.segment.put_tag.Goals as goal

pub returns-in-Procedure : goal.returns-in-Procedure
returns-in-Procedure c = becomes c.put_word.ensures (rw c.in-Procedure.is refl)

pub returns-in-Recursive : goal.returns-in-Recursive
returns-in-Recursive c = becomes c.put_word-in-Recursive.ensures (rw c.in-Recursive.is refl)
