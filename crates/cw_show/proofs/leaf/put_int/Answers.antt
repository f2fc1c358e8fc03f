use Rattle.std.proofs.Common.{refl}
use Rattle.cw_show.proofs.Adding.{becomes}
use Rattle.cw_show.proofs.leaf.put_int.Goals as goal

pub returns-in-Number : goal.returns-in-Number
returns-in-Number c = becomes c.put_number.ensures (rw c.in-Number.is refl)

pub returns-in-Octal : goal.returns-in-Octal
returns-in-Octal c = becomes c.put_octal.ensures (rw c.in-Octal.is refl)
