use Rattle.std.proofs.Common.{rules}
use Rattle.cw_show.proofs.Adding.{bytes_become}
use Rattle.cw_show.proofs.leaf.put_character.Goals as goal

pub returns-then-byte-eq34 : goal.returns-then-byte-eq34
returns-then-byte-eq34 c = bytes_become c.put.ensures (search rules)

pub returns : goal.returns
returns c = bytes_become c.put-2.ensures (search rules)
