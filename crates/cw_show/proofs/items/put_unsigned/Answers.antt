use Rattle.std.proofs.Common.{refl}
use Rattle.cw_show.proofs.Adding.{nothing, becomes}
use Rattle.cw_show.proofs.items.put_unsigned.Goals as goal

pub returns-then-not-unsigned : goal.returns-then-not-unsigned
returns-then-not-unsigned c = becomes (nothing c.args.out.now) (rw c.if-not-unsigned.true refl)

pub returns : goal.returns
returns c = becomes c.put_word.ensures (rw c.if-not-unsigned.false refl)
