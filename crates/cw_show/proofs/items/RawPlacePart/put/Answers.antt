use Rattle.std.proofs.Common.{refl}
use Rattle.cw_show.proofs.Adding.{nothing, in_order, becomes}
use Rattle.cw_show.proofs.items.RawPlacePart.put.Goals as goal

pub returns-in-Void : goal.returns-in-Void
returns-in-Void c = becomes (nothing c.args.out.now) (rw c.in-Void.is refl)

pub returns-in-Number : goal.returns-in-Number
returns-in-Number c = becomes (in_order c.put_sign.ensures c.put_number.ensures) (rw c.in-Number.is refl)

pub returns-in-Octal : goal.returns-in-Octal
returns-in-Octal c = becomes (in_order c.put_sign-in-Octal.ensures c.put_octal.ensures) (rw c.in-Octal.is refl)

pub returns-in-Literal : goal.returns-in-Literal
returns-in-Literal c = becomes (in_order c.put_sign-in-Literal.ensures c.put_literal.ensures) (rw c.in-Literal.is refl)
