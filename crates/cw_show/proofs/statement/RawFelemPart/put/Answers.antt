use Rattle.std.proofs.Common.{refl}
use Rattle.cw_show.proofs.Adding.{in_order, becomes}
use Rattle.cw_show.proofs.statement.RawFelemPart.put.Goals as goal

pub returns-in-One : goal.returns-in-One
returns-in-One c = becomes c.put_expr.ensures (rw (c.in-One.is, c.get.ensures) refl)

pub returns-in-While : goal.returns-in-While
returns-in-While c = becomes (in_order c.put_expr-in-While.ensures (in_order c.put_word.ensures c.put_cond.ensures))
    (rw (c.in-While.is, c.get-in-While.ensures, c.get-in-While-2.ensures) refl)

pub returns-in-Step : goal.returns-in-Step
returns-in-Step c = becomes (in_order c.put_expr-in-Step.ensures (in_order c.put_word-in-Step.ensures
    (in_order c.put_expr-in-Step-2.ensures (in_order c.put_word-in-Step-2.ensures c.put_expr-in-Step-3.ensures))))
    (rw (c.in-Step.is, c.get-in-Step.ensures, c.get-in-Step-2.ensures, c.get-in-Step-3.ensures) refl)
