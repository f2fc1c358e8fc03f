use Rattle.std.proofs.Common.{sym}
use Rattle.cw_show.specs.Canonical.{multiply_symbol}
use Rattle.cw_show.proofs.Adding.{nothing, becomes, operator_seen, no_operator}
use Rattle.cw_show.proofs.expression.put_mul_at.Goals as goal

pub returns-in-Some : goal.returns-in-Some
returns-in-Some c =
    becomes c.put_mul_op.ensures
    (sym (operator_seen (λ s. multiply_symbol s.op) c.args.signs.now c.args.at c.in-Some.sign.now c.in-Some.ensures.lookup.3.0 c.in-Some.ensures.lookup.1))

pub returns-in-None : goal.returns-in-None
returns-in-None c = becomes (nothing c.args.out.now) (sym (no_operator (λ s. multiply_symbol s.op) c.args.signs.now c.args.at c.in-None.ensures.lookup.3))
