use Rattle.std.proofs.lemmas.Result.{err_from_is_err_and}
use Rattle.cw_parse_expr.proofs.chains.read_chained.Goals as goal

pub returns : goal.returns
returns g c item p = rw c.in_ok-operators.ensures (c.in_ok-chain.ensures item p)

pub returns-in_err-chain : goal.returns-in_err-chain
returns-in_err-chain g c item p =
    let q = err_from_is_err_and c.from_residual.result c.from_residual.ensures.1 in
    rw (q.1, q.2) (c.in_err-chain.ensures item p)
