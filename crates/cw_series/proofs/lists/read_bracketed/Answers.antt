-- A list between its brackets.
use Rattle.std.proofs.Common.{refl}
use Rattle.std.proofs.lemmas.Result.{err_from_is_err_and}
use Rattle.cw_series.proofs.Steps.{then_fails, after_fails}
use Rattle.cw_series.proofs.lists.read_bracketed.Goals as goal

pub returns : goal.returns
returns g c item p =
    let list = c.in_ok-found.ensures item p in
    rw (c.in_ok-at.ensures, list, c.in_ok-at-2.ensures) refl

pub returns-in_err-at : goal.returns-in_err-at
returns-in_err-at g c item p =
    let q = err_from_is_err_and c.from_residual.result c.from_residual.ensures.1 in
    rw (q.1, q.2) (then_fails _ _ _ (then_fails _ _ _ c.in_err-at.ensures))

pub returns-in_err-found : goal.returns-in_err-found
returns-in_err-found g c item p =
    let q = err_from_is_err_and c.from_residual-in_err-found.result c.from_residual-in_err-found.ensures.1 in
    rw (q.1, q.2) (then_fails _ _ _ (after_fails _ _ _ _ c.in_ok-at.ensures (then_fails _ _ _ (then_fails _ _ _ (then_fails _ _ _ (c.in_err-found.ensures item p))))))

pub returns-in_err-at-2 : goal.returns-in_err-at-2
returns-in_err-at-2 g c item p =
    let q = err_from_is_err_and c.from_residual-in_err-at-2.result c.from_residual-in_err-at-2.ensures.1 in
    rw (q.1, q.2) (then_fails _ _ _ (after_fails _ _ _ _ c.in_ok-at.ensures (then_fails _ _ _ (then_fails _ _ _ (after_fails _ _ _ _ (c.in_ok-found.ensures item p) (then_fails _ _ _ c.in_err-at-2.ensures))))))
