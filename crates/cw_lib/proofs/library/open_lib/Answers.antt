use Rattle.std.proofs.Common.{◌≡◌, sym, subst, ◌∙◌, arith}
use Rattle.std.proofs.lemmas.Result.{err_from_is_err_and}
use Rattle.cw_lib.specs.LibraryFormat.{IsFirstLibraryFault}
use Rattle.cw_lib.specs.Reading.{Reaches}
use Rattle.cw_view.proofs.Marked.{tail_is}
use Rattle.cw_lib.proofs.Opening.{begins, goes_on, fails_at, fails_trailing, whole_library}
use Rattle.cw_lib.proofs.library.open_lib.Goals as goal

pub loop-k-init : goal.loop-k-init
loop-k-init c = subst (Reaches c.args.bytes.now c.in_ok-count.count 0) (sym (tail_is c.args.bytes.now 8)) (begins c.args.bytes.now c.in_ok-count.count c.in_ok-count.ensures.1)

pub loop-k-preserved : goal.loop-k-preserved
loop-k-preserved c =
    goes_on c.args.bytes.now c.in_ok-count.count c.loop-k.k c.loop-k.rest.now c.in_ok-rest.rest.now (λ i. omega (arith, c.type_inv.bytes i)) c.loop-k.invariant c.in_ok-rest.ensures.there

pub returns-in_err-rest : goal.returns-in_err-rest
returns-in_err-rest c =
    let p = err_from_is_err_and c.from_residual-in_err-rest.result c.from_residual-in_err-rest.ensures.1 in
    rw p.1
    (subst (IsFirstLibraryFault c.args.bytes.now) (sym p.2)
    (fails_at c.args.bytes.now c.in_ok-count.count c.loop-k.k c.loop-k.rest.now _ c.in_ok-count.ensures.0 c.loop-k-test.true c.loop-k.invariant c.in_err-rest.ensures.fault))

pub returns-then-not-is_empty : goal.returns-then-not-is_empty
returns-then-not-is_empty c =
    let all : c.loop-k.k ≡ c.in_ok-count.count = omega (arith, c.loop-k-test.false, c.loop-k.auto.k-end) in
    rw c.saturating_sub.ensures
    (fails_trailing c.args.bytes.now c.in_ok-count.count c.loop-k.rest.now c.in_ok-count.ensures.0
    (subst (λ j. Reaches c.args.bytes.now c.in_ok-count.count j c.loop-k.rest.now) all c.loop-k.invariant) (sym c.is_empty.ensures ∙ c.if-not-is_empty.true))

pub returns : goal.returns
returns c =
    let all : c.loop-k.k ≡ c.in_ok-count.count = omega (arith, c.loop-k-test.false, c.loop-k.auto.k-end) in
    whole_library c.args.bytes.now _ c.loop-k.rest.now c.in_ok-count.ensures.0 c.in_ok-count.ensures.1 (tail_is c.args.bytes.now 8)
    (subst (λ j. Reaches c.args.bytes.now c.in_ok-count.count j c.loop-k.rest.now) all c.loop-k.invariant) (sym c.is_empty.ensures ∙ c.if-not-is_empty.false)
