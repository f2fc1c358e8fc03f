use Rattle.std.proofs.Common.{sym, subst}
use Rattle.std.proofs.lemmas.Result.{err_from_is_err_and}
use Rattle.cw_image.specs.ImageFormat.{name_field, Fails, names_fields}
use Rattle.cw_image.proofs.Repeating.{goes_on, ends, is_named, name_is}
use Rattle.cw_image.proofs.reading.names_fields.Goals as goal

pub returns-in_err-text : goal.returns-in_err-text
returns-in_err-text c =
    let p = err_from_is_err_and c.from_residual.result c.from_residual.ensures.1 in
    rw p.1 (subst (λ f. Fails f (names_fields c.args.len c.args.count c.args.bytes.now)) (sym p.2) (ends (λ _. name_field c.args.len) c.in_err-text.field-0.0 c.loop.names c.args.count c.loop.counter c.loop.rest.now _ c.loop-test.true c.in_err-text.ensures c.loop.invariant))

pub unreachable-requires : goal.unreachable-requires
unreachable-requires c = is_named c.args.len c.loop.rest.now c.in_ok-text.text.now c.in_ok-text.after.now c.in_ok-text.ensures (sym c.in-None.ensures)

pub loop-preserved : goal.loop-preserved
loop-preserved c =
    rw c.in_ok-push-in-Some.ensures.ok
    (goes_on (λ _. name_field c.args.len) c.loop.names c.args.count c.loop.counter c.loop.rest.now c.in-Some.name c.in_ok-text.after.now _ c.loop-test.true
    (name_is c.args.len c.loop.rest.now c.in_ok-text.text.now c.in_ok-text.after.now c.in-Some.name c.in_ok-text.ensures c.in-Some.ensures) c.loop.invariant)
