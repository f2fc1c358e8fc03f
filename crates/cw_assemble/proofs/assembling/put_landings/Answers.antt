use Rattle.std.proofs.Common.{get_or, length, refl, subst}
use Rattle.cw_tmpl.specs.Named.{is_named_label}
use Rattle.cw_tmpl.specs.ReferenceCode.{landings}
use Rattle.cw_assemble.proofs.Composed.{next_landing}
use Rattle.cw_assemble.proofs.Growing.{Coming, all_comes, last_came}
use Rattle.cw_assemble.proofs.Placing.{at_index, item_here, landing_is}
use Rattle.cw_assemble.proofs.assembling.put_landings.Goals as goal

pub loop-number-init : goal.loop-number-init
loop-number-init c =
    let old = c.args.code.now in
    let from = landings c.args.names.now (is_named_label c.args.orders.now) (length old.assembly.bytes) 0 in
    subst (λ ls. Coming old (from ls) old (from c.as_slice-labels.result.now)) c.as_slice-labels.ensures (all_comes old (from c.as_slice-labels.result.now))

pub loop-number-preserved : goal.loop-number-preserved
loop-number-preserved c =
    let list = c.as_slice-labels.result.now in
    let k = c.loop-number.number in
    let within = c.loop-number-test.true in
    next_landing c.args.code.now _ c.loop-number.code c.put_landing.new.code c.args.names.now (is_named_label c.args.orders.now) list k (get_or list k _) c.has_landing-has.result (item_here list k _ within)
    (landing_is (is_named_label c.args.orders.now) _ c.has_landing-has.result k (get_or list k _) c.has_landing-has.ensures (c.requires.each k (at_index k c.as_slice-labels.ensures within))) c.put_landing.ensures c.loop-number.invariant

pub returns : goal.returns
returns c =
    last_came (λ ls. landings c.args.names.now (is_named_label c.args.orders.now) (length c.loop-number.code.assembly.bytes) c.loop-number.number ls) c.as_slice-labels.result.now c.loop-number.number c.loop-number-test.false refl
    c.loop-number.invariant
