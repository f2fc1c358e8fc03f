use Rattle.std.proofs.Common.{length, refl, subst}
use Rattle.cw_tmpl.specs.Named.{is_named_switch}
use Rattle.cw_tmpl.specs.ReferenceCode.{switches}
use Rattle.cw_assemble.proofs.Composed.{next_switch, item_first}
use Rattle.cw_assemble.proofs.Growing.{Coming, all_comes, last_came}
use Rattle.cw_assemble.proofs.Placing.{at_index}
use Rattle.cw_assemble.proofs.assembling.put_switches.Goals as goal

pub loop-number-init : goal.loop-number-init
loop-number-init c =
    let old = c.args.code.now in
    let from = switches c.args.names.now (is_named_switch c.args.orders.now) (length old.assembly.bytes) 0 in
    subst (λ ls. Coming old (from ls) old (from c.as_slice-switches.result.now)) c.as_slice-switches.ensures (all_comes old (from c.as_slice-switches.result.now))

pub loop-number-preserved : goal.loop-number-preserved
loop-number-preserved c =
    let list = c.as_slice-switches.result.now in
    let k = c.loop-number.number in
    let gs = c.index-switches-number.result in
    let within = c.loop-number-test.true in
    next_switch c.args.code.now _ c.loop-number.code c.put_switch.new.code c.args.names.now (is_named_switch c.args.orders.now) list k gs _ (item_first list k gs within c.index-switches-number.is) (c.requires.each k (at_index k c.as_slice-switches.ensures within))
    c.put_switch.ensures c.loop-number.invariant

pub returns : goal.returns
returns c =
    last_came (λ ls. switches c.args.names.now (is_named_switch c.args.orders.now) (length c.loop-number.code.assembly.bytes) c.loop-number.number ls) c.as_slice-switches.result.now c.loop-number.number c.loop-number-test.false refl
    c.loop-number.invariant
