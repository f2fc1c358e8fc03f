use Rattle.std.proofs.Common.{◌||◌, refl, ap}
use Rattle.cw_tmpl.specs.Named.{is_named_switch, switches_list_label}
use Rattle.cw_assemble.specs.Flags.{flag}
use Rattle.cw_assemble.proofs.Flags.{all_set, set_next_switch}
use Rattle.cw_assemble.proofs.Placing.{at_index}
use Rattle.cw_assemble.proofs.named.set_labels_of_switches.Goals as goal

pub loop-number-init : goal.loop-number-init
loop-number-init c =
    let named = is_named_switch c.args.orders.now in
    record { long = refl; each = λ k inside. ap (λ l. flag c.args.flags.now.items k || switches_list_label named 0 l k) c.as_slice-switches.ensures }

pub loop-number-preserved : goal.loop-number-preserved
loop-number-preserved c =
    let named = is_named_switch c.args.orders.now in
    let list = c.as_slice-switches.result.now in
    let k = c.loop-number.number in
    let within = c.loop-number-test.true in
    set_next_switch named list k c.index-switches-number.result c.as_slice.result.now _ c.loop-number.flags.items c.set_labels_of_switch.new.flags.items c.args.flags.now.items (switches_list_label named 0 c.args.orders.now.switches)
    within c.index-switches-number.is c.as_slice.ensures (c.requires.each k (at_index k c.as_slice-switches.ensures within)) c.set_labels_of_switch.ensures.long c.set_labels_of_switch.ensures.each c.loop-number.invariant

pub returns-clause-long : goal.returns-clause-long
returns-clause-long c = c.loop-number.invariant.long

pub returns-clause-each : goal.returns-clause-each
returns-clause-each c =
    let named = is_named_switch c.args.orders.now in
    let number = c.loop-number.number in
    all_set (switches_list_label named number) (switches_list_label named 0 c.args.orders.now.switches) c.as_slice-switches.result.now number c.loop-number.flags.items c.args.flags.now.items
    c.loop-number-test.false (λ k. refl) c.loop-number.invariant
