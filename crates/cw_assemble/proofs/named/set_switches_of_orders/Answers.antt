use Rattle.std.proofs.Common.{refl, ap, ◌∙◌}
use Rattle.cw_tmpl.specs.Named.{switch_of_order, orders_name_switch}
use Rattle.cw_assemble.proofs.Flags.{all_set, set_next}
use Rattle.cw_assemble.proofs.named.set_switches_of_orders.Goals as goal

pub loop-order-init : goal.loop-order-init
loop-order-init c = record { long = refl; each = λ k inside. refl }

pub loop-order-preserved : goal.loop-order-preserved
loop-order-preserved c =
    set_next orders_name_switch switch_of_order c.args.orders.now c.loop-order.order-index c.order-item.result c.loop-order.flags.items c.set.new.flags.items c.args.flags.now.items c.switch_of_order.result (orders_name_switch c.args.orders.now)
    (λ x rest k. refl) c.loop-order-test.true (c.switch_of_order.ensures ∙ ap switch_of_order c.order-item.is) c.set.ensures.long c.set.ensures.each c.loop-order.invariant

pub returns-clause-long : goal.returns-clause-long
returns-clause-long c = c.loop-order.invariant.long

pub returns-clause-each : goal.returns-clause-each
returns-clause-each c = all_set orders_name_switch (orders_name_switch c.args.orders.now) c.args.orders.now c.loop-order.order-index c.loop-order.flags.items c.args.flags.now.items c.loop-order-test.false (λ k. refl) c.loop-order.invariant
