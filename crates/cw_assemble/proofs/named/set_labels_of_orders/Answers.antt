use Rattle.std.proofs.Common.{refl, ap, ◌∙◌}
use Rattle.cw_tmpl.specs.Named.{label_of_order, orders_name_label}
use Rattle.cw_assemble.proofs.Flags.{all_set, set_next}
use Rattle.cw_assemble.proofs.named.set_labels_of_orders.Goals as goal

pub loop-order-init : goal.loop-order-init
loop-order-init c = record { long = refl; each = λ k inside. refl }

pub loop-order-preserved : goal.loop-order-preserved
loop-order-preserved c =
    set_next orders_name_label label_of_order c.args.orders.now c.loop-order.order-index c.order-item.result c.loop-order.flags.items c.set.new.flags.items c.args.flags.now.items c.label_of_order.result (orders_name_label c.args.orders.now)
    (λ x rest k. refl) c.loop-order-test.true (c.label_of_order.ensures ∙ ap label_of_order c.order-item.is) c.set.ensures.long c.set.ensures.each c.loop-order.invariant

pub returns-clause-long : goal.returns-clause-long
returns-clause-long c = c.loop-order.invariant.long

pub returns-clause-each : goal.returns-clause-each
returns-clause-each c = all_set orders_name_label (orders_name_label c.args.orders.now) c.args.orders.now c.loop-order.order-index c.loop-order.flags.items c.args.flags.now.items c.loop-order-test.false (λ k. refl) c.loop-order.invariant
