use Rattle.std.proofs.Common.{drop}
use Rattle.cw_tmpl.specs.Named.{orders_name_switch}
use Rattle.cw_assemble.proofs.Flags.{Setting}
use Rattle.cw_assemble.proofs.named.set_switches_of_orders.Given as goal

abbrev pub invariant-loop-order : goal.invariant-loop-order
invariant-loop-order l = Setting l.flags.items l.fn.flags.items (orders_name_switch (drop l.order-index l.orders)) (orders_name_switch l.orders)
