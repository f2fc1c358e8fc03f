use Rattle.std.proofs.Common.{◌∙◌}
use Rattle.cw_tmpl.specs.Blocks.{bounds_at}
use Rattle.cw_tmpl.proofs.Orders.{order_there, none_there}
use Rattle.cw_tmpl.proofs.operands.bounds_at.Goals as goal

pub returns-in-Some : goal.returns-in-Some
returns-in-Some c = c.bounds_of.ensures ∙ order_there bounds_at c.args.orders.now c.args.place c.in-Some.order.now c.in-Some.ensures.lookup.3.0 c.in-Some.ensures.lookup.1

pub returns-in-None : goal.returns-in-None
returns-in-None c = none_there bounds_at c.args.orders.now c.args.place c.in-None.ensures.lookup.3
