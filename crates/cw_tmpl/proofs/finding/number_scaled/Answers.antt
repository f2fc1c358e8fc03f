use Rattle.std.proofs.Common.{◌∙◌}
use Rattle.cw_tmpl.specs.Blocks.{number_scaled}
use Rattle.cw_tmpl.proofs.Orders.{order_there, none_there}
use Rattle.cw_tmpl.proofs.finding.number_scaled.Goals as goal

pub returns-in-Some : goal.returns-in-Some
returns-in-Some c = c.number_scaled_by.ensures ∙ order_there (number_scaled c.args.word) c.args.orders.now 1 c.in-Some.order.now c.in-Some.ensures.lookup.3.0 c.in-Some.ensures.lookup.1

pub returns-in-None : goal.returns-in-None
returns-in-None c = none_there (number_scaled c.args.word) c.args.orders.now 1 c.in-None.ensures.lookup.3
