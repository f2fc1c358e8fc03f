use Rattle.std.proofs.Common.{◌∙◌}
use Rattle.cw_tmpl.specs.Blocks.{fetched}
use Rattle.cw_tmpl.proofs.Orders.{order_there, none_there}
use Rattle.cw_tmpl.proofs.finding.fetched.Goals as goal

pub returns-in-Some : goal.returns-in-Some
returns-in-Some c = c.fetched_by.ensures ∙ order_there (fetched c.args.place) c.args.orders.now c.args.behind c.in-Some.order.now c.in-Some.ensures.lookup.3.0 c.in-Some.ensures.lookup.1

pub returns-in-None : goal.returns-in-None
returns-in-None c = none_there (fetched c.args.place) c.args.orders.now c.args.behind c.in-None.ensures.lookup.3
