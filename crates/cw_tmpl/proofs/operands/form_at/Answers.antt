use Rattle.std.proofs.Common.{Some, w16, ap, ◌∙◌}
use Rattle.std.proofs.lemmas.Int.{to_z-of_z}
use Rattle.cw_tmpl.specs.Blocks.{form_of}
use Rattle.cw_tmpl.proofs.Orders.{order_there, none_there}
use Rattle.cw_tmpl.proofs.operands.form_at.Goals as goal

pub returns-in-Some : goal.returns-in-Some
returns-in-Some c = c.form_of.ensures ∙ ap (λ l. form_of l (Some c.in-Some.order.now)) (to_z-of_z w16 c.args.lower c.ranges.lower) ∙ order_there (form_of c.args.lower) c.args.orders.now c.args.place c.in-Some.order.now c.in-Some.ensures.lookup.3.0 c.in-Some.ensures.lookup.1

pub returns-in-None : goal.returns-in-None
returns-in-None c = none_there (form_of c.args.lower) c.args.orders.now c.args.place c.in-None.ensures.lookup.3
