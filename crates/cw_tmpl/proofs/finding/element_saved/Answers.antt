use Rattle.std.proofs.Common.{ap, ◌+◌, ◌∙◌}
use Rattle.std.specs.Prelude.{slice_get}
use Rattle.cw_tmpl.specs.Blocks.{element_saved}
use Rattle.cw_tmpl.proofs.Orders.{order_there, none_there}
use Rattle.cw_tmpl.proofs.finding.element_saved.Goals as goal

pub returns-in-Some : goal.returns-in-Some
returns-in-Some c =
    let os = c.args.orders.now in
    let k = c.orders_of_element-behind.result in
    c.element_saved_by.ensures
    ∙ order_there (λ o. element_saved c.args.element o (slice_get os (k + 1)) c.args.other) os k c.in-Some.order.now c.in-Some.ensures.lookup.3.0 c.in-Some.ensures.lookup.1
    ∙ ap (λ n. element_saved c.args.element (slice_get os n) (slice_get os (n + 1)) c.args.other) c.orders_of_element-behind.ensures

pub returns-in-None : goal.returns-in-None
returns-in-None c =
    let os = c.args.orders.now in
    let k = c.orders_of_element-behind.result in
    none_there (λ o. element_saved c.args.element o (slice_get os (k + 1)) c.args.other) os k c.in-None.ensures.lookup.3
    ∙ ap (λ n. element_saved c.args.element (slice_get os n) (slice_get os (n + 1)) c.args.other) c.orders_of_element-behind.ensures
