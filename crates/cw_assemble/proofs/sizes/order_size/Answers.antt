use Rattle.std.proofs.Common.{◌+◌, ◌*◌, length, ap, sym, ◌∙◌}
use Rattle.std.proofs.lemmas.Result.{IfOk-weaker}
use Rattle.cw_order.specs.declared.order.Order.TheVariants as order
use Rattle.cw_tmpl.specs.Templates.{order_size, loop_ways_size}
use Rattle.cw_tmpl.proofs.Sizes.{listed}
use Rattle.cw_assemble.proofs.sizes.order_size.Goals as goal

pub returns-in-LoopWay : goal.returns-in-LoopWay
returns-in-LoopWay c =
    let marks = c.in-LoopWay.marks in
    IfOk-weaker c.loop_ways_size.result _ _ (λ n e. e ∙ ap loop_ways_size c.as_slice.ensures ∙ sym (listed (order.LoopWay marks)) ∙ ap order_size (sym c.in-LoopWay.is)) c.loop_ways_size.ensures

pub returns-in-SwitchWay : goal.returns-in-SwitchWay
returns-in-SwitchWay c =
    let marks = c.in-SwitchWay.marks in
    let line = c.in-SwitchWay.line in
    IfOk-weaker c.table_size.result _ _
    (λ n e. e ∙ ap (λ xs. 20 + 2 * length xs) c.as_slice-in-SwitchWay.ensures ∙ sym (listed (order.SwitchWay marks line)) ∙ ap order_size (sym c.in-SwitchWay.is)) c.table_size.ensures
