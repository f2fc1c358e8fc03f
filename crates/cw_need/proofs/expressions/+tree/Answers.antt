use Rattle.std.proofs.Common.{ap, ◌∙◌, sym}
use Rattle.cw_unit.specs.declared.unit.Expr.TheVariants as expr
use Rattle.cw_unit.specs.declared.unit.Arg.TheOpen as layer
use Rattle.cw_unit.specs.declared.unit.Arg.TheViews.{out-roll-Expr}
use Rattle.cw_unit.specs.declared.unit.Expr.{out-Expr}
use Rattle.cw_unit.specs.StackBound.{operand_depth}
use Rattle.cw_need.proofs.Layers.{expression-by_layer, expression_layer}
use Rattle.cw_need.proofs.Arguments.{with_answer}
use Rattle.cw_need.proofs.expressions.+tree.Goals as goal

pub operand_depth-returns-in-Call : goal.operand_depth-returns-in-Call
operand_depth-returns-in-Call t c =
    let d = c.in-Call in
    let rolled = d.is ∙ sym (expr.rolls-Call d.field-0 d.arguments) in
    with_answer d.arguments c.as_slice.result.now c.arguments_depth.result c.max.result (operand_depth c.args.e.now) c.as_slice.ensures c.arguments_depth.ensures c.max.ensures
    (expression-by_layer c.args.e.now ∙ ap expression_layer (ap out-Expr rolled ∙ out-roll-Expr (layer.Call d.field-0 d.arguments)))
