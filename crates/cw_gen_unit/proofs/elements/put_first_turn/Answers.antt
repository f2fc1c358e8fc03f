use Rattle.std.proofs.Common.{[], ◌∷◌}
use Rattle.cw_order.specs.declared.order.Order.TheVariants as order
use Rattle.cw_gen_expr.specs.ReferenceExpressions.{item_order}
use Rattle.cw_gen_unit.proofs.elements.put_first_turn.Goals as goal

pub returns : goal.returns
returns c = c.put_values.ensures (item_order c.args.layout.now c.args.looped 0 ∷ order.PutVariable c.args.line ∷ order.Exhausted c.args.end ∷ []) c.put_test.new.out c.put_test.ensures
