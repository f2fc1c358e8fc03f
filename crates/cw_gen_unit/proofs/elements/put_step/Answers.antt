use Rattle.std.proofs.Common.{[], ◌∷◌}
use Rattle.cw_order.specs.declared.order.Order.TheVariants as order
use Rattle.cw_gen_unit.proofs.elements.put_step.Goals as goal

pub returns : goal.returns
returns c = c.put_values.ensures (order.Jump c.args.turn ∷ []) c.put.new.self c.put.ensures
