use Rattle.std.proofs.Common.{[], ◌∷◌}
use Rattle.cw_order.specs.declared.order.Order.TheVariants as order
use Rattle.cw_gen_expr.specs.Pieces.{plain}
use Rattle.cw_gen_expr.proofs.Adding.{also}
use Rattle.cw_gen_unit.proofs.loops.put_set.Goals as goal

pub returns : goal.returns
returns c = also (λ o. plain (order.Save ∷ o ∷ order.SetVariable c.args.line ∷ [])) c.item.ensures c.put_three.ensures
