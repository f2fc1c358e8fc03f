use Rattle.std.proofs.Common.{[], ◌∷◌}
use Rattle.cw_order.specs.declared.order.Order.TheVariants as order
use Rattle.cw_gen_expr.specs.Pieces.{plain}
use Rattle.cw_gen_expr.proofs.Adding.{also}
use Rattle.cw_gen_unit.proofs.loops.put_bump.Goals as goal

pub returns : goal.returns
returns c = also (λ o. plain (o ∷ order.AddStep c.args.line ∷ [])) c.item.ensures c.put_two.ensures
