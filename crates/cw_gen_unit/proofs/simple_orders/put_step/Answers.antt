use Rattle.std.proofs.Common.{rules, ◌≡◌, [], ◌∷◌, to_z, of_z, w16}
use Rattle.cw_word.specs.Word.{unsigned}
use Rattle.cw_gen_expr.specs.Pieces.{plain}
use Rattle.cw_gen_expr.specs.ReferenceExpressions.{number_order}
use Rattle.cw_gen_expr.proofs.Adding.{also}
use Rattle.cw_gen_unit.proofs.simple_orders.put_step.Goals as goal

pub returns : goal.returns
returns c =
    let step : to_z w16 (of_z w16 c.args.x.step) ≡ c.args.x.step = search rules in
    also (λ z. plain (number_order (unsigned z) ∷ [])) step c.put_word.ensures
