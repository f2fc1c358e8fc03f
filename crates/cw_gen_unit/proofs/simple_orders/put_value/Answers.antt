use Rattle.std.proofs.Common.{rules, ◌≡◌, [], ◌∷◌, to_z, of_z, w16, sym}
use Rattle.cw_word.specs.Word.{unsigned}
use Rattle.cw_order.specs.declared.order.Order.TheVariants as order
use Rattle.cw_gen_expr.specs.Pieces.{plain}
use Rattle.cw_gen_expr.specs.ReferenceExpressions.{number_order}
use Rattle.cw_gen_expr.proofs.Adding.{also}
use Rattle.cw_gen_unit.specs.ReferenceStatements.{value_orders}
use Rattle.cw_gen_unit.proofs.simple_orders.put_value.Goals as goal

pub returns-in-Number : goal.returns-in-Number
returns-in-Number c =
    let d = c.in-Number in
    let word : to_z w16 (of_z w16 d.word) ≡ d.word = search rules in
    also (λ v. plain (value_orders c.args.layout.now v)) (sym d.is) (also (λ z. plain (number_order (unsigned z) ∷ [])) word c.put_word.ensures)

pub returns-in-Item : goal.returns-in-Item
returns-in-Item c = also (λ v. plain (value_orders c.args.layout.now v)) (sym c.in-Item.is) (also (λ o. plain (o ∷ order.Load ∷ [])) c.item.ensures c.put_two.ensures)
