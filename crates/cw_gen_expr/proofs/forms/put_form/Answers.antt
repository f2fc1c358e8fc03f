-- Each form by its layer.
use Rattle.std.proofs.Common.{rules, ◌≡◌, ℕ, ℤ, pos, to_z, of_z, w16, ap₂, [], ◌∷◌, ◌++◌, false, sym, ap, ◌∙◌}
use Rattle.cw_unit.specs.declared.unit.Spot.TheVariants as spots
use Rattle.cw_unit.specs.declared.unit.Arg.TheOpen as layer
use Rattle.cw_order.specs.declared.order.Order.TheVariants as order
use Rattle.cw_gen_expr.specs.Pieces.{plain}
use Rattle.cw_gen_expr.specs.KnownValues.{all_inside}
use Rattle.cw_gen_expr.specs.ReferenceExpressions.{row_order, table_orders}
use Rattle.cw_gen_expr.proofs.Adding.{also, by_form}
use Rattle.cw_gen_expr.proofs.forms.put_form.Goals as goal

pub returns-in-Direct : goal.returns-in-Direct
returns-in-Direct c =
    let y = c.args.layout.now in
    let d = c.in-Direct in
    by_form y c.args.compared c.args.line c.args.spot.now (layer.Direct d.i) (d.is ∙ sym (spots.rolls-Direct d.i))
    (also (λ o. plain (o ∷ [])) c.item.ensures c.put.ensures)

pub returns-in-Through : goal.returns-in-Through
returns-in-Through c =
    let y = c.args.layout.now in
    let d = c.in-Through in
    by_form y c.args.compared c.args.line c.args.spot.now (layer.Through d.i) (d.is ∙ sym (spots.rolls-Through d.i))
    (also (λ o. plain (o ∷ order.Load ∷ order.InArea c.args.line ∷ [])) c.item-in-Through.ensures c.put_three.ensures)

pub returns-in-One : goal.returns-in-One
returns-in-One c =
    let y = c.args.layout.now in
    let d = c.in-One in
    let lower : to_z w16 (of_z w16 d.lower) ≡ d.lower = search rules in
    by_form y c.args.compared c.args.line c.args.spot.now (layer.One d.i d.lower d.field-2 d.field-3) (d.is ∙ sym (spots.rolls-One d.i d.lower d.field-2 d.field-3))
    (also (λ n. plain (order.Save ∷ (table_orders y false d.i ++ order.Element d.lower n c.args.line ∷ []))) c.span.ensures
    (also (λ l. plain (order.Save ∷ (table_orders y false d.i ++ order.Element l c.span.result c.args.line ∷ []))) lower c.put_element.ensures))

pub returns-in-Two : goal.returns-in-Two
returns-in-Two c =
    let y = c.args.layout.now in
    let d = c.in-Two in
    let lower : to_z w16 (of_z w16 d.lower) ≡ d.lower = search rules in
    let upper : to_z w16 (of_z w16 d.upper) ≡ d.upper = search rules in
    let second : to_z w16 (of_z w16 d.second) ≡ d.second = search rules in
    let last : to_z w16 (of_z w16 d.last) ≡ d.last = search rules in
    let row = λ (l u m k : ℤ) (n : ℕ). row_order (all_inside c.args.compared n l u m k d.width) l m d.width n c.args.line in
    let same = c.order_of_two-order.ensures ∙ ap₂ (λ l u. row l u (to_z w16 (of_z w16 d.second)) (to_z w16 (of_z w16 d.last)) c.span-in-Two.result) lower upper
    ∙ ap₂ (λ m k. row d.lower d.upper m k c.span-in-Two.result) second last ∙ ap (row d.lower d.upper d.second d.last) c.span-in-Two.ensures in
    by_form y c.args.compared c.args.line c.args.spot.now (layer.Two d.i d.lower d.upper d.second d.last d.width d.field-6 d.field-7) (d.is ∙ sym (spots.rolls-Two d.i d.lower d.upper d.second d.last d.width d.field-6 d.field-7))
    (also (λ o. plain (order.Save ∷ (table_orders y false d.i ++ o ∷ []))) same c.put_element-in-Two.ensures)

pub returns-in-ParamArray : goal.returns-in-ParamArray
returns-in-ParamArray c =
    let y = c.args.layout.now in
    let d = c.in-ParamArray in
    by_form y c.args.compared c.args.line c.args.spot.now (layer.ParamArray d.i d.field-1) (d.is ∙ sym (spots.rolls-ParamArray d.i d.field-1))
    c.put_element-in-ParamArray.ensures

pub returns-in-Word : goal.returns-in-Word
returns-in-Word c =
    let y = c.args.layout.now in
    let d = c.in-Word in
    by_form y c.args.compared c.args.line c.args.spot.now (layer.Word d.i d.parameter d.field-2 d.field-3) (d.is ∙ sym (spots.rolls-Word d.i d.parameter d.field-2 d.field-3))
    (also (λ n. plain (order.Save ∷ (table_orders y d.parameter d.i ++ order.Element (pos 0) n c.args.line ∷ []))) c.span_of_table.ensures c.put_element-in-Word.ensures)

pub returns-in-Elem : goal.returns-in-Elem
returns-in-Elem c =
    let y = c.args.layout.now in
    let d = c.in-Elem in
    by_form y c.args.compared c.args.line c.args.spot.now (layer.Elem d.i d.parameter d.width d.field-3 d.word d.field-5) (d.is ∙ sym (spots.rolls-Elem d.i d.parameter d.width d.field-3 d.word d.field-5))
    (also (λ n. plain (order.Save ∷ (table_orders y d.parameter d.i ++ order.Entry d.width d.word n c.args.line ∷ []))) c.span_of_table-in-Elem.ensures c.put_element-in-Elem.ensures)

pub returns-in-Bare : goal.returns-in-Bare
returns-in-Bare c =
    let y = c.args.layout.now in
    let d = c.in-Bare in
    by_form y c.args.compared c.args.line c.args.spot.now (layer.Bare d.field-0) (d.is ∙ sym (spots.rolls-Bare d.field-0))
    c.put-in-Bare.ensures
