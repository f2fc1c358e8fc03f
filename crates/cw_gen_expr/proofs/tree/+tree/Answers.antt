use Rattle.std.proofs.Common.{rules, ◌≡◌, ◌+◌, pos, ◌-ℤ◌, to_z, of_z, w8, w16, w64, [], ◌∷◌, map, max, true, false, Some, None, refl, sym, ap, ap₂, ◌∙◌}
use Rattle.std.proofs.lemmas.Bool.{false≢true}
use Rattle.std.proofs.lemmas.Int.{to_z-of_z}
use Rattle.cw_word.specs.Word.{unsigned}
use Rattle.cw_order.specs.declared.order.Order.TheVariants as order
use Rattle.cw_unit.specs.declared.unit.Arg.TheVariants as arg
use Rattle.cw_unit.specs.declared.unit.Cond.TheVariants as cond
use Rattle.cw_unit.specs.declared.unit.Expr.TheVariants as expr
use Rattle.cw_unit.specs.declared.unit.Spot.TheVariants as spots
use Rattle.cw_unit.specs.declared.unit.Arg.TheOpen as layer
use Rattle.cw_gen_expr.specs.KnownValues.{of_known, of_both, known_sum, known_difference, known_negative, known_rescaled, known_product, known_quotient, known_logic, known_bits, from_lower, element_word, element_of_two_word, entry_word}
use Rattle.cw_gen_expr.specs.Pieces.{plain, followed_by, sequence, with_end}
use Rattle.cw_gen_expr.specs.Output.{made, shortened}
use Rattle.cw_gen_expr.specs.ReferenceExpressions.{scope_with, at_line, value_of, expression_piece, condition_piece, argument_piece, bounded_piece, pick_mark, number_order, item_order, bounds_orders, item_span, rescale_orders, narrow}
use Rattle.cw_gen_expr.proofs.Making.{known_by, word_by, operand_same}
use Rattle.cw_gen_expr.proofs.Adding.{◌⨟◌, lost, also, also_if, ending, next_comes, last_came, by_layer, by_condition, by_argument, by_indexes, by_value, without_value, by_word, without_word, value_at, operand_at, known_at, known_operand, condition_at, of_read, of_locate, of_place}
use Rattle.cw_gen_expr.proofs.Scales.{natural-is}
use Rattle.cw_gen_expr.proofs.tree.+tree.Goals as goal

pub put_expression-returns-in-Some :
    goal.put_expression-returns-in-Some
put_expression-returns-in-Some t c =
    let s = at_line c.args.line (scope_with c.args.unit.now c.args.layout.now c.args.parameters.now) in
    let word : to_z w16 (of_z w16 c.in-Some.word) ≡ c.in-Some.word = search rules in
    let held = c.retract.ensures.held in
    let one : order.Const c.cast_unsigned.result ≡ number_order (unsigned c.in-Some.word) = search rules in
    record {
      orders = by_value s c.args.e.now c.args.scale c.in-Some.word c.put_computed.result c.put_computed.ensures.orders c.put_computed.ensures.known c.in-Some.is held
          (c.retract.ensures.orders ∙ ap (λ n. shortened n (made c.put_computed.new.out)) c.extent-extent.ensures) (also (λ o. plain (o ∷ [])) one c.put.ensures);
      known = λ h. ap Some word ∙ sym c.in-Some.is ∙ c.put_computed.ensures.known (sym held ∙ c.put.ensures.held h);
    }

pub put_expression-returns-in-None :
    goal.put_expression-returns-in-None
put_expression-returns-in-None t c =
    let s = at_line c.args.line (scope_with c.args.unit.now c.args.layout.now c.args.parameters.now) in
    record {
      orders = without_value s c.args.e.now c.args.scale c.put_computed.result c.put_computed.ensures.orders c.put_computed.ensures.known c.in-None.is;
      known = λ h. sym c.in-None.is ∙ c.put_computed.ensures.known h;
    }

pub put_operand-returns-in-Ok :
    goal.put_operand-returns-in-Ok
put_operand-returns-in-Ok t c =
    let s = at_line c.args.line (scope_with c.args.unit.now c.args.layout.now c.args.parameters.now) in
    let e = c.args.e.now in
    let same = operand_same s e c.in-Ok.scale c.in-Ok.ensures in
    record {
      orders = also (expression_piece s e) same c.put_expression-known.ensures.orders;
      scale = λ h. same;
      known = λ h. c.put_expression-known.ensures.known h ∙ ap (value_of s e).known same;
    }

pub put_operand-returns-in-Err :
    goal.put_operand-returns-in-Err
put_operand-returns-in-Err t c =
    record { orders = lost c.fail.ensures; scale = λ h. absurd (false≢true (sym h ∙ c.fail.ensures)); known = λ h. absurd (false≢true (sym h ∙ c.fail.ensures)) }

pub put_computed-returns-in-Num :
    goal.put_computed-returns-in-Num
put_computed-returns-in-Num t c =
    let s = at_line c.args.line (scope_with c.args.unit.now c.args.layout.now c.args.parameters.now) in
    let d = c.in-Num in
    let e = c.args.e.now in
    let f = c.args.scale in
    let top = layer.Num d.number in
    let is = d.is ∙ sym (expr.rolls-Num d.number) in
    record {
      orders = by_layer s e top f is c.put_number.ensures.orders;
      known = λ h. known_by s e top f c.put_number.result is (c.put_number.ensures.known h);
    }

pub put_computed-returns-in-Const :
    goal.put_computed-returns-in-Const
put_computed-returns-in-Const t c =
    let s = at_line c.args.line (scope_with c.args.unit.now c.args.layout.now c.args.parameters.now) in
    let d = c.in-Const in
    let z : to_z w16 (of_z w16 d.z) ≡ d.z = search rules in
    let one : order.Const c.cast_unsigned.result ≡ number_order (unsigned d.z) = search rules in
    let e = c.args.e.now in
    let f = c.args.scale in
    let top = layer.Const d.z in
    let is = d.is ∙ sym (expr.rolls-Const d.z) in
    record {
      orders = by_layer s e top f is (also (λ o. plain (o ∷ [])) one c.put.ensures ⨟ c.put_rescale.ensures);
      known = λ h. known_by s e top f c.rescaled_to.result is (c.rescaled_to.ensures ∙ ap (known_rescaled 0 f) z);
    }

pub put_computed-returns-in-Text :
    goal.put_computed-returns-in-Text
put_computed-returns-in-Text t c =
    let s = at_line c.args.line (scope_with c.args.unit.now c.args.layout.now c.args.parameters.now) in
    let d = c.in-Text in
    let e = c.args.e.now in
    let f = c.args.scale in
    let top = layer.Text d.i in
    let is = d.is ∙ sym (expr.rolls-Text d.i) in
    record {
      orders = by_layer s e top f is (also (λ o. plain (o ∷ [])) c.item.ensures c.put-in-Text.ensures ⨟ c.put_rescale-in-Text.ensures);
      known = λ h. known_by s e top f None is refl;
    }

pub put_computed-returns-in-Read :
    goal.put_computed-returns-in-Read
put_computed-returns-in-Read t c =
    let s = at_line c.args.line (scope_with c.args.unit.now c.args.layout.now c.args.parameters.now) in
    let d = c.in-Read in
    let e = c.args.e.now in
    let f = c.args.scale in
    let top = layer.Read d.reference in
    let is = d.is ∙ sym (expr.rolls-Read d.reference) in
    record {
      orders = of_read s e d.reference c.get-reference.result.now f is c.get-reference.ensures (c.put_address.ensures ⨟ c.put_load.ensures ⨟ c.put_rescale-in-Read.ensures);
      known = λ h. known_by s e top f None is refl;
    }

pub put_computed-returns-in-Call :
    goal.put_computed-returns-in-Call
put_computed-returns-in-Call t c =
    let s = at_line c.args.line (scope_with c.args.unit.now c.args.layout.now c.args.parameters.now) in
    let d = c.in-Call in
    let e = c.args.e.now in
    let f = c.args.scale in
    let top = layer.Call d.target d.arguments in
    let is = d.is ∙ sym (expr.rolls-Call d.target d.arguments) in
    record {
      orders = by_layer s e top f is
          (also (λ l. sequence (map (argument_piece s) l)) c.as_slice.ensures c.put_arguments.ensures ⨟ c.put_call.ensures
          ⨟ also (λ k. plain (rescale_orders c.args.line k f)) c.answer_scale.ensures c.put_rescale-in-Call.ensures);
      known = λ h. known_by s e top f None is refl;
    }

pub put_computed-returns-in-Force :
    goal.put_computed-returns-in-Force
put_computed-returns-in-Force t c =
    let s = at_line c.args.line (scope_with c.args.unit.now c.args.layout.now c.args.parameters.now) in
    let d = c.in-Force in
    let e = c.args.e.now in
    let f = c.args.scale in
    let top = layer.Force d.forced d.a in
    let is = d.is ∙ sym (expr.rolls-Force d.forced d.a) in
    record {
      orders = by_layer s e top f is (value_at s d.forced c.get.ensures c.put_expression-x.ensures.orders ⨟ c.put_rescale-in-Force.ensures);
      known = λ h. known_by s e top f c.rescaled_to-in-Force.result is
          (c.rescaled_to-in-Force.ensures ∙ ap (of_known (known_rescaled d.forced f)) (known_at s d.forced c.get.ensures (c.put_expression-x.ensures.known (c.put_rescale-in-Force.ensures.held h))));
    }

pub put_computed-returns-in-Locate :
    goal.put_computed-returns-in-Locate
put_computed-returns-in-Locate t c =
    let s = at_line c.args.line (scope_with c.args.unit.now c.args.layout.now c.args.parameters.now) in
    let d = c.in-Locate in
    let e = c.args.e.now in
    let f = c.args.scale in
    let top = layer.Locate d.reference in
    let is = d.is ∙ sym (expr.rolls-Locate d.reference) in
    record {
      orders = of_locate s e d.reference c.get-in-Locate.result.now f is c.get-in-Locate.ensures (c.put_address-in-Locate.ensures ⨟ c.put_rescale-in-Locate.ensures);
      known = λ h. known_by s e top f None is refl;
    }

pub put_computed-returns-in-Bits :
    goal.put_computed-returns-in-Bits
put_computed-returns-in-Bits t c =
    let s = at_line c.args.line (scope_with c.args.unit.now c.args.layout.now c.args.parameters.now) in
    let d = c.in-Bits in
    let e = c.args.e.now in
    let f = c.args.scale in
    let top = layer.Bits d.t d.b d.a in
    let is = d.is ∙ sym (expr.rolls-Bits d.t d.b d.a) in
    let last = c.put-in-Bits.ensures ⨟ c.put_rescale-in-Bits.ensures in
    record {
      orders = by_layer s e top f is (operand_at s c.get-in-Bits.ensures c.put_operand-x.ensures.orders ⨟ last);
      known = λ h. known_by s e top f c.rescaled_to-in-Bits.result is
          (c.rescaled_to-in-Bits.ensures ∙ ap (of_known (known_rescaled 0 f)) (c.bits_of.ensures ∙ ap (of_known (known_bits d.t d.b)) (known_operand s c.get-in-Bits.ensures (c.put_operand-x.ensures.known (last.held h)))));
    }

pub put_computed-returns-in-Logic :
    goal.put_computed-returns-in-Logic
put_computed-returns-in-Logic t c =
    let s = at_line c.args.line (scope_with c.args.unit.now c.args.layout.now c.args.parameters.now) in
    let d = c.in-Logic in
    let e = c.args.e.now in
    let f = c.args.scale in
    let top = layer.Logic d.op d.a d.b in
    let is = d.is ∙ sym (expr.rolls-Logic d.op d.a d.b) in
    let last = also (λ o. plain (o ∷ [])) c.logic.ensures c.put-in-Logic-2.ensures ⨟ c.put_rescale-in-Logic.ensures in
    let rest = c.put-in-Logic.ensures ⨟ operand_at s c.get-in-Logic-2.ensures c.put_operand-y.ensures.orders ⨟ last in
    record {
      orders = by_layer s e top f is (operand_at s c.get-in-Logic.ensures c.put_operand-x-in-Logic.ensures.orders ⨟ rest);
      known = λ h. known_by s e top f c.rescaled_to-in-Logic.result is
          (c.rescaled_to-in-Logic.ensures
          ∙ ap (of_known (known_rescaled 0 f))
          (c.combined.ensures
          ∙ ap₂ (of_both (known_logic d.op)) (known_operand s c.get-in-Logic.ensures (c.put_operand-x-in-Logic.ensures.known (rest.held h))) (known_operand s c.get-in-Logic-2.ensures (c.put_operand-y.ensures.known (last.held h)))));
    }

pub put_computed-returns-in-Sum :
    goal.put_computed-returns-in-Sum
put_computed-returns-in-Sum t c =
    let s = at_line c.args.line (scope_with c.args.unit.now c.args.layout.now c.args.parameters.now) in
    let d = c.in-Sum in
    let e = c.args.e.now in
    let f = c.args.scale in
    let top = layer.Sum d.a d.b in
    let is = d.is ∙ sym (expr.rolls-Sum d.a d.b) in
    let rest = c.put-in-Sum.ensures ⨟ value_at s f c.get-in-Sum-2.ensures c.put_expression-y.ensures.orders ⨟ c.put-in-Sum-2.ensures in
    record {
      orders = by_layer s e top f is (value_at s f c.get-in-Sum.ensures c.put_expression-x-in-Sum.ensures.orders ⨟ rest);
      known = λ h. known_by s e top f c.sum_of.result is
          (c.sum_of.ensures
          ∙ ap₂ (of_both known_sum) (known_at s f c.get-in-Sum.ensures (c.put_expression-x-in-Sum.ensures.known (rest.held h))) (known_at s f c.get-in-Sum-2.ensures (c.put_expression-y.ensures.known (c.put-in-Sum-2.ensures.held h))));
    }

pub put_computed-returns-in-Less :
    goal.put_computed-returns-in-Less
put_computed-returns-in-Less t c =
    let s = at_line c.args.line (scope_with c.args.unit.now c.args.layout.now c.args.parameters.now) in
    let d = c.in-Less in
    let e = c.args.e.now in
    let f = c.args.scale in
    let top = layer.Less d.a d.b in
    let is = d.is ∙ sym (expr.rolls-Less d.a d.b) in
    let rest = c.put-in-Less.ensures ⨟ value_at s f c.get-in-Less-2.ensures c.put_expression-y-in-Less.ensures.orders ⨟ c.put-in-Less-2.ensures in
    record {
      orders = by_layer s e top f is (value_at s f c.get-in-Less.ensures c.put_expression-x-in-Less.ensures.orders ⨟ rest);
      known = λ h. known_by s e top f c.difference_of.result is
          (c.difference_of.ensures
          ∙ ap₂ (of_both known_difference) (known_at s f c.get-in-Less.ensures (c.put_expression-x-in-Less.ensures.known (rest.held h))) (known_at s f c.get-in-Less-2.ensures (c.put_expression-y-in-Less.ensures.known (c.put-in-Less-2.ensures.held h))));
    }

pub put_computed-returns-in-Minus :
    goal.put_computed-returns-in-Minus
put_computed-returns-in-Minus t c =
    let s = at_line c.args.line (scope_with c.args.unit.now c.args.layout.now c.args.parameters.now) in
    let d = c.in-Minus in
    let e = c.args.e.now in
    let f = c.args.scale in
    let top = layer.Minus d.a in
    let is = d.is ∙ sym (expr.rolls-Minus d.a) in
    record {
      orders = by_layer s e top f is (value_at s f c.get-in-Minus.ensures c.put_expression-x-in-Minus.ensures.orders ⨟ c.put-in-Minus.ensures);
      known = λ h. known_by s e top f c.negative_of.result is
          (c.negative_of.ensures ∙ ap (of_known known_negative) (known_at s f c.get-in-Minus.ensures (c.put_expression-x-in-Minus.ensures.known (c.put-in-Minus.ensures.held h))));
    }

pub put_computed-returns-in-Times :
    goal.put_computed-returns-in-Times
put_computed-returns-in-Times t c =
    let s = at_line c.args.line (scope_with c.args.unit.now c.args.layout.now c.args.parameters.now) in
    let d = c.in-Times in
    let number : to_z w8 (of_z w8 c.power_of_product-power.result) ≡ c.power_of_product-power.result = search rules in
    let e = c.args.e.now in
    let f = c.args.scale in
    let top = layer.Times d.a d.b in
    let is = d.is ∙ sym (expr.rolls-Times d.a d.b) in
    let x = c.put_operand-x-in-Times in
    let y = c.put_operand-y-in-Times in
    let last = c.put-in-Times-2.ensures in
    let rest = c.put-in-Times.ensures ⨟ y.ensures.orders ⨟ last in
    let power : c.put-in-Times-2.new.self.failed ≡ false → to_z w8 (of_z w8 c.power_of_product-power.result) ≡ narrow (pos f -ℤ pos ((value_of s d.a).operand + (value_of s d.b).operand)) = λ h. number ∙ c.power_of_product-power.ensures
    ∙ ap₂ (λ i j. narrow (pos f -ℤ pos (i + j))) (x.ensures.scale (rest.held h) ∙ ap (λ v. (value_of s v).operand) c.get-in-Times.ensures) (y.ensures.scale (last.held h) ∙ ap (λ v. (value_of s v).operand) c.get-in-Times-2.ensures) in
    record {
      orders = by_layer s e top f is (operand_at s c.get-in-Times.ensures x.ensures.orders ⨟ c.put-in-Times.ensures ⨟ operand_at s c.get-in-Times-2.ensures y.ensures.orders ⨟ also_if c.put-in-Times-2.new.self (λ n. plain (order.Mul n c.args.line ∷ [])) power last);
      known = λ h. known_by s e top f c.product_of.result is
          (c.product_of.ensures ∙ ap (λ n. of_both (known_product n) x.result.known y.result.known) (power h)
          ∙ ap₂ (of_both (known_product (narrow (pos f -ℤ pos ((value_of s d.a).operand + (value_of s d.b).operand))))) (known_operand s c.get-in-Times.ensures (x.ensures.known (rest.held h))) (known_operand s c.get-in-Times-2.ensures (y.ensures.known (last.held h))));
    }

pub put_computed-returns-in-Over :
    goal.put_computed-returns-in-Over
put_computed-returns-in-Over t c =
    let s = at_line c.args.line (scope_with c.args.unit.now c.args.layout.now c.args.parameters.now) in
    let d = c.in-Over in
    let number : to_z w8 (of_z w8 c.power_of_quotient-power.result) ≡ c.power_of_quotient-power.result = search rules in
    let e = c.args.e.now in
    let f = c.args.scale in
    let top = layer.Over d.a d.b in
    let is = d.is ∙ sym (expr.rolls-Over d.a d.b) in
    let x = c.put_operand-x-in-Over in
    let y = c.put_operand-y-in-Over in
    let last = c.put-in-Over-2.ensures in
    let rest = c.put-in-Over.ensures ⨟ y.ensures.orders ⨟ last in
    let power : c.put-in-Over-2.new.self.failed ≡ false → to_z w8 (of_z w8 c.power_of_quotient-power.result) ≡ narrow (pos (f + (value_of s d.b).operand) -ℤ pos (value_of s d.a).operand) = λ h. number ∙ c.power_of_quotient-power.ensures
    ∙ ap₂ (λ i j. narrow (pos (f + j) -ℤ pos i)) (x.ensures.scale (rest.held h) ∙ ap (λ v. (value_of s v).operand) c.get-in-Over.ensures) (y.ensures.scale (last.held h) ∙ ap (λ v. (value_of s v).operand) c.get-in-Over-2.ensures) in
    record {
      orders = by_layer s e top f is (operand_at s c.get-in-Over.ensures x.ensures.orders ⨟ c.put-in-Over.ensures ⨟ operand_at s c.get-in-Over-2.ensures y.ensures.orders ⨟ also_if c.put-in-Over-2.new.self (λ n. plain (order.Div n c.args.line ∷ [])) power last);
      known = λ h. known_by s e top f c.quotient_of.result is
          (c.quotient_of.ensures ∙ ap (λ n. of_both (known_quotient n) x.result.known y.result.known) (power h)
          ∙ ap₂ (of_both (known_quotient (narrow (pos (f + (value_of s d.b).operand) -ℤ pos (value_of s d.a).operand)))) (known_operand s c.get-in-Over.ensures (x.ensures.known (rest.held h))) (known_operand s c.get-in-Over-2.ensures (y.ensures.known (last.held h))));
    }

pub put_computed-returns-in-Choice :
    goal.put_computed-returns-in-Choice
put_computed-returns-in-Choice t c =
    let s = at_line c.args.line (scope_with c.args.unit.now c.args.layout.now c.args.parameters.now) in
    let d = c.in-Choice in
    let e = c.args.e.now in
    let f = c.args.scale in
    let top = layer.Choice d.condition d.a d.b in
    let is = d.is ∙ sym (expr.rolls-Choice d.condition d.a d.b) in
    let end = c.reserve-end.result in
    let other = c.reserve-other.result in
    let tested = condition_at s false c.get-in-Choice.ensures refl c.put_condition.ensures in
    let chosen = value_at s f c.get-in-Choice-2.ensures c.put_expression.ensures.orders ⨟ c.put-in-Choice.ensures in
    let second = value_at s f c.get-in-Choice-3.ensures c.put_expression-in-Choice.ensures.orders in
    let first = ending (λ m. followed_by (condition_piece s d.condition false m) (followed_by (expression_piece s d.a f) (plain (order.Jump end ∷ [])))) c.reserve-other.ensures (tested ⨟ chosen) c.put_mark.ensures in
    record {
      orders = by_layer s e top f is
          (ending (λ end. followed_by (with_end (λ m. followed_by (condition_piece s d.condition false m) (followed_by (expression_piece s d.a f) (plain (order.Jump end ∷ []))))) (expression_piece s d.b f)) c.reserve-end.ensures (first ⨟ second) c.put_mark-in-Choice.ensures);
      known = λ h. known_by s e top f None is refl;
    }

pub put_condition-returns-in-Cmp :
    goal.put_condition-returns-in-Cmp
put_condition-returns-in-Cmp t c =
    let s = at_line c.args.line (scope_with c.args.unit.now c.args.layout.now c.args.parameters.now) in
    let d = c.in-Cmp in
    let same = c.max-f.ensures ∙ ap₂ max (c.natural_scale.ensures ∙ sym (natural-is s d.a)) (c.natural_scale-in-Cmp.ensures ∙ sym (natural-is s d.b)) in
    by_condition s c.args.condition.now (layer.Cmp d.op d.a d.b) c.args.when c.args.mark (d.is ∙ sym (cond.rolls-Cmp d.op d.a d.b))
    (also (expression_piece s d.a) same c.put_expression.ensures.orders ⨟ c.put.ensures ⨟ also (expression_piece s d.b) same c.put_expression-in-Cmp.ensures.orders
    ⨟ also (λ k. plain (order.JumpIf k c.args.mark ∷ [])) c.comparator.ensures c.put-in-Cmp.ensures)

pub put_condition-returns-in-And :
    goal.put_condition-returns-in-And
put_condition-returns-in-And t c =
    let s = at_line c.args.line (scope_with c.args.unit.now c.args.layout.now c.args.parameters.now) in
    let d = c.in-And in
    let mark = c.args.mark in
    let when = c.args.when in
    let second = condition_at s when c.get-in-And.ensures refl c.put_condition-in-And.ensures in
    by_condition s c.args.condition.now (layer.And d.first d.second) when mark (d.is ∙ sym (cond.rolls-And d.first d.second))
    (ending (λ e. followed_by (condition_piece s d.first false (pick_mark when e mark)) (condition_piece s d.second when mark)) c.reserve-end.ensures (condition_at s false c.get.ensures c.pick.ensures c.put_condition.ensures ⨟ second) c.put_mark.ensures)

pub put_condition-returns-in-Or :
    goal.put_condition-returns-in-Or
put_condition-returns-in-Or t c =
    let s = at_line c.args.line (scope_with c.args.unit.now c.args.layout.now c.args.parameters.now) in
    let d = c.in-Or in
    let mark = c.args.mark in
    let when = c.args.when in
    let second = condition_at s when c.get-in-Or-2.ensures refl c.put_condition-in-Or-2.ensures in
    by_condition s c.args.condition.now (layer.Or d.first d.second) when mark (d.is ∙ sym (cond.rolls-Or d.first d.second))
    (ending (λ e. followed_by (condition_piece s d.first true (pick_mark when mark e)) (condition_piece s d.second when mark)) c.reserve-end-in-Or.ensures (condition_at s true c.get-in-Or.ensures c.pick-in-Or.ensures c.put_condition-in-Or.ensures ⨟ second) c.put_mark-in-Or.ensures)

pub put_address-returns-in-Some :
    goal.put_address-returns-in-Some
put_address-returns-in-Some t c =
    let s = at_line c.args.line (scope_with c.args.unit.now c.args.layout.now c.args.parameters.now) in
    by_word s c.args.spot.now c.item_of.result c.in-Some.word c.put_indexes.result c.put_indexes.ensures.orders c.put_indexes.ensures.known c.in-Some.is (c.item_of.ensures s) c.retract.ensures.held
    (c.retract.ensures.orders ∙ ap (λ n. shortened n (made c.put_indexes.new.out)) c.extent-extent.ensures) (also (λ o. plain (o ∷ [])) c.item.ensures c.put.ensures)

pub put_address-returns-in-None :
    goal.put_address-returns-in-None
put_address-returns-in-None t c =
    let s = at_line c.args.line (scope_with c.args.unit.now c.args.layout.now c.args.parameters.now) in
    without_word s c.args.spot.now c.put_indexes.result c.put_indexes.ensures.orders c.put_indexes.ensures.known c.in-None.is c.put_form.ensures

pub put_index-returns :
    goal.put_index-returns
put_index-returns t c =
    let s = at_line c.args.line (scope_with c.args.unit.now c.args.layout.now c.args.parameters.now) in
    let lower = to_z-of_z w16 c.args.lower c.ranges.lower in
    let upper = to_z-of_z w64 c.args.upper c.ranges.upper in
    let bounds = also (λ u. plain (bounds_orders s.unit.bounds s.line c.args.lower u)) upper
    (also (λ l. plain (bounds_orders s.unit.bounds s.line l (to_z w64 (of_z w64 c.args.upper)))) lower c.put_bounds.ensures) in
    record {
      orders = c.put_expression-index.ensures.orders ⨟ bounds;
      known = λ h.
          c.above.ensures ∙ ap₂ (λ l u. from_lower s.unit.bounds l u c.put_expression-index.result) lower upper
          ∙ ap (from_lower s.unit.bounds c.args.lower c.args.upper) (c.put_expression-index.ensures.known (c.put_bounds.ensures.held h));
    }

pub put_indexes-returns-in-One :
    goal.put_indexes-returns-in-One
put_indexes-returns-in-One t c =
    let s = at_line c.args.line (scope_with c.args.unit.now c.args.layout.now c.args.parameters.now) in
    let d = c.in-One in
    let lower : to_z w16 (of_z w16 d.lower) ≡ d.lower = search rules in
    let upper : to_z w64 (of_z w64 c.from-upper.result) ≡ d.upper = search rules in
    let top = layer.One d.i d.lower d.upper d.e in
    let is = d.is ∙ sym (spots.rolls-One d.i d.lower d.upper d.e) in
    record {
      orders = by_indexes s c.args.spot.now top is (also (bounded_piece s (value_of s d.e) d.lower) upper (also (λ l. bounded_piece s (value_of s d.e) l (to_z w64 (of_z w64 c.from-upper.result))) lower c.put_index-index.ensures.orders));
      known = λ h. word_by s c.args.spot.now top c.word_of_element.result is (c.word_of_element.ensures ∙ ap₂ element_word c.span.ensures (c.put_index-index.ensures.known h ∙ ap₂ (λ l u. from_lower s.unit.bounds l u ((value_of s d.e).known 0)) lower upper));
    }

pub put_indexes-returns-in-Two :
    goal.put_indexes-returns-in-Two
put_indexes-returns-in-Two t c =
    let s = at_line c.args.line (scope_with c.args.unit.now c.args.layout.now c.args.parameters.now) in
    let d = c.in-Two in
    let lower : to_z w16 (of_z w16 d.l1) ≡ d.l1 = search rules in
    let upper : to_z w64 (of_z w64 c.from-u1.result) ≡ d.u1 = search rules in
    let second : to_z w16 (of_z w16 d.l2) ≡ d.l2 = search rules in
    let last : to_z w64 (of_z w64 c.from-u2.result) ≡ d.u2 = search rules in
    let p = value_of s d.a in
    let q = value_of s d.b in
    let rest = c.put.ensures ⨟ c.put_index-column.ensures.orders in
    let top = layer.Two d.i d.l1 d.u1 d.l2 d.u2 d.width d.a d.b in
    let is = d.is ∙ sym (spots.rolls-Two d.i d.l1 d.u1 d.l2 d.u2 d.width d.a d.b) in
    record {
      orders = by_indexes s c.args.spot.now top is (
          also (bounded_piece s p d.l1) upper (also (λ l. bounded_piece s p l (to_z w64 (of_z w64 c.from-u1.result))) lower c.put_index-row.ensures.orders) ⨟ c.put.ensures
          ⨟ also (bounded_piece s q d.l2) last (also (λ l. bounded_piece s q l (to_z w64 (of_z w64 c.from-u2.result))) second c.put_index-column.ensures.orders));
      known = λ h. word_by s c.args.spot.now top c.word_of_two.result is
          (c.word_of_two.ensures ∙ ap (λ n. element_of_two_word n d.width c.put_index-row.result c.put_index-column.result) c.span-in-Two.ensures
          ∙ ap₂ (element_of_two_word (item_span s.layout d.i) d.width) (c.put_index-row.ensures.known (rest.held h) ∙ ap₂ (λ l u. from_lower s.unit.bounds l u (p.known 0)) lower upper)
          (c.put_index-column.ensures.known h ∙ ap₂ (λ l u. from_lower s.unit.bounds l u (q.known 0)) second last));
    }

pub put_indexes-returns-in-Word :
    goal.put_indexes-returns-in-Word
put_indexes-returns-in-Word t c =
    let s = at_line c.args.line (scope_with c.args.unit.now c.args.layout.now c.args.parameters.now) in
    let d = c.in-Word in
    let fits : to_z w64 (of_z w64 c.last_of-last.result) ≡ c.last_of-last.result = search rules in
    let last = fits ∙ c.last_of-last.ensures in
    let top = layer.Word d.i d.parameter d.words d.e in
    let is = d.is ∙ sym (spots.rolls-Word d.i d.parameter d.words d.e) in
    record {
      orders = by_indexes s c.args.spot.now top is (also (bounded_piece s (value_of s d.e) (pos 0)) last c.put_index-index-in-Word.ensures.orders);
      known = λ h. word_by s c.args.spot.now top c.word_of_element-in-Word.result is
          (c.word_of_element-in-Word.ensures ∙ ap₂ element_word c.span_of_table.ensures (c.put_index-index-in-Word.ensures.known h ∙ ap (λ u. from_lower s.unit.bounds (pos 0) u ((value_of s d.e).known 0)) last));
    }

pub put_indexes-returns-in-Elem :
    goal.put_indexes-returns-in-Elem
put_indexes-returns-in-Elem t c =
    let s = at_line c.args.line (scope_with c.args.unit.now c.args.layout.now c.args.parameters.now) in
    let d = c.in-Elem in
    let fits : to_z w64 (of_z w64 c.last_of-last-in-Elem.result) ≡ c.last_of-last-in-Elem.result = search rules in
    let last = fits ∙ c.last_of-last-in-Elem.ensures ∙ ap (λ n. pos n -ℤ pos 1) c.from-count.ensures in
    let top = layer.Elem d.i d.parameter d.width d.entries d.word d.e in
    let is = d.is ∙ sym (spots.rolls-Elem d.i d.parameter d.width d.entries d.word d.e) in
    record {
      orders = by_indexes s c.args.spot.now top is (also (bounded_piece s (value_of s d.e) (pos 0)) last c.put_index-entry.ensures.orders);
      known = λ h. word_by s c.args.spot.now top c.word_of_entry.result is
          (c.word_of_entry.ensures ∙ ap₂ (λ n k. entry_word n d.width d.word k) c.span_of_table-span.ensures (c.put_index-entry.ensures.known h ∙ ap (λ u. from_lower s.unit.bounds (pos 0) u ((value_of s d.e).known 0)) last));
    }

pub put_argument-returns-in-Value :
    goal.put_argument-returns-in-Value
put_argument-returns-in-Value t c =
    let s = at_line c.args.line (scope_with c.args.unit.now c.args.layout.now c.args.parameters.now) in
    let d = c.in-Value in
    by_argument s c.args.argument.now (layer.Value d.e d.scale) (d.is ∙ sym (arg.rolls-Value d.e d.scale)) (c.put_expression.ensures.orders ⨟ c.put.ensures)

pub put_argument-returns-in-Place :
    goal.put_argument-returns-in-Place
put_argument-returns-in-Place t c =
    let s = at_line c.args.line (scope_with c.args.unit.now c.args.layout.now c.args.parameters.now) in
    let d = c.in-Place in
    of_place s c.args.argument.now d.reference (d.is ∙ sym (arg.rolls-Place d.reference)) (c.put_address.ensures ⨟ c.put-in-Place.ensures)

pub put_argument-returns-in-Array :
    goal.put_argument-returns-in-Array
put_argument-returns-in-Array t c =
    let s = at_line c.args.line (scope_with c.args.unit.now c.args.layout.now c.args.parameters.now) in
    let d = c.in-Array in
    let lower : to_z w16 (of_z w16 d.lower) ≡ d.lower = search rules in
    by_argument s c.args.argument.now (layer.Array d.i d.lower) (d.is ∙ sym (arg.rolls-Array d.i d.lower))
    (also (λ l. plain (item_order s.layout d.i 0 ∷ order.IndexLess l c.args.line ∷ order.Save ∷ [])) lower
    (also (λ o. plain (o ∷ order.IndexLess (to_z w16 (of_z w16 d.lower)) c.args.line ∷ order.Save ∷ [])) c.item.ensures c.put_three.ensures))

pub put_argument-returns-in-Same :
    goal.put_argument-returns-in-Same
put_argument-returns-in-Same t c =
    let s = at_line c.args.line (scope_with c.args.unit.now c.args.layout.now c.args.parameters.now) in
    let d = c.in-Same in
    by_argument s c.args.argument.now (layer.Same d.i) (d.is ∙ sym (arg.rolls-Same d.i)) (also (λ o. plain (o ∷ order.Load ∷ order.Save ∷ [])) c.item-in-Same.ensures c.put_three-in-Same.ensures)

pub put_argument-returns-in-Base :
    goal.put_argument-returns-in-Base
put_argument-returns-in-Base t c =
    let s = at_line c.args.line (scope_with c.args.unit.now c.args.layout.now c.args.parameters.now) in
    let d = c.in-Base in
    by_argument s c.args.argument.now (layer.Base d.i) (d.is ∙ sym (arg.rolls-Base d.i)) (also (λ o. plain (o ∷ order.Save ∷ [])) c.item-in-Base.ensures c.put_two.ensures)

pub put_argument-returns-in-Goal :
    goal.put_argument-returns-in-Goal
put_argument-returns-in-Goal t c =
    let s = at_line c.args.line (scope_with c.args.unit.now c.args.layout.now c.args.parameters.now) in
    let d = c.in-Goal in
    by_argument s c.args.argument.now (layer.Goal d.goal) (d.is ∙ sym (arg.rolls-Goal d.goal)) (also (λ o. plain (o ∷ [])) (c.label_out.ensures s) c.put-in-Goal.ensures)

pub put_argument-returns-in-Ok :
    goal.put_argument-returns-in-Ok
put_argument-returns-in-Ok t c =
    let s = at_line c.args.line (scope_with c.args.unit.now c.args.layout.now c.args.parameters.now) in
    let d = c.in-Special in
    by_argument s c.args.argument.now (layer.Special d.control) (d.is ∙ sym (arg.rolls-Special d.control)) (also (λ k. plain (order.SpecialOut k ∷ [])) c.in-Ok.ensures c.put-in-Ok.ensures)

pub put_argument-returns-in-Switch :
    goal.put_argument-returns-in-Switch
put_argument-returns-in-Switch t c =
    let s = at_line c.args.line (scope_with c.args.unit.now c.args.layout.now c.args.parameters.now) in
    let d = c.in-Switch in
    by_argument s c.args.argument.now (layer.Switch d.switch) (d.is ∙ sym (arg.rolls-Switch d.switch)) c.put-in-Switch.ensures

pub put_argument-returns-in-CommonSwitch :
    goal.put_argument-returns-in-CommonSwitch
put_argument-returns-in-CommonSwitch t c =
    let s = at_line c.args.line (scope_with c.args.unit.now c.args.layout.now c.args.parameters.now) in
    let d = c.in-CommonSwitch in
    by_argument s c.args.argument.now (layer.CommonSwitch d.descriptor) (d.is ∙ sym (arg.rolls-CommonSwitch d.descriptor)) c.put-in-CommonSwitch.ensures

pub put_argument-returns-in-Proc :
    goal.put_argument-returns-in-Proc
put_argument-returns-in-Proc t c =
    let s = at_line c.args.line (scope_with c.args.unit.now c.args.layout.now c.args.parameters.now) in
    let d = c.in-Proc in
    by_argument s c.args.argument.now (layer.Proc d.procedure) (d.is ∙ sym (arg.rolls-Proc d.procedure)) c.put-in-Proc.ensures

pub put_argument-returns-in-CommonProc :
    goal.put_argument-returns-in-CommonProc
put_argument-returns-in-CommonProc t c =
    let s = at_line c.args.line (scope_with c.args.unit.now c.args.layout.now c.args.parameters.now) in
    let d = c.in-CommonProc in
    by_argument s c.args.argument.now (layer.CommonProc d.descriptor) (d.is ∙ sym (arg.rolls-CommonProc d.descriptor)) c.put-in-CommonProc.ensures

pub put_arguments-loop-argument-init :
    goal.put_arguments-loop-argument-init
put_arguments-loop-argument-init t c = record { come = λ z rest. rest }

pub put_arguments-loop-argument-preserved :
    goal.put_arguments-loop-argument-preserved
put_arguments-loop-argument-preserved t c =
    let s = at_line c.args.line (scope_with c.args.unit.now c.args.layout.now c.args.parameters.now) in
    let l = c.loop-argument in
    next_comes (argument_piece s) c.args.arguments.now (sequence (map (argument_piece s) c.args.arguments.now)) l.argument-index c.argument-item.result c.loop-argument-test.true c.argument-item.is l.invariant c.put_argument.ensures

pub put_arguments-returns :
    goal.put_arguments-returns
put_arguments-returns t c =
    let s = at_line c.args.line (scope_with c.args.unit.now c.args.layout.now c.args.parameters.now) in
    last_came (argument_piece s) c.args.arguments.now (sequence (map (argument_piece s) c.args.arguments.now)) c.loop-argument.argument-index c.loop-argument-test.false c.loop-argument.invariant
