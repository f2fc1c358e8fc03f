-- What is known before a run is what comes of it: an expression of a known value is evaluated to it, and a reference whose word is known
-- comes to its address, by steps of the source that show nothing new; one order puts the same.
use Rattle.std.proofs.Common.{◌≡◌, inl, inr, ℕ, zero, suc, ◌+◌, ◌*◌, ◌%◌, ◌<◌, ◌≤◌, ℤ, pos, ◌-ℤ◌, [], ◌∷◌, Bool, true, false, Option, Some, None, refl, sym, ap, ◌∙◌, subst, arith}
use Rattle.std.specs.Prelude.{nat_le, IsTrue, ◌&&◌}
use Rattle.std.proofs.lemmas.Option.{none-some, same_Some}
use Rattle.cw_word.specs.Decimal.{decimal_floor}
use Rattle.std.proofs.lemmas.Int.{ints}
use Rattle.cw_word.specs.FixedPoint.{fits_word}
use Rattle.cw_word.specs.Word.{signed, unsigned}
use Rattle.cw_track.proofs.Watching.{only_step, step_then, silent_ways}
use Rattle.cw_unit.specs.declared.unit.Arg.{Arg}
use Rattle.cw_unit.specs.declared.unit.Cond.{Cond}
use Rattle.cw_unit.specs.declared.unit.Expr.{Expr, Expr-F, out-Expr}
use Rattle.cw_unit.specs.declared.unit.Spot.{Spot, out-Spot}
use Rattle.cw_unit.specs.declared.unit.Ref.{Ref, out-Ref}
use Rattle.cw_unit.specs.declared.unit.Arg.TheOpen as layer
use Rattle.cw_unit.specs.declared.unit.Arg.TheOpen.{Spot-F}
use Rattle.cw_unit.specs.Scales.{operand_scale}
use Rattle.cw_unit.specs.Stop.{Running}
use Rattle.cw_unit.specs.Words.{Words, Changed, put}
use Rattle.cw_unit.specs.Operation.{Operation, Rescale, Add, Subtract, Negate, Multiply, Divide, Combine, Extract, InBounds, perform, form_address}
use Rattle.cw_unit.specs.Work.{Work, Eval, Address, FormAt, Do, index_work}
use Rattle.cw_unit.specs.Configuration.{address_at}
use Rattle.cw_unit.specs.Begun.{begins}
use Rattle.cw_unit.specs.Step.{after as source_after, addressing_of}
use Rattle.cw_gen_expr.specs.KnownValues.{known_rescaled, known_bits, known_logic, known_sum, known_difference, known_negative, known_product, known_quotient, in_bounds, from_lower, word_inside, of_index}
use Rattle.cw_gen_expr.specs.ReferenceExpressions.{Scope, at_line, narrow, number_order, item_order, item_span, table_span, value_of, known_or, named_or, expression_piece, reference_of}
use Rattle.cw_gen_expr.specs.BuiltExpressions.{whole, most_levels, built_reference, is_expression}
use Rattle.cw_gen_expr.proofs.Layers.{value-made, computed_layer, known_layer, word_item, word_layer, indexed_layer, spot-made, reference-made, built_value_layer, value-built, built_spot_layer, expression_size, expression_size_layer, expression-size}
use Rattle.cw_gen_expr.proofs.Scales.{operand-is}
use Rattle.cw_order.specs.OrderCosts.{weight_of}
use Rattle.cw_safety.proofs.Truth.{both}
use Rattle.cw_carry.proofs.Expressions.Standing.{Made}
use Rattle.cw_carry.proofs.Expressions.Operations.{then_changed}
use Rattle.cw_carry.proofs.Expressions.Carried.{Via}
use Rattle.cw_carry.proofs.Expressions.Stepping.{Compiled, A, source}
use Rattle.cw_carry.proofs.Expressions.Moments.{IsLight, light_order, Moment, scope, layout, has_words, code, marks, At, Leads_to, Comes, Goes, config, Facts, leaps_by, item_light, item_silent, item_loads, item_tells}
use Rattle.cw_carry.proofs.Expressions.Addresses.{built_spot, address_follows, addresses}
use Rattle.cw_carry.proofs.Expressions.Values.{number-is, constant-is, narrowed, at_most, built_of, wide, operand_built, scale_small, evaluates, evaluation_follows}
use Rattle.cw_carry.proofs.Expressions.Results.{of_one, of_two, sum_fits, difference_fits, negative_fits, rescaled_fits, product_fits, quotient_fits, sum_put, difference_put, negative_put, rescaled_put, product_put, quotient_put, combined_put, bits_put, compared_put, from_above, of_count, inside_is, element_found, entry_found, element_of_two_found}

module _ (c : Compiled) (t : Moment c) where
  -- ---- ways of the source

  pub then_come : (a b k : Work) (w v x : Words) → v.output ≡ w.output → Comes c t a b w v → Comes c t b k v x → Comes c t a k w x
  then_come a b k w v x same way behind = silent_ways (A c) begins way (ap (λ o. record { output = o; end = Running }) same) behind

  module _ (line : ℕ) where
    abbrev sc : Scope
    sc = at_line line (scope c t)

    pub done : (op : Operation) (k : Work) (w v : Words) → perform c.limits.area op w ≡ Changed v → Comes c t (Do op line k) k w v
    done op k w v e = only_step (ap (λ o. source_after o t.segment line (Do op line k) k t.acts w) e) refl

    -- ---- values

    -- an expression of a known value comes to it
    abbrev Evaluated : Expr → ℕ → Type 0
    Evaluated e f = (levels : ℕ) (k : Work) (w : Words) (z : ℤ) → IsTrue (nat_le f 15) → IsTrue ((built_of c t e).at f levels) → (value_of sc e).known f ≡ Some z → Comes c t (Eval e f line k) k w (put z w)

    module _ (n : ℕ) (below : (d : Expr) → expression_size d < n → (g : ℕ) → Evaluated d g) where
      value : (e : Expr) (f : ℕ) (k : Work) (w : Words) (z : ℤ) → expression_size e < n → IsTrue (whole (built_of c t e) f) → (value_of sc e).known f ≡ Some z → Comes c t (Eval e f line k) k w (put z w)
      value e f k w z lt b known = let bs = both (nat_le f 15) ((built_of c t e).at f most_levels) b in below e lt f most_levels k w z bs.0 bs.1 known

      -- one value and an operation, and two
      one_comes : (a : Expr) (g : ℕ) (op : Operation) (k : Work) (w : Words) (x z : ℤ) → expression_size a < n → IsTrue (whole (built_of c t a) g) → (value_of sc a).known g ≡ Some x → perform c.limits.area op (put x w) ≡ Changed (put z w)
          → Comes c t (Eval a g line (Do op line k)) k w (put z w)
      one_comes a g op k w x z lt b known e =
          then_come (Eval a g line (Do op line k)) (Do op line k) k w (put x w) (put z w) refl (value a g (Do op line k) w x lt b known) (done op k (put x w) (put z w) e)

      two_come : (a b : Expr) (g h : ℕ) (op : Operation) (k : Work) (w : Words) (x y z : ℤ) → expression_size a < n → expression_size b < n → IsTrue (whole (built_of c t a) g) → IsTrue (whole (built_of c t b) h)
          → (value_of sc a).known g ≡ Some x → (value_of sc b).known h ≡ Some y → perform c.limits.area op (put y (put x w)) ≡ Changed (put z w) → Comes c t (Eval a g line (Eval b h line (Do op line k))) k w (put z w)
      two_come a b g h op k w x y z la lb ba bb ka kb e =
          let behind = Eval b h line (Do op line k) in
          then_come (Eval a g line behind) behind k w (put x w) (put z w) refl (value a g behind w x la ba ka)
          (then_come behind (Do op line k) k (put x w) (put y (put x w)) (put z w) refl (value b h (Do op line k) (put x w) y lb bb kb) (done op k (put y (put x w)) (put z w) e))

      -- at the scale of an operand
      operand : (a : Expr) (x : ℤ) → (value_of sc a).known (value_of sc a).operand ≡ Some x → (value_of sc a).known (operand_scale t.unit a) ≡ Some x
      operand a x e = subst (λ g. (value_of sc a).known g ≡ Some x) (operand-is sc a) e

      both_operands : (a b : Expr) → IsTrue (whole (built_of c t a) (built_of c t a).operand && whole (built_of c t b) (built_of c t b).operand)
          → IsTrue (whole (built_of c t a) (operand_scale t.unit a)) × IsTrue (whole (built_of c t b) (operand_scale t.unit b))
      both_operands a b built =
          let bs = both (whole (built_of c t a) (built_of c t a).operand) (whole (built_of c t b) (built_of c t b).operand) built in
          (operand_built c t a bs.0, operand_built c t b bs.1)

      computed : (e : Expr) (x : Expr-F Arg Cond Expr Spot Ref) (f levels : ℕ) (k : Work) (w : Words) (z : ℤ) → out-Expr e ≡ x → expression_size_layer x ≤ n → IsTrue (nat_le f 15) → IsTrue ((built_value_layer t.unit (has_words c t) x).at f levels)
          → known_layer sc x f ≡ Some z → Comes c t (Eval e f line k) k w (put z w)
      computed e (layer.Num m) f levels k w z is le small b known =
          let v = decimal_floor m.whole m.digits m.places f in
          let same : pos v ≡ z = sym (number-is v b) ∙ same_Some (signed (v % 65536)) z known in
          only_step (evaluates c t e (layer.Num m) f line k w is ∙ ap (λ y. config c t k (put y w)) same) refl
      computed e (layer.Const y) f levels k w z is le small b known =
          step_then (evaluates c t e (layer.Const y) f line k w is) refl refl (done (Rescale 0 f) k (put y w) (put z w) (rescaled_put c.limits.area w 0 f y z known))
      computed e (layer.Force g a) f levels k w z is le small b known =
          let x = of_one (known_rescaled g f) ((value_of sc a).known g) z known in
          step_then (evaluates c t e (layer.Force g a) f line k w is) refl refl
          (one_comes a g (Rescale g f) k w x.0 z (let lt : expression_size a < n = omega (arith, le) in lt) b x.1 (rescaled_put c.limits.area w g f x.0 z x.2))
      computed e (layer.Bits d b' a) f levels k w z is le small b known =
          let y = of_one (known_rescaled 0 f) _ z known in
          let x = of_one (known_bits d b') ((value_of sc a).known (value_of sc a).operand) y.0 y.1 in
          let g = operand_scale t.unit a in
          let behind = Do (Rescale 0 f) line k in
          step_then (evaluates c t e (layer.Bits d b' a) f line k w is) refl refl
          (then_come (Eval a g line (Do (Extract d b') line behind)) behind k w (put y.0 w) (put z w) refl
          (one_comes a g (Extract d b') behind w x.0 y.0 (let lt : expression_size a < n = omega (arith, le) in lt) (operand_built c t a b) (operand a x.0 x.1) (bits_put c.limits.area w d b' x.0 y.0 x.2))
          (done (Rescale 0 f) k (put y.0 w) (put z w) (rescaled_put c.limits.area w 0 f y.0 z y.2)))
      computed e (layer.Logic op a a') f levels k w z is le small b known =
          let (ba, bb) = both_operands a a' b in
          let v = of_one (known_rescaled 0 f) _ z known in
          let xy = of_two (known_logic op) ((value_of sc a).known (value_of sc a).operand) ((value_of sc a').known (value_of sc a').operand) v.0 v.1 in
          let g = operand_scale t.unit a in
          let h = operand_scale t.unit a' in
          let behind = Do (Rescale 0 f) line k in
          step_then (evaluates c t e (layer.Logic op a a') f line k w is) refl refl
          (then_come (Eval a g line (Eval a' h line (Do (Combine op) line behind))) behind k w (put v.0 w) (put z w) refl
          (two_come a a' g h (Combine op) behind w xy.0 xy.1 v.0 (let lt : expression_size a < n = omega (arith, le) in lt) (let lt : expression_size a' < n = omega (arith, le) in lt) ba bb
          (operand a xy.0 xy.2) (operand a' xy.1 xy.3) (combined_put c.limits.area w op xy.0 xy.1 v.0 xy.4))
          (done (Rescale 0 f) k (put v.0 w) (put z w) (rescaled_put c.limits.area w 0 f v.0 z v.2)))
      computed e (layer.Sum a a') f levels k w z is le small b known =
          let bs = both (whole (built_of c t a) f) (whole (built_of c t a') f) b in
          let xy = of_two known_sum ((value_of sc a).known f) ((value_of sc a').known f) z known in
          step_then (evaluates c t e (layer.Sum a a') f line k w is) refl refl
          (two_come a a' f f Add k w xy.0 xy.1 z (let lt : expression_size a < n = omega (arith, le) in lt) (let lt : expression_size a' < n = omega (arith, le) in lt) bs.0 bs.1 xy.2 xy.3 (sum_put c.limits.area w xy.0 xy.1 z xy.4))
      computed e (layer.Less a a') f levels k w z is le small b known =
          let bs = both (whole (built_of c t a) f) (whole (built_of c t a') f) b in
          let xy = of_two known_difference ((value_of sc a).known f) ((value_of sc a').known f) z known in
          step_then (evaluates c t e (layer.Less a a') f line k w is) refl refl
          (two_come a a' f f Subtract k w xy.0 xy.1 z (let lt : expression_size a < n = omega (arith, le) in lt) (let lt : expression_size a' < n = omega (arith, le) in lt) bs.0 bs.1 xy.2 xy.3 (difference_put c.limits.area w xy.0 xy.1 z xy.4))
      computed e (layer.Minus a) f levels k w z is le small b known =
          let x = of_one known_negative ((value_of sc a).known f) z known in
          step_then (evaluates c t e (layer.Minus a) f line k w is) refl refl
          (one_comes a f Negate k w x.0 z (let lt : expression_size a < n = omega (arith, le) in lt) b x.1 (negative_put c.limits.area w x.0 z x.2))
      computed e (layer.Times a a') f levels k w z is le small b known =
          let (ba, bb) = both_operands a a' b in
          let g = operand_scale t.unit a in
          let h = operand_scale t.unit a' in
          let s = pos f -ℤ pos ((value_of sc a).operand + (value_of sc a').operand) in
          let xy = of_two (known_product (narrow s)) ((value_of sc a).known (value_of sc a).operand) ((value_of sc a').known (value_of sc a').operand) z known in
          let same : s ≡ pos f -ℤ pos (g + h) = ap (λ i. pos f -ℤ pos (i + (value_of sc a').operand)) (operand-is sc a) ∙ ap (λ j. pos f -ℤ pos (g + j)) (operand-is sc a') in
          let whole_power : narrow s ≡ pos f -ℤ pos (g + h) = ap narrow same ∙ narrowed (pos f -ℤ pos (g + h)) f (g + h) refl (let y : f ≤ 30 = omega (arith, at_most f small) in y) (let y : g + h ≤ 30 = omega (arith, scale_small c t a g ba, scale_small c t a' h bb) in y) in
          step_then (evaluates c t e (layer.Times a a') f line k w is) refl refl
          (two_come a a' g h (Multiply (pos f -ℤ pos (g + h))) k w xy.0 xy.1 z (let lt : expression_size a < n = omega (arith, le) in lt) (let lt : expression_size a' < n = omega (arith, le) in lt) ba bb (operand a xy.0 xy.2) (operand a' xy.1 xy.3)
          (ap (λ p. perform c.limits.area (Multiply p) (put xy.1 (put xy.0 w))) (sym whole_power) ∙ product_put c.limits.area w (narrow s) xy.0 xy.1 z xy.4))
      computed e (layer.Over a a') f levels k w z is le small b known =
          let (ba, bb) = both_operands a a' b in
          let g = operand_scale t.unit a in
          let h = operand_scale t.unit a' in
          let s = pos (f + (value_of sc a').operand) -ℤ pos (value_of sc a).operand in
          let xy = of_two (known_quotient (narrow s)) ((value_of sc a).known (value_of sc a).operand) ((value_of sc a').known (value_of sc a').operand) z known in
          let same : s ≡ pos (f + h) -ℤ pos g = ap (λ i. pos (f + (value_of sc a').operand) -ℤ pos i) (operand-is sc a) ∙ ap (λ j. pos (f + j) -ℤ pos g) (operand-is sc a') in
          let whole_power : narrow s ≡ pos (f + h) -ℤ pos g = ap narrow same ∙ narrowed (pos (f + h) -ℤ pos g) (f + h) g refl (let y : f + h ≤ 30 = omega (arith, at_most f small, scale_small c t a' h bb) in y) (let y : g ≤ 30 = omega (arith, scale_small c t a g ba) in y) in
          step_then (evaluates c t e (layer.Over a a') f line k w is) refl refl
          (two_come a a' g h (Divide (pos (f + h) -ℤ pos g)) k w xy.0 xy.1 z (let lt : expression_size a < n = omega (arith, le) in lt) (let lt : expression_size a' < n = omega (arith, le) in lt) ba bb (operand a xy.0 xy.2) (operand a' xy.1 xy.3)
          (ap (λ p. perform c.limits.area (Divide p) (put xy.1 (put xy.0 w))) (sym whole_power) ∙ quotient_put c.limits.area w (narrow s) xy.0 xy.1 z xy.4))
      computed e _ f levels k w z is le small b known = absurd (none-some z known)

      next_below : (d : Expr) → expression_size d < suc n → (g : ℕ) → Evaluated d g
      next_below d lt g levels k w z small b known =
          computed d (out-Expr d) g levels k w z refl (let le : expression_size_layer (out-Expr d) ≤ n = omega (arith, lt, expression-size d) in le) small
          (sym (ap (λ v. v.at g levels) (value-built t.unit (has_words c t) d)) ∙ b) (sym (ap (λ v. v.known g) (value-made sc d)) ∙ known)

    all_below : (n : ℕ) (d : Expr) → expression_size d < n → (g : ℕ) → Evaluated d g
    all_below zero d lt g = absurd (omega (arith, lt))
    all_below (suc n) d lt g = next_below n (all_below n) d lt g

    pub evaluated : (e : Expr) (f : ℕ) → Evaluated e f
    evaluated e f = all_below (suc (expression_size e)) e (let z : expression_size e < suc (expression_size e) = omega arith in z) f

    -- what is known fits a word
    pub fits_known : (x : Expr-F Arg Cond Expr Spot Ref) (f levels : ℕ) (z : ℤ) → IsTrue ((built_value_layer t.unit (has_words c t) x).at f levels) → known_layer sc x f ≡ Some z → fits_word z ≡ true
    fits_known (layer.Num m) f levels z b known =
        let v = decimal_floor m.whole m.digits m.places f in subst (λ y. fits_word y ≡ true) (sym (number-is v b) ∙ same_Some (signed (v % 65536)) z known) b
    fits_known (layer.Const y) f levels z b known = rescaled_fits 0 f y z known
    fits_known (layer.Force g a) f levels z b known = let x = of_one (known_rescaled g f) ((value_of sc a).known g) z known in rescaled_fits g f x.0 z x.2
    fits_known (layer.Bits d b' a) f levels z b known = let x = of_one (known_rescaled 0 f) _ z known in rescaled_fits 0 f x.0 z x.2
    fits_known (layer.Logic op a a') f levels z b known = let x = of_one (known_rescaled 0 f) _ z known in rescaled_fits 0 f x.0 z x.2
    fits_known (layer.Sum a a') f levels z b known = let xy = of_two known_sum ((value_of sc a).known f) ((value_of sc a').known f) z known in sum_fits xy.0 xy.1 z xy.4
    fits_known (layer.Less a a') f levels z b known = let xy = of_two known_difference ((value_of sc a).known f) ((value_of sc a').known f) z known in difference_fits xy.0 xy.1 z xy.4
    fits_known (layer.Minus a) f levels z b known = let x = of_one known_negative ((value_of sc a).known f) z known in negative_fits x.0 z x.2
    fits_known (layer.Times a a') f levels z b known =
        let power = narrow (pos f -ℤ pos ((value_of sc a).operand + (value_of sc a').operand)) in
        let xy = of_two (known_product power) ((value_of sc a).known (value_of sc a).operand) ((value_of sc a').known (value_of sc a').operand) z known in
        product_fits power xy.0 xy.1 z xy.4
    fits_known (layer.Over a a') f levels z b known =
        let power = narrow (pos (f + (value_of sc a').operand) -ℤ pos (value_of sc a).operand) in
        let xy = of_two (known_quotient power) ((value_of sc a).known (value_of sc a).operand) ((value_of sc a').known (value_of sc a').operand) z known in
        quotient_fits power xy.0 xy.1 z xy.4
    fits_known _ f levels z b known = absurd (none-some z known)

    -- ---- references

    index_comes : (compared : Bool) (e : Expr) (l u j : ℤ) (k : Work) (w : Words) → IsTrue (whole (built_of c t e) 0) → (value_of sc e).known 0 ≡ Some j → in_bounds compared l u j ≡ true → Comes c t (index_work compared e l u line k) k w (put j w)
    index_comes true e l u j k w b known inside =
        let bs = both (nat_le 0 15) ((built_of c t e).at 0 most_levels) b in
        then_come (Eval e 0 line (Do (InBounds l u) line k)) (Do (InBounds l u) line k) k w (put j w) (put j w) refl (evaluated e 0 most_levels (Do (InBounds l u) line k) w j bs.0 bs.1 known)
        (done (InBounds l u) k (put j w) (put j w) (compared_put c.limits.area w l u j inside))
    index_comes false e l u j k w b known inside =
        let bs = both (nat_le 0 15) ((built_of c t e).at 0 most_levels) b in evaluated e 0 most_levels k w j bs.0 bs.1 known

    form_comes : (spot : Spot) (x : Spot-F Arg Cond Expr Spot Ref) (k : Work) (w v : Words) → out-Spot spot ≡ x → form_address c.limits.area (addressing_of (source c) x t.segment t.acts w) w ≡ Changed v → Comes c t (FormAt spot line k) k w v
    form_comes spot x k w v is e =
        only_step
        (ap (λ y. source_after (form_address c.limits.area (addressing_of (source c) y t.segment t.acts w) w) t.segment line (FormAt spot line k) k t.acts w) is
        ∙ ap (λ o. source_after o t.segment line (FormAt spot line k) k t.acts w) e)
        refl

    abbrev place_of : ℕ → ℕ
    place_of i = address_at (source c) t.segment t.acts i

    -- the span of a table, where it is no parameter
    table_is : (tb : Bool) (i n : ℕ) → n < table_span (layout c t) tb i → (tb ≡ false) × (n < item_span (layout c t) i)
    table_is true i n lt = absurd (omega (arith, lt))
    table_is false i n lt = (refl, lt)

    less_none : (k : ℤ) (i : ℕ) → k -ℤ pos 0 ≡ pos i → k ≡ pos i
    less_none k i e = omega (arith, ints, e)

    -- where a known word stands
    pub record Reached (i n : ℕ) : Type 0 where
      pub has : IsTrue (has_words c t i 1)
      pub inside : n < item_span (layout c t) i

    reached : (x : Spot-F Arg Cond Expr Spot Ref) (n : ℕ) → IsTrue (built_spot_layer t.unit (has_words c t) x) → word_layer sc x ≡ Some n → Reached (word_item sc x) n
    reached (layer.One i l u e) n b known =
        let i1 = of_count (word_inside (item_span (layout c t) i)) (from_lower t.unit.bounds l u ((value_of sc e).known 0)) n known in
        record { has = (both (has_words c t i 1) (whole (built_of c t e) 0) b).0; inside = (inside_is (item_span (layout c t) i) i1.0 n i1.2).1 }
    reached (layer.Two i l1 u1 l2 u2 m e g) n b known =
        let rows = of_index (word_inside 32768) (from_lower t.unit.bounds l1 u1 ((value_of sc e).known 0)) in
        let columns = from_lower t.unit.bounds l2 u2 ((value_of sc g).known 0) in
        let i1 = of_count (λ i'. of_index (λ j'. word_inside (item_span (layout c t) i) (i' * m + j')) columns) rows n known in
        let i2 = of_count (λ j'. word_inside (item_span (layout c t) i) (i1.0 * m + j')) columns n i1.2 in
        record { has = (both (has_words c t i 1) (whole (built_of c t e) 0 && whole (built_of c t g) 0) b).0; inside = (inside_is (item_span (layout c t) i) (i1.0 * m + i2.0) n i2.2).1 }
    reached (layer.Word i tb m e) n b known =
        let i1 = of_count (word_inside (table_span (layout c t) tb i)) (from_lower t.unit.bounds (pos 0) (pos m -ℤ pos 1) ((value_of sc e).known 0)) n known in
        record { has = (both (has_words c t i 1) (whole (built_of c t e) 0) b).0; inside = (table_is tb i n (inside_is (table_span (layout c t) tb i) i1.0 n i1.2).1).1 }
    reached (layer.Elem i tb width entries word e) n b known =
        let i1 = of_count (λ i'. word_inside (table_span (layout c t) tb i) (i' * width + word)) (from_lower t.unit.bounds (pos 0) (pos entries -ℤ pos 1) ((value_of sc e).known 0)) n known in
        record { has = (both (has_words c t i 1) (whole (built_of c t e) 0) b).0; inside = (table_is tb i n (inside_is (table_span (layout c t) tb i) (i1.0 * width + word) n i1.2).1).1 }
    reached _ n b known = absurd (none-some n known)

    -- the source comes to its address
    addressed : (a : Ref) (x : Spot-F Arg Cond Expr Spot Ref) (k : Work) (w : Words) (n : ℕ) → out-Spot (out-Ref a).at ≡ x → IsTrue (built_spot_layer t.unit (has_words c t) x) → word_layer sc x ≡ Some n → place_of (word_item sc x) + n < c.limits.area
        → Comes c t (Address a line k) k w (put (pos (place_of (word_item sc x) + n)) w)
    addressed a (layer.One i l u e) k w n is b known inside =
        let i1 = of_count (word_inside (item_span (layout c t) i)) (from_lower t.unit.bounds l u ((value_of sc e).known 0)) n known in
        let at = from_above t.unit.bounds l u ((value_of sc e).known 0) i1.0 i1.1 in
        let form = FormAt (out-Ref a).at line k in
        step_then (addresses c t a (layer.One i l u e) line k w is) refl refl
        (then_come (index_work t.unit.bounds e l u line form) form k w (put at.index w) (put (pos (place_of i + n)) w) refl (index_comes t.unit.bounds e l u at.index form w (both (has_words c t i 1) (whole (built_of c t e) 0) b).1 at.is at.bounded)
        (form_comes (out-Ref a).at (layer.One i l u e) k (put at.index w) (put (pos (place_of i + n)) w) is
        (element_found c.limits.area (place_of i) w t.in_words at.index l n (at.above ∙ ap pos (inside_is (item_span (layout c t) i) i1.0 n i1.2).0) inside)))
    addressed a (layer.Two i l1 u1 l2 u2 m e g) k w n is b known inside =
        let rows = from_lower t.unit.bounds l1 u1 ((value_of sc e).known 0) in
        let columns = from_lower t.unit.bounds l2 u2 ((value_of sc g).known 0) in
        let i1 = of_count (λ i'. of_index (λ j'. word_inside (item_span (layout c t) i) (i' * m + j')) columns) (of_index (word_inside 32768) rows) n known in
        let i2 = of_count (λ j'. word_inside (item_span (layout c t) i) (i1.0 * m + j')) columns n i1.2 in
        let i3 = of_count (word_inside 32768) rows i1.0 i1.1 in
        let fits = inside_is 32768 i3.0 i1.0 i3.2 in
        let row = from_above t.unit.bounds l1 u1 ((value_of sc e).known 0) i3.0 i3.1 in
        let column = from_above t.unit.bounds l2 u2 ((value_of sc g).known 0) i2.0 i2.1 in
        let bs = both (whole (built_of c t e) 0) (whole (built_of c t g) 0) (both (has_words c t i 1) (whole (built_of c t e) 0 && whole (built_of c t g) 0) b).1 in
        let form = FormAt (out-Ref a).at line k in
        let second = index_work t.unit.bounds g l2 u2 line form in
        let found = put (pos (place_of i + n)) w in
        step_then (addresses c t a (layer.Two i l1 u1 l2 u2 m e g) line k w is) refl refl
        (then_come (index_work t.unit.bounds e l1 u1 line second) second k w (put row.index w) found refl (index_comes t.unit.bounds e l1 u1 row.index second w bs.0 row.is row.bounded)
        (then_come second form k (put row.index w) (put column.index (put row.index w)) found refl (index_comes t.unit.bounds g l2 u2 column.index form (put row.index w) bs.1 column.is column.bounded)
        (form_comes (out-Ref a).at (layer.Two i l1 u1 l2 u2 m e g) k (put column.index (put row.index w)) found is
        (element_of_two_found c.limits.area (place_of i) w t.in_words row.index column.index l1 l2 m i1.0 i2.0 n (row.above ∙ ap pos fits.0) column.above fits.1 (inside_is (item_span (layout c t) i) (i1.0 * m + i2.0) n i2.2).0 inside))))
    addressed a (layer.Word i true m e) k w n is b known inside =
        let i1 = of_count (word_inside 0) (from_lower t.unit.bounds (pos 0) (pos m -ℤ pos 1) ((value_of sc e).known 0)) n known in absurd (omega (arith, (inside_is 0 i1.0 n i1.2).1))
    addressed a (layer.Word i false m e) k w n is b known inside =
        let i1 = of_count (word_inside (item_span (layout c t) i)) (from_lower t.unit.bounds (pos 0) (pos m -ℤ pos 1) ((value_of sc e).known 0)) n known in
        let at = from_above t.unit.bounds (pos 0) (pos m -ℤ pos 1) ((value_of sc e).known 0) i1.0 i1.1 in
        let form = FormAt (out-Ref a).at line k in
        step_then (addresses c t a (layer.Word i false m e) line k w is) refl refl
        (then_come (index_work t.unit.bounds e (pos 0) (pos m -ℤ pos 1) line form) form k w (put at.index w) (put (pos (place_of i + n)) w) refl
        (index_comes t.unit.bounds e (pos 0) (pos m -ℤ pos 1) at.index form w (both (has_words c t i 1) (whole (built_of c t e) 0) b).1 at.is at.bounded)
        (form_comes (out-Ref a).at (layer.Word i false m e) k (put at.index w) (put (pos (place_of i + n)) w) is
        (element_found c.limits.area (place_of i) w t.in_words at.index (pos 0) n (at.above ∙ ap pos (inside_is (item_span (layout c t) i) i1.0 n i1.2).0) inside)))
    addressed a (layer.Elem i true width entries word e) k w n is b known inside =
        let i1 = of_count (λ i'. word_inside 0 (i' * width + word)) (from_lower t.unit.bounds (pos 0) (pos entries -ℤ pos 1) ((value_of sc e).known 0)) n known in absurd (omega (arith, (inside_is 0 (i1.0 * width + word) n i1.2).1))
    addressed a (layer.Elem i false width entries word e) k w n is b known inside =
        let i1 = of_count (λ i'. word_inside (item_span (layout c t) i) (i' * width + word)) (from_lower t.unit.bounds (pos 0) (pos entries -ℤ pos 1) ((value_of sc e).known 0)) n known in
        let at = from_above t.unit.bounds (pos 0) (pos entries -ℤ pos 1) ((value_of sc e).known 0) i1.0 i1.1 in
        let form = FormAt (out-Ref a).at line k in
        step_then (addresses c t a (layer.Elem i false width entries word e) line k w is) refl refl
        (then_come (index_work t.unit.bounds e (pos 0) (pos entries -ℤ pos 1) line form) form k w (put at.index w) (put (pos (place_of i + n)) w) refl
        (index_comes t.unit.bounds e (pos 0) (pos entries -ℤ pos 1) at.index form w (both (has_words c t i 1) (whole (built_of c t e) 0) b).1 at.is at.bounded)
        (form_comes (out-Ref a).at (layer.Elem i false width entries word e) k (put at.index w) (put (pos (place_of i + n)) w) is
        (entry_found c.limits.area (place_of i) w t.in_words at.index width word i1.0 n (less_none at.index i1.0 at.above) (inside_is (item_span (layout c t) i) (i1.0 * width + word) n i1.2).0 inside)))
    addressed a _ k w n is b known inside = absurd (none-some n known)

    -- ---- as the relation has it

    pub evaluation_goes : (e : Expr) (f : ℕ) (k : Work) (q n levels j free last : ℕ) (w : Words) → IsTrue (is_expression t.unit (has_words c t) e f levels) → Made (code c t) (marks c t) (expression_piece sc e f q free) q n free last → j + levels ≤ most_levels
        → Via (code c t) (marks c t) j n true (λ y m. At c t y m false k) → Facts c t (Eval e f line k) w → Goes c t (Eval e f line k) q false w
    evaluation_goes e f k q n levels j free end w b made le via facts =
        by (known_layer sc (out-Expr e) f) refl (subst (λ p. Made (code c t) (marks c t) (p q free) q n free end) (ap (λ v. v.at f) (value-made sc e)) made)
      where
        bs : IsTrue (nat_le f 15) × IsTrue ((built_of c t e).at f levels)
        bs = both (nat_le f 15) ((built_of c t e).at f levels) b

        by : (x : Option ℤ) → known_layer sc (out-Expr e) f ≡ x → Made (code c t) (marks c t) (known_or x ((computed_layer sc (out-Expr e)).at f) q free) q n free end → Goes c t (Eval e f line k) q false w
        by None is made' = inl (evaluation_follows c t e f line k q n levels j free end w b made' le via facts)
        by (Some z) is made' =
            let o = number_order (unsigned z) in
            let known = ap (λ v. v.known f) (value-made sc e) ∙ is in
            let fits = fits_known (out-Expr e) f levels z (sym (ap (λ v. v.at f levels) (value-built t.unit (has_words c t) e)) ∙ bs.1) is in
            inr
            (leaps_by c t (Eval e f line k) k line q n false true (o ∷ []) w (put z w) false made'.0 (light_order line false true o refl (omega arith) (omega arith) tt refl) facts (evaluated e f levels k w z bs.0 bs.1 known)
            (ap (λ y. Changed (put y w)) (constant-is z fits)) tt (wide c t j n true false k (let y : j ≤ 64 = omega (arith, le) in y) via))

    pub one_light : (i n : ℕ) → IsLight line false true (item_order (layout c t) i n ∷ [])
    one_light i n =
        let w = item_light (layout c t) i n in
        light_order line false true (item_order (layout c t) i n) (item_silent (layout c t) i n) w.0 (let z : weight_of (item_order (layout c t) i n) ≤ 159 = omega (arith, w.1) in z) (item_tells line (layout c t) i n) (item_loads (layout c t) i n)

    pub address_goes : (a : Ref) (k : Work) (q n free last : ℕ) (w : Words) → IsTrue (built_reference t.unit (has_words c t) a).good → Made (code c t) (marks c t) ((reference_of sc a).address q free) q n free last → Leads_to c t n true true k → Facts c t (Address a line k) w
        → Goes c t (Address a line k) q false w
    address_goes a k q n free end w b made carried facts =
        by (word_layer sc (out-Spot (out-Ref a).at)) refl (subst (λ p. Made (code c t) (marks c t) (p q free) q n free end) (ap (λ r. r.address) (reference-made sc a) ∙ spot-made sc (out-Ref a).at) made)
      where
        by : (m : Option ℕ) → word_layer sc (out-Spot (out-Ref a).at) ≡ m → Made (code c t) (marks c t) (named_or (layout c t) (word_item sc (out-Spot (out-Ref a).at)) m (indexed_layer sc (out-Spot (out-Ref a).at)) q free) q n free end → Goes c t (Address a line k) q false w
        by None is made' = inl (address_follows c t a line k q n free end w b made' carried facts)
        by (Some m) is made' =
            let x = out-Spot (out-Ref a).at in
            let i = word_item sc x in
            let at = reached x m (built_spot c t a b) is in
            let there = t.stand.reaches i m w at.has at.inside in
            inr
            (leaps_by c t (Address a line k) k line q n false true (item_order (layout c t) i m ∷ []) w (put (pos (place_of i + m)) w) true made'.0 (one_light i m) facts (addressed a x k w m refl (built_spot c t a b) is there.1)
            (then_changed _ ∙ there.0) (place_of i + m, w.operands, refl, there.1) carried)
