-- The orders of expressions, conditions, references and arguments whose numbers are in range have code, and their marks stand at places of marks.
use Rattle.std.proofs.Common.{◌≡◌, ℕ, zero, suc, ◌+◌, ◌<◌, ◌≤◌, max, nat_le, nat_lt, ℤ, pos, ◌-ℤ◌, List, [], ◌∷◌, ◌++◌, map, Bool, true, false, IsTrue, ◌&&◌, Option, Some, None, refl, sym, ap, ap₂, ◌∙◌, subst, arith}
use Rattle.std.proofs.lemmas.Bool.{leb-true}
use Rattle.std.specs.List.{list_all}
use Rattle.cw_word.specs.FixedPoint.{fits_word}
use Rattle.cw_word.specs.Decimal.{decimal_floor}
use Rattle.cw_word.specs.Word.{unsigned}
use Rattle.cw_order.specs.declared.order.Order.{Order}
use Rattle.cw_order.specs.declared.order.Order.TheVariants as order
use Rattle.cw_unit.specs.declared.layout.Layout.{Layout}
use Rattle.cw_unit.specs.declared.unit.Arg.{Arg, out-Arg}
use Rattle.cw_unit.specs.declared.unit.Cond.{Cond, out-Cond}
use Rattle.cw_unit.specs.declared.unit.Spot.{Spot, out-Spot}
use Rattle.cw_unit.specs.declared.unit.Ref.{Ref, out-Ref}
use Rattle.cw_unit.specs.declared.unit.Expr.{Expr, Expr-F, out-Expr}
use Rattle.cw_unit.specs.declared.unit.Arg.TheOpen as layer
use Rattle.cw_unit.specs.declared.unit.Arg.TheOpen.{Arg-F, Cond-F, Spot-F}
use Rattle.cw_unit.specs.Scales.{answer_scale}
use Rattle.cw_gen_expr.specs.Pieces.{Piece, plain, followed_by, sequence}
use Rattle.cw_gen_expr.specs.ReferenceExpressions.{Scope, saved, two_values, Value, ConditionPiece, argument_words, control_place, item_order, item_span, row_order, table_span, table_orders, bounds_orders, load_orders, rescale_orders, logic_order, narrow, number_order, known_or, named_or, comparator_for, pick_mark, call_order, label_order, value_of, condition_piece, argument_piece, reference_of, expression_piece}
use Rattle.cw_gen_expr.specs.KnownValues.{all_inside}
use Rattle.cw_gen_expr.proofs.Layers.{value_layer, computed_layer, known_layer, value-made, argument_layer, argument-made, spot_layer, indexed_layer, word_item, word_layer, spot-made, reference-made, condition_layer, condition-made, total, expression_size, expression-size, expression_size_layer, argument_size, argument-size, argument_size_layer, spot-size, spot_size_layer, reference_size, reference-size, condition_size, condition-size, condition_size_layer}
use Rattle.cw_gen_unit.specs.ReferenceStatements.{parted_piece}
use Rattle.cw_built.specs.Coded.{is_part, has_code}
use Rattle.cw_writable.specs.Coded.RangedExpressions.{RangedValue, all_ranged, is_field, are_bounds, in_range, can_divide, ranged_value, is_ranged_condition, is_ranged_argument, ranged_reference, is_ranged_spot, is_ranged_expression}
use Rattle.cw_writable.specs.Coded.RangedUnits.{is_line}
use Rattle.cw_writable.proofs.Coded.Fine.{both, parts, passed, Good, plainly, both_good, ended_good, parted_kept}
use Rattle.cw_writable.proofs.Coded.Numbers.{lined, row-lined, first, first_by, item-first, saved-item, saved-table, bounds-coded, load-coded, rescale-coded, logic-coded, product-coded, quotient-coded, index-fits, control-coded, call-coded, label-coded}
use Rattle.cw_writable.proofs.Coded.RangedLayers.{ranged_value_layer, value-ranged, ranged_argument_layer, argument-ranged, ranged_spot_layer, spot-ranged, reference-ranged, ranged_condition_layer, condition-ranged}

pub parted_good : (c : ConditionPiece) (between : ℕ → List Order) (a b : Piece) → ((when : Bool) (mark : ℕ) → Good (c when mark)) → ((end : ℕ) → IsTrue (list_all has_code (between end))) → Good a → Good b → Good (parted_piece c between a b)
parted_good c between a b hc coded ha hb = parted_kept Good ended_good (λ x y. both_good) c between a b hc (λ end. plainly (between end) (coded end)) ha hb

-- ---- scales

abbrev Same : Value → RangedValue → Type 0
Same v w = (w.natural ≡ v.natural) × (w.operand ≡ v.operand)

twice : {a b : ℕ} → a ≡ b → (a ≡ b) × (a ≡ b)
twice e = (e, e)

module _ (s : Scope) where
  abbrev SameBelow : ℕ → Type 0
  SameBelow n = (d : Expr) → expression_size d < n → Same (value_of s d) (ranged_value s.unit d)

  same-reference : (r : Ref) → (ranged_reference s.unit r).scale ≡ (reference_of s r).scale
  same-reference r = ap (λ x. x.scale) (reference-ranged s.unit r) ∙ sym (ap (λ x. x.scale) (reference-made s r))

  same-layer : (n : ℕ) → SameBelow n → (x : Expr-F Arg Cond Expr Spot Ref) → expression_size_layer x ≤ n → Same (value_layer s x) (ranged_value_layer s.unit x)
  same-layer n b (layer.Read r) le = twice (same-reference r)
  same-layer n b (layer.Sum a d) le = twice (ap₂ max (b a (let z : expression_size a < n = omega (arith, le) in z)).0 (b d (let z : expression_size d < n = omega (arith, le) in z)).0)
  same-layer n b (layer.Less a d) le = twice (ap₂ max (b a (let z : expression_size a < n = omega (arith, le) in z)).0 (b d (let z : expression_size d < n = omega (arith, le) in z)).0)
  same-layer n b (layer.Minus a) le = twice (b a (let z : expression_size a < n = omega (arith, le) in z)).0
  same-layer n b (layer.Times a d) le = twice (ap₂ max (b a (let z : expression_size a < n = omega (arith, le) in z)).0 (b d (let z : expression_size d < n = omega (arith, le) in z)).0)
  same-layer n b (layer.Over a d) le = twice (ap₂ max (b a (let z : expression_size a < n = omega (arith, le) in z)).0 (b d (let z : expression_size d < n = omega (arith, le) in z)).0)
  same-layer n b (layer.Choice c a d) le = twice (ap₂ max (b a (let z : expression_size a < n = omega (arith, le) in z)).0 (b d (let z : expression_size d < n = omega (arith, le) in z)).0)
  same-layer n b _ le = (refl, refl)

  same-below : (n : ℕ) → SameBelow n
  same-below zero d lt = absurd (omega (arith, lt))
  same-below (suc n) d lt =
      let h = same-layer n (same-below n) (out-Expr d) (let z : expression_size_layer (out-Expr d) ≤ n = omega (arith, lt, expression-size d) in z) in
      (ap (λ v. v.natural) (value-ranged s.unit d) ∙ h.0 ∙ sym (ap (λ v. v.natural) (value-made s d)), ap (λ v. v.operand) (value-ranged s.unit d) ∙ h.1 ∙ sym (ap (λ v. v.operand) (value-made s d)))

  pub same : (d : Expr) → Same (value_of s d) (ranged_value s.unit d)
  same d = same-below (suc (expression_size d)) d (let z : expression_size d < suc (expression_size d) = omega arith in z)

-- ---- trees

-- the top operand is saved for the next one
pub saved_good : Good saved
saved_good = plainly (order.Save ∷ []) refl

-- a constant has code, and so has the order of a word that is known
known_good : (k : Option ℤ) (p : Piece) → Good p → Good (known_or k p)
known_good (Some z) p h = plainly (number_order (unsigned z) ∷ []) refl
known_good None p h = h

named_good : (y : Layout) (i : ℕ) (w : Option ℕ) (p : Piece) → Good p → Good (named_or y i w p)
named_good y i (Some n) p h = plainly (item_order y i n ∷ []) (item-first y i n [] refl)
named_good y i None p h = h

module _ (s : Scope) (few : argument_words s.parameters < 256) (line : IsTrue (is_line s.line)) where
  record Below (n : ℕ) : Type 0 where
    values : (d : Expr) → expression_size d < n → (f : ℕ) → f ≤ 15 → IsTrue ((ranged_value s.unit d).at f) → Good (expression_piece s d f)
    conditions : (d : Cond) → condition_size d < n → IsTrue (is_ranged_condition s.unit d) → (when : Bool) (mark : ℕ) → Good (condition_piece s d when mark)
    arguments : (d : Arg) → argument_size d < n → IsTrue (is_ranged_argument s.unit d) → Good (argument_piece s d)
    references : (d : Ref) → reference_size d < n → IsTrue (ranged_reference s.unit d).good → Good (reference_of s d).address

  module _ (n : ℕ) (b : Below n) where
    at-scale : (d : Expr) → expression_size d < n → (f g : ℕ) → f ≡ g → IsTrue (in_range (ranged_value s.unit d) f) → Good (expression_piece s d g)
    at-scale d lt f g e h =
        let p = parts (nat_le f 15) ((ranged_value s.unit d).at f) h in
        subst (λ (k : ℕ). Good (expression_piece s d k)) e (b.values d lt f (leb-true f 15 p.0) p.1)

    at-operand : (d : Expr) → expression_size d < n → IsTrue (in_range (ranged_value s.unit d) (ranged_value s.unit d).operand) → Good (expression_piece s d (value_of s d).operand)
    at-operand d lt h = at-scale d lt (ranged_value s.unit d).operand (value_of s d).operand (same s d).1 h

    small-operand : (d : Expr) → IsTrue (in_range (ranged_value s.unit d) (ranged_value s.unit d).operand) → (value_of s d).operand ≤ 15
    small-operand d h =
        subst (λ (k : ℕ). k ≤ 15) (same s d).1 (leb-true (ranged_value s.unit d).operand 15 (parts (nat_le (ranged_value s.unit d).operand 15) ((ranged_value s.unit d).at (ranged_value s.unit d).operand) h).0)

    at-zero : (d : Expr) → expression_size d < n → IsTrue ((ranged_value s.unit d).at 0) → Good (expression_piece s d 0)
    at-zero d lt h = b.values d lt 0 (let z : 0 ≤ 15 = omega arith in z) h

    bounded_good : (e : Expr) (l u : ℤ) → expression_size e < n → IsTrue (are_bounds l u) → IsTrue ((ranged_value s.unit e).at 0) → Good (followed_by (expression_piece s e 0) (plain (bounds_orders s.unit.bounds s.line l u)))
    bounded_good e l u lt p h = both_good (at-zero e lt h) (plainly (bounds_orders s.unit.bounds s.line l u) (bounds-coded s.unit.bounds s.line line l u p))

    in-area : IsTrue (list_all has_code (order.InArea s.line ∷ []))
    in-area = first_by (order.InArea s.line) [] refl line refl

    indexed_good : (x : Spot-F Arg Cond Expr Spot Ref) → spot_size_layer x ≤ n → IsTrue (ranged_spot_layer s.unit x) → Good (indexed_layer s x)
    indexed_good (layer.Direct i) le h = both_good (plainly [] refl) (plainly (item_order s.layout i 0 ∷ []) (item-first s.layout i 0 [] refl))
    indexed_good (layer.Through i) le h =
        both_good (plainly [] refl) (plainly (item_order s.layout i 0 ∷ order.Load ∷ order.InArea s.line ∷ []) (item-first s.layout i 0 (order.Load ∷ order.InArea s.line ∷ []) (first order.Load (order.InArea s.line ∷ []) refl in-area)))
    indexed_good (layer.One i l u e) le h =
        let p = parts (are_bounds l u) ((ranged_value s.unit e).at 0) h in
        let q = parts (fits_word l) (fits_word u) p.0 in
        let o = order.Element l (item_span s.layout i) s.line in
        both_good (bounded_good e l u (let z : expression_size e < n = omega (arith, le) in z) p.0 p.1)
        (plainly (order.Save ∷ item_order s.layout i 0 ∷ o ∷ []) (saved-item s.layout i o (lined o q.0 line)))
    indexed_good (layer.Two i l1 u1 l2 u2 m e g) le h =
        let p = parts (are_bounds l1 u1 && (are_bounds l2 u2 && nat_le m 32768)) ((ranged_value s.unit e).at 0 && (ranged_value s.unit g).at 0) h in
        let q = parts (are_bounds l1 u1) (are_bounds l2 u2 && nat_le m 32768) p.0 in
        let r = parts (are_bounds l2 u2) (nat_le m 32768) q.1 in
        let t = parts ((ranged_value s.unit e).at 0) ((ranged_value s.unit g).at 0) p.1 in
        let l1-fits = (parts (fits_word l1) (fits_word u1) q.0).0 in
        let l2-fits = (parts (fits_word l2) (fits_word u2) r.0).0 in
        let inside = all_inside s.unit.bounds (item_span s.layout i) l1 u1 l2 u2 m in
        let o = row_order inside l1 l2 m (item_span s.layout i) s.line in
        both_good
        (both_good (bounded_good e l1 u1 (let z : expression_size e < n = omega (arith, le) in z) q.0 t.0) (both_good saved_good (bounded_good g l2 u2 (let z : expression_size g < n = omega (arith, le) in z) r.0 t.1)))
        (plainly (order.Save ∷ item_order s.layout i 0 ∷ o ∷ [])
        (saved-item s.layout i o (row-lined inside l1 l2 m (item_span s.layout i) s.line (both (fits_word l1) (fits_word l2 && nat_le m 32768) l1-fits (both (fits_word l2) (nat_le m 32768) l2-fits r.1)) line)))
    indexed_good (layer.ParamArray i e) le h =
        let o = order.Element (pos 0) 0 s.line in
        both_good (at-zero e (let z : expression_size e < n = omega (arith, le) in z) h)
        (plainly (order.Save ∷ item_order s.layout i 0 ∷ order.Load ∷ o ∷ []) (saved-table s.layout true i o (lined o refl line)))
    indexed_good (layer.Word i t m e) le h =
        let p = parts (nat_le m 32768) ((ranged_value s.unit e).at 0) h in
        let o = order.Element (pos 0) (table_span s.layout t i) s.line in
        both_good (bounded_good e (pos 0) (pos m -ℤ pos 1) (let z : expression_size e < n = omega (arith, le) in z) (index-fits m (leb-true m 32768 p.0)) p.1)
        (plainly (order.Save ∷ (table_orders s.layout t i ++ o ∷ [])) (saved-table s.layout t i o (lined o refl line)))
    indexed_good (layer.Elem i t k m w e) le h =
        let p = parts (nat_le k 32768 && (nat_le m 32768 && nat_lt w 32768)) ((ranged_value s.unit e).at 0) h in
        let q = parts (nat_le k 32768) (nat_le m 32768 && nat_lt w 32768) p.0 in
        let r = parts (nat_le m 32768) (nat_lt w 32768) q.1 in
        let o = order.Entry k w (table_span s.layout t i) s.line in
        both_good (bounded_good e (pos 0) (pos m -ℤ pos 1) (let z : expression_size e < n = omega (arith, le) in z) (index-fits m (leb-true m 32768 r.0)) p.1)
        (plainly (order.Save ∷ (table_orders s.layout t i ++ o ∷ [])) (saved-table s.layout t i o (lined o (both (nat_le k 32768) (nat_lt w 32768) q.0 r.1) line)))
    indexed_good (layer.Bare e) le h = both_good (at-zero e (let z : expression_size e < n = omega (arith, le) in z) h) (plainly (order.InArea s.line ∷ []) in-area)

    spot_good : (x : Spot-F Arg Cond Expr Spot Ref) → spot_size_layer x ≤ n → IsTrue (ranged_spot_layer s.unit x) → Good (spot_layer s x)
    spot_good x le h = named_good s.layout (word_item s x) (word_layer s x) (indexed_layer s x) (indexed_good x le h)

    reference_good : (r : Ref) → reference_size r ≤ n → IsTrue (ranged_reference s.unit r).good → Good (reference_of s r).address
    reference_good r le h =
        let x = out-Ref r in
        let k : IsTrue (nat_le x.f 15 && (is_field x.field && is_ranged_spot s.unit x.at)) = subst (λ y. IsTrue y.good) (reference-ranged s.unit r) h in
        let p = parts (is_field x.field) (is_ranged_spot s.unit x.at) (parts (nat_le x.f 15) (is_field x.field && is_ranged_spot s.unit x.at) k).1 in
        let at : IsTrue (ranged_spot_layer s.unit (out-Spot x.at)) = subst IsTrue (spot-ranged s.unit x.at) p.1 in
        subst Good (sym (ap (λ y. y.address) (reference-made s r) ∙ spot-made s x.at)) (spot_good (out-Spot x.at) (let z : spot_size_layer (out-Spot x.at) ≤ n = omega (arith, le, reference-size r ∙ spot-size x.at) in z) at)

    condition_good : (x : Cond-F Arg Cond Expr Spot Ref) → condition_size_layer x ≤ n → IsTrue (ranged_condition_layer s.unit x) → (when : Bool) (mark : ℕ) → Good (condition_layer s x when mark)
    condition_good (layer.Cmp op a d) le h when mark =
        let f = max (ranged_value s.unit a).natural (ranged_value s.unit d).natural in
        let g = max (value_of s a).natural (value_of s d).natural in
        let e : f ≡ g = ap₂ max (same s a).0 (same s d).0 in
        let p = parts (in_range (ranged_value s.unit a) f) (in_range (ranged_value s.unit d) f) h in
        both_good (at-scale a (let z : expression_size a < n = omega (arith, le) in z) f g e p.0)
        (both_good saved_good (both_good (at-scale d (let z : expression_size d < n = omega (arith, le) in z) f g e p.1) (plainly (order.JumpIf (comparator_for when op) mark ∷ []) refl)))
    condition_good (layer.And a d) le h when mark =
        let p = parts (is_ranged_condition s.unit a) (is_ranged_condition s.unit d) h in
        ended_good (λ end. followed_by (condition_piece s a false (pick_mark when end mark)) (condition_piece s d when mark))
        (λ end. both_good (b.conditions a (let z : condition_size a < n = omega (arith, le) in z) p.0 false (pick_mark when end mark)) (b.conditions d (let z : condition_size d < n = omega (arith, le) in z) p.1 when mark))
    condition_good (layer.Or a d) le h when mark =
        let p = parts (is_ranged_condition s.unit a) (is_ranged_condition s.unit d) h in
        ended_good (λ end. followed_by (condition_piece s a true (pick_mark when mark end)) (condition_piece s d when mark))
        (λ end. both_good (b.conditions a (let z : condition_size a < n = omega (arith, le) in z) p.0 true (pick_mark when mark end)) (b.conditions d (let z : condition_size d < n = omega (arith, le) in z) p.1 when mark))

    argument_good : (x : Arg-F Arg Cond Expr Spot Ref) → argument_size_layer x ≤ n → IsTrue (ranged_argument_layer s.unit x) → Good (argument_layer s x)
    argument_good (layer.Value e f) le h = both_good (at-scale e (let z : expression_size e < n = omega (arith, le) in z) f f refl h) saved_good
    argument_good (layer.Place r) le h = both_good (b.references r (let z : reference_size r < n = omega (arith, le) in z) h) saved_good
    argument_good (layer.Array i l) le h =
        plainly (item_order s.layout i 0 ∷ order.IndexLess l s.line ∷ order.Save ∷ []) (item-first s.layout i 0 (order.IndexLess l s.line ∷ order.Save ∷ []) (first_by (order.IndexLess l s.line) (order.Save ∷ []) h line refl))
    argument_good (layer.Same i) le h = plainly (item_order s.layout i 0 ∷ order.Load ∷ order.Save ∷ []) (item-first s.layout i 0 (order.Load ∷ order.Save ∷ []) refl)
    argument_good (layer.Base i) le h = plainly (item_order s.layout i 0 ∷ order.Save ∷ []) (item-first s.layout i 0 (order.Save ∷ []) refl)
    argument_good (layer.Goal g) le h = plainly (label_order s g ∷ []) (first (label_order s g) [] (label-coded s g) refl)
    argument_good (layer.Switch k) le h = plainly (order.SwitchOut k ∷ []) refl
    argument_good (layer.CommonSwitch d) le h = plainly (order.SwitchCommon d ∷ []) refl
    argument_good (layer.Proc q) le h = plainly (order.ProcOut q ∷ []) refl
    argument_good (layer.CommonProc d) le h = plainly (order.ProcCommon d ∷ []) refl
    argument_good (layer.Special k) le h =
        plainly (order.SpecialOut (control_place s.parameters k) ∷ []) (first_by (order.SpecialOut (control_place s.parameters k)) [] (control-coded s.parameters k few) refl refl)

    all_good : (args : List Arg) → total (map argument_size args) < n → IsTrue (all_ranged (map (is_ranged_argument s.unit) args)) → Good (sequence (map (argument_piece s) args))
    all_good [] lt h = plainly [] refl
    all_good (a ∷ args) lt h =
        let p = parts (is_ranged_argument s.unit a) (all_ranged (map (is_ranged_argument s.unit) args)) h in
        both_good (b.arguments a (let z : argument_size a < n = omega (arith, lt) in z) p.0) (all_good args (let z : total (map argument_size args) < n = omega (arith, lt) in z) p.1)

    field-ranged : (r : Ref) → IsTrue (ranged_reference s.unit r).good → IsTrue (is_field (reference_of s r).field) × ((reference_of s r).scale ≤ 15)
    field-ranged r h =
        let x = out-Ref r in
        let k : IsTrue (nat_le x.f 15 && (is_field x.field && is_ranged_spot s.unit x.at)) = subst (λ y. IsTrue y.good) (reference-ranged s.unit r) h in
        let p = parts (nat_le x.f 15) (is_field x.field && is_ranged_spot s.unit x.at) k in
        (subst (λ y. IsTrue (is_field y.field)) (sym (reference-made s r)) (parts (is_field x.field) (is_ranged_spot s.unit x.at) p.1).0, subst (λ y. y.scale ≤ 15) (sym (reference-made s r)) (leb-true x.f 15 p.0))

    -- from scale 0
    raised : (f : ℕ) → f ≤ 15 → IsTrue (list_all has_code (rescale_orders s.line 0 f))
    raised f h = rescale-coded s.line line 0 f (let z : 0 ≤ 15 = omega arith in z) h

    two_good : (a d : Expr) (os : List Order) → expression_size a < n → expression_size d < n
        → IsTrue (in_range (ranged_value s.unit a) (ranged_value s.unit a).operand) → IsTrue (in_range (ranged_value s.unit d) (ranged_value s.unit d).operand) → IsTrue (list_all has_code os)
        → Good (two_values (expression_piece s a (value_of s a).operand) (expression_piece s d (value_of s d).operand) os)
    two_good a d os la ld ha hd h = both_good (at-operand a la ha) (both_good saved_good (both_good (at-operand d ld hd) (plainly os h)))

    computed_good : (x : Expr-F Arg Cond Expr Spot Ref) → expression_size_layer x ≤ n → (f : ℕ) → f ≤ 15 → IsTrue ((ranged_value_layer s.unit x).at f) → Good ((computed_layer s x).at f)
    computed_good (layer.Num k) le f hf h = plainly (number_order (decimal_floor k.whole k.digits k.places f) ∷ []) refl
    computed_good (layer.Const z) le f hf h = plainly (number_order (unsigned z) ∷ rescale_orders s.line 0 f) (first (number_order (unsigned z)) (rescale_orders s.line 0 f) refl (raised f hf))
    computed_good (layer.Text i) le f hf h = plainly (item_order s.layout i 0 ∷ rescale_orders s.line 0 f) (item-first s.layout i 0 (rescale_orders s.line 0 f) (raised f hf))
    computed_good (layer.Read r) le f hf h =
        let x = reference_of s r in
        let p = field-ranged r h in
        both_good (b.references r (let z : reference_size r < n = omega (arith, le) in z) h)
        (plainly (load_orders x.field ++ rescale_orders s.line x.scale f) (passed (load_orders x.field) (rescale_orders s.line x.scale f) (load-coded x.field p.0) (rescale-coded s.line line x.scale f p.1 hf)))
    computed_good (layer.Call t args) le f hf h =
        let k = answer_scale s.unit t in
        let p = parts (nat_le k 15) (all_ranged (map (is_ranged_argument s.unit) args)) h in
        both_good (all_good args (let z : total (map argument_size args) < n = omega (arith, le) in z) p.1)
        (plainly (call_order s t ∷ rescale_orders s.line k f) (first (call_order s t) (rescale_orders s.line k f) (call-coded s t few line) (rescale-coded s.line line k f (leb-true k 15 p.0) hf)))
    computed_good (layer.Force g e) le f hf h =
        let p = parts (nat_le g 15) ((ranged_value s.unit e).at g) h in
        both_good (at-scale e (let z : expression_size e < n = omega (arith, le) in z) g g refl h) (plainly (rescale_orders s.line g f) (rescale-coded s.line line g f (leb-true g 15 p.0) hf))
    computed_good (layer.Locate r) le f hf h = both_good (b.references r (let z : reference_size r < n = omega (arith, le) in z) h) (plainly (rescale_orders s.line 0 f) (raised f hf))
    computed_good (layer.Bits t d e) le f hf h =
        let p = parts (is_part t d) (in_range (ranged_value s.unit e) (ranged_value s.unit e).operand) h in
        both_good (at-operand e (let z : expression_size e < n = omega (arith, le) in z) p.1) (plainly (order.Take t d ∷ rescale_orders s.line 0 f) (first_by (order.Take t d) (rescale_orders s.line 0 f) p.0 refl (raised f hf)))
    computed_good (layer.Logic op a d) le f hf h =
        let p = parts (in_range (ranged_value s.unit a) (ranged_value s.unit a).operand) (in_range (ranged_value s.unit d) (ranged_value s.unit d).operand) h in
        two_good a d (logic_order op ∷ rescale_orders s.line 0 f) (let z : expression_size a < n = omega (arith, le) in z) (let z : expression_size d < n = omega (arith, le) in z) p.0 p.1 (first (logic_order op) (rescale_orders s.line 0 f) (logic-coded op) (raised f hf))
    computed_good (layer.Sum a d) le f hf h =
        let p = parts ((ranged_value s.unit a).at f) ((ranged_value s.unit d).at f) h in
        both_good (b.values a (let z : expression_size a < n = omega (arith, le) in z) f hf p.0) (both_good saved_good (both_good (b.values d (let z : expression_size d < n = omega (arith, le) in z) f hf p.1) (plainly (order.Add s.line ∷ []) (first_by (order.Add s.line) [] refl line refl))))
    computed_good (layer.Less a d) le f hf h =
        let p = parts ((ranged_value s.unit a).at f) ((ranged_value s.unit d).at f) h in
        both_good (b.values a (let z : expression_size a < n = omega (arith, le) in z) f hf p.0) (both_good saved_good (both_good (b.values d (let z : expression_size d < n = omega (arith, le) in z) f hf p.1) (plainly (order.Sub s.line ∷ []) (first_by (order.Sub s.line) [] refl line refl))))
    computed_good (layer.Minus a) le f hf h = both_good (b.values a (let z : expression_size a < n = omega (arith, le) in z) f hf h) (plainly (order.Neg s.line ∷ []) (first_by (order.Neg s.line) [] refl line refl))
    computed_good (layer.Times a d) le f hf h =
        let p = parts (in_range (ranged_value s.unit a) (ranged_value s.unit a).operand) (in_range (ranged_value s.unit d) (ranged_value s.unit d).operand) h in
        let m = order.Mul (narrow (pos f -ℤ pos ((value_of s a).operand + (value_of s d).operand))) s.line in
        two_good a d (m ∷ []) (let z : expression_size a < n = omega (arith, le) in z) (let z : expression_size d < n = omega (arith, le) in z) p.0 p.1
        (first_by m [] (product-coded s.line f (value_of s a).operand (value_of s d).operand hf (small-operand a p.0) (small-operand d p.1)) line refl)
    computed_good (layer.Over a d) le f hf h =
        let p = parts (can_divide f (ranged_value s.unit a).operand (ranged_value s.unit d).operand) (in_range (ranged_value s.unit a) (ranged_value s.unit a).operand && in_range (ranged_value s.unit d) (ranged_value s.unit d).operand) h in
        let q = parts (in_range (ranged_value s.unit a) (ranged_value s.unit a).operand) (in_range (ranged_value s.unit d) (ranged_value s.unit d).operand) p.1 in
        let m = order.Div (narrow (pos (f + (value_of s d).operand) -ℤ pos (value_of s a).operand)) s.line in
        let c : IsTrue (can_divide f (value_of s a).operand (value_of s d).operand) = subst IsTrue (ap₂ (can_divide f) (same s a).1 (same s d).1) p.0 in
        two_good a d (m ∷ []) (let z : expression_size a < n = omega (arith, le) in z) (let z : expression_size d < n = omega (arith, le) in z) q.0 q.1
        (first_by m [] (quotient-coded s.line f (value_of s a).operand (value_of s d).operand c) line refl)
    computed_good (layer.Choice k a d) le f hf h =
        let p = parts (is_ranged_condition s.unit k) ((ranged_value s.unit a).at f && (ranged_value s.unit d).at f) h in
        let q = parts ((ranged_value s.unit a).at f) ((ranged_value s.unit d).at f) p.1 in
        parted_good (condition_piece s k) (λ end. order.Jump end ∷ []) (expression_piece s a f) (expression_piece s d f)
        (b.conditions k (let z : condition_size k < n = omega (arith, le) in z) p.0) (λ end. refl) (b.values a (let z : expression_size a < n = omega (arith, le) in z) f hf q.0) (b.values d (let z : expression_size d < n = omega (arith, le) in z) f hf q.1)

    value_good : (x : Expr-F Arg Cond Expr Spot Ref) → expression_size_layer x ≤ n → (f : ℕ) → f ≤ 15 → IsTrue ((ranged_value_layer s.unit x).at f) → Good ((value_layer s x).at f)
    value_good x le f hf h = known_good (known_layer s x f) ((computed_layer s x).at f) (computed_good x le f hf h)

    next_below : Below (suc n)
    next_below = record {
      values = λ d lt f hf h. subst (λ v. Good (v.at f)) (sym (value-made s d)) (value_good (out-Expr d) (let z : expression_size_layer (out-Expr d) ≤ n = omega (arith, lt, expression-size d) in z) f hf (subst (λ v. IsTrue (v.at f)) (value-ranged s.unit d) h));
      conditions = λ d lt h when mark. subst (λ p. Good (p when mark)) (sym (condition-made s d)) (condition_good (out-Cond d) (let z : condition_size_layer (out-Cond d) ≤ n = omega (arith, lt, condition-size d) in z) (subst IsTrue (condition-ranged s.unit d) h) when mark);
      arguments = λ d lt h. subst Good (sym (argument-made s d)) (argument_good (out-Arg d) (let z : argument_size_layer (out-Arg d) ≤ n = omega (arith, lt, argument-size d) in z) (subst IsTrue (argument-ranged s.unit d) h));
      references = λ d lt h. reference_good d (let z : reference_size d ≤ n = omega (arith, lt) in z) h;
    }

  below : (n : ℕ) → Below n
  below zero = record {
    values = λ d lt f hf h. absurd (omega (arith, lt));
    conditions = λ d lt h when mark. absurd (omega (arith, lt));
    arguments = λ d lt h. absurd (omega (arith, lt));
    references = λ d lt h. absurd (omega (arith, lt));
  }
  below (suc n) = next_below n (below n)

  pub expression_good : (e : Expr) (f : ℕ) → IsTrue (is_ranged_expression s.unit e f) → Good (expression_piece s e f)
  expression_good e f h =
      let n = suc (expression_size e) in at-scale n (below n) e (let z : expression_size e < n = omega arith in z) f f refl h

  pub condition_ranged_good : (d : Cond) → IsTrue (is_ranged_condition s.unit d) → (when : Bool) (mark : ℕ) → Good (condition_piece s d when mark)
  condition_ranged_good d h when mark = (below (suc (condition_size d))).conditions d (let z : condition_size d < suc (condition_size d) = omega arith in z) h when mark

  pub address_good : (r : Ref) → IsTrue (ranged_reference s.unit r).good → Good (reference_of s r).address
  address_good r h = (below (suc (reference_size r))).references r (let z : reference_size r < suc (reference_size r) = omega arith in z) h

  pub arguments_good : (args : List Arg) → IsTrue (all_ranged (map (is_ranged_argument s.unit) args)) → Good (sequence (map (argument_piece s) args))
  arguments_good args h =
      let n = suc (total (map argument_size args)) in all_good n (below n) args (let z : total (map argument_size args) < n = omega arith in z) h

  -- the scale and the part of a reference
  pub reference-ranges : (r : Ref) → IsTrue (ranged_reference s.unit r).good → IsTrue (is_field (out-Ref r).field) × ((out-Ref r).f ≤ 15)
  reference-ranges r h =
      let x = out-Ref r in
      let k : IsTrue (nat_le x.f 15 && (is_field x.field && is_ranged_spot s.unit x.at)) = subst (λ y. IsTrue y.good) (reference-ranged s.unit r) h in
      let p = parts (nat_le x.f 15) (is_field x.field && is_ranged_spot s.unit x.at) k in
      ((parts (is_field x.field) (is_ranged_spot s.unit x.at) p.1).0, leb-true x.f 15 p.0)
