-- The orders of expressions, conditions, references and arguments begin no statement.
use Rattle.std.proofs.Common.{◌≡◌, ℕ, zero, suc, ◌+◌, ◌<◌, ◌≤◌, max, ℤ, pos, ◌-ℤ◌, List, [], ◌∷◌, ◌++◌, map, Bool, true, false, Option, Some, None, refl, sym, ap, ◌∙◌, subst, arith}
use Rattle.cw_order.specs.declared.order.Order.{Order}
use Rattle.cw_order.specs.declared.order.Order.TheVariants as order
use Rattle.cw_word.specs.Word.{unsigned}
use Rattle.cw_unit.specs.declared.layout.Layout.{Layout}
use Rattle.cw_unit.specs.declared.unit.Arg.{Arg, out-Arg}
use Rattle.cw_unit.specs.declared.unit.Cond.{Cond, out-Cond}
use Rattle.cw_unit.specs.declared.unit.Spot.{Spot, out-Spot}
use Rattle.cw_unit.specs.declared.unit.Ref.{Ref, out-Ref}
use Rattle.cw_unit.specs.declared.unit.Expr.{Expr, Expr-F, out-Expr}
use Rattle.cw_unit.specs.declared.unit.Arg.TheOpen as layer
use Rattle.cw_unit.specs.declared.unit.Arg.TheOpen.{Arg-F, Cond-F, Spot-F, Ref-F}
use Rattle.cw_unit.specs.Scales.{answer_scale}
use Rattle.cw_gen_expr.specs.Pieces.{Piece, plain, followed_by, sequence, with_end}
use Rattle.cw_gen_expr.specs.ReferenceExpressions.{Scope, ConditionPiece, saved, two_values, control_place, item_order, item_span, row_order, table_span, table_orders, bounds_orders, load_orders, rescale_orders, logic_order, number_order, known_or, named_or, narrow, comparator_for, pick_mark, call_order, label_order, value_of, condition_piece, argument_piece, reference_of, expression_piece}
use Rattle.cw_gen_expr.specs.KnownValues.{all_inside}
use Rattle.cw_gen_expr.proofs.Layers.{value_layer, computed_layer, known_layer, value-made, argument_layer, argument-made, spot_layer, indexed_layer, word_item, word_layer, spot-made, reference-made, condition_layer, condition-made, total, expression_size, expression-size, expression_size_layer, argument_size, argument-size, argument_size_layer, spot-size, spot_size_layer, reference_size, reference-size, condition_size, condition-size, condition_size_layer}
use Rattle.cw_gen_unit.specs.ReferenceStatements.{parted_piece}
use Rattle.cw_traced.proofs.Lines.Starting.{begun_in, Begins, Silent, plainly, both, before, ended}
use Rattle.cw_traced.proofs.Lines.Silent.{none-both, none-first, item-first, table-silent, bounds-silent, load-silent, rescale-silent, logic-silent, call-silent, label-silent}

-- of two ways, both stand in the orders
pub parted-begins : {xs ys : List ℕ} (c : ConditionPiece) (between : ℕ → List Order) (a b : Piece) → ((when : Bool) (mark : ℕ) → Silent (c when mark)) → ((end : ℕ) → begun_in (between end) ≡ []) → Begins a xs → Begins b ys → Begins (parted_piece c between a b) (xs ++ ys)
parted-begins c between a b hc none ha hb =
    ended (λ end. followed_by (with_end (λ other. followed_by (c false other) (followed_by a (plain (between end))))) b)
    (λ end. both
    (ended (λ other. followed_by (c false other) (followed_by a (plain (between end)))) (λ other. both (hc false other) (before ha (plainly (between end) (none end)))))
    hb)

-- the top operand is saved
pub saved-silent : Silent saved
saved-silent = plainly (order.Save ∷ []) refl

-- a constant begins none, and neither does the order of a word that is known
known-silent : (k : Option ℤ) (p : Piece) → Silent p → Silent (known_or k p)
known-silent (Some z) p h = plainly (number_order (unsigned z) ∷ []) refl
known-silent None p h = h

named-silent : (y : Layout) (i : ℕ) (w : Option ℕ) (p : Piece) → Silent p → Silent (named_or y i w p)
named-silent y i (Some n) p h = plainly (item_order y i n ∷ []) (item-first y i n [] refl)
named-silent y i None p h = h

module _ (s : Scope) where
  record Below (n : ℕ) : Type 0 where
    values : (d : Expr) → expression_size d < n → (f : ℕ) → Silent (expression_piece s d f)
    conditions : (d : Cond) → condition_size d < n → (when : Bool) (mark : ℕ) → Silent (condition_piece s d when mark)
    arguments : (d : Arg) → argument_size d < n → Silent (argument_piece s d)
    references : (d : Ref) → reference_size d < n → Silent (reference_of s d).address

  module _ (n : ℕ) (b : Below n) where
    bounded : (e : Expr) (l u : ℤ) → expression_size e < n → Silent (followed_by (expression_piece s e 0) (plain (bounds_orders s.unit.bounds s.line l u)))
    bounded e l u lt = both (b.values e lt 0) (plainly (bounds_orders s.unit.bounds s.line l u) (bounds-silent s.unit.bounds s.line l u))

    indexed-silent : (x : Spot-F Arg Cond Expr Spot Ref) → spot_size_layer x ≤ n → Silent (indexed_layer s x)
    indexed-silent (layer.Direct i) le = both (plainly [] refl) (plainly (item_order s.layout i 0 ∷ []) (item-first s.layout i 0 [] refl))
    indexed-silent (layer.Through i) le = both (plainly [] refl) (plainly (item_order s.layout i 0 ∷ order.Load ∷ order.InArea s.line ∷ []) (item-first s.layout i 0 (order.Load ∷ order.InArea s.line ∷ []) refl))
    indexed-silent (layer.One i l u e) le =
        both (bounded e l u (let z : expression_size e < n = omega (arith, le) in z))
        (plainly (order.Save ∷ item_order s.layout i 0 ∷ order.Element l (item_span s.layout i) s.line ∷ []) (item-first s.layout i 0 (order.Element l (item_span s.layout i) s.line ∷ []) refl))
    indexed-silent (layer.Two i l1 u1 l2 u2 m e g) le =
        both (both (bounded e l1 u1 (let z : expression_size e < n = omega (arith, le) in z)) (both saved-silent (bounded g l2 u2 (let z : expression_size g < n = omega (arith, le) in z))))
        (row (all_inside s.unit.bounds (item_span s.layout i) l1 u1 l2 u2 m))
      where
        row : (b : Bool) → Silent (plain (order.Save ∷ item_order s.layout i 0 ∷ row_order b l1 l2 m (item_span s.layout i) s.line ∷ []))
        row true = plainly (order.Save ∷ item_order s.layout i 0 ∷ order.ElementInside l1 l2 m (item_span s.layout i) ∷ []) (item-first s.layout i 0 (order.ElementInside l1 l2 m (item_span s.layout i) ∷ []) refl)
        row false = plainly (order.Save ∷ item_order s.layout i 0 ∷ order.ElementOfTwo l1 l2 m s.line ∷ []) (item-first s.layout i 0 (order.ElementOfTwo l1 l2 m s.line ∷ []) refl)
    indexed-silent (layer.ParamArray i e) le =
        both (b.values e (let z : expression_size e < n = omega (arith, le) in z) 0)
        (plainly (order.Save ∷ item_order s.layout i 0 ∷ order.Load ∷ order.Element (pos 0) 0 s.line ∷ []) (item-first s.layout i 0 (order.Load ∷ order.Element (pos 0) 0 s.line ∷ []) refl))
    indexed-silent (layer.Word i t m e) le =
        both (bounded e (pos 0) (pos m -ℤ pos 1) (let z : expression_size e < n = omega (arith, le) in z))
        (plainly (order.Save ∷ (table_orders s.layout t i ++ order.Element (pos 0) (table_span s.layout t i) s.line ∷ [])) (table-silent s.layout t i (order.Element (pos 0) (table_span s.layout t i) s.line) refl))
    indexed-silent (layer.Elem i t k m w e) le =
        both (bounded e (pos 0) (pos m -ℤ pos 1) (let z : expression_size e < n = omega (arith, le) in z))
        (plainly (order.Save ∷ (table_orders s.layout t i ++ order.Entry k w (table_span s.layout t i) s.line ∷ [])) (table-silent s.layout t i (order.Entry k w (table_span s.layout t i) s.line) refl))
    indexed-silent (layer.Bare e) le = both (b.values e (let z : expression_size e < n = omega (arith, le) in z) 0) (plainly (order.InArea s.line ∷ []) refl)

    spot-silent : (x : Spot-F Arg Cond Expr Spot Ref) → spot_size_layer x ≤ n → Silent (spot_layer s x)
    spot-silent x le = named-silent s.layout (word_item s x) (word_layer s x) (indexed_layer s x) (indexed-silent x le)

    reference-silent : (r : Ref) → reference_size r ≤ n → Silent (reference_of s r).address
    reference-silent r le =
        subst Silent (sym (ap (λ x. x.address) (reference-made s r) ∙ spot-made s (out-Ref r).at))
        (spot-silent (out-Spot (out-Ref r).at) (let z : spot_size_layer (out-Spot (out-Ref r).at) ≤ n = omega (arith, le, reference-size r ∙ spot-size (out-Ref r).at) in z))

    condition-silent : (x : Cond-F Arg Cond Expr Spot Ref) → condition_size_layer x ≤ n → (when : Bool) (mark : ℕ) → Silent (condition_layer s x when mark)
    condition-silent (layer.Cmp op a d) le when mark =
        let f = max (value_of s a).natural (value_of s d).natural in
        both (b.values a (let z : expression_size a < n = omega (arith, le) in z) f)
        (both saved-silent (both (b.values d (let z : expression_size d < n = omega (arith, le) in z) f) (plainly (order.JumpIf (comparator_for when op) mark ∷ []) refl)))
    condition-silent (layer.And a d) le when mark =
        ended (λ end. followed_by (condition_piece s a false (pick_mark when end mark)) (condition_piece s d when mark))
        (λ end. both (b.conditions a (let z : condition_size a < n = omega (arith, le) in z) false (pick_mark when end mark)) (b.conditions d (let z : condition_size d < n = omega (arith, le) in z) when mark))
    condition-silent (layer.Or a d) le when mark =
        ended (λ end. followed_by (condition_piece s a true (pick_mark when mark end)) (condition_piece s d when mark))
        (λ end. both (b.conditions a (let z : condition_size a < n = omega (arith, le) in z) true (pick_mark when mark end)) (b.conditions d (let z : condition_size d < n = omega (arith, le) in z) when mark))

    argument-silent : (x : Arg-F Arg Cond Expr Spot Ref) → argument_size_layer x ≤ n → Silent (argument_layer s x)
    argument-silent (layer.Value e f) le = both (b.values e (let z : expression_size e < n = omega (arith, le) in z) f) saved-silent
    argument-silent (layer.Place r) le = both (b.references r (let z : reference_size r < n = omega (arith, le) in z)) saved-silent
    argument-silent (layer.Array i l) le = plainly (item_order s.layout i 0 ∷ order.IndexLess l s.line ∷ order.Save ∷ []) (item-first s.layout i 0 (order.IndexLess l s.line ∷ order.Save ∷ []) refl)
    argument-silent (layer.Same i) le = plainly (item_order s.layout i 0 ∷ order.Load ∷ order.Save ∷ []) (item-first s.layout i 0 (order.Load ∷ order.Save ∷ []) refl)
    argument-silent (layer.Base i) le = plainly (item_order s.layout i 0 ∷ order.Save ∷ []) (item-first s.layout i 0 (order.Save ∷ []) refl)
    argument-silent (layer.Goal g) le = plainly (label_order s g ∷ []) (none-first (label_order s g) [] (label-silent s g) refl)
    argument-silent (layer.Switch m) le = plainly (order.SwitchOut m ∷ []) refl
    argument-silent (layer.CommonSwitch d) le = plainly (order.SwitchCommon d ∷ []) refl
    argument-silent (layer.Proc q) le = plainly (order.ProcOut q ∷ []) refl
    argument-silent (layer.CommonProc d) le = plainly (order.ProcCommon d ∷ []) refl
    argument-silent (layer.Special k) le = plainly (order.SpecialOut (control_place s.parameters k) ∷ []) refl

    all-silent : (args : List Arg) → total (map argument_size args) < n → Silent (sequence (map (argument_piece s) args))
    all-silent [] lt = plainly [] refl
    all-silent (a ∷ args) lt = both (b.arguments a (let z : argument_size a < n = omega (arith, lt) in z)) (all-silent args (let z : total (map argument_size args) < n = omega (arith, lt) in z))

    unary : (a : Expr) (f : ℕ) (os : List Order) → expression_size a < n → begun_in os ≡ [] → Silent (followed_by (expression_piece s a f) (plain os))
    unary a f os lt h = both (b.values a lt f) (plainly os h)

    binary : (a d : Expr) (f g : ℕ) (os : List Order) → expression_size a < n → expression_size d < n → begun_in os ≡ [] → Silent (two_values (expression_piece s a f) (expression_piece s d g) os)
    binary a d f g os la ld h = both (b.values a la f) (both saved-silent (both (b.values d ld g) (plainly os h)))

    computed-silent : (x : Expr-F Arg Cond Expr Spot Ref) → expression_size_layer x ≤ n → (f : ℕ) → Silent ((computed_layer s x).at f)
    computed-silent (layer.Num k) le f = plainly _ refl
    computed-silent (layer.Const z) le f = plainly _ (rescale-silent s.line 0 f)
    computed-silent (layer.Text i) le f = plainly (item_order s.layout i 0 ∷ rescale_orders s.line 0 f) (item-first s.layout i 0 (rescale_orders s.line 0 f) (rescale-silent s.line 0 f))
    computed-silent (layer.Read r) le f =
        let x = reference_of s r in
        both (b.references r (let z : reference_size r < n = omega (arith, le) in z))
        (plainly (load_orders x.field ++ rescale_orders s.line x.scale f) (none-both (load_orders x.field) (rescale_orders s.line x.scale f) (load-silent x.field) (rescale-silent s.line x.scale f)))
    computed-silent (layer.Call t args) le f =
        let k = answer_scale s.unit t in
        both (all-silent args (let z : total (map argument_size args) < n = omega (arith, le) in z))
        (plainly (call_order s t ∷ rescale_orders s.line k f) (none-first (call_order s t) (rescale_orders s.line k f) (call-silent s t) (rescale-silent s.line k f)))
    computed-silent (layer.Force g e) le f = unary e g (rescale_orders s.line g f) (let z : expression_size e < n = omega (arith, le) in z) (rescale-silent s.line g f)
    computed-silent (layer.Locate r) le f = both (b.references r (let z : reference_size r < n = omega (arith, le) in z)) (plainly (rescale_orders s.line 0 f) (rescale-silent s.line 0 f))
    computed-silent (layer.Bits t d e) le f = unary e (value_of s e).operand (order.Take t d ∷ rescale_orders s.line 0 f) (let z : expression_size e < n = omega (arith, le) in z) (rescale-silent s.line 0 f)
    computed-silent (layer.Logic op a d) le f =
        binary a d (value_of s a).operand (value_of s d).operand (logic_order op ∷ rescale_orders s.line 0 f) (let z : expression_size a < n = omega (arith, le) in z) (let z : expression_size d < n = omega (arith, le) in z)
        (none-first (logic_order op) (rescale_orders s.line 0 f) (logic-silent op) (rescale-silent s.line 0 f))
    computed-silent (layer.Sum a d) le f = binary a d f f (order.Add s.line ∷ []) (let z : expression_size a < n = omega (arith, le) in z) (let z : expression_size d < n = omega (arith, le) in z) refl
    computed-silent (layer.Less a d) le f = binary a d f f (order.Sub s.line ∷ []) (let z : expression_size a < n = omega (arith, le) in z) (let z : expression_size d < n = omega (arith, le) in z) refl
    computed-silent (layer.Minus a) le f = unary a f (order.Neg s.line ∷ []) (let z : expression_size a < n = omega (arith, le) in z) refl
    computed-silent (layer.Times a d) le f =
        binary a d (value_of s a).operand (value_of s d).operand (order.Mul (narrow (pos f -ℤ pos ((value_of s a).operand + (value_of s d).operand))) s.line ∷ [])
        (let z : expression_size a < n = omega (arith, le) in z) (let z : expression_size d < n = omega (arith, le) in z) refl
    computed-silent (layer.Over a d) le f =
        binary a d (value_of s a).operand (value_of s d).operand (order.Div (narrow (pos (f + (value_of s d).operand) -ℤ pos (value_of s a).operand)) s.line ∷ [])
        (let z : expression_size a < n = omega (arith, le) in z) (let z : expression_size d < n = omega (arith, le) in z) refl
    computed-silent (layer.Choice c a d) le f =
        parted-begins (condition_piece s c) (λ end. order.Jump end ∷ []) (expression_piece s a f) (expression_piece s d f) (λ when mark. b.conditions c (let z : condition_size c < n = omega (arith, le) in z) when mark) (λ end. refl)
        (b.values a (let z : expression_size a < n = omega (arith, le) in z) f) (b.values d (let z : expression_size d < n = omega (arith, le) in z) f)

    value-silent : (x : Expr-F Arg Cond Expr Spot Ref) → expression_size_layer x ≤ n → (f : ℕ) → Silent ((value_layer s x).at f)
    value-silent x le f = known-silent (known_layer s x f) ((computed_layer s x).at f) (computed-silent x le f)

    next-below : Below (suc n)
    next-below = record {
      values = λ d lt f. subst (λ v. Silent (v.at f)) (sym (value-made s d)) (value-silent (out-Expr d) (let z : expression_size_layer (out-Expr d) ≤ n = omega (arith, lt, expression-size d) in z) f);
      conditions = λ d lt when mark. subst (λ p. Silent (p when mark)) (sym (condition-made s d)) (condition-silent (out-Cond d) (let z : condition_size_layer (out-Cond d) ≤ n = omega (arith, lt, condition-size d) in z) when mark);
      arguments = λ d lt. subst Silent (sym (argument-made s d)) (argument-silent (out-Arg d) (let z : argument_size_layer (out-Arg d) ≤ n = omega (arith, lt, argument-size d) in z));
      references = λ d lt. reference-silent d (let z : reference_size d ≤ n = omega (arith, lt) in z);
    }

  below : (n : ℕ) → Below n
  below zero = record {
    values = λ d lt f. absurd (omega (arith, lt));
    conditions = λ d lt when mark. absurd (omega (arith, lt));
    arguments = λ d lt. absurd (omega (arith, lt));
    references = λ d lt. absurd (omega (arith, lt));
  }
  below (suc n) = next-below n (below n)

  pub expression-begins : (e : Expr) (f : ℕ) → Silent (expression_piece s e f)
  expression-begins e f = (below (suc (expression_size e))).values e (let z : expression_size e < suc (expression_size e) = omega arith in z) f

  pub condition-begins : (d : Cond) (when : Bool) (mark : ℕ) → Silent (condition_piece s d when mark)
  condition-begins d when mark = (below (suc (condition_size d))).conditions d (let z : condition_size d < suc (condition_size d) = omega arith in z) when mark

  pub address-begins : (r : Ref) → Silent (reference_of s r).address
  address-begins r = (below (suc (reference_size r))).references r (let z : reference_size r < suc (reference_size r) = omega arith in z)

  pub arguments-begin : (args : List Arg) → Silent (sequence (map (argument_piece s) args))
  arguments-begin args = let n = suc (total (map argument_size args)) in all-silent n (below n) args (let z : total (map argument_size args) < n = omega arith in z)
