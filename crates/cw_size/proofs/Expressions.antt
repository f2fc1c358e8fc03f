-- The orders of expressions, conditions, references and arguments are short by the tokens of their trees.
use Rattle.std.proofs.Common.{◌≡◌, ℕ, zero, suc, ◌+◌, ◌%◌, ◌*◌, ◌<◌, ◌≤◌, max, ℤ, pos, ◌-ℤ◌, List, [], ◌∷◌, ◌++◌, map, Bool, true, false, not, Option, Some, None, refl, sym, ap, ◌∙◌, subst, arith}
use Rattle.std.proofs.lemmas.Option.{none-some}
use Rattle.cw_word.specs.Decimal.{decimal_floor}
use Rattle.cw_word.specs.Word.{unsigned}
use Rattle.cw_order.specs.declared.order.Order.{Order}
use Rattle.cw_order.specs.declared.order.Order.TheVariants as order
use Rattle.cw_unit.specs.declared.layout.Layout.{Layout}
use Rattle.cw_unit.specs.declared.unit.Field.{Field}
use Rattle.cw_unit.specs.declared.unit.Arg.{Arg, out-Arg}
use Rattle.cw_unit.specs.declared.unit.Cond.{Cond, out-Cond}
use Rattle.cw_unit.specs.declared.unit.Spot.{Spot, out-Spot}
use Rattle.cw_unit.specs.declared.unit.Ref.{Ref, out-Ref}
use Rattle.cw_unit.specs.declared.unit.Expr.{Expr, Expr-F, out-Expr}
use Rattle.cw_unit.specs.declared.unit.Arg.TheOpen as layer
use Rattle.cw_unit.specs.declared.unit.Arg.TheOpen.{Arg-F, Cond-F, Spot-F, Ref-F}
use Rattle.cw_unit.specs.Scales.{answer_scale}
use Rattle.cw_gen_expr.specs.Pieces.{Piece, plain, followed_by, sequence, with_end}
use Rattle.cw_gen_expr.specs.ReferenceExpressions.{Scope, ConditionPiece, Reference, saved, two_values, control_place, item_order, item_span, row_order, table_span, table_orders, bounds_orders, load_orders, rescale_orders, logic_order, narrow, number_order, known_or, named_or, comparator_for, pick_mark, call_order, label_order, value_of, condition_piece, argument_piece, reference_of, expression_piece}
use Rattle.cw_gen_expr.specs.KnownValues.{all_inside}
use Rattle.cw_gen_expr.proofs.Layers.{value_layer, value-made, spot-made, reference-made, condition-made, argument-made, total, expression_size, expression-size, expression_size_layer, argument_size, argument-size, argument_size_layer, spot-size, spot_size_layer, reference_size, reference-size, condition_size, condition-size, condition_size_layer}
use Rattle.cw_gen_expr.proofs.Layers as made
use Rattle.cw_gen_unit.specs.ReferenceStatements.{parted_piece}
use Rattle.cw_tokens.specs.LeastTokens.{separated, part, expression_tokens, argument_tokens, condition_tokens, reference_tokens}
use Rattle.cw_tmpl.specs.Sizes.{listed_size, listed_sizes}
use Rattle.cw_size.proofs.Short.{word_short, one_short, sizes-append, first_short, Short, plainly, both_short, ended_short, eased}
use Rattle.cw_size.proofs.OrderSizes.{item-first, item-load, saved-item, saved-table, bounds-short, take-short, load-part-short, element-short, row-short, entry-short, rescale-short, rescale-whole, rescale-same, logic-short, product-short, call-short, label-short, hand-short}
use Rattle.cw_size.proofs.TokenLayers.{expression_layer, expression-tokens, argument_layer, argument-tokens, condition_layer, condition-tokens, spot_layer, spot-tokens, reference-tokens, separated-within}

pub parted_short : {m k n : ℕ} {i j : ℕ} (c : ConditionPiece) (between : ℕ → List Order) (a b : Piece) → ((when : Bool) (mark : ℕ) → Short (c when mark) 0 m) → ((end : ℕ) → listed_sizes (between end) ≤ 3) → Short a i k → Short b j n → Short (parted_piece c between a b) (i + j) (m + k + n + 3)
parted_short {m = m} {k = k} {n = n} {i = i} {j = j} c between a b hc few ha hb =
    ended_short (λ end. followed_by (with_end (λ other. followed_by (c false other) (followed_by a (plain (between end))))) b)
    (λ end. eased
    (both_short
    (ended_short (λ other. followed_by (c false other) (followed_by a (plain (between end))))
    (λ other. both_short (hc false other) (both_short ha (plainly (between end) 3 (few end)))))
    hb)
    (let z : m + (k + 3) + n + (i + j) ≤ m + k + n + 3 + (0 + (i + 0) + j) = omega arith in z))

-- ---- trees

-- What of 32 bytes for each token of an address is left, by what it reads or writes of its word. The load of a part has at most ten bytes more than
-- that of a word. A value may have five beside those of its tokens, and 14 of them where it is at a scale that needs no rescaling.
abbrev pub spared : Option Field → ℕ
spared None = 14
spared (Some s) = 24

most-spared : (o : Option Field) → spared o ≤ 24
most-spared None = omega arith
most-spared (Some s) = omega arith

least-spared : (o : Option Field) → 14 ≤ spared o
least-spared None = omega arith
least-spared (Some s) = omega arith

-- the address of a LOCATION parameter's item leaves as many of 32 bytes for its one token, and two indexes of 128 for the four beside them
through-spared : (o : Option Field) → 18 + spared o ≤ 32 * (1 + part o)
through-spared None = omega arith
through-spared (Some s) = omega arith

two-spared : (o : Option Field) → 114 + spared o ≤ 32 * (4 + part o)
two-spared None = omega arith
two-spared (Some s) = omega arith

loads : (o : Option Field) → listed_sizes (load_orders o) + 9 ≤ spared o
loads None = let z : 5 + 0 + 9 ≤ 14 = omega arith in z
loads (Some s) = let h = load-part-short s.t s.b (not s.unsigned) in let one = one_short (order.LoadPart s.t s.b (not s.unsigned)) 15 h in let z : listed_sizes (order.LoadPart s.t s.b (not s.unsigned) ∷ []) + 9 ≤ 24 = omega (arith, one) in z

module _ (s : Scope) where
  -- the rescaling from a scale to another, and so much to spare, have at most 14 bytes
  abbrev Rescaled : (from to spare : ℕ) → Type 0
  Rescaled from to spare = listed_sizes (rescale_orders s.line from to) + spare ≤ 14

  record Below (n : ℕ) : Type 0 where
    values : (d : Expr) → expression_size d < n → (f spare : ℕ) → Rescaled (value_of s d).operand f spare → Short (expression_piece s d f) spare (32 * expression_tokens d + 5)
    conditions : (d : Cond) → condition_size d < n → (when : Bool) (mark : ℕ) → Short (condition_piece s d when mark) 0 (32 * condition_tokens d)
    arguments : (d : Arg) → argument_size d < n → Short (argument_piece s d) 0 (32 * argument_tokens d + 6)
    references : (d : Ref) → reference_size d < n → Short (reference_of s d).address (spared (reference_of s d).field) (32 * reference_tokens d)

  pub saved_short : Short saved 0 1
  saved_short = plainly (order.Save ∷ []) 1 (let z : 1 + 0 ≤ 1 = omega arith in z)

  module _ (n : ℕ) (b : Below n) where
    -- at whatever scale, at scale 0, and at its own
    at-scale : (d : Expr) → expression_size d < n → (f : ℕ) → Short (expression_piece s d f) 0 (32 * expression_tokens d + 5)
    at-scale d lt f =
        let from = (value_of s d).operand in
        let h = rescale-short s.line from f in
        b.values d lt f 0 (let z : listed_sizes (rescale_orders s.line from f) + 0 ≤ 14 = omega (arith, h) in z)

    at-zero : (d : Expr) → expression_size d < n → Short (expression_piece s d 0) 9 (32 * expression_tokens d + 5)
    at-zero d lt =
        let from = (value_of s d).operand in
        let h = rescale-whole s.line from in
        b.values d lt 0 9 (let z : listed_sizes (rescale_orders s.line from 0) + 9 ≤ 14 = omega (arith, h) in z)

    at-operand : (d : Expr) → expression_size d < n → Short (expression_piece s d (value_of s d).operand) 14 (32 * expression_tokens d + 5)
    at-operand d lt =
        let f = (value_of s d).operand in
        let h = rescale-same s.line f in
        b.values d lt f 14 (let z : listed_sizes (rescale_orders s.line f f) + 14 ≤ 14 = omega (arith, h) in z)

    bounded : (e : Expr) (l u : ℤ) → expression_size e < n → Short (followed_by (expression_piece s e 0) (plain (bounds_orders s.unit.bounds s.line l u))) 9 (32 * expression_tokens e + 25)
    bounded e l u lt =
        eased (both_short (at-zero e lt) (plainly (bounds_orders s.unit.bounds s.line l u) 20 (bounds-short s.unit.bounds s.line l u)))
        (let z : 32 * expression_tokens e + 5 + 20 + 9 ≤ 32 * expression_tokens e + 25 + (9 + 0) = omega arith in z)

    -- indexes, and the orders that make an address of them
    indexed : {p : Piece} (l m k left most : ℕ) (os : List Order) → Short p l m → listed_sizes os ≤ k → m + k + left ≤ most + l → Short (followed_by p (plain os)) left most
    indexed l m k left most os h le z =
        eased (both_short h (plainly os k le)) (let y : m + k + left ≤ most + (l + 0) = omega (arith, z) in y)

    -- an address of no index
    direct : (left most : ℕ) (os : List Order) → listed_sizes os + left ≤ most → Short (followed_by (plain []) (plain os)) left most
    direct left most os h = record { at = λ place next. h }

    indexed_short : (x : Spot-F Arg Cond Expr Spot Ref) (field : Option Field) → spot_size_layer x ≤ n → Short (made.indexed_layer s x) (spared field) (32 * spot_layer x field)
    indexed_short (layer.Direct i) field le =
        let os : List Order = item_order s.layout i 0 ∷ [] in
        let h = item-first s.layout i 0 [] 0 (let z : 0 ≤ 0 = omega arith in z) in
        let left = most-spared field in
        direct (spared field) (32 * 1) os (let z : listed_sizes os + spared field ≤ 32 * 1 = omega (arith, h, left) in z)
    indexed_short (layer.Through i) field le =
        let os : List Order = item_order s.layout i 0 ∷ order.Load ∷ order.InArea s.line ∷ [] in
        let h = item-load s.layout i 0 (order.InArea s.line ∷ []) 9 (let z : 9 + 0 ≤ 9 = omega arith in z) in
        let left = through-spared field in
        direct (spared field) (32 * (1 + part field)) os (let z : listed_sizes os + spared field ≤ 32 * (1 + part field) = omega (arith, h, left) in z)
    indexed_short (layer.One i l u e) field le =
        let span = item_span s.layout i in
        let o = order.Element l span s.line in
        let left = most-spared field in
        indexed 9 (32 * expression_tokens e + 25) 40 (spared field) (32 * (3 + expression_tokens e)) (order.Save ∷ item_order s.layout i 0 ∷ o ∷ []) (bounded e l u (let z : expression_size e < n = omega (arith, le) in z))
        (saved-item s.layout i o 31 (element-short l span s.line))
        (let z : 32 * expression_tokens e + 25 + 40 + spared field ≤ 32 * (3 + expression_tokens e) + 9 = omega (arith, left) in z)
    indexed_short (layer.Two i l1 u1 l2 u2 m e g) field le =
        let span = item_span s.layout i in
        let inside = all_inside s.unit.bounds span l1 u1 l2 u2 m in
        let o = row_order inside l1 l2 m span s.line in
        let left = two-spared field in
        indexed (9 + (0 + 9)) (32 * expression_tokens e + 25 + (1 + (32 * expression_tokens g + 25))) 76 (spared field) (32 * (4 + (part field + (expression_tokens e + expression_tokens g)))) (order.Save ∷ item_order s.layout i 0 ∷ o ∷ [])
        (both_short (bounded e l1 u1 (let z : expression_size e < n = omega (arith, le) in z)) (both_short saved_short (bounded g l2 u2 (let z : expression_size g < n = omega (arith, le) in z))))
        (saved-item s.layout i o 67 (row-short inside l1 l2 m span s.line))
        (let z : 32 * expression_tokens e + 25 + (1 + (32 * expression_tokens g + 25)) + 76 + spared field ≤ 32 * (4 + (part field + (expression_tokens e + expression_tokens g))) + (9 + (0 + 9)) = omega (arith, left) in z)
    indexed_short (layer.ParamArray i e) field le =
        let o = order.Element (pos 0) 0 s.line in
        let left = most-spared field in
        indexed 9 (32 * expression_tokens e + 5) 30 (spared field) (32 * (3 + expression_tokens e)) (order.Save ∷ item_order s.layout i 0 ∷ order.Load ∷ o ∷ []) (at-zero e (let z : expression_size e < n = omega (arith, le) in z))
        (saved-table s.layout true i o 21 (let z : 0 + 21 ≤ 21 = omega arith in z))
        (let z : 32 * expression_tokens e + 5 + 30 + spared field ≤ 32 * (3 + expression_tokens e) + 9 = omega (arith, left) in z)
    indexed_short (layer.Word i t m e) field le =
        let o = order.Element (pos 0) (table_span s.layout t i) s.line in
        let left = most-spared field in
        indexed 9 (32 * expression_tokens e + 25) 30 (spared field) (32 * (3 + expression_tokens e)) (order.Save ∷ (table_orders s.layout t i ++ o ∷ []))
        (bounded e (pos 0) (pos m -ℤ pos 1) (let z : expression_size e < n = omega (arith, le) in z))
        (saved-table s.layout t i o 21 (let z : 0 + 21 ≤ 21 = omega arith in z))
        (let z : 32 * expression_tokens e + 25 + 30 + spared field ≤ 32 * (3 + expression_tokens e) + 9 = omega (arith, left) in z)
    indexed_short (layer.Elem i t k m w e) field le =
        let span = table_span s.layout t i in
        let o = order.Entry k w span s.line in
        let left = most-spared field in
        indexed 9 (32 * expression_tokens e + 25) 54 (spared field) (32 * (3 + expression_tokens e)) (order.Save ∷ (table_orders s.layout t i ++ o ∷ []))
        (bounded e (pos 0) (pos m -ℤ pos 1) (let z : expression_size e < n = omega (arith, le) in z))
        (saved-table s.layout t i o 45 (entry-short k w span s.line))
        (let z : 32 * expression_tokens e + 25 + 54 + spared field ≤ 32 * (3 + expression_tokens e) + 9 = omega (arith, left) in z)
    indexed_short (layer.Bare e) field le =
        let left = most-spared field in
        indexed 9 (32 * expression_tokens e + 5) 9 (spared field) (32 * (2 + expression_tokens e)) (order.InArea s.line ∷ []) (at-zero e (let z : expression_size e < n = omega (arith, le) in z)) (let z : 9 + 0 ≤ 9 = omega arith in z)
        (let z : 32 * expression_tokens e + 5 + 9 + spared field ≤ 32 * (2 + expression_tokens e) + 9 = omega (arith, left) in z)

    -- one order where the word is known
    named_short : (y : Layout) (i : ℕ) (w : Option ℕ) (p : Piece) (field : Option Field) (tokens : ℕ) → ((m : ℕ) → w ≡ Some m → 1 ≤ tokens) → Short p (spared field) (32 * tokens) → Short (named_or y i w p) (spared field) (32 * tokens)
    named_short y i (Some m) p field tokens some h =
        let os : List Order = item_order y i m ∷ [] in
        let one = item-first y i m [] 0 (let z : 0 ≤ 0 = omega arith in z) in
        let left = most-spared field in
        record { at = λ place next. (let z : listed_sizes os + spared field ≤ 32 * tokens = omega (arith, one, left, some m refl) in z) }
    named_short y i None p field tokens some h = h

    word_tokens : (x : Spot-F Arg Cond Expr Spot Ref) (field : Option Field) (m : ℕ) → made.word_layer s x ≡ Some m → 1 ≤ spot_layer x field
    word_tokens (layer.One i l u e) field m known = omega arith
    word_tokens (layer.Two i l1 u1 l2 u2 k e g) field m known = omega arith
    word_tokens (layer.Word i t k e) field m known = omega arith
    word_tokens (layer.Elem i t k l w e) field m known = omega arith
    word_tokens _ field m known = absurd (none-some m known)

    spot_short : (x : Spot-F Arg Cond Expr Spot Ref) (field : Option Field) → spot_size_layer x ≤ n → Short (made.spot_layer s x) (spared field) (32 * spot_layer x field)
    spot_short x field le = named_short s.layout (made.word_item s x) (made.word_layer s x) (made.indexed_layer s x) field (spot_layer x field) (word_tokens x field) (indexed_short x field le)

    reference_short : (r : Ref) → reference_size r ≤ n → Short (reference_of s r).address (spared (reference_of s r).field) (32 * reference_tokens r)
    reference_short r le =
        let x = out-Ref r in
        let same = reference-tokens r ∙ spot-tokens x.at x.field in
        subst (λ (y : Reference). Short y.address (spared y.field) (32 * reference_tokens r)) (sym (reference-made s r))
        (subst (λ (p : Piece). Short p (spared x.field) (32 * reference_tokens r)) (sym (spot-made s x.at))
        (subst (λ (k : ℕ). Short (made.spot_layer s (out-Spot x.at)) (spared x.field) (32 * k)) (sym same)
        (spot_short (out-Spot x.at) x.field (let z : spot_size_layer (out-Spot x.at) ≤ n = omega (arith, le, reference-size r ∙ spot-size x.at) in z))))

    condition_short : (x : Cond-F Arg Cond Expr Spot Ref) → condition_size_layer x ≤ n → (when : Bool) (mark : ℕ) → Short (made.condition_layer s x when mark) 0 (32 * condition_layer x)
    condition_short (layer.Cmp op a d) le when mark =
        let f = max (value_of s a).natural (value_of s d).natural in
        eased
        (both_short (at-scale a (let z : expression_size a < n = omega (arith, le) in z) f)
        (both_short saved_short
        (both_short (at-scale d (let z : expression_size d < n = omega (arith, le) in z) f) (plainly (order.JumpIf (comparator_for when op) mark ∷ []) 8 (let z : 8 + 0 ≤ 8 = omega arith in z)))))
        (let z : 32 * expression_tokens a + 5 + (1 + (32 * expression_tokens d + 5 + 8)) + 0 ≤ 32 * suc (expression_tokens a + expression_tokens d) + (0 + (0 + (0 + 0))) = omega arith in z)
    condition_short (layer.And a d) le when mark =
        ended_short (λ end. followed_by (condition_piece s a false (pick_mark when end mark)) (condition_piece s d when mark))
        (λ end. eased
        (both_short (b.conditions a (let z : condition_size a < n = omega (arith, le) in z) false (pick_mark when end mark)) (b.conditions d (let z : condition_size d < n = omega (arith, le) in z) when mark))
        (let z : 32 * condition_tokens a + 32 * condition_tokens d + 0 ≤ 32 * suc (condition_tokens a + condition_tokens d) + (0 + 0) = omega arith in z))
    condition_short (layer.Or a d) le when mark =
        ended_short (λ end. followed_by (condition_piece s a true (pick_mark when mark end)) (condition_piece s d when mark))
        (λ end. eased
        (both_short (b.conditions a (let z : condition_size a < n = omega (arith, le) in z) true (pick_mark when mark end)) (b.conditions d (let z : condition_size d < n = omega (arith, le) in z) when mark))
        (let z : 32 * condition_tokens a + 32 * condition_tokens d + 0 ≤ 32 * suc (condition_tokens a + condition_tokens d) + (0 + 0) = omega arith in z))

    -- orders of one token
    single : (os : List Order) (spare : ℕ) → listed_sizes os + spare ≤ 37 → Short (plain os) spare (32 * 1 + 5)
    single os spare h = record { at = λ place next. h }

    argument : (os : List Order) → listed_sizes os ≤ 38 → Short (plain os) 0 (32 * 1 + 6)
    argument os h = plainly os (32 * 1 + 6) (let z : listed_sizes os ≤ 32 * 1 + 6 = omega (arith, h) in z)

    argument_short : (x : Arg-F Arg Cond Expr Spot Ref) → argument_size_layer x ≤ n → Short (made.argument_layer s x) 0 (32 * argument_layer x + 6)
    argument_short (layer.Value e f) le =
        eased (both_short (at-scale e (let z : expression_size e < n = omega (arith, le) in z) f) saved_short)
        (let z : 32 * expression_tokens e + 5 + 1 + 0 ≤ 32 * expression_tokens e + 6 + (0 + 0) = omega arith in z)
    argument_short (layer.Place r) le =
        eased (both_short (b.references r (let z : reference_size r < n = omega (arith, le) in z)) saved_short)
        (let z : 32 * reference_tokens r + 1 + 0 ≤ 32 * reference_tokens r + 6 + (spared (reference_of s r).field + 0) = omega arith in z)
    argument_short (layer.Array i l) le =
        argument (item_order s.layout i 0 ∷ order.IndexLess l s.line ∷ order.Save ∷ []) (item-first s.layout i 0 (order.IndexLess l s.line ∷ order.Save ∷ []) 30 (let z : 12 + (1 + 0) ≤ 30 = omega arith in z))
    argument_short (layer.Same i) le = argument (item_order s.layout i 0 ∷ order.Load ∷ order.Save ∷ []) (item-load s.layout i 0 (order.Save ∷ []) 31 (let z : 1 + 0 ≤ 31 = omega arith in z))
    argument_short (layer.Base i) le = argument (item_order s.layout i 0 ∷ order.Save ∷ []) (item-first s.layout i 0 (order.Save ∷ []) 30 (let z : 1 + 0 ≤ 30 = omega arith in z))
    argument_short (layer.Goal g) le =
        let h = label-short s g in
        argument (label_order s g ∷ []) (one_short (label_order s g) 38 (let z : listed_size (label_order s g) ≤ 38 = omega (arith, h) in z))
    argument_short (layer.Switch k) le = argument (order.SwitchOut k ∷ []) (let z : 5 + 0 ≤ 38 = omega arith in z)
    argument_short (layer.CommonSwitch d) le = argument (order.SwitchCommon d ∷ []) (let z : 5 + 0 ≤ 38 = omega arith in z)
    argument_short (layer.Proc q) le = argument (order.ProcOut q ∷ []) (let z : 5 + 0 ≤ 38 = omega arith in z)
    argument_short (layer.CommonProc d) le = argument (order.ProcCommon d ∷ []) (let z : 5 + 0 ≤ 38 = omega arith in z)
    argument_short (layer.Special k) le = argument (order.SpecialOut (control_place s.parameters k) ∷ []) (one_short (order.SpecialOut (control_place s.parameters k)) 38 (let z : listed_size (order.SpecialOut (control_place s.parameters k)) ≤ 38 = omega (arith, hand-short (control_place s.parameters k)) in z))

    all_short : (args : List Arg) → total (map argument_size args) < n → Short (sequence (map (argument_piece s) args)) 0 (32 * separated (map argument_tokens args))
    all_short [] lt = plainly [] (32 * 0) (let z : 0 ≤ 32 * 0 = omega arith in z)
    all_short (a ∷ args) lt =
        let rest = separated (map argument_tokens args) in
        eased (both_short (b.arguments a (let z : argument_size a < n = omega (arith, lt) in z)) (all_short args (let z : total (map argument_size args) < n = omega (arith, lt) in z)))
        (let z : 32 * argument_tokens a + 6 + 32 * rest + 0 ≤ 32 * (suc (argument_tokens a) + rest) + (0 + 0) = omega arith in z)

    -- one value, and what is done with it, with so many tokens beside it
    unary : (e : Expr) (f : ℕ) (os : List Order) (tokens m spare : ℕ) → expression_size e < n → listed_sizes os ≤ m → m + spare ≤ 32 * tokens → Short (followed_by (expression_piece s e f) (plain os)) spare (32 * (tokens + expression_tokens e) + 5)
    unary e f os tokens m spare lt h le =
        eased (both_short (at-scale e lt f) (plainly os m h)) (let z : 32 * expression_tokens e + 5 + m + spare ≤ 32 * (tokens + expression_tokens e) + 5 + (0 + 0) = omega (arith, le) in z)

    -- two values, and what is done with them
    binary : (a d : Expr) (f : ℕ) (os : List Order) (spare : ℕ) → expression_size a < n → expression_size d < n → listed_sizes os + spare ≤ 26
        → Short (two_values (expression_piece s a f) (expression_piece s d f) os) spare (32 * suc (expression_tokens a + expression_tokens d) + 5)
    binary a d f os spare la ld h =
        eased (both_short (at-scale a la f) (both_short saved_short (both_short (at-scale d ld f) (plainly os (listed_sizes os) (let z : listed_sizes os ≤ listed_sizes os = omega arith in z)))))
        (let z : 32 * expression_tokens a + 5 + (1 + (32 * expression_tokens d + 5 + listed_sizes os)) + spare ≤ 32 * suc (expression_tokens a + expression_tokens d) + 5 + (0 + (0 + (0 + 0))) = omega (arith, h) in z)

    -- each at its own scale
    operands : (a d : Expr) (os : List Order) (spare : ℕ) → expression_size a < n → expression_size d < n → listed_sizes os + spare ≤ 54
        → Short (two_values (expression_piece s a (value_of s a).operand) (expression_piece s d (value_of s d).operand) os) spare (32 * suc (expression_tokens a + expression_tokens d) + 5)
    operands a d os spare la ld h =
        eased (both_short (at-operand a la) (both_short saved_short (both_short (at-operand d ld) (plainly os (listed_sizes os) (let z : listed_sizes os ≤ listed_sizes os = omega arith in z)))))
        (let z : 32 * expression_tokens a + 5 + (1 + (32 * expression_tokens d + 5 + listed_sizes os)) + spare ≤ 32 * suc (expression_tokens a + expression_tokens d) + 5 + (14 + (0 + (14 + 0))) = omega (arith, h) in z)

    computed_short : (x : Expr-F Arg Cond Expr Spot Ref) → expression_size_layer x ≤ n → (f spare : ℕ) → Rescaled (value_layer s x).operand f spare → Short ((made.computed_layer s x).at f) spare (32 * expression_layer x + 5)
    computed_short (layer.Num k) le f spare r =
        let o = number_order (decimal_floor k.whole k.digits k.places f) in
        let one = one_short o 3 (word_short (decimal_floor k.whole k.digits k.places f % 65536)) in
        single (o ∷ []) spare (let z : listed_sizes (o ∷ []) + spare ≤ 37 = omega (arith, one, r) in z)
    computed_short (layer.Const z) le f spare r =
        let h = first_short (number_order (unsigned z)) (rescale_orders s.line 0 f) 3 (listed_sizes (rescale_orders s.line 0 f)) (word_short (unsigned z % 65536)) (let y : listed_sizes (rescale_orders s.line 0 f) ≤ listed_sizes (rescale_orders s.line 0 f) = omega arith in y) in
        single (number_order (unsigned z) ∷ rescale_orders s.line 0 f) spare (let y : listed_sizes (number_order (unsigned z) ∷ rescale_orders s.line 0 f) + spare ≤ 37 = omega (arith, h, r) in y)
    computed_short (layer.Text i) le f spare r =
        let h = item-first s.layout i 0 (rescale_orders s.line 0 f) (listed_sizes (rescale_orders s.line 0 f)) (let y : listed_sizes (rescale_orders s.line 0 f) ≤ listed_sizes (rescale_orders s.line 0 f) = omega arith in y) in
        single (item_order s.layout i 0 ∷ rescale_orders s.line 0 f) spare (let z : listed_sizes (item_order s.layout i 0 ∷ rescale_orders s.line 0 f) + spare ≤ 37 = omega (arith, h, r) in z)
    computed_short (layer.Read t) le f spare r =
        let x = reference_of s t in
        let os : List Order = load_orders x.field ++ rescale_orders s.line x.scale f in
        let all = sizes-append (load_orders x.field) (rescale_orders s.line x.scale f) in
        let first = loads x.field in
        eased
        (both_short (b.references t (let z : reference_size t < n = omega (arith, le) in z)) (plainly os (listed_sizes os) (let z : listed_sizes os ≤ listed_sizes os = omega arith in z)))
        (let z : 32 * reference_tokens t + listed_sizes os + spare ≤ 32 * reference_tokens t + 5 + (spared x.field + 0) = omega (arith, all, first, r) in z)
    computed_short (layer.Call t args) le f spare r =
        let k = answer_scale s.unit t in
        let ns = map argument_tokens args in
        let listed = separated-within ns in
        let rest : List Order = rescale_orders s.line k f in
        let h = first_short (call_order s t) rest 13 (listed_sizes rest) (call-short s t) (let z : listed_sizes rest ≤ listed_sizes rest = omega arith in z) in
        eased
        (both_short (all_short args (let z : total (map argument_size args) < n = omega (arith, le) in z)) (plainly (call_order s t ∷ rest) (13 + listed_sizes rest) h))
        (let z : 32 * separated ns + (13 + listed_sizes rest) + spare ≤ 32 * expression_layer (layer.Call t args) + 5 + (0 + 0) = omega (arith, listed, r) in z)
    computed_short (layer.Force g e) le f spare r =
        unary e g (rescale_orders s.line g f) 3 (listed_sizes (rescale_orders s.line g f)) spare (let z : expression_size e < n = omega (arith, le) in z) (let z : listed_sizes (rescale_orders s.line g f) ≤ listed_sizes (rescale_orders s.line g f) = omega arith in z)
        (let z : listed_sizes (rescale_orders s.line g f) + spare ≤ 32 * 3 = omega (arith, r) in z)
    computed_short (layer.Locate t) le f spare r =
        let os : List Order = rescale_orders s.line 0 f in
        eased (both_short (b.references t (let z : reference_size t < n = omega (arith, le) in z)) (plainly os (listed_sizes os) (let z : listed_sizes os ≤ listed_sizes os = omega arith in z)))
        (let z : 32 * reference_tokens t + listed_sizes os + spare ≤ 32 * (3 + reference_tokens t) + 5 + (spared (reference_of s t).field + 0) = omega (arith, r) in z)
    computed_short (layer.Bits t d e) le f spare r =
        let os : List Order = rescale_orders s.line 0 f in
        unary e (value_of s e).operand (order.Take t d ∷ os) 6 (10 + listed_sizes os) spare (let z : expression_size e < n = omega (arith, le) in z)
        (first_short (order.Take t d) os 10 (listed_sizes os) (take-short t d) (let z : listed_sizes os ≤ listed_sizes os = omega arith in z)) (let z : 10 + listed_sizes os + spare ≤ 32 * 6 = omega (arith, r) in z)
    computed_short (layer.Logic op a d) le f spare r =
        let os : List Order = rescale_orders s.line 0 f in
        let h = first_short (logic_order op) os 3 (listed_sizes os) (logic-short op) (let z : listed_sizes os ≤ listed_sizes os = omega arith in z) in
        operands a d (logic_order op ∷ os) spare (let z : expression_size a < n = omega (arith, le) in z) (let z : expression_size d < n = omega (arith, le) in z)
        (let z : listed_sizes (logic_order op ∷ os) + spare ≤ 54 = omega (arith, h, r) in z)
    computed_short (layer.Sum a d) le f spare r =
        binary a d f (order.Add s.line ∷ []) spare (let z : expression_size a < n = omega (arith, le) in z) (let z : expression_size d < n = omega (arith, le) in z) (let z : 10 + 0 + spare ≤ 26 = omega (arith, r) in z)
    computed_short (layer.Less a d) le f spare r =
        binary a d f (order.Sub s.line ∷ []) spare (let z : expression_size a < n = omega (arith, le) in z) (let z : expression_size d < n = omega (arith, le) in z) (let z : 12 + 0 + spare ≤ 26 = omega (arith, r) in z)
    computed_short (layer.Minus a) le f spare r =
        eased (both_short (at-scale a (let z : expression_size a < n = omega (arith, le) in z) f) (plainly (order.Neg s.line ∷ []) 9 (let z : 9 + 0 ≤ 9 = omega arith in z)))
        (let z : 32 * expression_tokens a + 5 + 9 + spare ≤ 32 * suc (expression_tokens a) + 5 + (0 + 0) = omega (arith, r) in z)
    computed_short (layer.Times a d) le f spare r =
        let power = narrow (pos f -ℤ pos ((value_of s a).operand + (value_of s d).operand)) in
        let h = product-short s.line power in
        operands a d (order.Mul power s.line ∷ []) spare (let z : expression_size a < n = omega (arith, le) in z) (let z : expression_size d < n = omega (arith, le) in z)
        (let one = one_short (order.Mul power s.line) 24 h in let z : listed_sizes (order.Mul power s.line ∷ []) + spare ≤ 54 = omega (arith, one, r) in z)
    computed_short (layer.Over a d) le f spare r =
        let power = narrow (pos (f + (value_of s d).operand) -ℤ pos (value_of s a).operand) in
        operands a d (order.Div power s.line ∷ []) spare (let z : expression_size a < n = omega (arith, le) in z) (let z : expression_size d < n = omega (arith, le) in z) (let z : 25 + 0 + spare ≤ 54 = omega (arith, r) in z)
    computed_short (layer.Choice c a d) le f spare r =
        let i = 32 * condition_tokens c in
        let j = 32 * expression_tokens a + 5 in
        let k = 32 * expression_tokens d + 5 in
        eased
        (parted_short (condition_piece s c) (λ end. order.Jump end ∷ []) (expression_piece s a f) (expression_piece s d f) (λ when mark. b.conditions c (let z : condition_size c < n = omega (arith, le) in z) when mark) (λ end. (let z : 3 + 0 ≤ 3 = omega arith in z))
        (at-scale a (let z : expression_size a < n = omega (arith, le) in z) f) (at-scale d (let z : expression_size d < n = omega (arith, le) in z) f))
        (let z : i + j + k + 3 + spare ≤ 32 * (3 + (condition_tokens c + (expression_tokens a + expression_tokens d))) + 5 + (0 + 0) = omega (arith, r) in z)

    -- one constant where the value is known
    known_short : (k : Option ℤ) (p : Piece) (spare tokens : ℕ) → spare ≤ 14 → ((z : ℤ) → k ≡ Some z → 1 ≤ tokens) → Short p spare (32 * tokens + 5) → Short (known_or k p) spare (32 * tokens + 5)
    known_short (Some z) p spare tokens few some h = record { at = λ place next. (let o = number_order (unsigned z) in let one = one_short o 3 (word_short (unsigned z % 65536)) in let y : listed_sizes (o ∷ []) + spare ≤ 32 * tokens + 5 = omega (arith, few, some z refl, one) in y) }
    known_short None p spare tokens few some h = h

    value_tokens : (x : Expr-F Arg Cond Expr Spot Ref) (f : ℕ) (z : ℤ) → made.known_layer s x f ≡ Some z → 1 ≤ expression_layer x
    value_tokens (layer.Num k) f z known = omega arith
    value_tokens (layer.Const y) f z known = omega arith
    value_tokens (layer.Force g e) f z known = omega arith
    value_tokens (layer.Bits t d e) f z known = omega arith
    value_tokens (layer.Logic op a d) f z known = omega arith
    value_tokens (layer.Sum a d) f z known = omega arith
    value_tokens (layer.Less a d) f z known = omega arith
    value_tokens (layer.Minus a) f z known = omega arith
    value_tokens (layer.Times a d) f z known = omega arith
    value_tokens (layer.Over a d) f z known = omega arith
    value_tokens _ f z known = absurd (none-some z known)

    value_short : (x : Expr-F Arg Cond Expr Spot Ref) → expression_size_layer x ≤ n → (f spare : ℕ) → Rescaled (value_layer s x).operand f spare → Short ((value_layer s x).at f) spare (32 * expression_layer x + 5)
    value_short x le f spare r =
        known_short (made.known_layer s x f) ((made.computed_layer s x).at f) spare (expression_layer x) (let z : spare ≤ 14 = omega (arith, r) in z) (value_tokens x f) (computed_short x le f spare r)

    next_below : Below (suc n)
    next_below = record {
      values = λ d lt f spare r.
          subst (λ (p : Piece). Short p spare (32 * expression_tokens d + 5)) (sym (ap (λ v. v.at f) (value-made s d)))
          (subst (λ (k : ℕ). Short ((value_layer s (out-Expr d)).at f) spare (32 * k + 5)) (sym (expression-tokens d))
          (value_short (out-Expr d) (let z : expression_size_layer (out-Expr d) ≤ n = omega (arith, lt, expression-size d) in z) f spare (subst (λ v. Rescaled v.operand f spare) (value-made s d) r)));
      conditions = λ d lt when mark.
          subst (λ (p : ConditionPiece). Short (p when mark) 0 (32 * condition_tokens d)) (sym (condition-made s d))
          (subst (λ (k : ℕ). Short (made.condition_layer s (out-Cond d) when mark) 0 (32 * k)) (sym (condition-tokens d))
          (condition_short (out-Cond d) (let z : condition_size_layer (out-Cond d) ≤ n = omega (arith, lt, condition-size d) in z) when mark));
      arguments = λ d lt.
          subst (λ (p : Piece). Short p 0 (32 * argument_tokens d + 6)) (sym (argument-made s d))
          (subst (λ (k : ℕ). Short (made.argument_layer s (out-Arg d)) 0 (32 * k + 6)) (sym (argument-tokens d))
          (argument_short (out-Arg d) (let z : argument_size_layer (out-Arg d) ≤ n = omega (arith, lt, argument-size d) in z)));
      references = λ d lt. reference_short d (let z : reference_size d ≤ n = omega (arith, lt) in z);
    }

  below : (n : ℕ) → Below n
  below zero = record {
    values = λ d lt f spare r. absurd (omega (arith, lt));
    conditions = λ d lt when mark. absurd (omega (arith, lt));
    arguments = λ d lt. absurd (omega (arith, lt));
    references = λ d lt. absurd (omega (arith, lt));
  }
  below (suc n) = next_below n (below n)

  pub expression_short : (e : Expr) (f : ℕ) → Short (expression_piece s e f) 0 (32 * expression_tokens e + 5)
  expression_short e f = at-scale (suc (expression_size e)) (below (suc (expression_size e))) e (let z : expression_size e < suc (expression_size e) = omega arith in z) f

  pub condition_ended_short : (d : Cond) (when : Bool) (mark : ℕ) → Short (condition_piece s d when mark) 0 (32 * condition_tokens d)
  condition_ended_short d when mark = (below (suc (condition_size d))).conditions d (let z : condition_size d < suc (condition_size d) = omega arith in z) when mark

  pub address_short : (r : Ref) → Short (reference_of s r).address 14 (32 * reference_tokens r)
  address_short r =
      let left = least-spared (reference_of s r).field in
      eased ((below (suc (reference_size r))).references r (let z : reference_size r < suc (reference_size r) = omega arith in z))
      (let z : 32 * reference_tokens r + 14 ≤ 32 * reference_tokens r + spared (reference_of s r).field = omega (arith, left) in z)

  pub arguments_short : (args : List Arg) → Short (sequence (map (argument_piece s) args)) 0 (32 * separated (map argument_tokens args))
  arguments_short args =
      let n = suc (total (map argument_size args)) in all_short n (below n) args (let z : total (map argument_size args) < n = omega arith in z)
