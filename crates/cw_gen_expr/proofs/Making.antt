-- Pieces of orders that are added one after another, as the code makes them.
use Rattle.std.proofs.Common.{◌≡◌, ℕ, ◌+◌, ℤ, List, [], ◌∷◌, ◌++◌, length, set, Option, Some, None, refl, sym, ap, ap₂, ◌∙◌, append_assoc, append-nil, length-append}
use Rattle.std.proofs.Math.Seq.{set-append_seam, take-append_seam}
use Rattle.cw_word.specs.Word.{unsigned}
use Rattle.cw_order.specs.declared.order.Order.{Order}
use Rattle.cw_order.specs.declared.order.Order.TheVariants as order
use Rattle.cw_unit.specs.declared.unit.Arg.{Arg}
use Rattle.cw_unit.specs.declared.unit.Cond.{Cond}
use Rattle.cw_unit.specs.declared.unit.Spot.{Spot, out-Spot, map-Spot}
use Rattle.cw_unit.specs.declared.unit.Ref.{Ref}
use Rattle.cw_unit.specs.declared.unit.Expr.{Expr, Expr-F, out-Expr}
use Rattle.cw_unit.specs.declared.unit.Arg.TheOpen as layer
use Rattle.cw_unit.specs.declared.unit.Arg.TheOpen.{Spot-F}
use Rattle.cw_unit.specs.declared.unit.Arg.TheViews.{roll-Expr, roll-Spot, out-roll-Expr, out-roll-Spot}
use Rattle.cw_unit.specs.Scales.{operand_scale}
use Rattle.cw_gen_expr.specs.Pieces.{MarkedOrders, Piece, plain, followed_by, with_end}
use Rattle.cw_gen_expr.specs.Output.{added, extent_of, shortened}
use Rattle.cw_gen_expr.specs.ReferenceExpressions.{Scope, Value, Reference, ConditionPiece, number_order, item_order, form_orders, known_or, named_or, known_item, known_word, value_of, expression_piece, condition_piece, argument_piece, reference_of, spot_piece, computed_piece, pieces_of, indexes_of}
use Rattle.cw_gen_expr.proofs.Layers.{known_layer, value-made, spot-made}
use Rattle.cw_gen_expr.proofs.Scales.{operand-is}

abbrev pub marked : List Order → List (ℕ × ℕ) → List ℕ → MarkedOrders
marked os ls ms = record { orders = os; labels = ls; marks = ms }

-- a mark that is placed later, and its place
abbrev pub reserved : MarkedOrders → MarkedOrders
reserved x = marked x.orders x.labels (x.marks ++ 0 ∷ [])

abbrev pub closed : ℕ → MarkedOrders → MarkedOrders
closed n x = marked (x.orders ++ order.Mark ∷ []) x.labels (set x.marks n (length x.orders))

alike : {os os' : List Order} {ls ls' : List (ℕ × ℕ)} {ms ms' : List ℕ} → os ≡ os' → ls ≡ ls' → ms ≡ ms' → marked os ls ms ≡ marked os' ls' ms'
alike {os = os} {os' = os'} {ls = ls} {ls' = ls'} {ms = ms} {ms' = ms'} a b c =
    ap (λ x. marked x ls ms) a ∙ ap (λ x. marked os' x ms) b ∙ ap (marked os' ls') c

pub added-plain : (os : List Order) (x : MarkedOrders) → added (plain os) x ≡ marked (x.orders ++ os) x.labels x.marks
added-plain os x = alike refl (append-nil x.labels) (append-nil x.marks)

pub added-nothing : (x : MarkedOrders) → added (plain []) x ≡ x
added-nothing x = alike (append-nil x.orders) (append-nil x.labels) (append-nil x.marks)

-- one piece, and then the other
pub added-both : (p q : Piece) (x : MarkedOrders) → added (followed_by p q) x ≡ added q (added p x)
added-both p q x =
    let y = p (length x.orders) (length x.marks) in
    let z = q (length x.orders + length y.orders) (length x.marks + length y.marks) in
    let same : z ≡ q (length (x.orders ++ y.orders)) (length (x.marks ++ y.marks)) = ap₂ q (sym (length-append x.orders y.orders)) (sym (length-append x.marks y.marks)) in
    alike (sym (append_assoc x.orders y.orders z.orders)) (sym (append_assoc x.labels y.labels z.labels)) (sym (append_assoc x.marks y.marks z.marks))
    ∙ ap (λ v. marked ((x.orders ++ y.orders) ++ v.orders) ((x.labels ++ y.labels) ++ v.labels) ((x.marks ++ y.marks) ++ v.marks)) same

-- as the code makes them: one piece after another
pub two_steps : (p q : Piece) (x x1 x2 : MarkedOrders) → x1 ≡ added p x → x2 ≡ added q x1 → x2 ≡ added (followed_by p q) x
two_steps p q x x1 x2 e1 e2 = e2 ∙ ap (added q) e1 ∙ sym (added-both p q x)

pub plain_steps : (os ps : List Order) (x x1 x2 : MarkedOrders) → x1 ≡ added (plain os) x → x2 ≡ added (plain ps) x1 → x2 ≡ added (plain (os ++ ps)) x
plain_steps os ps x x1 x2 e1 e2 = two_steps (plain os) (plain ps) x x1 x2 e1 e2

-- a piece with a mark for its end
pub added-end : (body : ℕ → Piece) (x : MarkedOrders) → closed (length x.marks) (added (body (length x.marks)) (reserved x)) ≡ added (with_end body) x
added-end body x =
    let n = length x.marks in
    let y = body n (length x.orders) (n + 1) in
    let same : body n (length x.orders) (length (x.marks ++ 0 ∷ [])) ≡ y = ap (body n (length x.orders)) (length-append x.marks (0 ∷ [])) in
    ap (λ v. closed n (marked (x.orders ++ v.orders) (x.labels ++ v.labels) ((x.marks ++ 0 ∷ []) ++ v.marks))) same
    ∙ alike (append_assoc x.orders y.orders (order.Mark ∷ [])) refl
    (ap₂ (λ ms place. set ms n place) (append_assoc x.marks (0 ∷ []) y.marks) (length-append x.orders y.orders)
    ∙ set-append_seam x.marks 0 y.marks (length x.orders + length y.orders))

-- what was added is taken back
pub retracted : (p : Piece) (x x1 x2 : MarkedOrders) → x1 ≡ added p x → x2 ≡ shortened (extent_of x) x1 → x2 ≡ x
retracted p x x1 x2 e1 e2 =
    let y = p (length x.orders) (length x.marks) in
    e2 ∙ ap (shortened (extent_of x)) e1 ∙ alike (take-append_seam x.orders y.orders) (take-append_seam x.labels y.labels) (take-append_seam x.marks y.marks)

-- the orders of a reference do not hang on what its indexes are
form_same : (s : Scope) (line : ℕ) (x : Spot-F Arg Cond Expr Spot Ref)
    → form_orders s.layout s.unit.bounds line (map-Spot Arg Cond Expr Spot Ref Piece ConditionPiece Value Piece Reference (argument_piece s) (condition_piece s) (value_of s) (spot_piece s) (reference_of s) x) ≡ form_orders s.layout s.unit.bounds line x
form_same s line (layer.Direct i) = refl
form_same s line (layer.Through i) = refl
form_same s line (layer.One i l u e) = refl
form_same s line (layer.Two i l1 u1 l2 u2 n e g) = refl
form_same s line (layer.ParamArray i e) = refl
form_same s line (layer.Word i t n e) = refl
form_same s line (layer.Elem i t n m w e) = refl
form_same s line (layer.Bare e) = refl

module _ (s : Scope) where
  -- ---- by the first layer of a tree

  pub known_by : (e : Expr) (y : Expr-F Arg Cond Expr Spot Ref) (f : ℕ) (k : Option ℤ) → e ≡ roll-Expr y → k ≡ known_layer s y f → k ≡ (value_of s e).known f
  known_by e y f k is h = h ∙ ap (λ z. known_layer s z f) (sym (ap out-Expr is ∙ out-roll-Expr y)) ∙ sym (ap (λ v. v.known f) (value-made s e))

  -- ---- a value, by whether it is known

  as_known : (e : Expr) (f : ℕ) → expression_piece s e f ≡ known_or ((value_of s e).known f) (computed_piece s e f)
  as_known e f = ap (λ v. v.at f) (value-made s e) ∙ ap (λ k. known_or k (computed_piece s e f)) (sym (ap (λ v. v.known f) (value-made s e)))

  pub replaced : (e : Expr) (f : ℕ) (z : ℤ) (k : Option ℤ) (x x1 x2 x3 : MarkedOrders) → x1 ≡ added (computed_piece s e f) x → k ≡ (value_of s e).known f → k ≡ Some z → x2 ≡ shortened (extent_of x) x1 → x3 ≡ added (plain (number_order (unsigned z) ∷ [])) x2
      → x3 ≡ added (expression_piece s e f) x
  replaced e f z k x x1 x2 x3 e1 ek is e2 e3 =
      e3 ∙ ap (added (plain (number_order (unsigned z) ∷ []))) (retracted (computed_piece s e f) x x1 x2 e1 e2)
      ∙ ap (λ p. added p x) (sym (as_known e f ∙ ap (λ o. known_or o (computed_piece s e f)) (sym ek ∙ is)))

  pub left_so : (e : Expr) (f : ℕ) (k : Option ℤ) (x x1 : MarkedOrders) → x1 ≡ added (computed_piece s e f) x → k ≡ (value_of s e).known f → k ≡ None → x1 ≡ added (expression_piece s e f) x
  left_so e f k x x1 e1 ek is = e1 ∙ ap (λ p. added p x) (sym (as_known e f ∙ ap (λ o. known_or o (computed_piece s e f)) (sym ek ∙ is)))

  -- ---- a reference, by whether its word is known

  as_named : (a : Spot) → spot_piece s a ≡ named_or s.layout (known_item s (pieces_of s a)) (known_word s (pieces_of s a)) (followed_by (indexes_of s a) (plain (form_orders s.layout s.unit.bounds s.line (out-Spot a))))
  as_named a =
      spot-made s a
      ∙ ap (λ os. named_or s.layout (known_item s (pieces_of s a)) (known_word s (pieces_of s a)) (followed_by (indexes_of s a) (plain os))) (form_same s s.line (out-Spot a))

  pub named : (a : Spot) (i n : ℕ) (k : Option ℕ) (x x1 x2 x3 : MarkedOrders) → x1 ≡ added (indexes_of s a) x → k ≡ known_word s (pieces_of s a) → k ≡ Some n → i ≡ known_item s (pieces_of s a) → x2 ≡ shortened (extent_of x) x1
      → x3 ≡ added (plain (item_order s.layout i n ∷ [])) x2 → x3 ≡ added (spot_piece s a) x
  named a i n k x x1 x2 x3 e1 ek is ei e2 e3 =
      let F = followed_by (indexes_of s a) (plain (form_orders s.layout s.unit.bounds s.line (out-Spot a))) in
      e3 ∙ ap (added (plain (item_order s.layout i n ∷ []))) (retracted (indexes_of s a) x x1 x2 e1 e2)
      ∙ ap (λ j. added (plain (item_order s.layout j n ∷ [])) x) ei
      ∙ ap (λ p. added p x) (sym (as_named a ∙ ap (λ o. named_or s.layout (known_item s (pieces_of s a)) o F) (sym ek ∙ is)))

  pub formed_so : (a : Spot) (k : Option ℕ) (x x1 x2 : MarkedOrders) → x1 ≡ added (indexes_of s a) x → k ≡ known_word s (pieces_of s a) → k ≡ None → x2 ≡ added (plain (form_orders s.layout s.unit.bounds s.line (out-Spot a))) x1 → x2 ≡ added (spot_piece s a) x
  formed_so a k x x1 x2 e1 ek is e2 =
      let F = followed_by (indexes_of s a) (plain (form_orders s.layout s.unit.bounds s.line (out-Spot a))) in
      two_steps (indexes_of s a) (plain (form_orders s.layout s.unit.bounds s.line (out-Spot a))) x x1 x2 e1 e2
      ∙ ap (λ p. added p x) (sym (as_named a ∙ ap (λ o. named_or s.layout (known_item s (pieces_of s a)) o F) (sym ek ∙ is)))

  -- by the first layer
  abbrev pub pieces_in : Spot-F Arg Cond Expr Spot Ref → Spot-F Piece ConditionPiece Value Piece Reference
  pieces_in y = map-Spot Arg Cond Expr Spot Ref Piece ConditionPiece Value Piece Reference (argument_piece s) (condition_piece s) (value_of s) (spot_piece s) (reference_of s) y

  pub pieces_are : (a : Spot) (y : Spot-F Arg Cond Expr Spot Ref) → a ≡ roll-Spot y → pieces_of s a ≡ pieces_in y
  pieces_are a y is = ap pieces_in (ap out-Spot is ∙ out-roll-Spot y)

  pub word_by : (a : Spot) (y : Spot-F Arg Cond Expr Spot Ref) (k : Option ℕ) → a ≡ roll-Spot y → k ≡ known_word s (pieces_in y) → k ≡ known_word s (pieces_of s a)
  word_by a y k is h = h ∙ ap (known_word s) (sym (pieces_are a y is))

  -- the scale of an operand, as the code finds it
  pub operand_same : (e : Expr) (f : ℕ) → f ≡ operand_scale s.unit e → f ≡ (value_of s e).operand
  operand_same e f is = is ∙ sym (operand-is s e)
