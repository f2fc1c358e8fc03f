-- Outputs that become others by pieces, one behind the other, as the code adds them.
use Rattle.std.proofs.Common.{◌≡◌, ℕ, ◌+◌, ◌<◌, ◌≤◌, ℤ, List, [], ◌∷◌, ◌++◌, length, drop, get_or, map, Bool, true, false, Option, Some, None, sym, ap, ◌∙◌, subst}
use Rattle.std.proofs.lemmas.Bool.{false≢true}
use Rattle.std.proofs.lemmas.List.{drop_all, drop_more}
use Rattle.cw_word.specs.Word.{unsigned}
use Rattle.cw_unit.specs.declared.layout.Layout.{Layout}
use Rattle.cw_unit.specs.declared.unit.Arg.{Arg, out-Arg}
use Rattle.cw_unit.specs.declared.unit.Cond.{Cond}
use Rattle.cw_unit.specs.declared.unit.Spot.{Spot, out-Spot}
use Rattle.cw_unit.specs.declared.unit.Ref.{Ref, out-Ref}
use Rattle.cw_unit.specs.declared.unit.Expr.{Expr, Expr-F, out-Expr}
use Rattle.cw_unit.specs.declared.unit.Arg.TheOpen as layer
use Rattle.cw_unit.specs.declared.unit.Arg.TheOpen.{Arg-F, Cond-F, Spot-F}
use Rattle.cw_unit.specs.declared.unit.Arg.TheViews.{roll-Arg, roll-Expr, roll-Cond, roll-Spot, out-roll-Arg, out-roll-Expr, out-roll-Spot}
use Rattle.cw_unit.specs.declared.unit.Arg.TheFolds.{fold-roll-Cond}
use Rattle.cw_gen_expr.specs.declared.output.Output.{Output}
use Rattle.cw_gen_expr.specs.Pieces.{Piece, plain, followed_by, sequence, with_end}
use Rattle.cw_gen_expr.specs.Output.{made, added, extent_of, shortened, Adds, Reserves, Places}
use Rattle.cw_gen_expr.specs.ReferenceExpressions.{Scope, Value, Reference, ConditionPiece, saved, number_order, item_order, load_orders, rescale_orders, form_orders, index_piece, known_item, known_word, argument_step, condition_step, expression_step, spot_step, reference_step, value_of, expression_piece, condition_piece, argument_piece, reference_of, spot_piece, computed_piece, pieces_of, indexes_of}
use Rattle.cw_gen_expr.proofs.Layers.{computed_layer, argument_layer, condition_layer, argument-made, reference-made}
use Rattle.cw_gen_expr.proofs.Making.{reserved, closed, added-nothing, two_steps, added-end, replaced, left_so, named, formed_so, pieces_in, pieces_are}

-- whatever is said of one that has failed
pub lost : {p : Piece} {x y : Output} → y.failed ≡ true → Adds p x y
lost e = record { held = λ h. absurd (false≢true (sym h ∙ e)); is = λ h. absurd (false≢true (sym h ∙ e)) }

pub nothing : {x : Output} → Adds (plain []) x x
nothing {x = x} = record { held = λ h. h; is = λ h. sym (added-nothing (made x)) }

-- one piece, and then the other
infixr 30 ◌⨟◌
pub ◌⨟◌ : {p q : Piece} {x y z : Output} → Adds p x y → Adds q y z → Adds (followed_by p q) x z
◌⨟◌ {p = p} {q = q} {x = x} {y = y} {z = z} a b =
    record { held = λ h. a.held (b.held h); is = λ h. two_steps p q (made x) (made y) (made z) (a.is (b.held h)) (b.is h) }

-- the piece of a value that is named by another way, and of one that is the same unless it has failed
pub also : {A : Type 0} {a b : A} {x y : Output} (f : A → Piece) → a ≡ b → Adds (f a) x y → Adds (f b) x y
also {x = x} {y = y} f e h = subst (λ v. Adds (f v) x y) e h

pub also_if : {A : Type 0} {a b : A} {x : Output} (y : Output) (f : A → Piece) → (y.failed ≡ false → a ≡ b) → Adds (f a) x y → Adds (f b) x y
also_if {x = x} y f e h = record { held = h.held; is = λ z. h.is z ∙ ap (λ v. added (f v) (made x)) (e z) }

-- a piece with a mark for its end
pub ending : {n : ℕ} {x x1 x2 x3 : Output} (p : ℕ → Piece) → Reserves n x x1 → Adds (p n) x1 x2 → Places n x2 x3 → Adds (with_end p) x x3
ending {n = n} {x = x} p r a e = record {
  held = λ h. r.held (a.held (e.held h));
  is = λ h.
      let h2 = e.held h in
      let h1 = a.held h2 in
      e.is h ∙ ap (closed n) (a.is h2 ∙ ap (added (p n)) (r.is h1)) ∙ ap (λ k. closed k (added (p k) (reserved (made x)))) (r.next h1)
      ∙ added-end p (made x);
}

-- ---- the pieces of a list

-- with what is left of them, the second output becomes what the first one becomes by all
pub record Coming (all left : Piece) (x y : Output) : Type 0 where
  pub come : (z : Output) → Adds left y z → Adds all x z

pub all_comes : (all : Piece) (x : Output) → Coming all all x x
all_comes all x = record { come = λ z rest. rest }

module _ {A : Type 0} (p : A → Piece) (xs : List A) (all : Piece) where
  pub next_comes : {x y z : Output} (i : ℕ) (a : A) → i < length xs → a ≡ get_or xs i a → Coming all (sequence (map p (drop i xs))) x y → Adds (p a) y z
      → Coming all (sequence (map p (drop (i + 1) xs))) x z
  next_comes i a lt is coming here = record {
    come = λ z rest. coming.come z (also (λ l. sequence (map p l)) (sym (drop_more xs i a lt ∙ ap (λ v. v ∷ drop (i + 1) xs) (sym is))) (here ⨟ rest));
  }

  pub last_came : {x y : Output} (k : ℕ) → length xs ≤ k → Coming all (sequence (map p (drop k xs))) x y → Adds all x y
  last_came {y = y} k le coming = coming.come y (also (λ l. sequence (map p l)) (sym (drop_all k xs le)) nothing)

-- ---- trees, by their first layer

-- the orders of a reference do not hang on what its indexes are
pub by_form : {x x' : Output} (y : Layout) (compared : Bool) (line : ℕ) (a : Spot) (z : Spot-F Arg Cond Expr Spot Ref) → a ≡ roll-Spot z → Adds (plain (form_orders y compared line z)) x x' → Adds (plain (form_orders y compared line (out-Spot a))) x x'
by_form y compared line a z is h = also (λ v. plain (form_orders y compared line v)) (sym (ap out-Spot is ∙ out-roll-Spot z)) h

module _ (s : Scope) where
  pub by_layer : {x x' : Output} (e : Expr) (y : Expr-F Arg Cond Expr Spot Ref) (f : ℕ) → e ≡ roll-Expr y → Adds ((computed_layer s y).at f) x x' → Adds (computed_piece s e f) x x'
  by_layer e y f is h = also (λ z. (computed_layer s z).at f) (sym (ap out-Expr is ∙ out-roll-Expr y)) h

  condition_rolled : (y : Cond-F Arg Cond Expr Spot Ref) → condition_piece s (roll-Cond y) ≡ condition_layer s y
  condition_rolled y = fold-roll-Cond Piece ConditionPiece Value Piece Reference (argument_step s) (condition_step s) (expression_step s) (spot_step s) (reference_step s) y

  pub by_condition : {x x' : Output} (d : Cond) (y : Cond-F Arg Cond Expr Spot Ref) (when : Bool) (mark : ℕ) → d ≡ roll-Cond y → Adds (condition_layer s y when mark) x x' → Adds (condition_piece s d when mark) x x'
  by_condition d y when mark is h = also (λ v. v when mark) (sym (ap (condition_piece s) is ∙ condition_rolled y)) h

  pub by_argument : {x x' : Output} (d : Arg) (y : Arg-F Arg Cond Expr Spot Ref) → d ≡ roll-Arg y → Adds (argument_layer s y) x x' → Adds (argument_piece s d) x x'
  by_argument d y is h = also (λ v. v) (sym (argument-made s d ∙ ap (argument_layer s) (ap out-Arg is ∙ out-roll-Arg y))) h

  pub by_indexes : {x x' : Output} (a : Spot) (y : Spot-F Arg Cond Expr Spot Ref) → a ≡ roll-Spot y → Adds (index_piece s (pieces_in s y)) x x' → Adds (indexes_of s a) x x'
  by_indexes a y is h = also (index_piece s) (sym (pieces_are s a y is)) h

  -- ---- a value and a reference, by whether they are known

  pub by_value : {x x1 x2 x3 : Output} (e : Expr) (f : ℕ) (z : ℤ) (k : Option ℤ) → Adds (computed_piece s e f) x x1 → (x1.failed ≡ false → k ≡ (value_of s e).known f) → k ≡ Some z → x2.failed ≡ x1.failed
      → made x2 ≡ shortened (extent_of (made x)) (made x1) → Adds (plain (number_order (unsigned z) ∷ [])) x2 x3 → Adds (expression_piece s e f) x x3
  by_value {x = x} {x1 = x1} {x2 = x2} {x3 = x3} e f z k computed ek is held back one = record {
    held = λ h. computed.held (sym held ∙ one.held h);
    is = λ h. let g = sym held ∙ one.held h in replaced s e f z k (made x) (made x1) (made x2) (made x3) (computed.is g) (ek g) is back (one.is h);
  }

  pub without_value : {x x1 : Output} (e : Expr) (f : ℕ) (k : Option ℤ) → Adds (computed_piece s e f) x x1 → (x1.failed ≡ false → k ≡ (value_of s e).known f) → k ≡ None → Adds (expression_piece s e f) x x1
  without_value {x = x} {x1 = x1} e f k computed ek is = record { held = computed.held; is = λ h. left_so s e f k (made x) (made x1) (computed.is h) (ek h) is }

  pub by_word : {x x1 x2 x3 : Output} (a : Spot) (i n : ℕ) (k : Option ℕ) → Adds (indexes_of s a) x x1 → (x1.failed ≡ false → k ≡ known_word s (pieces_of s a)) → k ≡ Some n → i ≡ known_item s (pieces_of s a) → x2.failed ≡ x1.failed
      → made x2 ≡ shortened (extent_of (made x)) (made x1) → Adds (plain (item_order s.layout i n ∷ [])) x2 x3 → Adds (spot_piece s a) x x3
  by_word {x = x} {x1 = x1} {x2 = x2} {x3 = x3} a i n k indexes ek is ei held back one = record {
    held = λ h. indexes.held (sym held ∙ one.held h);
    is = λ h. let g = sym held ∙ one.held h in named s a i n k (made x) (made x1) (made x2) (made x3) (indexes.is g) (ek g) is ei back (one.is h);
  }

  pub without_word : {x x1 x2 : Output} (a : Spot) (k : Option ℕ) → Adds (indexes_of s a) x x1 → (x1.failed ≡ false → k ≡ known_word s (pieces_of s a)) → k ≡ None
      → Adds (plain (form_orders s.layout s.unit.bounds s.line (out-Spot a))) x1 x2 → Adds (spot_piece s a) x x2
  without_word {x = x} {x1 = x1} {x2 = x2} a k indexes ek is form = record {
    held = λ h. indexes.held (form.held h);
    is = λ h. formed_so s a k (made x) (made x1) (made x2) (indexes.is (form.held h)) (ek (form.held h)) is (form.is h);
  }

  -- ---- parts that are named by another way

  pub value_at : {a' a : Expr} {x y : Output} (f : ℕ) → a' ≡ a → Adds (expression_piece s a' f) x y → Adds (expression_piece s a f) x y
  value_at f e h = also (λ v. expression_piece s v f) e h

  pub operand_at : {a' a : Expr} {x y : Output} → a' ≡ a → Adds (expression_piece s a' (value_of s a').operand) x y → Adds (expression_piece s a (value_of s a).operand) x y
  operand_at e h = also (λ v. expression_piece s v (value_of s v).operand) e h

  pub known_at : {a' a : Expr} {k : Option ℤ} (f : ℕ) → a' ≡ a → k ≡ (value_of s a').known f → k ≡ (value_of s a).known f
  known_at f e h = h ∙ ap (λ v. (value_of s v).known f) e

  pub known_operand : {a' a : Expr} {k : Option ℤ} → a' ≡ a → k ≡ (value_of s a').known (value_of s a').operand → k ≡ (value_of s a).known (value_of s a).operand
  known_operand e h = h ∙ ap (λ v. (value_of s v).known (value_of s v).operand) e

  pub condition_at : {d' d : Cond} {m' m : ℕ} {x y : Output} (when : Bool) → d' ≡ d → m' ≡ m → Adds (condition_piece s d' when m') x y → Adds (condition_piece s d when m) x y
  condition_at {d = d} {m' = m'} when ed em h = also (λ m. condition_piece s d when m) em (also (λ v. condition_piece s v when m') ed h)

  -- a reference that is read, located, and handed on
  pub of_read : {x y : Output} (e : Expr) (r r' : Ref) (f : ℕ) → e ≡ roll-Expr (layer.Read r) → r' ≡ r → Adds (followed_by (spot_piece s (out-Ref r').at) (plain (load_orders (out-Ref r').field ++ rescale_orders s.line (out-Ref r').f f))) x y → Adds (computed_piece s e f) x y
  of_read e r r' f is er h =
      by_layer e (layer.Read r) f is (also (λ v. followed_by v.address (plain (load_orders v.field ++ rescale_orders s.line v.scale f))) (sym (reference-made s r') ∙ ap (reference_of s) er) h)

  pub of_locate : {x y : Output} (e : Expr) (r r' : Ref) (f : ℕ) → e ≡ roll-Expr (layer.Locate r) → r' ≡ r → Adds (followed_by (spot_piece s (out-Ref r').at) (plain (rescale_orders s.line 0 f))) x y → Adds (computed_piece s e f) x y
  of_locate e r r' f is er h =
      by_layer e (layer.Locate r) f is (also (λ v. followed_by v.address (plain (rescale_orders s.line 0 f))) (sym (reference-made s r') ∙ ap (reference_of s) er) h)

  pub of_place : {x y : Output} (d : Arg) (r : Ref) → d ≡ roll-Arg (layer.Place r) → Adds (followed_by (spot_piece s (out-Ref r).at) saved) x y → Adds (argument_piece s d) x y
  of_place d r is h = by_argument d (layer.Place r) is (also (λ v. followed_by v.address saved) (sym (reference-made s r)) h)
