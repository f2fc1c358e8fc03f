-- Pieces whose orders begin the statements of these lines, wherever they stand.
use Rattle.std.proofs.Common.{◌≡◌, ℕ, ◌+◌, List, [], ◌∷◌, ◌++◌, map, length, append_assoc, append-nil, refl, sym, ap, ap₂, ◌∙◌, subst}
use Rattle.std.proofs.lemmas.List.{map-append}
use Rattle.cw_order.specs.declared.order.Order.{Order}
use Rattle.cw_order.specs.declared.order.Order.TheVariants as order
use Rattle.cw_gen_expr.specs.Pieces.{Piece, plain, followed_by, with_end, with_labels}
use Rattle.cw_tmpl.specs.ReferenceCode.{statement_at, statements_from}

-- the line of the statement that an order begins
abbrev pub begun_by : Order → List ℕ
begun_by (order.Start line) = line ∷ []
begun_by _ = []

abbrev pub begun_in : List Order → List ℕ
begun_in [] = []
begun_in (o ∷ os) = begun_by o ++ begun_in os

pub begun-append : (xs ys : List Order) → begun_in (xs ++ ys) ≡ begun_in xs ++ begun_in ys
begun-append [] ys = refl
begun-append (x ∷ xs) ys = ap (λ ls. begun_by x ++ ls) (begun-append xs ys) ∙ sym (append_assoc (begun_by x) (begun_in xs) (begun_in ys))

-- ---- the statements that the code tells

line-at : (at : ℕ) (o : Order) → map (λ (s : ℕ × ℕ). s.1) (statement_at at o) ≡ begun_by o
line-at at (order.Start line) = refl
line-at at _ = refl

pub lines-told : (k : ℕ) (places : List ℕ) (os : List Order) → map (λ (s : ℕ × ℕ). s.1) (statements_from k places os) ≡ begun_in os
lines-told k places [] = refl
lines-told k places (o ∷ os) = map-append (λ (s : ℕ × ℕ). s.1) (statement_at _ o) (statements_from (k + 1) places os) ∙ ap₂ (λ xs ys. xs ++ ys) (line-at _ o) (lines-told (k + 1) places os)

-- ---- pieces

pub record Begins (p : Piece) (lines : List ℕ) : Type 0 where
  pub at : (place next : ℕ) → begun_in (p place next).orders ≡ lines

abbrev pub Silent : Piece → Type 0
Silent p = Begins p []

pub as-lines : {p : Piece} {xs ys : List ℕ} → Begins p xs → xs ≡ ys → Begins p ys
as-lines {p = p} h e = subst (Begins p) e h

pub plainly : (os : List Order) → begun_in os ≡ [] → Silent (plain os)
plainly os h = record { at = λ place next. h }

pub both : {a b : Piece} {xs ys : List ℕ} → Begins a xs → Begins b ys → Begins (followed_by a b) (xs ++ ys)
both {a = a} {b = b} h k = record {
  at = λ place next.
      (let x = a place next in
      let y = b (place + length x.orders) (next + length x.marks) in
      begun-append x.orders y.orders ∙ ap₂ (λ l m. l ++ m) (h.at place next) (k.at (place + length x.orders) (next + length x.marks)));
}

-- nothing more is begun behind it
pub before : {a b : Piece} {xs : List ℕ} → Begins a xs → Silent b → Begins (followed_by a b) xs
before {xs = xs} h k = as-lines (both h k) (append-nil xs)

pub ended : {xs : List ℕ} (body : ℕ → Piece) → ((mark : ℕ) → Begins (body mark) xs) → Begins (with_end body) xs
ended body h = record {
  at = λ place next.
      (let x = body next place (next + 1) in begun-append x.orders (order.Mark ∷ []) ∙ append-nil (begun_in x.orders) ∙ (h next).at place (next + 1));
}

pub labelled : (ls : List ℕ) → Silent (with_labels ls)
labelled ls = record { at = λ place next. refl }

pub begun : (line : ℕ) → Begins (plain (order.Start line ∷ [])) (line ∷ [])
begun line = record { at = λ place next. refl }
