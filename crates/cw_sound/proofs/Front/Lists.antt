-- Places in lists whose tokens rise.
use Rattle.std.proofs.Common.{◌≡◌, ℕ, zero, suc, ◌<◌, ◌≤◌, List, [], ◌∷◌, map, Some, slice_get, sym, ap, ◌∙◌, arith, inl, inr}
use Rattle.std.proofs.lemmas.Bool.{cases_order}
use Rattle.std.proofs.lemmas.Option.{none-some, same_Some}
use Rattle.cw_sound.specs.Items.Derived.{IsRising}
use Rattle.cw_sound.proofs.Items.Lists.{In, at-place, not-below}

module _ {A : Type 0} (token : A → ℕ) where
  pub token_in : (xs : List A) (x : A) → In x xs → In (token x) (map token xs)
  token_in [] x i = absurd i
  token_in (y ∷ xs) x (inl e) = inl (ap token e)
  token_in (y ∷ xs) x (inr i) = inr (token_in xs x i)

  pub rises_to : (n : ℕ) (xs : List A) (i j : ℕ) (x y : A) → IsRising n (map token xs) → slice_get xs i ≡ Some x → slice_get xs j ≡ Some y → i < j → token x < token y
  rises_to n [] i j x y r e f h = absurd (none-some x e)
  rises_to n (z ∷ xs) zero zero x y r e f h = absurd (omega (arith, h))
  rises_to n (z ∷ xs) zero (suc j) x y r e f h =
      let same : token z ≡ token x = ap token (same_Some z x e) in
      let above : suc (token z) ≤ token y = not-below (suc (token z)) (map token xs) (token y) r.1 (token_in xs y (at-place xs j y f)) in
      omega (arith, same, above)
  rises_to n (z ∷ xs) (suc i) zero x y r e f h = absurd (omega (arith, h))
  rises_to n (z ∷ xs) (suc i) (suc j) x y r e f h = rises_to (suc (token z)) xs i j x y r.1 e f (omega (arith, h))

  -- what has a lower token stands before
  pub stands_before : (n : ℕ) (xs : List A) (i j : ℕ) (x y : A) → IsRising n (map token xs) → slice_get xs i ≡ Some x → slice_get xs j ≡ Some y → token x < token y → i < j
  stands_before n xs i j x y r e f h =
      elim (cases_order i j) [
        | inl same ↦ (let tokens = ap token (same_Some x y (sym e ∙ ap (slice_get xs) same ∙ f)) in absurd (omega (arith, h, tokens)))
        | inr apart ↦ elim apart [
          | inl before ↦ before
          | inr behind ↦ (let lower = rises_to n xs j i y x r f e behind in absurd (omega (arith, h, lower)))
        ]
      ]
