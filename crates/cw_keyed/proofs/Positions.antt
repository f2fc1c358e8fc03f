-- The first place in a list at which a test passes.
use Rattle.std.proofs.Common.{◌≡◌, ℕ, suc, ◌+◌, ◌<◌, List, [], ◌∷◌, length, Bool, true, false, cond, Some, None, nat_lt, get_or, refl, sym, ◌∙◌, ap, arith}
use Rattle.std.specs.Prelude.{position}
use Rattle.std.specs.List.{position_or_len}
use Rattle.std.proofs.lemmas.Bool.Decides.{nat_tests}
use Rattle.std.proofs.lemmas.Option.{same_Some, none-some}

gives_at : (b : Bool) (m n : ℕ) → cond b (Some m) None ≡ Some n → (b ≡ true) × (m ≡ n)
gives_at true m n e = (refl, same_Some m n e)
gives_at false m n e = absurd (none-some n e)

module _ {A : Type 0} (test : A → Bool) where
  pub position_gives : (xs : List A) (n : ℕ) → position test xs ≡ Some n → (position_or_len test xs ≡ n) × (n < length xs)
  position_gives xs n e =
      let (low, is) = gives_at (nat_lt (position_or_len test xs) (length xs)) (position_or_len test xs) n e in
      (is, grind (arith, nat_tests))

  place_passes : (xs : List A) (d : A) → position_or_len test xs < length xs → test (get_or xs (position_or_len test xs) d) ≡ true
  place_passes [] d low = absurd (omega arith)
  place_passes (x ∷ xs) d low = by (test x) refl low (place_passes xs d)
    where
      by : (b : Bool) → test x ≡ b → position_or_len test (x ∷ xs) < suc (length xs) → (position_or_len test xs < length xs → test (get_or xs (position_or_len test xs) d) ≡ true) → test (get_or (x ∷ xs) (position_or_len test (x ∷ xs)) d) ≡ true
      by true e low rest = rw e e
      by false e low rest =
          let low' : 1 + position_or_len test xs < suc (length xs) = rw e at low in
          let next : 1 + position_or_len test xs ≡ suc (position_or_len test xs) = omega arith in
          rw e (ap (λ i. test (get_or (x ∷ xs) i d)) next ∙ rest (omega arith))

  -- what stands at the place passes
  pub position_passes : (xs : List A) (n : ℕ) (d : A) → position test xs ≡ Some n → test (get_or xs n d) ≡ true
  position_passes xs n d e =
      let (is, low) = position_gives xs n e in
      ap (λ i. test (get_or xs i d)) (sym is) ∙ place_passes xs d (omega arith)
