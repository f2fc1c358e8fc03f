-- What is not refuted of each of finitely many is not refuted of all together.
use Rattle.std.proofs.Common.{◌≡◌, ℕ, zero, suc, ◌<◌, subst, arith, inl, inr}
use Rattle.std.proofs.lemmas.Bool.{cases_lt}

-- what is not refuted
abbrev pub Twice : Type 0 → Type 0
Twice P = (P → ⊥) → ⊥

module _ (P : ℕ → Type 0) where
  last : (n d : ℕ) → ((d : ℕ) → d < n → P d) → P n → d < suc n → P d
  last n d below here lt = elim (cases_lt d n) [ inl less ↦ below d less | inr more ↦ let same : n ≡ d = omega (arith, lt, more) in subst P same here ]

  pub all-twice : (n : ℕ) → ((d : ℕ) → Twice (P d)) → Twice ((d : ℕ) → d < n → P d)
  all-twice zero h k = k (λ d lt. absurd (omega (arith, lt)))
  all-twice (suc n) h k = all-twice n h (λ below. h n (λ here. k (λ d lt. last n d below here lt)))
