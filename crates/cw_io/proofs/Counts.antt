-- When a count rose.
use Rattle.std.proofs.Common.{arith, inl, inr, ◌≡◌, ◌↔◌, ◌⊎◌, ℕ, ◌-◌, ◌^◌, ◌<◌, ◌≤◌}
use Rattle.std.proofs.lemmas.Bool.{cases_lt}
use Rattle.cw_io.specs.Count.{Rose}

pub rose_is : (before now : ℕ) → before ≤ now → now ≤ 2 ^ 64 - 1 → Rose before now ↔ ((before < now) ⊎ (now ≡ 2 ^ 64 - 1))
rose_is before now later fits = (
  λ rose. elim (cases_lt before now) as (λ _. (before < now) ⊎ (now ≡ 2 ^ 64 - 1)) [ inl lt ↦ inl lt | inr ge ↦ inr (omega (arith, ge)) ],
  λ either. elim either as (λ _. Rose before now) [ inl lt ↦ omega (arith, lt) | inr e ↦ omega (arith, e) ],
)
