-- What a sweep passes does not meet the words behind it.
use Rattle.std.proofs.Common.{◌≡◌, ℕ, zero, suc, ◌+◌, ◌<◌, ◌≤◌, max, min, true, false, List, [], ◌∷◌, length, get_or, All, refl, sym, ap, subst, ◌∙◌, arith, inl, inr}
use Rattle.std.specs.Prelude.{IsFalse}
use Rattle.std.proofs.lemmas.Bool.{cases_lt, le-ltb, lt-ltb}
use Rattle.cw_unit.specs.Allocation.{Range, meets}
use Rattle.cw_place.specs.declared.sweep.Span.{Span}
use Rattle.cw_place.specs.Sweep.{range_of, ranges_of, start_at, end_at, IsSwept, ArePassed}

abbrev pub none : Span
none = record { start = 0; end = 0 }

-- no range is met at an address
abbrev pub IsClear : List Span → (extent address : ℕ) → Type 0
IsClear ss extent a = All (λ r. IsFalse (meets a extent r)) (ranges_of ss)

range_at : (ss : List Span) (k : ℕ) (d : Range) → k < length (ranges_of ss) → (k < length ss) × (get_or (ranges_of ss) k d ≡ range_of (get_or ss k none))
range_at [] k d h = absurd (omega (arith, h))
range_at (s ∷ ss) zero d h = (omega arith, refl)
range_at (s ∷ ss) (suc k) d h = let r = range_at ss k d (omega (arith, h)) in (omega (arith, r.0), r.1)

range_is : (ss : List Span) (k : ℕ) (d : Range) → k < length ss → (k < length (ranges_of ss)) × (get_or (ranges_of ss) k d ≡ range_of (get_or ss k none))
range_is [] k d h = absurd (omega (arith, h))
range_is (s ∷ ss) zero d h = (omega arith, refl)
range_is (s ∷ ss) (suc k) d h = let r = range_is ss k d (omega (arith, h)) in (omega (arith, r.0), r.1)

-- words that begin behind a range, or end before it, do not meet it
behind : (a extent start end : ℕ) → end ≤ a → IsFalse (meets a extent (record { start = start; end = end }))
behind a extent start end h = le-ltb (max a start) (min (a + extent) end) (omega arith)

before : (a extent start end : ℕ) → a + extent ≤ start → IsFalse (meets a extent (record { start = start; end = end }))
before a extent start end h = le-ltb (max a start) (min (a + extent) end) (omega arith)

tf : true ≡ false → ⊥
tf e = cc

-- and those that begin before its end and reach behind its start do
met : (a extent start end : ℕ) → a < end → start < a + extent → start < end → 0 < extent → IsFalse (meets a extent (record { start = start; end = end })) → ⊥
met a extent start end h k l m f = tf (sym (lt-ltb (max a start) (min (a + extent) end) (omega arith)) ∙ f)

pub clear_at : (ss : List Span) (extent a n : ℕ) → IsSwept ss → ArePassed ss n a → (n < length ss → a + extent ≤ start_at ss n) → IsClear ss extent a
clear_at ss extent a n swept passed stop k d h =
    let r = range_at ss k d h in
    subst (λ (x : Range). IsFalse (meets a extent x)) (sym r.1)
    (elim (cases_lt k n) [
      | inl lt ↦ behind a extent (start_at ss k) (end_at ss k) (passed k lt)
      | inr le ↦ before a extent (start_at ss k) (end_at ss k) (omega (arith, stop (omega (arith, le, r.0)), swept.rising n k le r.0))
    ])

-- past a range that is met
pub past : (ss : List Span) (extent a n b : ℕ) → IsSwept ss → n < length ss → start_at ss n < a + extent → 0 < extent → a ≤ b → IsClear ss extent b → end_at ss n ≤ b
past ss extent a n b swept lt reach some le clear =
    let r = range_is ss n (range_of none) lt in
    let free : IsFalse (meets b extent (range_of (get_or ss n none))) = subst (λ (x : Range). IsFalse (meets b extent x)) r.1 (clear n (range_of none) r.0) in
    elim (cases_lt b (end_at ss n)) [
      | inl before_ ↦ absurd (met b extent (start_at ss n) (end_at ss n) before_ (omega (arith, reach, le)) (swept.some n lt) some free)
      | inr done ↦ done
    ]

pub le_antisymm : (a b : ℕ) → a ≤ b → b ≤ a → a ≡ b
le_antisymm a b h k = omega arith

pub more_passed : (ss : List Span) (n a b : ℕ) → ArePassed ss n a → a ≤ b → end_at ss n ≤ b → ArePassed ss (n + 1) b
more_passed ss n a b passed le end k h =
    elim (cases_lt k n) [
      | inl lt ↦ omega (arith, passed k lt, le)
      | inr not_ ↦ let same : k ≡ n = omega (arith, not_, h) in omega (arith, ap (end_at ss) same, end)
    ]
