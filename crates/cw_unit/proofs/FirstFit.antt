-- The first fit is not below where it begins, meets no absolute family, and is the least such address.
use Rattle.std.proofs.Common.{◌≡◌, ℕ, zero, suc, ◌+◌, ◌<◌, ◌≤◌, min, max, List, [], ◌∷◌, length, Bool, true, false, cond, nat_lt, Option, Some, None, refl, sym, ap, ◌∙◌, inl, inr, arith, slice_get, lt-ltb, ltb-true, ltb-false}
use Rattle.std.proofs.lemmas.Bool.{cases_Bool, le-ltb}
use Rattle.std.proofs.lemmas.Option.{none-some, same_Some}
use Rattle.cw_unit.specs.Allocation.{Range, meets, met_end, first_fit_within, first_fit}

-- how many of these ranges end after an address
later : List Range → ℕ → ℕ
later [] a = 0
later (r ∷ rs) a = cond (nat_lt a r.end) 1 0 + later rs a

one-less : (a b : Bool) → (a ≡ true → b ≡ true) → cond a 1 0 ≤ cond b 1 0
one-less true b h = rw (h refl) (omega arith)
one-less false b h = omega arith

later-short : (rs : List Range) (a : ℕ) → later rs a ≤ length rs
unfolding later
later-short [] a = omega arith
later-short (r ∷ rs) a =
    let h : cond (nat_lt a r.end) 1 0 ≤ 1 = one-less (nat_lt a r.end) true (λ _. refl) in
    omega (arith, h, later-short rs a)

later-fewer : (rs : List Range) (a b : ℕ) → a ≤ b → later rs b ≤ later rs a
unfolding later
later-fewer [] a b h = omega arith
later-fewer (r ∷ rs) a b h =
    let k : cond (nat_lt b r.end) 1 0 ≤ cond (nat_lt a r.end) 1 0 =
    one-less (nat_lt b r.end) (nat_lt a r.end) (λ e. lt-ltb a r.end (omega (arith, ltb-true b r.end e, h))) in
    omega (arith, k, later-fewer rs a b h)

-- a range that is met ends after the address
met-after : (a extent : ℕ) (r : Range) → meets a extent r ≡ true → a < r.end
met-after a extent r h = omega (arith, ltb-true (max a r.start) (min (a + extent) r.end) h)

met-step : (a extent : ℕ) (r : Range) (rs : List Range) (e : ℕ) → a < r.end → r.end ≡ e → (a < e) × (later (r ∷ rs) e < later (r ∷ rs) a)
unfolding later
met-step a extent r rs e h is =
    let fewer : later rs r.end ≤ later rs a = later-fewer rs a r.end (omega (arith, h)) in
    let here : ◌≡◌ {A = ℕ} (cond (nat_lt a r.end) 1 0) 1 = ap (λ b. cond b 1 0) (lt-ltb a r.end h) in
    let there : ◌≡◌ {A = ℕ} (cond (nat_lt r.end r.end) 1 0) 0 = ap (λ b. cond b 1 0) (le-ltb r.end r.end (omega arith)) in
    rw (sym is) (h, omega (arith, fewer, here, there))

other-step : (a : ℕ) (r : Range) (rs : List Range) (e : ℕ) → (a < e) × (later rs e < later rs a) → (a < e) × (later (r ∷ rs) e < later (r ∷ rs) a)
unfolding later
other-step a r rs e h =
    let k : cond (nat_lt e r.end) 1 0 ≤ cond (nat_lt a r.end) 1 0 =
    one-less (nat_lt e r.end) (nat_lt a r.end) (λ t. lt-ltb a r.end (omega (arith, ltb-true e r.end t, h.0))) in
    (h.0, omega (arith, k, h.1))

met-later : (rs : List Range) (a extent e : ℕ) → met_end rs a extent ≡ Some e → (a < e) × (later rs e < later rs a)
met-later [] a extent e h = absurd (none-some e h)
met-later (r ∷ rs) a extent e h =
    elim (cases_Bool (meets a extent r)) [
      | inl t ↦ met-step a extent r rs e (met-after a extent r t)
          (same_Some r.end e (sym (ap (λ b. cond b (Some r.end) (met_end rs a extent)) t) ∙ h))
      | inr f ↦ other-step a r rs e (met-later rs a extent e (sym (ap (λ b. cond b (Some r.end) (met_end rs a extent)) f) ∙ h))
    ]

found-none : (rs : List Range) (extent a : ℕ) (o : Option ℕ) → met_end rs a extent ≡ o → later rs a ≤ 0 → met_end rs a extent ≡ None
found-none rs extent a None e h = e
found-none rs extent a (Some end) e h = absurd (omega (arith, (met-later rs a extent end e).1, h))

-- the address that is found, where enough ranges may be passed
abbrev Found : List Range → (extent a b : ℕ) → Type 0
Found rs extent a b = (a ≤ b) × (met_end rs b extent ≡ None)

found-next : (n : ℕ) (rs : List Range) (extent a : ℕ) (o : Option ℕ) → ((b : ℕ) → later rs b ≤ n → Found rs extent b (first_fit_within n rs extent b)) → met_end rs a extent ≡ o → later rs a ≤ suc n → Found rs extent a (elim o [ None ↦ a | Some end ↦ first_fit_within n rs extent end ])
found-next n rs extent a None rest e h = (omega arith, e)
found-next n rs extent a (Some end) rest e h =
    let m : (a < end) × (later rs end < later rs a) = met-later rs a extent end e in
    let f : Found rs extent end (first_fit_within n rs extent end) = rest end (omega (arith, m.1, h)) in
    (omega (arith, m.0, f.0), f.1)

found : (n : ℕ) (rs : List Range) (extent a : ℕ) → later rs a ≤ n → Found rs extent a (first_fit_within n rs extent a)
found zero rs extent a h = (omega arith, found-none rs extent a (met_end rs a extent) refl h)
found (suc n) rs extent a h = found-next n rs extent a (met_end rs a extent) (λ b. found n rs extent b) refl h

pub first_fit-after : (rs : List Range) (extent a : ℕ) → a ≤ first_fit rs extent a
first_fit-after rs extent a = (found (length rs) rs extent a (later-short rs a)).0

clear-here : (r : Range) (rs : List Range) (extent a : ℕ) → met_end (r ∷ rs) a extent ≡ None → (meets a extent r ≡ false) × (met_end rs a extent ≡ None)
clear-here r rs extent a h =
    elim (cases_Bool (meets a extent r)) [
      | inl t ↦ absurd (none-some r.end (sym h ∙ ap (λ b. cond {A = Option ℕ} b (Some r.end) (met_end rs a extent)) t))
      | inr f ↦ (f, sym (ap (λ b. cond {A = Option ℕ} b (Some r.end) (met_end rs a extent)) f) ∙ h)
    ]

clear : (rs : List Range) (extent a : ℕ) → met_end rs a extent ≡ None → (k : ℕ) (r : Range) → slice_get rs k ≡ Some r → meets a extent r ≡ false
clear [] extent a h k r e = absurd (none-some r e)
clear (s ∷ rs) extent a h zero r e = ap (meets a extent) (sym (same_Some s r e)) ∙ (clear-here s rs extent a h).0
clear (s ∷ rs) extent a h (suc k) r e = clear rs extent a (clear-here s rs extent a h).1 k r e

pub first_fit-clear : (rs : List Range) (extent a k : ℕ) (r : Range) → slice_get rs k ≡ Some r → meets (first_fit rs extent a) extent r ≡ false
first_fit-clear rs extent a k r e =
    clear rs extent (first_fit rs extent a) ((found (length rs) rs extent a (later-short rs a)).1) k r e

-- ---- the least such address

-- an address that is clear and past one that meets a range is past the range
past-range : (a b extent e : ℕ) (r : Range) → a ≤ b → meets a extent r ≡ true → meets b extent r ≡ false → r.end ≡ e → e ≤ b
past-range a b extent e r h t f is =
    omega (arith, h, is, ltb-true (max a r.start) (min (a + extent) r.end) t, ltb-false (max b r.start) (min (b + extent) r.end) f)

later-least : (b extent e : ℕ) (rs : List Range) → (a : ℕ) → a ≤ b → met_end rs b extent ≡ None → met_end rs a extent ≡ Some e → e ≤ b
later-least b extent e [] a h clear met = absurd (none-some e met)
later-least b extent e (r ∷ rs) a h c met =
    elim (cases_Bool (meets a extent r)) [
      | inl t ↦ past-range a b extent e r h t (clear-here r rs extent b c).0
          (same_Some r.end e (sym (ap (λ x. cond {A = Option ℕ} x (Some r.end) (met_end rs a extent)) t) ∙ met))
      | inr f ↦ later-least b extent e rs a h (clear-here r rs extent b c).1
          (sym (ap (λ x. cond {A = Option ℕ} x (Some r.end) (met_end rs a extent)) f) ∙ met)
    ]

least-next : (n : ℕ) (rs : List Range) (extent a b : ℕ) (o : Option ℕ) → ((c : ℕ) → c ≤ b → first_fit_within n rs extent c ≤ b) → met_end rs a extent ≡ o → a ≤ b → met_end rs b extent ≡ None → elim o [ None ↦ a | Some end ↦ first_fit_within n rs extent end ] ≤ b
least-next n rs extent a b None rest e h c = h
least-next n rs extent a b (Some end) rest e h c = rest end (later-least b extent end rs a h c e)

least : (n : ℕ) (rs : List Range) (extent a b : ℕ) → a ≤ b → met_end rs b extent ≡ None → first_fit_within n rs extent a ≤ b
least zero rs extent a b h c = h
least (suc n) rs extent a b h c = least-next n rs extent a b (met_end rs a extent) (λ d k. least n rs extent d b k c) refl h c

unmet : (rs : List Range) (extent a : ℕ) → ((k : ℕ) (r : Range) → slice_get rs k ≡ Some r → meets a extent r ≡ false) → met_end rs a extent ≡ None
unmet [] extent a h = refl
unmet (r ∷ rs) extent a h =
    ap (λ x. cond {A = Option ℕ} x (Some r.end) (met_end rs a extent)) (h 0 r refl) ∙ unmet rs extent a (λ k s e. h (suc k) s e)

pub first_fit-least : (rs : List Range) (extent a b : ℕ) → a ≤ b → ((k : ℕ) (r : Range) → slice_get rs k ≡ Some r → meets b extent r ≡ false) → first_fit rs extent a ≤ b
first_fit-least rs extent a b h c = least (length rs) rs extent a b h (unmet rs extent b c)
