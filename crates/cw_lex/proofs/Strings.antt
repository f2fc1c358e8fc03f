-- The longest string at the front of a text.
use Rattle.std.proofs.Common.{◌≡◌, ℕ, zero, suc, ◌+◌, ◌≤◌, Bool, true, false, cond, ◌==◌, not, List, [], ◌∷◌, ◌++◌, length, take, Option, Some, refl, sym, ap, subst, ◌∙◌, ◌⊎◌, inl, inr, arith}
use Rattle.std.specs.Prelude.{nat_lt}
use Rattle.std.proofs.lemmas.Bool.{eqb-true}
use Rattle.std.proofs.lemmas.Bool.Decides.{nat_tests}
use Rattle.cw_lex.specs.Items.{is_plain, IsQuotable, empty, plain, pair}
use Rattle.cw_lex.specs.Found.{text_end}

-- Bytes with which a string ends: closed where the byte before is a quote that ends one.
pub data Ends : Bool → List ℕ → Type 0 where
  end : Ends true []
  open_quote : {w : List ℕ} → Ends true w → Ends false (34 ∷ w)
  other_quote : {w : List ℕ} → Ends false w → Ends true (34 ∷ w)
  inside : {b : ℕ} {w : List ℕ} → is_plain b ≡ true → Ends false w → Ends false (b ∷ w)

pub quotable_ends : (w : List ℕ) → IsQuotable w → Ends false (w ++ 34 ∷ [])
quotable_ends _ empty = open_quote end
quotable_ends _ (plain {w = w} e q) = inside e (quotable_ends w q)
quotable_ends _ (pair {w = w} q) = open_quote (other_quote (quotable_ends w q))

-- The quotable part of what ends.
pub data Quotes (c : Bool) (v : List ℕ) : Type 0 where
  quotes : (w : List ℕ) → IsQuotable w → c ≡ false → v ≡ w ++ 34 ∷ [] → Quotes c v
  quotes_more : (w : List ℕ) → IsQuotable w → c ≡ true → v ≡ 34 ∷ w ++ 34 ∷ [] → Quotes c v
  quotes_none : c ≡ true → v ≡ [] → Quotes c v

quotes_inside : {b : ℕ} {v : List ℕ} → is_plain b ≡ true → Quotes false v → Quotes false (b ∷ v)
quotes_inside {b} e (quotes w q n h) = quotes (b ∷ w) (plain e q) refl (ap (λ (z : List ℕ). b ∷ z) h)
quotes_inside e (quotes_more w q n h) = absurd cc
quotes_inside e (quotes_none n h) = absurd cc

quotes_open : {v : List ℕ} → Quotes true v → Quotes false (34 ∷ v)
quotes_open (quotes w q n h) = absurd cc
quotes_open (quotes_more w q n h) = quotes (34 ∷ 34 ∷ w) (pair q) refl (ap (λ (z : List ℕ). 34 ∷ z) h)
quotes_open (quotes_none n h) = quotes [] empty refl (ap (λ (z : List ℕ). 34 ∷ z) h)

quotes_other : {v : List ℕ} → Quotes false v → Quotes true (34 ∷ v)
quotes_other (quotes w q n h) = quotes_more w q refl (ap (λ (z : List ℕ). 34 ∷ z) h)
quotes_other (quotes_more w q n h) = absurd cc
quotes_other (quotes_none n h) = absurd cc

pub ends_quotes : {c : Bool} {w : List ℕ} → Ends c w → Quotes c w
ends_quotes end = quotes_none refl refl
ends_quotes (open_quote d) = quotes_open (ends_quotes d)
ends_quotes (other_quote d) = quotes_other (ends_quotes d)
ends_quotes (inside e d) = quotes_inside e (ends_quotes d)

-- The farthest end in the bytes, or none but the one before.
pub data EndsAt (closed : Bool) (at : ℕ) (end : Option ℕ) (bs : List ℕ) : Option ℕ → Type 0 where
  as_before : ((v r : List ℕ) → v ++ r ≡ bs → Ends closed v → v ≡ []) → EndsAt closed at end bs end
  farther : (n : ℕ) → suc n ≤ length bs → Ends closed (take (suc n) bs) → ((v r : List ℕ) → v ++ r ≡ bs → Ends closed v → length v ≤ suc n) → EndsAt closed at end bs (Some (at + suc n))

-- how an end begins
data BeginsEnd (closed : Bool) (v : List ℕ) : Type 0 where
  begins_none : closed ≡ true → v ≡ [] → BeginsEnd closed v
  begins_quote : (w : List ℕ) → v ≡ 34 ∷ w → Ends (not closed) w → BeginsEnd closed v
  begins_plain : (b : ℕ) (w : List ℕ) → closed ≡ false → v ≡ b ∷ w → is_plain b ≡ true → Ends false w → BeginsEnd closed v

begins : {closed : Bool} {v : List ℕ} → Ends closed v → BeginsEnd closed v
begins end = begins_none refl refl
begins (open_quote {w = w} d) = begins_quote w refl d
begins (other_quote {w = w} d) = begins_quote w refl d
begins (inside {b = b} {w = w} e d) = begins_plain b w refl refl e d

never_ends : (v : List ℕ) → v ≡ [] → Ends false v → ⊥
never_ends v h d = elim (begins d) [
  | begins_none e q ↦ cc
  | begins_quote w e q ↦ cc
  | begins_plain b w c e p q ↦ cc
]

not_plain : is_plain 34 ≡ true → ⊥
not_plain e = cc

-- one byte more, which leads from one state to another
abbrev Back : (closed next : Bool) (b : ℕ) (bs : List ℕ) → Type 0
Back closed next b bs = (v r : List ℕ) → v ++ r ≡ b ∷ bs → Ends closed v → (v ≡ []) ⊎ ((w : List ℕ) × (v ≡ b ∷ w) × Ends next w)

same_tail : (v r w bs : List ℕ) (b : ℕ) → v ++ r ≡ b ∷ bs → v ≡ b ∷ w → w ++ r ≡ bs
same_tail v r w bs b h e = let g : b ∷ (w ++ r) ≡ b ∷ bs = ap (λ (z : List ℕ). z ++ r) (sym e) ∙ h in cc

shorter : (closed next : Bool) (b m : ℕ) (bs : List ℕ) → Back closed next b bs → ((v r : List ℕ) → v ++ r ≡ bs → Ends next v → length v ≤ m) → (v r : List ℕ) → v ++ r ≡ b ∷ bs → Ends closed v → length v ≤ suc m
shorter closed next b m bs back d v r h e = elim (back v r h e) [
  | inl z ↦ omega (arith, ap length z)
  | inr x ↦ omega (arith, ap length x.1, d x.0 r (same_tail v r x.0 bs b h x.1) x.2)
]

steps : (closed next : Bool) (at : ℕ) (so_far other r : Option ℕ) (b : ℕ) (bs : List ℕ) → ((w : List ℕ) → Ends next w → Ends closed (b ∷ w)) → Back closed next b bs
    → EndsAt next (at + 1) other bs r → (next ≡ false → other ≡ so_far) → (next ≡ true → other ≡ Some (at + 1)) → EndsAt closed at so_far (b ∷ bs) r
steps closed false at so_far other r b bs on back (as_before d) same new =
    let none : (v r : List ℕ) → v ++ r ≡ b ∷ bs → Ends closed v → v ≡ [] = λ v r h e. elim (back v r h e) [
      | inl z ↦ z
      | inr x ↦ absurd (never_ends x.0 (d x.0 r (same_tail v r x.0 bs b h x.1) x.2) x.2)
    ] in
    let F : Option ℕ → Type 0 = λ (z : Option ℕ). EndsAt closed at so_far (b ∷ bs) z in
    subst F (sym (same refl)) (as_before none)
steps closed true at so_far other r b bs on back (as_before d) same new =
    let F : Option ℕ → Type 0 = λ (z : Option ℕ). EndsAt closed at so_far (b ∷ bs) z in
    subst F (sym (new refl)) (farther zero (omega arith) (on [] end) (shorter closed true b zero bs back (λ v r h e. omega (arith, ap length (d v r h e)))))
steps closed next at so_far other r b bs on back (farther n l e d) same new =
    let F : Option ℕ → Type 0 = λ (z : Option ℕ). EndsAt closed at so_far (b ∷ bs) z in
    let size : at + suc (suc n) ≡ at + 1 + suc n = omega arith in
    subst F (ap Some size) (farther (suc n) (omega (arith, l)) (on (take (suc n) bs) e) (shorter closed next b (suc n) bs back d))

same_head : (v r w bs : List ℕ) (b c : ℕ) → v ++ r ≡ b ∷ bs → v ≡ c ∷ w → c ≡ b
same_head v r w bs b c h e = let g : c ∷ (w ++ r) ≡ b ∷ bs = ap (λ (z : List ℕ). z ++ r) (sym e) ∙ h in cc

plain_quote : (b c : ℕ) → c ≡ b → b ≡ 34 → is_plain c ≡ true → ⊥
plain_quote b c e q p = let h : is_plain 34 ≡ true = ap is_plain (sym (e ∙ q)) ∙ p in not_plain h

back_at_quote : (closed : Bool) (b : ℕ) (bs : List ℕ) → b ≡ 34 → Back closed (not closed) b bs
back_at_quote closed b bs q v r g d = elim (begins d) [
  | begins_none e h ↦ inl h
  | begins_quote w h e ↦ inr (w, h ∙ ap (λ (z : ℕ). z ∷ w) (sym q), e)
  | begins_plain c w e h p k ↦ absurd (plain_quote b c (same_head v r w bs b c g h) q p)
]

back_at_other : (b : ℕ) (bs : List ℕ) → (b == 34) ≡ false → Back false false b bs
back_at_other b bs q v r g d = elim (begins d) [
  | begins_none e h ↦ inl h
  | begins_quote w h e ↦ (let n : 34 ≡ b = same_head v r w bs b 34 g h in let z : (b == 34) ≡ true = ap (λ (x : ℕ). x == 34) (sym n) in absurd cc)
  | begins_plain c w e h p k ↦ inr (w, h ∙ ap (λ (z : ℕ). z ∷ w) (same_head v r w bs b c g h), k)
]

back_at_end : (b : ℕ) (bs : List ℕ) → (b == 34) ≡ false → (v r : List ℕ) → v ++ r ≡ b ∷ bs → Ends true v → v ≡ []
back_at_end b bs q v r g d = elim (begins d) [
  | begins_none e h ↦ h
  | begins_quote w h e ↦ (let n : 34 ≡ b = same_head v r w bs b 34 g h in let z : (b == 34) ≡ true = ap (λ (x : ℕ). x == 34) (sym n) in absurd cc)
  | begins_plain c w e h p k ↦ absurd cc
]

low_plain : (b : ℕ) → nat_lt b 32 ≡ true → is_plain b ≡ true → ⊥
low_plain b l p = grind (arith, nat_tests, l, p)

high_plain : (b : ℕ) → (b == 34) ≡ false → nat_lt b 32 ≡ false → is_plain b ≡ true
high_plain b q l = rw q (grind (arith, nat_tests, l))

back_at_low : (b : ℕ) (bs : List ℕ) → (b == 34) ≡ false → nat_lt b 32 ≡ true → (v r : List ℕ) → v ++ r ≡ b ∷ bs → Ends false v → v ≡ []
back_at_low b bs q l v r g d = elim (begins d) [
  | begins_none e h ↦ h
  | begins_quote w h e ↦ (let n : 34 ≡ b = same_head v r w bs b 34 g h in let z : (b == 34) ≡ true = ap (λ (x : ℕ). x == 34) (sym n) in absurd cc)
  | begins_plain c w e h p k ↦ absurd (low_plain b l (ap is_plain (sym (same_head v r w bs b c g h)) ∙ p))
]

on_quote : (closed : Bool) (b : ℕ) → b ≡ 34 → (w : List ℕ) → Ends (not closed) w → Ends closed (b ∷ w)
on_quote true b q w d = let F : ℕ → Type 0 = λ (z : ℕ). Ends true (z ∷ w) in subst F (sym q) (other_quote d)
on_quote false b q w d = let F : ℕ → Type 0 = λ (z : ℕ). Ends false (z ∷ w) in subst F (sym q) (open_quote d)

pub text_end_is : (closed : Bool) (at : ℕ) (so_far : Option ℕ) (bs : List ℕ) → EndsAt closed at so_far bs (text_end closed at so_far bs)
text_end_is closed at so_far [] = as_before (λ v r h d. nothing v r h)
  where
    nothing : (v r : List ℕ) → v ++ r ≡ [] → v ≡ []
    nothing [] r h = refl
    nothing (x ∷ v) r h = absurd cc
text_end_is true at so_far (b ∷ bs) =
    elim (b == 34) as (λ t. (b == 34) ≡ t → EndsAt true at so_far (b ∷ bs) (cond t (text_end false (at + 1) so_far bs) so_far)) [
      | true ↦ λ q. steps true false at so_far so_far (text_end false (at + 1) so_far bs) b bs (on_quote true b (eqb-true b 34 q)) (back_at_quote true b bs (eqb-true b 34 q)) (text_end_is false (at + 1) so_far bs) (λ e. refl) (λ e. absurd cc)
      | false ↦ λ q. as_before (back_at_end b bs q)
    ] refl
text_end_is false at so_far (b ∷ bs) =
    elim (b == 34) as (λ t. (b == 34) ≡ t → EndsAt false at so_far (b ∷ bs) (cond t (text_end true (at + 1) (Some (at + 1)) bs) (cond (nat_lt b 32) so_far (text_end false (at + 1) so_far bs)))) [
      | true ↦ λ q. steps false true at so_far (Some (at + 1)) (text_end true (at + 1) (Some (at + 1)) bs) b bs (on_quote false b (eqb-true b 34 q)) (back_at_quote false b bs (eqb-true b 34 q)) (text_end_is true (at + 1) (Some (at + 1)) bs) (λ e. absurd cc) (λ e. refl)
      | false ↦ λ q.
          elim (nat_lt b 32) as (λ t. nat_lt b 32 ≡ t → EndsAt false at so_far (b ∷ bs) (cond t so_far (text_end false (at + 1) so_far bs))) [
            | true ↦ λ l. as_before (back_at_low b bs q l)
            | false ↦ λ l. steps false false at so_far so_far (text_end false (at + 1) so_far bs) b bs (λ w d. inside (high_plain b q l) d) (back_at_other b bs q) (text_end_is false (at + 1) so_far bs) (λ e. refl) (λ e. absurd cc)
          ] refl
    ] refl
