-- Members of lists, lists within lists, and lists of tokens that rise.
use Rattle.std.proofs.Common.{◌≡◌, ℕ, zero, suc, ◌+◌, ◌≤◌, ◌<◌, List, [], ◌∷◌, ◌++◌, length, Some, slice_get, refl, sym, ap, subst, arith, ◌⊎◌, inl, inr}
use Rattle.std.proofs.lemmas.Option.{none-some, same_Some}
use Rattle.cw_sound.specs.Items.Derived.{IsRising}
use Rattle.cw_macro.specs.Premises.{Each}

-- ---- members

module _ {A : Type 0} where
  abbrev pub In : (x : A) → List A → Type 0
  In x [] = ⊥
  In x (y ∷ ys) = (x ≡ y) ⊎ In x ys

  pub in-left : (x : A) (xs ys : List A) → In x xs → In x (xs ++ ys)
  in-left x [] ys h = absurd h
  in-left x (y ∷ xs) ys (inl e) = inl e
  in-left x (y ∷ xs) ys (inr h) = inr (in-left x xs ys h)

  pub in-right : (x : A) (xs ys : List A) → In x ys → In x (xs ++ ys)
  in-right x [] ys h = h
  in-right x (y ∷ xs) ys h = inr (in-right x xs ys h)

  pub in-either : (x : A) (xs ys : List A) → In x (xs ++ ys) → In x xs ⊎ In x ys
  in-either x [] ys h = inr h
  in-either x (y ∷ xs) ys (inl e) = inl (inl e)
  in-either x (y ∷ xs) ys (inr h) = elim (in-either x xs ys h) [ inl a ↦ inl (inr a) | inr b ↦ inr b ]

  pub in-place : (x : A) (xs : List A) → In x xs → (i : ℕ) × (slice_get xs i ≡ Some x)
  in-place x [] h = absurd h
  in-place x (y ∷ xs) (inl e) = (0, ap Some (sym e))
  in-place x (y ∷ xs) (inr h) = let r = in-place x xs h in (suc r.0, r.1)

  pub at-place : (xs : List A) (i : ℕ) (x : A) → slice_get xs i ≡ Some x → In x xs
  at-place [] i x e = absurd (none-some x e)
  at-place (y ∷ xs) zero x e = inl (sym (same_Some y x e))
  at-place (y ∷ xs) (suc i) x e = inr (at-place xs i x e)

  pub each-append : (P : A → Type 0) (xs ys : List A) → Each P xs → Each P ys → Each P (xs ++ ys)
  each-append P [] ys h k = k
  each-append P (x ∷ xs) ys h k = (h.0, each-append P xs ys h.1 k)

  pub each-left : (P : A → Type 0) (xs ys : List A) → Each P (xs ++ ys) → Each P xs
  each-left P [] ys h = tt
  each-left P (x ∷ xs) ys h = (h.0, each-left P xs ys h.1)

  pub each-right : (P : A → Type 0) (xs ys : List A) → Each P (xs ++ ys) → Each P ys
  each-right P [] ys h = h
  each-right P (x ∷ xs) ys h = each-right P xs ys h.1

  pub each-in : (P : A → Type 0) (xs : List A) → Each P xs → (x : A) → In x xs → P x
  each-in P [] h x i = absurd i
  each-in P (y ∷ xs) h x (inl e) = subst P (sym e) h.0
  each-in P (y ∷ xs) h x (inr i) = each-in P xs h.1 x i

  pub from-in : (P : A → Type 0) (xs : List A) → ((x : A) → In x xs → P x) → Each P xs
  from-in P [] h = tt
  from-in P (y ∷ xs) h = (h y (inl refl), from-in P xs (λ x i. h x (inr i)))

-- ---- lists within lists, in the same order

pub data Within : List ℕ → List ℕ → Type 0 where
  nothing : Within [] []
  past : {x : ℕ} {xs ys : List ℕ} → Within xs ys → Within xs (x ∷ ys)
  with : {x : ℕ} {xs ys : List ℕ} → Within xs ys → Within (x ∷ xs) (x ∷ ys)

pub none-within : (ys : List ℕ) → Within [] ys
none-within [] = nothing
none-within (y ∷ ys) = past (none-within ys)

pub within-itself : (xs : List ℕ) → Within xs xs
within-itself [] = nothing
within-itself (x ∷ xs) = with (within-itself xs)

pub within-append : {a b c d : List ℕ} → Within a b → Within c d → Within (a ++ c) (b ++ d)
within-append nothing k = k
within-append (past h) k = past (within-append h k)
within-append (with h) k = with (within-append h k)

pub within-in : {xs ys : List ℕ} (x : ℕ) → Within xs ys → In x xs → In x ys
within-in x nothing i = absurd i
within-in x (past h) i = inr (within-in x h i)
within-in x (with h) (inl e) = inl e
within-in x (with h) (inr i) = inr (within-in x h i)

-- ---- tokens that rise

pub from-lower : (m n : ℕ) (xs : List ℕ) → m ≤ n → IsRising n xs → IsRising m xs
from-lower m n [] h r = omega arith
from-lower m n (x ∷ xs) h r = (omega (arith, r.0), r.1)

pub rising-within : {xs ys : List ℕ} (n : ℕ) → Within xs ys → IsRising n ys → IsRising n xs
rising-within n nothing r = r
rising-within {xs = xs} n (past {x = x} h) r = rising-within n h (from-lower n (suc x) _ (omega (arith, r.0)) r.1)
rising-within n (with {x = x} h) r = (r.0, rising-within (suc x) h r.1)

pub rising-left : (n : ℕ) (xs ys : List ℕ) → IsRising n (xs ++ ys) → IsRising n xs
rising-left n [] [] r = r
rising-left n [] (y ∷ ys) r = let k = rising-left (suc y) [] ys r.1 in omega (arith, r.0, k)
rising-left n (x ∷ xs) ys r = (r.0, rising-left (suc x) xs ys r.1)

pub rising-right : (n : ℕ) (xs ys : List ℕ) → IsRising n (xs ++ ys) → IsRising n ys
rising-right n [] ys r = r
rising-right n (x ∷ xs) ys r = from-lower n (suc x) ys (omega (arith, r.0)) (rising-right (suc x) xs ys r.1)

pub not-below : (n : ℕ) (xs : List ℕ) (x : ℕ) → IsRising n xs → In x xs → n ≤ x
not-below n [] x r i = absurd i
not-below n (y ∷ xs) x r (inl e) = omega (arith, r.0, e)
not-below n (y ∷ xs) x r (inr i) = let k = not-below (suc y) xs x r.1 i in omega (arith, r.0, k)

pub few-tokens : (n : ℕ) (xs : List ℕ) → IsRising n xs → n + length xs ≤ 65536
few-tokens n [] r = omega (arith, r)
few-tokens n (x ∷ xs) r = let k = few-tokens (suc x) xs r.1 in omega (arith, r.0, k)

-- each of the first stands before each of the others
pub stands-before : (n : ℕ) (xs ys : List ℕ) (x y : ℕ) → IsRising n (xs ++ ys) → In x xs → In y ys → x < y
stands-before n [] ys x y r i j = absurd i
stands-before n (z ∷ xs) ys x y r (inl e) j = let k = not-below (suc z) (xs ++ ys) y r.1 (in-right y xs ys j) in omega (arith, e, k)
stands-before n (z ∷ xs) ys x y r (inr i) j = stands-before (suc z) xs ys x y r.1 i j

-- ---- two lists in one, each in its order

pub data Merged : List ℕ → List ℕ → List ℕ → Type 0 where
  neither : Merged [] [] []
  left : {z : ℕ} {xs ys zs : List ℕ} → Merged xs ys zs → Merged (z ∷ xs) ys (z ∷ zs)
  right : {z : ℕ} {xs ys zs : List ℕ} → Merged xs ys zs → Merged xs (z ∷ ys) (z ∷ zs)

pub all-right : (zs : List ℕ) → Merged [] zs zs
all-right [] = neither
all-right (z ∷ zs) = right (all-right zs)

pub merged-append : {a b c d e f : List ℕ} → Merged a b c → Merged d e f → Merged (a ++ d) (b ++ e) (c ++ f)
merged-append neither k = k
merged-append (left h) k = left (merged-append h k)
merged-append (right h) k = right (merged-append h k)

left-within : {xs ys zs : List ℕ} → Merged xs ys zs → Within xs zs
left-within neither = nothing
left-within (left h) = with (left-within h)
left-within (right h) = past (left-within h)

right-within : {xs ys zs : List ℕ} → Merged xs ys zs → Within ys zs
right-within neither = nothing
right-within (left h) = past (right-within h)
right-within (right h) = with (right-within h)

-- where the whole rises, none is in both
pub not-in-both : {xs ys zs : List ℕ} (n x : ℕ) → Merged xs ys zs → IsRising n zs → In x xs → In x ys → ⊥
not-in-both n x neither r i j = absurd i
not-in-both n x (left {z = z} {zs = zs} h) r (inl e) j = let k = not-below (suc z) zs x r.1 (within-in x (right-within h) j) in absurd (omega (arith, e, k))
not-in-both n x (left {z = z} h) r (inr i) j = not-in-both (suc z) x h r.1 i j
not-in-both n x (right {z = z} {zs = zs} h) r i (inl e) = let k = not-below (suc z) zs x r.1 (within-in x (left-within h) i) in absurd (omega (arith, e, k))
not-in-both n x (right {z = z} h) r i (inr j) = not-in-both (suc z) x h r.1 i j

-- ---- of equal things

pub moved_two : {A B : Type 0} (P : A → B → Type 0) {a b : A} {x y : B} → a ≡ b → x ≡ y → P b y → P a x
moved_two P {b = b} {x = x} e f h = subst (λ z. P z x) (sym e) (subst (P b) (sym f) h)

pub moved_three : {A B C : Type 0} (P : A → B → C → Type 0) {a b : A} {x y : B} {i j : C} → a ≡ b → x ≡ y → i ≡ j → P b y j → P a x i
moved_three P {b = b} {x = x} {y = y} {i = i} e f g h = subst (λ z. P z x i) (sym e) (subst (λ z. P b z i) (sym f) (subst (P b y) (sym g) h))
