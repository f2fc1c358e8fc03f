-- Fronts of lists by a test of their items.
use Rattle.std.proofs.Common.{◌≡◌, ℕ, suc, ◌+◌, ◌≤◌, Bool, true, false, cond, List, [], ◌∷◌, ◌++◌, length, take, drop, refl, ap, subst, arith}
use Rattle.std.specs.List.{prefix_len, list_all}
use Rattle.std.proofs.lemmas.Bool.{and_parts, and_from}
use Rattle.std.proofs.lemmas.List.{length-take}
use Rattle.std.proofs.Math.Numerals.{one-add}
use Rattle.std.proofs.Math.Seq.{take-append_seam, drop-append_seam}

pub every_prefix : (p : ℕ → Bool) (w r : List ℕ) → list_all p w ≡ true → length w ≤ prefix_len p (w ++ r)
every_prefix p [] r e = omega arith
every_prefix p (b ∷ w) r e =
    let q = and_parts (p b) (list_all p w) e in
    rw q.0 (omega (arith, every_prefix p w r q.1))

pub every_stop : (p : ℕ → Bool) (w : List ℕ) (d : ℕ) (r : List ℕ) → list_all p w ≡ true → p d ≡ false → prefix_len p (w ++ d ∷ r) ≡ length w
every_stop p [] d r e n = rw n refl
every_stop p (b ∷ w) d r e n =
    let q = and_parts (p b) (list_all p w) e in
    rw q.0 (omega (arith, every_stop p w d r q.1 n))

pub every_take : (p : ℕ → Bool) (bs : List ℕ) → list_all p (take (prefix_len p bs) bs) ≡ true
every_take p [] = refl
every_take p (b ∷ bs) =
    elim (p b) as (λ c. p b ≡ c → list_all p (take (cond c (1 + prefix_len p bs) 0) (b ∷ bs)) ≡ true) [
      | true ↦ λ e. rw one-add (and_from (p b) (list_all p (take (prefix_len p bs) bs)) e (every_take p bs))
      | false ↦ λ e. refl
    ] refl

pub every_all : (p : ℕ → Bool) (xs : List ℕ) → list_all p xs ≡ true → prefix_len p xs ≡ length xs
every_all p [] e = refl
every_all p (x ∷ xs) e =
    let q = and_parts (p x) (list_all p xs) e in
    rw q.0 (omega (arith, every_all p xs q.1))

pub all_of : (p : ℕ → Bool) (xs : List ℕ) → prefix_len p xs ≡ length xs → list_all p xs ≡ true
all_of p [] e = refl
all_of p (x ∷ xs) e =
    elim (p x) as (λ c. p x ≡ c → cond c (1 + prefix_len p xs) 0 ≡ suc (length xs) → list_all p (x ∷ xs) ≡ true) [
      | true ↦ λ h k. and_from (p x) (list_all p xs) h (all_of p xs (omega arith))
      | false ↦ λ h k. absurd (omega arith)
    ] refl e

pub cut : (u v bs : List ℕ) (k : ℕ) → bs ≡ u ++ v → length u ≡ k → (take k bs ≡ u) × (drop k bs ≡ v)
cut u v bs k e h =
    let t : take k (u ++ v) ≡ u = subst (λ (n : ℕ). take n (u ++ v) ≡ u) h (take-append_seam u v) in
    let d : drop k (u ++ v) ≡ v = subst (λ (n : ℕ). drop n (u ++ v) ≡ v) h (drop-append_seam u v) in
    (rw e t, rw e d)

pub length_front : (n : ℕ) (bs : List ℕ) → n ≤ length bs → length (take n bs) ≡ n
length_front n bs h = omega (arith, length-take n bs)

-- what stops the bytes that pass begins behind them
pub prefix_seam : (p : ℕ → Bool) (w : List ℕ) (d : ℕ) (r : List ℕ) → p d ≡ false → prefix_len p (w ++ d ∷ r) ≡ prefix_len p w
prefix_seam p [] d r n = rw n refl
prefix_seam p (b ∷ w) d r n = ap (λ (k : ℕ). cond (p b) (1 + k) 0) (prefix_seam p w d r n)

pub prefix_front : (p : ℕ → Bool) (w r : List ℕ) → prefix_len p w ≤ prefix_len p (w ++ r)
prefix_front p [] r = omega arith
prefix_front p (b ∷ w) r =
    elim (p b) as (λ c. cond c (1 + prefix_len p w) 0 ≤ cond c (1 + prefix_len p (w ++ r)) 0) [
      | true ↦ omega (arith, prefix_front p w r)
      | false ↦ omega arith
    ]

pub take_more : (u v : List ℕ) (n : ℕ) → take (length u + n) (u ++ v) ≡ u ++ take n v
take_more [] v n = (let e : 0 + n ≡ n = omega arith in rw e refl)
take_more (b ∷ u) v n = (let e : suc (length u) + n ≡ suc (length u + n) = omega arith in rw e (ap (λ (z : List ℕ). b ∷ z) (take_more u v n)))
