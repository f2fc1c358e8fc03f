-- The bytes that digits spell, by their places.
use Rattle.std.proofs.Common.{◌≡◌, ℕ, zero, suc, ◌+◌, ◌*◌, ◌/◌, ◌%◌, drop, ◌<◌, ◌≤◌, List, [], ◌∷◌, length, get_or, refl, ap, ◌∙◌, arith}
use Rattle.std.specs.List.{sum, fold}
use Rattle.std.proofs.lemmas.List.{drop_all, drop_more}
use Rattle.cw_hex.specs.HexFormat.{bytes_of, digit_value}

pub bytes_at : (ds : List ℕ) (k : ℕ) → 2 * k + 1 < length ds → get_or (bytes_of ds) k 0 ≡ 16 * digit_value (get_or ds (2 * k) 0) + digit_value (get_or ds (2 * k + 1) 0)
bytes_at [] k h = absurd (omega arith)
bytes_at (c ∷ []) k h = absurd (omega arith)
bytes_at (c ∷ d ∷ ds) zero h = refl
bytes_at (c ∷ d ∷ ds) (suc k) h =
    let odd : 2 * suc k + 1 ≡ suc (suc (2 * k + 1)) = omega arith in
    let even : 2 * suc k ≡ suc (suc (2 * k)) = omega arith in
    rw (odd, even) (bytes_at ds k (omega arith))

pub length-bytes : (ds : List ℕ) → length (bytes_of ds) ≡ length ds / 2
length-bytes [] = refl
length-bytes (c ∷ []) = refl
length-bytes (c ∷ d ∷ ds) = let h = length-bytes ds in omega (arith, h)

fold_from : (a : ℕ) (xs : List ℕ) → fold ◌+◌ a xs ≡ a + fold ◌+◌ 0 xs
fold_from a [] = omega arith
fold_from a (x ∷ xs) =
    let one = fold_from (a + x) xs in
    let two = fold_from (0 + x) xs in
    omega (arith, one, two)

pub sum-cons : (x : ℕ) (xs : List ℕ) → sum (x ∷ xs) ≡ x + sum xs
sum-cons x xs = let h = fold_from (0 + x) xs in omega (arith, h)

pub sum_done : (ds : List ℕ) (k total : ℕ) → length ds / 2 ≤ k → total < 256 → (total + sum (drop k (bytes_of ds))) % 256 ≡ sum (bytes_of ds) % 256 → total ≡ sum (bytes_of ds) % 256
sum_done ds k total h small so_far =
    let n = length-bytes ds in
    let past : length (bytes_of ds) ≤ k = omega (arith, n) in
    let d = ap sum (drop_all k (bytes_of ds) past) in
    omega (arith, d, so_far)

pub sum_more : (ds : List ℕ) (k total b : ℕ) → k < length ds / 2 → b ≡ get_or (bytes_of ds) k 0 → (total + sum (drop k (bytes_of ds))) % 256 ≡ sum (bytes_of ds) % 256
    → ((total + b) % 256 + sum (drop (k + 1) (bytes_of ds))) % 256 ≡ sum (bytes_of ds) % 256
sum_more ds k total b h is so_far =
    let n = length-bytes ds in
    let inside : k < length (bytes_of ds) = omega (arith, n) in
    let d : sum (drop k (bytes_of ds)) ≡ get_or (bytes_of ds) k 0 + sum (drop (k + 1) (bytes_of ds)) = ap sum (drop_more (bytes_of ds) k 0 inside) ∙ sum-cons (get_or (bytes_of ds) k 0) (drop (k + 1) (bytes_of ds)) in
    omega (arith, d, is, so_far)
