-- The longest number at the front of a text.
use Rattle.std.proofs.Common.{◌≡◌, ℕ, zero, suc, ◌+◌, ◌≤◌, ◌<◌, true, false, cond, ◌==◌, List, [], ◌∷◌, ◌++◌, length, take, drop, refl, sym, ap, subst, ◌∙◌, arith, append_assoc}
use Rattle.std.specs.List.{prefix_len}
use Rattle.std.specs.Char.{is_ascii_digit}
use Rattle.std.proofs.lemmas.Bool.{eqb-true}
use Rattle.std.proofs.lemmas.List.{length-append, length-drop}
use Rattle.std.proofs.lemmas.List.Sums.{prefix_len-le-length}
use Rattle.std.proofs.Math.Seq.{drop-append_seam, take-add}
use Rattle.cw_lex.specs.Items.{AreDigits, IsNumber, whole, pointed}
use Rattle.cw_lex.specs.Found.{fraction}
use Rattle.cw_lex.proofs.Lists.{every_prefix, every_stop, every_take, length_front}

abbrev pub number_size : List ℕ → ℕ
number_size bs = prefix_len is_ascii_digit bs + fraction (drop (prefix_len is_ascii_digit bs) bs)

-- a fraction is a point and digits
fraction_most : (f r : List ℕ) → AreDigits f → length f + 1 ≤ fraction (46 ∷ (f ++ r))
fraction_most f r d =
    let more = every_prefix is_ascii_digit f r d.digits in
    elim (prefix_len is_ascii_digit (f ++ r) == 0) as (λ b. (prefix_len is_ascii_digit (f ++ r) == 0) ≡ b → length f + 1 ≤ cond b 0 (prefix_len is_ascii_digit (f ++ r) + 1)) [
      | true ↦ λ e. absurd (omega (arith, d.some, more, eqb-true (prefix_len is_ascii_digit (f ++ r)) 0 e))
      | false ↦ λ e. omega (arith, more)
    ] refl

pub number_most : (v r bs : List ℕ) → v ++ r ≡ bs → IsNumber v → length v ≤ number_size bs
number_most v r bs h (whole _ d) = omega (arith, every_prefix is_ascii_digit v r d.digits, ap (prefix_len is_ascii_digit) h)
number_most _ r bs h (pointed w f e d) =
    let shape : w ++ 46 ∷ (f ++ r) ≡ bs = sym (append_assoc w (46 ∷ f) r) ∙ h in
    let stop : prefix_len is_ascii_digit (w ++ 46 ∷ (f ++ r)) ≡ length w = every_stop is_ascii_digit w 46 (f ++ r) e refl in
    let behind : drop (length w) (w ++ 46 ∷ (f ++ r)) ≡ 46 ∷ (f ++ r) = drop-append_seam w (46 ∷ (f ++ r)) in
    let size : number_size (w ++ 46 ∷ (f ++ r)) ≡ length w + fraction (46 ∷ (f ++ r)) = rw (stop, behind) refl in
    let goal : length (w ++ 46 ∷ f) ≤ number_size (w ++ 46 ∷ (f ++ r)) = omega (arith, size, fraction_most f r d, length-append w (46 ∷ f)) in
    subst (λ (z : List ℕ). length (w ++ 46 ∷ f) ≤ number_size z) shape goal

-- what a fraction is
data IsFraction (bs : List ℕ) (n : ℕ) : Type 0 where
  without : n ≡ 0 → IsFraction bs n
  with_point : (ds : List ℕ) → bs ≡ 46 ∷ ds → 0 < prefix_len is_ascii_digit ds → n ≡ prefix_len is_ascii_digit ds + 1 → IsFraction bs n

fraction_is : (bs : List ℕ) → IsFraction bs (fraction bs)
fraction_is [] = without refl
fraction_is (c ∷ bs) =
    elim (c == 46) as (λ b. (c == 46) ≡ b → IsFraction (c ∷ bs) (cond b (cond (prefix_len is_ascii_digit bs == 0) 0 (prefix_len is_ascii_digit bs + 1)) 0)) [
      | false ↦ λ e. without refl
      | true ↦ λ e.
          elim (prefix_len is_ascii_digit bs == 0) as (λ b. (prefix_len is_ascii_digit bs == 0) ≡ b → IsFraction (c ∷ bs) (cond b 0 (prefix_len is_ascii_digit bs + 1))) [
            | true ↦ λ z. without refl
            | false ↦ λ z. with_point bs (ap (λ (x : ℕ). x ∷ bs) (eqb-true c 46 e)) (positive (prefix_len is_ascii_digit bs) z) refl
          ] refl
    ] refl
  where
    positive : (n : ℕ) → (n == 0) ≡ false → 0 < n
    positive zero e = absurd cc
    positive (suc n) e = omega arith

number_at : (bs : List ℕ) (n : ℕ) → IsFraction (drop (prefix_len is_ascii_digit bs) bs) n → 0 < prefix_len is_ascii_digit bs + n → IsNumber (take (prefix_len is_ascii_digit bs + n) bs)
number_at bs n (without e) h =
    let m = prefix_len is_ascii_digit bs in
    let same : m + n ≡ m = omega (arith, e) in
    let d : AreDigits (take m bs) = record { some = omega (arith, length_front m bs (prefix_len-le-length is_ascii_digit bs)); digits = every_take is_ascii_digit bs } in
    subst (λ (z : ℕ). IsNumber (take z bs)) (sym same) (whole (take m bs) d)
number_at bs n (with_point ds e p q) h =
    let m = prefix_len is_ascii_digit bs in
    let k = prefix_len is_ascii_digit ds in
    let d : AreDigits (take k ds) = record { some = omega (arith, length_front k ds (prefix_len-le-length is_ascii_digit ds)); digits = every_take is_ascii_digit ds } in
    let tail : take (suc k) (drop m bs) ≡ 46 ∷ take k ds = ap (take (suc k)) e in
    let parts : take (m + suc k) bs ≡ take m bs ++ 46 ∷ take k ds = take-add m (suc k) bs ∙ ap (λ (z : List ℕ). take m bs ++ z) tail in
    let count : m + n ≡ m + suc k = omega (arith, q) in
    subst IsNumber (sym (ap (λ (z : ℕ). take z bs) count ∙ parts)) (pointed (take m bs) (take k ds) (every_take is_ascii_digit bs) d)

pub number_is : (bs : List ℕ) → 0 < number_size bs → IsNumber (take (number_size bs) bs)
number_is bs h = number_at bs (fraction (drop (prefix_len is_ascii_digit bs) bs)) (fraction_is (drop (prefix_len is_ascii_digit bs) bs)) h

fraction_within : (bs : List ℕ) (n : ℕ) → IsFraction bs n → n ≤ length bs
fraction_within bs n (without e) = omega (arith, e)
fraction_within bs n (with_point ds e p q) = omega (arith, q, prefix_len-le-length is_ascii_digit ds, ap length e)

pub number_within : (bs : List ℕ) → number_size bs ≤ length bs
number_within bs = omega (arith, prefix_len-le-length is_ascii_digit bs, fraction_within (drop (prefix_len is_ascii_digit bs) bs) (fraction (drop (prefix_len is_ascii_digit bs) bs)) (fraction_is (drop (prefix_len is_ascii_digit bs) bs)), length-drop (prefix_len is_ascii_digit bs) bs)
