-- The numbers of blocks that take parts of words, or halve a word several times; and a word that takes the bits of a part.
use Rattle.std.proofs.Common.{◌≡◌, ℕ, zero, suc, ◌+◌, ◌-◌, ◌*◌, ◌/◌, ◌%◌, ◌^◌, ◌<◌, ◌≤◌, Bool, true, false, ℤ, pos, negsuc, ◌*ℤ◌, neg_ℤ, Option, Some, None, refl, sym, ap, ap₂, ◌∙◌, subst, arith, lit≤, pow_pos, pow-add, min, max}
use borrow.Author.Tests.{eqb-true}
use Rattle.std.proofs.lemmas.Bool.Decides.{nat_tests}
use Rattle.std.proofs.lemmas.Nat.{shl-shr, shr_high, shr_below, and_le_r, and-not, and_mask, xor_of_16, or_of_16}
use Rattle.std.proofs.lemmas.Nat.Bits.{bit_at-lt, bit_at_and, bit_at_or, bit_at_xor, bit_at_ones, same_from_bits_below}
use Rattle.std.proofs.Math.Nat.{mod-eq_of_lt}
use Rattle.std.specs.Int.{bit_at}
use Rattle.std.specs.Int.Bits.{and_self, xor_disjoint}
use Rattle.std.specs.Prelude.{bit_and, bit_or, bit_xor, nat_lt, nat_le, ◌==◌, ◌&&◌, if◌then◌else◌}
use Rattle.cw_word.specs.FixedPoint.{floor_div, scaled_product}
use Rattle.cw_tmpl.specs.Blocks.{is_part, exponent_of, places_between, halving_places}
use Rattle.cw_follow.proofs.WordLaws.{WordLaws}

pub part_of : (t b : ℕ) → is_part t b ≡ true → (1 ≤ t) × (t + b ≤ 16)
part_of t b is = (grind (arith, nat_tests), grind (arith, nat_tests))

-- ---- halves

-- a word that is a power of two, and a product with it that is taken down by so many places more
pub record Halving (w : ℕ) (power : ℤ) (places : ℕ) : Type 0 where
  pub exponent : ℕ
  pub down : ℕ
  pub word_is : w ≡ 2 ^ exponent
  pub short : exponent ≤ 14
  pub power_is : power ≡ negsuc down
  pub down_is : suc down ≡ exponent + places
  pub some : 1 ≤ places
  pub few : places ≤ 15

one_power : (w n k j : ℕ) (b : Bool) (rest : Option ℕ) → (w == n) ≡ b → n ≡ 2 ^ k → k ≤ 14 → (if b then Some k else rest) ≡ Some j → (rest ≡ Some j → (w ≡ 2 ^ j) × (j ≤ 14)) → (w ≡ 2 ^ j) × (j ≤ 14)
one_power w n k j true rest is power few e on = let same : k ≡ j = cc in subst (λ i. (w ≡ 2 ^ i) × (i ≤ 14)) same (eqb-true w n is ∙ power, few)
one_power w n k j false rest is power few e on = on e

exponents : (w j : ℕ) → exponent_of w ≡ Some j → (w ≡ 2 ^ j) × (j ≤ 14)
exponents w j e =
    one_power w 1 0 j (w == 1) _ refl refl (lit≤ tt) e (λ e. one_power w 2 1 j (w == 2) _ refl refl (lit≤ tt) e (λ e. one_power w 4 2 j (w == 4) _ refl refl (lit≤ tt) e (λ e.
    one_power w 8 3 j (w == 8) _ refl refl (lit≤ tt) e (λ e. one_power w 16 4 j (w == 16) _ refl refl (lit≤ tt) e (λ e. one_power w 32 5 j (w == 32) _ refl refl (lit≤ tt) e (λ e.
    one_power w 64 6 j (w == 64) _ refl refl (lit≤ tt) e (λ e. one_power w 128 7 j (w == 128) _ refl refl (lit≤ tt) e (λ e. one_power w 256 8 j (w == 256) _ refl refl (lit≤ tt) e (λ e.
    one_power w 512 9 j (w == 512) _ refl refl (lit≤ tt) e (λ e. one_power w 1024 10 j (w == 1024) _ refl refl (lit≤ tt) e (λ e. one_power w 2048 11 j (w == 2048) _ refl refl (lit≤ tt) e (λ e.
    one_power w 4096 12 j (w == 4096) _ refl refl (lit≤ tt) e (λ e. one_power w 8192 13 j (w == 8192) _ refl refl (lit≤ tt) e (λ e. one_power w 16384 14 j (w == 16384) _ refl refl (lit≤ tt) e (λ e.
    absurd (cc))))))))))))))))

pub halving : (w : ℕ) (power : ℤ) (places : ℕ) → halving_places w power ≡ Some places → Halving w power places
halving w (pos n) places e = absurd (cc)
halving w (negsuc n) places e = from (exponent_of w) refl e
  where
    between : (j : ℕ) (b : Bool) → exponent_of w ≡ Some j → (nat_lt j (suc n) && nat_le (suc n) (j + 15)) ≡ b → (if b then Some (suc n - j) else None) ≡ Some places → Halving w (negsuc n) places
    between j false is test e = absurd (cc)
    between j true is test e =
        let same : suc n - j ≡ places = cc in
        let above : j < suc n = grind (arith, nat_tests) in
        let near : suc n ≤ j + 15 = grind (arith, nat_tests) in
        let word = exponents w j is in
        record { exponent = j; down = n; word_is = word.0; short = word.1; power_is = refl; down_is = omega arith; some = omega arith; few = omega arith }

    from : (x : Option ℕ) → exponent_of w ≡ x → places_between x (suc n) ≡ Some places → Halving w (negsuc n) places
    from None is e = absurd (cc)
    from (Some j) is e = between j (nat_lt j (suc n) && nat_le (suc n) (j + 15)) is refl e

pub few_places : (w : ℕ) (power : ℤ) (places : ℕ) → halving_places w power ≡ Some places → places ≤ 15
few_places w power places e = (halving w power places e).few

-- a product that is divided by its factor again
negative_back : (a k t : ℕ) → t ≡ suc a * 2 ^ k → floor_div (neg_ℤ (pos t)) (2 ^ k) ≡ negsuc a
negative_back a k zero e = let some = pow_pos k in absurd (let more : suc a * 2 ^ k ≡ 2 ^ k + a * 2 ^ k = grind arith in omega arith)
negative_back a k (suc n) e =
    let some : 0 < 2 ^ k = pow_pos k in
    let more : suc a * 2 ^ k ≡ 2 ^ k + a * 2 ^ k = grind arith in
    let n_is : n ≡ a * 2 ^ k + (2 ^ k - 1) = omega arith in
    ap negsuc (ap (λ m. m / 2 ^ k) n_is ∙ shr_high a k (2 ^ k - 1) (omega arith))

back : (x : ℤ) (k : ℕ) → floor_div (x *ℤ pos (2 ^ k)) (2 ^ k) ≡ x
back (pos a) k = ap pos (shl-shr a k)
back (negsuc a) k = negative_back a k (suc a * 2 ^ k) refl

-- so a product with a power of two that is taken down further is a shift
pub halved_is : WordLaws → (x : ℤ) (j down places : ℕ) → suc down ≡ j + places → scaled_product x (pos (2 ^ j)) (negsuc down) ≡ floor_div x (2 ^ places)
halved_is laws x j down places e =
    laws.numbers.scaled_down (x *ℤ pos (2 ^ j)) down ∙ ap (floor_div (x *ℤ pos (2 ^ j))) (ap (λ n. 2 ^ n) e ∙ pow-add 2 j places)
    ∙ sym (laws.again (x *ℤ pos (2 ^ j)) (2 ^ j) (2 ^ places)) ∙ ap (λ z. floor_div z (2 ^ places)) (back x j)

-- ---- parts

-- The uppermost bits of a word need no mask.
pub upper_bits : (w t b : ℕ) → w < 65536 → t + b ≡ 16 → w / 2 ^ b ≡ bit_and (w / 2 ^ b) (2 ^ t - 1)
upper_bits w t b small e =
    let below : w < 2 ^ (t + b) = subst (λ n. w < 2 ^ n) (sym e) small in
    sym (and_mask (w / 2 ^ b) t ∙ mod-eq_of_lt (shr_below w t b below))

-- one bit of a word that takes those of a mask
merged_bit : (m v k c : ℕ) → m < 2 → v < 2 → k < 2 → c < 2 → (k + c) % 2 ≡ 1 → (m + min ((v + m) % 2) k) % 2 ≡ max (min m c) (min v k)
merged_bit zero zero zero c lm lv lk lc e = omega arith
merged_bit zero zero (suc k) c lm lv lk lc e = omega arith
merged_bit zero (suc v) zero c lm lv lk lc e = omega arith
merged_bit zero (suc v) (suc k) c lm lv lk lc e = omega arith
merged_bit (suc m) zero zero c lm lv lk lc e = omega arith
merged_bit (suc m) zero (suc k) c lm lv lk lc e = omega arith
merged_bit (suc m) (suc v) zero c lm lv lk lc e = omega arith
merged_bit (suc m) (suc v) (suc k) c lm lv lk lc e = omega arith

-- A word in which the bits are turned that a mask has, and in which another word differs, has those of the other.
pub merged : (m v k : ℕ) → m < 65536 → v < 65536 → k < 65536 → bit_xor m (bit_and (bit_xor v m) k) ≡ bit_or (bit_and m (65535 - k)) (bit_and v k)
merged m v k lm lv lk =
    let c = 65535 - k in
    let masked : bit_and (bit_xor v m) k < 65536 = omega (arith, and_le_r (bit_xor v m) k) in
    let others : bit_and m c < 65536 = omega (arith, and_le_r m c) in
    let part : bit_and v k < 65536 = omega (arith, and_le_r v k) in
    same_from_bits_below 16 (bit_xor m (bit_and (bit_xor v m) k)) (bit_or (bit_and m c) (bit_and v k)) (xor_of_16 m (bit_and (bit_xor v m) k) lm masked) (or_of_16 (bit_and m c) (bit_and v k) others part) each
  where
    apart : bit_and k (65535 - k) ≡ 0
    apart = omega (arith, and-not 16 k (65535 - k) lk (let lt : 65535 - k < 65536 = omega arith in lt), and_self (65535 - k))

    either_one : (i : ℕ) → i < 16 → (bit_at k i + bit_at (65535 - k) i) % 2 ≡ 1
    either_one i lt =
        let all : k + (65535 - k) ≡ 65535 = omega arith in
        sym (bit_at_xor k (65535 - k) i) ∙ ap (λ n. bit_at n i) (xor_disjoint k (65535 - k) apart ∙ all) ∙ bit_at_ones 16 i lt

    each : (i : ℕ) → i < 16 → bit_at (bit_xor m (bit_and (bit_xor v m) k)) i ≡ bit_at (bit_or (bit_and m (65535 - k)) (bit_and v k)) i
    each i lt =
        let c = 65535 - k in
        let inner : bit_at (bit_and (bit_xor v m) k) i ≡ min ((bit_at v i + bit_at m i) % 2) (bit_at k i) = bit_at_and (bit_xor v m) k i ∙ ap (λ n. min n (bit_at k i)) (bit_at_xor v m i) in
        bit_at_xor m (bit_and (bit_xor v m) k) i ∙ ap (λ n. (bit_at m i + n) % 2) inner
        ∙ merged_bit (bit_at m i) (bit_at v i) (bit_at k i) (bit_at c i) (bit_at-lt m i) (bit_at-lt v i) (bit_at-lt k i) (bit_at-lt c i) (either_one i lt)
        ∙ sym (bit_at_or (bit_and m c) (bit_and v k) i ∙ ap₂ max (bit_at_and m c i) (bit_at_and v k i))
