-- Words and pairs of words shifted by many places.
use Rattle.std.proofs.Common.{◌≡◌, inl, inr, ℕ, ◌+◌, ◌-◌, ◌*◌, ◌/◌, ◌%◌, ◌^◌, ◌<◌, ◌≤◌, ℤ, pos, negsuc, ◌+ℤ◌, ◌*ℤ◌, sym, ap, ap₂, ◌∙◌, arith, pow-add, pow_pos}
use Rattle.std.specs.Prelude.{if◌then◌else◌}
use Rattle.std.proofs.Math.Nat.{div-le_self, mul-add-div, div-div-eq-div-mul, mul-div-mul_right}
use Rattle.std.proofs.lemmas.Nat.{mod-mul-add, div-mul-add, div_below, mod_below}
use Rattle.std.proofs.lemmas.Bool.{cases_lt, lt-ltb, le-ltb}
use Rattle.std.proofs.lemmas.Bool.Decides.{nat_tests}
use Rattle.std.proofs.lemmas.Int.{ints}
use Rattle.cw_word.specs.FixedPoint.{floor_div}
use Rattle.cw_word.specs.Word.{signed, word_sum, pair, signed_pair, shifted_up_by, shifted_down_by, shifted_down_signed_by}

-- ---- readings

signed_low : (u : ℕ) → u < 32768 → signed u ≡ pos u
signed_low u h = omega (arith, ints)

signed_high : (u n : ℕ) → 32768 ≤ u → u + n + 1 ≡ 65536 → signed u ≡ negsuc n
signed_high u n h e = grind (arith, ints, nat_tests)

down_low : (a n : ℕ) → a < 32768 → shifted_down_signed_by a n ≡ a / 2 ^ n
down_low a n lt = ap (λ t. if t then a / 2 ^ n else (65535 - (65535 - a) / 2 ^ n)) (lt-ltb a 32768 lt)

down_high : (a n : ℕ) → 32768 ≤ a → shifted_down_signed_by a n ≡ 65535 - (65535 - a) / 2 ^ n
down_high a n ge = ap (λ t. if t then a / 2 ^ n else (65535 - (65535 - a) / 2 ^ n)) (le-ltb a 32768 ge)

signed_down_low : (a n : ℕ) → a < 32768 → signed (shifted_down_signed_by a n) ≡ pos (a / 2 ^ n)
signed_down_low a n lt = let le = div-le_self a (2 ^ n) in ap signed (down_low a n lt) ∙ signed_low (a / 2 ^ n) (omega arith)

signed_down_high : (a n : ℕ) → 32768 ≤ a → a < 65536 → signed (shifted_down_signed_by a n) ≡ negsuc ((65535 - a) / 2 ^ n)
signed_down_high a n ge lt =
    let le = div-le_self (65535 - a) (2 ^ n) in
    ap signed (down_high a n ge) ∙ signed_high (65535 - (65535 - a) / 2 ^ n) ((65535 - a) / 2 ^ n) (omega arith) (omega arith)

pub down_none : (a : ℕ) → a < 65536 → shifted_down_signed_by a 0 ≡ a
down_none a h = elim (cases_lt a 32768) as (λ _. shifted_down_signed_by a 0 ≡ a) [
  | inl lt ↦ down_low a 0 lt ∙ (let e : a / 1 ≡ a = omega arith in e)
  | inr ge ↦ down_high a 0 ge ∙ (let e : 65535 - (65535 - a) / 1 ≡ a = omega arith in e)
]

-- SAR rounds down
pub down_signed_is : (a n : ℕ) → a < 65536 → signed (shifted_down_signed_by a n) ≡ floor_div (signed a) (2 ^ n)
down_signed_is a n h = elim (cases_lt a 32768) as (λ _. signed (shifted_down_signed_by a n) ≡ floor_div (signed a) (2 ^ n)) [
  | inl lt ↦ signed_down_low a n lt ∙ sym (ap (λ z. floor_div z (2 ^ n)) (signed_low a lt))
  | inr ge ↦ signed_down_high a n ge h ∙ sym (ap (λ z. floor_div z (2 ^ n)) (signed_high a (65535 - a) ge (omega arith)))
]

pub down_signed_fits : (a n : ℕ) → a < 65536 → shifted_down_signed_by a n < 65536
down_signed_fits a n h = let le = div-le_self a (2 ^ n) in elim (cases_lt a 32768) as (λ _. shifted_down_signed_by a n < 65536) [
  | inl lt ↦ omega (arith, down_low a n lt)
  | inr ge ↦ omega (arith, down_high a n ge)
]

-- ---- a pair of words shifted down, where m * M is 65,536

module _ (m M : ℕ) (some : 0 < m) (e : m * M ≡ 65536) where
  pair_div : (h l : ℕ) → (h * 65536 + l) / m ≡ h / m * 65536 + (h % m * M + l / m)
  pair_div h l =
      let f : h * 65536 + l ≡ m * (h * M) + l = omega (arith, ap (λ x. h * x) e) in
      let d : h ≡ h / m * m + h % m = omega arith in
      let g : h * M ≡ h / m * 65536 + h % m * M = omega (arith, ap (λ x. x * M) d, ap (λ x. h / m * x) e) in
      ap (λ x. x / m) f ∙ mul-add-div some (h * M) l ∙ omega (arith, g)

  -- what leaves the upper word
  leaving_fits : (h : ℕ) → h % m * M + M ≤ 65536
  leaving_fits h =
      let lt = mod_below h m some in
      let s : m - 1 - h % m + (h % m + 1) ≡ m = omega arith in
      omega (arith, ap (λ x. x * M) s, e)

  leaving : (h : ℕ) → 0 < M → h * M % 65536 ≡ h % m * M
  leaving h more =
      let d : h ≡ h / m * m + h % m = omega arith in
      let g : h * M ≡ h / m * 65536 + h % m * M = omega (arith, ap (λ x. x * M) d, ap (λ x. h / m * x) e) in
      let fits = leaving_fits h in
      ap (λ x. x % 65536) g ∙ mod-mul-add (h / m) 65536 (h % m * M) (omega arith)

  -- complements
  mod_turned : (x y : ℕ) → x + y + 1 ≡ m * M → (x % m + y % m + 1 ≡ m) × (x / m + y / m + 1 ≡ M)
  mod_turned x y s =
      let q = y / m in
      let r = y % m in
      let lr = mod_below y m some in
      let d : y ≡ q * m + r = omega arith in
      let lt : y < M * m = omega arith in
      let lq : q < M = div_below y m M some lt in
      let t : M - 1 - q + q + 1 ≡ M = omega arith in
      let f : (M - 1 - q) * m + q * m + m ≡ m * M = omega (arith, ap (λ x. x * m) t) in
      let x_is : x ≡ (M - 1 - q) * m + (m - 1 - r) = omega (arith, f, d, s) in
      let low : m - 1 - r < m = omega arith in
      let a : x % m ≡ m - 1 - r = ap (λ n. n % m) x_is ∙ mod-mul-add (M - 1 - q) m (m - 1 - r) low in
      let b : x / m ≡ M - 1 - q = ap (λ n. n / m) x_is ∙ div-mul-add (M - 1 - q) m (m - 1 - r) low in
      (omega (arith, a), omega (arith, b))

powers : (n : ℕ) → n ≤ 16 → 2 ^ n * 2 ^ (16 - n) ≡ 65536
powers n le = let s : n + (16 - n) ≡ 16 = omega arith in sym (pow-add 2 n (16 - n)) ∙ ap (λ k. 2 ^ k) s

-- the lower word: what is left of it, and what comes from the upper one
abbrev pub lower : (high low n : ℕ) → ℕ
lower high low n = word_sum (shifted_down_by low n) (shifted_up_by high (16 - n))

module _ (high low n : ℕ) (lh : high < 65536) (ll : low < 65536) (le : n ≤ 16) where
  lower_is : lower high low n ≡ low / 2 ^ n + high % 2 ^ n * 2 ^ (16 - n)
  lower_is =
      let m = 2 ^ n in
      let M = 2 ^ (16 - n) in
      let e = powers n le in
      let below : low / m < M = div_below low m M (pow_pos n) (omega (arith, e)) in
      let fits = leaving_fits m M (pow_pos n) e high in
      ap (λ x. (low / m + x) % 65536) (leaving m M (pow_pos n) e high (pow_pos (16 - n))) ∙ (let w : (low / m + high % m * M) % 65536 ≡ low / m + high % m * M = omega arith in w)

  pub lower_fits : lower high low n < 65536
  lower_fits = omega arith

  pub pair_down : signed_pair (shifted_down_signed_by high n) (lower high low n) ≡ floor_div (signed_pair high low) (2 ^ n)
  pair_down =
      let m = 2 ^ n in
      let M = 2 ^ (16 - n) in
      let e = powers n le in
      let some : 0 < m = pow_pos n in
      elim (cases_lt high 32768) as (λ _. signed_pair (shifted_down_signed_by high n) (lower high low n) ≡ floor_div (signed_pair high low) (2 ^ n)) [
        | inl lt ↦
            let is : signed_pair high low ≡ pos (high * 65536 + low) = ap (λ z. z *ℤ pos 65536 +ℤ pos low) (signed_low high lt) in
            ap₂ (λ z k. z *ℤ pos 65536 +ℤ pos k) (signed_down_low high n lt) lower_is
            ∙ (let g : high / m * 65536 + (low / m + high % m * M) ≡ (high * 65536 + low) / m = omega (arith, pair_div m M some e high low) in ap (λ k. pos k) g)
            ∙ sym (ap (λ z. floor_div z m) is)
        | inr ge ↦
            let hc = 65535 - high in
            let lc = 65535 - low in
            let is : signed_pair high low ≡ negsuc (hc * 65536 + lc) = ap (λ z. z *ℤ pos 65536 +ℤ pos low) (signed_high high hc ge (omega arith)) ∙ turned hc low lc (omega arith) in
            let th = mod_turned m M some e high hc (omega (arith, e)) in
            let tl = mod_turned m M some e low lc (omega (arith, e)) in
            let g : low / m + high % m * M + (hc % m * M + lc / m) + 1 ≡ 65536 = omega (arith, ap (λ x. x * M) th.0, tl.1, e) in
            ap₂ (λ z k. z *ℤ pos 65536 +ℤ pos k) (signed_down_high high n ge lh) lower_is
            ∙ turned (hc / m) (low / m + high % m * M) (hc % m * M + lc / m) g
            ∙ ap (λ k. negsuc k) (sym (pair_div m M some e hc lc))
            ∙ sym (ap (λ z. floor_div z m) is)
      ]
    where
      turned : (h l k : ℕ) → l + k + 1 ≡ 65536 → negsuc h *ℤ pos 65536 +ℤ pos l ≡ negsuc (h * 65536 + k)
      turned h l k s = omega (arith, ints)

-- ---- quotients by powers of two, one after another

pub floor_div-twice : (x : ℤ) (m n : ℕ) → floor_div (floor_div x m) n ≡ floor_div x (m * n)
floor_div-twice (pos a) m n = ap (λ k. pos k) (div-div-eq-div-mul a m n)
floor_div-twice (negsuc a) m n = ap (λ k. negsuc k) (div-div-eq-div-mul a m n)

-- the upper word of a pair
pub upper_is : (high low : ℕ) → high < 65536 → low < 65536 → floor_div (signed_pair high low) 65536 ≡ signed high
upper_is high low lh ll = elim (cases_lt high 32768) as (λ _. floor_div (signed_pair high low) 65536 ≡ signed high) [
  | inl lt ↦
      let is : signed_pair high low ≡ pos (high * 65536 + low) = ap (λ z. z *ℤ pos 65536 +ℤ pos low) (signed_low high lt) in
      ap (λ z. floor_div z 65536) is ∙ (let e : (high * 65536 + low) / 65536 ≡ high = omega arith in ap (λ k. pos k) e) ∙ sym (signed_low high lt)
  | inr ge ↦
      let hc = 65535 - high in
      let lc = 65535 - low in
      let s : high + hc + 1 ≡ 65536 = omega arith in
      let is : signed_pair high low ≡ negsuc (hc * 65536 + lc) = ap (λ z. z *ℤ pos 65536 +ℤ pos low) (signed_high high hc ge s) ∙ (let e : negsuc hc *ℤ pos 65536 +ℤ pos low ≡ negsuc (hc * 65536 + lc) = omega (arith, ints) in e) in
      ap (λ z. floor_div z 65536) is ∙ (let e : (hc * 65536 + lc) / 65536 ≡ hc = omega arith in ap (λ k. negsuc k) e) ∙ sym (signed_high high hc ge s)
]

-- a word shifted up into a pair
pub pair_up : (n k : ℕ) → k ≤ 16 → pair (shifted_down_by n (16 - k)) (shifted_up_by n k) ≡ n * 2 ^ k
pair_up n k le =
    let power : 2 ^ (16 - k) * 2 ^ k ≡ 65536 = sym (pow-add 2 (16 - k) k) ∙ (let e : 16 - k + k ≡ 16 = omega arith in ap (λ m. 2 ^ m) e) in
    let upper : n * 2 ^ k / 65536 ≡ n / 2 ^ (16 - k) = ap (λ m. n * 2 ^ k / m) (sym power) ∙ mul-div-mul_right n (2 ^ (16 - k)) (pow_pos k) in
    omega (arith, upper)
