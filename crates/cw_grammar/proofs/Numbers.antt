-- The value of digits.
use Rattle.std.proofs.Common.{◌≡◌, ℕ, ◌+◌, ◌-◌, ◌*◌, ◌^◌, ◌<◌, ◌≤◌, Bool, true, false, List, [], ◌∷◌, length, take, get_or, arith, ◌&&◌, nat_le, refl, lit<, lit≤}
use Rattle.std.proofs.Math.Nat.{pow-le-pow_right}
use Rattle.std.proofs.lemmas.Bool.Decides.{nat_tests}
use Rattle.std.proofs.lemmas.Int.Digits.{digits_value-lt, digits_value_more}
use Rattle.std.proofs.lemmas.Str.{digit_value_digit}
use Rattle.std.proofs.lemmas.Str.Parse.{digit_at, digits_value-take-le}
use Rattle.std.specs.List.{list_all}
use Rattle.std.specs.Char.{is_ascii_digit, digit_value}
use Rattle.std.specs.Str.Parse.{AllDigits, digits_value}
use Rattle.cw_grammar.specs.Tokens.{is_part, part_value, part_places}

is_digit : (c : ℕ) → is_ascii_digit c ≡ true → digit_value c < 10
is_digit c e = grind (arith, nat_tests)

pub both : (a b : Bool) → (a && b) ≡ true → (a ≡ true) × (b ≡ true)
both a b e = grind (arith)

AllDigits-from_test : (ds : List ℕ) → list_all is_ascii_digit ds ≡ true → AllDigits 10 ds
AllDigits-from_test [] e = tt
AllDigits-from_test (d ∷ ds) e =
    let h = both (is_ascii_digit d) (list_all is_ascii_digit ds) e in
    (is_digit d h.0, AllDigits-from_test ds h.1)

bound : (ds : List ℕ) → list_all is_ascii_digit ds ≡ true → length ds ≤ 12 → digits_value 10 ds < 1000000000000
bound ds e short =
    let p : 10 ^ length ds ≤ 10 ^ 12 = pow-le-pow_right (omega arith) short in
    omega (arith, digits_value-lt 10 ds (AllDigits-from_test ds e))

pub first_bound : (ds : List ℕ) (i : ℕ) → list_all is_ascii_digit ds ≡ true → length ds ≤ 12 → digits_value 10 (take i ds) < 1000000000000
first_bound ds i e short = omega (arith, bound ds e short, digits_value-take-le 10 ds i (omega arith))

pub one_more : (ds : List ℕ) (i : ℕ) → list_all is_ascii_digit ds ≡ true → i < length ds
    → digits_value 10 (take (i + 1) ds) ≡ digits_value 10 (take i ds) * 10 + (get_or ds i 0 - 48)
one_more ds i e h =
    let r = digit_at ds i (AllDigits-from_test ds e) h in
    omega (arith, digits_value_more 10 ds i h, digit_value_digit (get_or ds i 0) r, r)

-- ---- the parts of a number are in its ranges

pub part_fits : (ds : List ℕ) → part_value ds < 10 ^ part_places ds
part_fits ds = go (is_part ds) refl
  where
    go : (b : Bool) → is_part ds ≡ b → part_value ds < 10 ^ part_places ds
    go true e = let h = both (nat_le (length ds) 12) (list_all is_ascii_digit ds) e in rw e (digits_value-lt 10 ds (AllDigits-from_test ds h.1))
    go false e = rw e (lit< tt)

pub few_places : (ds : List ℕ) → part_places ds ≤ 12
few_places ds = go (is_part ds) refl
  where
    go : (b : Bool) → is_part ds ≡ b → part_places ds ≤ 12
    go true e = let h = both (nat_le (length ds) 12) (list_all is_ascii_digit ds) e in rw e (grind (arith, nat_tests, h.0))
    go false e = rw e (lit≤ tt)

pub part_small : (ds : List ℕ) → part_value ds < 1000000000000
part_small ds =
    let p : 10 ^ part_places ds ≤ 10 ^ 12 = pow-le-pow_right (omega arith) (few_places ds) in
    omega (arith, part_fits ds)
