-- Numbers as they are written: whole + digits / 10 ^ places, with at most 12 digits on each side of the point.
-- Official Definition of CORAL 66 and BS 5905, "Numbers"; the number of digits is this project's profile.
use Rattle.std.specs.Prelude.{◌≡◌, refl, ℕ, ◌<◌, ◌≤◌, ◌^◌}
use Rattle.cw_word.specs.declared.number.Num.TheInside.{Inside}

pub record Number : Type 0 where
  pub whole : ℕ
  pub digits : ℕ
  pub places : ℕ

pub record IsNumber (n : Number) : Type 0 where
  pub whole_fits : n.whole < 10 ^ 12
  pub few_places : n.places ≤ 12
  pub digits_fit : n.digits < 10 ^ n.places

-- the number that the fields hold, and the fields of a number
abbrev pub number_of : Inside → Number
number_of n = record { whole = n.whole; digits = n.digits; places = n.places }

abbrev pub fields_of : Number → Inside
fields_of n = record { whole = n.whole; digits = n.digits; places = n.places }

pub fields_of-number_of : (n : Inside) → IsNumber (number_of n) → fields_of (number_of n) ≡ n
fields_of-number_of _ _ = refl
