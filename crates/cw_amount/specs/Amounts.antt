-- What numbers amount to where whole ones are wanted. One with a point, and an OCTAL that is none, amounts to nothing.
-- Official Definition of CORAL 66, "Numbers"; BS 5905, "Numbers".
use Rattle.std.specs.Prelude.{ℕ, zero, suc, ◌+◌, ◌*◌, ◌/◌, ◌%◌, ◌==◌, nat_lt, nat_le, ℤ, pos, neg_ℤ, Bool, true, false, ◌&&◌, Option, Some, None, if◌then◌else◌}
use Rattle.cw_word.specs.Number.{Number}
use Rattle.cw_tree.specs.declared.leaf.Position.{Position}
use Rattle.cw_tree.specs.declared.leaf.RawInt.{RawInt}
use Rattle.cw_tree.specs.declared.leaf.RawInt.TheVariants as int
use Rattle.cw_tree.specs.declared.leaf.RawSint.{RawSint}
use Rattle.cw_tree.specs.declared.leaf.RawSign.{RawSign}
use Rattle.cw_tree.specs.declared.leaf.AddOp.{AddOp}
use Rattle.cw_tree.specs.declared.leaf.AddOp.TheVariants as op

-- the decimal digits of a number, of which there are so many at most, read as octal ones
abbrev pub octal_value : (digits : ℕ) → ℕ → ℕ
octal_value zero n = 0
octal_value (suc digits) n = octal_value digits (n / 10) * 8 + n % 10

abbrev pub all_octal : (digits : ℕ) → ℕ → Bool
all_octal zero n = true
all_octal (suc digits) n = nat_lt (n % 10) 8 && all_octal digits (n / 10)

abbrev pub octal : Number → Option ℕ
octal n = if n.places == 0 && all_octal 12 n.whole then Some (octal_value 12 n.whole) else None

abbrev pub whole : Number → Option ℕ
whole n = if n.places == 0 then Some n.whole else None

abbrev pub int_amount : RawInt → Option ℕ
int_amount (int.Number n) = whole n.number
int_amount (int.Octal n) = octal n.number.number

abbrev pub is_negative : Option RawSign → Bool
is_negative None = false
is_negative (Some s) = is_minus s.op
  where
    is_minus : AddOp → Bool
    is_minus op.Plus = false
    is_minus op.Minus = true

abbrev pub with_sign : (negative : Bool) → ℕ → ℤ
with_sign negative n = if negative then neg_ℤ (pos n) else pos n

abbrev pub signed_if : (negative : Bool) → Option ℕ → Option ℤ
signed_if negative None = None
signed_if negative (Some n) = Some (with_sign negative n)

abbrev pub sint_amount : RawSint → Option ℤ
sint_amount n = signed_if (is_negative n.sign) (int_amount n.value)

-- ---- where a number stands for an int: it is whole, and an OCTAL is one of a word

abbrev pub word_of : Option ℕ → Option ℕ
word_of None = None
word_of (Some n) = if nat_le n 65535 then Some n else None

abbrev pub octal_word : Number → Option ℕ
octal_word n = word_of (octal n)

abbrev pub place_amount : RawInt → Option ℕ
place_amount (int.Number n) = whole n.number
place_amount (int.Octal n) = octal_word n.number.number

abbrev pub place_sint : RawSint → Option ℤ
place_sint n = signed_if (is_negative n.sign) (place_amount n.value)

-- the number itself, which of an OCTAL stands inside
abbrev pub number_position : RawInt → Position
number_position (int.Number n) = n.at
number_position (int.Octal n) = n.number.at

abbrev pub int_position : RawInt → Position
int_position (int.Number n) = n.at
int_position (int.Octal n) = n.at
