-- What is known before a run: the value of an expression of numbers alone whose operations do not stop, and the word of an item that an
-- index of such a value names.
use Rattle.std.specs.Prelude.{ℕ, zero, suc, ◌+◌, ◌*◌, ℤ, pos, negsuc, ◌+ℤ◌, ◌-ℤ◌, neg_ℤ, int_le, nat_le}
use Rattle.std.specs.Prelude.{nat_lt, Bool, true, false, ◌&&◌, Option, Some, None, is_some, if◌then◌else◌}
use Rattle.cw_word.specs.FixedPoint.{fits_word, rescaled, scaled_product, scaled_quotient}
use Rattle.cw_word.specs.BitField.{unsigned_field}
use Rattle.cw_word.specs.Word.{signed, unsigned}
use Rattle.cw_unit.specs.declared.unit.LogicOp.{LogicOp}
use Rattle.cw_unit.specs.Words.{logic_word}

-- what an operation makes of values that are known
abbrev pub of_known : (ℤ → Option ℤ) → Option ℤ → Option ℤ
of_known f None = None
of_known f (Some x) = f x

abbrev pub of_both : (ℤ → ℤ → Option ℤ) → Option ℤ → Option ℤ → Option ℤ
of_both f None y = None
of_both f (Some x) y = of_known (f x) y

-- a value that fits a word
abbrev pub fitted : ℤ → Option ℤ
fitted z = if fits_word z then Some z else None

abbrev pub known_sum : ℤ → ℤ → Option ℤ
known_sum x y = fitted (x +ℤ y)

abbrev pub known_difference : ℤ → ℤ → Option ℤ
known_difference x y = fitted (x -ℤ y)

abbrev pub known_negative : ℤ → Option ℤ
known_negative x = fitted (neg_ℤ x)

-- scales, and the powers of two of products and quotients, in the ranges that units have
abbrev pub known_rescaled : (from to : ℕ) → ℤ → Option ℤ
known_rescaled from to x = if nat_le from 15 && nat_le to 15 then fitted (rescaled x from to) else None

abbrev pub known_product : (power : ℤ) → ℤ → ℤ → Option ℤ
known_product s x y = if int_le (negsuc 29) s && int_le s (pos 15) then fitted (scaled_product x y s) else None

abbrev pub known_quotient : (power : ℤ) → ℤ → ℤ → Option ℤ
known_quotient s x (pos zero) = None
known_quotient s x y = if int_le (negsuc 14) s && int_le s (pos 16) then fitted (scaled_quotient x y s) else None

abbrev pub known_logic : LogicOp → ℤ → ℤ → Option ℤ
known_logic op x y = Some (signed (logic_word op (unsigned x) (unsigned y)))

abbrev pub known_bits : (t b : ℕ) → ℤ → Option ℤ
known_bits t b x = if nat_le 1 t && nat_le (t + b) 16 then Some (signed (unsigned_field (unsigned x) t b)) else None

-- ---- words of items

-- a word of those from an item on that are known to be in the data area
abbrev pub word_inside : (span : ℕ) → ℕ → Option ℕ
word_inside span n = if nat_lt n span then Some n else None

-- an index that is not compared with its bounds, or is inside them
abbrev pub in_bounds : (compared : Bool) → (lower upper : ℤ) → ℤ → Bool
in_bounds true lower upper k = int_le lower k && int_le k upper
in_bounds false lower upper k = true

-- an index less its lower bound, where it is inside its bounds and not below that
abbrev pub counted_if : Bool → ℤ → Option ℕ
counted_if true (pos n) = Some n
counted_if true (negsuc n) = None
counted_if false d = None

abbrev pub from_lower : (compared : Bool) → (lower upper : ℤ) → Option ℤ → Option ℕ
from_lower compared lower upper None = None
from_lower compared lower upper (Some k) = counted_if (in_bounds compared lower upper k) (k -ℤ lower)

abbrev pub of_index : (ℕ → Option ℕ) → Option ℕ → Option ℕ
of_index f None = None
of_index f (Some n) = f n

-- the word of an array of one dimension, of one of two whose rows have so many words (where the row's own number fits a word), and of a
-- table's entry
abbrev pub element_word : (span : ℕ) → Option ℕ → Option ℕ
element_word span i = of_index (word_inside span) i

abbrev pub element_of_two_word : (span width : ℕ) → (row column : Option ℕ) → Option ℕ
element_of_two_word span width row column = of_index (λ i. of_index (λ j. word_inside span (i * width + j)) column) (of_index (word_inside 32768) row)

abbrev pub entry_word : (span width word : ℕ) → Option ℕ → Option ℕ
entry_word span width word i = of_index (λ n. word_inside span (n * width + word)) i

-- whether two indexes are compared with bounds between which all words are known to be in the data area: the one at both upper bounds is
abbrev pub all_inside : (compared : Bool) → (span : ℕ) → (lower upper second last : ℤ) → (width : ℕ) → Bool
all_inside compared span lower upper second last width =
    compared && is_some (element_of_two_word span width (from_lower true lower upper (Some upper)) (from_lower true second last (Some last)))
