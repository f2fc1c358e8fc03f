-- The rules of number types and of fields: FIXED(t, f) has 1 to 16 bits, of which 0 to 15 stand after the point; a field of t bits
-- from bit b has 1 to 16 bits of one word. A number that stands for no whole one is refused as such alone.
-- Official Definition of CORAL 66, "Data"; BS 5905, "Fixed-point numbers".
use Rattle.std.specs.Prelude.{ℕ, List, [], ◌∷◌, nat_le, ◌+◌, Bool, true, false, ◌&&◌, not, Option, Some, None, is_some}
use Rattle.cw_tree.specs.declared.leaf.Position.{Position}
use Rattle.cw_tree.specs.declared.leaf.RawInt.{RawInt}
use Rattle.cw_tree.specs.declared.leaf.RawSint.{RawSint}
use Rattle.cw_tree.specs.declared.leaf.RawType.{RawType}
use Rattle.cw_tree.specs.declared.leaf.RawType.TheVariants as type
use Rattle.cw_tree.specs.declared.expression.RawBits.{RawBits}
use Rattle.cw_scale.specs.declared.fault.Rule.TheVariants as rule
use Rattle.cw_scale.specs.Faults.{Judgement, fine, wrong, unless, both}
use Rattle.cw_amount.specs.Amounts.{place_amount, is_negative, number_position, int_position}

-- whether an int is one
abbrev pub int_judged : RawInt → Judgement
int_judged n = unless (is_some (place_amount n)) rule.NumberRange (number_position n)

abbrev pub in_range : (low high : ℕ) → (negative : Bool) → Option ℕ → Bool
in_range low high negative None = true
in_range low high negative (Some n) = nat_le low n && (nat_le n high && not (negative && nat_le 1 n))

abbrev pub range_judged : (low high : ℕ) → (negative : Bool) → RawInt → Judgement
range_judged low high negative n = both (int_judged n) (unless (in_range low high negative (place_amount n)) rule.ScaleRange (int_position n))

abbrev pub scale_judged : RawSint → Judgement
scale_judged f = range_judged 0 15 (is_negative f.sign) f.value

abbrev pub type_judged : RawType → Judgement
type_judged (type.Integer at) = fine
type_judged (type.Fixed at t f) = both (range_judged 1 16 false t) (scale_judged f)

abbrev pub answer_judged : Option RawType → Judgement
answer_judged None = fine
answer_judged (Some t) = type_judged t

-- ---- fields

abbrev pub ends_within : (t : ℕ) → Option ℕ → Bool
ends_within t None = true
ends_within t (Some b) = nat_le (t + b) 16

abbrev pub is_field : Option ℕ → Option ℕ → Bool
is_field None b = true
is_field (Some t) b = nat_le 1 t && (nat_le t 16 && ends_within t b)

abbrev pub bits_judged : RawBits → Judgement
bits_judged bits =
    both (int_judged bits.size.first) (both (int_judged bits.size.second)
    (unless (is_field (place_amount bits.size.first) (place_amount bits.size.second)) rule.FieldRange bits.at))

abbrev pub each_bits_judged : List RawBits → Judgement
each_bits_judged [] = fine
each_bits_judged (b ∷ bs) = both (bits_judged b) (each_bits_judged bs)
