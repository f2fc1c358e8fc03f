-- A judgement takes no fault away: where a part and what follows it have none, neither has.
use Rattle.std.proofs.Common.{◌≡◌, ℕ, List, [], ◌∷◌, Bool, true, false, IsTrue, Option, Some, None, is_some, refl, sym, ap, ◌∙◌}
use Rattle.cw_tree.specs.declared.leaf.Position.{Position}
use Rattle.cw_tree.specs.declared.leaf.RawInt.{RawInt}
use Rattle.cw_tree.specs.declared.leaf.RawSint.{RawSint}
use Rattle.cw_tree.specs.declared.leaf.RawType.{RawType}
use Rattle.cw_tree.specs.declared.leaf.RawType.TheVariants as type
use Rattle.cw_tree.specs.declared.expression.RawBits.{RawBits}
use Rattle.cw_amount.specs.Amounts.{place_amount, is_negative, number_position, int_position}
use Rattle.cw_scale.specs.declared.fault.Fault.{Fault}
use Rattle.cw_scale.specs.declared.fault.Rule.{Rule}
use Rattle.cw_scale.specs.declared.fault.Rule.TheVariants as rule
use Rattle.cw_scale.specs.Faults.{Judgement, comes_before, earlier_if, fine, wrong, unless, both}
use Rattle.cw_scale.specs.Types.{int_judged, in_range, range_judged, scale_judged, type_judged, is_field, bits_judged, each_bits_judged}

-- after it there is a fault where there was one before
pub record Keeps (j : Judgement) : Type 0 where
  pub nothing_before : (first : Option Fault) → j first ≡ None → first ≡ None

abbrev pub NoFault : Judgement → Type 0
NoFault j = j None ≡ None

told : (b : Bool) (f g : Fault) → earlier_if b f g ≡ None → ⊥
told true f g e = cc
told false f g e = cc

pub keeps_fine : Keeps fine
keeps_fine = record { nothing_before = λ first e. e }

not_wrong : (r : Rule) (at : Position) (first : Option Fault) → wrong r at first ≡ None → first ≡ None
not_wrong r at None e = refl
not_wrong r at (Some g) e = absurd (told (comes_before (record { rule = r; at = at }) g) (record { rule = r; at = at }) g e)

pub keeps_wrong : (r : Rule) (at : Position) → Keeps (wrong r at)
keeps_wrong r at = record { nothing_before = not_wrong r at }

pub keeps_unless : (b : Bool) (r : Rule) (at : Position) → Keeps (unless b r at)
keeps_unless true r at = keeps_fine
keeps_unless false r at = keeps_wrong r at

pub keeps_both : {a b : Judgement} → Keeps a → Keeps b → Keeps (both a b)
keeps_both {a = a} h k = record { nothing_before = λ first e. h.nothing_before first (k.nothing_before (a first) e) }

-- the two parts of what has no fault
pub both_free : (a b : Judgement) → Keeps b → NoFault (both a b) → NoFault a × NoFault b
both_free a b k e = let first : a None ≡ None = k.nothing_before (a None) e in (first, ap b (sym first) ∙ e)

pub holds : (b : Bool) (r : Rule) (at : Position) → NoFault (unless b r at) → IsTrue b
holds true r at e = refl
holds false r at e = absurd (cc)

-- ---- types and fields

pub keeps_int : (n : RawInt) → Keeps (int_judged n)
keeps_int n = keeps_unless (is_some (place_amount n)) rule.NumberRange (number_position n)

keeps_number : (low high : ℕ) (negative : Bool) (n : RawInt) → Keeps (range_judged low high negative n)
keeps_number low high negative n = keeps_both (keeps_int n) (keeps_unless (in_range low high negative (place_amount n)) rule.ScaleRange (int_position n))

pub keeps_scale : (f : RawSint) → Keeps (scale_judged f)
keeps_scale f = keeps_number 0 15 (is_negative f.sign) f.value

pub keeps_type : (t : RawType) → Keeps (type_judged t)
keeps_type (type.Integer at) = keeps_fine
keeps_type (type.Fixed at t f) = keeps_both (keeps_number 1 16 false t) (keeps_scale f)

pub keeps_bits : (b : RawBits) → Keeps (bits_judged b)
keeps_bits b =
    keeps_both (keeps_int b.size.first) (keeps_both (keeps_int b.size.second) (keeps_unless (is_field (place_amount b.size.first) (place_amount b.size.second)) rule.FieldRange b.at))

pub keeps_each_bits : (bs : List RawBits) → Keeps (each_bits_judged bs)
keeps_each_bits [] = keeps_fine
keeps_each_bits (b ∷ bs) = keeps_both (keeps_bits b) (keeps_each_bits bs)
