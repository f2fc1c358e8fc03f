-- Scales, bounds and specifications as the unit has them. A number that is refused counts as 0.
-- Official Definition of CORAL 66, "Numeric types", "Procedure specifications".
use Rattle.std.specs.Prelude.{ℕ, nat_le, List, [], ◌∷◌, ℤ, pos, int_le, neg_ℤ, ◌&&◌, Option, Some, None, if◌then◌else◌}
use Rattle.cw_tree.specs.declared.leaf.RawType.{RawType}
use Rattle.cw_tree.specs.declared.leaf.RawType.TheVariants as type
use Rattle.cw_tree.specs.declared.leaf.RawSint.{RawSint}
use Rattle.cw_tree.specs.declared.leaf.RawSize.{RawSize}
use Rattle.cw_tree.specs.declared.segment.RawIps.{RawIps}
use Rattle.cw_tree.specs.declared.segment.RawIps.TheVariants as inner
use Rattle.cw_tree.specs.declared.segment.RawPs.{RawPs}
use Rattle.cw_tree.specs.declared.segment.RawPs.TheVariants as ps
use Rattle.cw_amount.specs.Amounts.{place_amount, place_sint}
use Rattle.cw_scale.specs.Kinds.{fraction_of_sint}
use Rattle.cw_unit.specs.declared.descriptor.Scale.{Scale}
use Rattle.cw_unit.specs.declared.descriptor.Spec.{Spec}
use Rattle.cw_unit.specs.declared.descriptor.SpecParam.{SpecParam}
use Rattle.cw_unit.specs.declared.descriptor.SpecParam.TheVariants as takes

abbrev pub within : (limit : ℕ) → Option ℕ → ℕ
within limit None = 0
within limit (Some n) = if nat_le n limit then n else 0

abbrev pub bound_in : Option ℤ → ℤ
bound_in None = pos 0
bound_in (Some z) = if int_le (neg_ℤ (pos 32768)) z && int_le z (pos 32767) then z else pos 0

abbrev pub bound : RawSint → ℤ
bound s = bound_in (place_sint s)

-- INTEGER is FIXED(16, 0)
abbrev pub scale_of : RawType → Scale
scale_of (type.Integer at) = record { t = 16; f = 0 }
scale_of (type.Fixed at t f) = record { t = within 255 (place_amount t); f = fraction_of_sint f }

abbrev pub answer_of : Option RawType → Option Scale
answer_of None = None
answer_of (Some t) = Some (scale_of t)

abbrev pub width_of : RawSize → ℕ
width_of s = within 65535 (place_amount s.first)

-- ---- specifications

abbrev pub plain_taken : RawIps → SpecParam
plain_taken (inner.Value at t) = takes.Value (scale_of t)
plain_taken (inner.Location at t) = takes.Location (scale_of t)
plain_taken (inner.Array t) = takes.Array (scale_of t)
plain_taken (inner.Table at s) = takes.Table (width_of s)
plain_taken (inner.Label at) = takes.Label
plain_taken (inner.Switch at) = takes.Switch

abbrev pub each_plain_taken : List RawIps → List SpecParam
each_plain_taken [] = []
each_plain_taken (p ∷ ps) = plain_taken p ∷ each_plain_taken ps

-- of a procedure that is a parameter
abbrev pub plain_spec : (answer : Option RawType) → List RawIps → Spec
plain_spec answer params = record { answer = answer_of answer; params = each_plain_taken params }

abbrev pub taken : RawPs → SpecParam
taken (ps.Plain p) = plain_taken p
taken (ps.Proc answer at params) = takes.Proc (plain_spec answer params)

abbrev pub each_taken : List RawPs → List SpecParam
each_taken [] = []
each_taken (p ∷ more) = taken p ∷ each_taken more

abbrev pub spec_of : (answer : Option RawType) → List RawPs → Spec
spec_of answer params = record { answer = answer_of answer; params = each_taken params }
