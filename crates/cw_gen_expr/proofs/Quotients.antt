-- A quotient whose divisor is not 0.
use Rattle.std.proofs.Common.{◌≡◌, ◌≢◌, zero, suc, ℤ, pos, negsuc, Option, None, refl}
use Rattle.std.specs.Prelude.{int_le, ◌&&◌, if◌then◌else◌}
use Rattle.cw_word.specs.FixedPoint.{scaled_quotient}
use Rattle.cw_gen_expr.specs.KnownValues.{fitted, known_quotient}

pub quotients : (s x y : ℤ) → y ≢ pos 0 → known_quotient s x y ≡ (if int_le (negsuc 14) s && int_le s (pos 16) then fitted (scaled_quotient x y s) else None)
quotients s x (pos zero) some = absurd (some refl)
quotients s x (pos (suc y)) some = refl
quotients s x (negsuc y) some = refl
