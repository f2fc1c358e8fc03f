-- How far an index of 16 bits is above its lower bound.
use Rattle.std.proofs.Common.{◌≡◌, ℕ, ℤ, pos, negsuc, ◌-ℤ◌, ◌<ℤ◌, to_z, of_z, w16, w64, FitsSigned, Bool, true, Result, Ok, Err, Some, refl, sym, ap, ap₂, ◌∙◌, arith}
use Rattle.std.proofs.lemmas.Int.{ints, to_z-of_z}
use Rattle.std.specs.Int.{FitsUnsignedBits}
use Rattle.std.specs.Prelude.{unsigned_abs}
use Rattle.std.specs.Result.{OkIff, result_ok}
use Rattle.cw_gen_expr.specs.KnownValues.{in_bounds, counted_if, from_lower}

-- an index or a bound as 64 bits have it
pub widened : (z wide : ℤ) → FitsSigned w64 wide → FitsSigned w16 z → wide ≡ to_z w16 (of_z w16 z) → to_z w64 (of_z w64 wide) ≡ z
widened z wide fw fz e = to_z-of_z w64 wide fw ∙ e ∙ to_z-of_z w16 z fz

pub tested_at : (compared tested : Bool) (lower upper k l u i : ℤ) → l ≡ lower → u ≡ upper → i ≡ k → tested ≡ in_bounds compared l u i → tested ≡ in_bounds compared lower upper k
tested_at compared tested lower upper k l u i el eu ei h = h ∙ ap₂ (λ l u. in_bounds compared l u i) el eu ∙ ap (in_bounds compared lower upper) ei

pub distance : (k lower : ℤ) → FitsSigned w16 k → FitsSigned w16 lower → to_z w64 (of_z w64 (k -ℤ lower)) ≡ k -ℤ lower
distance k lower fk fl = omega (arith, ints, fk, fl)

counted : {E : Type 0} (d : ℤ) (r : Result ℕ E) → d <ℤ pos 65536 → OkIff r (FitsUnsignedBits 16 d) (unsigned_abs d) → result_ok r ≡ counted_if true d
counted (pos n) (Ok x) small h = ap Some h.1
counted (pos n) (Err e) small h = absurd (h (omega (arith, ints, small)))
counted (negsuc n) (Ok x) small h = absurd h.0
counted (negsuc n) (Err e) small h = refl

pub counted_from : {E : Type 0} (compared : Bool) (lower upper k d : ℤ) (r : Result ℕ E) → FitsSigned w16 k → FitsSigned w16 lower → in_bounds compared lower upper k ≡ true → d ≡ k -ℤ lower
    → OkIff r (FitsUnsignedBits 16 d) (unsigned_abs d) → result_ok r ≡ from_lower compared lower upper (Some k)
counted_from compared lower upper k d r fk fl inside e h = counted d r (omega (arith, ints, fk, fl, e)) h ∙ ap₂ counted_if (sym inside) e
