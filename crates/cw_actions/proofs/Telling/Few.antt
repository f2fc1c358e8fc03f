-- Units of texts have no more segments and procedures than have numbers.
use Rattle.std.proofs.Common.{◌≡◌, ℕ, zero, suc, ◌*◌, ◌≤◌, List, [], ◌∷◌, length, slice_get, Some, subst, arith}
use Rattle.cw_unit.specs.declared.unit.Unit.{Unit as SourceUnit}
use Rattle.cw_unit.specs.declared.unit.Proc.{Proc}
use Rattle.cw_tokens.specs.LeastTokens.{procedures_tokens, least_tokens}
use Rattle.cw_compile.specs.Texts.{IsUnitOf}
use Rattle.cw_depth.specs.Numbering.{AreFew}
use Rattle.cw_files.specs.Texts.{HasUnit}
use Rattle.cw_files.specs.Reading.{HaveValues}

-- a procedure takes four tokens
four_each : (ps : List Proc) → length ps * 4 ≤ procedures_tokens ps
four_each [] = omega arith
four_each (p ∷ ps) = omega (arith, four_each ps)

pub few_by_tokens : (u : SourceUnit) (tree text : ℕ) → least_tokens u ≤ tree → tree ≤ text → text ≤ 65535 → length u.procs ≤ 65536
few_by_tokens u tree text a b c = omega (arith, four_each u.procs, a, b, c)

one_unit : (u v : SourceUnit) → Some u ≡ Some v → u ≡ v
one_unit u v e = cc

few_in_each : ((text : List ℕ) (u : SourceUnit) → IsUnitOf text u → length u.procs ≤ 65536) → (texts : List (List ℕ)) (us : List SourceUnit) → HaveValues HasUnit texts us
    → (g : ℕ) (u : SourceUnit) → slice_get us g ≡ Some u → length u.procs ≤ 65536
few_in_each few texts [] values g u at = absurd (cc (at))
few_in_each few [] (v ∷ us) values g u at = absurd values
few_in_each few (text ∷ texts) (v ∷ us) values zero u at = subst (λ (w : SourceUnit). length w.procs ≤ 65536) (one_unit v u at) (few text v values.0.is_unit)
few_in_each few (text ∷ texts) (v ∷ us) values (suc g) u at = few_in_each few texts us values.1 g u at

pub are_few : ((text : List ℕ) (u : SourceUnit) → IsUnitOf text u → length u.procs ≤ 65536) → (texts : List (List ℕ)) (us : List SourceUnit) → HaveValues HasUnit texts us → 1 ≤ length us → length us ≤ 200 → AreFew us
are_few few texts us values some segments = record { some = omega (arith, some); segments = segments; procedures = few_in_each few texts us values }
