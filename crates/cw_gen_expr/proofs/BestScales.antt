-- The largest scale at which a number fits a word, as it is found.
use Rattle.std.proofs.Common.{◌≡◌, ◌≢◌, ℕ, zero, suc, ◌+◌, ◌<◌, ◌≤◌, Bool, true, false, nat_le, refl, sym, ap, ◌∙◌, subst, arith, leb-true}
use Rattle.std.proofs.lemmas.Bool.{le-leb, leb-false, lt-ltb, false≢true}
use Rattle.cw_word.specs.Decimal.{decimal_floor, IsBestScale}
use Rattle.cw_unit.specs.declared.unit.Unit.{Unit as SourceUnit}
use Rattle.cw_word.specs.Number.{Number}
use Rattle.cw_unit.specs.declared.unit.Expr.{Expr}
use Rattle.cw_unit.specs.declared.unit.Expr as X
use Rattle.cw_unit.specs.declared.unit.Expr.TheVariants as expr
use Rattle.cw_unit.specs.Scales.{best_if, best_scale_within, number_scale, operand_scale}

floor : Number → ℕ → ℕ
floor n f = decimal_floor n.whole n.digits n.places f

module _ (n : Number) (b : ℕ) (fits : floor n b ≤ 32767) where
  best-here : (f : ℕ) → b ≤ f → ((s : ℕ) → s ≤ f → floor n s ≤ 32767 → s ≤ b) → best_scale_within n f ≡ b
  unfolding floor
  best-here zero le largest = let z : 0 ≡ b = omega (arith, le) in z
  best-here (suc f) le largest = by_test (nat_le (decimal_floor n.whole n.digits n.places (f + 1)) 32767) refl (λ l. best-here f l (λ s k h. largest s (omega (arith, k)) h))
    where
      next : f + 1 ≡ suc f
      next = omega arith

      by_test : (t : Bool) → nat_le (decimal_floor n.whole n.digits n.places (f + 1)) 32767 ≡ t → (b ≤ f → best_scale_within n f ≡ b) → best_if (nat_le (decimal_floor n.whole n.digits n.places (f + 1)) 32767) (f + 1) (best_scale_within n f) ≡ b
      by_test true e rest =
          let at_next : suc f ≤ b = largest (suc f) (omega arith) (subst (λ k. floor n k ≤ 32767) next (leb-true (decimal_floor n.whole n.digits n.places (f + 1)) 32767 e)) in
          let same : f + 1 ≡ b = omega (arith, at_next, le) in
          ap (λ t. best_if t (f + 1) (best_scale_within n f)) e ∙ same
      by_test false e rest = ap (λ t. best_if t (f + 1) (best_scale_within n f)) e ∙ rest (below (nat_le b f) refl)
        where
          below : (t : Bool) → nat_le b f ≡ t → b ≤ f
          below true i = leb-true b f i
          below false i =
              let same : b ≡ f + 1 = omega (arith, le, leb-false b f i) in
              let small : decimal_floor n.whole n.digits n.places (f + 1) ≤ 32767 = subst (λ k. floor n k ≤ 32767) same fits in
              absurd (false≢true (sym e ∙ le-leb (decimal_floor n.whole n.digits n.places (f + 1)) 32767 small))

pub best-operand : (u : SourceUnit) (e : Expr) (n : Number) (b : ℕ) → e ≡ expr.Num n → n.places ≢ 0 → IsBestScale n.whole n.digits n.places b → b ≡ operand_scale u e
unfolding floor X.out-Expr denote.Hole.Carrier.out
best-operand u e n b is pointed best =
    let some : 0 < n.places = omega (arith, pointed) in
    sym (ap (operand_scale u) is ∙ ap (λ t. number_scale t n) (lt-ltb 0 n.places some) ∙ best-here n b best.fits 15 best.in_range best.largest)
