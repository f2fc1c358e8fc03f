-- Units that pass the test are well formed.
use Rattle.std.proofs.Common.{◌≡◌, ℕ, zero, suc, ◌+◌, List, [], ◌∷◌, Bool, IsTrue, ◌&&◌, Some, None, is_some, subst, arith, slice_get}
use Rattle.std.proofs.lemmas.Option.{none-some, same_Some}
use Rattle.cw_unit.specs.declared.unit.Unit.{Unit as SourceUnit}
use Rattle.cw_unit.specs.declared.unit.Proc.{Proc}
use Rattle.cw_unit.specs.Program.{Program}
use Rattle.cw_safety.specs.WellFormed.{WellFormed, is_statement, are_procedures, are_units, is_well_formed}
use Rattle.cw_safety.proofs.Truth.{both}

module _ (p : Program) where
  procedure-formed : (g n q k : ℕ) (procs : List Proc) (proc : Proc) → n + q ≡ k → IsTrue (are_procedures p g n procs) → slice_get procs q ≡ Some proc → IsTrue (is_statement p g (Some (g, k)) proc.body)
  procedure-formed g n q k [] proc a h e = absurd (none-some proc e)
  procedure-formed g n zero k (x ∷ procs) proc a h e =
      let at : n ≡ k = omega (arith, a) in
      let here : IsTrue (is_statement p g (Some (g, n)) x.body) = (both (is_statement p g (Some (g, n)) x.body) (are_procedures p g (suc n) procs) h).0 in
      subst (λ m. IsTrue (is_statement p g (Some (g, m)) proc.body)) at (subst (λ y. IsTrue (is_statement p g (Some (g, n)) y.body)) (same_Some x proc e) here)
  procedure-formed g n (suc q) k (x ∷ procs) proc a h e =
      procedure-formed g (suc n) q k procs proc (omega (arith, a)) (both (is_statement p g (Some (g, n)) x.body) (are_procedures p g (suc n) procs) h).1 e

  -- a unit at its number
  abbrev Formed : (segment : ℕ) → SourceUnit → Type 0
  Formed g u = IsTrue (is_statement p g None u.body) × IsTrue (are_procedures p g 0 u.procs)

  unit-formed : (n g k : ℕ) (us : List SourceUnit) (u : SourceUnit) → n + g ≡ k → IsTrue (are_units p n us) → slice_get us g ≡ Some u → Formed k u
  unit-formed n g k [] u a h e = absurd (none-some u e)
  unit-formed n zero k (x ∷ us) u a h e =
      let at : n ≡ k = omega (arith, a) in
      let whole : Bool = is_statement p n None x.body && are_procedures p n 0 x.procs in
      let here : Formed n x = both (is_statement p n None x.body) (are_procedures p n 0 x.procs) (both whole (are_units p (suc n) us) h).0 in
      subst (λ m. Formed m u) at (subst (Formed n) (same_Some x u e) here)
  unit-formed n (suc g) k (x ∷ us) u a h e =
      let whole : Bool = is_statement p n None x.body && are_procedures p n 0 x.procs in
      unit-formed (suc n) g k us u (omega (arith, a)) (both whole (are_units p (suc n) us) h).1 e

  pub tested : IsTrue (is_well_formed p) → WellFormed p
  tested h =
      let parts = both (is_some (slice_get p.units 0)) (are_units p 0 p.units) h in
      let units = λ (g : ℕ) (u : SourceUnit) (e : slice_get p.units g ≡ Some u). unit-formed 0 g g p.units u (omega arith) parts.1 e in
      record {
        segments = parts.0;
        bodies = λ g u e. (units g u e).0;
        procedures = λ g q u proc e f. procedure-formed g 0 q q u.procs proc (omega arith) (units g u e).1 f;
      }
