-- The parts of what a built unit is.
use Rattle.std.proofs.Common.{[], ◌∷◌, Bool, ◌&&◌, IsTrue}
use Rattle.cw_unit.specs.declared.unit.Unit.{Unit as SourceUnit}
use Rattle.cw_safety.proofs.Truth.{both}
use Rattle.cw_gen_unit.specs.BuiltUnits.{are_built}
use Rattle.cw_built.specs.Stored.{is_stored}
use Rattle.cw_built.specs.Listed.{are_named}
use Rattle.cw_built.specs.Built.{is_formed, are_met, is_built}

pub record Parts (u : SourceUnit) : Type 0 where
  pub named : IsTrue (are_named u.descs)
  pub stored : IsTrue (is_stored u)
  pub formed : IsTrue (is_formed u)
  pub met : IsTrue (are_met u)
  pub built : IsTrue (are_built (u ∷ []))

pub parts : (u : SourceUnit) → IsTrue (is_built u) → Parts u
parts u h =
    let c : Bool = are_met u && are_built (u ∷ []) in
    let b : Bool = is_formed u && c in
    let p = both (are_named u.descs) (is_stored u && b) h in
    let q = both (is_stored u) b p.1 in
    let r = both (is_formed u) c q.1 in
    let s = both (are_met u) (are_built (u ∷ [])) r.1 in
    record { named = p.0; stored = q.0; formed = r.0; met = s.0; built = s.1 }
