-- What is so of a list of built units.
use Rattle.std.proofs.Common.{◌≡◌, ◌≢◌, ℕ, zero, suc, ◌+◌, ◌<◌, List, [], ◌∷◌, length, All, Bool, true, false, ◌&&◌, IsTrue, Option, Some, None, is_some, slice_get, refl, subst, arith}
use Rattle.std.proofs.lemmas.Option.{none-some, same_Some, slice_get_within}
use Rattle.cw_unit.specs.declared.unit.Unit.{Unit as SourceUnit}
use Rattle.cw_unit.specs.declared.unit.Proc.{Proc}
use Rattle.cw_unit.specs.declared.unit.Label.{Label}
use Rattle.cw_unit.specs.declared.unit.Switch.{Switch}
use Rattle.cw_unit.specs.declared.unit.Def.{Def}
use Rattle.cw_unit.specs.declared.unit.Def.TheVariants as def
use Rattle.cw_unit.specs.declared.descriptor.Desc.{Desc}
use Rattle.cw_unit.specs.declared.descriptor.DescBody.{DescBody}
use Rattle.cw_unit.specs.declared.descriptor.DescBody.TheVariants as bodies
use Rattle.cw_unit.specs.declared.layout.Limits.{Limits}
use Rattle.cw_unit.specs.declared.layout.Map.{Map}
use Rattle.cw_unit.specs.HasLayout.{HasLayout}
use Rattle.cw_unit.specs.Program.{program_at}
use Rattle.cw_unit.specs.Step.{goals_of}
use Rattle.cw_safety.specs.WellFormed.{WellFormed, is_statement, are_procedures, reaches_label, reaches_list, takes_arguments}
use Rattle.cw_safety.specs.Kinds.{Kind}
use Rattle.cw_safety.proofs.Truth.{both, no}
use Rattle.cw_comm.specs.Clashes.{Agree}
use Rattle.cw_gen_unit.specs.BuiltUnits.{are_built}
use Rattle.cw_built.specs.Shared.{faces_of, IsThere, Defines}
use Rattle.cw_built.specs.Built.{alone, defines_as, meets, is_built}
use Rattle.cw_built.proofs.Truth.{all-get}
use Rattle.cw_built.proofs.Parts.{Parts, parts}
use Rattle.cw_built.proofs.Layouts.{has-layout}
use Rattle.cw_built.proofs.Saying.{means-alone}
use Rattle.cw_built.proofs.Carried.{statement-same}
use Rattle.cw_built.proofs.Agreeing.{all-at, means-agreed}

pub layout : (u : SourceUnit) → IsTrue (is_built u) → HasLayout u
layout u h = has-layout u (parts u h).stored

-- ---- well-formed units

procedure-formed : (u : SourceUnit) (n k : ℕ) (qs : List Proc) (x : Proc) → IsTrue (are_procedures (alone u) 0 n qs) → slice_get qs k ≡ Some x → IsTrue (is_statement (alone u) 0 (Some (0, n + k)) x.body)
procedure-formed u n k [] x h e = absurd (none-some x e)
procedure-formed u n zero (y ∷ qs) x h e =
    let here : n ≡ n + 0 = omega arith in
    let p = both (is_statement (alone u) 0 (Some (0, n)) y.body) (are_procedures (alone u) 0 (suc n) qs) h in
    subst (λ j. IsTrue (is_statement (alone u) 0 (Some (0, j)) x.body)) here (subst (λ (z : Proc). IsTrue (is_statement (alone u) 0 (Some (0, n)) z.body)) (same_Some y x e) p.0)
procedure-formed u n (suc k) (y ∷ qs) x h e =
    let here : suc n + k ≡ n + suc k = omega arith in
    let p = both (is_statement (alone u) 0 (Some (0, n)) y.body) (are_procedures (alone u) 0 (suc n) qs) h in
    subst (λ j. IsTrue (is_statement (alone u) 0 (Some (0, j)) x.body)) here (procedure-formed u (suc n) k qs x p.1 e)

has-first : (us : List SourceUnit) → us ≢ [] → IsTrue (is_some (slice_get us 0))
has-first [] h = absurd (h refl)
has-first (u ∷ us) h = refl

module _ (us : List SourceUnit) (m : Map) (limits : Limits) (passed : All (λ u. IsTrue (is_built u)) us) (agreed : Agree (faces_of us)) where
  module _ (g : ℕ) (u : SourceUnit) (here : slice_get us g ≡ Some u) where
    own : Parts u
    own = parts u (all-at (λ v. IsTrue (is_built v)) us g u passed here)

    formed-parts : IsTrue (is_statement (alone u) 0 None u.body) × IsTrue (are_procedures (alone u) 0 0 u.procs)
    formed-parts = both (is_statement (alone u) 0 None u.body) (are_procedures (alone u) 0 0 u.procs) own.formed

    body-formed : IsTrue (is_statement (program_at us m limits) g None u.body)
    body-formed = subst IsTrue (statement-same us m limits g u here (λ d. means-alone u d own.named) (λ d. means-agreed us m limits passed agreed g d u here) None u.body) formed-parts.0

    procedure-formed-there : (q : ℕ) (x : Proc) → slice_get u.procs q ≡ Some x → IsTrue (is_statement (program_at us m limits) g (Some (g, q)) x.body)
    procedure-formed-there q x is =
        let same : 0 + q ≡ q = omega arith in
        let formed : IsTrue (is_statement (alone u) 0 (Some (0, q)) x.body) = subst (λ j. IsTrue (is_statement (alone u) 0 (Some (0, j)) x.body)) same (procedure-formed u 0 q u.procs x formed-parts.1 is) in
        subst IsTrue (statement-same us m limits g u here (λ d. means-alone u d own.named) (λ d. means-agreed us m limits passed agreed g d u here) (Some q) x.body) formed

  pub well-formed : us ≢ [] → WellFormed (program_at us m limits)
  well-formed some = record {
    segments = has-first us some;
    bodies = λ g u here. body-formed g u here;
    procedures = λ g q u x here is. procedure-formed-there g u here q x is;
  }

-- ---- units that are built

and-built : (b : Bool) (c : Bool) → IsTrue (b && true) → IsTrue c → IsTrue (b && c)
and-built true c h t = t
and-built false c h t = no h

from-each : (us : List SourceUnit) → ((k : ℕ) (u : SourceUnit) → slice_get us k ≡ Some u → IsTrue (are_built (u ∷ []))) → IsTrue (are_built us)
from-each [] h = refl
from-each (u ∷ us) h = and-built _ (are_built us) (h 0 u refl) (from-each us (λ k v e. h (suc k) v e))

pub built : (us : List SourceUnit) → All (λ u. IsTrue (is_built u)) us → IsTrue (are_built us)
built us passed = from-each us (λ k u here. (parts u (all-at (λ v. IsTrue (is_built v)) us k u passed here)).built)

-- ---- definitions

label-there : (u : SourceUnit) (l : ℕ) (v : Option Label) → slice_get u.labels l ≡ v → IsTrue (reaches_label (record u { defined = [] }) v 0 l None) → l < length u.labels
label-there u l None is h = no h
label-there u l (Some x) is h = slice_get_within u.labels l x is

switch-there : (u : SourceUnit) (n : ℕ) (v : Option Switch) → slice_get u.switches n ≡ v → IsTrue (reaches_list (alone u) None 0 (goals_of v)) → n < length u.switches
switch-there u n None is h = no h
switch-there u n (Some x) is h = slice_get_within u.switches n x is

procedure-there : (u : SourceUnit) (q : ℕ) (ks : List Kind) (v : Option Proc) → slice_get u.procs q ≡ v → IsTrue (takes_arguments v ks) → q < length u.procs
procedure-there u q ks None is h = no h
procedure-there u q ks (Some x) is h = slice_get_within u.procs q x is

is-there : (u : SourceUnit) (b : DescBody) (x : Def) → IsTrue (defines_as u b x) → IsThere u x
is-there u bodies.Label (def.Label l) h = label-there u l (slice_get u.labels l) refl h
is-there u bodies.Switch (def.Switch n) h = switch-there u n (slice_get u.switches n) refl h
is-there u (bodies.Proc s) (def.Proc q) h = procedure-there u q _ (slice_get u.procs q) refl h
is-there u _ _ h = no h

defined-by : (u : SourceUnit) (d : ℕ) (x : Def) (v : Option Desc) → slice_get u.descs d ≡ v → IsTrue (meets u v x) → Defines u d x
defined-by u d x None is h = no h
defined-by u d x (Some y) is h = (slice_get_within u.descs d y is, is-there u y.body x h)

pub defined : (u : SourceUnit) (k d : ℕ) (x : Def) → IsTrue (is_built u) → slice_get u.defined k ≡ Some (d, x) → Defines u d x
defined u k d x h is = defined-by u d x (slice_get u.descs d) refl (all-get (λ (e : ℕ × Def). meets u (slice_get u.descs e.0) e.1) u.defined k (d, x) (parts u h).met is)
