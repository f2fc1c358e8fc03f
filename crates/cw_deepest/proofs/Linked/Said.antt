-- Where units are built and agree, and each fits alone, what a descriptor names has the specification that the descriptor says.
use Rattle.std.proofs.Common.{◌≡◌, ℕ, zero, suc, ◌+◌, ◌≤◌, List, [], ◌∷◌, length, All, IsTrue, Option, Some, None, slice_get, refl, sym, ap, subst, ◌∙◌, arith, inl, inr}
use Rattle.std.proofs.lemmas.Bool.{cases_lt}
use Rattle.std.proofs.lemmas.Option.{none-some, same_Some, slice_get_past}
use Rattle.cw_unit.specs.declared.unit.Unit.{Unit as SourceUnit}
use Rattle.cw_unit.specs.declared.unit.Proc.{Proc}
use Rattle.cw_unit.specs.declared.unit.Def.{Def}
use Rattle.cw_unit.specs.declared.unit.Def.TheVariants as def
use Rattle.cw_unit.specs.declared.descriptor.Desc.{Desc}
use Rattle.cw_unit.specs.declared.descriptor.DescBody.{DescBody}
use Rattle.cw_unit.specs.declared.descriptor.DescBody.TheVariants as bodies
use Rattle.cw_unit.specs.declared.descriptor.Spec.{Spec}
use Rattle.cw_unit.specs.declared.layout.Limits.{Limits}
use Rattle.cw_unit.specs.Allocation.{Name}
use Rattle.cw_unit.specs.Program.{Program, program_of, name_in, name_of, definition_in, found_in, definition_from, definition_for}
use Rattle.cw_unit.specs.Step.{procedure_of_def}
use Rattle.cw_unit.specs.Configuration.{procedure_in}
use Rattle.cw_comm.specs.Clashes.{Agree}
use Rattle.cw_safety.proofs.Truth.{no}
use Rattle.cw_built.specs.Shared.{faces_of}
use Rattle.cw_built.specs.Listed.{body_in, body_at}
use Rattle.cw_built.specs.Built.{defines_as, is_built}
use Rattle.cw_built.proofs.Saying.{Means}
use Rattle.cw_built.proofs.Agreeing.{all-at, found-there, same-body, means-agreed}
use Rattle.cw_depth.specs.CallGraph.{procedure_at, spec_of}
use Rattle.cw_deepest.specs.Programs.Fitting.{spec_if, at_place}
use Rattle.cw_deepest.specs.Linked.UnitFits.{spec_said, UnitFits}
use Rattle.cw_deepest.proofs.Linked.Twice.{Twice, all-twice}

-- ---- where a name is defined

module _ (g h : ℕ) (x : Def) (rest : Option (ℕ × Def)) where
  later-by : (o : Option Def) → (rest ≡ Some (h, x) → g + 1 ≤ h) → found_in g o rest ≡ Some (h, x) → g ≤ h
  later-by None more e = let behind = more e in omega (arith, behind)
  later-by (Some y) more e = let same : g ≡ h = ap (λ z. z.0) (same_Some (g, y) (h, x) e) in omega (arith, same)

  first-by : (o : Option Def) → h ≡ g + 0 → (rest ≡ Some (h, x) → g + 1 ≤ h) → found_in g o rest ≡ Some (h, x) → o ≡ Some x
  first-by None n more e = let behind = more e in absurd (omega (arith, n, behind))
  first-by (Some y) n more e = ap (λ z. Some z.1) (same_Some (g, y) (h, x) e)

  next-by : (o : Option Def) (k : ℕ) {P : Type 0} → h ≡ g + suc k → (rest ≡ Some (h, x) → P) → found_in g o rest ≡ Some (h, x) → P
  next-by None k n more e = more e
  next-by (Some y) k n more e = let same : g ≡ h = ap (λ z. z.0) (same_Some (g, y) (h, x) e) in absurd (omega (arith, n, same))

found-later : (name : Name) (vs : List SourceUnit) (g h : ℕ) (x : Def) → definition_from name g vs ≡ Some (h, x) → g ≤ h
found-later name [] g h x e = absurd (none-some (h, x) e)
found-later name (v ∷ vs) g h x e = later-by g h x (definition_from name (g + 1) vs) (definition_in v name v.defined) (found-later name vs (g + 1) h x) e

-- the segment that is found defines the name so
defined-there : (name : Name) (vs : List SourceUnit) (g k h : ℕ) (x : Def) (v : SourceUnit) → h ≡ g + k → slice_get vs k ≡ Some v → definition_from name g vs ≡ Some (h, x) → definition_in v name v.defined ≡ Some x
defined-there name [] g k h x v n there e = absurd (none-some v there)
defined-there name (w ∷ vs) g zero h x v n there e =
    subst (λ y. definition_in y name y.defined ≡ Some x) (same_Some w v there)
    (first-by g h x (definition_from name (g + 1) vs) (definition_in w name w.defined) n (found-later name vs (g + 1) h x) e)
defined-there name (w ∷ vs) g (suc k) h x v n there e =
    next-by g h x (definition_from name (g + 1) vs) (definition_in w name w.defined) k n (defined-there name vs (g + 1) k h x v (omega (arith, n)) there) e

-- a descriptor that a procedure's definition meets says a specification
says-procedure : (v : SourceUnit) (b : DescBody) (q : ℕ) → IsTrue (defines_as v b (def.Proc q)) → (s : Spec) × (b ≡ bodies.Proc s)
says-procedure v (bodies.Proc s) q t = (s, refl)
says-procedure v bodies.Label q t = no t
says-procedure v bodies.Switch q t = no t
says-procedure v (bodies.Word s) q t = no t
says-procedure v (bodies.Array s dims) q t = no t
says-procedure v (bodies.Table w l es) q t = no t

module _ (us : List SourceUnit) (limits : Limits) (passed : All (λ u. IsTrue (is_built u)) us) (agreed : Agree (faces_of us)) (fit : All UnitFits us) where
  abbrev p : Program
  p = program_of us limits

  -- what a segment's descriptor names has the specification that it says
  abbrev pub SaysSo : SourceUnit → ℕ → Type 0
  SaysSo u d = spec_if (at_place us (procedure_of_def (definition_for p (Some u) d))) ≡ spec_said (body_at u d)

  exact : (g d : ℕ) (u : SourceUnit) (y : Desc) (s : Spec) (h q : ℕ) (x : Proc) → slice_get us g ≡ Some u → slice_get u.descs d ≡ Some y → y.body ≡ bodies.Proc s → definition_from y.name 0 us ≡ Some (h, def.Proc q) → procedure_at us h q ≡ Some x → Twice (spec_of x ≡ s)
  exact g d u y s h q x here is b e at' not =
      let found = found-there us passed y.name h (def.Proc q) e in
      let v = found.0 in
      let t = found.2 in
      let said = says-procedure v t.desc.body q t.meets in
      let zero-first : h ≡ 0 + h = omega arith in
      let defined : definition_in v y.name v.defined ≡ Some (def.Proc q) = defined-there y.name us 0 h h (def.Proc q) v zero-first found.1 e in
      let name : name_of v t.number ≡ y.name = ap name_in t.is ∙ sym t.named in
      let there : slice_get v.procs q ≡ Some x = sym (ap (λ w. procedure_in w q) found.1) ∙ at' in
      let body : body_at v t.number ≡ Some (bodies.Proc said.0) = ap body_in t.is ∙ ap (λ z. Some z) said.1 in
      let exactly : spec_of x ≡ said.0 = (all-at UnitFits us h v fit found.1).defined t.number q said.0 x body (ap (λ n. definition_in v n v.defined) name ∙ defined) there in
      same-body us p.addresses limits passed agreed g h d t.number u v y t.desc here found.1 is t.is (sym t.named)
      (λ same.
      let specs : said.0 ≡ s = same_Some said.0 s (ap (λ z. spec_said (Some z)) (sym said.1 ∙ sym same ∙ b)) in
      not (exactly ∙ specs))

  said-by : (g d : ℕ) (u : SourceUnit) (f : Option (ℕ × Def)) (b : DescBody) (y : Desc) → slice_get us g ≡ Some u → slice_get u.descs d ≡ Some y → y.body ≡ b → definition_from y.name 0 us ≡ f → Means p f (Some b) → Twice (spec_if (at_place us (procedure_of_def f)) ≡ spec_said (Some b))
  said-by g d u f bodies.Label y here is b e m not = not (ap (λ z. spec_if (at_place us (procedure_of_def z))) m.2)
  said-by g d u f bodies.Switch y here is b e m not = not (ap (λ z. spec_if (at_place us (procedure_of_def z))) m.2)
  said-by g d u f (bodies.Word s) y here is b e m not = not (ap (λ z. spec_if (at_place us (procedure_of_def z))) m)
  said-by g d u f (bodies.Array s dims) y here is b e m not = not (ap (λ z. spec_if (at_place us (procedure_of_def z))) m)
  said-by g d u f (bodies.Table w l es) y here is b e m not = not (ap (λ z. spec_if (at_place us (procedure_of_def z))) m)
  said-by g d u f (bodies.Proc s) y here is b e m not =
      exact g d u y s m.0 m.1 m.2 here is b (e ∙ m.3) m.4
      (λ same. not (ap (λ z. spec_if (at_place us (procedure_of_def z))) m.3 ∙ ap spec_if m.4 ∙ ap (λ z. Some z) same))

  means-here : (g d : ℕ) (u : SourceUnit) → slice_get us g ≡ Some u → Means p (definition_for p (Some u) d) (body_at u d)
  means-here g d u here = subst (λ o. Means p (definition_for p o d) (body_at u d)) here (means-agreed us p.addresses limits passed agreed g d u here)

  said-at : (g d : ℕ) (u : SourceUnit) (o : Option Desc) → slice_get us g ≡ Some u → slice_get u.descs d ≡ o → Means p (definition_from (name_in o) 0 us) (body_in o) → Twice (spec_if (at_place us (procedure_of_def (definition_from (name_in o) 0 us))) ≡ spec_said (body_in o))
  said-at g d u None here is m not = not (ap (λ z. spec_if (at_place us (procedure_of_def z))) m)
  said-at g d u (Some y) here is m not = said-by g d u (definition_from y.name 0 us) y.body y here is refl refl m not

  says-so : (g d : ℕ) (u : SourceUnit) → slice_get us g ≡ Some u → Twice (SaysSo u d)
  says-so g d u here = said-at g d u (slice_get u.descs d) here refl (means-here g d u here)

  -- ---- of all descriptors together

  says-past : (g d : ℕ) (u : SourceUnit) → slice_get us g ≡ Some u → length u.descs ≤ d → SaysSo u d
  says-past g d u here past =
      let none : slice_get u.descs d ≡ None = slice_get_past u.descs d past in
      let means : definition_for p (Some u) d ≡ None = subst (λ b. Means p (definition_for p (Some u) d) b) (ap body_in none) (means-here g d u here) in
      ap (λ z. spec_if (at_place us (procedure_of_def z))) means ∙ sym (ap (λ o. spec_said (body_in o)) none)

  unit-says : (g : ℕ) (u : SourceUnit) → slice_get us g ≡ Some u → Twice ((d : ℕ) → SaysSo u d)
  unit-says g u here not =
      all-twice (SaysSo u) (length u.descs) (λ d. says-so g d u here)
      (λ below. not (λ d. elim (cases_lt d (length u.descs)) [ inl lt ↦ below d lt | inr past ↦ says-past g d u here past ]))

  abbrev SayAt : ℕ → Type 0
  SayAt g = (u : SourceUnit) → slice_get us g ≡ Some u → (d : ℕ) → SaysSo u d

  say-at : (g : ℕ) (o : Option SourceUnit) → slice_get us g ≡ o → Twice (SayAt g)
  say-at g None e not = not (λ u here. absurd (none-some u (sym e ∙ here)))
  say-at g (Some v) e not =
      unit-says g v e (λ all. not (λ u here. subst (λ w. (d : ℕ) → SaysSo w d) (same_Some v u (sym e ∙ here)) all))

  pub all-say : Twice ((g : ℕ) (u : SourceUnit) → slice_get us g ≡ Some u → (d : ℕ) → SaysSo u d)
  all-say not =
      all-twice SayAt (length us) (λ g. say-at g (slice_get us g) refl)
      (λ below. not (λ g u here. elim (cases_lt g (length us)) [
        | inl lt ↦ below g lt u here
        | inr past ↦ absurd (none-some u (sym (slice_get_past us g past) ∙ here))
      ]))
