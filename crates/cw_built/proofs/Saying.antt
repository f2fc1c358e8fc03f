-- What names mean where they are defined as descriptors say, and that they are in the program in which a unit is judged.
use Rattle.std.proofs.Common.{◌≡◌, ℕ, suc, ◌+◌, List, [], ◌∷◌, map, Bool, true, IsTrue, Option, Some, None, slice_get, refl, sym, ap, ◌∙◌, arith}
use Rattle.std.specs.Prelude.{option_map}
use Rattle.std.proofs.lemmas.Option.{slice_get-map}
use Rattle.cw_unit.specs.declared.unit.Unit.{Unit as SourceUnit}
use Rattle.cw_unit.specs.declared.unit.Proc.{Proc}
use Rattle.cw_unit.specs.declared.unit.Def.{Def}
use Rattle.cw_unit.specs.declared.unit.Def.TheVariants as def
use Rattle.cw_unit.specs.declared.unit.Stmt.TheOpen as statement
use Rattle.cw_unit.specs.declared.unit.Stmt.TheVariants as stmt
use Rattle.cw_unit.specs.declared.unit.Stmt.TheFolds.{fold-roll-Stmt}
use Rattle.cw_unit.specs.declared.descriptor.Desc.{Desc}
use Rattle.cw_unit.specs.declared.descriptor.DescBody.{DescBody}
use Rattle.cw_unit.specs.declared.descriptor.DescBody.TheVariants as bodies
use Rattle.cw_unit.specs.Program.{Program, name_in, definition_from, definition_of}
use Rattle.cw_unit.specs.Step.{label_of_def, switch_of_def, procedure_of_def, switch_in}
use Rattle.cw_unit.specs.Configuration.{procedure_in, procedure_at}
use Rattle.cw_safety.specs.Kinds.{Kind, parameter_kinds}
use Rattle.cw_safety.specs.WellFormed.{sets_step, sets, reaches, reaches_unit, reaches_list, reaches_switch, procedure_of_place}
use Rattle.cw_built.specs.Listed.{are_named, nothing, procedure_as, procedures_as, definition_as, defining, says_label, says_switch, kinds_said, body_in, body_at}
use Rattle.cw_built.specs.Built.{alone}
use Rattle.cw_built.proofs.Apart.{found, nowhere, somewhere, no-empty}

-- what a name means is as its descriptor says
abbrev pub Means : Program → Option (ℕ × Def) → Option DescBody → Type 0
Means p f (Some bodies.Label) = (h l : ℕ) × (f ≡ Some (h, def.Label l)) × ((o : Option (ℕ × ℕ)) → reaches p o (Some (h, l)) ≡ true)
Means p f (Some bodies.Switch) = (h n : ℕ) × (f ≡ Some (h, def.Switch n)) × ((o : Option (ℕ × ℕ)) → reaches_switch p o (Some (h, n)) ≡ true)
Means p f (Some (bodies.Proc s)) = (h q : ℕ) × (x : Proc) × (f ≡ Some (h, def.Proc q)) × (procedure_at p h q ≡ Some x) × (parameter_kinds x ≡ parameter_kinds (procedure_as s))
Means p f _ = f ≡ None

abbrev pub kinds_at : Program → Option (ℕ × Def) → Option (List Kind)
kinds_at p f = option_map parameter_kinds (procedure_of_place p (procedure_of_def f))

pub label-as-said : (p : Program) (o : Option (ℕ × ℕ)) (f : Option (ℕ × Def)) (b : Option DescBody) → Means p f b → reaches p o (label_of_def f) ≡ says_label b
label-as-said p o f (Some bodies.Label) m = ap (λ x. reaches p o (label_of_def x)) m.2 ∙ m.3 o
label-as-said p o f (Some bodies.Switch) m = ap (λ x. reaches p o (label_of_def x)) m.2
label-as-said p o f (Some (bodies.Proc s)) m = ap (λ x. reaches p o (label_of_def x)) m.3
label-as-said p o f (Some (bodies.Word s)) m = ap (λ x. reaches p o (label_of_def x)) m
label-as-said p o f (Some (bodies.Array s dims)) m = ap (λ x. reaches p o (label_of_def x)) m
label-as-said p o f (Some (bodies.Table w l es)) m = ap (λ x. reaches p o (label_of_def x)) m
label-as-said p o f None m = ap (λ x. reaches p o (label_of_def x)) m

pub switch-as-said : (p : Program) (o : Option (ℕ × ℕ)) (f : Option (ℕ × Def)) (b : Option DescBody) → Means p f b → reaches_switch p o (switch_of_def f) ≡ says_switch b
switch-as-said p o f (Some bodies.Label) m = ap (λ x. reaches_switch p o (switch_of_def x)) m.2
switch-as-said p o f (Some bodies.Switch) m = ap (λ x. reaches_switch p o (switch_of_def x)) m.2 ∙ m.3 o
switch-as-said p o f (Some (bodies.Proc s)) m = ap (λ x. reaches_switch p o (switch_of_def x)) m.3
switch-as-said p o f (Some (bodies.Word s)) m = ap (λ x. reaches_switch p o (switch_of_def x)) m
switch-as-said p o f (Some (bodies.Array s dims)) m = ap (λ x. reaches_switch p o (switch_of_def x)) m
switch-as-said p o f (Some (bodies.Table w l es)) m = ap (λ x. reaches_switch p o (switch_of_def x)) m
switch-as-said p o f None m = ap (λ x. reaches_switch p o (switch_of_def x)) m

pub kinds-as-said : (p : Program) (f : Option (ℕ × Def)) (b : Option DescBody) → Means p f b → kinds_at p f ≡ kinds_said b
kinds-as-said p f (Some bodies.Label) m = ap (kinds_at p) m.2
kinds-as-said p f (Some bodies.Switch) m = ap (kinds_at p) m.2
kinds-as-said p f (Some (bodies.Proc s)) m = ap (kinds_at p) m.3 ∙ ap (option_map parameter_kinds) m.4 ∙ ap (λ ks. Some ks) m.5
kinds-as-said p f (Some (bodies.Word s)) m = ap (kinds_at p) m
kinds-as-said p f (Some (bodies.Array s dims)) m = ap (kinds_at p) m
kinds-as-said p f (Some (bodies.Table w l es)) m = ap (kinds_at p) m
kinds-as-said p f None m = ap (kinds_at p) m

-- ---- the program in which a unit is judged

sets-first : (d : Desc) → sets 0 (defining d).body ≡ true
sets-first d = ap (sets 0) (sym (stmt.rolls-Mark (0 ∷ []) nothing)) ∙ fold-roll-Stmt Bool (sets_step 0) (statement.Mark (0 ∷ []) nothing)

module _ (u : SourceUnit) (k : ℕ) (x : Desc) (at : slice_get u.descs k ≡ Some x) where
  stands : slice_get (map defining u.descs) k ≡ Some (defining x)
  stands = slice_get-map defining u.descs k ∙ ap (option_map defining) at

  label-there : (o : Option (ℕ × ℕ)) → reaches (alone u) o (Some (suc k, 0)) ≡ true
  label-there o = ap (λ v. reaches_unit v (suc k) 0 o) stands ∙ sets-first x

  switch-there : (o : Option (ℕ × ℕ)) → reaches_switch (alone u) o (Some (suc k, 0)) ≡ true
  switch-there o = ap (λ v. reaches_list (alone u) o (suc k) (switch_in v 0)) stands

  procedure-there : procedure_at (alone u) (suc k) 0 ≡ slice_get (procedures_as x.body) 0
  procedure-there = ap (λ v. procedure_in v 0) stands

  means-found : (f : Option (ℕ × Def)) (b : DescBody) → x.body ≡ b → f ≡ found (suc k) (definition_as b) → Means (alone u) f (Some b)
  means-found f bodies.Label is e = (suc k, 0, e, label-there)
  means-found f bodies.Switch is e = (suc k, 0, e, switch-there)
  means-found f (bodies.Proc s) is e = (suc k, 0, procedure_as s, e, procedure-there ∙ ap (λ b. slice_get (procedures_as b) 0) is, refl)
  means-found f (bodies.Word s) is e = e
  means-found f (bodies.Array s dims) is e = e
  means-found f (bodies.Table w l es) is e = e

  pub means-said : IsTrue (are_named u.descs) → Means (alone u) (definition_from x.name 1 (map defining u.descs)) (Some x.body)
  means-said named =
      let next : 1 + k ≡ suc k = omega arith in
      means-found (definition_from x.name 1 (map defining u.descs)) x.body refl (somewhere u.descs 1 k x named at ∙ ap (λ n. found n (definition_as x.body)) next)

means-by : (u : SourceUnit) (k : ℕ) (v : Option Desc) → slice_get u.descs k ≡ v → IsTrue (are_named u.descs) → Means (alone u) (definition_from (name_in v) 1 (map defining u.descs)) (body_in v)
means-by u k None at named = nowhere u.descs 1 [] (no-empty u.descs named)
means-by u k (Some x) at named = means-said u k x at named

pub means-alone : (u : SourceUnit) (k : ℕ) → IsTrue (are_named u.descs) → Means (alone u) (definition_of (alone u) 0 k) (body_at u k)
means-alone u k named = means-by u k (slice_get u.descs k) refl named
