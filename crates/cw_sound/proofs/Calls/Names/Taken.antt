-- What procedures take besides words, by their specifications, and the numbers of their control parameters.
use Rattle.std.proofs.Common.{◌≡◌, ℕ, zero, suc, ◌+◌, ◌<◌, List, [], ◌∷◌, ◌++◌, map, Bool, if◌then◌else◌, nat_eq, slice_get, Option, Some, None, refl, sym, ap, ap₂, ◌∙◌, arith}
use Rattle.std.proofs.lemmas.Bool.{eq-eqb, ne_eqb}
use Rattle.std.proofs.lemmas.Option.{none-some, same_Some}
use Rattle.cw_tree.specs.declared.leaf.Position.{Position}
use Rattle.cw_tree.specs.declared.leaf.RawName.{RawName}
use Rattle.cw_tree.specs.declared.leaf.RawType.{RawType}
use Rattle.cw_tree.specs.declared.segment.RawIps.TheVariants as inner
use Rattle.cw_tree.specs.declared.segment.RawPs.{RawPs}
use Rattle.cw_tree.specs.declared.segment.RawPs.TheVariants as ps
use Rattle.cw_tree.specs.declared.statement.RawParam.{RawParam}
use Rattle.cw_tree.specs.declared.statement.RawParam.TheVariants as raw
use Rattle.cw_tree.specs.declared.statement.RawProc.{RawProc, out-RawProc}
use Rattle.cw_facts.specs.Signatures.{same_for, flat, flattened}
use Rattle.cw_scope.specs.declared.resolve.Named.{Named}
use Rattle.cw_make_items.specs.Lookup.{Numbers}
use Rattle.cw_make_items.specs.Types.{answer_of, plain_spec, taken, each_taken}
use Rattle.cw_make_items.specs.Types as types
use Rattle.cw_make.specs.Procedures.{each_param, params_in, params_of, proc_of}
use Rattle.cw_unit.specs.declared.descriptor.Scale.{Scale}
use Rattle.cw_unit.specs.declared.descriptor.Spec.{Spec, out-Spec}
use Rattle.cw_unit.specs.declared.descriptor.SpecParam.{SpecParam, SpecParam-F, out-SpecParam}
use Rattle.cw_unit.specs.declared.descriptor.SpecParam.TheVariants as takes
use Rattle.cw_unit.specs.declared.descriptor.SpecParam.TheOpen as layer
use Rattle.cw_unit.specs.declared.descriptor.SpecParam.TheViews.{out-roll-SpecParam}
use Rattle.cw_unit.specs.declared.unit.Param.{Param}
use Rattle.cw_unit.specs.declared.unit.Param.TheVariants as param
use Rattle.cw_unit.specs.declared.unit.Proc.{Proc}
use Rattle.cw_depth.specs.CallGraph.{taken_by, spec_of, spec_in}
use Rattle.cw_deepest.specs.Programs.Fitting.{taken_in, AreNumbered}
use Rattle.cw_sound.proofs.Calls.Trees.Parts.{one_wanted, wanted}

-- ---- what a specification says

abbrev taken_layer : SpecParam-F SpecParam Spec → List (Option Spec)
taken_layer layer.Label = None ∷ []
taken_layer layer.Switch = None ∷ []
taken_layer (layer.Proc s) = Some s ∷ []
taken_layer _ = []

abbrev taken_said : List SpecParam → List (Option Spec)
taken_said [] = []
taken_said (p ∷ ps) = taken_layer (out-SpecParam p) ++ taken_said ps

says_value : (s : Scale) → out-SpecParam (takes.Value s) ≡ layer.Value s
says_value s = ap out-SpecParam (sym (takes.rolls-Value s)) ∙ out-roll-SpecParam (layer.Value s)

says_location : (s : Scale) → out-SpecParam (takes.Location s) ≡ layer.Location s
says_location s = ap out-SpecParam (sym (takes.rolls-Location s)) ∙ out-roll-SpecParam (layer.Location s)

says_array : (s : Scale) → out-SpecParam (takes.Array s) ≡ layer.Array s
says_array s = ap out-SpecParam (sym (takes.rolls-Array s)) ∙ out-roll-SpecParam (layer.Array s)

says_table : (n : ℕ) → out-SpecParam (takes.Table n) ≡ layer.Table n
says_table n = ap out-SpecParam (sym (takes.rolls-Table n)) ∙ out-roll-SpecParam (layer.Table n)

says_label : out-SpecParam takes.Label ≡ layer.Label
says_label = ap out-SpecParam (sym takes.rolls-Label) ∙ out-roll-SpecParam layer.Label

says_switch : out-SpecParam takes.Switch ≡ layer.Switch
says_switch = ap out-SpecParam (sym takes.rolls-Switch) ∙ out-roll-SpecParam layer.Switch

says_procedure : (s : Spec) → out-SpecParam (takes.Proc s) ≡ layer.Proc s
says_procedure s = ap out-SpecParam (sym (takes.rolls-Proc s)) ∙ out-roll-SpecParam (layer.Proc s)

abbrev before : List (Option Spec) → SpecParam-F SpecParam Spec → List (Option Spec)
before os x = taken_layer x ++ os

taken_as_said : (qs : List Param) → taken_in qs ≡ taken_said (map taken_by qs)
taken_as_said [] = refl
taken_as_said (param.Value i s ∷ qs) = taken_as_said qs ∙ sym (ap (before (taken_said (map taken_by qs))) (says_value s))
taken_as_said (param.Location i s ∷ qs) = taken_as_said qs ∙ sym (ap (before (taken_said (map taken_by qs))) (says_location s))
taken_as_said (param.Array i s ∷ qs) = taken_as_said qs ∙ sym (ap (before (taken_said (map taken_by qs))) (says_array s))
taken_as_said (param.Table i n ∷ qs) = taken_as_said qs ∙ sym (ap (before (taken_said (map taken_by qs))) (says_table n))
taken_as_said (param.Label k ∷ qs) = ap (λ os. None ∷ os) (taken_as_said qs) ∙ sym (ap (before (taken_said (map taken_by qs))) says_label)
taken_as_said (param.Switch k ∷ qs) = ap (λ os. None ∷ os) (taken_as_said qs) ∙ sym (ap (before (taken_said (map taken_by qs))) says_switch)
taken_as_said (param.Proc k s ∷ qs) = ap (λ os. Some s ∷ os) (taken_as_said qs) ∙ sym (ap (before (taken_said (map taken_by qs))) (says_procedure s))

one_said : (p : RawPs) → taken_layer (out-SpecParam (taken p)) ≡ one_wanted p
one_said (ps.Plain (inner.Value at t)) = ap taken_layer (says_value (types.scale_of t))
one_said (ps.Plain (inner.Location at t)) = ap taken_layer (says_location (types.scale_of t))
one_said (ps.Plain (inner.Array t)) = ap taken_layer (says_array (types.scale_of t))
one_said (ps.Plain (inner.Table at s)) = ap taken_layer (says_table (types.width_of s))
one_said (ps.Plain (inner.Label at)) = ap taken_layer says_label
one_said (ps.Plain (inner.Switch at)) = ap taken_layer says_switch
one_said (ps.Proc answer at params) = ap taken_layer (says_procedure (plain_spec answer params))

wanted_as_said : (params : List RawPs) → taken_said (each_taken params) ≡ wanted params
wanted_as_said [] = refl
wanted_as_said (p ∷ more) = ap₂ (λ xs ys. xs ++ ys) (one_said p) (wanted_as_said more)

-- a procedure that is specified so takes what is wanted
pub taken_of_spec : (x : Proc) (answer : Option RawType) (params : List RawPs) → spec_of x ≡ types.spec_of answer params → taken_in x.params ≡ wanted params
taken_of_spec x answer params e = taken_as_said x.params ∙ ap (λ (s : Spec). taken_said (out-Spec s).params) e ∙ wanted_as_said params

-- ---- the specification of a procedure that is declared

map_append : {A B : Type 0} (f : A → B) (xs ys : List A) → map f (xs ++ ys) ≡ map f xs ++ map f ys
map_append f [] ys = refl
map_append f (x ∷ xs) ys = ap (λ zs. f x ∷ zs) (map_append f xs ys)

taken_append : (xs ys : List RawPs) → each_taken (xs ++ ys) ≡ each_taken xs ++ each_taken ys
taken_append [] ys = refl
taken_append (x ∷ xs) ys = ap (λ zs. taken x ∷ zs) (taken_append xs ys)

module _ (numbers : Numbers) where
  values : (at : Position) (t : RawType) (all ns : List RawName) → map taken_by (each_param numbers (raw.Value at t all) ns) ≡ each_taken (same_for (inner.Value at t) ns)
  values at t all [] = refl
  values at t all (n ∷ ns) = ap (λ xs. takes.Value (types.scale_of t) ∷ xs) (values at t all ns)

  locations : (at : Position) (t : RawType) (all ns : List RawName) → map taken_by (each_param numbers (raw.Location at t all) ns) ≡ each_taken (same_for (inner.Location at t) ns)
  locations at t all [] = refl
  locations at t all (n ∷ ns) = ap (λ xs. takes.Location (types.scale_of t) ∷ xs) (locations at t all ns)

  arrays : (t : RawType) (all ns : List RawName) → map taken_by (each_param numbers (raw.Array t all) ns) ≡ each_taken (same_for (inner.Array t) ns)
  arrays t all [] = refl
  arrays t all (n ∷ ns) = ap (λ xs. takes.Array (types.scale_of t) ∷ xs) (arrays t all ns)

  labels : (at : Position) (all ns : List RawName) → map taken_by (each_param numbers (raw.Label at all) ns) ≡ each_taken (same_for (inner.Label at) ns)
  labels at all [] = refl
  labels at all (n ∷ ns) = ap (λ xs. takes.Label ∷ xs) (labels at all ns)

  switches : (at : Position) (all ns : List RawName) → map taken_by (each_param numbers (raw.Switch at all) ns) ≡ each_taken (same_for (inner.Switch at) ns)
  switches at all [] = refl
  switches at all (n ∷ ns) = ap (λ xs. takes.Switch ∷ xs) (switches at all ns)

  one_param : (p : RawParam) → map taken_by (params_in numbers p) ≡ each_taken (flat p)
  one_param (raw.Value at t ns) = values at t ns ns
  one_param (raw.Location at t ns) = locations at t ns ns
  one_param (raw.Array t ns) = arrays t ns ns
  one_param (raw.Label at ns) = labels at ns ns
  one_param (raw.Switch at ns) = switches at ns ns
  one_param _ = refl

  all_params : (params : List RawParam) → map taken_by (params_of numbers params) ≡ each_taken (flattened params)
  all_params [] = refl
  all_params (p ∷ more) =
      map_append taken_by (params_in numbers p) (params_of numbers more) ∙ ap₂ (λ xs ys. xs ++ ys) (one_param p) (all_params more) ∙ sym (taken_append (flat p) (flattened more))

  pub declared_spec : (named : Named) (p : RawProc) → spec_of (proc_of named numbers p) ≡ types.spec_of (out-RawProc p).answer (flattened (out-RawProc p).params)
  declared_spec named p = ap (λ (xs : List SpecParam). spec_with (answer_of (out-RawProc p).answer) xs) (all_params (out-RawProc p).params)
    where
      spec_with : Option Scale → List SpecParam → Spec
      spec_with answer params = record { answer = answer; params = params }

-- ---- control parameters, each with its number, and its specification if it takes a procedure

abbrev pub controls_listed : List Param → List (ℕ × Option Spec)
controls_listed [] = []
controls_listed (param.Label k ∷ qs) = (k, None) ∷ controls_listed qs
controls_listed (param.Switch k ∷ qs) = (k, None) ∷ controls_listed qs
controls_listed (param.Proc k s ∷ qs) = (k, Some s) ∷ controls_listed qs
controls_listed (_ ∷ qs) = controls_listed qs

pub numbered_from : (qs : List Param) (n : ℕ) → ((i k : ℕ) (o : Option Spec) → slice_get (controls_listed qs) i ≡ Some (k, o) → k ≡ n + i) → AreNumbered n qs
numbered_from [] n h = tt
numbered_from (param.Value i s ∷ qs) n h = numbered_from qs n h
numbered_from (param.Location i s ∷ qs) n h = numbered_from qs n h
numbered_from (param.Array i s ∷ qs) n h = numbered_from qs n h
numbered_from (param.Table i m ∷ qs) n h = numbered_from qs n h
numbered_from (param.Label k ∷ qs) n h =
    let first = h 0 k None refl in
    (omega (arith, first), numbered_from qs (n + 1) (λ i j o e. let next = h (suc i) j o e in omega (arith, next)))
numbered_from (param.Switch k ∷ qs) n h =
    let first = h 0 k None refl in
    (omega (arith, first), numbered_from qs (n + 1) (λ i j o e. let next = h (suc i) j o e in omega (arith, next)))
numbered_from (param.Proc k s ∷ qs) n h =
    let first = h 0 k (Some s) refl in
    (omega (arith, first), numbered_from qs (n + 1) (λ i j o e. let next = h (suc i) j o e in omega (arith, next)))

other : (k j : ℕ) (s : Spec) (qs : List Param) → (j ≡ k → ⊥) → spec_in k (param.Proc j s ∷ qs) ≡ spec_in k qs
other k j s qs h = ap (λ (b : Bool). if b then Some s else spec_in k qs) (ne_eqb j k h)

none_below : (qs : List Param) (n k : ℕ) → AreNumbered n qs → k < n → spec_in k qs ≡ None
none_below [] n k h low = refl
none_below (param.Value i s ∷ qs) n k h low = none_below qs n k h low
none_below (param.Location i s ∷ qs) n k h low = none_below qs n k h low
none_below (param.Array i s ∷ qs) n k h low = none_below qs n k h low
none_below (param.Table i m ∷ qs) n k h low = none_below qs n k h low
none_below (param.Label j ∷ qs) n k h low = none_below qs (n + 1) k h.1 (omega (arith, low))
none_below (param.Switch j ∷ qs) n k h low = none_below qs (n + 1) k h.1 (omega (arith, low))
none_below (param.Proc j s ∷ qs) n k h low = other k j s qs (λ same. omega (arith, low, same, h.0)) ∙ none_below qs (n + 1) k h.1 (omega (arith, low))

-- the specification of a control parameter is that of its number
pub spec_at : (qs : List Param) (n i k : ℕ) (x : ℕ × Option Spec) → k ≡ n + i → AreNumbered n qs → slice_get (controls_listed qs) i ≡ Some x → spec_in k qs ≡ x.1
spec_at [] n i k x e h t = absurd (none-some x t)
spec_at (param.Value j s ∷ qs) n i k x e h t = spec_at qs n i k x e h t
spec_at (param.Location j s ∷ qs) n i k x e h t = spec_at qs n i k x e h t
spec_at (param.Array j s ∷ qs) n i k x e h t = spec_at qs n i k x e h t
spec_at (param.Table j m ∷ qs) n i k x e h t = spec_at qs n i k x e h t
spec_at (param.Label j ∷ qs) n zero k x e h t = none_below qs (n + 1) k h.1 (omega (arith, e)) ∙ ap (λ (y : ℕ × Option Spec). y.1) (same_Some (j, None) x t)
spec_at (param.Label j ∷ qs) n (suc i) k x e h t = spec_at qs (n + 1) i k x (omega (arith, e)) h.1 t
spec_at (param.Switch j ∷ qs) n zero k x e h t = none_below qs (n + 1) k h.1 (omega (arith, e)) ∙ ap (λ (y : ℕ × Option Spec). y.1) (same_Some (j, None) x t)
spec_at (param.Switch j ∷ qs) n (suc i) k x e h t = spec_at qs (n + 1) i k x (omega (arith, e)) h.1 t
spec_at (param.Proc j s ∷ qs) n zero k x e h t =
    let same : j ≡ k = omega (arith, e, h.0) in
    ap (λ (m : ℕ). if nat_eq m k then Some s else spec_in k qs) same ∙ ap (λ (b : Bool). if b then Some s else spec_in k qs) (eq-eqb k k refl) ∙ ap (λ (y : ℕ × Option Spec). y.1) (same_Some (j, Some s) x t)
spec_at (param.Proc j s ∷ qs) n (suc i) k x e h t = other k j s qs (λ same. omega (arith, e, h.0, same)) ∙ spec_at qs (n + 1) i k x (omega (arith, e)) h.1 t
