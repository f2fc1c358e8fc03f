-- The control parameters of a procedure, beside their declarations.
use Rattle.std.proofs.Common.{◌≡◌, inl, ℕ, List, [], ◌∷◌, ◌++◌, map, Bool, true, false, cond, Option, refl, sym, ap, ap₂, subst, subst₂, ◌∙◌}
use Rattle.std.specs.List.{filter}
use Rattle.std.proofs.lemmas.List.Elements.{filter-append}
use Rattle.cw_table.specs.declared.table.Row.{Row}
use Rattle.cw_tree.specs.declared.leaf.RawName.{RawName}
use Rattle.cw_tree.specs.declared.leaf.RawType.{RawType}
use Rattle.cw_tree.specs.declared.leaf.Position.{Position}
use Rattle.cw_tree.specs.declared.items.RawElem.{RawElem}
use Rattle.cw_tree.specs.declared.segment.RawIps.{RawIps}
use Rattle.cw_tree.specs.declared.segment.RawIps.TheVariants as inner
use Rattle.cw_tree.specs.declared.statement.RawParam.{RawParam}
use Rattle.cw_tree.specs.declared.statement.RawParam.TheVariants as raw
use Rattle.cw_facts.specs.declared.fact.Fact.{Fact}
use Rattle.cw_facts.specs.declared.fact.Kind.{Kind as NameKind}
use Rattle.cw_facts.specs.declared.fact.Kind.TheVariants as kind
use Rattle.cw_facts.specs.declared.fact.Signature.{Signature}
use Rattle.cw_facts.specs.Facts.{declares, specifies, each_declares, element_name, elements_facts, table_facts, parameter_facts, parameters_facts}
use Rattle.cw_facts.specs.Signatures.{plain, same_for, flat, flattened}
use Rattle.cw_scope.specs.Resolved.{text_signatures}
use Rattle.cw_make_items.specs.Lookup.{Numbers, control_here}
use Rattle.cw_make_items.specs.Types.{each_plain_taken, plain_taken, plain_spec}
use Rattle.cw_make.specs.Procedures.{each_param, params_in, params_of}
use Rattle.cw_unit.specs.declared.unit.Param.{Param}
use Rattle.cw_unit.specs.declared.unit.Param.TheVariants as param
use Rattle.cw_safety.specs.Kinds.{Kind, WordKind, LabelKind, SwitchKind, ProcedureKind, taken_by, kind_of_param, control_kinds}
use Rattle.cw_sound.specs.Uses.Stands.{taken_by_plain, kind_specified}
use Rattle.cw_sound.specs.Uses.Mentions.{In, Mention, Here, here, declares as declared, uses, stores, facts_mentions}
use Rattle.cw_sound.specs.Names.Standing.{is_control}
use Rattle.cw_sound.proofs.Names.Lists.{Sub, sub_left, sub_right}
use Rattle.cw_sound.proofs.Names.Rows.{mentions_append}
use Rattle.cw_sound.proofs.Names.Picking.{pick, pick_append, Zip, zip_both}
use Rattle.cw_sound.proofs.Names.Sorts.{of_kind}
use Rattle.cw_sound.proofs.Names.MentionsOf.{declared_first, specified_first, declared_before, specified_before, signatures_append}

-- ---- what a procedure's parameters take is what they are specified to take

taken_plain : (p : RawIps) → taken_by (plain_taken p) ≡ taken_by_plain p
unfolding Rattle.cw_unit.specs.declared.descriptor.SpecParam.TheViews.out-SpecParam denote.Hole.Carrier.out
taken_plain (inner.Value at t) = refl
taken_plain _ = refl

pub all_taken_plain : (ps : List RawIps) → map taken_by (each_plain_taken ps) ≡ map taken_by_plain ps
all_taken_plain [] = refl
all_taken_plain (p ∷ ps) = ap₂ (λ t ts. t ∷ ts) (taken_plain p) (all_taken_plain ps)

map_append : {A B : Type 0} (f : A → B) (xs ys : List A) → map f (xs ++ ys) ≡ map f xs ++ map f ys
map_append f [] ys = refl
map_append f (x ∷ xs) ys = ap (λ zs. f x ∷ zs) (map_append f xs ys)

-- ---- the parameters that are controls

abbrev pub is_control_param : Param → Bool
is_control_param (param.Label k) = true
is_control_param (param.Switch k) = true
is_control_param (param.Proc k s) = true
is_control_param _ = false

-- what is made of each of them, where it is told parameter by parameter
pub listed_as : {X : Type 0} (f : Param → X) (g : List Param → List X) → g [] ≡ [] → ((x : Param) (xs : List Param) → g (x ∷ xs) ≡ cond (is_control_param x) (f x ∷ g xs) (g xs)) → (xs : List Param) → map f (filter is_control_param xs) ≡ g xs
listed_as f g e h [] = sym e
listed_as f g e h (x ∷ xs) = by_test (listed_as f g e h xs) (is_control_param x) ∙ sym (h x xs)
  where
    by_test : map f (filter is_control_param xs) ≡ g xs → (b : Bool) → map f (cond b (x ∷ filter is_control_param xs) (filter is_control_param xs)) ≡ cond b (f x ∷ g xs) (g xs)
    by_test rest true = ap (λ ys. f x ∷ ys) rest
    by_test rest false = rest

kinds_listed : (xs : List Param) → map kind_of_param (filter is_control_param xs) ≡ control_kinds (map kind_of_param xs)
kinds_listed = listed_as kind_of_param (λ xs. control_kinds (map kind_of_param xs)) refl step
  where
    step : (x : Param) (xs : List Param) → control_kinds (map kind_of_param (x ∷ xs)) ≡ cond (is_control_param x) (kind_of_param x ∷ control_kinds (map kind_of_param xs)) (control_kinds (map kind_of_param xs))
    step (param.Label k) xs = refl
    step (param.Switch k) xs = refl
    step (param.Proc k s) xs = refl
    step _ xs = refl

-- ---- what a declaration gives, by its kind

module _ {X : Type 0} (OfKind : NameKind → (token : ℕ) → X → Type 0) where
  abbrev pub OfMention : Mention → X → Type 0
  OfMention (declared d) x = OfKind d.kind d.name.at.token x
  OfMention (uses y) x = ⊥
  OfMention (stores token n) x = ⊥

  abbrev pub OfHere : Here → X → Type 0
  OfHere m x = OfMention m.mention x

turned : {X Y : Type 0} (R : NameKind → (token : ℕ) → X → Type 0) (S : NameKind → (token : ℕ) → Y → Type 0) (f : X → Y) → ((k : NameKind) (t : ℕ) (x : X) → R k t x → S k t (f x)) → (ms : List Here) (xs : List X) → Zip (OfHere R) ms xs → Zip (OfHere S) ms (map f xs)
turned R S f h [] [] z = tt
turned R S f h [] (x ∷ xs) z = absurd z
turned R S f h (m ∷ ms) [] z = absurd z
turned R S f h (m ∷ ms) (x ∷ xs) z = (by_mention m.mention z.0, turned R S f h ms xs z.1)
  where
    by_mention : (n : Mention) → OfMention R n x → OfMention S n (f x)
    by_mention (declared d) r = h d.kind d.name.at.token x r
    by_mention (uses y) r = absurd r
    by_mention (stores token n) r = absurd r

module _ (numbers : Numbers) where
  value_kinds : (at : Position) (t : RawType) (all ns : List RawName) → map kind_of_param (each_param numbers (raw.Value at t all) ns) ≡ map kind_specified (same_for (inner.Value at t) ns)
  value_kinds at t all [] = refl
  value_kinds at t all (n ∷ ns) = ap (λ ks. WordKind ∷ ks) (value_kinds at t all ns)

  location_kinds : (at : Position) (t : RawType) (all ns : List RawName) → map kind_of_param (each_param numbers (raw.Location at t all) ns) ≡ map kind_specified (same_for (inner.Location at t) ns)
  location_kinds at t all [] = refl
  location_kinds at t all (n ∷ ns) = ap (λ ks. WordKind ∷ ks) (location_kinds at t all ns)

  array_kinds : (t : RawType) (all ns : List RawName) → map kind_of_param (each_param numbers (raw.Array t all) ns) ≡ map kind_specified (same_for (inner.Array t) ns)
  array_kinds t all [] = refl
  array_kinds t all (n ∷ ns) = ap (λ ks. WordKind ∷ ks) (array_kinds t all ns)

  label_kinds : (at : Position) (all ns : List RawName) → map kind_of_param (each_param numbers (raw.Label at all) ns) ≡ map kind_specified (same_for (inner.Label at) ns)
  label_kinds at all [] = refl
  label_kinds at all (n ∷ ns) = ap (λ ks. LabelKind ∷ ks) (label_kinds at all ns)

  switch_kinds : (at : Position) (all ns : List RawName) → map kind_of_param (each_param numbers (raw.Switch at all) ns) ≡ map kind_specified (same_for (inner.Switch at) ns)
  switch_kinds at all [] = refl
  switch_kinds at all (n ∷ ns) = ap (λ ks. SwitchKind ∷ ks) (switch_kinds at all ns)

  one_kinds : (p : RawParam) → map kind_of_param (params_in numbers p) ≡ map kind_specified (flat p)
  one_kinds (raw.Value at t ns) = value_kinds at t ns ns
  one_kinds (raw.Location at t ns) = location_kinds at t ns ns
  one_kinds (raw.Array t ns) = array_kinds t ns ns
  one_kinds (raw.Table t) = refl
  one_kinds (raw.Label at ns) = label_kinds at ns ns
  one_kinds (raw.Switch at ns) = switch_kinds at ns ns
  one_kinds (raw.Proc answer at n ps) = ap (λ ts. ProcedureKind ts ∷ []) (all_taken_plain ps)

  pub kinds_as_specified : (params : List RawParam) → map kind_of_param (params_of numbers params) ≡ map kind_specified (flattened params)
  kinds_as_specified [] = refl
  kinds_as_specified (p ∷ more) =
      map_append kind_of_param (params_in numbers p) (params_of numbers more) ∙ ap₂ (λ a b. a ++ b) (one_kinds p) (kinds_as_specified more)
      ∙ sym (map_append kind_specified (flat p) (flattened more))

  -- ---- control parameters

  abbrev pub control_params : List Param → List Param
  control_params = filter is_control_param

  values_none : (at : Position) (t : RawType) (all ns : List RawName) → control_params (each_param numbers (raw.Value at t all) ns) ≡ []
  values_none at t all [] = refl
  values_none at t all (n ∷ ns) = values_none at t all ns

  locations_none : (at : Position) (t : RawType) (all ns : List RawName) → control_params (each_param numbers (raw.Location at t all) ns) ≡ []
  locations_none at t all [] = refl
  locations_none at t all (n ∷ ns) = locations_none at t all ns

  arrays_none : (t : RawType) (all ns : List RawName) → control_params (each_param numbers (raw.Array t all) ns) ≡ []
  arrays_none t all [] = refl
  arrays_none t all (n ∷ ns) = arrays_none t all ns

  abbrev pub controls : List Here → List Here
  controls = pick (of_kind is_control)

  no_control : (k : NameKind) (n : RawName) (fs : List Fact) (q : Option ℕ) → is_control k ≡ false → controls (facts_mentions numbers fs q) ≡ [] → controls (facts_mentions numbers (declares n k ∷ fs) q) ≡ []
  no_control k n fs q e h =
      ap controls (declared_first numbers n k fs q)
      ∙ ap (λ b. cond b (here q (declared (record { name = n; kind = k })) ∷ controls (facts_mentions numbers fs q)) (controls (facts_mentions numbers fs q))) e ∙ h

  no_controls : (k : NameKind) (ns : List RawName) (q : Option ℕ) → is_control k ≡ false → controls (facts_mentions numbers (each_declares k ns) q) ≡ []
  no_controls k [] q e = refl
  no_controls k (n ∷ ns) q e = no_control k n (each_declares k ns) q e (no_controls k ns q e)

  no_elements : (table : RawName) (es : List RawElem) (q : Option ℕ) → controls (facts_mentions numbers (elements_facts table es) q) ≡ []
  no_elements table [] q = refl
  no_elements table (e ∷ es) q = no_control (kind.Element table e) (element_name e) (elements_facts table es) q refl (no_elements table es q)

  module _ (sigs : List (Row Signature)) where
    -- the parameter that a declaration gives
    abbrev pub ParamOfKind : NameKind → (token : ℕ) → Param → Type 0
    ParamOfKind kind.LabelParam t x = x ≡ param.Label (control_here numbers t)
    ParamOfKind kind.SwitchParam t x = x ≡ param.Switch (control_here numbers t)
    ParamOfKind (kind.ProcParam answer) t x = (params : List RawIps) × (x ≡ param.Proc (control_here numbers t) (plain_spec answer params)) × In (record { token = t; item = record { answer = answer; params = plain params } }) sigs
    ParamOfKind _ t x = ⊥

    -- its kind
    abbrev pub ControlOfKind : NameKind → (token : ℕ) → Kind → Type 0
    ControlOfKind kind.LabelParam t k = k ≡ LabelKind
    ControlOfKind kind.SwitchParam t k = k ≡ SwitchKind
    ControlOfKind (kind.ProcParam answer) t k = (params : List RawIps) × (k ≡ ProcedureKind (map taken_by_plain params)) × In (record { token = t; item = record { answer = answer; params = plain params } }) sigs
    ControlOfKind _ t k = ⊥

    abbrev pub ControlOf : Here → Kind → Type 0
    ControlOf = OfHere ControlOfKind

    abbrev HasControls : List Here → List Param → Type 0
    HasControls ms ps = Zip (OfHere ParamOfKind) (controls ms) (control_params ps)

    labels_named : (at : Position) (all ns : List RawName) (q : Option ℕ) → HasControls (facts_mentions numbers (each_declares kind.LabelParam ns) q) (each_param numbers (raw.Label at all) ns)
    labels_named at all [] q = tt
    labels_named at all (n ∷ ns) q =
        subst (λ ms. HasControls ms (each_param numbers (raw.Label at all) (n ∷ ns))) (sym (declared_first numbers n kind.LabelParam (each_declares kind.LabelParam ns) q))
        (refl, labels_named at all ns q)

    switches_named : (at : Position) (all ns : List RawName) (q : Option ℕ) → HasControls (facts_mentions numbers (each_declares kind.SwitchParam ns) q) (each_param numbers (raw.Switch at all) ns)
    switches_named at all [] q = tt
    switches_named at all (n ∷ ns) q =
        subst (λ ms. HasControls ms (each_param numbers (raw.Switch at all) (n ∷ ns))) (sym (declared_first numbers n kind.SwitchParam (each_declares kind.SwitchParam ns) q))
        (refl, switches_named at all ns q)

    none_here : (ms : List Here) (ps : List Param) → controls ms ≡ [] → control_params ps ≡ [] → HasControls ms ps
    none_here ms ps e f = subst₂ (Zip (OfHere ParamOfKind)) (sym e) (sym f) tt

    one_controls : (p : RawParam) (q : Option ℕ) → Sub (text_signatures (parameter_facts p)) sigs → HasControls (facts_mentions numbers (parameter_facts p) q) (params_in numbers p)
    one_controls (raw.Value at t ns) q sub = none_here (facts_mentions numbers (each_declares (kind.Value t) ns) q) (each_param numbers (raw.Value at t ns) ns) (no_controls (kind.Value t) ns q refl) (values_none at t ns ns)
    one_controls (raw.Location at t ns) q sub = none_here (facts_mentions numbers (each_declares (kind.Location t) ns) q) (each_param numbers (raw.Location at t ns) ns) (no_controls (kind.Location t) ns q refl) (locations_none at t ns ns)
    one_controls (raw.Array t ns) q sub = none_here (facts_mentions numbers (each_declares (kind.ArrayParam t) ns) q) (each_param numbers (raw.Array t ns) ns) (no_controls (kind.ArrayParam t) ns q refl) (arrays_none t ns ns)
    one_controls (raw.Table t) q sub =
        none_here (facts_mentions numbers (table_facts (kind.TableParam t.size) t) q) (params_in numbers (raw.Table t))
        (no_control (kind.TableParam t.size) t.name (elements_facts t.name t.elems) q refl (no_elements t.name t.elems q)) refl
    one_controls (raw.Label at ns) q sub = labels_named at ns ns q
    one_controls (raw.Switch at ns) q sub = switches_named at ns ns q
    one_controls (raw.Proc answer at n params) q sub =
        let same = declared_first numbers n (kind.ProcParam answer) (specifies n.at.token answer (plain params) ∷ []) q
        ∙ ap (λ ms. here q (declared (record { name = n; kind = kind.ProcParam answer })) ∷ ms) (specified_first numbers n.at.token answer (plain params) [] q) in
        let row = subst (In (record { token = n.at.token; item = record { answer = answer; params = plain params } }))
        (sym (declared_before n (kind.ProcParam answer) (specifies n.at.token answer (plain params) ∷ []) ∙ specified_before n.at.token answer (plain params) [])) (inl refl) in
        subst (λ ms. HasControls ms (params_in numbers (raw.Proc answer at n params))) (sym same)
        ((params, refl, sub (record { token = n.at.token; item = record { answer = answer; params = plain params } }) row), tt)

    params_named : (params : List RawParam) (q : Option ℕ) → Sub (text_signatures (parameters_facts params)) sigs → HasControls (facts_mentions numbers (parameters_facts params) q) (params_of numbers params)
    params_named [] q sub = tt
    params_named (p ∷ more) q sub =
        let parts = subst (λ rs. Sub rs sigs) (signatures_append (parameter_facts p) (parameters_facts more)) sub in
        subst₂ (Zip (OfHere ParamOfKind))
        (sym (ap controls (mentions_append numbers (parameter_facts p) (parameters_facts more) q) ∙ pick_append (of_kind is_control) (facts_mentions numbers (parameter_facts p) q) (facts_mentions numbers (parameters_facts more) q)))
        (sym (filter-append is_control_param (params_in numbers p) (params_of numbers more)))
        (zip_both (OfHere ParamOfKind) (controls (facts_mentions numbers (parameter_facts p) q)) (controls (facts_mentions numbers (parameters_facts more) q)) (control_params (params_in numbers p)) (control_params (params_of numbers more))
        (one_controls p q (sub_left (text_signatures (parameter_facts p)) (text_signatures (parameters_facts more)) sigs parts))
        (params_named more q (sub_right (text_signatures (parameter_facts p)) (text_signatures (parameters_facts more)) sigs parts)))

    -- beside what is made of each of them
    pub controls_made : {X : Type 0} (S : NameKind → (token : ℕ) → X → Type 0) (f : Param → X) → ((k : NameKind) (t : ℕ) (x : Param) → ParamOfKind k t x → S k t (f x)) → (params : List RawParam) (q : Option ℕ) → Sub (text_signatures (parameters_facts params)) sigs
        → Zip (OfHere S) (controls (facts_mentions numbers (parameters_facts params) q)) (map f (control_params (params_of numbers params)))
    controls_made S f h params q sub = turned ParamOfKind S f h (controls (facts_mentions numbers (parameters_facts params) q)) (control_params (params_of numbers params)) (params_named params q sub)

    kind_made : (k : NameKind) (t : ℕ) (x : Param) → ParamOfKind k t x → ControlOfKind k t (kind_of_param x)
    kind_made kind.LabelParam t x h = ap kind_of_param h
    kind_made kind.SwitchParam t x h = ap kind_of_param h
    kind_made (kind.ProcParam answer) t x h = (h.0, ap kind_of_param h.1 ∙ ap ProcedureKind (all_taken_plain h.0), h.2)
    kind_made _ t x h = absurd h

    pub all_controls : (params : List RawParam) (q : Option ℕ) → Sub (text_signatures (parameters_facts params)) sigs → Zip ControlOf (controls (facts_mentions numbers (parameters_facts params) q)) (control_kinds (map kind_of_param (params_of numbers params)))
    all_controls params q sub =
        subst (Zip ControlOf (controls (facts_mentions numbers (parameters_facts params) q))) (kinds_listed (params_of numbers params)) (controls_made ControlOfKind kind_of_param kind_made params q sub)
