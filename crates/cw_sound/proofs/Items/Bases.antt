-- Things on their bases, and what is overlaid where names are known.
use Rattle.std.proofs.Common.{◌≡◌, ℕ, ◌<◌, List, [], ◌∷◌, ◌++◌, map, Bool, true, false, ◌&&◌, cond, nat_lt, Option, Some, None, is_some, refl, sym, ap, subst, ◌∙◌, ◌⊎◌, inl, inr, arith}
use Rattle.std.proofs.lemmas.Bool.Decides.{nat_tests}
use Rattle.std.proofs.lemmas.Option.{none-some, same_Some}
use Rattle.cw_table.specs.declared.table.Row.{Row}
use Rattle.cw_table.specs.Rows.{item_at}
use Rattle.cw_tree.specs.declared.leaf.RawName.{RawName}
use Rattle.cw_tree.specs.declared.items.RawBase.{RawBase}
use Rattle.cw_tree.specs.declared.items.RawGroup.{RawGroup}
use Rattle.cw_tree.specs.declared.items.RawData.{RawData}
use Rattle.cw_tree.specs.declared.items.RawData.TheVariants as items
use Rattle.cw_tree.specs.declared.statement.RawFelem.{RawFelem}
use Rattle.cw_tree.specs.declared.statement.RawFelem.TheVariants as felem
use Rattle.cw_tree.specs.declared.statement.RawParam.{RawParam}
use Rattle.cw_tree.specs.declared.statement.RawParam.TheVariants as param
use Rattle.cw_facts.specs.declared.fact.Declaration.{Declaration}
use Rattle.cw_facts.specs.declared.fact.Fact.{Fact, Fact-F, out-Fact}
use Rattle.cw_facts.specs.declared.fact.Fact.TheOpen as layer
use Rattle.cw_facts.specs.declared.fact.Form.TheVariants as form
use Rattle.cw_facts.specs.declared.fact.Reading.TheVariants as reading
use Rattle.cw_facts.specs.Uses.{expression_uses, condition_uses}
use Rattle.cw_facts.specs.Facts.{base_name, base_facts, data_facts}
use Rattle.cw_scope.specs.declared.resolve.Named.{Named}
use Rattle.cw_scope.specs.Scope.{Environment, has_name, declared_in, or_else, declaration_of}
use Rattle.cw_scope.specs.NameRules.{said, within, is_data}
use Rattle.cw_scale.specs.declared.fault.Rule.TheVariants as rule
use Rattle.cw_scale.specs.Faults.{unless}
use Rattle.cw_scale.specs.Kinds.{kind_of}
use Rattle.cw_data.specs.Overlays.{indexes_judged, stands_before, can_be_laid_on, base_judged}
use Rattle.cw_items.specs.declared.families.Site.{Site}
use Rattle.cw_items.specs.declared.thing.Base.{Base}
use Rattle.cw_items.specs.declared.thing.Owner.{Owner}
use Rattle.cw_items.specs.declared.thing.Sort.TheVariants as sort
use Rattle.cw_items.specs.declared.thing.Thing.{Thing}
use Rattle.cw_items.specs.Things.{amount_or_none, moved, moved_past, named_things, group_words, groups_things, data_things, parameter_things, parameters_things, fact_texts, texts, felem_things, felems_things, base_at}
use Rattle.cw_judge.specs.Declarations.{declared_judged, overlaid_judged}
use Rattle.cw_sound.specs.Items.Derived.{IsRising, facts_tokens}
use Rattle.cw_sound.proofs.Items.Lists.{In, each-append, from-in, each-in, within-in, stands-before}
use Rattle.cw_sound.proofs.Items.Numbering.{token_of_thing, tokens_of_things}
use Rattle.cw_sound.proofs.Items.Says.{declared, tokens-append, tokens-uses}
use Rattle.cw_sound.proofs.Items.Sound.{Sound, sound-parts, base-found, in-block}
use Rattle.cw_sound.proofs.Items.Stores.{Stores, stores-data}
use Rattle.cw_sound.proofs.Items.Keeping.{keeps_declared}
use Rattle.cw_sound.proofs.Expressions.Judging.{keeps_unless, both_free, holds}
use Rattle.cw_macro.specs.Premises.{Each}

-- ---- what has no base, and what has a certain one

-- a base at this token, or none
abbrev pub SameBase : Option Base → Option Base → Type 0
SameBase None x = x ≡ None
SameBase (Some b) x = (c : Base) × (x ≡ Some c) × (c.token ≡ b.token)

abbrev pub OfData : Option Owner → Option Base → Thing → Type 0
OfData o b t = (t.owner ≡ o) × (t.sort ≡ sort.Named) × SameBase b t.base

same-base : (b : Option Base) → SameBase b b
same-base None = refl
same-base (Some b) = (b, refl, refl)

same-moved : (a b : Option Base) (w : ℕ) → SameBase a b → SameBase a (moved w b)
same-moved None b w h = ap (moved w) h
same-moved (Some a) b w h = (_, ap (moved w) h.1, h.2)

same-past : (a b : Option Base) (w : ℕ) (ns : List RawName) → SameBase a b → SameBase a (moved_past w ns b)
same-past a b w [] h = h
same-past a b w (n ∷ ns) h = same-past a (moved w b) w ns (same-moved a b w h)

of-named : (o : Option Owner) (a b : Option Base) (w : ℕ) (ns : List RawName) → SameBase a b → Each (OfData o a) (named_things o w b ns)
of-named o a b w [] h = tt
of-named o a b w (n ∷ ns) h = ((refl, refl, h), of-named o a (moved w b) w ns (same-moved a b w h))

of-groups : (o : Option Owner) (a b : Option Base) (gs : List RawGroup) → SameBase a b → Each (OfData o a) (groups_things o b gs)
of-groups o a b [] h = tt
of-groups o a b (g ∷ gs) h =
    each-append (OfData o a) (named_things o (group_words g) b g.names) (groups_things o (moved_past (group_words g) g.names b) gs) (of-named o a b (group_words g) g.names h)
    (of-groups o a (moved_past (group_words g) g.names b) gs (same-past a b (group_words g) g.names h))

pub of-data : (o : Option Owner) (b : Option Base) (d : RawData) → Each (OfData o b) (data_things o b d)
of-data o b (items.Singles t ns presets) = of-named o b b 1 ns (same-base b)
of-data o b (items.Arrays t gs presets) = of-groups o b b gs (same-base b)
of-data o b (items.Table t inside behind) = ((refl, refl, same-base b), tt)

module _ (all : List Thing) where
  -- a thing before it that its bodies may name
  pub record OnBase (t : Thing) (b : Base) : Type 0 where
    pub base : Thing
    pub there : In base all
    pub at_token : base.at.token ≡ b.token
    pub lower : b.token < t.at.token
    pub owner : (base.owner ≡ None) ⊎ (base.owner ≡ t.owner)
    pub base_named : base.sort ≡ sort.Named
    pub is_named : t.sort ≡ sort.Named

  abbrev pub HasBase : Thing → Type 0
  HasBase t = (b : Base) → t.base ≡ Some b → OnBase t b

  abbrev pub HasBases : List Thing → Type 0
  HasBases ts = Each HasBase ts

  baseless : (o : Option Owner) (ts : List Thing) → Each (OfData o None) ts → HasBases ts
  baseless o [] h = tt
  baseless o (t ∷ ts) h = ((λ b e. absurd (none-some b (sym h.0.2 ∙ e))), baseless o ts h.1)

  pub data-baseless : (o : Option Owner) (d : RawData) → HasBases (data_things o None d)
  data-baseless o d = baseless o (data_things o None d) (of-data o None d)

  parameter-baseless : (o : Option Owner) (p : RawParam) → HasBases (parameter_things o p)
  parameter-baseless o (param.Value at t ns) = baseless o (named_things o 1 None ns) (of-named o None None 1 ns refl)
  parameter-baseless o (param.Location at t ns) = baseless o (named_things o 1 None ns) (of-named o None None 1 ns refl)
  parameter-baseless o (param.Array t ns) = baseless o (named_things o 1 None ns) (of-named o None None 1 ns refl)
  parameter-baseless o (param.Table t) = ((λ b e. absurd (none-some b e)), tt)
  parameter-baseless o _ = tt

  pub parameters-baseless : (o : Option Owner) (ps : List RawParam) → HasBases (parameters_things o ps)
  parameters-baseless o [] = tt
  parameters-baseless o (p ∷ ps) = each-append HasBase (parameter_things o p) (parameters_things o ps) (parameter-baseless o p) (parameters-baseless o ps)

  fact-baseless : (o : Option Owner) (y : Fact-F Fact) → HasBases (fact_texts o y)
  fact-baseless o (layer.Text at n) = ((λ b e. absurd (none-some b e)), tt)
  fact-baseless o _ = tt

  pub texts-baseless : (o : Option Owner) (fs : List Fact) → HasBases (texts o fs)
  texts-baseless o [] = tt
  texts-baseless o (f ∷ fs) = each-append HasBase (fact_texts o (out-Fact f)) (texts o fs) (fact-baseless o (out-Fact f)) (texts-baseless o fs)

  felem-baseless : (o : Option Owner) (e : RawFelem) → HasBases (felem_things e o)
  felem-baseless o (felem.One e) = texts-baseless o (expression_uses e reading.Value)
  felem-baseless o (felem.While e c) = texts-baseless o (expression_uses e reading.Value ++ condition_uses c reading.Value)
  felem-baseless o (felem.Step a b c) = texts-baseless o (expression_uses a reading.Value ++ (expression_uses b reading.Value ++ expression_uses c reading.Value))

  pub felems-baseless : (o : Option Owner) (es : List RawFelem) → HasBases (felems_things es o)
  felems-baseless o [] = tt
  felems-baseless o (e ∷ es) = each-append HasBase (felem_things e o) (felems_things es o) (felem-baseless o e) (felems-baseless o es)

  -- ---- environments whose items are things

  abbrev pub Seen : Option Owner → Declaration → Type 0
  Seen o d = (s : Thing) × In s all × (s.at.token ≡ d.name.at.token) × ((s.owner ≡ None) ⊎ (s.owner ≡ o)) × (s.sort ≡ sort.Named)

  abbrev pub EnvSeen : Environment → Option Owner → Type 0
  EnvSeen env o = (n : List ℕ) (d : Declaration) → declaration_of env n ≡ Some d → is_data d.kind ≡ true → Seen o d

  pub found-in : (ds : List Declaration) (n : List ℕ) (d : Declaration) → declared_in ds n ≡ Some d → In d ds
  found-in [] n d e = absurd (none-some d e)
  found-in (c ∷ ds) n d e = of-test (has_name n c) e (found-in ds n d)
    where
      of-test : (b : Bool) → cond b (Some c) (declared_in ds n) ≡ Some d → (declared_in ds n ≡ Some d → In d ds) → In d (c ∷ ds)
      of-test true e rest = inl (sym (same_Some c d e))
      of-test false e rest = inr (rest e)

  wider : (o p : Option Owner) (x : Option Owner) → (o ≡ None) ⊎ (o ≡ p) → (x ≡ None) ⊎ (x ≡ o) → (x ≡ None) ⊎ (x ≡ p)
  wider o p x r (inl e) = inl e
  wider o p x (inl r) (inr e) = inl (e ∙ r)
  wider o p x (inr r) (inr e) = inr (e ∙ r)

  -- a block within, of the same owner or of a procedure outside of others
  pub env-inside : (env : Environment) (o p : Option Owner) (facts : List Fact) (ts : List Thing) → (o ≡ None) ⊎ (o ≡ p) → Stores (λ x. Unit {0}) [] p facts ts → ((t : Thing) → In t ts → In t all) → EnvSeen env o → EnvSeen (within env (map said facts)) p
  env-inside env o p facts ts r stores all_in seen n d e k = of-own (declared_in (declared facts) n) refl
    where
      of-own : (x : Option Declaration) → declared_in (declared facts) n ≡ x → Seen p d
      of-own (Some c) f =
          let same : c ≡ d = same_Some c d (sym (in-block env (declared facts) n ∙ ap (λ y. or_else y (declaration_of env n)) f) ∙ e) in
          let t = stores.things_of_data d (subst (λ (y : Declaration). In y (declared facts)) same (found-in (declared facts) n c f)) k in
          (t.0, all_in t.0 t.1, t.2, inr t.3, t.4)
      of-own None f =
          let t = seen n d (sym (in-block env (declared facts) n ∙ ap (λ y. or_else y (declaration_of env n)) f) ∙ e) k in
          (t.0, t.1, t.2, wider o p t.0.owner r t.3, t.4)

  -- ---- an overlay

  pub token-in : (t : Thing) (ts : List Thing) → In t ts → In t.at.token (tokens_of_things ts)
  token-in t [] i = absurd i
  token-in t (s ∷ ts) (inl e) = inl (ap token_of_thing e)
  token-in t (s ∷ ts) (inr i) = inr (token-in t ts i)

  first-true : (a b : Bool) → (a && b) ≡ true → a ≡ true
  first-true true b e = refl
  first-true false b e = absurd cc

  lower-of : (a b : ℕ) → nat_lt a b ≡ true → a < b
  lower-of a b e = grind (arith, nat_tests)

  -- where the base's declaration is, and its token below that of the overlay
  pub on-base : (named : Named) (env : Environment) (o : Option Owner) (b : RawBase) (d : RawData) → Sound named env (is_some o) (base_facts b ++ data_facts d) → EnvSeen env o → base_judged named b None ≡ None
      → HasBases (data_things o (Some (base_at named b)) d)
  on-base named env o b d s seen free =
      let n = base_name b in
      let found = base-found named env (is_some o) n (sound-parts named env (is_some o) (base_facts b) (data_facts d) s).0 in
      let t = seen n.name found.0 found.1 found.2 in
      let h : (stands_before (item_at named.uses n.at.token) n.at.token && can_be_laid_on (kind_of named n) b) ≡ true =
      holds (stands_before (item_at named.uses n.at.token) n.at.token && can_be_laid_on (kind_of named n) b) rule.BadOverlay n.at
      (both_free (indexes_judged b) (unless (stands_before (item_at named.uses n.at.token) n.at.token && can_be_laid_on (kind_of named n) b) rule.BadOverlay n.at)
      (keeps_unless (stands_before (item_at named.uses n.at.token) n.at.token && can_be_laid_on (kind_of named n) b) rule.BadOverlay n.at) free).1 in
      let l : stands_before (item_at named.uses n.at.token) n.at.token ≡ true = first-true (stands_before (item_at named.uses n.at.token) n.at.token) (can_be_laid_on (kind_of named n) b) h in
      let before : found.0.name.at.token < n.at.token = lower-of found.0.name.at.token n.at.token (sym (ap (λ (x : Option ℕ). stands_before x n.at.token) found.3) ∙ l) in
      let rising : IsRising s.first ((n.at.token ∷ []) ++ facts_tokens (data_facts d)) = subst (IsRising s.first) (tokens-append (base_facts b) (data_facts d) ∙ ap (λ (ts : List ℕ). ts ++ facts_tokens (data_facts d)) (tokens-uses n form.Base)) s.rising in
      let token : (base_at named b).token ≡ found.0.name.at.token = ap amount_or_none found.3 in
      from-in HasBase (data_things o (Some (base_at named b)) d) (λ x i c e.
      let of : OfData o (Some (base_at named b)) x = each-in (OfData o (Some (base_at named b))) (data_things o (Some (base_at named b)) d) (of-data o (Some (base_at named b)) d) x i in
      let same : of.2.0 ≡ c = same_Some of.2.0 c (sym of.2.1 ∙ e) in
      let at : c.token ≡ found.0.name.at.token = sym (ap (λ (y : Base). y.token) same) ∙ of.2.2 ∙ token in
      let inside : In x.at.token (facts_tokens (data_facts d)) = within-in x.at.token (stores-data (λ y. Unit {0}) [] o (Some (base_at named b)) d).tokens (token-in x (data_things o (Some (base_at named b)) d) i) in
      let later : n.at.token < x.at.token = stands-before s.first (n.at.token ∷ []) (facts_tokens (data_facts d)) n.at.token x.at.token rising (inl refl) inside in
      record {
        base = t.0;
        there = t.1;
        at_token = t.2 ∙ sym at;
        lower = omega (arith, at, before, later);
        owner = elim t.3 [ inl none ↦ inl none | inr own ↦ inr (own ∙ sym of.0) ];
        base_named = t.4;
        is_named = of.1;
      })

  pub overlay-based : (named : Named) (sites : List (Row Site)) (env : Environment) (o : Option Owner) (b : RawBase) (d : RawData) → Sound named env (is_some o) (base_facts b ++ data_facts d) → EnvSeen env o → overlaid_judged named sites b d None ≡ None
      → HasBases (data_things o (Some (base_at named b)) d)
  unfolding overlaid_judged
  overlay-based named sites env o b d s seen free = on-base named env o b d s seen (both_free (base_judged named b) (declared_judged sites d) (keeps_declared sites d) free).0
