-- Each use of a name in a text without faults refers to a declaration that is near and allows it.
use Rattle.std.proofs.Common.{◌≡◌, ◌⊎◌, inl, inr, ℕ, List, [], ◌∷◌, ◌++◌, map, Bool, true, false, IsTrue, ◌&&◌, not, Option, Some, None, refl, sym, ap, subst}
use Rattle.cw_table.specs.declared.table.Row.{Row}
use Rattle.cw_facts.specs.declared.fact.Fact.{Fact, Fact-F, map-Fact, roll-Fact}
use Rattle.cw_facts.specs.declared.fact.Fact.TheFolds.{fold-roll-Fact, ind-Fact}
use Rattle.cw_facts.specs.declared.fact.Fact.TheOpen as layer
use Rattle.cw_facts.specs.declared.fact.Declaration.{Declaration}
use Rattle.cw_facts.specs.declared.fact.Use.{Use}
use Rattle.cw_scope.specs.declared.fault.Rule.TheVariants as rule
use Rattle.cw_scope.specs.Scope.{Environment, declaration_of}
use Rattle.cw_scope.specs.NameRules.{Said, said, said_step, all_declared, all_faults, all_resolved, within, fits, use_faults, resolutions}
use Rattle.cw_make_items.specs.Lookup.{Numbers}
use Rattle.cw_make.specs.Labels.{proc_within}
use Rattle.cw_sound.specs.Uses.Mentions.{In, Mention, Here, here, declares, uses, stores, Mentions, mentions_step, fact_mentions, facts_mentions}
use Rattle.cw_sound.specs.Names.Placed.{all_so, apart_step, fact_apart}
use Rattle.cw_sound.proofs.Names.Lists.{in_left, in_right, in_either, Sub, sub_left, sub_right}
use Rattle.cw_sound.proofs.Names.NoFaults.{parts, holds, facts_keep}
use Rattle.cw_sound.proofs.Names.Nearness.{Near, BlockNear, AllNear, near_within, near_inwards, near_found}

no_use_fault : (o : Option Declaration) (x : Use) → use_faults o x None ≡ None → (d : Declaration) × (o ≡ Some d) × IsTrue (fits x.form d.kind)
no_use_fault None x e = absurd (cc)
no_use_fault (Some d) x e = (d, refl, holds (fits x.form d.kind) rule.WrongKind x.name e)

both_true : (a b : Bool) → IsTrue (a && b) → IsTrue a × IsTrue b
both_true true b h = (refl, h)
both_true false b h = absurd (cc)

is_outside : (b : Bool) → IsTrue (not b) → b ≡ false
is_outside false h = refl
is_outside true h = absurd (cc)

-- ---- what a block declares is mentioned in it

module _ (numbers : Numbers) where
  abbrev Mentioned : Said → Mentions → Type 0
  Mentioned s ms = (q : Option ℕ) (d : Declaration) → In d s.declared → In (here q (declares d)) (ms q)

  mentioned : (x : Fact-F Fact) → Mentioned (said_step (map-Fact Fact Said said x)) (mentions_step numbers (map-Fact Fact Mentions (fact_mentions numbers) x))
  mentioned (layer.Declares c) q d (inl e) = inl (ap (λ y. here q (declares y)) e)
  mentioned (layer.Declares c) q d (inr h) = absurd h
  mentioned _ q d h = absurd h

  fact_mentioned : (f : Fact) → Mentioned (said f) (fact_mentions numbers f)
  fact_mentioned = ind-Fact (λ f. Mentioned (said f) (fact_mentions numbers f)) (λ x y is.
      subst (λ s. Mentioned s (fact_mentions numbers (roll-Fact x))) (sym (fold-roll-Fact Said said_step x))
      (subst (Mentioned (said_step (map-Fact Fact Said said x))) (sym (fold-roll-Fact Mentions (mentions_step numbers) x)) (mentioned x)))

  pub block_mentioned : (facts : List Fact) (q : Option ℕ) (d : Declaration) → In d (all_declared (map said facts)) → In (here q (declares d)) (facts_mentions numbers facts q)
  block_mentioned [] q d h = absurd h
  block_mentioned (f ∷ fs) q d h = by_side (block_mentioned fs q d) (in_either d (said f).declared (all_declared (map said fs)) h)
    where
      by_side : (In d (all_declared (map said fs)) → In (here q (declares d)) (facts_mentions numbers fs q)) → In d (said f).declared ⊎ In d (all_declared (map said fs)) → In (here q (declares d)) (fact_mentions numbers f q ++ facts_mentions numbers fs q)
      by_side rest (inl k) = in_left (here q (declares d)) (fact_mentions numbers f q) (facts_mentions numbers fs q) (fact_mentioned f q d k)
      by_side rest (inr k) = in_right (here q (declares d)) (fact_mentions numbers f q) (facts_mentions numbers fs q) (rest k)

  -- ---- uses

  module _ (all : List Here) (rows : List (Row ℕ)) where
    pub record Resolved (q : Option ℕ) (x : Use) : Type 0 where
      pub declaration : Declaration
      pub near : Near all q declaration
      pub row : In (record { token = x.name.at.token; item = declaration.name.at.token }) rows
      pub fits_use : IsTrue (fits x.form declaration.kind)

    abbrev pub MentionResolved : Option ℕ → Mention → Type 0
    MentionResolved q (declares d) = Unit {0}
    MentionResolved q (uses x) = Resolved q x
    MentionResolved q (stores token n) = Unit {0}

    abbrev pub HereResolved : Here → Type 0
    HereResolved h = MentionResolved h.who h.mention

    abbrev Shape : Said → Mentions → (Bool → Bool) → Type 0
    Shape s ms apart =
        (env : Environment) (q : Option ℕ) (inside : Bool) → s.faults env None ≡ None → Sub (s.resolved env) rows → Sub (ms q) all → AllNear all q env
        → IsTrue (apart inside) → (inside ≡ false → q ≡ None) → (m : Here) → In m (ms q) → HereResolved m

    abbrev IsResolved : Fact → Type 0
    IsResolved f = Shape (said f) (fact_mentions numbers f) (fact_apart f)

    -- the same of the facts of a block
    abbrev pub AllResolve : List Fact → Type 0
    AllResolve fs =
        (env : Environment) (q : Option ℕ) (inside : Bool) → all_faults env (map said fs) None ≡ None → Sub (all_resolved env (map said fs)) rows → Sub (facts_mentions numbers fs q) all → AllNear all q env
        → IsTrue (all_so (map fact_apart fs) inside) → (inside ≡ false → q ≡ None) → (m : Here) → In m (facts_mentions numbers fs q) → HereResolved m

    all_resolve : (es : List ((f : Fact) × IsResolved f)) → AllResolve (map (λ e. e.0) es)
    all_resolve [] env q inside none sub all_of near apart outside m h = absurd h
    all_resolve (e ∷ es) env q inside none sub all_of near apart outside m h =
        let fs : List Fact = map (λ z. z.0) es in
        let free = parts ((said e.0).faults env) (all_faults env (map said fs)) (facts_keep fs env) none in
        let so = both_true (fact_apart e.0 inside) (all_so (map fact_apart fs) inside) apart in
        by_side (all_resolve es) free so (in_either m (fact_mentions numbers e.0 q) (facts_mentions numbers fs q) h)
      where
        by_side : AllResolve (map (λ z. z.0) es) → let fs : List Fact = map (λ z. z.0) es in ((said e.0).faults env None ≡ None) × (all_faults env (map said fs) None ≡ None) → IsTrue (fact_apart e.0 inside) × IsTrue (all_so (map fact_apart fs) inside) → In m (fact_mentions numbers e.0 q) ⊎ In m (facts_mentions numbers fs q) → HereResolved m
        by_side rest free so (inl k) =
            let fs : List Fact = map (λ z. z.0) es in
            e.1 env q inside free.0 (sub_left ((said e.0).resolved env) (all_resolved env (map said fs)) rows sub)
            (sub_left (fact_mentions numbers e.0 q) (facts_mentions numbers fs q) all all_of) near so.0 outside m k
        by_side rest free so (inr k) =
            let fs : List Fact = map (λ z. z.0) es in
            rest env q inside free.1 (sub_right ((said e.0).resolved env) (all_resolved env (map said fs)) rows sub)
            (sub_right (fact_mentions numbers e.0 q) (facts_mentions numbers fs q) all all_of) near so.1 outside m k

    used : (env : Environment) (q : Option ℕ) (x : Use) → use_faults (declaration_of env x.name.name) x None ≡ None → Sub (resolutions (declaration_of env x.name.name) x) rows → AllNear all q env → Resolved q x
    used env q x none sub near =
        let d = no_use_fault (declaration_of env x.name.name) x none in
        record {
          declaration = d.0;
          near = near_found all q env x.name.name d.0 near d.1;
          row = subst (λ o. Sub (resolutions o x) rows) d.1 sub (record { token = x.name.at.token; item = d.0.name.at.token }) (inl refl);
          fits_use = d.2;
        }

    resolve : (y : Fact-F ((f : Fact) × IsResolved f)) → let x : Fact-F Fact = map-Fact ((f : Fact) × IsResolved f) Fact (λ e. e.0) y in Shape (said_step (map-Fact Fact Said said x)) (mentions_step numbers (map-Fact Fact Mentions (fact_mentions numbers) x)) (apart_step (map-Fact Fact (Bool → Bool) fact_apart x))
    resolve (layer.Declares d) env q inside none sub all_of near apart outside m (inl e) = subst HereResolved e tt
    resolve (layer.Declares d) env q inside none sub all_of near apart outside m (inr h) = absurd h
    resolve (layer.Uses x) env q inside none sub all_of near apart outside m (inl e) = subst HereResolved e (used env q x none sub near)
    resolve (layer.Uses x) env q inside none sub all_of near apart outside m (inr h) = absurd h
    resolve (layer.Specifies token s) env q inside none sub all_of near apart outside m h = absurd h
    resolve (layer.Loop at) env q inside none sub all_of near apart outside m (inl e) = subst HereResolved e tt
    resolve (layer.Loop at) env q inside none sub all_of near apart outside m (inr h) = absurd h
    resolve (layer.Text at n) env q inside none sub all_of near apart outside m (inl e) = subst HereResolved e tt
    resolve (layer.Text at n) env q inside none sub all_of near apart outside m (inr h) = absurd h
    resolve (layer.Block None es) env q inside none sub all_of near apart outside m h =
        let fs : List Fact = map (λ z. z.0) es in
        let own : BlockNear all q (all_declared (map said fs)) = λ d i. record { owner = q; is_declared = all_of (here q (declares d)) (block_mentioned fs q d i); is_near = inl refl } in
        all_resolve es (within env (map said fs)) q inside none sub all_of (near_within all q env (all_declared (map said fs)) near own) apart outside m h
    resolve (layer.Block (Some token) es) env q inside none sub all_of near apart outside m h =
        let fs : List Fact = map (λ z. z.0) es in
        let p : Option ℕ = proc_within numbers (Some token) q in
        let so = both_true (not inside) (all_so (map fact_apart fs) true) apart in
        let own : BlockNear all p (all_declared (map said fs)) = λ d i. record { owner = p; is_declared = all_of (here p (declares d)) (block_mentioned fs p d i); is_near = inl refl } in
        all_resolve es (within env (map said fs)) p true none sub all_of (near_within all p env (all_declared (map said fs)) (near_inwards all q p env (outside (is_outside inside so.0)) near) own) so.1 (λ e. absurd (cc)) m h

    fact_resolve : (f : Fact) → IsResolved f
    fact_resolve = ind-Fact IsResolved (λ x y is.
        let at : Shape (said_step (map-Fact Fact Said said x)) (mentions_step numbers (map-Fact Fact Mentions (fact_mentions numbers) x)) (apart_step (map-Fact Fact (Bool → Bool) fact_apart x)) =
        subst (λ z. Shape (said_step (map-Fact Fact Said said z)) (mentions_step numbers (map-Fact Fact Mentions (fact_mentions numbers) z)) (apart_step (map-Fact Fact (Bool → Bool) fact_apart z))) is (resolve y) in
        subst (λ s. Shape s (fact_mentions numbers (roll-Fact x)) (fact_apart (roll-Fact x))) (sym (fold-roll-Fact Said said_step x))
        (subst (λ ms. Shape (said_step (map-Fact Fact Said said x)) ms (fact_apart (roll-Fact x))) (sym (fold-roll-Fact Mentions (mentions_step numbers) x))
        (subst (Shape (said_step (map-Fact Fact Said said x)) (mentions_step numbers (map-Fact Fact Mentions (fact_mentions numbers) x))) (sym (fold-roll-Fact (Bool → Bool) apart_step x)) at)))

    paired : (facts : List Fact) → map (λ (e : (f : Fact) × IsResolved f). e.0) (map (λ f. (f, fact_resolve f)) facts) ≡ facts
    paired [] = refl
    paired (f ∷ fs) = ap (λ ys. f ∷ ys) (paired fs)

    pub facts_resolve : (facts : List Fact) → AllResolve facts
    facts_resolve facts = subst AllResolve (paired facts) (all_resolve (map (λ f. (f, fact_resolve f)) facts))
