-- Facts whose names break no rule, where they stand: what that says of their parts, and of the base of an overlay.
use Rattle.std.proofs.Common.{◌≡◌, ℕ, List, [], ◌∷◌, ◌++◌, map, Bool, true, false, ◌&&◌, not, Option, Some, None, refl, sym, ap, subst, ◌∙◌, append_assoc}
use Rattle.cw_table.specs.declared.table.Row.{Row}
use Rattle.cw_table.specs.Rows.{item_at}
use Rattle.cw_tree.specs.declared.leaf.RawName.{RawName}
use Rattle.cw_facts.specs.declared.fact.Fact.{Fact}
use Rattle.cw_facts.specs.declared.fact.Fact.TheFolds.{fold-roll-Fact}
use Rattle.cw_facts.specs.declared.fact.Fact.TheOpen as layer
use Rattle.cw_facts.specs.declared.fact.Fact.TheVariants as fact
use Rattle.cw_facts.specs.declared.fact.Declaration.{Declaration}
use Rattle.cw_facts.specs.declared.fact.Form.TheVariants as form
use Rattle.cw_facts.specs.declared.fact.Use.{Use}
use Rattle.cw_facts.specs.Uses.{uses_of}
use Rattle.cw_scope.specs.declared.fault.Fault.{Fault}
use Rattle.cw_scope.specs.declared.fault.Rule.{Rule}
use Rattle.cw_scope.specs.declared.fault.Rule.TheVariants as rule
use Rattle.cw_scope.specs.declared.resolve.Named.{Named}
use Rattle.cw_scope.specs.Faults.{unless}
use Rattle.cw_scope.specs.Scope.{Environment, declared_in, or_else, declaration_of}
use Rattle.cw_scope.specs.NameRules.{Said, said, said_step, all_faults, all_resolved, within, use_faults, resolutions, is_data}
use Rattle.cw_sound.specs.Items.Derived.{IsRising, fact_tokens, facts_tokens, tokens_step, Plain, all_plain, plain_within, plain_step, is_plain}
use Rattle.cw_sound.proofs.Expressions.Truth.{first_true, second_true}
use Rattle.cw_sound.proofs.Items.Lists.{each-left, each-right, rising-left, rising-right}
use Rattle.cw_sound.proofs.Names.NoFaults.{facts_keep}
use Rattle.cw_sound.proofs.Items.Says.{tokens-append}
use Rattle.cw_macro.specs.Premises.{Each}

pub is-false : (b : Bool) → not b ≡ true → b ≡ false
is-false true e = absurd cc
is-false false e = refl

some-none : {A : Type 0} (x : A) → Some x ≡ None → ⊥
some-none x e = absurd cc

-- by whether it is in a procedure
abbrev pub inside_of : (owner : Option ℕ) → Bool → Bool
inside_of None inside = inside
inside_of (Some token) inside = true

module _ (named : Named) where
  abbrev pub IsResolved : Row ℕ → Type 0
  IsResolved r = item_at named.uses r.token ≡ Some r.item

  pub record Sound (env : Environment) (inside : Bool) (facts : List Fact) : Type 0 where
    pub faults : all_faults env (map said facts) None ≡ None
    pub resolved : Each IsResolved (all_resolved env (map said facts))
    pub plain : all_plain (map is_plain facts) inside ≡ true
    pub first : ℕ
    pub rising : IsRising first (facts_tokens facts)

  faults-append : (env : Environment) (a b : List Fact) (o : Option Fault) → all_faults env (map said (a ++ b)) o ≡ all_faults env (map said b) (all_faults env (map said a) o)
  faults-append env [] b o = refl
  faults-append env (f ∷ a) b o = faults-append env a b ((said f).faults env o)

  resolved-append : (env : Environment) (a b : List Fact) → all_resolved env (map said (a ++ b)) ≡ all_resolved env (map said a) ++ all_resolved env (map said b)
  resolved-append env [] b = refl
  resolved-append env (f ∷ a) b = ap (λ rs. (said f).resolved env ++ rs) (resolved-append env a b) ∙ sym (append_assoc ((said f).resolved env) (all_resolved env (map said a)) (all_resolved env (map said b)))

  plain-parts : (a b : List Fact) (inside : Bool) → all_plain (map is_plain (a ++ b)) inside ≡ true → (all_plain (map is_plain a) inside ≡ true) × (all_plain (map is_plain b) inside ≡ true)
  plain-parts [] b inside e = (refl, e)
  plain-parts (f ∷ a) b inside e =
      let one = first_true (is_plain f inside) (all_plain (map is_plain (a ++ b)) inside) e in
      let rest = plain-parts a b inside (second_true (is_plain f inside) (all_plain (map is_plain (a ++ b)) inside) e) in
      (ap (λ x. x && all_plain (map is_plain a) inside) one ∙ rest.0, rest.1)

  pub sound-parts : (env : Environment) (inside : Bool) (a b : List Fact) → Sound env inside (a ++ b) → Sound env inside a × Sound env inside b
  sound-parts env inside a b s =
      let e : all_faults env (map said b) (all_faults env (map said a) None) ≡ None = sym (faults-append env a b None) ∙ s.faults in
      let z : all_faults env (map said a) None ≡ None = facts_keep b env (all_faults env (map said a) None) e in
      let r : Each IsResolved (all_resolved env (map said a) ++ all_resolved env (map said b)) = subst (Each IsResolved) (resolved-append env a b) s.resolved in
      let t : IsRising s.first (facts_tokens a ++ facts_tokens b) = subst (IsRising s.first) (tokens-append a b) s.rising in
      let p = plain-parts a b inside s.plain in (
        record { faults = z; resolved = each-left IsResolved (all_resolved env (map said a)) (all_resolved env (map said b)) r; plain = p.0; first = s.first; rising = rising-left s.first (facts_tokens a) (facts_tokens b) t },
        record { faults = ap (all_faults env (map said b)) (sym z) ∙ e; resolved = each-right IsResolved (all_resolved env (map said a)) (all_resolved env (map said b)) r; plain = p.1; first = s.first; rising = rising-right s.first (facts_tokens a) (facts_tokens b) t },
      )

  -- ---- a block

  said-block : (owner : Option ℕ) (xs : List Fact) → said (fact.Block owner xs) ≡ said_step (layer.Block owner (map said xs))
  said-block owner xs = ap said (sym (fact.rolls-Block owner xs)) ∙ fold-roll-Fact Said said_step (layer.Block owner xs)

  plain-block : (owner : Option ℕ) (xs : List Fact) → is_plain (fact.Block owner xs) ≡ plain_step (layer.Block owner (map is_plain xs))
  plain-block owner xs = ap is_plain (sym (fact.rolls-Block owner xs)) ∙ fold-roll-Fact Plain plain_step (layer.Block owner xs)

  tokens-block : (owner : Option ℕ) (xs : List Fact) → fact_tokens (fact.Block owner xs) ≡ facts_tokens xs
  tokens-block owner xs = ap fact_tokens (sym (fact.rolls-Block owner xs)) ∙ fold-roll-Fact (List ℕ) tokens_step (layer.Block owner xs)

  plain-inside : (owner : Option ℕ) (xs : List Fact) (inside : Bool) → plain_within owner (all_plain (map is_plain xs)) inside ≡ true → all_plain (map is_plain xs) (inside_of owner inside) ≡ true
  plain-inside None xs inside e = e
  plain-inside (Some token) xs inside e = second_true (not inside) (all_plain (map is_plain xs) true) e

  block-plain : (env : Environment) (inside : Bool) (owner : Option ℕ) (xs : List Fact) → Sound env inside (fact.Block owner xs ∷ []) → plain_within owner (all_plain (map is_plain xs)) inside ≡ true
  block-plain env inside owner xs s = sym (ap (λ (p : Plain). p inside) (plain-block owner xs)) ∙ first_true (is_plain (fact.Block owner xs) inside) true s.plain

  pub sound-inside : (env : Environment) (inside : Bool) (owner : Option ℕ) (xs : List Fact) → Sound env inside (fact.Block owner xs ∷ []) → Sound (within env (map said xs)) (inside_of owner inside) xs
  sound-inside env inside owner xs s =
      let r : Each IsResolved ((said (fact.Block owner xs)).resolved env) = each-left IsResolved ((said (fact.Block owner xs)).resolved env) [] s.resolved in
      record {
        faults = sym (ap (λ (x : Said). x.faults env None) (said-block owner xs)) ∙ s.faults;
        resolved = subst (λ (x : Said). Each IsResolved (x.resolved env)) (said-block owner xs) r;
        plain = plain-inside owner xs inside (block-plain env inside owner xs s);
        first = s.first;
        rising = subst (IsRising s.first) (tokens-block owner xs) (rising-left s.first (fact_tokens (fact.Block owner xs)) [] s.rising);
      }

  -- a procedure is in no other
  pub not-nested : (env : Environment) (inside : Bool) (token : ℕ) (xs : List Fact) → Sound env inside (fact.Block (Some token) xs ∷ []) → inside ≡ false
  not-nested env inside token xs s = is-false inside (first_true (not inside) (all_plain (map is_plain xs) true) (block-plain env inside (Some token) xs s))

  -- ---- a base

  said-uses : (u : Use) → said (fact.Uses u) ≡ said_step (layer.Uses u)
  said-uses u = ap said (sym (fact.rolls-Uses u)) ∙ fold-roll-Fact Said said_step (layer.Uses u)

  abbrev pub BaseFound : Environment → RawName → Type 0
  BaseFound env n = (d : Declaration) × (declaration_of env n.name ≡ Some d) × (is_data d.kind ≡ true) × (item_at named.uses n.at.token ≡ Some d.name.at.token)

  fits-when : (b : Bool) (r : Rule) (n : RawName) → unless b r n None ≡ None → b ≡ true
  fits-when true r n e = refl
  fits-when false r n e = absurd (some-none (record { rule = r; name = n }) e)

  of-declaration : (env : Environment) (n : RawName) (o : Option Declaration) → declaration_of env n.name ≡ o → use_faults o (record { name = n; form = form.Base }) None ≡ None → Each IsResolved (resolutions o (record { name = n; form = form.Base })) → BaseFound env n
  of-declaration env n None e f r = absurd (some-none (record { rule = rule.Undeclared; name = n }) f)
  of-declaration env n (Some d) e f r = (d, e, fits-when (is_data d.kind) rule.WrongKind n f, r.0)

  pub base-found : (env : Environment) (inside : Bool) (n : RawName) → Sound env inside (uses_of n form.Base) → BaseFound env n
  base-found env inside n s =
      let u : Use = record { name = n; form = form.Base } in
      let r : Each IsResolved ((said (fact.Uses u)).resolved env) = each-left IsResolved ((said (fact.Uses u)).resolved env) [] s.resolved in
      of-declaration env n (declaration_of env n.name) refl
      (sym (ap (λ (x : Said). x.faults env None) (said-uses u)) ∙ s.faults)
      (subst (λ (x : Said). Each IsResolved (x.resolved env)) (said-uses u) r)

-- ---- environments

or-else-none : (o : Option Declaration) → or_else o None ≡ o
or-else-none None = refl
or-else-none (Some d) = refl

-- what the innermost block declares comes first
pub in-block : (env : Environment) (block : List Declaration) (n : List ℕ) → declaration_of (env ++ block ∷ []) n ≡ or_else (declared_in block n) (declaration_of env n)
in-block [] block n = sym (or-else-none (declared_in block n))
in-block (outer ∷ env) block n = ap (λ o. or_else o (declared_in outer n)) (in-block env block n) ∙ grouped (declared_in block n) (declaration_of env n) (declared_in outer n)
  where
    grouped : (a b c : Option Declaration) → or_else (or_else a b) c ≡ or_else a (or_else b c)
    grouped None b c = refl
    grouped (Some d) b c = refl
