-- Each use of a name in a whole text without faults is found.
use Rattle.std.proofs.Common.{◌≡◌, ◌⊎◌, inl, inr, ℕ, List, [], ◌∷◌, ◌++◌, map, false, Option, Some, None, refl, sym, ap, subst, ◌∙◌}
use Rattle.std.specs.declared.result.Result.TheVariants as result
use Rattle.cw_table.specs.declared.table.Row.{Row}
use Rattle.cw_table.specs.Rows.{item_at}
use Rattle.cw_facts.specs.declared.fact.Fact.{Fact}
use Rattle.cw_facts.specs.declared.fact.Declaration.{Declaration}
use Rattle.cw_facts.specs.declared.fact.Use.{Use}
use Rattle.cw_facts.specs.Text.{text_facts}
use Rattle.cw_scope.specs.declared.resolve.Named.{Named}
use Rattle.cw_scope.specs.Outcome.{Resolves}
use Rattle.cw_scope.specs.Scope.{Environment}
use Rattle.cw_scope.specs.NameRules.{said, all_declared, within, name_faults}
use Rattle.cw_scope.specs.Definitions.{definitions_judged}
use Rattle.cw_scope.specs.Resolved.{text_signatures}
use Rattle.cw_make_items.specs.Lookup.{Numbers}
use Rattle.cw_sound.specs.Uses.Mentions.{In, Here, here, declares, uses, facts_mentions, text_mentions}
use Rattle.cw_sound.specs.Names.Placed.{Placed, tokens, Differ}
use Rattle.cw_sound.specs.Names.Found.{Found, UsesFound}
use Rattle.cw_sound.proofs.Names.NoFaults.{parts, definitions_keep}
use Rattle.cw_sound.proofs.Names.FoundRows.{found}
use Rattle.cw_sound.proofs.Names.Rows.{row, in_rows, facts_rows, facts_used}
use Rattle.cw_sound.proofs.Names.Nearness.{AllNear}
use Rattle.cw_sound.proofs.Names.Resolving.{Resolved, block_mentioned, facts_resolve}

module _ (named : Named) (resolves : Resolves named.raw.now (result.Ok named)) (placed : Placed named.raw.now) where
  abbrev facts : List Fact
  facts = text_facts named.raw.now

  abbrev outermost : Environment
  outermost = within [] (map said facts)

  pub no_faults : (name_faults facts None ≡ None) × (definitions_judged facts None ≡ None)
  no_faults = parts (name_faults facts) (definitions_judged facts) (definitions_keep (text_signatures facts) facts (all_declared (map said facts))) resolves.0

  refers : (x : Use) (t : ℕ) → In (record { token = x.name.at.token; item = t }) named.uses → item_at named.uses x.name.at.token ≡ Some t
  refers x t h = found named.uses (record { token = x.name.at.token; item = t }) (subst Differ (sym (ap tokens resolves.2 ∙ facts_used facts outermost no_faults.0)) placed.uses) h

  module _ (numbers : Numbers) where
    pub is_declared : (owner : Option ℕ) (d : Declaration) → In (here owner (declares d)) (text_mentions numbers named.raw.now) → item_at named.declarations d.name.at.token ≡ Some d
    is_declared owner d h =
        found named.declarations (row d) (subst (λ rs. Differ (tokens rs)) (sym resolves.3) placed.declarations)
        (subst (In (row d)) (facts_rows numbers facts None ∙ sym resolves.3) (in_rows owner d (facts_mentions numbers facts None) h))

    near : AllNear (text_mentions numbers named.raw.now) None outermost
    near = (λ d i. record { owner = None; is_declared = block_mentioned numbers facts None d i; is_near = inl refl }, tt)

    pub uses_found : UsesFound named numbers
    uses_found who x h =
        let r : Resolved numbers (text_mentions numbers named.raw.now) named.uses who x =
        facts_resolve numbers (text_mentions numbers named.raw.now) named.uses facts outermost None false no_faults.0 (λ y i. subst (In y) (sym resolves.2) i) (λ m i. i) near placed.apart (λ e. refl) (here who (uses x)) h in
        record {
          owner = r.near.owner;
          declaration = r.declaration;
          is_declared = r.near.is_declared;
          is_near = r.near.is_near;
          refers = (refers x r.declaration.name.at.token r.row, is_declared r.near.owner r.declaration r.near.is_declared);
          fits_use = r.fits_use;
        }
