-- Facts that stand, one after another.
use Rattle.std.proofs.Common.{inl, inr, ℕ, List, [], ◌∷◌, ◌++◌, Option, refl, sym, ap, subst, ◌∙◌}
use Rattle.cw_tree.specs.declared.leaf.RawName.{RawName}
use Rattle.cw_tree.specs.declared.leaf.Position.{Position}
use Rattle.cw_facts.specs.declared.fact.Fact.{Fact}
use Rattle.cw_facts.specs.declared.fact.Fact.TheFolds.{fold-roll-Fact}
use Rattle.cw_facts.specs.declared.fact.Fact.TheVariants as fact
use Rattle.cw_facts.specs.declared.fact.Fact.TheOpen as layer
use Rattle.cw_facts.specs.declared.fact.Form.{Form}
use Rattle.cw_facts.specs.declared.fact.Use.{Use}
use Rattle.cw_facts.specs.Uses.{uses_of}
use Rattle.cw_scope.specs.declared.resolve.Named.{Named}
use Rattle.cw_table.specs.Rows.{item_at}
use Rattle.cw_make.specs.Labels.{proc_within}
use Rattle.cw_make_expr.specs.Parts.{Numbers}
use Rattle.cw_unit.specs.declared.unit.Unit.{Unit as SourceUnit}
use Rattle.cw_sound.specs.Uses.Mentions.{In, uses, stores, Here, here, Mentions, mentions_step, fact_mentions, facts_mentions}
use Rattle.cw_sound.specs.Uses.Stands.{Stands, IsItem, FactsStand}
use Rattle.cw_sound.proofs.Names.Lists.{in_left, in_right, in_either}

module _ (named : Named) (numbers : Numbers) (u : SourceUnit) (who : Option ℕ) where
  abbrev pub of_all : List Fact → List Here
  of_all fs = facts_mentions numbers fs who

  pub all_left : (m : Here) (fs gs : List Fact) → In m (of_all fs) → In m (of_all (fs ++ gs))
  all_left m [] gs h = absurd h
  all_left m (f ∷ fs) gs h = elim (in_either m (fact_mentions numbers f who) (of_all fs) h) [
    | inl k ↦ in_left m (fact_mentions numbers f who) (of_all (fs ++ gs)) k
    | inr k ↦ in_right m (fact_mentions numbers f who) (of_all (fs ++ gs)) (all_left m fs gs k)
  ]

  pub all_right : (m : Here) (fs gs : List Fact) → In m (of_all gs) → In m (of_all (fs ++ gs))
  all_right m [] gs h = h
  all_right m (f ∷ fs) gs h = in_right m (fact_mentions numbers f who) (of_all (fs ++ gs)) (all_right m fs gs h)

  pub split : (fs gs : List Fact) → FactsStand named numbers u (fs ++ gs) who → FactsStand named numbers u fs who × FactsStand named numbers u gs who
  split fs gs h = (λ m k. h m (all_left m fs gs k), λ m k. h m (all_right m fs gs k))

  -- one fact alone
  pub use_is_in : (n : RawName) (f : Form) → In (here who (uses (record { name = n; form = f }))) (of_all (uses_of n f))
  use_is_in n f =
      let x : Use = record { name = n; form = f } in
      let told = ap (fact_mentions numbers) (sym (fact.rolls-Uses x)) ∙ fold-roll-Fact Mentions (mentions_step numbers) (layer.Uses x) in
      subst (λ (ms : Mentions). In (here who (uses x)) (ms who ++ [])) (sym told) (inl refl)

  pub use_stands : (n : RawName) (f : Form) → FactsStand named numbers u (uses_of n f) who → Stands named numbers u who (record { name = n; form = f })
  use_stands n f h = h (here who (uses (record { name = n; form = f }))) (use_is_in n f)

  pub text_stands : (at : Position) (k : ℕ) → FactsStand named numbers u (fact.Text at k ∷ []) who → IsItem named numbers u who 1 (item_at numbers at.token)
  text_stands at k h =
      let m : Here = here who (stores at.token 1) in
      let told = ap (fact_mentions numbers) (sym (fact.rolls-Text at k)) ∙ fold-roll-Fact Mentions (mentions_step numbers) (layer.Text at k) in
      h m (subst (λ (ms : Mentions). In m (ms who ++ [])) (sym told) (inl refl))

  pub loop_stands : (at : Position) → FactsStand named numbers u (fact.Loop at ∷ []) who → IsItem named numbers u who 4 (item_at numbers at.token)
  loop_stands at h =
      let m : Here = here who (stores at.token 4) in
      let told = ap (fact_mentions numbers) (sym (fact.rolls-Loop at)) ∙ fold-roll-Fact Mentions (mentions_step numbers) (layer.Loop at) in
      h m (subst (λ (ms : Mentions). In m (ms who ++ [])) (sym told) (inl refl))

  -- what is in a block stands in the procedure whose body it is, or where the block does
  pub owned_is_in : (m : Here) (owner : Option ℕ) (fs : List Fact) → In m (facts_mentions numbers fs (proc_within numbers owner who)) → In m (of_all (fact.Block owner fs ∷ []))
  owned_is_in m owner fs h =
      let told = ap (fact_mentions numbers) (sym (fact.rolls-Block owner fs)) ∙ fold-roll-Fact Mentions (mentions_step numbers) (layer.Block owner fs) in
      subst (λ (ms : Mentions). In m (ms who ++ [])) (sym told) (in_left m (facts_mentions numbers fs (proc_within numbers owner who)) [] h)
