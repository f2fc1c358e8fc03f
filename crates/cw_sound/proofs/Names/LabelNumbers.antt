-- The labels of a text, beside their declarations: each has the procedure in whose body it is declared.
use Rattle.std.proofs.Common.{◌≡◌, ℕ, List, [], ◌∷◌, ◌++◌, map, cond, Option, refl, sym, subst}
use Rattle.cw_facts.specs.declared.fact.Fact.{Fact, Fact-F, map-Fact}
use Rattle.cw_facts.specs.declared.fact.Fact.TheOpen as layer
use Rattle.cw_facts.specs.declared.fact.Declaration.{Declaration}
use Rattle.cw_facts.specs.declared.fact.Kind.{Kind as NameKind}
use Rattle.cw_facts.specs.declared.fact.Kind.TheVariants as kind
use Rattle.cw_scope.specs.NameRules.{is_own_label}
use Rattle.cw_make_items.specs.Lookup.{Numbers, line_of}
use Rattle.cw_make.specs.Labels.{Labels, proc_within, declared_label, labels_step, fact_labels, facts_labels}
use Rattle.cw_unit.specs.declared.unit.Label.{Label}
use Rattle.cw_sound.specs.Uses.Mentions.{Here, here, declares, Mentions, mentions_step, fact_mentions, facts_mentions}
use Rattle.cw_sound.proofs.Names.Picking.{pick, pick_append, Zip, zip_both}
use Rattle.cw_sound.proofs.Names.Sorts.{of_kind}
use Rattle.cw_sound.proofs.Names.FactFolds.{RelatedLayer, each_related}

-- the label of a declaration
abbrev pub LabelOf : Here → Label → Type 0
LabelOf m l = l.proc ≡ m.who

module _ (numbers : Numbers) where
  abbrev HasLabels : Mentions → Labels → Type 0
  HasLabels ms ls = (q : Option ℕ) → Zip LabelOf (pick (of_kind is_own_label) (ms q)) (ls q)

  abbrev FactHasLabels : Fact → Type 0
  FactHasLabels f = HasLabels (fact_mentions numbers f) (fact_labels numbers f)

  -- one behind the other
  pub more_labels : (xs ys : List Here) (vs bs : List Label) → Zip LabelOf (pick (of_kind is_own_label) xs) vs → Zip LabelOf (pick (of_kind is_own_label) ys) bs → Zip LabelOf (pick (of_kind is_own_label) (xs ++ ys)) (vs ++ bs)
  more_labels xs ys vs bs h k = subst (λ ms. Zip LabelOf ms (vs ++ bs)) (sym (pick_append (of_kind is_own_label) xs ys)) (zip_both LabelOf (pick (of_kind is_own_label) xs) (pick (of_kind is_own_label) ys) vs bs h k)

  all_labels : (es : List ((f : Fact) × FactHasLabels f)) (q : Option ℕ) → let fs : List Fact = map (λ e. e.0) es in Zip LabelOf (pick (of_kind is_own_label) (facts_mentions numbers fs q)) (facts_labels numbers fs q)
  all_labels [] q = tt
  all_labels (e ∷ es) q =
      let fs : List Fact = map (λ z. z.0) es in
      more_labels (fact_mentions numbers e.0 q) (facts_mentions numbers fs q) (fact_labels numbers e.0 q) (facts_labels numbers fs q) (e.1 q) (all_labels es q)

  of_declaration : (q : Option ℕ) (d : Declaration) (line : ℕ) (k : NameKind) → Zip LabelOf (cond (is_own_label k) (here q (declares d) ∷ []) []) (declared_label k line q)
  of_declaration q d line kind.Label = (refl, tt)
  of_declaration q d line _ = tt

  has_labels : (y : Fact-F ((f : Fact) × FactHasLabels f)) → RelatedLayer (mentions_step numbers) (labels_step numbers) HasLabels (map-Fact ((f : Fact) × FactHasLabels f) Fact (λ e. e.0) y)
  has_labels (layer.Declares d) q = of_declaration q d (line_of d.name.at) d.kind
  has_labels (layer.Block owner es) q = all_labels es (proc_within numbers owner q)
  has_labels _ q = tt

  fact_has_labels : (f : Fact) → FactHasLabels f
  fact_has_labels = each_related (mentions_step numbers) (labels_step numbers) HasLabels has_labels

  pub facts_have_labels : (fs : List Fact) (q : Option ℕ) → Zip LabelOf (pick (of_kind is_own_label) (facts_mentions numbers fs q)) (facts_labels numbers fs q)
  facts_have_labels [] q = tt
  facts_have_labels (f ∷ fs) q = more_labels (fact_mentions numbers f q) (facts_mentions numbers fs q) (fact_labels numbers f q) (facts_labels numbers fs q) (fact_has_labels f q) (facts_have_labels fs q)
