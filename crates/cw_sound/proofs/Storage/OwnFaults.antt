-- The definitions in the outermost block of a text without faults.
use Rattle.std.proofs.Common.{◌≡◌, ◌⊎◌, inl, inr, List, [], ◌∷◌, ◌++◌, map, None, refl, sym, ap, ap₂, subst, ◌∙◌}
use Rattle.cw_table.specs.declared.table.Row.{Row}
use Rattle.cw_facts.specs.declared.fact.Fact.{Fact, Fact-F, map-Fact, out-Fact, fold_out-Fact}
use Rattle.cw_facts.specs.declared.fact.Fact.TheFolds.{fold-roll-Fact}
use Rattle.cw_facts.specs.declared.fact.Fact.TheOpen as layer
use Rattle.cw_facts.specs.declared.fact.Fact.TheVariants as fact
use Rattle.cw_facts.specs.declared.fact.Declaration.{Declaration}
use Rattle.cw_facts.specs.declared.fact.Signature.{Signature}
use Rattle.cw_scope.specs.Scope.{declared_in}
use Rattle.cw_scope.specs.NameRules.{Said, said, said_step, all_declared as all_said}
use Rattle.cw_scope.specs.Definitions.{Defined, defined, defined_step, each_own, each_listed, definition_faults}
use Rattle.cw_make.specs.Definitions.{declared_by, all_declared}
use Rattle.cw_sound.specs.Uses.Mentions.{In}
use Rattle.cw_sound.proofs.Names.Lists.{in_either}
use Rattle.cw_sound.proofs.Names.NoFaults.{Keeps, keeps_fine, keeps_both, parts, definition_keeps, definitions_keep}

-- ---- what a block declares itself

same_layer : (y : Fact-F Fact) → declared_by y ≡ (said_step (map-Fact Fact Said said y)).declared
same_layer (layer.Declares d) = refl
same_layer _ = refl

same_fact : (f : Fact) → declared_by (out-Fact f) ≡ (said f).declared
same_fact f = same_layer (out-Fact f) ∙ ap (λ (s : Said). s.declared) (sym (fold_out-Fact Said said_step f))

pub same_declared : (fs : List Fact) → all_declared fs ≡ all_said (map said fs)
same_declared [] = refl
same_declared (f ∷ fs) = ap₂ (λ a b. a ++ b) (same_fact f) (same_declared fs)

-- ---- each of its declarations is without a fault

either : {A B C : Type 0} → A ⊎ B → (A → C) → (B → C) → C
either (inl x) h k = h x
either (inr y) h k = k y

module _ (sigs : List (Row Signature)) (cs : List Declaration) where
  layer_keeps : (y : Fact-F (Defined sigs)) → Keeps ((defined_step sigs y).own cs)
  layer_keeps (layer.Declares d) = definition_keeps sigs (declared_in cs d.name.name) d
  layer_keeps _ = keeps_fine

  abbrev opened : Fact → Fact-F (Defined sigs)
  opened f = map-Fact Fact (Defined sigs) (defined sigs) (out-Fact f)

  by_layer : (f : Fact) → defined sigs f ≡ defined_step sigs (opened f)
  by_layer f = fold_out-Fact (Defined sigs) (defined_step sigs) f

  own_keep : (fs : List Fact) → Keeps (each_own sigs cs (map (defined sigs) fs))
  own_keep [] = keeps_fine
  own_keep (f ∷ fs) =
      keeps_both ((defined sigs f).own cs) (each_own sigs cs (map (defined sigs) fs)) (subst (λ (x : Defined sigs). Keeps (x.own cs)) (sym (by_layer f)) (layer_keeps (opened f))) (own_keep fs)

  abbrev pub Fine : Declaration → Type 0
  Fine d = definition_faults sigs (declared_in cs d.name.name) d None ≡ None

  layer_fine : (y : Fact-F Fact) (d : Declaration) → In d (declared_by y) → (defined_step sigs (map-Fact Fact (Defined sigs) (defined sigs) y)).own cs None ≡ None → Fine d
  layer_fine (layer.Declares c) d (inl e) f = subst Fine e f
  layer_fine (layer.Declares c) d (inr h) f = absurd h
  layer_fine _ d h f = absurd h

  own_fine : (fs : List Fact) (d : Declaration) → In d (all_declared fs) → each_own sigs cs (map (defined sigs) fs) None ≡ None → Fine d
  own_fine [] d h e = absurd h
  own_fine (f ∷ fs) d h e =
      let both = parts ((defined sigs f).own cs) (each_own sigs cs (map (defined sigs) fs)) (own_keep fs) e in
      either (in_either d (declared_by (out-Fact f)) (all_declared fs) h)
      (λ i. layer_fine (out-Fact f) d i (subst (λ (x : Defined sigs). x.own cs None ≡ None) (by_layer f) both.0)) (λ i. own_fine fs d i both.1)

  listed_fine : (fs : List Fact) (f : Fact) → In f fs → each_listed sigs cs (map (defined sigs) fs) None ≡ None → (defined sigs f).listed cs None ≡ None
  listed_fine [] f h e = absurd h
  listed_fine (x ∷ fs) f h e =
      let both = parts ((defined sigs x).listed cs) (each_listed sigs cs (map (defined sigs) fs)) (definitions_keep sigs fs cs) e in
      either h (λ is. subst (λ y. (defined sigs y).listed cs None ≡ None) is both.0) (λ i. listed_fine fs f i both.1)

  -- of a block among the facts of a text
  pub block_fine : (facts fs : List Fact) → In (fact.Block None fs) facts → each_listed sigs cs (map (defined sigs) facts) None ≡ None → (d : Declaration) → In d (all_declared fs) → Fine d
  block_fine facts fs i e d h =
      let is : defined sigs (fact.Block None fs) ≡ defined_step sigs (layer.Block None (map (defined sigs) fs)) = ap (defined sigs) (sym (fact.rolls-Block None fs)) ∙ fold-roll-Fact (Defined sigs) (defined_step sigs) (layer.Block None fs) in
      own_fine fs d h (subst (λ (x : Defined sigs). x.listed cs None ≡ None) is (listed_fine facts (fact.Block None fs) i e))
