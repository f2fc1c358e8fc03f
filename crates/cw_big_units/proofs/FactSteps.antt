-- A fold of facts, form by form.
use Rattle.std.proofs.Common.{◌≡◌, ℕ, List, map, Option, sym, ap, ◌∙◌}
use Rattle.cw_tree.specs.declared.leaf.Position.{Position}
use Rattle.cw_facts.specs.declared.fact.Fact.{Fact, Fact-F}
use Rattle.cw_facts.specs.declared.fact.Fact.TheFolds.{fold-Fact, fold-roll-Fact}
use Rattle.cw_facts.specs.declared.fact.Fact.TheOpen as layer
use Rattle.cw_facts.specs.declared.fact.Fact.TheVariants as fact
use Rattle.cw_facts.specs.declared.fact.Declaration.{Declaration}
use Rattle.cw_facts.specs.declared.fact.Use.{Use}
use Rattle.cw_facts.specs.declared.fact.Signature.{Signature}

module _ (A : Type 0) (step : Fact-F A → A) where
  pub declares-step : (d : Declaration) → fold-Fact A step (fact.Declares d) ≡ step (layer.Declares d)
  declares-step d = ap (fold-Fact A step) (sym (fact.rolls-Declares d)) ∙ fold-roll-Fact A step (layer.Declares d)

  pub uses-step : (u : Use) → fold-Fact A step (fact.Uses u) ≡ step (layer.Uses u)
  uses-step u = ap (fold-Fact A step) (sym (fact.rolls-Uses u)) ∙ fold-roll-Fact A step (layer.Uses u)

  pub specifies-step : (token : ℕ) (s : Signature) → fold-Fact A step (fact.Specifies token s) ≡ step (layer.Specifies token s)
  specifies-step token s = ap (fold-Fact A step) (sym (fact.rolls-Specifies token s)) ∙ fold-roll-Fact A step (layer.Specifies token s)

  pub loop-step : (at : Position) → fold-Fact A step (fact.Loop at) ≡ step (layer.Loop at)
  loop-step at = ap (fold-Fact A step) (sym (fact.rolls-Loop at)) ∙ fold-roll-Fact A step (layer.Loop at)

  pub block-step : (owner : Option ℕ) (facts : List Fact) → fold-Fact A step (fact.Block owner facts) ≡ step (layer.Block owner (map (fold-Fact A step) facts))
  block-step owner facts = ap (fold-Fact A step) (sym (fact.rolls-Block owner facts)) ∙ fold-roll-Fact A step (layer.Block owner facts)
