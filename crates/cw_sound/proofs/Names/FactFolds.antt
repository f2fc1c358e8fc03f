-- What two folds over facts make of each fact is related, where it is so of each first layer.
use Rattle.std.proofs.Common.{◌≡◌, sym, subst, subst₂}
use Rattle.cw_facts.specs.declared.fact.Fact.{Fact, Fact-F, fold-Fact}
use Rattle.cw_facts.specs.declared.fact.Fact.TheFolds.{map-Fact, fold-roll-Fact, ind-Fact}

module _ {A B : Type 0} (first : Fact-F A → A) (second : Fact-F B → B) (R : A → B → Type 0) where
  abbrev pub Related : Fact → Type 0
  Related f = R (fold-Fact A first f) (fold-Fact B second f)

  abbrev pub RelatedLayer : Fact-F Fact → Type 0
  RelatedLayer x = R (first (map-Fact Fact A (fold-Fact A first) x)) (second (map-Fact Fact B (fold-Fact B second) x))

  pub each_related : ((y : Fact-F ((f : Fact) × Related f)) → RelatedLayer (map-Fact ((f : Fact) × Related f) Fact (λ e. e.0) y)) → (f : Fact) → Related f
  each_related so = ind-Fact Related (λ x y is. subst₂ R (sym (fold-roll-Fact A first x)) (sym (fold-roll-Fact B second x)) (subst RelatedLayer is (so y)))
