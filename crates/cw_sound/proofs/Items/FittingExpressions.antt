-- The strings of expressions are held in their things.
use Rattle.std.proofs.Common.{◌≡◌, ℕ, List, [], ◌∷◌, ◌++◌, length, sym, ap, subst, ◌∙◌, Option}
use Rattle.cw_tree.specs.declared.leaf.Position.{Position}
use Rattle.cw_tree.specs.declared.expression.RawExpr.{RawExpr}
use Rattle.cw_tree.specs.declared.expression.RawRef.{RawRef}
use Rattle.cw_tree.specs.declared.expression.RawCond.{RawCond}
use Rattle.cw_facts.specs.declared.fact.Fact.{Fact, Fact-F, out-Fact}
use Rattle.cw_facts.specs.declared.fact.Fact.TheVariants as fact
use Rattle.cw_facts.specs.declared.fact.Fact.TheViews.{out-roll-Fact}
use Rattle.cw_facts.specs.declared.fact.Fact.TheOpen as open_fact
use Rattle.cw_facts.specs.declared.fact.Reading.{Reading}
use Rattle.cw_items.specs.declared.thing.Owner.{Owner}
use Rattle.cw_items.specs.Things.{fact_texts, texts}
use Rattle.cw_facts.specs.Uses.{Uses, argument_uses, expression_uses, reference_uses, condition_uses}
use Rattle.cw_preset.specs.Strings.{Rows, string_words, argument_rows, expression_rows, reference_rows, condition_rows}
use Rattle.cw_sound.proofs.Items.Fitting.{RowsFit, fit-texts, text-fits}
use Rattle.cw_sound.proofs.Expressions.Facts.{FactRules, expression_facts, reference_facts, condition_facts, argument_facts}

abbrev pub Fit : Uses → Rows → Type 0
Fit u rows = (o : Option Owner) (r : Reading) → RowsFit (texts o (u r)) rows

text-row : (o : Option Owner) (at : Position) (cs : List ℕ) → RowsFit (texts o (fact.Text at (length cs) ∷ [])) (record { token = at.token; item = string_words cs } ∷ [])
text-row o at cs =
    let is : out-Fact (fact.Text at (length cs)) ≡ open_fact.Text at (length cs) = ap out-Fact (sym (fact.rolls-Text at (length cs))) ∙ out-roll-Fact (open_fact.Text at (length cs)) in
    subst (λ (y : Fact-F Fact). RowsFit (fact_texts o y ++ []) (record { token = at.token; item = string_words cs } ∷ [])) (sym is) (text-fits o at cs)

abbrev FitOf : Option Owner → List Fact → Rows → Type 0
FitOf o a rows = RowsFit (texts o a) rows

fitting : (o : Option Owner) → FactRules (FitOf o)
fitting o = record { nothing = tt; both = fit-texts o; used = λ n f. tt; text = text-row o }

pub expression_fits : (x : RawExpr) → Fit (expression_uses x) (expression_rows x)
expression_fits x o = expression_facts (FitOf o) (fitting o) x

pub reference_fits : (x : RawRef) → Fit (reference_uses x) (reference_rows x)
reference_fits x o = reference_facts (FitOf o) (fitting o) x

pub condition_fits : (x : RawCond) → Fit (condition_uses x) (condition_rows x)
condition_fits x o = condition_facts (FitOf o) (fitting o) x

pub arguments_fit : (es : List RawExpr) (o : Option Owner) → RowsFit (texts o (argument_uses es)) (argument_rows es)
arguments_fit es o = argument_facts (FitOf o) (fitting o) es
