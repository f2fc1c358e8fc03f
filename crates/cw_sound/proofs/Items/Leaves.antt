-- Expressions mention nothing but uses of names and strings.
use Rattle.std.proofs.Common.{◌≡◌, ℕ, List, [], ◌∷◌, length, sym, ap, subst, ◌∙◌}
use Rattle.cw_tree.specs.declared.leaf.Position.{Position}
use Rattle.cw_tree.specs.declared.leaf.RawName.{RawName}
use Rattle.cw_tree.specs.declared.expression.RawExpr.{RawExpr}
use Rattle.cw_tree.specs.declared.expression.RawRef.{RawRef}
use Rattle.cw_tree.specs.declared.expression.RawCond.{RawCond}
use Rattle.cw_facts.specs.declared.fact.Fact.{Fact, out-Fact}
use Rattle.cw_facts.specs.declared.fact.Fact.TheVariants as fact
use Rattle.cw_facts.specs.declared.fact.Fact.TheViews.{out-roll-Fact}
use Rattle.cw_facts.specs.declared.fact.Fact.TheOpen as open_fact
use Rattle.cw_facts.specs.declared.fact.Form.{Form}
use Rattle.cw_facts.specs.declared.fact.Reading.{Reading}
use Rattle.cw_facts.specs.Uses.{Uses, uses_of, argument_uses, expression_uses, reference_uses, condition_uses}
use Rattle.cw_preset.specs.Strings.{Rows}
use Rattle.cw_macro.specs.Premises.{Each}
use Rattle.cw_sound.proofs.Items.Lists.{each-append}
use Rattle.cw_sound.proofs.Items.Leaf.{IsLeaf, IsLeafLayer}
use Rattle.cw_sound.proofs.Expressions.Facts.{FactRules}

use-leaf : (n : RawName) (f : Form) → Each IsLeaf (uses_of n f)
use-leaf n f =
    let is : out-Fact (fact.Uses (record { name = n; form = f })) ≡ open_fact.Uses (record { name = n; form = f }) = ap out-Fact (sym (fact.rolls-Uses (record { name = n; form = f }))) ∙ out-roll-Fact (open_fact.Uses (record { name = n; form = f })) in
    (subst IsLeafLayer (sym is) tt, tt)

text-leaf : (at : Position) (cs : List ℕ) → Each IsLeaf (fact.Text at (length cs) ∷ [])
text-leaf at cs =
    let is : out-Fact (fact.Text at (length cs)) ≡ open_fact.Text at (length cs) = ap out-Fact (sym (fact.rolls-Text at (length cs))) ∙ out-roll-Fact (open_fact.Text at (length cs)) in
    (subst IsLeafLayer (sym is) tt, tt)

abbrev pub Leaves : List Fact → Rows → Type 0
Leaves a rows = Each IsLeaf a

pub leaves : FactRules Leaves
leaves = record { nothing = tt; both = λ a b x y. each-append IsLeaf a b; used = use-leaf; text = text-leaf }
