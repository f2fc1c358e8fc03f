-- The uses of names in an expression declare nothing.
use Rattle.std.proofs.Common.{List, [], length}
use Rattle.cw_tree.specs.declared.expression.RawExpr.{RawExpr}
use Rattle.cw_tree.specs.declared.expression.RawRef.{RawRef}
use Rattle.cw_tree.specs.declared.expression.RawCond.{RawCond}
use Rattle.cw_facts.specs.declared.fact.Fact.{Fact}
use Rattle.cw_facts.specs.declared.fact.Reading.{Reading}
use Rattle.cw_facts.specs.Uses.{Uses, argument_uses, expression_uses, reference_uses, condition_uses}
use Rattle.cw_preset.specs.Strings.{Rows}
use Rattle.cw_make_items.specs.Lookup.{Numbers}
use Rattle.cw_sound.proofs.Names.Parts.{Plain}
use Rattle.cw_sound.proofs.Names.PlainFacts.{plain_nothing, plain_both, plain_use, plain_text}
use Rattle.cw_sound.proofs.Expressions.Facts.{FactRules, expression_facts, reference_facts, condition_facts, argument_facts}

module _ (numbers : Numbers) where
  abbrev IsPlain : Uses → Type 0
  IsPlain x = (r : Reading) → Plain numbers (x r)

  abbrev PlainFacts : List Fact → Rows → Type 0
  PlainFacts a rows = Plain numbers a

  plain : FactRules PlainFacts
  plain = record {
    nothing = plain_nothing numbers;
    both = λ a b x y. plain_both numbers a b;
    used = λ n f. plain_use numbers (record { name = n; form = f }) [] (plain_nothing numbers);
    text = λ at cs. plain_text numbers at (length cs) [] (plain_nothing numbers);
  }

  pub expression_plain : (e : RawExpr) → IsPlain (expression_uses e)
  expression_plain = expression_facts PlainFacts plain

  pub condition_plain : (e : RawCond) → IsPlain (condition_uses e)
  condition_plain = condition_facts PlainFacts plain

  pub reference_plain : (e : RawRef) → IsPlain (reference_uses e)
  reference_plain = reference_facts PlainFacts plain

  pub arguments_plain : (es : List RawExpr) → Plain numbers (argument_uses es)
  arguments_plain = argument_facts PlainFacts plain
