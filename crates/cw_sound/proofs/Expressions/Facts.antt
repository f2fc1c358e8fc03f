-- What holds of the facts and of the strings of each expression, where it holds of nothing, of a use of a name, of a string, and of both of two of which it holds.
use Rattle.std.proofs.Common.{ℕ, List, [], ◌∷◌, ◌++◌, length, map, ◌&&◌, ◌==◌}
use Rattle.std.specs.Prelude.{is_none}
use Rattle.cw_tree.specs.declared.leaf.Position.{Position}
use Rattle.cw_tree.specs.declared.leaf.RawName.{RawName}
use Rattle.cw_tree.specs.declared.expression.RawExpr.{RawExpr}
use Rattle.cw_tree.specs.declared.expression.RawRef.{RawRef}
use Rattle.cw_tree.specs.declared.expression.RawCond.{RawCond}
use Rattle.cw_tree.specs.declared.expression.RawExpr.TheOpen as layer
use Rattle.cw_facts.specs.declared.fact.Fact.{Fact}
use Rattle.cw_facts.specs.declared.fact.Fact.TheVariants as fact
use Rattle.cw_facts.specs.declared.fact.Form.{Form}
use Rattle.cw_facts.specs.declared.fact.Form.TheVariants as form
use Rattle.cw_facts.specs.declared.fact.Reading.{Reading}
use Rattle.cw_facts.specs.declared.fact.Reading.TheVariants as reading
use Rattle.cw_facts.specs.Uses.{Uses, uses_of, reading_of, indexed, each_for, argument_uses, expression_uses, reference_uses, conjunction_uses, comparison_uses, condition_uses, differ_uses, mask_uses, prim_uses, sum_uses, term_uses, union_uses}
use Rattle.cw_preset.specs.Strings.{Rows, joined, string_words, argument_rows, expression_rows, reference_rows, conjunction_rows, comparison_rows, condition_rows, differ_rows, mask_rows, prim_rows, sum_rows, term_rows, union_rows}
use Rattle.cw_sound.proofs.Expressions.Folds.{uses_pass, rows_pass}
use Rattle.cw_tokens.proofs.Passes.{expr_layered, primary_layered, ref_layered, cand_layered, cmp_layered, cond_layered, differ_layered, mask_layered, prim_layered, sum_layered, term_layered, union_layered}
use Rattle.cw_sound.proofs.Expressions.Passes.{related, related_rules}
use Rattle.cw_sound.proofs.Expressions.Schema.{Known, ExprParts, PrimaryParts, RefParts, CandParts, CmpParts, CondParts, DifferParts, MaskParts, PrimParts, SumParts, TermParts, UnionParts, expr_layer, primary_layer, ref_layer, cand_layer, cmp_layer, cond_layer, differ_layer, mask_layer, prim_layer, sum_layer, term_layer, union_layer, Rules, each_expr, each_ref, each_cond}

pub record FactRules (Holds : List Fact → Rows → Type 0) : Type 0 where
  pub nothing : Holds [] []
  pub both : (a b : List Fact) (x y : Rows) → Holds a x → Holds b y → Holds (a ++ b) (x ++ y)
  pub used : (n : RawName) (f : Form) → Holds (uses_of n f) []
  pub text : (at : Position) (cs : List ℕ) → Holds (fact.Text at (length cs) ∷ []) (record { token = at.token; item = string_words cs } ∷ [])

module _ (Holds : List Fact → Rows → Type 0) (facts : FactRules Holds) where
  abbrev pub Hold : Uses → Rows → Type 0
  Hold u rows = (r : Reading) → Holds (u r) rows

  abbrev known : Known
  known = related uses_pass rows_pass Hold

  each : {X : Type 0} (of : X → Uses) (rows : X → Rows) (xs : List ((x : X) × Hold (of x) (rows x))) (r : Reading) → Holds (each_for r (map of (map (λ x. x.0) xs))) (joined (map rows (map (λ x. x.0) xs)))
  each of rows [] r = facts.nothing
  each of rows (x ∷ xs) r = facts.both (of x.0 r) (each_for r (map of (map (λ z. z.0) xs))) (rows x.0) (joined (map rows (map (λ z. z.0) xs))) (x.1 r) (each of rows xs r)

  -- operands that stand alone are wanted for what the whole is
  operands : {X : Type 0} (of : X → Uses) (rows : X → Rows) (xs : List ((x : X) × Hold (of x) (rows x))) (r : Reading)
      → Holds (each_for (reading_of r (length (map of (map (λ x. x.0) xs)) == 1)) (map of (map (λ x. x.0) xs))) (joined (map rows (map (λ x. x.0) xs)))
  operands of rows xs r = each of rows xs (reading_of r (length (map of (map (λ x. x.0) xs)) == 1))

  -- a name before what has rows
  behind : (n : RawName) (f : Form) (a : List Fact) (x : Rows) → Holds a x → Holds (uses_of n f ++ a) x
  behind n f a x h = facts.both (uses_of n f) a [] x (facts.used n f) h

  expression_holds : (y : ExprParts known) → Hold (expr_layered uses_pass (expr_layer known y)) (expr_layered rows_pass (expr_layer known y))
  expression_holds (layer.Choice at test a b) r =
      facts.both (condition_uses test.0 reading.Value) (expression_uses a.0 reading.Value ++ expression_uses b.0 reading.Value) (condition_rows test.0) (expression_rows a.0 ++ expression_rows b.0) (test.1 reading.Value)
      (facts.both (expression_uses a.0 reading.Value) (expression_uses b.0 reading.Value) (expression_rows a.0) (expression_rows b.0) (a.1 reading.Value) (b.1 reading.Value))
  expression_holds (layer.Sum s) r = s.1 r

  primary_holds : (y : PrimaryParts known) → Hold (primary_layered uses_pass (primary_layer known y)) (primary_layered rows_pass (primary_layer known y))
  primary_holds (layer.Text at cs) r = facts.text at cs
  primary_holds (layer.Location at x) r = x.1 reading.Whole
  primary_holds (layer.Forced t e) r = e.1 reading.Value
  primary_holds (layer.Bracket at e) r = e.1 reading.Value
  primary_holds (layer.Ref x) r = x.1 r
  primary_holds (layer.Call n xs) r = behind n form.CallValue (each_for reading.Argument (map expression_uses (map (λ e. e.0) xs))) (joined (map expression_rows (map (λ e. e.0) xs))) (each expression_uses expression_rows xs reading.Argument)
  primary_holds _ r = facts.nothing

  reference_holds : (y : RefParts known) → Hold (ref_layered uses_pass (ref_layer known y)) (ref_layered rows_pass (ref_layer known y))
  reference_holds (layer.Name n) r = facts.used n (form.Reference r 0)
  reference_holds (layer.One n e) r = behind n (form.Reference (indexed r) 1) (expression_uses e.0 reading.Value) (expression_rows e.0) (e.1 reading.Value)
  reference_holds (layer.Two n e g) r =
      behind n (form.Reference (indexed r) 2) (expression_uses e.0 reading.Value ++ expression_uses g.0 reading.Value) (expression_rows e.0 ++ expression_rows g.0)
      (facts.both (expression_uses e.0 reading.Value) (expression_uses g.0 reading.Value) (expression_rows e.0) (expression_rows g.0) (e.1 reading.Value) (g.1 reading.Value))
  reference_holds (layer.Bare at e) r = e.1 reading.Value

  comparison_holds : (y : CmpParts known) → Hold (cmp_layered uses_pass (cmp_layer known y)) (cmp_layered rows_pass (cmp_layer known y))
  comparison_holds c r = facts.both (sum_uses c.left.0 reading.Value) (sum_uses c.right.0 reading.Value) (sum_rows c.left.0) (sum_rows c.right.0) (c.left.1 reading.Value) (c.right.1 reading.Value)

  sum_holds : (y : SumParts known) → Hold (sum_layered uses_pass (sum_layer known y)) (sum_layered rows_pass (sum_layer known y))
  sum_holds e r = each term_uses term_rows e.operands (reading_of r (length (map term_uses (map (λ x. x.0) e.operands)) == 1 && is_none e.sign))

  rules : Rules known
  rules =
      related_rules uses_pass rows_pass Hold expression_holds primary_holds reference_holds
      (λ y r. each comparison_uses comparison_rows y.operands reading.Value)
      comparison_holds
      (λ y r. each conjunction_uses conjunction_rows y.operands reading.Value)
      (λ y. operands union_uses union_rows y.operands)
      (λ y. operands prim_uses prim_rows y.operands)
      (λ y r. y.primary.1 (reading_of r (length y.bits == 0)))
      sum_holds
      (λ y. operands differ_uses differ_rows y.operands)
      (λ y. operands mask_uses mask_rows y.operands)

  pub expression_facts : (x : RawExpr) → Hold (expression_uses x) (expression_rows x)
  expression_facts = each_expr known rules

  pub reference_facts : (x : RawRef) → Hold (reference_uses x) (reference_rows x)
  reference_facts = each_ref known rules

  pub condition_facts : (x : RawCond) → Hold (condition_uses x) (condition_rows x)
  condition_facts = each_cond known rules

  pub argument_facts : (es : List RawExpr) → Holds (argument_uses es) (argument_rows es)
  argument_facts [] = facts.nothing
  argument_facts (e ∷ es) = facts.both (expression_uses e reading.Argument) (argument_uses es) (expression_rows e) (argument_rows es) (expression_facts e reading.Argument) (argument_facts es)
