-- Every tree is right: by induction over all rules of expressions.
use Rattle.std.proofs.Common.{List, [], ◌∷◌, map}
use Rattle.cw_tree.specs.declared.expression.RawExpr.{RawExpr}
use Rattle.cw_tree.specs.declared.expression.RawRef.{RawRef}
use Rattle.cw_tree.specs.declared.expression.RawCand.{RawCand}
use Rattle.cw_tree.specs.declared.expression.RawCmp.{RawCmp}
use Rattle.cw_tree.specs.declared.expression.RawCond.{RawCond}
use Rattle.cw_tree.specs.declared.expression.RawDiffer.{RawDiffer}
use Rattle.cw_tree.specs.declared.expression.RawMask.{RawMask}
use Rattle.cw_tree.specs.declared.expression.RawPrim.{RawPrim}
use Rattle.cw_tree.specs.declared.expression.RawTerm.{RawTerm}
use Rattle.cw_tree.specs.declared.expression.RawUnion.{RawUnion}
use Rattle.cw_tree.specs.declared.expression.RawExpr.TheOpen as layer
use Rattle.cw_facts.specs.Uses.{Uses}
use Rattle.cw_facts.specs.Uses as uses
use Rattle.cw_scope.specs.declared.resolve.Named.{Named}
use Rattle.cw_scale.specs.TypeRules.{Judged}
use Rattle.cw_scale.specs.TypeRules as judged
use Rattle.cw_make_expr.specs.Parts.{Numbers}
use Rattle.cw_make_expr.specs.Made.{Made, Placed}
use Rattle.cw_make_expr.specs.Made as made
use Rattle.cw_unit.specs.declared.unit.LogicOp.TheVariants as logic_op
use Rattle.cw_unit.specs.declared.unit.Cond.{Cond}
use Rattle.cw_sound.proofs.Calls.Trees.Parts.{Context, Right, RightTest, RightPlace, Rights, none, more, RightTests, no_test, more_tests}
use Rattle.cw_sound.proofs.Calls.Trees.Rules.{logic_right, prim_right, term_right, sum_right}
use Rattle.cw_sound.proofs.Calls.Trees.Primaries.{number_right, octal_right, literal_right, string_right, location_right, forced_right, bracket_right, call_right, choice_right, name_right, one_right, two_right, bare_right}
use Rattle.cw_sound.proofs.Calls.Trees.Conditions.{conjunction_right, condition_right, comparison_right}
use Rattle.cw_sound.proofs.Expressions.Layers as layers
use Rattle.cw_sound.proofs.Expressions.Layers.{Values, expr_layer_values, primary_layer_values, ref_layer_values, cand_layer_values, cmp_layer_values, cond_layer_values, differ_layer_values, mask_layer_values, prim_layer_values, sum_layer_values, term_layer_values, union_layer_values}
use Rattle.cw_sound.proofs.Expressions.Schema.{Known, ExprParts, PrimaryParts, RefParts, CandParts, CmpParts, CondParts, DifferParts, MaskParts, PrimParts, SumParts, TermParts, UnionParts, expr_layer, primary_layer, ref_layer, cand_layer, cmp_layer, cond_layer, differ_layer, mask_layer, prim_layer, sum_layer, term_layer, union_layer, Rules, each_expr, each_ref, each_cond}

module _ (named : Named) (numbers : Numbers) (body : Context named numbers) where
  rights : (T : Type 0) (j : T → Judged) (m : T → Made) (x : T → Uses) (ts : List ((t : T) × Right named numbers body (j t) (m t) (x t))) → let zs : List T = map (λ y. y.0) ts in Rights named numbers body (map j zs) (map m zs) (map x zs)
  rights T j m x [] = none
  rights T j m x (t ∷ ts) = more t.1 (rights T j m x ts)

  tests : (T : Type 0) (j : T → Judged) (c : T → Cond) (x : T → Uses) (ts : List ((t : T) × RightTest named numbers body (j t) (c t) (x t))) → let zs : List T = map (λ y. y.0) ts in RightTests named numbers body (map j zs) (map c zs) (map x zs)
  tests T j c x [] = no_test
  tests T j c x (t ∷ ts) = more_tests t.1 (tests T j c x ts)

  abbrev Value : Values Made → Type 0
  Value v = Right named numbers body v.judged v.made v.uses

  abbrev Test : Values Cond → Type 0
  Test v = RightTest named numbers body v.judged v.made v.uses

  abbrev Place : Values Placed → Type 0
  Place v = RightPlace named numbers body v.judged v.made v.uses

  abbrev known : Known
  known = layers.known named numbers Value Test Place

  expression_rule : (y : ExprParts known) → Value (expr_layer_values named numbers (expr_layer known y))
  expression_rule (layer.Choice at c a b) =
      choice_right named numbers body at (judged.condition named c.0) (judged.expression named a.0) (judged.expression named b.0) (made.condition_made named numbers c.0) (made.expression_made named numbers a.0) (made.expression_made named numbers b.0) (uses.condition_uses c.0) (uses.expression_uses a.0) (uses.expression_uses b.0) c.1 a.1 b.1
  expression_rule (layer.Sum s) = s.1

  primary_rule : (y : PrimaryParts known) → Value (primary_layer_values named numbers (primary_layer known y))
  primary_rule (layer.Number n) = number_right named numbers body n
  primary_rule (layer.Octal n) = octal_right named numbers body n
  primary_rule (layer.Literal c) = literal_right named numbers body c
  primary_rule (layer.Text at cs) = string_right named numbers body at cs
  primary_rule (layer.Location at r) = location_right named numbers body at (judged.reference named r.0) (made.reference_made named numbers r.0) (uses.reference_uses r.0) r.1
  primary_rule (layer.Forced t e) = forced_right named numbers body t (judged.expression named e.0) (made.expression_made named numbers e.0) (uses.expression_uses e.0) e.1
  primary_rule (layer.Bracket at e) = bracket_right named numbers body at (judged.expression named e.0) (made.expression_made named numbers e.0) (uses.expression_uses e.0) e.1
  primary_rule (layer.Ref r) = λ x h. (r.1 x h).sound
  primary_rule (layer.Call n xs) = call_right named numbers body n (rights RawExpr (judged.expression named) (made.expression_made named numbers) uses.expression_uses xs)

  reference_rule : (y : RefParts known) → Place (ref_layer_values named numbers (ref_layer known y))
  reference_rule (layer.Name n) = name_right named numbers body n
  reference_rule (layer.One n e) = one_right named numbers body n (judged.expression named e.0) (made.expression_made named numbers e.0) (uses.expression_uses e.0) e.1
  reference_rule (layer.Two n e g) =
      two_right named numbers body n (judged.expression named e.0) (judged.expression named g.0) (made.expression_made named numbers e.0) (made.expression_made named numbers g.0) (uses.expression_uses e.0) (uses.expression_uses g.0) e.1 g.1
  reference_rule (layer.Bare at e) = bare_right named numbers body at (judged.expression named e.0) (made.expression_made named numbers e.0) (uses.expression_uses e.0) e.1

  conjunction_rule : (y : CandParts known) → Test (cand_layer_values named numbers (cand_layer known y))
  conjunction_rule y = conjunction_right named numbers body y.operators (tests RawCmp (judged.comparison named) (made.comparison_made named numbers) uses.comparison_uses y.operands)

  comparison_rule : (y : CmpParts known) → Test (cmp_layer_values named numbers (cmp_layer known y))
  comparison_rule y =
      comparison_right named numbers body y.operator (judged.sum named y.left.0) (judged.sum named y.right.0) (made.sum_made named numbers y.left.0) (made.sum_made named numbers y.right.0) (uses.sum_uses y.left.0) (uses.sum_uses y.right.0) y.left.1 y.right.1

  condition_rule : (y : CondParts known) → Test (cond_layer_values named numbers (cond_layer known y))
  condition_rule y = condition_right named numbers body y.operators (tests RawCand (judged.conjunction named) (made.conjunction_made named numbers) uses.conjunction_uses y.operands)

  differ_rule : (y : DifferParts known) → Value (differ_layer_values named numbers (differ_layer known y))
  differ_rule y = logic_right named numbers body logic_op.Differ (rights RawUnion (judged.union named) (made.union_made named numbers) uses.union_uses y.operands)

  mask_rule : (y : MaskParts known) → Value (mask_layer_values named numbers (mask_layer known y))
  mask_rule y = logic_right named numbers body logic_op.Mask (rights RawPrim (judged.prim named) (made.prim_made named numbers) uses.prim_uses y.operands)

  prim_rule : (y : PrimParts known) → Value (prim_layer_values named numbers (prim_layer known y))
  prim_rule y = prim_right named numbers body y.bits (judged.primary named y.primary.0) (made.primary_made named numbers y.primary.0) (uses.primary_uses y.primary.0) y.primary.1

  sum_rule : (y : SumParts known) → Value (sum_layer_values named numbers (sum_layer known y))
  sum_rule y = sum_right named numbers body y.sign y.operators (rights RawTerm (judged.term named) (made.term_made named numbers) uses.term_uses y.operands)

  term_rule : (y : TermParts known) → Value (term_layer_values named numbers (term_layer known y))
  term_rule y = term_right named numbers body y.operators (rights RawDiffer (judged.differ named) (made.differ_made named numbers) uses.differ_uses y.operands)

  union_rule : (y : UnionParts known) → Value (union_layer_values named numbers (union_layer known y))
  union_rule y = logic_right named numbers body logic_op.Union (rights RawMask (judged.mask named) (made.mask_made named numbers) uses.mask_uses y.operands)

  rules : Rules known
  rules =
      layers.known_rules named numbers Value Test Place expression_rule primary_rule reference_rule conjunction_rule comparison_rule condition_rule differ_rule mask_rule prim_rule sum_rule term_rule union_rule

  pub expression_is_right : (x : RawExpr) → Right named numbers body (judged.expression named x) (made.expression_made named numbers x) (uses.expression_uses x)
  expression_is_right = each_expr known rules

  pub reference_is_right : (x : RawRef) → RightPlace named numbers body (judged.reference named x) (made.reference_made named numbers x) (uses.reference_uses x)
  reference_is_right = each_ref known rules

  pub condition_is_right : (x : RawCond) → RightTest named numbers body (judged.condition named x) (made.condition_made named numbers x) (uses.condition_uses x)
  condition_is_right = each_cond known rules
