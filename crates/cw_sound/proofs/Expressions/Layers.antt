-- What is known of each tree of an expression by its first layer: its judgement, what is made of it, its uses of names, its levels, and whether
-- it is regular.
use Rattle.std.proofs.Common.{◌≡◌, ℕ, Bool, sym, subst}
use Rattle.cw_tree.specs.declared.expression.RawExpr.{RawExpr, roll-RawExpr}
use Rattle.cw_tree.specs.declared.expression.RawPrimary.{RawPrimary, roll-RawPrimary}
use Rattle.cw_tree.specs.declared.expression.RawRef.{RawRef, roll-RawRef}
use Rattle.cw_tree.specs.declared.expression.RawCand.{RawCand, roll-RawCand}
use Rattle.cw_tree.specs.declared.expression.RawCmp.{RawCmp, roll-RawCmp}
use Rattle.cw_tree.specs.declared.expression.RawCond.{RawCond, roll-RawCond}
use Rattle.cw_tree.specs.declared.expression.RawDiffer.{RawDiffer, roll-RawDiffer}
use Rattle.cw_tree.specs.declared.expression.RawMask.{RawMask, roll-RawMask}
use Rattle.cw_tree.specs.declared.expression.RawPrim.{RawPrim, roll-RawPrim}
use Rattle.cw_tree.specs.declared.expression.RawSum.{RawSum, roll-RawSum}
use Rattle.cw_tree.specs.declared.expression.RawTerm.{RawTerm, roll-RawTerm}
use Rattle.cw_tree.specs.declared.expression.RawUnion.{RawUnion, roll-RawUnion}
use Rattle.cw_tree.proofs.Expressions.{of_expression, of_primary, of_reference, of_conjunction, of_comparison, of_condition, of_differ, of_mask, of_prim, of_sum, of_term, of_union}
use Rattle.cw_facts.specs.Uses.{Uses}
use Rattle.cw_scope.specs.declared.resolve.Named.{Named}
use Rattle.cw_scale.specs.TypeRules.{Judged}
use Rattle.cw_make_expr.specs.Parts.{Numbers}
use Rattle.cw_make_expr.specs.Made.{Made, Placed}
use Rattle.cw_unit.specs.declared.unit.Cond.{Cond}
use Rattle.cw_derived.proofs.Layers.{ExprLayer, PrimaryLayer, RefLayer, CandLayer, CmpLayer, CondLayer, DifferLayer, MaskLayer, PrimLayer, SumLayer, TermLayer, UnionLayer}
use Rattle.cw_sound.proofs.Expressions.Folds.{judged_pass, made_steps, uses_pass, levels_pass, regular_pass}
use Rattle.cw_tokens.proofs.Passes.{expr_layered, primary_layered, ref_layered, cand_layered, cmp_layered, cond_layered, differ_layered, mask_layered, prim_layered, sum_layered, term_layered, union_layered, expr_rolled, primary_rolled, ref_rolled, cand_rolled, cmp_rolled, cond_rolled, differ_rolled, mask_rolled, prim_rolled, sum_rolled, term_rolled, union_rolled}
use Rattle.cw_sound.proofs.Expressions.Schema.{Known, ExprParts, PrimaryParts, RefParts, CandParts, CmpParts, CondParts, DifferParts, MaskParts, PrimParts, SumParts, TermParts, UnionParts, expr_layer, primary_layer, ref_layer, cand_layer, cmp_layer, cond_layer, differ_layer, mask_layer, prim_layer, sum_layer, term_layer, union_layer, Rules}

pub record Values (M : Type 0) : Type 0 where
  pub judged : Judged
  pub made : M
  pub uses : Uses
  pub levels : ℕ
  pub regular : Bool

alike : {M : Type 0} {j k : Judged} {m n : M} {x y : Uses} {l i : ℕ} {g h : Bool} → j ≡ k → m ≡ n → x ≡ y → l ≡ i → g ≡ h
    → ◌≡◌ {A = Values M} (record { judged = j; made = m; uses = x; levels = l; regular = g }) (record { judged = k; made = n; uses = y; levels = i; regular = h })
alike ej em ex el eg = λ i. record { judged = ej i; made = em i; uses = ex i; levels = el i; regular = eg i }

module _ (named : Named) (numbers : Numbers) where
  abbrev pub expr_values : RawExpr → Values Made
  expr_values x = record { judged = of_expression (judged_pass named) x; made = of_expression (made_steps named numbers) x; uses = of_expression uses_pass x; levels = of_expression levels_pass x; regular = of_expression regular_pass x }

  abbrev pub expr_layer_values : ExprLayer → Values Made
  expr_layer_values y = record { judged = expr_layered (judged_pass named) y; made = expr_layered (made_steps named numbers) y; uses = expr_layered uses_pass y; levels = expr_layered levels_pass y; regular = expr_layered regular_pass y }

  expr_alike : (y : ExprLayer) → expr_values (roll-RawExpr y) ≡ expr_layer_values y
  expr_alike y = alike (expr_rolled (judged_pass named) y) (expr_rolled (made_steps named numbers) y) (expr_rolled uses_pass y) (expr_rolled levels_pass y) (expr_rolled regular_pass y)

  abbrev pub primary_values : RawPrimary → Values Made
  primary_values x = record { judged = of_primary (judged_pass named) x; made = of_primary (made_steps named numbers) x; uses = of_primary uses_pass x; levels = of_primary levels_pass x; regular = of_primary regular_pass x }

  abbrev pub primary_layer_values : PrimaryLayer → Values Made
  primary_layer_values y = record { judged = primary_layered (judged_pass named) y; made = primary_layered (made_steps named numbers) y; uses = primary_layered uses_pass y; levels = primary_layered levels_pass y; regular = primary_layered regular_pass y }

  primary_alike : (y : PrimaryLayer) → primary_values (roll-RawPrimary y) ≡ primary_layer_values y
  primary_alike y = alike (primary_rolled (judged_pass named) y) (primary_rolled (made_steps named numbers) y) (primary_rolled uses_pass y) (primary_rolled levels_pass y) (primary_rolled regular_pass y)

  abbrev pub ref_values : RawRef → Values Placed
  ref_values x = record { judged = of_reference (judged_pass named) x; made = of_reference (made_steps named numbers) x; uses = of_reference uses_pass x; levels = of_reference levels_pass x; regular = of_reference regular_pass x }

  abbrev pub ref_layer_values : RefLayer → Values Placed
  ref_layer_values y = record { judged = ref_layered (judged_pass named) y; made = ref_layered (made_steps named numbers) y; uses = ref_layered uses_pass y; levels = ref_layered levels_pass y; regular = ref_layered regular_pass y }

  ref_alike : (y : RefLayer) → ref_values (roll-RawRef y) ≡ ref_layer_values y
  ref_alike y = alike (ref_rolled (judged_pass named) y) (ref_rolled (made_steps named numbers) y) (ref_rolled uses_pass y) (ref_rolled levels_pass y) (ref_rolled regular_pass y)

  abbrev pub cand_values : RawCand → Values Cond
  cand_values x = record { judged = of_conjunction (judged_pass named) x; made = of_conjunction (made_steps named numbers) x; uses = of_conjunction uses_pass x; levels = of_conjunction levels_pass x; regular = of_conjunction regular_pass x }

  abbrev pub cand_layer_values : CandLayer → Values Cond
  cand_layer_values y = record { judged = cand_layered (judged_pass named) y; made = cand_layered (made_steps named numbers) y; uses = cand_layered uses_pass y; levels = cand_layered levels_pass y; regular = cand_layered regular_pass y }

  cand_alike : (y : CandLayer) → cand_values (roll-RawCand y) ≡ cand_layer_values y
  cand_alike y = alike (cand_rolled (judged_pass named) y) (cand_rolled (made_steps named numbers) y) (cand_rolled uses_pass y) (cand_rolled levels_pass y) (cand_rolled regular_pass y)

  abbrev pub cmp_values : RawCmp → Values Cond
  cmp_values x = record { judged = of_comparison (judged_pass named) x; made = of_comparison (made_steps named numbers) x; uses = of_comparison uses_pass x; levels = of_comparison levels_pass x; regular = of_comparison regular_pass x }

  abbrev pub cmp_layer_values : CmpLayer → Values Cond
  cmp_layer_values y = record { judged = cmp_layered (judged_pass named) y; made = cmp_layered (made_steps named numbers) y; uses = cmp_layered uses_pass y; levels = cmp_layered levels_pass y; regular = cmp_layered regular_pass y }

  cmp_alike : (y : CmpLayer) → cmp_values (roll-RawCmp y) ≡ cmp_layer_values y
  cmp_alike y = alike (cmp_rolled (judged_pass named) y) (cmp_rolled (made_steps named numbers) y) (cmp_rolled uses_pass y) (cmp_rolled levels_pass y) (cmp_rolled regular_pass y)

  abbrev pub cond_values : RawCond → Values Cond
  cond_values x = record { judged = of_condition (judged_pass named) x; made = of_condition (made_steps named numbers) x; uses = of_condition uses_pass x; levels = of_condition levels_pass x; regular = of_condition regular_pass x }

  abbrev pub cond_layer_values : CondLayer → Values Cond
  cond_layer_values y = record { judged = cond_layered (judged_pass named) y; made = cond_layered (made_steps named numbers) y; uses = cond_layered uses_pass y; levels = cond_layered levels_pass y; regular = cond_layered regular_pass y }

  cond_alike : (y : CondLayer) → cond_values (roll-RawCond y) ≡ cond_layer_values y
  cond_alike y = alike (cond_rolled (judged_pass named) y) (cond_rolled (made_steps named numbers) y) (cond_rolled uses_pass y) (cond_rolled levels_pass y) (cond_rolled regular_pass y)

  abbrev pub differ_values : RawDiffer → Values Made
  differ_values x = record { judged = of_differ (judged_pass named) x; made = of_differ (made_steps named numbers) x; uses = of_differ uses_pass x; levels = of_differ levels_pass x; regular = of_differ regular_pass x }

  abbrev pub differ_layer_values : DifferLayer → Values Made
  differ_layer_values y = record { judged = differ_layered (judged_pass named) y; made = differ_layered (made_steps named numbers) y; uses = differ_layered uses_pass y; levels = differ_layered levels_pass y; regular = differ_layered regular_pass y }

  differ_alike : (y : DifferLayer) → differ_values (roll-RawDiffer y) ≡ differ_layer_values y
  differ_alike y = alike (differ_rolled (judged_pass named) y) (differ_rolled (made_steps named numbers) y) (differ_rolled uses_pass y) (differ_rolled levels_pass y) (differ_rolled regular_pass y)

  abbrev pub mask_values : RawMask → Values Made
  mask_values x = record { judged = of_mask (judged_pass named) x; made = of_mask (made_steps named numbers) x; uses = of_mask uses_pass x; levels = of_mask levels_pass x; regular = of_mask regular_pass x }

  abbrev pub mask_layer_values : MaskLayer → Values Made
  mask_layer_values y = record { judged = mask_layered (judged_pass named) y; made = mask_layered (made_steps named numbers) y; uses = mask_layered uses_pass y; levels = mask_layered levels_pass y; regular = mask_layered regular_pass y }

  mask_alike : (y : MaskLayer) → mask_values (roll-RawMask y) ≡ mask_layer_values y
  mask_alike y = alike (mask_rolled (judged_pass named) y) (mask_rolled (made_steps named numbers) y) (mask_rolled uses_pass y) (mask_rolled levels_pass y) (mask_rolled regular_pass y)

  abbrev pub prim_values : RawPrim → Values Made
  prim_values x = record { judged = of_prim (judged_pass named) x; made = of_prim (made_steps named numbers) x; uses = of_prim uses_pass x; levels = of_prim levels_pass x; regular = of_prim regular_pass x }

  abbrev pub prim_layer_values : PrimLayer → Values Made
  prim_layer_values y = record { judged = prim_layered (judged_pass named) y; made = prim_layered (made_steps named numbers) y; uses = prim_layered uses_pass y; levels = prim_layered levels_pass y; regular = prim_layered regular_pass y }

  prim_alike : (y : PrimLayer) → prim_values (roll-RawPrim y) ≡ prim_layer_values y
  prim_alike y = alike (prim_rolled (judged_pass named) y) (prim_rolled (made_steps named numbers) y) (prim_rolled uses_pass y) (prim_rolled levels_pass y) (prim_rolled regular_pass y)

  abbrev pub sum_values : RawSum → Values Made
  sum_values x = record { judged = of_sum (judged_pass named) x; made = of_sum (made_steps named numbers) x; uses = of_sum uses_pass x; levels = of_sum levels_pass x; regular = of_sum regular_pass x }

  abbrev pub sum_layer_values : SumLayer → Values Made
  sum_layer_values y = record { judged = sum_layered (judged_pass named) y; made = sum_layered (made_steps named numbers) y; uses = sum_layered uses_pass y; levels = sum_layered levels_pass y; regular = sum_layered regular_pass y }

  sum_alike : (y : SumLayer) → sum_values (roll-RawSum y) ≡ sum_layer_values y
  sum_alike y = alike (sum_rolled (judged_pass named) y) (sum_rolled (made_steps named numbers) y) (sum_rolled uses_pass y) (sum_rolled levels_pass y) (sum_rolled regular_pass y)

  abbrev pub term_values : RawTerm → Values Made
  term_values x = record { judged = of_term (judged_pass named) x; made = of_term (made_steps named numbers) x; uses = of_term uses_pass x; levels = of_term levels_pass x; regular = of_term regular_pass x }

  abbrev pub term_layer_values : TermLayer → Values Made
  term_layer_values y = record { judged = term_layered (judged_pass named) y; made = term_layered (made_steps named numbers) y; uses = term_layered uses_pass y; levels = term_layered levels_pass y; regular = term_layered regular_pass y }

  term_alike : (y : TermLayer) → term_values (roll-RawTerm y) ≡ term_layer_values y
  term_alike y = alike (term_rolled (judged_pass named) y) (term_rolled (made_steps named numbers) y) (term_rolled uses_pass y) (term_rolled levels_pass y) (term_rolled regular_pass y)

  abbrev pub union_values : RawUnion → Values Made
  union_values x = record { judged = of_union (judged_pass named) x; made = of_union (made_steps named numbers) x; uses = of_union uses_pass x; levels = of_union levels_pass x; regular = of_union regular_pass x }

  abbrev pub union_layer_values : UnionLayer → Values Made
  union_layer_values y = record { judged = union_layered (judged_pass named) y; made = union_layered (made_steps named numbers) y; uses = union_layered uses_pass y; levels = union_layered levels_pass y; regular = union_layered regular_pass y }

  union_alike : (y : UnionLayer) → union_values (roll-RawUnion y) ≡ union_layer_values y
  union_alike y = alike (union_rolled (judged_pass named) y) (union_rolled (made_steps named numbers) y) (union_rolled uses_pass y) (union_rolled levels_pass y) (union_rolled regular_pass y)

module _ (named : Named) (numbers : Numbers) (Value : Values Made → Type 0) (Test : Values Cond → Type 0) (Place : Values Placed → Type 0) where
  abbrev pub known : Known
  known = record {
    Expr = λ x. Value (expr_values named numbers x);
    Primary = λ x. Value (primary_values named numbers x);
    Ref = λ x. Place (ref_values named numbers x);
    Cand = λ x. Test (cand_values named numbers x);
    Cmp = λ x. Test (cmp_values named numbers x);
    Cond = λ x. Test (cond_values named numbers x);
    Differ = λ x. Value (differ_values named numbers x);
    Mask = λ x. Value (mask_values named numbers x);
    Prim = λ x. Value (prim_values named numbers x);
    Sum = λ x. Value (sum_values named numbers x);
    Term = λ x. Value (term_values named numbers x);
    Union = λ x. Value (union_values named numbers x);
  }

  module _ (expression : (y : ExprParts known) → Value (expr_layer_values named numbers (expr_layer known y))) (primary : (y : PrimaryParts known) → Value (primary_layer_values named numbers (primary_layer known y))) (reference : (y : RefParts known) → Place (ref_layer_values named numbers (ref_layer known y))) (conjunction : (y : CandParts known) → Test (cand_layer_values named numbers (cand_layer known y))) (comparison : (y : CmpParts known) → Test (cmp_layer_values named numbers (cmp_layer known y))) (condition : (y : CondParts known) → Test (cond_layer_values named numbers (cond_layer known y))) (differ : (y : DifferParts known) → Value (differ_layer_values named numbers (differ_layer known y))) (mask : (y : MaskParts known) → Value (mask_layer_values named numbers (mask_layer known y))) (prim : (y : PrimParts known) → Value (prim_layer_values named numbers (prim_layer known y))) (sum : (y : SumParts known) → Value (sum_layer_values named numbers (sum_layer known y))) (term : (y : TermParts known) → Value (term_layer_values named numbers (term_layer known y))) (union : (y : UnionParts known) → Value (union_layer_values named numbers (union_layer known y))) where
    pub known_rules : Rules known
    known_rules = record {
      expr = λ y. subst Value (sym (expr_alike named numbers (expr_layer known y))) (expression y);
      primary = λ y. subst Value (sym (primary_alike named numbers (primary_layer known y))) (primary y);
      ref = λ y. subst Place (sym (ref_alike named numbers (ref_layer known y))) (reference y);
      cand = λ y. subst Test (sym (cand_alike named numbers (cand_layer known y))) (conjunction y);
      cmp = λ y. subst Test (sym (cmp_alike named numbers (cmp_layer known y))) (comparison y);
      cond = λ y. subst Test (sym (cond_alike named numbers (cond_layer known y))) (condition y);
      differ = λ y. subst Value (sym (differ_alike named numbers (differ_layer known y))) (differ y);
      mask = λ y. subst Value (sym (mask_alike named numbers (mask_layer known y))) (mask y);
      prim = λ y. subst Value (sym (prim_alike named numbers (prim_layer known y))) (prim y);
      sum = λ y. subst Value (sym (sum_alike named numbers (sum_layer known y))) (sum y);
      term = λ y. subst Value (sym (term_alike named numbers (term_layer known y))) (term y);
      union = λ y. subst Value (sym (union_alike named numbers (union_layer known y))) (union y);
    }
