-- What holds of what two folds make of each tree, where it holds of what they make of its layer.
use Rattle.std.proofs.Common.{sym, subst₂}
use Rattle.cw_tree.proofs.Expressions.{of_expression, of_primary, of_reference, of_conjunction, of_comparison, of_condition, of_differ, of_mask, of_prim, of_sum, of_term, of_union}
use Rattle.cw_sound.proofs.Expressions.Schema.{Known, ExprParts, PrimaryParts, RefParts, CandParts, CmpParts, CondParts, DifferParts, MaskParts, PrimParts, SumParts, TermParts, UnionParts, expr_layer, primary_layer, ref_layer, cand_layer, cmp_layer, cond_layer, differ_layer, mask_layer, prim_layer, sum_layer, term_layer, union_layer, Rules}
use Rattle.cw_tokens.proofs.Passes.{Pass, expr_layered, primary_layered, ref_layered, cand_layered, cmp_layered, cond_layered, differ_layered, mask_layered, prim_layered, sum_layered, term_layered, union_layered, expr_rolled, primary_rolled, ref_rolled, cand_rolled, cmp_rolled, cond_rolled, differ_rolled, mask_rolled, prim_rolled, sum_rolled, term_rolled, union_rolled}

module _ {A B : Type 0} (first : Pass A) (second : Pass B) (R : A → B → Type 0) where
  -- that what both make of a tree is so related
  abbrev pub related : Known
  related = record {
    Expr = λ x. R (of_expression first x) (of_expression second x);
    Primary = λ x. R (of_primary first x) (of_primary second x);
    Ref = λ x. R (of_reference first x) (of_reference second x);
    Cand = λ x. R (of_conjunction first x) (of_conjunction second x);
    Cmp = λ x. R (of_comparison first x) (of_comparison second x);
    Cond = λ x. R (of_condition first x) (of_condition second x);
    Differ = λ x. R (of_differ first x) (of_differ second x);
    Mask = λ x. R (of_mask first x) (of_mask second x);
    Prim = λ x. R (of_prim first x) (of_prim second x);
    Sum = λ x. R (of_sum first x) (of_sum second x);
    Term = λ x. R (of_term first x) (of_term second x);
    Union = λ x. R (of_union first x) (of_union second x);
  }

  -- it is, where it is so of each layer of such trees
  module _ (expression : (y : ExprParts related) → R (expr_layered first (expr_layer related y)) (expr_layered second (expr_layer related y))) (primary : (y : PrimaryParts related) → R (primary_layered first (primary_layer related y)) (primary_layered second (primary_layer related y))) (reference : (y : RefParts related) → R (ref_layered first (ref_layer related y)) (ref_layered second (ref_layer related y))) (conjunction : (y : CandParts related) → R (cand_layered first (cand_layer related y)) (cand_layered second (cand_layer related y))) (comparison : (y : CmpParts related) → R (cmp_layered first (cmp_layer related y)) (cmp_layered second (cmp_layer related y))) (condition : (y : CondParts related) → R (cond_layered first (cond_layer related y)) (cond_layered second (cond_layer related y))) (differ : (y : DifferParts related) → R (differ_layered first (differ_layer related y)) (differ_layered second (differ_layer related y))) (mask : (y : MaskParts related) → R (mask_layered first (mask_layer related y)) (mask_layered second (mask_layer related y))) (prim : (y : PrimParts related) → R (prim_layered first (prim_layer related y)) (prim_layered second (prim_layer related y))) (sum : (y : SumParts related) → R (sum_layered first (sum_layer related y)) (sum_layered second (sum_layer related y))) (term : (y : TermParts related) → R (term_layered first (term_layer related y)) (term_layered second (term_layer related y))) (union : (y : UnionParts related) → R (union_layered first (union_layer related y)) (union_layered second (union_layer related y))) where
    pub related_rules : Rules related
    related_rules = record {
      expr = λ y. subst₂ R (sym (expr_rolled first (expr_layer related y))) (sym (expr_rolled second (expr_layer related y))) (expression y);
      primary = λ y. subst₂ R (sym (primary_rolled first (primary_layer related y))) (sym (primary_rolled second (primary_layer related y))) (primary y);
      ref = λ y. subst₂ R (sym (ref_rolled first (ref_layer related y))) (sym (ref_rolled second (ref_layer related y))) (reference y);
      cand = λ y. subst₂ R (sym (cand_rolled first (cand_layer related y))) (sym (cand_rolled second (cand_layer related y))) (conjunction y);
      cmp = λ y. subst₂ R (sym (cmp_rolled first (cmp_layer related y))) (sym (cmp_rolled second (cmp_layer related y))) (comparison y);
      cond = λ y. subst₂ R (sym (cond_rolled first (cond_layer related y))) (sym (cond_rolled second (cond_layer related y))) (condition y);
      differ = λ y. subst₂ R (sym (differ_rolled first (differ_layer related y))) (sym (differ_rolled second (differ_layer related y))) (differ y);
      mask = λ y. subst₂ R (sym (mask_rolled first (mask_layer related y))) (sym (mask_rolled second (mask_layer related y))) (mask y);
      prim = λ y. subst₂ R (sym (prim_rolled first (prim_layer related y))) (sym (prim_rolled second (prim_layer related y))) (prim y);
      sum = λ y. subst₂ R (sym (sum_rolled first (sum_layer related y))) (sym (sum_rolled second (sum_layer related y))) (sum y);
      term = λ y. subst₂ R (sym (term_rolled first (term_layer related y))) (sym (term_rolled second (term_layer related y))) (term y);
      union = λ y. subst₂ R (sym (union_rolled first (union_layer related y))) (sym (union_rolled second (union_layer related y))) (union y);
    }
