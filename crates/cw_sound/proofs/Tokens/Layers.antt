-- What is made of each tree of an expression, and what the tree counts, by its first layer.
use Rattle.std.proofs.Common.{◌≡◌, ℕ, ◌≤◌, sym, subst}
use Rattle.cw_tree.specs.declared.expression.RawExpr.{roll-RawExpr}
use Rattle.cw_tree.specs.declared.expression.RawPrimary.{roll-RawPrimary}
use Rattle.cw_tree.specs.declared.expression.RawRef.{roll-RawRef}
use Rattle.cw_tree.specs.declared.expression.RawCand.{roll-RawCand}
use Rattle.cw_tree.specs.declared.expression.RawCmp.{roll-RawCmp}
use Rattle.cw_tree.specs.declared.expression.RawCond.{roll-RawCond}
use Rattle.cw_tree.specs.declared.expression.RawDiffer.{roll-RawDiffer}
use Rattle.cw_tree.specs.declared.expression.RawMask.{roll-RawMask}
use Rattle.cw_tree.specs.declared.expression.RawPrim.{roll-RawPrim}
use Rattle.cw_tree.specs.declared.expression.RawSum.{roll-RawSum}
use Rattle.cw_tree.specs.declared.expression.RawTerm.{roll-RawTerm}
use Rattle.cw_tree.specs.declared.expression.RawUnion.{roll-RawUnion}
use Rattle.cw_scope.specs.declared.resolve.Named.{Named}
use Rattle.cw_make_expr.specs.Parts.{Numbers}
use Rattle.cw_make_expr.specs.Made as made
use Rattle.cw_unit.specs.declared.unit.Cond.{Cond}
use Rattle.cw_tokens.specs.LeastTokens.{condition_tokens}
use Rattle.cw_tokens.specs.TreeTokens as tree
use Rattle.cw_derived.proofs.Layers.{ExprLayer, PrimaryLayer, RefLayer, CandLayer, CmpLayer, CondLayer, DifferLayer, MaskLayer, PrimLayer, SumLayer, TermLayer, UnionLayer}
use Rattle.cw_sound.proofs.Expressions.Folds.{made_steps, tokens_pass}
use Rattle.cw_tokens.proofs.Passes.{expr_layered, primary_layered, ref_layered, cand_layered, cmp_layered, cond_layered, differ_layered, mask_layered, prim_layered, sum_layered, term_layered, union_layered, expr_rolled, primary_rolled, ref_rolled, cand_rolled, cmp_rolled, cond_rolled, differ_rolled, mask_rolled, prim_rolled, sum_rolled, term_rolled, union_rolled}
use Rattle.cw_sound.proofs.Tokens.Parts.{Sized, SizedPlace}

pub two_ways : {A B : Type 0} (P : A → B → Type 0) {a c : A} {b d : B} → a ≡ c → b ≡ d → P c d → P a b
two_ways P {a = a} {d = d} e f h = subst (λ x. P a x) (sym f) (subst (λ x. P x d) (sym e) h)

abbrev SizedTest : Cond → ℕ → Type 0
SizedTest c n = condition_tokens c ≤ n

module _ (named : Named) (numbers : Numbers) where
  pub expression_rolls : (x : ExprLayer) → Sized (expr_layered (made_steps named numbers) x) (expr_layered tokens_pass x) → Sized (made.expression_made named numbers (roll-RawExpr x)) (tree.expr_tokens (roll-RawExpr x))
  expression_rolls x = two_ways Sized (expr_rolled (made_steps named numbers) x) (expr_rolled tokens_pass x)

  pub primary_rolls : (x : PrimaryLayer) → Sized (primary_layered (made_steps named numbers) x) (primary_layered tokens_pass x) → Sized (made.primary_made named numbers (roll-RawPrimary x)) (tree.primary_tokens (roll-RawPrimary x))
  primary_rolls x = two_ways Sized (primary_rolled (made_steps named numbers) x) (primary_rolled tokens_pass x)

  pub reference_rolls : (x : RefLayer) → SizedPlace (ref_layered (made_steps named numbers) x) (ref_layered tokens_pass x) → SizedPlace (made.reference_made named numbers (roll-RawRef x)) (tree.ref_tokens (roll-RawRef x))
  reference_rolls x = two_ways SizedPlace (ref_rolled (made_steps named numbers) x) (ref_rolled tokens_pass x)

  pub conjunction_rolls : (x : CandLayer) → SizedTest (cand_layered (made_steps named numbers) x) (cand_layered tokens_pass x) → SizedTest (made.conjunction_made named numbers (roll-RawCand x)) (tree.cand_tokens (roll-RawCand x))
  conjunction_rolls x = two_ways SizedTest (cand_rolled (made_steps named numbers) x) (cand_rolled tokens_pass x)

  pub comparison_rolls : (x : CmpLayer) → SizedTest (cmp_layered (made_steps named numbers) x) (cmp_layered tokens_pass x) → SizedTest (made.comparison_made named numbers (roll-RawCmp x)) (tree.cmp_tokens (roll-RawCmp x))
  comparison_rolls x = two_ways SizedTest (cmp_rolled (made_steps named numbers) x) (cmp_rolled tokens_pass x)

  pub condition_rolls : (x : CondLayer) → SizedTest (cond_layered (made_steps named numbers) x) (cond_layered tokens_pass x) → SizedTest (made.condition_made named numbers (roll-RawCond x)) (tree.cond_tokens (roll-RawCond x))
  condition_rolls x = two_ways SizedTest (cond_rolled (made_steps named numbers) x) (cond_rolled tokens_pass x)

  pub differ_rolls : (x : DifferLayer) → Sized (differ_layered (made_steps named numbers) x) (differ_layered tokens_pass x) → Sized (made.differ_made named numbers (roll-RawDiffer x)) (tree.differ_tokens (roll-RawDiffer x))
  differ_rolls x = two_ways Sized (differ_rolled (made_steps named numbers) x) (differ_rolled tokens_pass x)

  pub mask_rolls : (x : MaskLayer) → Sized (mask_layered (made_steps named numbers) x) (mask_layered tokens_pass x) → Sized (made.mask_made named numbers (roll-RawMask x)) (tree.mask_tokens (roll-RawMask x))
  mask_rolls x = two_ways Sized (mask_rolled (made_steps named numbers) x) (mask_rolled tokens_pass x)

  pub prim_rolls : (x : PrimLayer) → Sized (prim_layered (made_steps named numbers) x) (prim_layered tokens_pass x) → Sized (made.prim_made named numbers (roll-RawPrim x)) (tree.prim_tokens (roll-RawPrim x))
  prim_rolls x = two_ways Sized (prim_rolled (made_steps named numbers) x) (prim_rolled tokens_pass x)

  pub sum_rolls : (x : SumLayer) → Sized (sum_layered (made_steps named numbers) x) (sum_layered tokens_pass x) → Sized (made.sum_made named numbers (roll-RawSum x)) (tree.sum_tokens (roll-RawSum x))
  sum_rolls x = two_ways Sized (sum_rolled (made_steps named numbers) x) (sum_rolled tokens_pass x)

  pub term_rolls : (x : TermLayer) → Sized (term_layered (made_steps named numbers) x) (term_layered tokens_pass x) → Sized (made.term_made named numbers (roll-RawTerm x)) (tree.term_tokens (roll-RawTerm x))
  term_rolls x = two_ways Sized (term_rolled (made_steps named numbers) x) (term_rolled tokens_pass x)

  pub union_rolls : (x : UnionLayer) → Sized (union_layered (made_steps named numbers) x) (union_layered tokens_pass x) → Sized (made.union_made named numbers (roll-RawUnion x)) (tree.union_tokens (roll-RawUnion x))
  union_rolls x = two_ways Sized (union_rolled (made_steps named numbers) x) (union_rolled tokens_pass x)
