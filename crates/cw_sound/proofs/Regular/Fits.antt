-- Expressions that are regular and count a token at least: each by its first layer.
use Rattle.std.proofs.Common.{◌≡◌, ℕ, ◌≤◌, Bool, IsTrue, sym, subst}
use Rattle.cw_tree.specs.declared.expression.RawExpr.{RawExpr, roll-RawExpr, out-RawExpr}
use Rattle.cw_tree.specs.declared.expression.RawPrimary.{RawPrimary, roll-RawPrimary, out-RawPrimary}
use Rattle.cw_tree.specs.declared.expression.RawRef.{RawRef, roll-RawRef}
use Rattle.cw_tree.specs.declared.expression.RawCand.{RawCand, roll-RawCand}
use Rattle.cw_tree.specs.declared.expression.RawCmp.{RawCmp, roll-RawCmp}
use Rattle.cw_tree.specs.declared.expression.RawCond.{RawCond, roll-RawCond}
use Rattle.cw_tree.specs.declared.expression.RawDiffer.{RawDiffer, roll-RawDiffer, out-RawDiffer}
use Rattle.cw_tree.specs.declared.expression.RawMask.{RawMask, roll-RawMask, out-RawMask}
use Rattle.cw_tree.specs.declared.expression.RawPrim.{RawPrim, roll-RawPrim, out-RawPrim}
use Rattle.cw_tree.specs.declared.expression.RawSum.{RawSum, roll-RawSum, out-RawSum}
use Rattle.cw_tree.specs.declared.expression.RawTerm.{RawTerm, roll-RawTerm, out-RawTerm}
use Rattle.cw_tree.specs.declared.expression.RawUnion.{RawUnion, roll-RawUnion, out-RawUnion}
use Rattle.cw_tree.specs.declared.expression.RawExpr.TheViews.{roll-out-RawExpr, roll-out-RawPrimary, roll-out-RawDiffer, roll-out-RawMask, roll-out-RawPrim, roll-out-RawSum, roll-out-RawTerm, roll-out-RawUnion}
use Rattle.cw_tokens.specs.TreeTokens as tokens
use Rattle.cw_sound.specs.Expressions.Regular as regular
use Rattle.cw_derived.proofs.Layers.{ExprLayer, PrimaryLayer, RefLayer, CandLayer, CmpLayer, CondLayer, DifferLayer, MaskLayer, PrimLayer, SumLayer, TermLayer, UnionLayer}
use Rattle.cw_tree.proofs.Expressions.{of_primary, of_conjunction, of_comparison, of_differ, of_mask, of_prim, of_sum, of_term, of_union}
use Rattle.cw_sound.proofs.Expressions.Folds.{regular_pass, tokens_pass}
use Rattle.cw_tokens.proofs.Passes as passes
use Rattle.cw_sound.proofs.Expressions.Schema.{Known}
use Rattle.cw_sound.proofs.Expressions.Passes.{related}

pub record Fits (is : Bool) (n : ℕ) : Type 0 where
  pub right : IsTrue is
  pub some : 1 ≤ n

-- the same of equal ones
alike : {a b : Bool} {m n : ℕ} → a ≡ b → m ≡ n → Fits b n → Fits a m
alike e f h = record { right = subst IsTrue (sym e) h.right; some = subst (λ (k : ℕ). 1 ≤ k) (sym f) h.some }

-- the same of equal trees
pub moved : {X : Type 0} (f : X → Bool) (g : X → ℕ) {x y : X} → x ≡ y → Fits (f x) (g x) → Fits (f y) (g y)
moved {X = X} f g e h = subst (λ (z : X). Fits (f z) (g z)) e h

-- ---- trees

abbrev pub fitted : Known
fitted = related regular_pass tokens_pass Fits

-- ---- layers

abbrev pub ExprLayerFits : ExprLayer → Type 0
ExprLayerFits y = Fits (passes.expr_layered regular_pass y) (passes.expr_layered tokens_pass y)

abbrev pub PrimaryLayerFits : PrimaryLayer → Type 0
PrimaryLayerFits y = Fits (passes.primary_layered regular_pass y) (passes.primary_layered tokens_pass y)

abbrev pub RefLayerFits : RefLayer → Type 0
RefLayerFits y = Fits (passes.ref_layered regular_pass y) (passes.ref_layered tokens_pass y)

abbrev pub CandLayerFits : CandLayer → Type 0
CandLayerFits y = Fits (passes.cand_layered regular_pass y) (passes.cand_layered tokens_pass y)

abbrev pub CmpLayerFits : CmpLayer → Type 0
CmpLayerFits y = Fits (passes.cmp_layered regular_pass y) (passes.cmp_layered tokens_pass y)

abbrev pub CondLayerFits : CondLayer → Type 0
CondLayerFits y = Fits (passes.cond_layered regular_pass y) (passes.cond_layered tokens_pass y)

abbrev pub DifferLayerFits : DifferLayer → Type 0
DifferLayerFits y = Fits (passes.differ_layered regular_pass y) (passes.differ_layered tokens_pass y)

abbrev pub MaskLayerFits : MaskLayer → Type 0
MaskLayerFits y = Fits (passes.mask_layered regular_pass y) (passes.mask_layered tokens_pass y)

abbrev pub PrimLayerFits : PrimLayer → Type 0
PrimLayerFits y = Fits (passes.prim_layered regular_pass y) (passes.prim_layered tokens_pass y)

abbrev pub SumLayerFits : SumLayer → Type 0
SumLayerFits y = Fits (passes.sum_layered regular_pass y) (passes.sum_layered tokens_pass y)

abbrev pub TermLayerFits : TermLayer → Type 0
TermLayerFits y = Fits (passes.term_layered regular_pass y) (passes.term_layered tokens_pass y)

abbrev pub UnionLayerFits : UnionLayer → Type 0
UnionLayerFits y = Fits (passes.union_layered regular_pass y) (passes.union_layered tokens_pass y)

-- ---- trees by their layers

pub expr_rolled : (y : ExprLayer) → ExprLayerFits y → fitted.Expr (roll-RawExpr y)
expr_rolled y h = alike (passes.expr_rolled regular_pass y) (passes.expr_rolled tokens_pass y) h

pub primary_rolled : (y : PrimaryLayer) → PrimaryLayerFits y → fitted.Primary (roll-RawPrimary y)
primary_rolled y h = alike (passes.primary_rolled regular_pass y) (passes.primary_rolled tokens_pass y) h

pub ref_rolled : (y : RefLayer) → RefLayerFits y → fitted.Ref (roll-RawRef y)
ref_rolled y h = alike (passes.ref_rolled regular_pass y) (passes.ref_rolled tokens_pass y) h

pub cand_rolled : (y : CandLayer) → CandLayerFits y → fitted.Cand (roll-RawCand y)
cand_rolled y h = alike (passes.cand_rolled regular_pass y) (passes.cand_rolled tokens_pass y) h

pub cmp_rolled : (y : CmpLayer) → CmpLayerFits y → fitted.Cmp (roll-RawCmp y)
cmp_rolled y h = alike (passes.cmp_rolled regular_pass y) (passes.cmp_rolled tokens_pass y) h

pub cond_rolled : (y : CondLayer) → CondLayerFits y → fitted.Cond (roll-RawCond y)
cond_rolled y h = alike (passes.cond_rolled regular_pass y) (passes.cond_rolled tokens_pass y) h

pub differ_rolled : (y : DifferLayer) → DifferLayerFits y → fitted.Differ (roll-RawDiffer y)
differ_rolled y h = alike (passes.differ_rolled regular_pass y) (passes.differ_rolled tokens_pass y) h

pub mask_rolled : (y : MaskLayer) → MaskLayerFits y → fitted.Mask (roll-RawMask y)
mask_rolled y h = alike (passes.mask_rolled regular_pass y) (passes.mask_rolled tokens_pass y) h

pub prim_rolled : (y : PrimLayer) → PrimLayerFits y → fitted.Prim (roll-RawPrim y)
prim_rolled y h = alike (passes.prim_rolled regular_pass y) (passes.prim_rolled tokens_pass y) h

pub sum_rolled : (y : SumLayer) → SumLayerFits y → fitted.Sum (roll-RawSum y)
sum_rolled y h = alike (passes.sum_rolled regular_pass y) (passes.sum_rolled tokens_pass y) h

pub term_rolled : (y : TermLayer) → TermLayerFits y → fitted.Term (roll-RawTerm y)
term_rolled y h = alike (passes.term_rolled regular_pass y) (passes.term_rolled tokens_pass y) h

pub union_rolled : (y : UnionLayer) → UnionLayerFits y → fitted.Union (roll-RawUnion y)
union_rolled y h = alike (passes.union_rolled regular_pass y) (passes.union_rolled tokens_pass y) h

-- ---- layers by their trees

pub record Opened : Type 0 where
  pub expr : (x : RawExpr) → fitted.Expr x → ExprLayerFits (out-RawExpr x)
  pub primary : (x : RawPrimary) → fitted.Primary x → PrimaryLayerFits (out-RawPrimary x)
  pub differ : (x : RawDiffer) → fitted.Differ x → DifferLayerFits (out-RawDiffer x)
  pub mask : (x : RawMask) → fitted.Mask x → MaskLayerFits (out-RawMask x)
  pub prim : (x : RawPrim) → fitted.Prim x → PrimLayerFits (out-RawPrim x)
  pub sum : (x : RawSum) → fitted.Sum x → SumLayerFits (out-RawSum x)
  pub term : (x : RawTerm) → fitted.Term x → TermLayerFits (out-RawTerm x)
  pub union : (x : RawUnion) → fitted.Union x → UnionLayerFits (out-RawUnion x)

pub opened : Opened
opened = record {
  expr = λ x h. alike (sym (passes.expr_rolled regular_pass (out-RawExpr x))) (sym (passes.expr_rolled tokens_pass (out-RawExpr x))) (moved regular.is_regular tokens.expr_tokens (sym (roll-out-RawExpr x)) h);
  primary = λ x h. alike (sym (passes.primary_rolled regular_pass (out-RawPrimary x))) (sym (passes.primary_rolled tokens_pass (out-RawPrimary x))) (moved (of_primary regular_pass) tokens.primary_tokens (sym (roll-out-RawPrimary x)) h);
  differ = λ x h. alike (sym (passes.differ_rolled regular_pass (out-RawDiffer x))) (sym (passes.differ_rolled tokens_pass (out-RawDiffer x))) (moved (of_differ regular_pass) tokens.differ_tokens (sym (roll-out-RawDiffer x)) h);
  mask = λ x h. alike (sym (passes.mask_rolled regular_pass (out-RawMask x))) (sym (passes.mask_rolled tokens_pass (out-RawMask x))) (moved (of_mask regular_pass) tokens.mask_tokens (sym (roll-out-RawMask x)) h);
  prim = λ x h. alike (sym (passes.prim_rolled regular_pass (out-RawPrim x))) (sym (passes.prim_rolled tokens_pass (out-RawPrim x))) (moved (of_prim regular_pass) tokens.prim_tokens (sym (roll-out-RawPrim x)) h);
  sum = λ x h. alike (sym (passes.sum_rolled regular_pass (out-RawSum x))) (sym (passes.sum_rolled tokens_pass (out-RawSum x))) (moved (of_sum regular_pass) tokens.sum_tokens (sym (roll-out-RawSum x)) h);
  term = λ x h. alike (sym (passes.term_rolled regular_pass (out-RawTerm x))) (sym (passes.term_rolled tokens_pass (out-RawTerm x))) (moved (of_term regular_pass) tokens.term_tokens (sym (roll-out-RawTerm x)) h);
  union = λ x h. alike (sym (passes.union_rolled regular_pass (out-RawUnion x))) (sym (passes.union_rolled tokens_pass (out-RawUnion x))) (moved (of_union regular_pass) tokens.union_tokens (sym (roll-out-RawUnion x)) h);
}
