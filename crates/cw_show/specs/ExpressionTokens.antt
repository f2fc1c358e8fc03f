-- The canonical tokens of expressions and conditions. Round brackets stand where the tree has one.
use Rattle.std.specs.Prelude.{ℕ, List, [], ◌∷◌, ◌++◌, map, Option, Some, None, slice_get}
use Rattle.cw_tree.specs.declared.leaf.RawSign.{RawSign}
use Rattle.cw_tree.specs.declared.leaf.RawFactorSign.{RawFactorSign}
use Rattle.cw_lex.specs.declared.token.Symbol.TheVariants as symbols
use Rattle.cw_lex.specs.declared.token.Word.TheVariants as words
use Rattle.cw_tree.specs.declared.expression.RawBits.{RawBits}
use Rattle.cw_tree.specs.declared.expression.RawExpr.TheOpen as layer
use Rattle.cw_tree.specs.declared.expression.RawExpr.TheOpen.{RawExpr-F, RawPrimary-F, RawRef-F, RawCand-F, RawCmp-F, RawCond-F, RawDiffer-F}
use Rattle.cw_tree.specs.declared.expression.RawExpr.TheOpen.{RawMask-F, RawPrim-F, RawSum-F, RawTerm-F, RawUnion-F}
use Rattle.cw_tree.specs.declared.expression.RawExpr.{RawExpr, fold-RawExpr}
use Rattle.cw_tree.specs.declared.expression.RawPrimary.{RawPrimary, fold-RawPrimary}
use Rattle.cw_tree.specs.declared.expression.RawRef.{RawRef, fold-RawRef}
use Rattle.cw_tree.specs.declared.expression.RawCand.{RawCand, fold-RawCand}
use Rattle.cw_tree.specs.declared.expression.RawCmp.{RawCmp, fold-RawCmp}
use Rattle.cw_tree.specs.declared.expression.RawCond.{RawCond, fold-RawCond}
use Rattle.cw_tree.specs.declared.expression.RawDiffer.{RawDiffer, fold-RawDiffer}
use Rattle.cw_tree.specs.declared.expression.RawMask.{RawMask, fold-RawMask}
use Rattle.cw_tree.specs.declared.expression.RawPrim.{RawPrim, fold-RawPrim}
use Rattle.cw_tree.specs.declared.expression.RawSum.{RawSum, fold-RawSum}
use Rattle.cw_tree.specs.declared.expression.RawTerm.{RawTerm, fold-RawTerm}
use Rattle.cw_tree.specs.declared.expression.RawUnion.{RawUnion, fold-RawUnion}
use Rattle.cw_show.specs.Spelling.{Spelling, word, symbol}
use Rattle.cw_show.specs.Canonical.{Tokens, name, number, literal, string, octal_tokens, add_symbol, multiply_symbol, compare_symbol}
use Rattle.cw_show.specs.Canonical.{sign_tokens, size_tokens, type_tokens, between, operation, joined, comma, bracketed, indexed}

abbrev pub bits_tokens : RawBits → Tokens
bits_tokens b = word words.Bits ∷ size_tokens b.size

abbrev pub expr_step : RawExpr-F Tokens Tokens Tokens Tokens Tokens Tokens Tokens Tokens Tokens Tokens Tokens Tokens → Tokens
expr_step (layer.Choice at c a b) = word words.If ∷ (c ++ word words.Then ∷ (a ++ word words.Else ∷ b))
expr_step (layer.Sum s) = s

abbrev pub primary_step : RawPrimary-F Tokens Tokens Tokens Tokens Tokens Tokens Tokens Tokens Tokens Tokens Tokens Tokens → Tokens
primary_step (layer.Number n) = number n.number ∷ []
primary_step (layer.Octal o) = octal_tokens o
primary_step (layer.Literal c) = literal c.byte ∷ []
primary_step (layer.Text at characters) = string characters ∷ []
primary_step (layer.Location at r) = word words.Location ∷ bracketed r
primary_step (layer.Forced t e) = type_tokens t ++ bracketed e
primary_step (layer.Bracket at e) = bracketed e
primary_step (layer.Ref r) = r
primary_step (layer.Call f xs) = name f.name ∷ bracketed (between comma xs)

abbrev pub ref_step : RawRef-F Tokens Tokens Tokens Tokens Tokens Tokens Tokens Tokens Tokens Tokens Tokens Tokens → Tokens
ref_step (layer.Name n) = name n.name ∷ []
ref_step (layer.One n e) = name n.name ∷ indexed e
ref_step (layer.Two n e d) = name n.name ∷ symbol symbols.OpenSquare ∷ (e ++ comma ∷ (d ++ symbol symbols.CloseSquare ∷ []))
ref_step (layer.Bare at e) = indexed e

abbrev pub cand_step : RawCand-F Tokens Tokens Tokens Tokens Tokens Tokens Tokens Tokens Tokens Tokens Tokens Tokens → Tokens
cand_step x = between (word words.And) x.operands

abbrev pub cond_step : RawCond-F Tokens Tokens Tokens Tokens Tokens Tokens Tokens Tokens Tokens Tokens Tokens Tokens → Tokens
cond_step x = between (word words.Or) x.operands

abbrev pub differ_step : RawDiffer-F Tokens Tokens Tokens Tokens Tokens Tokens Tokens Tokens Tokens Tokens Tokens Tokens → Tokens
differ_step x = between (word words.Differ) x.operands

abbrev pub mask_step : RawMask-F Tokens Tokens Tokens Tokens Tokens Tokens Tokens Tokens Tokens Tokens Tokens Tokens → Tokens
mask_step x = between (word words.Mask) x.operands

abbrev pub union_step : RawUnion-F Tokens Tokens Tokens Tokens Tokens Tokens Tokens Tokens Tokens Tokens Tokens Tokens → Tokens
union_step x = between (word words.Union) x.operands

abbrev pub cmp_step : RawCmp-F Tokens Tokens Tokens Tokens Tokens Tokens Tokens Tokens Tokens Tokens Tokens Tokens → Tokens
cmp_step x = x.left ++ compare_symbol x.operator.op ∷ x.right

abbrev pub prim_step : RawPrim-F Tokens Tokens Tokens Tokens Tokens Tokens Tokens Tokens Tokens Tokens Tokens Tokens → Tokens
prim_step x = joined (map bits_tokens x.bits) ++ x.primary

abbrev pub sum_step : RawSum-F Tokens Tokens Tokens Tokens Tokens Tokens Tokens Tokens Tokens Tokens Tokens Tokens → Tokens
sum_step x = sign_tokens x.sign ++ operation (map (λ s. add_symbol s.op) x.operators) x.operands

abbrev pub term_step : RawTerm-F Tokens Tokens Tokens Tokens Tokens Tokens Tokens Tokens Tokens Tokens Tokens Tokens → Tokens
term_step x = operation (map (λ s. multiply_symbol s.op) x.operators) x.operands

abbrev pub expr_tokens : RawExpr → Tokens
expr_tokens =
    fold-RawExpr Tokens Tokens Tokens Tokens Tokens Tokens Tokens Tokens Tokens Tokens Tokens Tokens
    expr_step primary_step ref_step cand_step cmp_step cond_step differ_step mask_step prim_step sum_step term_step union_step

abbrev pub primary_tokens : RawPrimary → Tokens
primary_tokens =
    fold-RawPrimary Tokens Tokens Tokens Tokens Tokens Tokens Tokens Tokens Tokens Tokens Tokens Tokens
    expr_step primary_step ref_step cand_step cmp_step cond_step differ_step mask_step prim_step sum_step term_step union_step

abbrev pub ref_tokens : RawRef → Tokens
ref_tokens =
    fold-RawRef Tokens Tokens Tokens Tokens Tokens Tokens Tokens Tokens Tokens Tokens Tokens Tokens
    expr_step primary_step ref_step cand_step cmp_step cond_step differ_step mask_step prim_step sum_step term_step union_step

abbrev pub cand_tokens : RawCand → Tokens
cand_tokens =
    fold-RawCand Tokens Tokens Tokens Tokens Tokens Tokens Tokens Tokens Tokens Tokens Tokens Tokens
    expr_step primary_step ref_step cand_step cmp_step cond_step differ_step mask_step prim_step sum_step term_step union_step

abbrev pub cmp_tokens : RawCmp → Tokens
cmp_tokens =
    fold-RawCmp Tokens Tokens Tokens Tokens Tokens Tokens Tokens Tokens Tokens Tokens Tokens Tokens
    expr_step primary_step ref_step cand_step cmp_step cond_step differ_step mask_step prim_step sum_step term_step union_step

abbrev pub cond_tokens : RawCond → Tokens
cond_tokens =
    fold-RawCond Tokens Tokens Tokens Tokens Tokens Tokens Tokens Tokens Tokens Tokens Tokens Tokens
    expr_step primary_step ref_step cand_step cmp_step cond_step differ_step mask_step prim_step sum_step term_step union_step

abbrev pub differ_tokens : RawDiffer → Tokens
differ_tokens =
    fold-RawDiffer Tokens Tokens Tokens Tokens Tokens Tokens Tokens Tokens Tokens Tokens Tokens Tokens
    expr_step primary_step ref_step cand_step cmp_step cond_step differ_step mask_step prim_step sum_step term_step union_step

abbrev pub mask_tokens : RawMask → Tokens
mask_tokens =
    fold-RawMask Tokens Tokens Tokens Tokens Tokens Tokens Tokens Tokens Tokens Tokens Tokens Tokens
    expr_step primary_step ref_step cand_step cmp_step cond_step differ_step mask_step prim_step sum_step term_step union_step

abbrev pub prim_tokens : RawPrim → Tokens
prim_tokens =
    fold-RawPrim Tokens Tokens Tokens Tokens Tokens Tokens Tokens Tokens Tokens Tokens Tokens Tokens
    expr_step primary_step ref_step cand_step cmp_step cond_step differ_step mask_step prim_step sum_step term_step union_step

abbrev pub sum_tokens : RawSum → Tokens
sum_tokens =
    fold-RawSum Tokens Tokens Tokens Tokens Tokens Tokens Tokens Tokens Tokens Tokens Tokens Tokens
    expr_step primary_step ref_step cand_step cmp_step cond_step differ_step mask_step prim_step sum_step term_step union_step

abbrev pub term_tokens : RawTerm → Tokens
term_tokens =
    fold-RawTerm Tokens Tokens Tokens Tokens Tokens Tokens Tokens Tokens Tokens Tokens Tokens Tokens
    expr_step primary_step ref_step cand_step cmp_step cond_step differ_step mask_step prim_step sum_step term_step union_step

abbrev pub union_tokens : RawUnion → Tokens
union_tokens =
    fold-RawUnion Tokens Tokens Tokens Tokens Tokens Tokens Tokens Tokens Tokens Tokens Tokens Tokens
    expr_step primary_step ref_step cand_step cmp_step cond_step differ_step mask_step prim_step sum_step term_step union_step

-- the operator of a number, where there is one
abbrev pub at_most_one : Option Spelling → Tokens
at_most_one None = []
at_most_one (Some t) = t ∷ []

abbrev pub operator_at : List Spelling → ℕ → Tokens
operator_at ts at = at_most_one (slice_get ts at)

abbrev pub add_at : List RawSign → ℕ → Tokens
add_at signs at = operator_at (map (λ s. add_symbol s.op) signs) at

abbrev pub multiply_at : List RawFactorSign → ℕ → Tokens
multiply_at signs at = operator_at (map (λ s. multiply_symbol s.op) signs) at
