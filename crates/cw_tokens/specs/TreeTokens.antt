-- The least number of tokens that a syntax tree is read from. Brackets round operands are not counted, nor are declarations of data.
use Rattle.std.specs.Prelude.{ℕ, suc, ◌+◌, ◌*◌, List, [], ◌∷◌, length, map, Option, Some, None}
use Rattle.cw_tree.specs.declared.leaf.RawSign.{RawSign}
use Rattle.cw_tree.specs.declared.expression.RawExpr.TheOpen as layer
use Rattle.cw_tree.specs.declared.expression.RawExpr.TheOpen.{RawExpr-F, RawPrimary-F, RawRef-F, RawCand-F, RawCmp-F, RawCond-F, RawDiffer-F}
use Rattle.cw_tree.specs.declared.expression.RawExpr.TheOpen.{RawMask-F, RawPrim-F, RawSum-F, RawTerm-F, RawUnion-F}
use Rattle.cw_tree.specs.declared.expression.RawExpr.{RawExpr, fold-RawExpr}
use Rattle.cw_tree.specs.declared.expression.RawPrimary.{RawPrimary, fold-RawPrimary}
use Rattle.cw_tree.specs.declared.expression.RawRef.{RawRef, fold-RawRef}
use Rattle.cw_tree.specs.declared.expression.RawCand.{RawCand, fold-RawCand}
use Rattle.cw_tree.specs.declared.expression.RawCmp.{RawCmp, fold-RawCmp}
use Rattle.cw_tree.specs.declared.expression.RawCond.{RawCond, fold-RawCond}
use Rattle.cw_tree.specs.declared.expression.RawDiffer.{RawDiffer, fold-RawDiffer}
use Rattle.cw_tree.specs.declared.expression.RawMask.{RawMask, fold-RawMask}
use Rattle.cw_tree.specs.declared.expression.RawPrim.{RawPrim, fold-RawPrim}
use Rattle.cw_tree.specs.declared.expression.RawSum.{RawSum, fold-RawSum}
use Rattle.cw_tree.specs.declared.expression.RawTerm.{RawTerm, fold-RawTerm}
use Rattle.cw_tree.specs.declared.expression.RawUnion.{RawUnion, fold-RawUnion}
use Rattle.cw_tree.specs.declared.statement.RawFelem.{RawFelem}
use Rattle.cw_tree.specs.declared.statement.RawFelem.TheVariants as felem
use Rattle.cw_tree.specs.declared.statement.RawParam.{RawParam}
use Rattle.cw_tree.specs.declared.statement.RawParam.TheVariants as param
use Rattle.cw_tree.specs.declared.statement.RawDecl.TheOpen as form
use Rattle.cw_tree.specs.declared.statement.RawDecl.TheOpen.{RawDecl-F, RawForm-F, RawSimple-F, RawBlock-F, RawProc-F, RawStmt-F}
use Rattle.cw_tree.specs.declared.statement.RawDecl.{RawDecl, fold-RawDecl}
use Rattle.cw_tree.specs.declared.statement.RawForm.{RawForm, fold-RawForm}
use Rattle.cw_tree.specs.declared.statement.RawSimple.{RawSimple, fold-RawSimple}
use Rattle.cw_tree.specs.declared.statement.RawBlock.{RawBlock, fold-RawBlock}
use Rattle.cw_tree.specs.declared.statement.RawProc.{RawProc, fold-RawProc}
use Rattle.cw_tree.specs.declared.statement.RawStmt.{RawStmt, fold-RawStmt}
use Rattle.cw_tree.specs.declared.segment.Raw.{Raw}
use Rattle.cw_tokens.specs.LeastTokens.{separated, arguments}

-- operands, with one sign between any two
abbrev pub between : List ℕ → ℕ
between [] = 0
between (n ∷ ns) = n + separated ns

abbrev pub total : List ℕ → ℕ
total [] = 0
total (n ∷ ns) = n + total ns

-- ---- expressions

-- counts a layer whose parts are counted
abbrev pub CountsLayer : (Type 0 → Type 0 → Type 0 → Type 0 → Type 0 → Type 0 → Type 0 → Type 0 → Type 0 → Type 0 → Type 0 → Type 0 → Type 0) → Type 0
CountsLayer Layer = Layer ℕ ℕ ℕ ℕ ℕ ℕ ℕ ℕ ℕ ℕ ℕ ℕ → ℕ

abbrev pub expr_step : CountsLayer RawExpr-F
-- IF, THEN and ELSE
expr_step (layer.Choice at c a b) = 3 + (c + (a + b))
expr_step (layer.Sum s) = s

abbrev pub primary_step : CountsLayer RawPrimary-F
primary_step (layer.Number n) = 1
primary_step (layer.Octal o) = 1
primary_step (layer.Literal c) = 1
primary_step (layer.Text at characters) = 1
-- LOCATION and brackets
primary_step (layer.Location at r) = 3 + r
-- a type and brackets
primary_step (layer.Forced t e) = 3 + e
primary_step (layer.Bracket at e) = e
primary_step (layer.Ref r) = r
primary_step (layer.Call f xs) = suc (arguments xs)

-- a name, with its indexes in brackets
abbrev pub ref_step : CountsLayer RawRef-F
ref_step (layer.Name n) = 1
ref_step (layer.One n e) = 3 + e
ref_step (layer.Two n e d) = 4 + (e + d)
ref_step (layer.Bare at e) = 2 + e

abbrev pub cand_step : CountsLayer RawCand-F
cand_step x = between x.operands

abbrev pub cond_step : CountsLayer RawCond-F
cond_step x = between x.operands

abbrev pub differ_step : CountsLayer RawDiffer-F
differ_step x = between x.operands

abbrev pub mask_step : CountsLayer RawMask-F
mask_step x = between x.operands

abbrev pub union_step : CountsLayer RawUnion-F
union_step x = between x.operands

abbrev pub cmp_step : CountsLayer RawCmp-F
cmp_step x = suc (x.left + x.right)

-- BITS with two numbers
abbrev pub prim_step : CountsLayer RawPrim-F
prim_step x = 6 * length x.bits + x.primary

abbrev pub sign : Option RawSign → ℕ
sign None = 0
sign (Some s) = 1

abbrev pub sum_step : CountsLayer RawSum-F
sum_step x = sign x.sign + between x.operands

abbrev pub term_step : CountsLayer RawTerm-F
term_step x = between x.operands

abbrev pub expr_tokens : RawExpr → ℕ
expr_tokens =
    fold-RawExpr ℕ ℕ ℕ ℕ ℕ ℕ ℕ ℕ ℕ ℕ ℕ ℕ
    expr_step primary_step ref_step cand_step cmp_step cond_step differ_step mask_step prim_step sum_step term_step union_step

abbrev pub primary_tokens : RawPrimary → ℕ
primary_tokens =
    fold-RawPrimary ℕ ℕ ℕ ℕ ℕ ℕ ℕ ℕ ℕ ℕ ℕ ℕ
    expr_step primary_step ref_step cand_step cmp_step cond_step differ_step mask_step prim_step sum_step term_step union_step

abbrev pub ref_tokens : RawRef → ℕ
ref_tokens =
    fold-RawRef ℕ ℕ ℕ ℕ ℕ ℕ ℕ ℕ ℕ ℕ ℕ ℕ
    expr_step primary_step ref_step cand_step cmp_step cond_step differ_step mask_step prim_step sum_step term_step union_step

abbrev pub cand_tokens : RawCand → ℕ
cand_tokens =
    fold-RawCand ℕ ℕ ℕ ℕ ℕ ℕ ℕ ℕ ℕ ℕ ℕ ℕ
    expr_step primary_step ref_step cand_step cmp_step cond_step differ_step mask_step prim_step sum_step term_step union_step

abbrev pub cmp_tokens : RawCmp → ℕ
cmp_tokens =
    fold-RawCmp ℕ ℕ ℕ ℕ ℕ ℕ ℕ ℕ ℕ ℕ ℕ ℕ
    expr_step primary_step ref_step cand_step cmp_step cond_step differ_step mask_step prim_step sum_step term_step union_step

abbrev pub cond_tokens : RawCond → ℕ
cond_tokens =
    fold-RawCond ℕ ℕ ℕ ℕ ℕ ℕ ℕ ℕ ℕ ℕ ℕ ℕ
    expr_step primary_step ref_step cand_step cmp_step cond_step differ_step mask_step prim_step sum_step term_step union_step

abbrev pub differ_tokens : RawDiffer → ℕ
differ_tokens =
    fold-RawDiffer ℕ ℕ ℕ ℕ ℕ ℕ ℕ ℕ ℕ ℕ ℕ ℕ
    expr_step primary_step ref_step cand_step cmp_step cond_step differ_step mask_step prim_step sum_step term_step union_step

abbrev pub mask_tokens : RawMask → ℕ
mask_tokens =
    fold-RawMask ℕ ℕ ℕ ℕ ℕ ℕ ℕ ℕ ℕ ℕ ℕ ℕ
    expr_step primary_step ref_step cand_step cmp_step cond_step differ_step mask_step prim_step sum_step term_step union_step

abbrev pub prim_tokens : RawPrim → ℕ
prim_tokens =
    fold-RawPrim ℕ ℕ ℕ ℕ ℕ ℕ ℕ ℕ ℕ ℕ ℕ ℕ
    expr_step primary_step ref_step cand_step cmp_step cond_step differ_step mask_step prim_step sum_step term_step union_step

abbrev pub sum_tokens : RawSum → ℕ
sum_tokens =
    fold-RawSum ℕ ℕ ℕ ℕ ℕ ℕ ℕ ℕ ℕ ℕ ℕ ℕ
    expr_step primary_step ref_step cand_step cmp_step cond_step differ_step mask_step prim_step sum_step term_step union_step

abbrev pub term_tokens : RawTerm → ℕ
term_tokens =
    fold-RawTerm ℕ ℕ ℕ ℕ ℕ ℕ ℕ ℕ ℕ ℕ ℕ ℕ
    expr_step primary_step ref_step cand_step cmp_step cond_step differ_step mask_step prim_step sum_step term_step union_step

abbrev pub union_tokens : RawUnion → ℕ
union_tokens =
    fold-RawUnion ℕ ℕ ℕ ℕ ℕ ℕ ℕ ℕ ℕ ℕ ℕ ℕ
    expr_step primary_step ref_step cand_step cmp_step cond_step differ_step mask_step prim_step sum_step term_step union_step

-- ---- statements

-- an element of a FOR, without the sign before it
abbrev pub felem_tokens : RawFelem → ℕ
felem_tokens (felem.One e) = expr_tokens e
felem_tokens (felem.While e c) = suc (expr_tokens e + cond_tokens c)
felem_tokens (felem.Step a b c) = 2 + (expr_tokens a + (expr_tokens b + expr_tokens c))

-- how many parameters are declared together
abbrev pub parameters_of : RawParam → ℕ
parameters_of (param.Value at t ns) = length ns
parameters_of (param.Location at t ns) = length ns
parameters_of (param.Array t ns) = length ns
parameters_of (param.Table t) = 1
parameters_of (param.Label at ns) = length ns
parameters_of (param.Switch at ns) = length ns
parameters_of (param.Proc answer at n is) = 1

-- two tokens for each parameter
abbrev pub param_tokens : RawParam → ℕ
param_tokens p = 2 * parameters_of p

abbrev pub else_tokens : Option ℕ → ℕ
else_tokens None = 0
else_tokens (Some n) = n

abbrev pub decl_step : RawDecl-F ℕ ℕ ℕ ℕ ℕ ℕ → ℕ
decl_step (form.Data d) = 0
decl_step (form.Overlay at b d) = 0
-- SWITCH, its name and the sign; each label with the sign behind it
decl_step (form.Switch at n ns) = 3 + 2 * length ns
decl_step (form.Proc p) = p

abbrev pub form_step : RawForm-F ℕ ℕ ℕ ℕ ℕ ℕ → ℕ
form_step (form.Simple s) = s
-- IF and THEN, and labels behind THEN
form_step (form.If at c ls a b) = 2 + (cond_tokens c + ((2 * length ls + a) + else_tokens b))
-- FOR and DO; each element with the sign before it
form_step (form.For at r es body) = 2 + (ref_tokens r + (separated (map felem_tokens es) + body))

abbrev pub simple_step : RawSimple-F ℕ ℕ ℕ ℕ ℕ ℕ → ℕ
simple_step form.Empty = 0
simple_step (form.Assign r e) = suc (ref_tokens r + expr_tokens e)
-- BITS with two numbers, and the sign
simple_step (form.AssignBits b r e) = 7 + (ref_tokens r + expr_tokens e)
simple_step (form.Goto at n) = 2
simple_step (form.GotoSwitch at n e) = 4 + expr_tokens e
simple_step (form.Call f xs) = suc (arguments (map expr_tokens xs))
simple_step (form.Answer at e) = suc (expr_tokens e)
simple_step (form.Block b) = b

-- BEGIN, the declarations, and each statement with the semicolon or END behind it
abbrev pub block_step : RawBlock-F ℕ ℕ ℕ ℕ ℕ ℕ → ℕ
block_step b = suc (total b.decls + separated b.stmts)

-- PROCEDURE, its name, a semicolon before the body and one behind it
abbrev pub proc_step : RawProc-F ℕ ℕ ℕ ℕ ℕ ℕ → ℕ
proc_step p = 4 + (total (map param_tokens p.params) + p.body)

-- a name and a colon for each label
abbrev pub stmt_step : RawStmt-F ℕ ℕ ℕ ℕ ℕ ℕ → ℕ
stmt_step s = 2 * length s.labels + s.form

abbrev pub decl_tokens : RawDecl → ℕ
decl_tokens = fold-RawDecl ℕ ℕ ℕ ℕ ℕ ℕ decl_step form_step simple_step block_step proc_step stmt_step

abbrev pub form_tokens : RawForm → ℕ
form_tokens = fold-RawForm ℕ ℕ ℕ ℕ ℕ ℕ decl_step form_step simple_step block_step proc_step stmt_step

abbrev pub simple_tokens : RawSimple → ℕ
simple_tokens = fold-RawSimple ℕ ℕ ℕ ℕ ℕ ℕ decl_step form_step simple_step block_step proc_step stmt_step

abbrev pub block_tokens : RawBlock → ℕ
block_tokens = fold-RawBlock ℕ ℕ ℕ ℕ ℕ ℕ decl_step form_step simple_step block_step proc_step stmt_step

abbrev pub proc_tokens : RawProc → ℕ
proc_tokens = fold-RawProc ℕ ℕ ℕ ℕ ℕ ℕ decl_step form_step simple_step block_step proc_step stmt_step

abbrev pub stmt_tokens : RawStmt → ℕ
stmt_tokens = fold-RawStmt ℕ ℕ ℕ ℕ ℕ ℕ decl_step form_step simple_step block_step proc_step stmt_step

-- SEGMENT, its name and FINISH
abbrev pub text_tokens : Raw → ℕ
text_tokens r = 3 + block_tokens r.block
