-- Expressions and conditions by their first layer: their canonical tokens, and the same with all positions as one.
use Rattle.std.proofs.Common.{◌≡◌, ℕ, List, [], ◌∷◌, ◌++◌, map, Option, sym, ap, ◌∙◌}
use Rattle.std.specs.Prelude.{option_map}
use Rattle.cw_lex.specs.declared.token.Symbol.TheVariants as symbols
use Rattle.cw_lex.specs.declared.token.Word.TheVariants as words
use Rattle.cw_tree.specs.declared.leaf.Position.{Position}
use Rattle.cw_tree.specs.declared.leaf.RawName.{RawName}
use Rattle.cw_tree.specs.declared.leaf.RawNumber.{RawNumber}
use Rattle.cw_tree.specs.declared.leaf.RawOctal.{RawOctal}
use Rattle.cw_tree.specs.declared.leaf.RawLiteral.{RawLiteral}
use Rattle.cw_tree.specs.declared.leaf.RawType.{RawType}
use Rattle.cw_tree.specs.declared.leaf.RawSign.{RawSign}
use Rattle.cw_tree.specs.declared.leaf.RawFactorSign.{RawFactorSign}
use Rattle.cw_tree.specs.declared.leaf.RawCompareSign.{RawCompareSign}
use Rattle.cw_tree.specs.declared.expression.RawBits.{RawBits}
use Rattle.cw_tree.specs.declared.expression.RawExpr.{RawExpr, roll-RawExpr}
use Rattle.cw_tree.specs.declared.expression.RawPrimary.{RawPrimary, roll-RawPrimary}
use Rattle.cw_tree.specs.declared.expression.RawRef.{RawRef, roll-RawRef}
use Rattle.cw_tree.specs.declared.expression.RawCand.{RawCand, roll-RawCand}
use Rattle.cw_tree.specs.declared.expression.RawCmp.{RawCmp, roll-RawCmp}
use Rattle.cw_tree.specs.declared.expression.RawCond.{RawCond, roll-RawCond}
use Rattle.cw_tree.specs.declared.expression.RawDiffer.{RawDiffer, out-RawDiffer, roll-RawDiffer}
use Rattle.cw_tree.specs.declared.expression.RawMask.{RawMask, out-RawMask, roll-RawMask}
use Rattle.cw_tree.specs.declared.expression.RawPrim.{RawPrim, roll-RawPrim}
use Rattle.cw_tree.specs.declared.expression.RawSum.{RawSum, roll-RawSum}
use Rattle.cw_tree.specs.declared.expression.RawTerm.{RawTerm, out-RawTerm, roll-RawTerm}
use Rattle.cw_tree.specs.declared.expression.RawUnion.{RawUnion, out-RawUnion, roll-RawUnion}
use Rattle.cw_tree.specs.declared.expression.RawExpr.TheVariants as expr_tree
use Rattle.cw_tree.specs.declared.expression.RawPrimary.TheVariants as primary_tree
use Rattle.cw_tree.specs.declared.expression.RawRef.TheVariants as ref_tree
use Rattle.cw_tree.proofs.Expressions.{ExpressionSteps, expression_steps, of_expression-Choice, of_expression-Sum, of_primary-Bracket, of_primary-Call, of_primary-Forced, of_primary-Literal, of_primary-Location, of_primary-Number, of_primary-Octal, of_primary-Ref, of_primary-Text, of_reference-Bare, of_reference-Name, of_reference-One, of_reference-Two}
use Rattle.cw_grammar.specs.Trees.{Operands}
use Rattle.cw_derived.proofs.Layers.{ExprLayer, PrimaryLayer, RefLayer}
use Rattle.cw_show.specs.Spelling.{word, symbol}
use Rattle.cw_show.specs.Canonical.{Tokens, name, number, literal, string, octal_tokens, add_symbol, multiply_symbol, compare_symbol, sign_tokens, type_tokens, between, operation, joined, comma, bracketed, indexed}
use Rattle.cw_show.specs.ExpressionTokens.{bits_tokens, expr_step, primary_step, ref_step, cand_step, cmp_step, cond_step, differ_step, mask_step, prim_step, sum_step, term_step, union_step, expr_tokens, primary_tokens, ref_tokens, cand_tokens, cmp_tokens, cond_tokens, differ_tokens, mask_tokens, prim_tokens, sum_tokens, term_tokens, union_tokens}
use Rattle.cw_tokens.proofs.Passes.{Pass, expr_layered, primary_layered, ref_layered, expr_rolled, primary_rolled, ref_rolled, cand_rolled, cmp_rolled, cond_rolled, differ_rolled, mask_rolled, prim_rolled, sum_rolled, term_rolled, union_rolled}
use Rattle.cw_read_back.specs.Expressions.Unplaced.{unplaced_sign, unplaced_factor, unplaced_compare, unplaced_bits, unplaced_all, unplaced_expr_step, unplaced_primary_step, unplaced_ref_step, unplaced_cand_step, unplaced_cmp_step, unplaced_cond_step, unplaced_differ_step, unplaced_mask_step, unplaced_prim_step, unplaced_sum_step, unplaced_term_step, unplaced_union_step, unplaced_expr, unplaced_primary, unplaced_ref, unplaced_cmp, unplaced_differ, unplaced_mask, unplaced_prim, unplaced_sum, unplaced_term, unplaced_union}

-- what is made of each part: its canonical tokens, and the part with all positions as one

abbrev written : Pass Tokens
written = expression_steps expr_step primary_step ref_step cand_step cmp_step cond_step differ_step mask_step prim_step sum_step term_step union_step

abbrev pub bare : ExpressionSteps RawExpr RawPrimary RawRef RawCand RawCmp RawCond RawDiffer RawMask RawPrim RawSum RawTerm RawUnion
bare = expression_steps unplaced_expr_step unplaced_primary_step unplaced_ref_step unplaced_cand_step unplaced_cmp_step unplaced_cond_step unplaced_differ_step unplaced_mask_step unplaced_prim_step unplaced_sum_step unplaced_term_step unplaced_union_step

-- ---- the tokens of a tree

pub choice-tokens : (at : Position) (c : RawCond) (x : RawExpr) (y : RawExpr) → expr_tokens (expr_tree.Choice at c x y) ≡ word words.If ∷ (cond_tokens c ++ word words.Then ∷ (expr_tokens x ++ word words.Else ∷ expr_tokens y))
choice-tokens at c x y = of_expression-Choice written at c x y

pub sum_expr-tokens : (x : RawSum) → expr_tokens (expr_tree.Sum x) ≡ sum_tokens x
sum_expr-tokens x = of_expression-Sum written x

pub number-tokens : (n : RawNumber) → primary_tokens (primary_tree.Number n) ≡ number n.number ∷ []
number-tokens n = of_primary-Number written n

pub octal-tokens : (n : RawOctal) → primary_tokens (primary_tree.Octal n) ≡ octal_tokens n
octal-tokens n = of_primary-Octal written n

pub literal-tokens : (c : RawLiteral) → primary_tokens (primary_tree.Literal c) ≡ literal c.byte ∷ []
literal-tokens c = of_primary-Literal written c

pub string-tokens : (at : Position) (cs : List ℕ) → primary_tokens (primary_tree.Text at cs) ≡ string cs ∷ []
string-tokens at cs = of_primary-Text written at cs

pub location-tokens : (at : Position) (r : RawRef) → primary_tokens (primary_tree.Location at r) ≡ word words.Location ∷ bracketed (ref_tokens r)
location-tokens at r = of_primary-Location written at r

pub forced-tokens : (t : RawType) (x : RawExpr) → primary_tokens (primary_tree.Forced t x) ≡ type_tokens t ++ bracketed (expr_tokens x)
forced-tokens t x = of_primary-Forced written t x

pub bracket-tokens : (at : Position) (x : RawExpr) → primary_tokens (primary_tree.Bracket at x) ≡ bracketed (expr_tokens x)
bracket-tokens at x = of_primary-Bracket written at x

pub referred-tokens : (r : RawRef) → primary_tokens (primary_tree.Ref r) ≡ ref_tokens r
referred-tokens r = of_primary-Ref written r

pub call-tokens : (f : RawName) (xs : List RawExpr) → primary_tokens (primary_tree.Call f xs) ≡ name f.name ∷ bracketed (between comma (map expr_tokens xs))
call-tokens f xs = of_primary-Call written f xs

pub named-tokens : (f : RawName) → ref_tokens (ref_tree.Name f) ≡ name f.name ∷ []
named-tokens f = of_reference-Name written f

pub one_index-tokens : (f : RawName) (x : RawExpr) → ref_tokens (ref_tree.One f x) ≡ name f.name ∷ indexed (expr_tokens x)
one_index-tokens f x = of_reference-One written f x

pub two_indexes-tokens : (f : RawName) (x : RawExpr) (y : RawExpr) → ref_tokens (ref_tree.Two f x y) ≡ name f.name ∷ symbol symbols.OpenSquare ∷ (expr_tokens x ++ comma ∷ (expr_tokens y ++ symbol symbols.CloseSquare ∷ []))
two_indexes-tokens f x y = of_reference-Two written f x y

pub bare-tokens : (at : Position) (x : RawExpr) → ref_tokens (ref_tree.Bare at x) ≡ indexed (expr_tokens x)
bare-tokens at x = of_reference-Bare written at x

-- ---- trees that are the same but for positions, by their layers

abbrev pub expr_bare : ExprLayer → RawExpr
expr_bare = expr_layered bare

pub same_expr : (k l : ExprLayer) {d x : RawExpr} → roll-RawExpr k ≡ d → roll-RawExpr l ≡ x → expr_bare k ≡ expr_bare l → unplaced_expr d ≡ unplaced_expr x
same_expr k l p q e = ap unplaced_expr (sym p) ∙ expr_rolled bare k ∙ e ∙ sym (expr_rolled bare l) ∙ ap unplaced_expr q

abbrev pub primary_bare : PrimaryLayer → RawPrimary
primary_bare = primary_layered bare

pub same_primary : (k l : PrimaryLayer) {d x : RawPrimary} → roll-RawPrimary k ≡ d → roll-RawPrimary l ≡ x → primary_bare k ≡ primary_bare l → unplaced_primary d ≡ unplaced_primary x
same_primary k l p q e = ap unplaced_primary (sym p) ∙ primary_rolled bare k ∙ e ∙ sym (primary_rolled bare l) ∙ ap unplaced_primary q

abbrev pub ref_bare : RefLayer → RawRef
ref_bare = ref_layered bare

pub same_ref : (k l : RefLayer) {d x : RawRef} → roll-RawRef k ≡ d → roll-RawRef l ≡ x → ref_bare k ≡ ref_bare l → unplaced_ref d ≡ unplaced_ref x
same_ref k l p q e = ap unplaced_ref (sym p) ∙ ref_rolled bare k ∙ e ∙ sym (ref_rolled bare l) ∙ ap unplaced_ref q

-- ---- trees of one form

pub cand-tokens : (xs : List RawCmp) (ops : List Position) → cand_tokens (roll-RawCand (record { operands = xs; operators = ops })) ≡ between (word words.And) (map cmp_tokens xs)
cand-tokens xs ops = cand_rolled written (record { operands = xs; operators = ops })

pub cond-tokens : (xs : List RawCand) (ops : List Position) → cond_tokens (roll-RawCond (record { operands = xs; operators = ops })) ≡ between (word words.Or) (map cand_tokens xs)
cond-tokens xs ops = cond_rolled written (record { operands = xs; operators = ops })

pub differ-tokens : (xs : List RawUnion) (ops : List Position) → differ_tokens (roll-RawDiffer (record { operands = xs; operators = ops })) ≡ between (word words.Differ) (map union_tokens xs)
differ-tokens xs ops = differ_rolled written (record { operands = xs; operators = ops })

pub differ-bare : (xs : List RawUnion) (ops : List Position) → unplaced_differ (roll-RawDiffer (record { operands = xs; operators = ops })) ≡ roll-RawDiffer (record { operands = map unplaced_union xs; operators = unplaced_all ops })
differ-bare xs ops = differ_rolled bare (record { operands = xs; operators = ops })

pub mask-tokens : (xs : List RawPrim) (ops : List Position) → mask_tokens (roll-RawMask (record { operands = xs; operators = ops })) ≡ between (word words.Mask) (map prim_tokens xs)
mask-tokens xs ops = mask_rolled written (record { operands = xs; operators = ops })

pub mask-bare : (xs : List RawPrim) (ops : List Position) → unplaced_mask (roll-RawMask (record { operands = xs; operators = ops })) ≡ roll-RawMask (record { operands = map unplaced_prim xs; operators = unplaced_all ops })
mask-bare xs ops = mask_rolled bare (record { operands = xs; operators = ops })

pub union-tokens : (xs : List RawMask) (ops : List Position) → union_tokens (roll-RawUnion (record { operands = xs; operators = ops })) ≡ between (word words.Union) (map mask_tokens xs)
union-tokens xs ops = union_rolled written (record { operands = xs; operators = ops })

pub union-bare : (xs : List RawMask) (ops : List Position) → unplaced_union (roll-RawUnion (record { operands = xs; operators = ops })) ≡ roll-RawUnion (record { operands = map unplaced_mask xs; operators = unplaced_all ops })
union-bare xs ops = union_rolled bare (record { operands = xs; operators = ops })

pub cmp-tokens : (x : RawSum) (op : RawCompareSign) (y : RawSum) → cmp_tokens (roll-RawCmp (record { left = x; operator = op; right = y })) ≡ sum_tokens x ++ compare_symbol op.op ∷ sum_tokens y
cmp-tokens x op y = cmp_rolled written (record { left = x; operator = op; right = y })

pub cmp-bare : (x : RawSum) (op : RawCompareSign) (y : RawSum) → unplaced_cmp (roll-RawCmp (record { left = x; operator = op; right = y })) ≡ roll-RawCmp (record { left = unplaced_sum x; operator = unplaced_compare op; right = unplaced_sum y })
cmp-bare x op y = cmp_rolled bare (record { left = x; operator = op; right = y })

pub prim-tokens : (bits : List RawBits) (x : RawPrimary) → prim_tokens (roll-RawPrim (record { bits = bits; primary = x })) ≡ joined (map bits_tokens bits) ++ primary_tokens x
prim-tokens bits x = prim_rolled written (record { bits = bits; primary = x })

pub prim-bare : (bits : List RawBits) (x : RawPrimary) → unplaced_prim (roll-RawPrim (record { bits = bits; primary = x })) ≡ roll-RawPrim (record { bits = map unplaced_bits bits; primary = unplaced_primary x })
prim-bare bits x = prim_rolled bare (record { bits = bits; primary = x })

pub sum-tokens : (sign : Option RawSign) (xs : List RawTerm) (ops : List RawSign) → sum_tokens (roll-RawSum (record { sign = sign; operands = xs; operators = ops })) ≡ sign_tokens sign ++ operation (map (λ s. add_symbol s.op) ops) (map term_tokens xs)
sum-tokens sign xs ops = sum_rolled written (record { sign = sign; operands = xs; operators = ops })

pub sum-bare : (sign : Option RawSign) (xs : List RawTerm) (ops : List RawSign) → unplaced_sum (roll-RawSum (record { sign = sign; operands = xs; operators = ops })) ≡ roll-RawSum (record { sign = option_map unplaced_sign sign; operands = map unplaced_term xs; operators = map unplaced_sign ops })
sum-bare sign xs ops = sum_rolled bare (record { sign = sign; operands = xs; operators = ops })

pub term-tokens : (xs : List RawDiffer) (ops : List RawFactorSign) → term_tokens (roll-RawTerm (record { operands = xs; operators = ops })) ≡ operation (map (λ s. multiply_symbol s.op) ops) (map differ_tokens xs)
term-tokens xs ops = term_rolled written (record { operands = xs; operators = ops })

pub term-bare : (xs : List RawDiffer) (ops : List RawFactorSign) → unplaced_term (roll-RawTerm (record { operands = xs; operators = ops })) ≡ roll-RawTerm (record { operands = map unplaced_differ xs; operators = map unplaced_factor ops })
term-bare xs ops = term_rolled bare (record { operands = xs; operators = ops })

-- the operands and operators of an operation

abbrev pub mask_parts : RawMask → Operands RawPrim Position
mask_parts x = ((out-RawMask x).operands, (out-RawMask x).operators)

abbrev pub union_parts : RawUnion → Operands RawMask Position
union_parts x = ((out-RawUnion x).operands, (out-RawUnion x).operators)

abbrev pub differ_parts : RawDiffer → Operands RawUnion Position
differ_parts x = ((out-RawDiffer x).operands, (out-RawDiffer x).operators)

abbrev pub term_parts : RawTerm → Operands RawDiffer RawFactorSign
term_parts x = ((out-RawTerm x).operands, (out-RawTerm x).operators)
