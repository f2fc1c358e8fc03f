-- What stands in a bracket, and an expression that is a tree of a narrower rule, are regular where the whole is.
use Rattle.std.proofs.Common.{◌≡◌, ℕ, suc, ◌+◌, ◌*◌, ◌≤◌, ◌&&◌, nat_le, IsTrue, List, [], ◌∷◌, length, map, Option, Some, None, subst, arith}
use Rattle.cw_tree.specs.declared.leaf.RawSign.{RawSign}
use Rattle.cw_tree.specs.declared.expression.RawBits.{RawBits}
use Rattle.cw_tree.specs.declared.expression.RawExpr.TheOpen as layer
use Rattle.cw_tree.specs.declared.expression.RawExpr.{RawExpr, out-RawExpr}
use Rattle.cw_tree.specs.declared.expression.RawPrimary.{RawPrimary, out-RawPrimary}
use Rattle.cw_tree.specs.declared.expression.RawDiffer.{RawDiffer, out-RawDiffer}
use Rattle.cw_tree.specs.declared.expression.RawMask.{RawMask, out-RawMask}
use Rattle.cw_tree.specs.declared.expression.RawPrim.{RawPrim, out-RawPrim}
use Rattle.cw_tree.specs.declared.expression.RawSum.{RawSum, out-RawSum}
use Rattle.cw_tree.specs.declared.expression.RawTerm.{RawTerm, out-RawTerm}
use Rattle.cw_tree.specs.declared.expression.RawUnion.{RawUnion, out-RawUnion}
use Rattle.cw_grammar.specs.Trees.{sole, as_sum, sole_term, bracket_primary, bracket_prim}
use Rattle.cw_tokens.specs.TreeTokens as tokens
use Rattle.cw_tree.proofs.Expressions.{of_primary, of_differ, of_mask, of_prim, of_term, of_union}
use Rattle.cw_sound.proofs.Expressions.Folds.{regular_pass}
use Rattle.cw_sound.specs.Expressions.Regular as regular
use Rattle.cw_sound.proofs.Expressions.Truth.{parts}
use Rattle.cw_derived.proofs.Held.{not_none, same_some}
use Rattle.cw_tokens.proofs.Narrowed.{Narrow}
use Rattle.cw_sound.proofs.Regular.Lists.{sole_fits}
use Rattle.cw_derived.proofs.Layers.{ExprLayer, PrimaryLayer, held}
use Rattle.cw_sound.proofs.Regular.Fits.{fitted, ExprLayerFits, PrimaryLayerFits, opened}

-- ---- an expression that is a tree of a narrower rule

abbrev summed : ExprLayer → Option RawSum
summed y = elim y [ layer.Choice at c a b ↦ None | layer.Sum s ↦ Some s ]

layer_sum : (l : ExprLayer) (s : RawSum) → ExprLayerFits l → summed l ≡ Some s → fitted.Sum s
layer_sum (layer.Choice at c a b) s h q = absurd (not_none q)
layer_sum (layer.Sum x) s h q = subst fitted.Sum (same_some q) h

sum_in : (e : RawExpr) (s : RawSum) → fitted.Expr e → as_sum e ≡ Some s → fitted.Sum s
sum_in e s h q = layer_sum (out-RawExpr e) s (opened.expr e h) q

abbrev unsigned : Option RawSign → List RawTerm → Option RawTerm
unsigned o xs = elim o [ None ↦ sole xs | Some sign ↦ None ]

terms_in : (o : Option RawSign) (xs : List RawTerm) (n : ℕ) (t : RawTerm) → IsTrue (nat_le (length (map (of_term regular_pass) xs)) n && regular.all (map (of_term regular_pass) xs)) → 1 ≤ tokens.sign o + tokens.between (map tokens.term_tokens xs) → unsigned o xs ≡ Some t → fitted.Term t
terms_in None xs n t h k q = sole_fits (of_term regular_pass) tokens.term_tokens xs t (parts (nat_le (length (map (of_term regular_pass) xs)) n) (regular.all (map (of_term regular_pass) xs)) h).1 (omega (arith, k)) q
terms_in (Some sign) xs n t h k q = absurd (not_none q)

term_in : (s : RawSum) (t : RawTerm) → fitted.Sum s → sole_term s ≡ Some t → fitted.Term t
term_in s t h q =
    let k = opened.sum s h in
    terms_in (out-RawSum s).sign (out-RawSum s).operands (suc (length (out-RawSum s).operators)) t k.right k.some q

differ_in : (t : RawTerm) (d : RawDiffer) → fitted.Term t → sole (out-RawTerm t).operands ≡ Some d → fitted.Differ d
differ_in t d h q =
    let k = opened.term t h in
    let xs = (out-RawTerm t).operands in
    sole_fits (of_differ regular_pass) tokens.differ_tokens xs d (parts (nat_le (length (map (of_differ regular_pass) xs)) (suc (length (out-RawTerm t).operators))) (regular.all (map (of_differ regular_pass) xs)) k.right).1 k.some q

union_in : (d : RawDiffer) (u : RawUnion) → fitted.Differ d → sole (out-RawDiffer d).operands ≡ Some u → fitted.Union u
union_in d u h q = let k = opened.differ d h in sole_fits (of_union regular_pass) tokens.union_tokens (out-RawDiffer d).operands u k.right k.some q

mask_in : (u : RawUnion) (m : RawMask) → fitted.Union u → sole (out-RawUnion u).operands ≡ Some m → fitted.Mask m
mask_in u m h q = let k = opened.union u h in sole_fits (of_mask regular_pass) tokens.mask_tokens (out-RawUnion u).operands m k.right k.some q

prim_in : (m : RawMask) (p : RawPrim) → fitted.Mask m → sole (out-RawMask m).operands ≡ Some p → fitted.Prim p
prim_in m p h q = let k = opened.mask m h in sole_fits (of_prim regular_pass) tokens.prim_tokens (out-RawMask m).operands p k.right k.some q

-- ---- what a bracket alone holds

layer_held : (l : PrimaryLayer) (e : RawExpr) → PrimaryLayerFits l → held l ≡ Some e → fitted.Expr e
layer_held (layer.Bracket at x) e h q = subst fitted.Expr (same_some q) h
layer_held _ e h q = absurd (not_none q)

primary_held : (x : RawPrimary) (e : RawExpr) → fitted.Primary x → bracket_primary x ≡ Some e → fitted.Expr e
primary_held x e h q = layer_held (out-RawPrimary x) e (opened.primary x h) q

abbrev bare : List RawBits → RawPrimary → Option RawExpr
bare bits x = elim bits [ [] ↦ bracket_primary x | b ∷ bs ↦ None ]

bits_held : (bits : List RawBits) (x : RawPrimary) (e : RawExpr) → IsTrue (of_primary regular_pass x) → 1 ≤ 6 * length bits + tokens.primary_tokens x → bare bits x ≡ Some e → fitted.Expr e
bits_held [] x e h k q = primary_held x e (record { right = h; some = omega (arith, k) }) q
bits_held (b ∷ bs) x e h k q = absurd (not_none q)

prim_held : (p : RawPrim) (e : RawExpr) → fitted.Prim p → bracket_prim p ≡ Some e → fitted.Expr e
prim_held p e h q = let k = opened.prim p h in bits_held (out-RawPrim p).bits (out-RawPrim p).primary e k.right k.some q

pub fitting : Narrow fitted.Expr fitted.Sum fitted.Term fitted.Differ fitted.Union fitted.Mask fitted.Prim fitted.Primary
fitting = record { sum = sum_in; term = term_in; differ = differ_in; union = union_in; mask = mask_in; prim = prim_in; held = prim_held; primary_held = primary_held }
