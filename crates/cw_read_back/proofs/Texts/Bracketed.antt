-- Where the tokens of a tree can be written again, so can those of its operands, of what stands in its bracket, and of the tree of a narrower rule that it is.
use Rattle.std.proofs.Common.{◌≡◌, List, [], ◌∷◌, map, Option, Some, None, sym, subst}
use Rattle.cw_lex.specs.declared.token.Word.TheVariants as words
use Rattle.cw_tree.specs.declared.leaf.RawSign.{RawSign}
use Rattle.cw_tree.specs.declared.leaf.RawFactorSign.{RawFactorSign}
use Rattle.cw_tree.specs.declared.expression.RawBits.{RawBits}
use Rattle.cw_tree.specs.declared.expression.RawExpr.TheOpen as layer
use Rattle.cw_tree.specs.declared.expression.RawExpr.TheViews.{roll-out-RawExpr, roll-out-RawPrimary}
use Rattle.cw_tree.specs.declared.expression.RawExpr.{RawExpr, roll-RawExpr, out-RawExpr}
use Rattle.cw_tree.specs.declared.expression.RawExpr.TheVariants as expr_tree
use Rattle.cw_tree.specs.declared.expression.RawPrimary.{RawPrimary, roll-RawPrimary, out-RawPrimary}
use Rattle.cw_tree.specs.declared.expression.RawPrimary.TheVariants as primary_tree
use Rattle.cw_tree.specs.declared.expression.RawDiffer.{RawDiffer, out-RawDiffer}
use Rattle.cw_tree.specs.declared.expression.RawMask.{RawMask, out-RawMask}
use Rattle.cw_tree.specs.declared.expression.RawPrim.{RawPrim, out-RawPrim}
use Rattle.cw_tree.specs.declared.expression.RawSum.{RawSum, out-RawSum}
use Rattle.cw_tree.specs.declared.expression.RawTerm.{RawTerm, out-RawTerm}
use Rattle.cw_tree.specs.declared.expression.RawUnion.{RawUnion, out-RawUnion}
use Rattle.cw_grammar.specs.Trees.{sole, as_sum, sole_term, as_term, as_differ, as_union, as_mask, as_prim, bracket_primary, bracket_prim, bracket_mask, bracket_union, bracket_differ, bracket_term, bracket_sum}
use Rattle.cw_derived.proofs.Layers.{ExprLayer, PrimaryLayer, held}
use Rattle.cw_derived.proofs.Held.{not_none, same_some, both_steps, both_of}
use Rattle.cw_show.specs.Spelling.{word}
use Rattle.cw_show.specs.Canonical.{add_symbol, multiply_symbol, sign_tokens, operation, joined}
use Rattle.cw_show.specs.ExpressionTokens.{bits_tokens, expr_tokens, primary_tokens, differ_tokens, mask_tokens, prim_tokens, sum_tokens, term_tokens, union_tokens}
use Rattle.cw_read_back.proofs.Expressions.Reading.{Each}
use Rattle.cw_show.proofs.ExpressionLayers.{differ-layer, mask-layer, union-layer, prim-layer, sum-layer, term-layer}
use Rattle.cw_read_back.proofs.Expressions.ExpressionLayers.{sum_expr-tokens, bracket-tokens}
use Rattle.cw_read_back.proofs.Texts.Spelled.{Spelled, rest_of, out_of_brackets, between_parts, operation_parts}

sole_of : {X : Type 0} (P : X → Type 0) (xs : List X) (x : X) → Each P xs → sole xs ≡ Some x → P x
sole_of P [] x h q = absurd (not_none q)
sole_of P (y ∷ []) x h q = subst P (same_some q) h.0
sole_of P (y ∷ z ∷ zs) x h q = absurd (not_none q)

-- ---- operands

pub mask_operands : (x : RawMask) → Spelled (mask_tokens x) → Each (λ (y : RawPrim). Spelled (prim_tokens y)) (out-RawMask x).operands
mask_operands x h = between_parts prim_tokens (word words.Mask) (out-RawMask x).operands (subst Spelled (mask-layer x) h)

pub union_operands : (x : RawUnion) → Spelled (union_tokens x) → Each (λ (y : RawMask). Spelled (mask_tokens y)) (out-RawUnion x).operands
union_operands x h = between_parts mask_tokens (word words.Union) (out-RawUnion x).operands (subst Spelled (union-layer x) h)

pub differ_operands : (x : RawDiffer) → Spelled (differ_tokens x) → Each (λ (y : RawUnion). Spelled (union_tokens y)) (out-RawDiffer x).operands
differ_operands x h = between_parts union_tokens (word words.Differ) (out-RawDiffer x).operands (subst Spelled (differ-layer x) h)

pub term_operands : (x : RawTerm) → Spelled (term_tokens x) → Each (λ (y : RawDiffer). Spelled (differ_tokens y)) (out-RawTerm x).operands
term_operands x h = operation_parts differ_tokens (λ (s : RawFactorSign). multiply_symbol s.op) (out-RawTerm x).operators (out-RawTerm x).operands (subst Spelled (term-layer x) h)

pub sum_operands : (x : RawSum) → Spelled (sum_tokens x) → Each (λ (y : RawTerm). Spelled (term_tokens y)) (out-RawSum x).operands
sum_operands x h =
    let y = out-RawSum x in
    operation_parts term_tokens (λ (s : RawSign). add_symbol s.op) y.operators y.operands
    (rest_of (sign_tokens y.sign) (operation (map (λ (s : RawSign). add_symbol s.op) y.operators) (map term_tokens y.operands)) (subst Spelled (sum-layer x) h))

pub prim_operand : (x : RawPrim) → Spelled (prim_tokens x) → Spelled (primary_tokens (out-RawPrim x).primary)
prim_operand x h =
    let y = out-RawPrim x in
    rest_of (joined (map bits_tokens y.bits)) (primary_tokens y.primary) (subst Spelled (prim-layer x) h)

-- ---- an expression that is a tree of a narrower rule

abbrev summed : ExprLayer → Option RawSum
summed y = elim y [ layer.Choice at c a b ↦ None | layer.Sum s ↦ Some s ]

layer_sum : (l : ExprLayer) (s : RawSum) → Spelled (expr_tokens (roll-RawExpr l)) → summed l ≡ Some s → Spelled (sum_tokens s)
layer_sum (layer.Choice at c a b) s h q = absurd (not_none q)
layer_sum (layer.Sum x) s h q =
    subst (λ (z : RawSum). Spelled (sum_tokens z)) (same_some q) (subst Spelled (sum_expr-tokens x) (subst (λ (z : RawExpr). Spelled (expr_tokens z)) (expr_tree.rolls-Sum x) h))

pub sum_in : (e : RawExpr) (s : RawSum) → Spelled (expr_tokens e) → as_sum e ≡ Some s → Spelled (sum_tokens s)
sum_in e s h q = layer_sum (out-RawExpr e) s (subst (λ (z : RawExpr). Spelled (expr_tokens z)) (sym (roll-out-RawExpr e)) h) q

abbrev unsigned : Option RawSign → List RawTerm → Option RawTerm
unsigned o xs = elim o [ None ↦ sole xs | Some sign ↦ None ]

terms_in : (o : Option RawSign) (xs : List RawTerm) (t : RawTerm) → Each (λ (y : RawTerm). Spelled (term_tokens y)) xs → unsigned o xs ≡ Some t → Spelled (term_tokens t)
terms_in None xs t h q = sole_of (λ (y : RawTerm). Spelled (term_tokens y)) xs t h q
terms_in (Some sign) xs t h q = absurd (not_none q)

term_in : (s : RawSum) (t : RawTerm) → Spelled (sum_tokens s) → sole_term s ≡ Some t → Spelled (term_tokens t)
term_in s t h q = terms_in (out-RawSum s).sign (out-RawSum s).operands t (sum_operands s h) q

differ_in : (t : RawTerm) (d : RawDiffer) → Spelled (term_tokens t) → sole (out-RawTerm t).operands ≡ Some d → Spelled (differ_tokens d)
differ_in t d h q = sole_of (λ (y : RawDiffer). Spelled (differ_tokens y)) (out-RawTerm t).operands d (term_operands t h) q

union_in : (d : RawDiffer) (u : RawUnion) → Spelled (differ_tokens d) → sole (out-RawDiffer d).operands ≡ Some u → Spelled (union_tokens u)
union_in d u h q = sole_of (λ (y : RawUnion). Spelled (union_tokens y)) (out-RawDiffer d).operands u (differ_operands d h) q

mask_in : (u : RawUnion) (m : RawMask) → Spelled (union_tokens u) → sole (out-RawUnion u).operands ≡ Some m → Spelled (mask_tokens m)
mask_in u m h q = sole_of (λ (y : RawMask). Spelled (mask_tokens y)) (out-RawUnion u).operands m (union_operands u h) q

prim_in : (m : RawMask) (p : RawPrim) → Spelled (mask_tokens m) → sole (out-RawMask m).operands ≡ Some p → Spelled (prim_tokens p)
prim_in m p h q = sole_of (λ (y : RawPrim). Spelled (prim_tokens y)) (out-RawMask m).operands p (mask_operands m h) q

pub as_term_in : (e : RawExpr) (t : RawTerm) → Spelled (expr_tokens e) → as_term e ≡ Some t → Spelled (term_tokens t)
as_term_in e t h q = elim (both_of (as_sum e) sole_term t q) [ both_steps y u v ↦ term_in y t (sum_in e y h u) v ]

pub as_differ_in : (e : RawExpr) (d : RawDiffer) → Spelled (expr_tokens e) → as_differ e ≡ Some d → Spelled (differ_tokens d)
as_differ_in e d h q = elim (both_of (as_term e) (λ y. sole (out-RawTerm y).operands) d q) [ both_steps y u v ↦ differ_in y d (as_term_in e y h u) v ]

pub as_union_in : (e : RawExpr) (u : RawUnion) → Spelled (expr_tokens e) → as_union e ≡ Some u → Spelled (union_tokens u)
as_union_in e d h q = elim (both_of (as_differ e) (λ y. sole (out-RawDiffer y).operands) d q) [ both_steps y u v ↦ union_in y d (as_differ_in e y h u) v ]

pub as_mask_in : (e : RawExpr) (m : RawMask) → Spelled (expr_tokens e) → as_mask e ≡ Some m → Spelled (mask_tokens m)
as_mask_in e d h q = elim (both_of (as_union e) (λ y. sole (out-RawUnion y).operands) d q) [ both_steps y u v ↦ mask_in y d (as_union_in e y h u) v ]

pub as_prim_in : (e : RawExpr) (p : RawPrim) → Spelled (expr_tokens e) → as_prim e ≡ Some p → Spelled (prim_tokens p)
as_prim_in e d h q = elim (both_of (as_mask e) (λ y. sole (out-RawMask y).operands) d q) [ both_steps y u v ↦ prim_in y d (as_mask_in e y h u) v ]

-- ---- what a bracket alone holds

layer_held : (l : PrimaryLayer) (e : RawExpr) → Spelled (primary_tokens (roll-RawPrimary l)) → held l ≡ Some e → Spelled (expr_tokens e)
layer_held (layer.Bracket at x) e h q =
    subst (λ (z : RawExpr). Spelled (expr_tokens z)) (same_some q)
    (out_of_brackets (expr_tokens x) (subst Spelled (bracket-tokens at x) (subst (λ (z : RawPrimary). Spelled (primary_tokens z)) (primary_tree.rolls-Bracket at x) h)))
layer_held _ e h q = absurd (not_none q)

pub primary_held : (x : RawPrimary) (e : RawExpr) → Spelled (primary_tokens x) → bracket_primary x ≡ Some e → Spelled (expr_tokens e)
primary_held x e h q = layer_held (out-RawPrimary x) e (subst (λ (z : RawPrimary). Spelled (primary_tokens z)) (sym (roll-out-RawPrimary x)) h) q

abbrev bare : List RawBits → RawPrimary → Option RawExpr
bare bits x = elim bits [ [] ↦ bracket_primary x | b ∷ bs ↦ None ]

bits_held : (bits : List RawBits) (x : RawPrimary) (e : RawExpr) → Spelled (primary_tokens x) → bare bits x ≡ Some e → Spelled (expr_tokens e)
bits_held [] x e h q = primary_held x e h q
bits_held (b ∷ bs) x e h q = absurd (not_none q)

pub prim_held : (p : RawPrim) (e : RawExpr) → Spelled (prim_tokens p) → bracket_prim p ≡ Some e → Spelled (expr_tokens e)
prim_held p e h q = bits_held (out-RawPrim p).bits (out-RawPrim p).primary e (prim_operand p h) q

pub mask_held : (m : RawMask) (e : RawExpr) → Spelled (mask_tokens m) → bracket_mask m ≡ Some e → Spelled (expr_tokens e)
mask_held m e h q = elim (both_of (sole (out-RawMask m).operands) bracket_prim e q) [ both_steps y u v ↦ prim_held y e (prim_in m y h u) v ]

pub union_held : (x : RawUnion) (e : RawExpr) → Spelled (union_tokens x) → bracket_union x ≡ Some e → Spelled (expr_tokens e)
union_held x e h q = elim (both_of (sole (out-RawUnion x).operands) bracket_mask e q) [ both_steps y u v ↦ mask_held y e (mask_in x y h u) v ]

pub differ_held : (x : RawDiffer) (e : RawExpr) → Spelled (differ_tokens x) → bracket_differ x ≡ Some e → Spelled (expr_tokens e)
differ_held x e h q = elim (both_of (sole (out-RawDiffer x).operands) bracket_union e q) [ both_steps y u v ↦ union_held y e (union_in x y h u) v ]

pub term_held : (x : RawTerm) (e : RawExpr) → Spelled (term_tokens x) → bracket_term x ≡ Some e → Spelled (expr_tokens e)
term_held x e h q = elim (both_of (sole (out-RawTerm x).operands) bracket_differ e q) [ both_steps y u v ↦ differ_held y e (differ_in x y h u) v ]

pub sum_held : (x : RawSum) (e : RawExpr) → Spelled (sum_tokens x) → bracket_sum x ≡ Some e → Spelled (expr_tokens e)
sum_held x e h q = elim (both_of (sole_term x) bracket_term e q) [ both_steps y u v ↦ term_held y e (term_in x y h u) v ]
