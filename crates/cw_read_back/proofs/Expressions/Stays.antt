-- A first operand that is not joined to the operands behind it is not joined either where it is the same but for positions.
use Rattle.std.proofs.Common.{◌≡◌, List, [], ◌∷◌, map, Option, Some, None, refl, sym, ap, ◌∙◌}
use Rattle.std.proofs.lemmas.Option.{none-some}
use Rattle.std.specs.Prelude.{option_map}
use Rattle.cw_tree.specs.declared.leaf.RawSign.{RawSign}
use Rattle.cw_tree.specs.declared.expression.RawBits.{RawBits}
use Rattle.cw_tree.specs.declared.expression.RawExpr.TheOpen as layer
use Rattle.cw_tree.specs.declared.expression.RawExpr.TheViews.{out-roll-RawExpr, out-roll-RawPrimary, out-roll-RawPrim, out-roll-RawMask, out-roll-RawUnion, out-roll-RawDiffer, out-roll-RawTerm, out-roll-RawSum}
use Rattle.cw_tree.specs.declared.expression.RawExpr.TheViews.{roll-out-RawExpr, roll-out-RawPrimary, roll-out-RawPrim, roll-out-RawMask, roll-out-RawUnion, roll-out-RawDiffer, roll-out-RawTerm, roll-out-RawSum}
use Rattle.cw_tree.specs.declared.expression.RawExpr.{RawExpr, out-RawExpr}
use Rattle.cw_tree.specs.declared.expression.RawPrimary.{RawPrimary, out-RawPrimary}
use Rattle.cw_tree.specs.declared.expression.RawDiffer.{out-RawDiffer}
use Rattle.cw_tree.specs.declared.expression.RawMask.{out-RawMask}
use Rattle.cw_tree.specs.declared.expression.RawPrim.{out-RawPrim}
use Rattle.cw_tree.specs.declared.expression.RawSum.{RawSum, out-RawSum}
use Rattle.cw_tree.specs.declared.expression.RawTerm.{RawTerm, out-RawTerm}
use Rattle.cw_tree.specs.declared.expression.RawUnion.{out-RawUnion}
use Rattle.cw_grammar.specs.Trees.{sole, ◌>>-◌, Operands, as_sum, sole_term, as_term, as_differ, as_union, as_mask, as_prim, bracket_primary, bracket_prim, bracket_mask, bracket_union, bracket_differ, bracket_term, bracket_sum, mask_tree, union_tree, differ_tree, term_tree}
use Rattle.cw_derived.proofs.Layers.{ExprLayer, PrimaryLayer, PrimLayer, MaskLayer, UnionLayer, DifferLayer, TermLayer, SumLayer, held}
use Rattle.cw_read_back.specs.Expressions.Unplaced.{nowhere, unplaced_number, unplaced_octal, unplaced_literal, unplaced_type, unplaced_name, unplaced_sign, unplaced_factor, unplaced_bits, unplaced_expr, unplaced_primary, unplaced_ref, unplaced_cond, unplaced_differ, unplaced_mask, unplaced_prim, unplaced_sum, unplaced_term, unplaced_union}
use Rattle.cw_read_back.proofs.Expressions.ExpressionLayers.{expr_bare, bare, primary_bare, mask_parts, union_parts, differ_parts, term_parts, differ-bare, mask-bare, union-bare, prim-bare, sum-bare, term-bare}
use Rattle.cw_tokens.proofs.Passes.{expr_rolled, primary_rolled}

-- What is taken out of a tree without positions is what is taken out of the tree, without its positions.
abbrev Keeps : {A B : Type 0} → (A → A) → (B → B) → (A → Option B) → Type 0
Keeps {A = A} f g o = (x : A) → o (f x) ≡ option_map g (o x)

then_kept : {A B C : Type 0} (f : A → A) (g : B → B) (h : C → C) (o : A → Option B) (p : B → Option C) → Keeps f g o → Keeps g h p → Keeps f h (λ x. o x >>- p)
then_kept f g h o p k l x = ap (λ z. z >>- p) (k x) ∙ elim (o x) as (λ z. (option_map g z >>- p) ≡ option_map h (z >>- p)) [ None ↦ refl | Some y ↦ l y ]

sole_kept : {A : Type 0} (f : A → A) (xs : List A) → sole (map f xs) ≡ option_map f (sole xs)
sole_kept f [] = refl
sole_kept f (x ∷ []) = refl
sole_kept f (x ∷ y ∷ xs) = refl

none_kept : {A B : Type 0} (f : A → A) (g : B → B) (o : A → Option B) → Keeps f g o → (x d : A) → f d ≡ f x → o x ≡ None → o d ≡ None
none_kept f g o k x d e h = at (o d) (sym (k d) ∙ ap o e ∙ k x ∙ ap (option_map g) h)
  where
    at : (z : Option _) → option_map g z ≡ None → z ≡ None
    at None q = refl
    at (Some y) q = absurd (none-some (g y) (sym q))

-- ---- an expression as a tree of a narrower rule

abbrev summed : ExprLayer → Option RawSum
summed y = elim y [ layer.Choice at c a b ↦ None | layer.Sum s ↦ Some s ]

pub sum_kept : Keeps unplaced_expr unplaced_sum as_sum
sum_kept e =
    ap (λ z. as_sum (unplaced_expr z)) (sym (roll-out-RawExpr e)) ∙ ap as_sum (expr_rolled bare (out-RawExpr e))
    ∙ elim (out-RawExpr e) as (λ (y : ExprLayer). as_sum (expr_bare y) ≡ option_map unplaced_sum (summed y)) [
      | layer.Choice at c a b ↦ ap summed (out-roll-RawExpr (layer.Choice nowhere (unplaced_cond c) (unplaced_expr a) (unplaced_expr b)))
      | layer.Sum s ↦ ap summed (out-roll-RawExpr (layer.Sum (unplaced_sum s)))
    ]

abbrev unsigned : SumLayer → Option RawTerm
unsigned y = elim y.sign [ None ↦ sole y.operands | Some sign ↦ None ]

unsigned_kept : (o : Option RawSign) (xs : List RawTerm) → elim (option_map unplaced_sign o) [ None ↦ sole (map unplaced_term xs) | Some sign ↦ None ] ≡ option_map unplaced_term (elim o [ None ↦ sole xs | Some sign ↦ None ])
unsigned_kept None xs = sole_kept unplaced_term xs
unsigned_kept (Some s) xs = refl

sole_term_kept : Keeps unplaced_sum unplaced_term sole_term
sole_term_kept s =
    let y : SumLayer = out-RawSum s in
    ap (λ z. sole_term (unplaced_sum z)) (sym (roll-out-RawSum s)) ∙ ap sole_term (sum-bare y.sign y.operands y.operators)
    ∙ ap unsigned (out-roll-RawSum (record { sign = option_map unplaced_sign y.sign; operands = map unplaced_term y.operands; operators = map unplaced_sign y.operators }))
    ∙ unsigned_kept y.sign y.operands

-- the sole operand of an operation
operand_kept : {A B C : Type 0} (f : A → A) (g : B → B) (h : C → C) (tree : Operands B C → A) (parts : A → Operands B C) → ((x : A) → tree (parts x) ≡ x) → ((o : Operands B C) → parts (tree o) ≡ o) → ((xs : List B) (os : List C) → f (tree (xs, os)) ≡ tree (map g xs, map h os))
    → Keeps f g (λ x. sole (parts x).0)
operand_kept {B = B} {C = C} f g h tree parts whole taken bare x =
    let o = parts x in
    ap (λ z. sole (parts (f z)).0) (sym (whole x)) ∙ ap (λ z. sole (parts z).0) (bare o.0 o.1) ∙ ap (λ (z : Operands B C). sole z.0) (taken (map g o.0, map h o.1)) ∙ sole_kept g o.0

sole_differ_kept : Keeps unplaced_term unplaced_differ (λ t. sole (out-RawTerm t).operands)
sole_differ_kept = operand_kept unplaced_term unplaced_differ unplaced_factor term_tree term_parts roll-out-RawTerm (λ o. ap (λ (z : TermLayer). (z.operands, z.operators)) (out-roll-RawTerm (record { operands = o.0; operators = o.1 }))) term-bare

sole_union_kept : Keeps unplaced_differ unplaced_union (λ t. sole (out-RawDiffer t).operands)
sole_union_kept = operand_kept unplaced_differ unplaced_union (λ p. nowhere) differ_tree differ_parts roll-out-RawDiffer (λ o. ap (λ (z : DifferLayer). (z.operands, z.operators)) (out-roll-RawDiffer (record { operands = o.0; operators = o.1 }))) differ-bare

sole_mask_kept : Keeps unplaced_union unplaced_mask (λ t. sole (out-RawUnion t).operands)
sole_mask_kept = operand_kept unplaced_union unplaced_mask (λ p. nowhere) union_tree union_parts roll-out-RawUnion (λ o. ap (λ (z : UnionLayer). (z.operands, z.operators)) (out-roll-RawUnion (record { operands = o.0; operators = o.1 }))) union-bare

sole_prim_kept : Keeps unplaced_mask unplaced_prim (λ t. sole (out-RawMask t).operands)
sole_prim_kept = operand_kept unplaced_mask unplaced_prim (λ p. nowhere) mask_tree mask_parts roll-out-RawMask (λ o. ap (λ (z : MaskLayer). (z.operands, z.operators)) (out-roll-RawMask (record { operands = o.0; operators = o.1 }))) mask-bare

pub term_kept : Keeps unplaced_expr unplaced_term as_term
term_kept = then_kept _ _ _ as_sum sole_term sum_kept sole_term_kept

pub differ_kept : Keeps unplaced_expr unplaced_differ as_differ
differ_kept = then_kept _ _ _ as_term (λ t. sole (out-RawTerm t).operands) term_kept sole_differ_kept

pub union_kept : Keeps unplaced_expr unplaced_union as_union
union_kept = then_kept _ _ _ as_differ (λ t. sole (out-RawDiffer t).operands) differ_kept sole_union_kept

pub mask_kept : Keeps unplaced_expr unplaced_mask as_mask
mask_kept = then_kept _ _ _ as_union (λ t. sole (out-RawUnion t).operands) union_kept sole_mask_kept

pub prim_kept : Keeps unplaced_expr unplaced_prim as_prim
prim_kept = then_kept _ _ _ as_mask (λ t. sole (out-RawMask t).operands) mask_kept sole_prim_kept

-- ---- what stands in a bracket

pub bracket_primary_kept : Keeps unplaced_primary unplaced_expr bracket_primary
bracket_primary_kept p =
    ap (λ z. bracket_primary (unplaced_primary z)) (sym (roll-out-RawPrimary p)) ∙ ap bracket_primary (primary_rolled bare (out-RawPrimary p))
    ∙ elim (out-RawPrimary p) as (λ (y : PrimaryLayer). bracket_primary (primary_bare y) ≡ option_map unplaced_expr (held y)) [
      | layer.Number n ↦ ap held (out-roll-RawPrimary (layer.Number (unplaced_number n)))
      | layer.Octal n ↦ ap held (out-roll-RawPrimary (layer.Octal (unplaced_octal n)))
      | layer.Literal c ↦ ap held (out-roll-RawPrimary (layer.Literal (unplaced_literal c)))
      | layer.Text at cs ↦ ap held (out-roll-RawPrimary (layer.Text nowhere cs))
      | layer.Location at r ↦ ap held (out-roll-RawPrimary (layer.Location nowhere (unplaced_ref r)))
      | layer.Forced t e ↦ ap held (out-roll-RawPrimary (layer.Forced (unplaced_type t) (unplaced_expr e)))
      | layer.Bracket at e ↦ ap held (out-roll-RawPrimary (layer.Bracket nowhere (unplaced_expr e)))
      | layer.Ref r ↦ ap held (out-roll-RawPrimary (layer.Ref (unplaced_ref r)))
      | layer.Call f xs ↦ ap held (out-roll-RawPrimary (layer.Call (unplaced_name f) (map unplaced_expr xs)))
    ]

abbrev without_bits : PrimLayer → Option RawExpr
without_bits y = elim y.bits [ [] ↦ bracket_primary y.primary | b ∷ bs ↦ None ]

bits_kept : (bits : List RawBits) (p : RawPrimary) → elim (map unplaced_bits bits) [ [] ↦ bracket_primary (unplaced_primary p) | b ∷ bs ↦ None ] ≡ option_map unplaced_expr (elim bits [ [] ↦ bracket_primary p | b ∷ bs ↦ None ])
bits_kept [] p = bracket_primary_kept p
bits_kept (b ∷ bs) p = refl

pub bracket_prim_kept : Keeps unplaced_prim unplaced_expr bracket_prim
bracket_prim_kept p =
    let y : PrimLayer = out-RawPrim p in
    ap (λ z. bracket_prim (unplaced_prim z)) (sym (roll-out-RawPrim p)) ∙ ap bracket_prim (prim-bare y.bits y.primary)
    ∙ ap without_bits (out-roll-RawPrim (record { bits = map unplaced_bits y.bits; primary = unplaced_primary y.primary }))
    ∙ bits_kept y.bits y.primary

pub bracket_mask_kept : Keeps unplaced_mask unplaced_expr bracket_mask
bracket_mask_kept = then_kept _ _ _ (λ m. sole (out-RawMask m).operands) bracket_prim sole_prim_kept bracket_prim_kept

pub bracket_union_kept : Keeps unplaced_union unplaced_expr bracket_union
bracket_union_kept = then_kept _ _ _ (λ m. sole (out-RawUnion m).operands) bracket_mask sole_mask_kept bracket_mask_kept

pub bracket_differ_kept : Keeps unplaced_differ unplaced_expr bracket_differ
bracket_differ_kept = then_kept _ _ _ (λ m. sole (out-RawDiffer m).operands) bracket_union sole_union_kept bracket_union_kept

pub bracket_term_kept : Keeps unplaced_term unplaced_expr bracket_term
bracket_term_kept = then_kept _ _ _ (λ m. sole (out-RawTerm m).operands) bracket_differ sole_differ_kept bracket_differ_kept

bracket_sum_kept : Keeps unplaced_sum unplaced_expr bracket_sum
bracket_sum_kept = then_kept _ _ _ sole_term bracket_term sole_term_kept bracket_term_kept

-- ---- nothing is joined

pub stays : {A C : Type 0} (f : A → A) (h : C → C) (o : A → Option RawExpr) (p : RawExpr → Option C) → Keeps f unplaced_expr o → Keeps unplaced_expr h p → (x d : A) → f d ≡ f x → (o x >>- p) ≡ None → (o d >>- p) ≡ None
stays f h o p k l = none_kept f h (λ z. o z >>- p) (then_kept f unplaced_expr h o p k l)

pub sum_stays : (x d : RawSum) → unplaced_sum d ≡ unplaced_sum x → bracket_sum x ≡ None → bracket_sum d ≡ None
sum_stays = none_kept _ _ bracket_sum bracket_sum_kept
