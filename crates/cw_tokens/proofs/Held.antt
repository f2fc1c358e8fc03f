-- A bracket that is not needed is gone, and what stood in it is counted as before.
use Rattle.std.proofs.Common.{◌≡◌, ℕ, ◌+◌, ◌*◌, ◌≤◌, List, ◌++◌, length, length-append, map, Option, Some, None, refl, sym, ◌∙◌, arith}
use Rattle.cw_tree.specs.declared.leaf.Position.{Position}
use Rattle.cw_tree.specs.declared.leaf.RawSign.{RawSign}
use Rattle.cw_tree.specs.declared.leaf.RawFactorSign.{RawFactorSign}
use Rattle.cw_tree.specs.declared.expression.RawBits.{RawBits}
use Rattle.cw_tree.specs.declared.expression.RawExpr.TheOpen as layer
use Rattle.cw_tree.specs.declared.expression.RawExpr.{RawExpr}
use Rattle.cw_tree.specs.declared.expression.RawPrimary.{RawPrimary}
use Rattle.cw_tree.specs.declared.expression.RawDiffer.{RawDiffer, out-RawDiffer}
use Rattle.cw_tree.specs.declared.expression.RawMask.{RawMask, out-RawMask}
use Rattle.cw_tree.specs.declared.expression.RawPrim.{RawPrim, out-RawPrim}
use Rattle.cw_tree.specs.declared.expression.RawSum.{RawSum}
use Rattle.cw_tree.specs.declared.expression.RawTerm.{RawTerm, out-RawTerm}
use Rattle.cw_tree.specs.declared.expression.RawUnion.{RawUnion, out-RawUnion}
use Rattle.cw_grammar.specs.Trees.{◌>>-◌, Operands, extended, first_of, as_sum, as_term, as_differ, as_union, as_mask, as_prim, bracket_primary, bracket_prim, bracket_mask, bracket_union, bracket_differ, bracket_term, bracket_sum, mask_start, union_start, differ_start, term_start, mask_tree, union_tree, differ_tree, term_tree, Terms, sum_tree, terms_of, sum_start, more_terms, expr_or, expr_of, prim_or, prim_of}
use Rattle.cw_tokens.specs.LeastTokens.{separated}
use Rattle.cw_tokens.specs.TreeTokens.{between, sign, expr_tokens, primary_tokens, differ_tokens, mask_tokens, prim_tokens, sum_tokens, term_tokens, union_tokens}
use Rattle.cw_tokens.proofs.Lists.{between_extended, first_keeps}
use Rattle.cw_tokens.proofs.Alone.{alone_kept}
use Rattle.cw_tokens.proofs.Passes.{differ_rolled, mask_rolled, term_rolled, union_rolled}
use Rattle.cw_tokens.proofs.Narrowed.{Keeps, Kept, prim_keeps, mask_keeps, union_keeps, differ_keeps, term_keeps, sum_keeps, expr_keeps}
use Rattle.cw_tokens.proofs.Layers.{expression_counts, differ-layer, mask-layer, union-layer, prim-layer, sum-layer, term-layer, sum-made, prim-made, expr-Sum}

-- what stands alone in a tree is counted as the tree
counted : Kept (λ (a b : ℕ). a ≡ b) expr_tokens sum_tokens term_tokens differ_tokens union_tokens mask_tokens prim_tokens primary_tokens
counted = alone_kept expression_counts (record {
  expression = λ v. refl;
  sum = λ v os. omega arith;
  term = λ v os. omega arith;
  differ = λ v os. omega arith;
  union = λ v os. omega arith;
  mask = λ v os. omega arith;
  prim = λ v. omega arith;
  bracket = λ at v. refl;
})

-- ---- operands: the first, and more behind their operators

-- A tree of a rule whose first operand is joined where its bracket holds a tree of the same rule.
joined_most : {A B C : Type 0} (inner : A → ℕ) (outer : C → ℕ) (parts : C → Operands A B) (tree : Operands A B → C) (bracket : A → Option C)
    → Keeps inner outer bracket → ((c : C) → outer c ≡ between (map inner (parts c).0)) → ((xs : List A) (os : List B) → outer (tree (xs, os)) ≡ between (map inner xs))
    → (x : A) (more : List (B × A)) → outer (tree (extended (first_of parts (bracket x) x) more)) ≤ inner x + separated (map (λ z. inner z.1) more)
joined_most {A = A} {B = B} inner outer parts tree bracket kept taken makes x more =
    let start : Operands A B = first_of parts (bracket x) x in
    let ops : Operands A B = extended start more in
    let begun : between (map inner start.0) ≡ inner x = first_keeps inner outer parts (bracket x) x (kept x) taken in
    omega (arith, makes ops.0 ops.1, between_extended inner start more, begun)

pub mask_most : (x : RawPrim) (more : List (Position × RawPrim)) → mask_tokens (mask_tree (extended (mask_start x) more)) ≤ prim_tokens x + separated (map (λ z. prim_tokens z.1) more)
mask_most = joined_most prim_tokens mask_tokens (λ m. ((out-RawMask m).operands, (out-RawMask m).operators)) mask_tree (λ x. bracket_prim x >>- as_mask) (mask_keeps counted) mask-layer (λ xs os. mask_rolled expression_counts (record { operands = xs; operators = os }))

pub union_most : (x : RawMask) (more : List (Position × RawMask)) → union_tokens (union_tree (extended (union_start x) more)) ≤ mask_tokens x + separated (map (λ z. mask_tokens z.1) more)
union_most = joined_most mask_tokens union_tokens (λ m. ((out-RawUnion m).operands, (out-RawUnion m).operators)) union_tree (λ x. bracket_mask x >>- as_union) (union_keeps counted) union-layer (λ xs os. union_rolled expression_counts (record { operands = xs; operators = os }))

pub differ_most : (x : RawUnion) (more : List (Position × RawUnion)) → differ_tokens (differ_tree (extended (differ_start x) more)) ≤ union_tokens x + separated (map (λ z. union_tokens z.1) more)
differ_most = joined_most union_tokens differ_tokens (λ m. ((out-RawDiffer m).operands, (out-RawDiffer m).operators)) differ_tree (λ x. bracket_union x >>- as_differ) (differ_keeps counted) differ-layer (λ xs os. differ_rolled expression_counts (record { operands = xs; operators = os }))

pub term_most : (x : RawDiffer) (more : List (RawFactorSign × RawDiffer)) → term_tokens (term_tree (extended (term_start x) more)) ≤ differ_tokens x + separated (map (λ z. differ_tokens z.1) more)
term_most = joined_most differ_tokens term_tokens (λ m. ((out-RawTerm m).operands, (out-RawTerm m).operators)) term_tree (λ x. bracket_differ x >>- as_term) (term_keeps counted) term-layer (λ xs os. term_rolled expression_counts (record { operands = xs; operators = os }))

-- ---- sums

abbrev terms_tokens : Terms → ℕ
terms_tokens x = sign x.0 + between (map term_tokens x.1.0)

terms_keep : (o : Option RawSum) (t : RawTerm) → ((s : RawSum) → o ≡ Some s → sum_tokens s ≡ term_tokens t) → terms_tokens (terms_of o t) ≡ term_tokens t
terms_keep None t k = omega arith
terms_keep (Some s) t k = sym (sum-layer s) ∙ k s refl

sum_begun : (o : Option RawSign) (t : RawTerm) → terms_tokens (sum_start o t) ≡ sign o + term_tokens t
sum_begun None t = omega (arith, terms_keep (bracket_term t >>- as_sum) t (sum_keeps counted t))
sum_begun (Some s) t = omega arith

pub sum_most : (o : Option RawSign) (t : RawTerm) (more : List (RawSign × RawTerm)) → sum_tokens (sum_tree (more_terms (sum_start o t) more)) ≤ sign o + term_tokens t + separated (map (λ z. term_tokens z.1) more)
sum_most o t more =
    let start : Terms = sum_start o t in
    let ops : Operands RawTerm RawSign = extended start.1 more in
    omega (arith, sum-made start.0 ops.0 ops.1, between_extended term_tokens start.1 more, sum_begun o t)

-- ---- expressions and primaries

expr_or_keeps : (o : Option RawExpr) (s : RawSum) → ((e : RawExpr) → o ≡ Some e → expr_tokens e ≡ sum_tokens s) → expr_tokens (expr_or o s) ≡ sum_tokens s
expr_or_keeps None s k = expr-Sum s
expr_or_keeps (Some e) s k = k e refl

pub expr_of_keeps : (s : RawSum) → expr_tokens (expr_of s) ≡ sum_tokens s
expr_of_keeps s = expr_or_keeps (bracket_sum s) s (expr_keeps counted s)

prim_or_keeps : (o : Option RawPrim) (bits : List RawBits) (x : RawPrimary) → ((q : RawPrim) → o ≡ Some q → prim_tokens q ≡ primary_tokens x) → prim_tokens (prim_or o bits x) ≡ 6 * length bits + primary_tokens x
prim_or_keeps None bits x k = prim-made bits x
prim_or_keeps (Some q) bits x k = omega (arith, prim-made (bits ++ (out-RawPrim q).bits) (out-RawPrim q).primary, length-append bits (out-RawPrim q).bits, prim-layer q, k q refl)

pub prim_of_keeps : (bits : List RawBits) (x : RawPrimary) → prim_tokens (prim_of bits x) ≡ 6 * length bits + primary_tokens x
prim_of_keeps bits x = prim_or_keeps (bracket_primary x >>- as_prim) bits x (prim_keeps counted x)
