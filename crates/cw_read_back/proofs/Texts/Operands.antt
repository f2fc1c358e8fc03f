-- The tokens of an operation can be written again where those of its operands can; the operands of a first operand in brackets are among them.
use Rattle.std.proofs.Common.{◌≡◌, List, [], ◌∷◌, ◌++◌, map, Option, Some, None, refl, sym, subst}
use Rattle.cw_lex.specs.declared.token.Word.{Word}
use Rattle.cw_lex.specs.declared.token.Word.TheVariants as words
use Rattle.cw_tree.specs.declared.leaf.Position.{Position}
use Rattle.cw_tree.specs.declared.leaf.RawSign.{RawSign}
use Rattle.cw_tree.specs.declared.leaf.RawFactorSign.{RawFactorSign}
use Rattle.cw_tree.specs.declared.leaf.RawCompareSign.{RawCompareSign}
use Rattle.cw_tree.specs.declared.expression.RawBits.{RawBits}
use Rattle.cw_tree.specs.declared.expression.RawExpr.{RawExpr}
use Rattle.cw_tree.specs.declared.expression.RawPrimary.{RawPrimary}
use Rattle.cw_tree.specs.declared.expression.RawCand.{RawCand}
use Rattle.cw_tree.specs.declared.expression.RawCmp.{RawCmp}
use Rattle.cw_tree.specs.declared.expression.RawDiffer.{RawDiffer}
use Rattle.cw_tree.specs.declared.expression.RawMask.{RawMask}
use Rattle.cw_tree.specs.declared.expression.RawPrim.{RawPrim, out-RawPrim}
use Rattle.cw_tree.specs.declared.expression.RawSum.{RawSum}
use Rattle.cw_tree.specs.declared.expression.RawTerm.{RawTerm}
use Rattle.cw_tree.specs.declared.expression.RawUnion.{RawUnion}
use Rattle.cw_grammar.specs.Trees.{◌>>-◌, Operands, extended, first_of, as_sum, as_term, as_differ, as_union, as_mask, as_prim, bracket_primary, bracket_prim, bracket_mask, bracket_union, bracket_differ, bracket_term, bracket_sum, mask_start, union_start, differ_start, term_start, mask_tree, union_tree, differ_tree, term_tree, cand_tree, cond_tree, comparison_tree, Terms, sum_tree, terms_of, sum_start, more_terms, expr_or, expr_of, prim_or, prim_of}
use Rattle.cw_derived.proofs.Held.{both_steps, both_of}
use Rattle.cw_show.specs.Spelling.{word}
use Rattle.cw_show.specs.Canonical.{Tokens, add_symbol, multiply_symbol, compare_symbol, between}
use Rattle.cw_show.specs.ExpressionTokens.{bits_tokens, expr_tokens, primary_tokens, cand_tokens, cmp_tokens, cond_tokens, differ_tokens, mask_tokens, prim_tokens, sum_tokens, term_tokens, union_tokens}
use Rattle.cw_read_back.proofs.Expressions.Reading.{Each}
use Rattle.cw_read_back.proofs.Expressions.ExpressionLayers.{mask_parts, union_parts, differ_parts, term_parts, sum_expr-tokens, cand-tokens, cond-tokens, differ-tokens, mask-tokens, union-tokens, cmp-tokens, prim-tokens, sum-tokens, term-tokens}
use Rattle.cw_read_back.proofs.Texts.Spelled.{each_append, Spelled, alone, ◌&◌, list_between, list_joined, list_operation}
use Rattle.cw_read_back.proofs.Texts.Plain.{sign_spelled, bits_spelled, add_right, multiply_right, compare_right}
use Rattle.cw_read_back.proofs.Texts.Bracketed.{mask_operands, union_operands, differ_operands, term_operands, sum_operands, prim_operand, sum_in, as_term_in, as_differ_in, as_union_in, as_mask_in, as_prim_in, primary_held, prim_held, mask_held, union_held, differ_held, term_held, sum_held}

-- ---- operand lists

module _ {X O : Type 0} (P : X → Type 0) where
  -- the second of each pair
  abbrev pub Behind : List (O × X) → Type 0
  Behind rest = Each (λ (z : O × X). Unit {0} × P z.1) rest

  each_more : (ops : Operands X O) (rest : List (O × X)) → Each P ops.0 → Behind rest → Each P (extended ops rest).0
  each_more ops [] h k = h
  each_more ops (z ∷ rest) h k = each_more (ops.0 ++ z.1 ∷ [], ops.1 ++ z.0 ∷ []) rest (each_append P ops.0 (z.1 ∷ []) h (k.0.1, tt)) k.1

-- A first operand is taken as it is, or the operands in its bracket are.
begun : {A B C E : Type 0} (P : A → Type 0) (taken : C → Operands A B) (o : Option E) (narrow : E → Option C) (x : A) → P x → ((y : E) (c : C) → o ≡ Some y → narrow y ≡ Some c → Each P (taken c).0) → Each P (first_of taken (o >>- narrow) x).0
begun P taken o narrow x h k =
    elim (o >>- narrow) as (λ c. (o >>- narrow) ≡ c → Each P (first_of taken c x).0) [
      | None ↦ λ e. (h, tt)
      | Some c ↦ λ e. elim (both_of o narrow c e) [ both_steps y u v ↦ k y c u v ]
    ] refl

-- Its tokens can be written.
abbrev Good : {A : Type 0} → (A → Tokens) → A → Type 0
Good tokens x = Spelled (tokens x)

-- A tree of a rule whose first operand is joined where its bracket holds a tree of the same rule.
joined_made : {A B C : Type 0} (inner : A → Tokens) (outer : C → Tokens) (parts : C → Operands A B) (tree : Operands A B → C) (bracket : A → Option RawExpr) (narrow : RawExpr → Option C)
    → ((x : A) (y : RawExpr) → Spelled (inner x) → bracket x ≡ Some y → Spelled (expr_tokens y)) → ((y : RawExpr) (c : C) → Spelled (expr_tokens y) → narrow y ≡ Some c → Spelled (outer c))
    → ((c : C) → Spelled (outer c) → Each (Good inner) (parts c).0) → ((ops : Operands A B) → Each (Good inner) ops.0 → Spelled (outer (tree ops)))
    → (x : A) (rest : List (B × A)) → Spelled (inner x) → Behind (Good inner) rest → Spelled (outer (tree (extended (first_of parts (bracket x >>- narrow) x) rest)))
joined_made {A = A} {B = B} inner outer parts tree bracket narrow held narrowed taken makes x rest h r =
    let start : Operands A B = first_of parts (bracket x >>- narrow) x in
    makes (extended start rest) (each_more (Good inner) start rest (begun (Good inner) parts (bracket x) narrow x h (λ y c u v. taken c (narrowed y c (held x y h u) v))) r)

-- one with a word between its operands
worded_made : {A C : Type 0} (inner : A → Tokens) (outer : C → Tokens) (w : Word) (tree : Operands A Position → C) → ((xs : List A) (os : List Position) → outer (tree (xs, os)) ≡ between (word w) (map inner xs))
    → (ops : Operands A Position) → Each (Good inner) ops.0 → Spelled (outer (tree ops))
worded_made inner outer w tree is ops h = subst Spelled (sym (is ops.0 ops.1)) (list_between inner (word w) tt ops.0 h)

-- ---- mask, union, differ

pub mask_made : (x : RawPrim) (rest : List (Position × RawPrim)) → Good prim_tokens x → Behind (Good prim_tokens) rest → Spelled (mask_tokens (mask_tree (extended (mask_start x) rest)))
mask_made = joined_made prim_tokens mask_tokens mask_parts mask_tree bracket_prim as_mask prim_held as_mask_in mask_operands (worded_made prim_tokens mask_tokens words.Mask mask_tree mask-tokens)

pub union_made : (x : RawMask) (rest : List (Position × RawMask)) → Good mask_tokens x → Behind (Good mask_tokens) rest → Spelled (union_tokens (union_tree (extended (union_start x) rest)))
union_made = joined_made mask_tokens union_tokens union_parts union_tree bracket_mask as_union mask_held as_union_in union_operands (worded_made mask_tokens union_tokens words.Union union_tree union-tokens)

pub differ_made : (x : RawUnion) (rest : List (Position × RawUnion)) → Good union_tokens x → Behind (Good union_tokens) rest → Spelled (differ_tokens (differ_tree (extended (differ_start x) rest)))
differ_made = joined_made union_tokens differ_tokens differ_parts differ_tree bracket_union as_differ union_held as_differ_in differ_operands (worded_made union_tokens differ_tokens words.Differ differ_tree differ-tokens)

-- ---- terms and sums

pub term_made : (x : RawDiffer) (rest : List (RawFactorSign × RawDiffer)) → Good differ_tokens x → Behind (Good differ_tokens) rest → Spelled (term_tokens (term_tree (extended (term_start x) rest)))
term_made = joined_made differ_tokens term_tokens term_parts term_tree bracket_differ as_term differ_held as_term_in term_operands
    (λ ops k. subst Spelled (sym (term-tokens ops.0 ops.1)) (list_operation differ_tokens (λ (s : RawFactorSign). multiply_symbol s.op) (λ s. multiply_right s.op) ops.1 ops.0 k))

sum_begun : (o : Option RawSign) (t : RawTerm) → Good term_tokens t → Each (Good term_tokens) (sum_start o t).1.0
sum_begun (Some sign) t h = (h, tt)
sum_begun None t h =
    elim (bracket_term t >>- as_sum) as (λ c. (bracket_term t >>- as_sum) ≡ c → Each (Good term_tokens) (terms_of c t).1.0) [
      | None ↦ λ e. (h, tt)
      | Some s ↦ λ e. elim (both_of (bracket_term t) as_sum s e) [ both_steps y u v ↦ sum_operands s (sum_in y s (term_held t y h u) v) ]
    ] refl

pub sum_made : (o : Option RawSign) (t : RawTerm) (rest : List (RawSign × RawTerm)) → Good term_tokens t → Behind (Good term_tokens) rest → Spelled (sum_tokens (sum_tree (more_terms (sum_start o t) rest)))
sum_made o t rest h r =
    let x : Terms = sum_start o t in
    let ops : Operands RawTerm RawSign = extended x.1 rest in
    subst Spelled (sym (sum-tokens x.0 ops.0 ops.1))
    (sign_spelled x.0 & list_operation term_tokens (λ (s : RawSign). add_symbol s.op) (λ s. add_right s.op) ops.1 ops.0 (each_more (Good term_tokens) x.1 rest (sum_begun o t h) r))

-- ---- whole expressions, primaries behind BITS, and conditions

pub expr_made : (s : RawSum) → Spelled (sum_tokens s) → Spelled (expr_tokens (expr_of s))
expr_made s h =
    elim (bracket_sum s) as (λ o. bracket_sum s ≡ o → Spelled (expr_tokens (expr_or o s))) [
      | None ↦ λ e. subst Spelled (sym (sum_expr-tokens s)) h
      | Some y ↦ λ e. sum_held s y h e
    ] refl

prim_with : (bits : List RawBits) (x : RawPrimary) → Spelled (primary_tokens x) → Spelled (prim_tokens (prim_or None bits x))
prim_with bits x h = subst Spelled (sym (prim-tokens bits x)) (list_joined bits_tokens bits (bits_spelled bits) & h)

pub prim_made : (bits : List RawBits) (x : RawPrimary) → Spelled (primary_tokens x) → Spelled (prim_tokens (prim_of bits x))
prim_made bits x h =
    elim (bracket_primary x >>- as_prim) as (λ o. (bracket_primary x >>- as_prim) ≡ o → Spelled (prim_tokens (prim_or o bits x))) [
      | None ↦ λ e. prim_with bits x h
      | Some q ↦ λ e. elim (both_of (bracket_primary x) as_prim q e) [ both_steps y u v ↦ prim_with (bits ++ (out-RawPrim q).bits) (out-RawPrim q).primary (prim_operand q (as_prim_in y q (primary_held x y h u) v)) ]
    ] refl

pub cand_made : (x : RawCmp) (rest : List (Position × RawCmp)) → Good cmp_tokens x → Behind (Good cmp_tokens) rest → Spelled (cand_tokens (cand_tree (extended (x ∷ [], []) rest)))
cand_made x rest h r = worded_made cmp_tokens cand_tokens words.And cand_tree cand-tokens (extended (x ∷ [], []) rest) (each_more (Good cmp_tokens) (x ∷ [], []) rest (h, tt) r)

pub cond_made : (x : RawCand) (rest : List (Position × RawCand)) → Good cand_tokens x → Behind (Good cand_tokens) rest → Spelled (cond_tokens (cond_tree (extended (x ∷ [], []) rest)))
cond_made x rest h r = worded_made cand_tokens cond_tokens words.Or cond_tree cond-tokens (extended (x ∷ [], []) rest) (each_more (Good cand_tokens) (x ∷ [], []) rest (h, tt) r)

pub cmp_made : (x : RawSum) (op : RawCompareSign) (y : RawSum) → Spelled (sum_tokens x) → Spelled (sum_tokens y) → Spelled (cmp_tokens (comparison_tree x op y))
cmp_made x op y h k = subst Spelled (sym (cmp-tokens x op y)) (h & alone (compare_symbol op.op) (compare_right op.op) & k)
