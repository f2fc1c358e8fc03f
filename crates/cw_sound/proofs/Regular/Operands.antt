-- Operand lists of which each operand is regular make regular trees; so do those of a first operand in brackets.
use Rattle.std.proofs.Common.{◌≡◌, ℕ, suc, ◌+◌, ◌≤◌, Bool, true, ◌&&◌, nat_le, IsTrue, List, [], ◌∷◌, ◌++◌, length, map, Option, Some, None, refl, subst, arith, length-append}
use Rattle.std.proofs.lemmas.List.{length-map}
use Rattle.cw_tree.specs.declared.leaf.Position.{Position}
use Rattle.cw_tree.specs.declared.leaf.RawSign.{RawSign}
use Rattle.cw_tree.specs.declared.leaf.RawFactorSign.{RawFactorSign}
use Rattle.cw_tree.specs.declared.leaf.RawCompareSign.{RawCompareSign}
use Rattle.cw_tree.specs.declared.expression.RawBits.{RawBits}
use Rattle.cw_tree.specs.declared.expression.RawExpr.{RawExpr}
use Rattle.cw_tree.specs.declared.expression.RawExpr.TheVariants as expr_tree
use Rattle.cw_tree.specs.declared.expression.RawExpr.TheOpen as layer
use Rattle.cw_tree.specs.declared.expression.RawPrimary.{RawPrimary}
use Rattle.cw_tree.specs.declared.expression.RawCand.{RawCand}
use Rattle.cw_tree.specs.declared.expression.RawCmp.{RawCmp}
use Rattle.cw_tree.specs.declared.expression.RawDiffer.{RawDiffer, out-RawDiffer}
use Rattle.cw_tree.specs.declared.expression.RawMask.{RawMask, out-RawMask}
use Rattle.cw_tree.specs.declared.expression.RawPrim.{RawPrim, out-RawPrim}
use Rattle.cw_tree.specs.declared.expression.RawSum.{RawSum, out-RawSum}
use Rattle.cw_tree.specs.declared.expression.RawTerm.{RawTerm, out-RawTerm}
use Rattle.cw_tree.specs.declared.expression.RawUnion.{RawUnion, out-RawUnion}
use Rattle.cw_grammar.specs.Trees.{◌>>-◌, Operands, extended, first_of, as_sum, as_term, as_differ, as_union, as_mask, as_prim, bracket_primary, bracket_prim, bracket_mask, bracket_union, bracket_differ, bracket_term, bracket_sum, mask_start, union_start, differ_start, term_start, mask_tree, union_tree, differ_tree, term_tree, cand_tree, cond_tree, comparison_tree, Terms, sum_tree, terms_of, sum_start, more_terms, expr_or, expr_of, prim_or, prim_of}
use Rattle.cw_tokens.specs.TreeTokens as tokens
use Rattle.cw_tree.proofs.Expressions.{of_conjunction, of_comparison, of_differ, of_mask, of_prim, of_sum, of_term, of_union}
use Rattle.cw_sound.proofs.Expressions.Folds.{regular_pass}
use Rattle.cw_sound.specs.Expressions.Regular as regular
use Rattle.cw_sound.proofs.Expressions.Truth.{both, parts, le_true, le_of}
use Rattle.cw_sound.proofs.Regular.Lists.{Behind, all_more, count_more, IsEven, even_more}
use Rattle.cw_sound.proofs.Regular.Fits.{Fits, fitted, expr_rolled, differ_rolled, mask_rolled, prim_rolled, sum_rolled, term_rolled, union_rolled, cand_rolled, cond_rolled, cmp_rolled, opened}
use Rattle.cw_tokens.proofs.Narrowed.{Gives, prim_in, mask_in, union_in, differ_in, term_in, sum_in, expr_in}
use Rattle.cw_sound.proofs.Regular.Bracketed.{fitting}

-- operands that are regular and count a token at least
abbrev Ops : {X O : Type 0} → (X → Bool) → (X → ℕ) → Operands X O → Type 0
Ops f g ops = Fits (regular.all (map f ops.0)) (tokens.between (map g ops.0))

alone : {X : Type 0} (f : X → Bool) (g : X → ℕ) (x : X) → Fits (f x) (g x) → Fits (regular.all (f x ∷ [])) (tokens.between (g x ∷ []))
alone f g x h = record { right = both (f x) true h.right refl; some = omega (arith, h.some) }

more : {X O : Type 0} (f : X → Bool) (g : X → ℕ) (ops : Operands X O) (rest : List (O × X)) → Ops f g ops → Behind f g rest → Ops f g (extended ops rest)
more f g ops rest h k = record { right = all_more f g ops rest h.right k; some = omega (arith, h.some, count_more f g ops rest) }

-- A first operand is taken as it is, or the operands in its bracket are.
begun : {A B C : Type 0} (P : Operands A B → Type 0) (parts : C → Operands A B) (o : Option C) (x : A) → P (x ∷ [], []) → ((c : C) → o ≡ Some c → P (parts c)) → P (first_of parts o x)
begun P parts None x h k = h
begun P parts (Some c) x h k = k c refl

-- ---- mask, union, differ

module _ {X T : Type 0} (f : X → Bool) (g : X → ℕ) (F : T → Type 0) (parts : T → Operands X Position) (tree : Operands X Position → T) (bracket : X → Option T)
    (inside : Gives (λ x. Fits (f x) (g x)) F bracket) (opens : (t : T) → F t → Ops f g (parts t)) (rolled : (ops : Operands X Position) → Ops f g ops → F (tree ops)) where
  made : (x : X) (rest : List (Position × X)) → Fits (f x) (g x) → Behind f g rest → F (tree (extended (first_of parts (bracket x) x) rest))
  made x rest h r =
      let start : Operands X Position = first_of parts (bracket x) x in
      rolled (extended start rest) (more f g start rest (begun (Ops f g) parts (bracket x) x (alone f g x h) (λ t q. opens t (inside x t h q))) r)

abbrev mask_parts : RawMask → Operands RawPrim Position
mask_parts m = ((out-RawMask m).operands, (out-RawMask m).operators)

pub mask_made : (x : RawPrim) (rest : List (Position × RawPrim)) → fitted.Prim x → Behind (of_prim regular_pass) tokens.prim_tokens rest → fitted.Mask (mask_tree (extended (mask_start x) rest))
mask_made = made (of_prim regular_pass) tokens.prim_tokens fitted.Mask mask_parts mask_tree (λ x. bracket_prim x >>- as_mask) (mask_in fitting) opened.mask (λ ops. mask_rolled (record { operands = ops.0; operators = ops.1 }))

abbrev union_parts : RawUnion → Operands RawMask Position
union_parts m = ((out-RawUnion m).operands, (out-RawUnion m).operators)

pub union_made : (x : RawMask) (rest : List (Position × RawMask)) → fitted.Mask x → Behind (of_mask regular_pass) tokens.mask_tokens rest → fitted.Union (union_tree (extended (union_start x) rest))
union_made = made (of_mask regular_pass) tokens.mask_tokens fitted.Union union_parts union_tree (λ x. bracket_mask x >>- as_union) (union_in fitting) opened.union (λ ops. union_rolled (record { operands = ops.0; operators = ops.1 }))

abbrev differ_parts : RawDiffer → Operands RawUnion Position
differ_parts m = ((out-RawDiffer m).operands, (out-RawDiffer m).operators)

pub differ_made : (x : RawUnion) (rest : List (Position × RawUnion)) → fitted.Union x → Behind (of_union regular_pass) tokens.union_tokens rest → fitted.Differ (differ_tree (extended (differ_start x) rest))
differ_made = made (of_union regular_pass) tokens.union_tokens fitted.Differ differ_parts differ_tree (λ x. bracket_union x >>- as_differ) (differ_in fitting) opened.differ (λ ops. differ_rolled (record { operands = ops.0; operators = ops.1 }))

-- ---- terms and sums, which have an operator between any two operands

evenly : {X O : Type 0} (f : X → Bool) (ops : Operands X O) → IsEven ops → IsTrue (nat_le (length (map f ops.0)) (suc (length ops.1)))
evenly f ops h = le_true (length (map f ops.0)) (suc (length ops.1)) (omega (arith, h, length-map ops.0 f))

is_even : {X O : Type 0} (f : X → Bool) (ops : Operands X O) → IsTrue (nat_le (length (map f ops.0)) (suc (length ops.1))) → IsEven ops
is_even f ops h = omega (arith, le_of (length (map f ops.0)) (suc (length ops.1)) h, length-map ops.0 f)

abbrev halves : {X O : Type 0} (f : X → Bool) (ops : Operands X O) → IsTrue (nat_le (length (map f ops.0)) (suc (length ops.1)) && regular.all (map f ops.0)) → IsTrue (nat_le (length (map f ops.0)) (suc (length ops.1))) × IsTrue (regular.all (map f ops.0))
halves f ops h = parts (nat_le (length (map f ops.0)) (suc (length ops.1))) (regular.all (map f ops.0)) h

abbrev term_parts : RawTerm → Operands RawDiffer RawFactorSign
term_parts t = ((out-RawTerm t).operands, (out-RawTerm t).operators)

abbrev TermOps : Operands RawDiffer RawFactorSign → Type 0
TermOps ops = Ops (of_differ regular_pass) tokens.differ_tokens ops × IsEven ops

pub term_made : (x : RawDiffer) (rest : List (RawFactorSign × RawDiffer)) → fitted.Differ x → Behind (of_differ regular_pass) tokens.differ_tokens rest → fitted.Term (term_tree (extended (term_start x) rest))
term_made x rest h r =
    let start : TermOps (term_start x) =
    begun TermOps term_parts (bracket_differ x >>- as_term) x (alone (of_differ regular_pass) tokens.differ_tokens x h, omega arith)
    (λ t q.
    let k = opened.term t (term_in fitting x t h q) in
    let p = halves (of_differ regular_pass) (term_parts t) k.right in
    (record { right = p.1; some = k.some }, is_even (of_differ regular_pass) (term_parts t) p.0)) in
    let k = more (of_differ regular_pass) tokens.differ_tokens (term_start x) rest start.0 r in
    let ops : Operands RawDiffer RawFactorSign = extended (term_start x) rest in
    let e = evenly (of_differ regular_pass) ops (even_more (term_start x) rest start.1) in
    term_rolled (record { operands = ops.0; operators = ops.1 }) (record { right = both (nat_le (length (map (of_differ regular_pass) ops.0)) (suc (length ops.1))) (regular.all (map (of_differ regular_pass) ops.0)) e k.right; some = k.some })

record SumOps (x : Terms) : Type 0 where
  right : IsTrue (regular.all (map (of_term regular_pass) x.1.0))
  some : 1 ≤ tokens.sign x.0 + tokens.between (map tokens.term_tokens x.1.0)
  even : IsEven x.1

abbrev sum_parts : RawSum → Operands RawTerm RawSign
sum_parts s = ((out-RawSum s).operands, (out-RawSum s).operators)

sum_taken : (s : RawSum) → fitted.Sum s → SumOps ((out-RawSum s).sign, sum_parts s)
sum_taken s h =
    let k = opened.sum s h in
    let p = halves (of_term regular_pass) (sum_parts s) k.right in
    record { right = p.1; some = k.some; even = is_even (of_term regular_pass) (sum_parts s) p.0 }

sum_alone : (o : Option RawSign) (t : RawTerm) → fitted.Term t → SumOps (o, (t ∷ [], []))
sum_alone o t h = record { right = both (of_term regular_pass t) true h.right refl; some = omega (arith, h.some); even = omega arith }

sum_begun : (o : Option RawSign) (t : RawTerm) → fitted.Term t → SumOps (sum_start o t)
sum_begun (Some sign) t h = sum_alone (Some sign) t h
sum_begun None t h =
    elim (bracket_term t >>- as_sum) as (λ c. (bracket_term t >>- as_sum) ≡ c → SumOps (terms_of c t)) [
      | None ↦ λ e. sum_alone None t h
      | Some s ↦ λ e. sum_taken s (sum_in fitting t s h e)
    ] refl

pub sum_made : (o : Option RawSign) (t : RawTerm) (rest : List (RawSign × RawTerm)) → fitted.Term t → Behind (of_term regular_pass) tokens.term_tokens rest → fitted.Sum (sum_tree (more_terms (sum_start o t) rest))
sum_made o t rest h r =
    let x : Terms = sum_start o t in
    let start = sum_begun o t h in
    let ops : Operands RawTerm RawSign = extended x.1 rest in
    let e = evenly (of_term regular_pass) ops (even_more x.1 rest start.even) in
    let k = all_more (of_term regular_pass) tokens.term_tokens x.1 rest start.right r in
    sum_rolled (record { sign = x.0; operands = ops.0; operators = ops.1 })
    (record { right = both (nat_le (length (map (of_term regular_pass) ops.0)) (suc (length ops.1))) (regular.all (map (of_term regular_pass) ops.0)) e k; some = omega (arith, start.some, count_more (of_term regular_pass) tokens.term_tokens x.1 rest) })

-- ---- whole expressions, primaries behind BITS, and conditions

pub expr_made : (s : RawSum) → fitted.Sum s → fitted.Expr (expr_of s)
expr_made s h =
    elim (bracket_sum s) as (λ o. bracket_sum s ≡ o → fitted.Expr (expr_or o s)) [
      | None ↦ λ e. subst fitted.Expr (expr_tree.rolls-Sum s) (expr_rolled (layer.Sum s) h)
      | Some y ↦ λ e. expr_in fitting s y h e
    ] refl

pub prim_made : (bits : List RawBits) (x : RawPrimary) → fitted.Primary x → fitted.Prim (prim_of bits x)
prim_made bits x h =
    elim (bracket_primary x >>- as_prim) as (λ o. (bracket_primary x >>- as_prim) ≡ o → fitted.Prim (prim_or o bits x)) [
      | None ↦ λ e. prim_rolled (record { bits = bits; primary = x }) (record { right = h.right; some = omega (arith, h.some) })
      | Some q ↦ λ e.
          let k = opened.prim q (prim_in fitting x q h e) in
          prim_rolled (record { bits = bits ++ (out-RawPrim q).bits; primary = (out-RawPrim q).primary }) (record { right = k.right; some = omega (arith, k.some, length-append bits (out-RawPrim q).bits) })
    ] refl

pub cand_made : (x : RawCmp) (rest : List (Position × RawCmp)) → fitted.Cmp x → Behind (of_comparison regular_pass) tokens.cmp_tokens rest → fitted.Cand (cand_tree (extended (x ∷ [], []) rest))
cand_made x rest h r =
    let k = more (of_comparison regular_pass) tokens.cmp_tokens (x ∷ [], []) rest (alone (of_comparison regular_pass) tokens.cmp_tokens x h) r in
    let ops : Operands RawCmp Position = extended (x ∷ [], []) rest in
    cand_rolled (record { operands = ops.0; operators = ops.1 }) k

pub cond_made : (x : RawCand) (rest : List (Position × RawCand)) → fitted.Cand x → Behind (of_conjunction regular_pass) tokens.cand_tokens rest → fitted.Cond (cond_tree (extended (x ∷ [], []) rest))
cond_made x rest h r =
    let k = more (of_conjunction regular_pass) tokens.cand_tokens (x ∷ [], []) rest (alone (of_conjunction regular_pass) tokens.cand_tokens x h) r in
    let ops : Operands RawCand Position = extended (x ∷ [], []) rest in
    cond_rolled (record { operands = ops.0; operators = ops.1 }) k

pub cmp_made : (x : RawSum) (op : RawCompareSign) (y : RawSum) → fitted.Sum x → fitted.Sum y → fitted.Cmp (comparison_tree x op y)
cmp_made x op y h k = cmp_rolled (record { left = x; operator = op; right = y }) (record { right = both (of_sum regular_pass x) (of_sum regular_pass y) h.right k.right; some = omega arith })
