-- A bracket that is not needed is gone, and the strings of what stood in it are there as before.
use Rattle.std.proofs.Common.{◌≡◌, List, [], ◌∷◌, ◌++◌, map, Option, Some, None, refl, sym, ap, ◌∙◌, append-nil, append_assoc}
use Rattle.cw_tree.specs.declared.leaf.Position.{Position}
use Rattle.cw_tree.specs.declared.leaf.RawSign.{RawSign}
use Rattle.cw_tree.specs.declared.leaf.RawFactorSign.{RawFactorSign}
use Rattle.cw_tree.specs.declared.expression.RawBits.{RawBits}
use Rattle.cw_tree.specs.declared.expression.RawExpr.TheOpen as layer
use Rattle.cw_tree.specs.declared.expression.RawExpr.{RawExpr}
use Rattle.cw_tree.specs.declared.expression.RawPrimary.{RawPrimary}
use Rattle.cw_tree.specs.declared.expression.RawDiffer.{RawDiffer, out-RawDiffer}
use Rattle.cw_tree.specs.declared.expression.RawMask.{RawMask, out-RawMask}
use Rattle.cw_tree.specs.declared.expression.RawPrim.{RawPrim, out-RawPrim}
use Rattle.cw_tree.specs.declared.expression.RawSum.{RawSum}
use Rattle.cw_tree.specs.declared.expression.RawTerm.{RawTerm, out-RawTerm}
use Rattle.cw_tree.specs.declared.expression.RawUnion.{RawUnion, out-RawUnion}
use Rattle.cw_grammar.specs.Trees.{◌>>-◌, Operands, extended, first_of, as_sum, as_term, as_differ, as_union, as_mask, as_prim, bracket_primary, bracket_prim, bracket_mask, bracket_union, bracket_differ, bracket_term, bracket_sum, mask_start, union_start, differ_start, term_start, mask_tree, union_tree, differ_tree, term_tree, Terms, sum_tree, terms_of, sum_start, more_terms, expr_or, expr_of, prim_or, prim_of}
use Rattle.cw_preset.specs.Strings.{Rows, joined, expression_rows, primary_rows, differ_rows, mask_rows, prim_rows, sum_rows, term_rows, union_rows}
use Rattle.cw_tokens.proofs.Narrowed.{Keeps, Kept, prim_keeps, mask_keeps, union_keeps, differ_keeps, term_keeps, sum_keeps, expr_keeps}
use Rattle.cw_tokens.proofs.Alone.{alone_kept}
use Rattle.cw_tree.proofs.Expressions.{of_differ-out, of_expression-Sum, of_mask-out, of_prim-out, of_sum-out, of_term-out, of_union-out}
use Rattle.cw_sound.proofs.Expressions.Folds.{rows_pass}
use Rattle.cw_tokens.proofs.Passes.{differ_rolled, mask_rolled, prim_rolled, sum_rolled, term_rolled, union_rolled}

-- ---- what one step or two steps give

-- A first operand, or those of the tree in its bracket.
first_keeps : {A B C : Type 0} (f : A → Rows) (h : C → Rows) (parts : C → Operands A B) (o : Option C) (x : A) → ((c : C) → o ≡ Some c → h c ≡ f x) → ((c : C) → h c ≡ joined (map f (parts c).0)) → joined (map f (first_of parts o x).0) ≡ f x
first_keeps f h parts None x k l = append-nil (f x)
first_keeps f h parts (Some c) x k l = sym (l c) ∙ k c refl

joined_append : {A : Type 0} (f : A → Rows) (xs ys : List A) → joined (map f (xs ++ ys)) ≡ joined (map f xs) ++ joined (map f ys)
joined_append f [] ys = refl
joined_append f (x ∷ xs) ys = ap (λ (rs : Rows). f x ++ rs) (joined_append f xs ys) ∙ sym (append_assoc (f x) (joined (map f xs)) (joined (map f ys)))

pub joined_extended : {A B : Type 0} (f : A → Rows) (ops : Operands A B) (more : List (B × A)) → joined (map f (extended ops more).0) ≡ joined (map f ops.0) ++ joined (map (λ z. f z.1) more)
joined_extended f ops [] = sym (append-nil (joined (map f ops.0)))
joined_extended f ops (x ∷ more) =
    joined_extended f (ops.0 ++ x.1 ∷ [], ops.1 ++ x.0 ∷ []) more
    ∙ ap (λ (rs : Rows). rs ++ joined (map (λ z. f z.1) more)) (joined_append f ops.0 (x.1 ∷ []) ∙ ap (λ (rs : Rows). joined (map f ops.0) ++ rs) (append-nil (f x.1)))
    ∙ append_assoc (joined (map f ops.0)) (f x.1) (joined (map (λ z. f z.1) more))

-- what stands alone in a tree holds the strings of the tree
strings : Kept (λ (a b : Rows). a ≡ b) expression_rows sum_rows term_rows differ_rows union_rows mask_rows prim_rows primary_rows
strings = alone_kept rows_pass (record {
  expression = λ v. refl;
  sum = λ v os. append-nil v;
  term = λ v os. append-nil v;
  differ = λ v os. append-nil v;
  union = λ v os. append-nil v;
  mask = λ v os. append-nil v;
  prim = λ v. refl;
  bracket = λ at v. refl;
})

-- ---- operands: the first, or those in its bracket, and more behind their operators

behind_kept : {X T O : Type 0} (of : X → Rows) (whole : T → Rows) (parts : T → Operands X O) (bracket : X → Option T) (tree : Operands X O → T) → Keeps of whole bracket → ((t : T) → whole t ≡ joined (map of (parts t).0))
    → ((xs : List X) (os : List O) → whole (tree (xs, os)) ≡ joined (map of xs)) → (x : X) (more : List (O × X)) → whole (tree (extended (first_of parts (bracket x) x) more)) ≡ of x ++ joined (map (λ z. of z.1) more)
behind_kept {X = X} {O = O} of whole parts bracket tree kept is makes x more =
    let start : Operands X O = first_of parts (bracket x) x in
    makes (extended start more).0 (extended start more).1
    ∙ joined_extended of start more
    ∙ ap (λ (rs : Rows). rs ++ joined (map (λ z. of z.1) more)) (first_keeps of whole parts (bracket x) x (kept x) is)

pub mask_kept : (x : RawPrim) (more : List (Position × RawPrim)) → mask_rows (mask_tree (extended (mask_start x) more)) ≡ prim_rows x ++ joined (map (λ z. prim_rows z.1) more)
mask_kept = behind_kept prim_rows mask_rows (λ y. ((out-RawMask y).operands, (out-RawMask y).operators)) (λ x. bracket_prim x >>- as_mask) mask_tree (mask_keeps strings) (of_mask-out rows_pass) (λ xs os. mask_rolled rows_pass (record { operands = xs; operators = os }))

pub union_kept : (x : RawMask) (more : List (Position × RawMask)) → union_rows (union_tree (extended (union_start x) more)) ≡ mask_rows x ++ joined (map (λ z. mask_rows z.1) more)
union_kept = behind_kept mask_rows union_rows (λ y. ((out-RawUnion y).operands, (out-RawUnion y).operators)) (λ x. bracket_mask x >>- as_union) union_tree (union_keeps strings) (of_union-out rows_pass) (λ xs os. union_rolled rows_pass (record { operands = xs; operators = os }))

pub differ_kept : (x : RawUnion) (more : List (Position × RawUnion)) → differ_rows (differ_tree (extended (differ_start x) more)) ≡ union_rows x ++ joined (map (λ z. union_rows z.1) more)
differ_kept = behind_kept union_rows differ_rows (λ y. ((out-RawDiffer y).operands, (out-RawDiffer y).operators)) (λ x. bracket_union x >>- as_differ) differ_tree (differ_keeps strings) (of_differ-out rows_pass) (λ xs os. differ_rolled rows_pass (record { operands = xs; operators = os }))

pub term_kept : (x : RawDiffer) (more : List (RawFactorSign × RawDiffer)) → term_rows (term_tree (extended (term_start x) more)) ≡ differ_rows x ++ joined (map (λ z. differ_rows z.1) more)
term_kept = behind_kept differ_rows term_rows (λ y. ((out-RawTerm y).operands, (out-RawTerm y).operators)) (λ x. bracket_differ x >>- as_term) term_tree (term_keeps strings) (of_term-out rows_pass) (λ xs os. term_rolled rows_pass (record { operands = xs; operators = os }))

-- ---- sums

terms_keep : (o : Option RawSum) (t : RawTerm) → ((s : RawSum) → o ≡ Some s → sum_rows s ≡ term_rows t) → joined (map term_rows (terms_of o t).1.0) ≡ term_rows t
terms_keep None t k = append-nil (term_rows t)
terms_keep (Some s) t k = sym (of_sum-out rows_pass s) ∙ k s refl

sum_begun : (o : Option RawSign) (t : RawTerm) → joined (map term_rows (sum_start o t).1.0) ≡ term_rows t
sum_begun None t = terms_keep (bracket_term t >>- as_sum) t (sum_keeps strings t)
sum_begun (Some s) t = append-nil (term_rows t)

pub sum_kept : (o : Option RawSign) (t : RawTerm) (more : List (RawSign × RawTerm)) → sum_rows (sum_tree (more_terms (sum_start o t) more)) ≡ term_rows t ++ joined (map (λ z. term_rows z.1) more)
sum_kept o t more =
    let start : Terms = sum_start o t in
    let ops : Operands RawTerm RawSign = extended start.1 more in
    sum_rolled rows_pass (record { sign = start.0; operands = ops.0; operators = ops.1 }) ∙ joined_extended term_rows start.1 more ∙ ap (λ (rs : Rows). rs ++ joined (map (λ z. term_rows z.1) more)) (sum_begun o t)

-- ---- expressions and primaries

expr_or_keeps : (o : Option RawExpr) (s : RawSum) → ((e : RawExpr) → o ≡ Some e → expression_rows e ≡ sum_rows s) → expression_rows (expr_or o s) ≡ sum_rows s
expr_or_keeps None s k = of_expression-Sum rows_pass s
expr_or_keeps (Some e) s k = k e refl

pub expr_of_keeps : (s : RawSum) → expression_rows (expr_of s) ≡ sum_rows s
expr_of_keeps s = expr_or_keeps (bracket_sum s) s (expr_keeps strings s)

prim_or_keeps : (o : Option RawPrim) (bits : List RawBits) (x : RawPrimary) → ((q : RawPrim) → o ≡ Some q → prim_rows q ≡ primary_rows x) → prim_rows (prim_or o bits x) ≡ primary_rows x
prim_or_keeps None bits x k = prim_rolled rows_pass (record { bits = bits; primary = x })
prim_or_keeps (Some q) bits x k = prim_rolled rows_pass (record { bits = bits ++ (out-RawPrim q).bits; primary = (out-RawPrim q).primary }) ∙ sym (of_prim-out rows_pass q) ∙ k q refl

pub prim_of_keeps : (bits : List RawBits) (x : RawPrimary) → prim_rows (prim_of bits x) ≡ primary_rows x
prim_of_keeps bits x = prim_or_keeps (bracket_primary x >>- as_prim) bits x (prim_keeps strings x)
