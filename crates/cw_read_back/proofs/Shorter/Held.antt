-- A bracket that is not needed is gone, and what stood in it has no more tokens than it had with the bracket.
use Rattle.std.proofs.Common.{◌≡◌, ℕ, suc, ◌+◌, ◌≤◌, List, [], ◌∷◌, ◌++◌, length, length-append, map, Option, Some, None, refl, sym, ap, ◌∙◌, arith}
use Rattle.cw_lex.specs.declared.token.Word.{Word}
use Rattle.cw_lex.specs.declared.token.Word.TheVariants as words
use Rattle.cw_tree.specs.declared.leaf.Position.{Position}
use Rattle.cw_tree.specs.declared.leaf.RawSign.{RawSign}
use Rattle.cw_tree.specs.declared.leaf.RawFactorSign.{RawFactorSign}
use Rattle.cw_tree.specs.declared.expression.RawBits.{RawBits}
use Rattle.cw_tree.specs.declared.expression.RawExpr.TheOpen as layer
use Rattle.cw_tree.specs.declared.expression.RawExpr.TheVariants as expr_tree
use Rattle.cw_tree.specs.declared.expression.RawPrimary.TheVariants as primary_tree
use Rattle.cw_tree.specs.declared.expression.RawExpr.TheViews.{roll-out-RawExpr, roll-out-RawPrimary, roll-out-RawPrim, roll-out-RawSum}
use Rattle.cw_tree.specs.declared.expression.RawExpr.{RawExpr, out-RawExpr, roll-RawExpr}
use Rattle.cw_tree.specs.declared.expression.RawPrimary.{RawPrimary, out-RawPrimary, roll-RawPrimary}
use Rattle.cw_tree.specs.declared.expression.RawDiffer.{RawDiffer, out-RawDiffer}
use Rattle.cw_tree.specs.declared.expression.RawMask.{RawMask, out-RawMask}
use Rattle.cw_tree.specs.declared.expression.RawPrim.{RawPrim, out-RawPrim}
use Rattle.cw_tree.specs.declared.expression.RawSum.{RawSum, out-RawSum}
use Rattle.cw_tree.specs.declared.expression.RawTerm.{RawTerm, out-RawTerm}
use Rattle.cw_tree.specs.declared.expression.RawUnion.{RawUnion, out-RawUnion}
use Rattle.cw_grammar.specs.Trees.{◌>>-◌, sole, Operands, extended, first_of, as_sum, sole_term, as_term, as_differ, as_union, as_mask, as_prim, bracket_primary, bracket_prim, bracket_mask, bracket_union, bracket_differ, bracket_term, bracket_sum, mask_start, union_start, differ_start, term_start, mask_tree, union_tree, differ_tree, term_tree, Terms, sum_tree, terms_of, sum_start, more_terms, expr_or, expr_of, prim_or, prim_of}
use Rattle.cw_show.specs.Spelling.{Spelling, word}
use Rattle.cw_show.specs.Canonical.{Tokens, add_symbol, multiply_symbol, sign_tokens, between, operation, joined, bracketed}
use Rattle.cw_show.specs.ExpressionTokens.{bits_tokens, expr_tokens, primary_tokens, differ_tokens, mask_tokens, prim_tokens, sum_tokens, term_tokens, union_tokens}
use Rattle.cw_derived.proofs.Layers.{ExprLayer, PrimaryLayer, held}
use Rattle.cw_show.proofs.ExpressionLayers.{differ-layer, mask-layer, term-layer, union-layer}
use Rattle.cw_read_back.proofs.Expressions.ExpressionLayers.{mask_parts, union_parts, differ_parts, term_parts, sum_expr-tokens, bracket-tokens, differ-tokens, mask-tokens, prim-tokens, sum-tokens, term-tokens, union-tokens}
use Rattle.cw_tokens.specs.LeastTokens.{separated}
use Rattle.cw_tokens.specs.TreeTokens.{total}
use Rattle.cw_tokens.proofs.Narrowed.{Kept, prim_keeps, mask_keeps, union_keeps, differ_keeps, term_keeps, sum_keeps, expr_keeps}
use Rattle.cw_derived.proofs.Held.{not_none, same_some}
use Rattle.cw_read_back.proofs.Shorter.Lengths.{joined_length, between_grows, operation_grows, extended_most, first_most, Falls, sole_between, sole_operation}

-- ---- trees by their operands

sum_made : (o : Option RawSign) (xs : List RawTerm) (os : List RawSign) → length (sum_tokens (sum_tree (o, (xs, os)))) ≡ length (sign_tokens o) + length (operation (map (λ s. add_symbol s.op) os) (map term_tokens xs))
sum_made o xs os = ap length (sum-tokens o xs os) ∙ length-append (sign_tokens o) (operation (map (λ s. add_symbol s.op) os) (map term_tokens xs))

sum_layer : (x : RawSum) → length (sum_tokens x) ≡ length (sign_tokens (out-RawSum x).sign) + length (operation (map (λ s. add_symbol s.op) (out-RawSum x).operators) (map term_tokens (out-RawSum x).operands))
sum_layer x = ap (λ y. length (sum_tokens y)) (sym (roll-out-RawSum x)) ∙ sum_made (out-RawSum x).sign (out-RawSum x).operands (out-RawSum x).operators

prim_made : (bits : List RawBits) (x : RawPrimary) → length (prim_tokens (prim_or None bits x)) ≡ total (map (λ b. length (bits_tokens b)) bits) + length (primary_tokens x)
prim_made bits x =
    let a : length (prim_tokens (prim_or None bits x)) ≡ length (joined (map bits_tokens bits) ++ primary_tokens x) = ap length (prim-tokens bits x) in
    omega (arith, a, length-append (joined (map bits_tokens bits)) (primary_tokens x), joined_length bits_tokens bits)

prim_layer : (x : RawPrim) → length (prim_tokens x) ≡ total (map (λ b. length (bits_tokens b)) (out-RawPrim x).bits) + length (primary_tokens (out-RawPrim x).primary)
prim_layer x = ap (λ y. length (prim_tokens y)) (sym (roll-out-RawPrim x)) ∙ prim_made (out-RawPrim x).bits (out-RawPrim x).primary

-- ---- an expression that is a tree of a narrower rule

abbrev summed : ExprLayer → Option RawSum
summed y = elim y [ layer.Choice at c a b ↦ None | layer.Sum s ↦ Some s ]

sum_in_layer : (x : ExprLayer) (s : RawSum) → summed x ≡ Some s → length (sum_tokens s) ≤ length (expr_tokens (roll-RawExpr x))
sum_in_layer (layer.Choice at c a b) s e = absurd (not_none e)
sum_in_layer (layer.Sum t) s e =
    let a = ap (λ y. length (sum_tokens y)) (same_some e) in
    let b = ap length (sum_expr-tokens t) in
    let c = ap (λ y. length (expr_tokens y)) (expr_tree.rolls-Sum t) in
    omega (arith, a, b, c)

as_sum_falls : Falls expr_tokens sum_tokens as_sum
as_sum_falls e s q = let a = ap (λ y. length (expr_tokens y)) (roll-out-RawExpr e) in omega (arith, sum_in_layer (out-RawExpr e) s q, a)

abbrev unsigned : Option RawSign → List RawTerm → Option RawTerm
unsigned o xs = elim o [ None ↦ sole xs | Some sign ↦ None ]

unsigned_falls : (o : Option RawSign) (os : List Spelling) (xs : List RawTerm) (t : RawTerm) → unsigned o xs ≡ Some t → length (term_tokens t) ≤ length (sign_tokens o) + length (operation os (map term_tokens xs))
unsigned_falls None os xs t e = omega (arith, sole_operation term_tokens os xs t e)
unsigned_falls (Some s) os xs t e = absurd (not_none e)

sole_term_falls : Falls sum_tokens term_tokens sole_term
sole_term_falls s t e = omega (arith, unsigned_falls (out-RawSum s).sign (map (λ s. add_symbol s.op) (out-RawSum s).operators) (out-RawSum s).operands t e, sum_layer s)

sole_differ_falls : Falls term_tokens differ_tokens (λ x. sole (out-RawTerm x).operands)
sole_differ_falls x y e = omega (arith, sole_operation differ_tokens (map (λ s. multiply_symbol s.op) (out-RawTerm x).operators) (out-RawTerm x).operands y e, ap length (term-layer x))

sole_union_falls : Falls differ_tokens union_tokens (λ x. sole (out-RawDiffer x).operands)
sole_union_falls x y e = omega (arith, sole_between union_tokens (word words.Differ) (out-RawDiffer x).operands y e, ap length (differ-layer x))

sole_mask_falls : Falls union_tokens mask_tokens (λ x. sole (out-RawUnion x).operands)
sole_mask_falls x y e = omega (arith, sole_between mask_tokens (word words.Union) (out-RawUnion x).operands y e, ap length (union-layer x))

sole_prim_falls : Falls mask_tokens prim_tokens (λ x. sole (out-RawMask x).operands)
sole_prim_falls x y e = omega (arith, sole_between prim_tokens (word words.Mask) (out-RawMask x).operands y e, ap length (mask-layer x))

-- ---- what a bracket alone holds

held_in_layer : (x : PrimaryLayer) (e : RawExpr) → held x ≡ Some e → length (expr_tokens e) ≤ length (primary_tokens (roll-RawPrimary x))
held_in_layer (layer.Bracket at x) e q =
    let a = ap (λ y. length (expr_tokens y)) (same_some q) in
    let b : length (primary_tokens (primary_tree.Bracket at x)) ≡ length (bracketed (expr_tokens x)) = ap length (bracket-tokens at x) in
    let c = ap (λ y. length (primary_tokens y)) (primary_tree.rolls-Bracket at x) in
    let d : length (bracketed (expr_tokens x)) ≡ suc (length (expr_tokens x) + 1) = ap suc (length-append (expr_tokens x) _) in
    omega (arith, a, b, c, d)
held_in_layer _ e q = absurd (not_none q)

primary_held : Falls primary_tokens expr_tokens bracket_primary
primary_held x e q = let a = ap (λ y. length (primary_tokens y)) (roll-out-RawPrimary x) in omega (arith, held_in_layer (out-RawPrimary x) e q, a)

abbrev bare_of : List RawBits → RawPrimary → Option RawExpr
bare_of bits x = elim bits [ [] ↦ bracket_primary x | b ∷ bs ↦ None ]

bare_held : (bits : List RawBits) (x : RawPrimary) (e : RawExpr) → bare_of bits x ≡ Some e → length (expr_tokens e) ≤ length (primary_tokens x)
bare_held [] x e q = primary_held x e q
bare_held (b ∷ bits) x e q = absurd (not_none q)

prim_held : Falls prim_tokens expr_tokens bracket_prim
prim_held x e q = omega (arith, bare_held (out-RawPrim x).bits (out-RawPrim x).primary e q, prim_layer x)

falls : Kept (λ (a b : ℕ). a ≤ b) (λ x. length (expr_tokens x)) (λ x. length (sum_tokens x)) (λ x. length (term_tokens x)) (λ x. length (differ_tokens x)) (λ x. length (union_tokens x)) (λ x. length (mask_tokens x)) (λ x. length (prim_tokens x)) (λ x. length (primary_tokens x))
falls = record {
  itself = λ v. omega arith;
  through = λ a b c p q. omega (arith, p, q);
  sums = as_sum_falls;
  terms = sole_term_falls;
  differs = sole_differ_falls;
  unions = sole_union_falls;
  masks = sole_mask_falls;
  prims = sole_prim_falls;
  held = prim_held;
  primary_held = primary_held;
}

-- ---- operands: the first, and more behind their operators

-- A tree of a rule whose first operand is joined where its bracket holds a tree of the same rule.
joined_most : {A B C : Type 0} (inner : A → Tokens) (outer : C → Tokens) (written : Operands A B → Tokens) (parts : C → Operands A B) (tree : Operands A B → C) (bracket : A → Option C)
    → Falls inner outer bracket → ((c : C) → outer c ≡ written (parts c)) → ((xs : List A) (os : List B) → outer (tree (xs, os)) ≡ written (xs, os))
    → ((x : A) → written (x ∷ [], []) ≡ inner x ++ []) → ((ops : Operands A B) (b : B) (y : A) → length (written (ops.0 ++ y ∷ [], ops.1 ++ b ∷ [])) ≤ length (written ops) + suc (length (inner y)))
    → (x : A) (more : List (B × A)) → length (outer (tree (extended (first_of parts (bracket x) x) more))) ≤ length (inner x) + separated (map (λ z. length (inner z.1)) more)
joined_most {A = A} {B = B} inner outer written parts tree bracket falling taken makes alone grows x more =
    let size : Operands A B → ℕ = λ o. length (written o) in
    let start : Operands A B = first_of parts (bracket x) x in
    let ops : Operands A B = extended start more in
    let one : size (x ∷ [], []) ≡ length (inner x ++ []) = ap length (alone x) in
    let all : length (outer (tree ops)) ≡ size ops = ap length (makes ops.0 ops.1) in
    let grown : size ops ≤ size start + separated (map (λ z. length (inner z.1)) more) = extended_most size (λ y. length (inner y)) grows start more in
    let begun : size start ≤ length (inner x) =
    first_most size (λ y. length (inner y)) parts (bracket x) x (omega (arith, one, length-append (inner x) []))
    (λ c e. omega (arith, ap length (taken c), falling x c e)) in
    omega (arith, all, grown, begun)

-- one with a word between its operands
worded_most : {A C : Type 0} (inner : A → Tokens) (outer : C → Tokens) (w : Word) (parts : C → Operands A Position) (tree : Operands A Position → C) (bracket : A → Option C)
    → Falls inner outer bracket → ((c : C) → outer c ≡ between (word w) (map inner (parts c).0)) → ((xs : List A) (os : List Position) → outer (tree (xs, os)) ≡ between (word w) (map inner xs))
    → (x : A) (more : List (Position × A)) → length (outer (tree (extended (first_of parts (bracket x) x) more))) ≤ length (inner x) + separated (map (λ z. length (inner z.1)) more)
worded_most inner outer w parts tree bracket falling taken makes =
    joined_most inner outer (λ o. between (word w) (map inner o.0)) parts tree bracket falling taken makes (λ x. refl) (λ o b y. between_grows (word w) inner o.0 y)

pub mask_most : (x : RawPrim) (more : List (Position × RawPrim)) → length (mask_tokens (mask_tree (extended (mask_start x) more))) ≤ length (prim_tokens x) + separated (map (λ z. length (prim_tokens z.1)) more)
mask_most = worded_most prim_tokens mask_tokens words.Mask mask_parts mask_tree (λ x. bracket_prim x >>- as_mask) (mask_keeps falls) mask-layer mask-tokens

pub union_most : (x : RawMask) (more : List (Position × RawMask)) → length (union_tokens (union_tree (extended (union_start x) more))) ≤ length (mask_tokens x) + separated (map (λ z. length (mask_tokens z.1)) more)
union_most = worded_most mask_tokens union_tokens words.Union union_parts union_tree (λ x. bracket_mask x >>- as_union) (union_keeps falls) union-layer union-tokens

pub differ_most : (x : RawUnion) (more : List (Position × RawUnion)) → length (differ_tokens (differ_tree (extended (differ_start x) more))) ≤ length (union_tokens x) + separated (map (λ z. length (union_tokens z.1)) more)
differ_most = worded_most union_tokens differ_tokens words.Differ differ_parts differ_tree (λ x. bracket_union x >>- as_differ) (differ_keeps falls) differ-layer differ-tokens

pub term_most : (x : RawDiffer) (more : List (RawFactorSign × RawDiffer)) → length (term_tokens (term_tree (extended (term_start x) more))) ≤ length (differ_tokens x) + separated (map (λ z. length (differ_tokens z.1)) more)
term_most = joined_most differ_tokens term_tokens (λ (o : Operands RawDiffer RawFactorSign). operation (map (λ (s : RawFactorSign). multiply_symbol s.op) o.1) (map differ_tokens o.0)) term_parts term_tree (λ x. bracket_differ x >>- as_term) (term_keeps falls) term-layer term-tokens
    (λ x. refl) (λ o b y. operation_grows (λ (s : RawFactorSign). multiply_symbol s.op) differ_tokens o.1 o.0 b y)

-- ---- sums

abbrev operands_length : Operands RawTerm RawSign → ℕ
operands_length o = length (operation (map (λ s. add_symbol s.op) o.1) (map term_tokens o.0))

abbrev terms_length : Terms → ℕ
terms_length x = length (sign_tokens x.0) + operands_length x.1

terms_fall : (o : Option RawSum) (t : RawTerm) → ((s : RawSum) → o ≡ Some s → length (sum_tokens s) ≤ length (term_tokens t)) → terms_length (terms_of o t) ≤ length (term_tokens t)
terms_fall None t k = omega (arith, length-append (term_tokens t) [])
terms_fall (Some s) t k = omega (arith, sum_layer s, k s refl)

sum_begun : (o : Option RawSign) (t : RawTerm) → terms_length (sum_start o t) ≤ length (sign_tokens o) + length (term_tokens t)
sum_begun None t =
    let h = terms_fall (bracket_term t >>- as_sum) t (sum_keeps falls t) in
    omega (arith, h)
sum_begun (Some s) t = omega (arith, length-append (term_tokens t) [])

pub sum_most : (o : Option RawSign) (t : RawTerm) (more : List (RawSign × RawTerm)) → length (sum_tokens (sum_tree (more_terms (sum_start o t) more))) ≤ length (sign_tokens o) + length (term_tokens t) + separated (map (λ z. length (term_tokens z.1)) more)
sum_most o t more =
    let start : Terms = sum_start o t in
    let ops : Operands RawTerm RawSign = extended start.1 more in
    let all = sum_made start.0 ops.0 ops.1 in
    let grown : operands_length ops ≤ operands_length start.1 + separated (map (λ z. length (term_tokens z.1)) more) =
    extended_most operands_length (λ y. length (term_tokens y)) (λ p b y. operation_grows (λ s. add_symbol s.op) term_tokens p.1 p.0 b y) start.1 more in
    omega (arith, all, grown, sum_begun o t)

-- ---- expressions and primaries

expr_or_falls : (o : Option RawExpr) (s : RawSum) → ((e : RawExpr) → o ≡ Some e → length (expr_tokens e) ≤ length (sum_tokens s)) → length (expr_tokens (expr_or o s)) ≤ length (sum_tokens s)
expr_or_falls None s k = let a = ap length (sum_expr-tokens s) in omega (arith, a)
expr_or_falls (Some e) s k = k e refl

pub expr_of_falls : (s : RawSum) → length (expr_tokens (expr_of s)) ≤ length (sum_tokens s)
expr_of_falls s = expr_or_falls (bracket_sum s) s (expr_keeps falls s)

bits_joined : (xs ys : List RawBits) → total (map (λ b. length (bits_tokens b)) (xs ++ ys)) ≡ total (map (λ b. length (bits_tokens b)) xs) + total (map (λ b. length (bits_tokens b)) ys)
bits_joined [] ys = omega arith
bits_joined (x ∷ xs) ys = omega (arith, bits_joined xs ys)

prim_or_falls : (o : Option RawPrim) (bits : List RawBits) (x : RawPrimary) → ((q : RawPrim) → o ≡ Some q → length (prim_tokens q) ≤ length (primary_tokens x)) → length (prim_tokens (prim_or o bits x)) ≤ total (map (λ b. length (bits_tokens b)) bits) + length (primary_tokens x)
prim_or_falls None bits x k = omega (arith, prim_made bits x)
prim_or_falls (Some q) bits x k = omega (arith, prim_made (bits ++ (out-RawPrim q).bits) (out-RawPrim q).primary, bits_joined bits (out-RawPrim q).bits, prim_layer q, k q refl)

pub prim_of_falls : (bits : List RawBits) (x : RawPrimary) → length (prim_tokens (prim_of bits x)) ≤ total (map (λ b. length (bits_tokens b)) bits) + length (primary_tokens x)
prim_of_falls bits x = prim_or_falls (bracket_primary x >>- as_prim) bits x (prim_keeps falls x)
