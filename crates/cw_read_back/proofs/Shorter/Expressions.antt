-- Expressions and conditions have at least as many tokens as their canonical text.
use Rattle.std.proofs.Common.{◌≡◌, ℕ, suc, ◌+◌, ◌≤◌, List, [], ◌∷◌, ◌++◌, length, length-append, map, Option, Some, None, ap, ◌∙◌, arith}
use Rattle.cw_lex.specs.declared.token.Symbol.TheVariants as symbols
use Rattle.cw_lex.specs.declared.token.Word.{Word}
use Rattle.cw_lex.specs.declared.token.Word.TheVariants as words
use Rattle.cw_tree.specs.declared.leaf.RawInt.{RawInt}
use Rattle.cw_tree.specs.declared.leaf.RawName.{RawName}
use Rattle.cw_tree.specs.declared.leaf.RawSint.{RawSint}
use Rattle.cw_tree.specs.declared.leaf.Position.{Position}
use Rattle.cw_tree.specs.declared.leaf.RawType.TheVariants as type_tree
use Rattle.cw_tree.specs.declared.expression.RawBits.{RawBits}
use Rattle.cw_tree.specs.declared.expression.RawCand.{RawCand}
use Rattle.cw_tree.specs.declared.expression.RawCmp.{RawCmp}
use Rattle.cw_tree.specs.declared.expression.RawCond.{RawCond}
use Rattle.cw_tree.specs.declared.expression.RawExpr.{RawExpr}
use Rattle.cw_tree.specs.declared.expression.RawExpr.TheVariants as expr_tree
use Rattle.cw_tree.specs.declared.expression.RawPrimary.TheVariants as primary_tree
use Rattle.cw_tree.specs.declared.expression.RawRef.{RawRef}
use Rattle.cw_tree.specs.declared.expression.RawRef.TheVariants as ref_tree
use Rattle.cw_grammar.specs.Tokens.{position, characters}
use Rattle.cw_grammar.specs.Grammar.{a_list, an_option, an_octal, an_int, a_sint, a_size, a_type, a_sign, a_bits, an_expr, a_cond, a_cand, a_cmp, a_sum, a_term, a_differ, a_union, a_mask, a_prim, a_primary, a_ref, many}
use Rattle.cw_grammar.specs.Rules.{octal, int, sign, sint, number_type, size, bits, indexed_name, raw_literal, optional, reference, constant, worded, enclosed, named, primary, prim, mask, union, differ, term, sum, cmp, cand, condition, expr}
use Rattle.cw_grammar.specs.Trees.{Operands, extended, cand_tree, cond_tree}
use Rattle.cw_show.specs.Spelling.{word, symbol}
use Rattle.cw_show.specs.Canonical.{Tokens, compare_symbol, int_tokens, sint_tokens, sign_tokens, size_tokens, type_tokens, between, comma, bracketed, indexed}
use Rattle.cw_show.specs.ExpressionTokens.{bits_tokens, expr_tokens, primary_tokens, ref_tokens, cand_tokens, cmp_tokens, cond_tokens, differ_tokens, mask_tokens, prim_tokens, sum_tokens, term_tokens, union_tokens}
use Rattle.cw_read_back.proofs.Expressions.ExpressionLayers.{choice-tokens, number-tokens, octal-tokens, literal-tokens, string-tokens, location-tokens, forced-tokens, bracket-tokens, referred-tokens, call-tokens, named-tokens, one_index-tokens, two_indexes-tokens, bare-tokens, cand-tokens, cond-tokens, cmp-tokens}
use Rattle.cw_tokens.specs.LeastTokens.{separated}
use Rattle.cw_tokens.specs.TreeTokens.{total}
use Rattle.cw_read_back.proofs.Shorter.Lengths.{between_grows, extended_most}
use Rattle.cw_read_back.proofs.Shorter.Held.{mask_most, union_most, differ_most, term_most, sum_most, expr_of_falls, prim_of_falls}
use Rattle.cw_tokens.proofs.Counting.{b_one, b_none, b_then, b_left, b_right, b_end, b_more, b_map, b_opens, pairs_count, operation_counts, name_counts, number_counts, sign_counts, factor_counts, comparator_counts, operator_counts}
use Rattle.cw_read_back.proofs.Shorter.Built.{second_length, Built, Counts}

-- ---- names, numbers, types and signs

pub octal_counts : Counts an_octal octal (λ x. 4)
unfolding octal
octal_counts x u (b_map (b_then b_one (b_then b_one (b_then {u = v} {x = n} d b_one)))) = omega (arith, number_counts n v d)

pub int_counts : Counts an_int int (λ x. length (int_tokens x))
unfolding int
int_counts x u (b_left (b_map {u = v} {x = n} d)) = omega (arith, number_counts n v d)
int_counts x u (b_right (b_map {u = v} {x = n} d)) = omega (arith, octal_counts n v d)

pub front_counts : Counts (an_option a_sign) (optional sign) (λ o. length (sign_tokens o))
front_counts x u (b_left (b_map {u = v} {x = y} d)) = omega (arith, sign_counts y v d)
front_counts x u (b_right b_none) = omega arith

pub sint_counts : Counts a_sint sint (λ x. length (sint_tokens x))
unfolding sint
sint_counts x u (b_map (b_then {u = v} {v = w} {x = o} {y = i} d e)) = omega (arith, length-append (sign_tokens o) (int_tokens i), front_counts o v d, int_counts i w e)

fixed_length : (at : Position) (t : RawInt) (f : RawSint) → length (type_tokens (type_tree.Fixed at t f)) ≡ 4 + (length (int_tokens t) + length (sint_tokens f))
fixed_length at t f =
    let a = length-append (int_tokens t) (comma ∷ (sint_tokens f ++ symbol symbols.Close ∷ [])) in
    let b = length-append (sint_tokens f) (symbol symbols.Close ∷ []) in
    omega (arith, a, b)

pub type_counts : Counts a_type number_type (λ x. length (type_tokens x))
unfolding number_type
type_counts x u (b_left (b_map b_one)) = omega arith
type_counts x u (b_right (b_map (b_then {x = w} b_one (b_then b_one (b_then {u = v} {x = t} d (b_then b_one (b_then {u = z} {x = f} e b_one))))))) =
    omega (arith, fixed_length (position w) t f, int_counts t v d, sint_counts f z e)

pub size_counts : Counts a_size size (λ x. length (size_tokens x))
unfolding size
size_counts x u (b_map (b_then b_one (b_then {u = v} {x = a} d (b_then b_one (b_then {u = w} {x = b} e b_one))))) =
    omega (arith, int_counts a v d, int_counts b w e, length-append (int_tokens a) (comma ∷ (int_tokens b ++ symbol symbols.CloseSquare ∷ [])), length-append (int_tokens b) (symbol symbols.CloseSquare ∷ []))

pub bits_counts : Counts a_bits bits (λ x. length (bits_tokens x))
unfolding bits
bits_counts x u (b_map (b_then {v = v} {y = z} b_one d)) = omega (arith, size_counts z v d)

many_bits : {xs : List RawBits} {u : ℕ} → Built (a_list a_bits) (many bits) xs u → total (map (λ b. length (bits_tokens b)) xs) ≤ u
many_bits b_end = omega arith
many_bits (b_more {u = u} {x = x} d e) = omega (arith, bits_counts x u d, many_bits e)

-- ---- references

pub square_length : (ts : Tokens) → length (indexed ts) ≡ 2 + length ts
square_length ts = let a = length-append ts (symbol symbols.CloseSquare ∷ []) in omega (arith, a)

pub round_length : (ts : Tokens) → length (bracketed ts) ≡ 2 + length ts
round_length ts = let a = length-append ts (symbol symbols.Close ∷ []) in omega (arith, a)

pub ref_name : (n : RawName) → length (ref_tokens (ref_tree.Name n)) ≡ 1
ref_name n = ap length (named-tokens n)

pub ref_bare : (at : Position) (e : RawExpr) → length (ref_tokens (ref_tree.Bare at e)) ≡ 2 + length (expr_tokens e)
ref_bare at e = ap length (bare-tokens at e) ∙ square_length (expr_tokens e)

pub indexed_most : (n : RawName) (e : RawExpr) (o : Option RawExpr) → length (ref_tokens (indexed_name n e o)) ≡ 3 + (length (expr_tokens e) + second_length o)
indexed_most n e None = let a : length (ref_tokens (ref_tree.One n e)) ≡ suc (length (indexed (expr_tokens e))) = ap length (one_index-tokens n e) in omega (arith, a, square_length (expr_tokens e))
indexed_most n e (Some d) =
    let a = ap length (two_indexes-tokens n e d) in
    let b = length-append (expr_tokens e) (comma ∷ (expr_tokens d ++ symbol symbols.CloseSquare ∷ [])) in
    let c = length-append (expr_tokens d) (symbol symbols.CloseSquare ∷ []) in
    omega (arith, a, b, c)

pub reference_counts : Counts a_ref reference (λ x. length (ref_tokens x))
unfolding reference
reference_counts x u (b_left (b_map (b_then {u = v} {x = n} d (b_left (b_map (b_opens {x = y} h)))))) = omega (arith, name_counts n v d, indexed_most n y.0 y.1, h)
reference_counts x u (b_left (b_map (b_then {u = v} {x = n} d (b_right b_none)))) = omega (arith, name_counts n v d, ref_name n)
reference_counts x u (b_right (b_map (b_opens {t = t} {x = y} h))) = omega (arith, ref_bare (position t) y, h)

-- ---- primaries

referred : (r : RawRef) → length (primary_tokens (primary_tree.Ref r)) ≡ length (ref_tokens r)
referred r = ap length (referred-tokens r)

constant_counts : Counts a_primary constant (λ x. length (primary_tokens x))
unfolding constant
constant_counts x u (b_left (b_map {u = v} {x = n} d)) = let a = ap length (number-tokens n) in omega (arith, a, number_counts n v d)
constant_counts x u (b_right (b_left (b_map {u = v} {x = n} d))) = let a = ap length (octal-tokens n) in omega (arith, a, octal_counts n v d)
constant_counts x u (b_right (b_right (b_left (b_map {x = t} b_one)))) = let a = ap length (literal-tokens (raw_literal t)) in omega (arith, a)
constant_counts x u (b_right (b_right (b_right (b_map {x = t} b_one)))) = let a = ap length (string-tokens (position t) (characters t.kind t.text)) in omega (arith, a)

worded_counts : Counts a_primary worded (λ x. length (primary_tokens x))
unfolding worded
worded_counts x u (b_left (b_map (b_then {x = w} b_one (b_opens {x = r} h)))) =
    let a : length (primary_tokens (primary_tree.Location (position w) r)) ≡ suc (length (bracketed (ref_tokens r))) = ap length (location-tokens (position w) r) in
    omega (arith, a, round_length (ref_tokens r), h)
worded_counts x u (b_right (b_map (b_then {u = v} {x = t} d (b_opens {x = e} h)))) =
    let a = ap length (forced-tokens t e) in
    omega (arith, a, length-append (type_tokens t) (bracketed (expr_tokens e)), type_counts t v d, round_length (expr_tokens e), h)

enclosed_counts : Counts a_primary enclosed (λ x. length (primary_tokens x))
unfolding enclosed
enclosed_counts x u (b_left (b_map (b_opens {t = t} {x = e} h))) = let a = ap length (bracket-tokens (position t) e) in omega (arith, a, round_length (expr_tokens e), h)
enclosed_counts x u (b_right (b_map (b_opens {t = t} {x = e} h))) = omega (arith, referred (ref_tree.Bare (position t) e), ref_bare (position t) e, h)

named_counts : Counts a_primary named (λ x. length (primary_tokens x))
unfolding named
named_counts x u (b_map (b_then {u = v} {x = n} d (b_left (b_map (b_opens {x = y} h))))) = omega (arith, name_counts n v d, referred (indexed_name n y.0 y.1), indexed_most n y.0 y.1, h)
named_counts x u (b_map (b_then {u = v} {x = n} d (b_right (b_left (b_map (b_opens {x = es} h)))))) =
    let a : length (primary_tokens (primary_tree.Call n es)) ≡ suc (length (bracketed (between comma (map expr_tokens es)))) = ap length (call-tokens n es) in
    omega (arith, name_counts n v d, a, round_length (between comma (map expr_tokens es)), h)
named_counts x u (b_map (b_then {u = v} {x = n} d (b_right (b_right b_none)))) = omega (arith, name_counts n v d, referred (ref_tree.Name n), ref_name n)

primary_counts : Counts a_primary primary (λ x. length (primary_tokens x))
unfolding primary
primary_counts x u (b_left d) = constant_counts x u d
primary_counts x u (b_right (b_left d)) = worded_counts x u d
primary_counts x u (b_right (b_right (b_left d))) = enclosed_counts x u d
primary_counts x u (b_right (b_right (b_right d))) = named_counts x u d

prim_counts : Counts a_prim prim (λ x. length (prim_tokens x))
unfolding prim
prim_counts x u (b_map (b_then {v = v} {x = bits} {y = p} d e)) = omega (arith, prim_of_falls bits p, many_bits d, primary_counts p v e)

-- ---- operations

-- each over the one before it
term_counts : Counts a_term term (λ x. length (term_tokens x))
unfolding mask union differ term
term_counts =
    let masks : Counts a_mask mask (λ x. length (mask_tokens x)) = λ x u d. operation_counts (λ z. length (prim_tokens z)) (λ z. length (mask_tokens z)) mask_most prim_counts operator_counts x u d in
    let unions : Counts a_union union (λ x. length (union_tokens x)) = λ x u d. operation_counts (λ z. length (mask_tokens z)) (λ z. length (union_tokens z)) union_most masks operator_counts x u d in
    let differs : Counts a_differ differ (λ x. length (differ_tokens x)) = λ x u d. operation_counts (λ z. length (union_tokens z)) (λ z. length (differ_tokens z)) differ_most unions operator_counts x u d in
    λ x u d. operation_counts (λ z. length (differ_tokens z)) (λ z. length (term_tokens z)) term_most differs factor_counts x u d

sum_counts : Counts a_sum sum (λ x. length (sum_tokens x))
unfolding sum
sum_counts x u (b_map (b_then {u = w} {x = o} f (b_then {u = v} {x = y} {y = more} d e))) = omega (arith, sum_most o y more, front_counts o w f, term_counts y v d, pairs_count (λ z. length (term_tokens z)) sign_counts term_counts e)

cmp_counts : Counts a_cmp cmp (λ x. length (cmp_tokens x))
unfolding cmp
cmp_counts x u (b_map (b_then {u = v} {x = a} d (b_then {u = w} {v = z} {x = op} {y = b} o e))) =
    let all = ap length (cmp-tokens a op b) in
    omega (arith, all, length-append (sum_tokens a) (compare_symbol op.op ∷ sum_tokens b), sum_counts a v d, comparator_counts op w o, sum_counts b z e)

-- operands with a word between them, whose first is not joined
worded_most : {A C : Type 0} (inner : A → Tokens) (outer : C → Tokens) (w : Word) (tree : Operands A Position → C) → ((xs : List A) (os : List Position) → outer (tree (xs, os)) ≡ between (word w) (map inner xs))
    → (x : A) (more : List (Position × A)) → length (outer (tree (extended (x ∷ [], []) more))) ≤ length (inner x) + separated (map (λ z. length (inner z.1)) more)
worded_most {A = A} inner outer w tree makes x more =
    let ops : Operands A Position = extended (x ∷ [], []) more in
    let size : Operands A Position → ℕ = λ o. length (between (word w) (map inner o.0)) in
    let all : length (outer (tree ops)) ≡ size ops = ap length (makes ops.0 ops.1) in
    let grown : size ops ≤ size (x ∷ [], []) + separated (map (λ z. length (inner z.1)) more) = extended_most size (λ y. length (inner y)) (λ o b y. between_grows (word w) inner o.0 y) (x ∷ [], []) more in
    omega (arith, all, grown, length-append (inner x) [])

cand_most : (x : RawCmp) (more : List (Position × RawCmp)) → length (cand_tokens (cand_tree (extended (x ∷ [], []) more))) ≤ length (cmp_tokens x) + separated (map (λ z. length (cmp_tokens z.1)) more)
cand_most = worded_most cmp_tokens cand_tokens words.And cand_tree cand-tokens

cond_most : (x : RawCand) (more : List (Position × RawCand)) → length (cond_tokens (cond_tree (extended (x ∷ [], []) more))) ≤ length (cand_tokens x) + separated (map (λ z. length (cand_tokens z.1)) more)
cond_most = worded_most cand_tokens cond_tokens words.Or cond_tree cond-tokens

cand_counts : Counts a_cand cand (λ x. length (cand_tokens x))
unfolding cand
cand_counts x u d = operation_counts (λ z. length (cmp_tokens z)) (λ z. length (cand_tokens z)) cand_most cmp_counts operator_counts x u d

pub condition_counts : Counts a_cond condition (λ x. length (cond_tokens x))
unfolding condition
condition_counts x u d = operation_counts (λ z. length (cand_tokens z)) (λ z. length (cond_tokens z)) cond_most cand_counts operator_counts x u d

choice_length : (at : Position) (c : RawCond) (a b : RawExpr) → length (expr_tokens (expr_tree.Choice at c a b)) ≡ 3 + (length (cond_tokens c) + (length (expr_tokens a) + length (expr_tokens b)))
choice_length at c a b =
    let all = ap length (choice-tokens at c a b) in
    let x = length-append (cond_tokens c) (word words.Then ∷ (expr_tokens a ++ word words.Else ∷ expr_tokens b)) in
    let y = length-append (expr_tokens a) (word words.Else ∷ expr_tokens b) in
    omega (arith, all, x, y)

pub expr_counts : Counts an_expr expr (λ x. length (expr_tokens x))
unfolding expr
expr_counts x u (b_left (b_map (b_opens {t = t} {x = y} h))) = omega (arith, choice_length (position t) y.0 y.1.0 y.1.1, h)
expr_counts x u (b_right (b_map {x = s} d)) = omega (arith, expr_of_falls s, sum_counts s u d)
