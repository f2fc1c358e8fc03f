-- Expressions and conditions have at least as many tokens as they count.
use Rattle.std.proofs.Common.{◌≡◌, ℕ, ◌+◌, ◌*◌, ◌≤◌, List, [], ◌∷◌, length, map, Option, Some, None, arith}
use Rattle.cw_tree.specs.declared.expression.RawBits.{RawBits}
use Rattle.cw_tree.specs.declared.leaf.RawName.{RawName}
use Rattle.cw_tree.specs.declared.expression.RawExpr.{RawExpr}
use Rattle.cw_tree.specs.declared.expression.RawRef.TheVariants as ref_tree
use Rattle.cw_grammar.specs.Tokens.{position, characters}
use Rattle.cw_grammar.specs.Grammar.{a_list, an_option, an_octal, an_int, a_size, a_type, a_sign, a_bits, an_expr, a_cond, a_cand, a_cmp, a_sum, a_term, a_differ, a_union, a_mask, a_prim, a_primary, a_ref, many}
use Rattle.cw_grammar.specs.Rules.{octal, int, sign, number_type, size, bits, indexed_name, raw_literal, optional, reference, constant, worded, enclosed, named, primary, prim, mask, union, differ, term, sum, cmp, cand, condition, expr}
use Rattle.cw_grammar.specs.Trees.{extended}
use Rattle.cw_tokens.specs.TreeTokens as tokens
use Rattle.cw_tokens.specs.TreeTokens.{expr_tokens, primary_tokens, ref_tokens, cand_tokens, cmp_tokens, cond_tokens, differ_tokens, mask_tokens, prim_tokens, sum_tokens, term_tokens, union_tokens}
use Rattle.cw_tokens.proofs.Lists.{between_extended, arguments_most}
use Rattle.cw_tokens.proofs.Layers.{cond-made, cand-made, cmp-made, expr-Choice, primary-Number, primary-Octal, primary-Literal, primary-Text, primary-Location, primary-Forced, primary-Bracket, primary-Ref, primary-Call, ref-Name, ref-One, ref-Two, ref-Bare}
use Rattle.cw_tokens.proofs.Held.{mask_most, union_most, differ_most, term_most, sum_most, expr_of_keeps, prim_of_keeps}
use Rattle.cw_tokens.proofs.Counting.{b_one, b_none, b_then, b_left, b_right, b_end, b_more, b_map, b_opens, pairs_count, operation_counts, name_counts, number_counts, sign_counts, factor_counts, comparator_counts, operator_counts}
use Rattle.cw_tokens.proofs.Built.{second_tokens, Built, Counts}

-- ---- names, numbers, types and signs

octal_counts : Counts an_octal octal (λ x. 1)
unfolding octal
octal_counts x u (b_map (b_then b_one d)) = omega arith

int_counts : Counts an_int int (λ x. 1)
unfolding int
int_counts x u (b_left (b_map {u = v} {x = n} d)) = number_counts n v d
int_counts x u (b_right (b_map {u = v} {x = n} d)) = octal_counts n v d

pub type_counts : Counts a_type number_type (λ x. 1)
unfolding number_type
type_counts x u (b_left (b_map b_one)) = omega arith
type_counts x u (b_right (b_map (b_then b_one d))) = omega arith

front_counts : Counts (an_option a_sign) (optional sign) tokens.sign
front_counts x u (b_left (b_map {u = v} {x = y} d)) = sign_counts y v d
front_counts x u (b_right b_none) = omega arith

size_counts : Counts a_size size (λ x. 5)
unfolding size
size_counts x u (b_map (b_then b_one (b_then {u = v} d (b_then b_one (b_then {u = w} e b_one))))) = omega (arith, int_counts _ v d, int_counts _ w e)

pub bits_counts : Counts a_bits bits (λ x. 6)
unfolding bits
bits_counts x u (b_map (b_then {v = v} b_one d)) = omega (arith, size_counts _ v d)

many_bits : {xs : List RawBits} {u : ℕ} → Built (a_list a_bits) (many bits) xs u → 6 * length xs ≤ u
many_bits b_end = omega arith
many_bits (b_more {u = u} d e) = omega (arith, bits_counts _ u d, many_bits e)

-- ---- references

pub indexed_most : (n : RawName) (e : RawExpr) (o : Option RawExpr) → ref_tokens (indexed_name n e o) ≡ 3 + (expr_tokens e + second_tokens o)
indexed_most n e None = omega (arith, ref-One n e)
indexed_most n e (Some d) = omega (arith, ref-Two n e d)

pub reference_counts : Counts a_ref reference ref_tokens
unfolding reference
reference_counts x u (b_left (b_map (b_then {x = n} d (b_left (b_map (b_opens {x = y} h)))))) = omega (arith, name_counts _ _ d, indexed_most n y.0 y.1, h)
reference_counts x u (b_left (b_map (b_then {x = n} d (b_right b_none)))) = omega (arith, name_counts _ _ d, ref-Name n)
reference_counts x u (b_right (b_map (b_opens {t = t} {x = y} h))) = omega (arith, ref-Bare (position t) y, h)

-- ---- primaries

constant_counts : Counts a_primary constant primary_tokens
unfolding constant
constant_counts x u (b_left (b_map {u = v} {x = n} d)) = omega (arith, primary-Number n, number_counts n v d)
constant_counts x u (b_right (b_left (b_map {u = v} {x = n} d))) = omega (arith, primary-Octal n, octal_counts n v d)
constant_counts x u (b_right (b_right (b_left (b_map {x = t} b_one)))) = omega (arith, primary-Literal (raw_literal t))
constant_counts x u (b_right (b_right (b_right (b_map {x = t} b_one)))) = omega (arith, primary-Text (position t) (characters t.kind t.text))

worded_counts : Counts a_primary worded primary_tokens
unfolding worded
worded_counts x u (b_left (b_map (b_then {x = w} b_one (b_opens {x = r} h)))) = omega (arith, primary-Location (position w) r, h)
worded_counts x u (b_right (b_map (b_then {x = t} d (b_opens {x = e} h)))) = omega (arith, type_counts t _ d, primary-Forced t e, h)

enclosed_counts : Counts a_primary enclosed primary_tokens
unfolding enclosed
enclosed_counts x u (b_left (b_map (b_opens {t = t} {x = e} h))) = omega (arith, primary-Bracket (position t) e, h)
enclosed_counts x u (b_right (b_map (b_opens {t = t} {x = e} h))) = omega (arith, primary-Ref (ref_tree.Bare (position t) e), ref-Bare (position t) e, h)

named_counts : Counts a_primary named primary_tokens
unfolding named
named_counts x u (b_map (b_then {x = n} d (b_left (b_map (b_opens {x = y} h))))) = omega (arith, name_counts n _ d, primary-Ref (indexed_name n y.0 y.1), indexed_most n y.0 y.1, h)
named_counts x u (b_map (b_then {x = n} d (b_right (b_left (b_map (b_opens {x = es} h)))))) = omega (arith, name_counts n _ d, primary-Call n es, arguments_most (map expr_tokens es), h)
named_counts x u (b_map (b_then {x = n} d (b_right (b_right b_none)))) = omega (arith, name_counts n _ d, primary-Ref (ref_tree.Name n), ref-Name n)

primary_counts : Counts a_primary primary primary_tokens
unfolding primary
primary_counts x u (b_left d) = constant_counts x u d
primary_counts x u (b_right (b_left d)) = worded_counts x u d
primary_counts x u (b_right (b_right (b_left d))) = enclosed_counts x u d
primary_counts x u (b_right (b_right (b_right d))) = named_counts x u d

prim_counts : Counts a_prim prim prim_tokens
unfolding prim
prim_counts x u (b_map (b_then {v = v} {x = bits} {y = p} d e)) = omega (arith, prim_of_keeps bits p, many_bits d, primary_counts p v e)

-- ---- operations

-- each over the one before it
term_counts : Counts a_term term term_tokens
unfolding mask union differ term
term_counts =
    let masks : Counts a_mask mask mask_tokens = λ x u d. operation_counts prim_tokens mask_tokens mask_most prim_counts operator_counts x u d in
    let unions : Counts a_union union union_tokens = λ x u d. operation_counts mask_tokens union_tokens union_most masks operator_counts x u d in
    let differs : Counts a_differ differ differ_tokens = λ x u d. operation_counts union_tokens differ_tokens differ_most unions operator_counts x u d in
    λ x u d. operation_counts differ_tokens term_tokens term_most differs factor_counts x u d

sum_counts : Counts a_sum sum sum_tokens
unfolding sum
sum_counts x u (b_map (b_then {u = w} {x = o} f (b_then {u = v} {x = y} {y = more} d e))) = omega (arith, sum_most o y more, front_counts o w f, term_counts y v d, pairs_count term_tokens sign_counts term_counts e)

cmp_counts : Counts a_cmp cmp cmp_tokens
unfolding cmp
cmp_counts x u (b_map (b_then {u = v} {x = a} d (b_then {u = w} {v = z} {x = op} {y = b} o e))) = omega (arith, cmp-made a op b, sum_counts a v d, comparator_counts op w o, sum_counts b z e)

cand_counts : Counts a_cand cand cand_tokens
unfolding cand
cand_counts x u d =
    operation_counts cmp_tokens cand_tokens (λ y more. omega (arith, cand-made (extended (y ∷ [], []) more).0 (extended (y ∷ [], []) more).1, between_extended cmp_tokens (y ∷ [], []) more)) cmp_counts operator_counts x u d

pub condition_counts : Counts a_cond condition cond_tokens
unfolding condition
condition_counts x u d =
    operation_counts cand_tokens cond_tokens (λ y more. omega (arith, cond-made (extended (y ∷ [], []) more).0 (extended (y ∷ [], []) more).1, between_extended cand_tokens (y ∷ [], []) more)) cand_counts operator_counts x u d

pub expr_counts : Counts an_expr expr expr_tokens
unfolding expr
expr_counts x u (b_left (b_map (b_opens {t = t} {x = y} h))) = omega (arith, expr-Choice (position t) y.0 y.1.0 y.1.1, h)
expr_counts x u (b_right (b_map {x = s} d)) = omega (arith, expr_of_keeps s, sum_counts s u d)
