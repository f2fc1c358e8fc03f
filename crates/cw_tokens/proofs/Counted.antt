-- What is derived has at least as many tokens as its value counts.
use Rattle.std.proofs.Common.{ℕ, ◌≤◌, Bool, List, length, arith}
use Rattle.cw_lex.specs.Lexical.{Lexeme}
use Rattle.cw_tree.specs.declared.segment.Raw.{Raw}
use Rattle.cw_grammar.specs.Tokens.{numbered}
use Rattle.cw_grammar.specs.Grammar.{Sort, a_stmt, a_raw, Rule, bracketed, subscript, indexed, called, located, conditional, if_rest, else_rest, for_rest, block_rest, proc_body, Again, labelled, labelled_simple, more_elems, places, again}
use Rattle.cw_grammar.specs.Statements.{text}
use Rattle.cw_grammar.specs.Table.{rule, again_rule}
use Rattle.cw_grammar.specs.Derives.{Derives}
use Rattle.cw_tokens.specs.TreeTokens.{expr_tokens, ref_tokens, felem_tokens, decl_tokens, stmt_tokens, text_tokens}
use Rattle.cw_tokens.proofs.Counting.{b_one, b_none, b_then, b_left, b_right, b_map, b_opens, b_again, token_counts, closed_counts, built, length_numbered}
use Rattle.cw_tokens.proofs.Built.{inside, again_tokens, Counts, many_counts, some_counts}
use Rattle.cw_tokens.proofs.Expressions.{reference_counts, condition_counts, expr_counts}
use Rattle.cw_tokens.proofs.Statements.{simple_counts, stmt_counts, felem_counts, decl_counts, text_counts}

stmt_again : (q : Bool) → Counts a_stmt (again (labelled q)) stmt_tokens
stmt_again q x u (b_again h) = h

-- ---- inside the levels

rule_counts : (s : Sort) (r : Rule s) → Counts s (rule r) (inside s r)
unfolding rule
rule_counts _ bracketed x u d = closed_counts expr_tokens expr_counts x u d
rule_counts _ subscript x u d = closed_counts expr_tokens expr_counts x u d
rule_counts _ indexed x u (b_then {u = v} {x = e} d (b_map (b_then (b_left (b_map (b_map (b_then {v = w} {y = f} b_one g)))) b_one))) = omega (arith, expr_counts e v d, expr_counts f w g)
rule_counts _ indexed x u (b_then {u = v} {x = e} d (b_map (b_then (b_right b_none) b_one))) = omega (arith, expr_counts e v d)
rule_counts _ called x u (b_map (b_then (b_map (b_then d l)) b_one)) = omega (arith, some_counts expr_tokens token_counts expr_counts d l)
rule_counts _ located x u d = closed_counts ref_tokens reference_counts x u d
rule_counts _ conditional x u (b_then {u = v} {x = c} d (b_then (b_map (b_then {v = w} {y = a} b_one e)) (b_map (b_then {v = z} {y = b} b_one f)))) = omega (arith, condition_counts c v d, expr_counts a w e, expr_counts b z f)
rule_counts _ (if_rest q) x u (b_then {u = v} {x = c} d (b_then (b_map (b_then b_one (b_again h))) (b_left (b_map (b_map (b_opens k)))))) = omega (arith, condition_counts c v d, h, k)
rule_counts _ (if_rest q) x u (b_then {u = v} {x = c} d (b_then (b_map (b_then b_one (b_again h))) (b_right b_none))) = omega (arith, condition_counts c v d, h)
rule_counts _ (else_rest q) x u (b_again h) = h
rule_counts _ (for_rest q) x u (b_then {u = v} {x = r} d (b_then (b_map (b_then b_one (b_map (b_then e l)))) (b_map (b_then b_one (b_again h))))) = omega (arith, reference_counts r v d, some_counts felem_tokens token_counts felem_counts e l, h)
rule_counts _ (block_rest q) x u (b_then ds (b_map (b_then (b_map (b_then s l)) (b_then b_one e)))) = omega (arith, many_counts decl_tokens (decl_counts q) ds, some_counts stmt_tokens token_counts (stmt_again q) s l)
rule_counts _ proc_body x u (b_again h) = h

again_counts : (s : Sort) (a : Again s) → Counts s (again_rule a) (again_tokens a)
unfolding again_rule
again_counts _ (labelled q) x u d = stmt_counts q x u d
again_counts _ (labelled_simple q) x u d = simple_counts q x u d
again_counts _ more_elems x u d = omega arith
again_counts _ places x u d = omega arith

pub counted : (n : ℕ) (ts : List Lexeme) (raw : Raw) → Derives n a_raw text (numbered 1 ts) raw → text_tokens raw ≤ length ts
counted n ts raw d = omega (arith, text_counts raw (length (numbered 1 ts)) (built rule_counts again_counts d), length_numbered 1 ts)
