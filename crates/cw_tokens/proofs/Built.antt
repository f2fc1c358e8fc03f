-- What is counted inside the levels and of the rules that lead back to themselves, and of lists.
use Rattle.std.proofs.Common.{ℕ, suc, ◌+◌, ◌*◌, ◌≤◌, List, ◌∷◌, length, map, Option, Some, None, arith}
use Rattle.cw_tree.specs.declared.expression.RawExpr.{RawExpr}
use Rattle.cw_tree.specs.declared.statement.RawStmt.{RawStmt}
use Rattle.cw_grammar.specs.Grammar.{Sort, a_list, Value, Rule, bracketed, subscript, indexed, called, located, conditional, if_rest, else_rest, for_rest, block_rest, proc_body, Again, labelled, labelled_simple, more_elems, places, Grammar, many}
use Rattle.cw_grammar.specs.Rules.{◌*>◌}
use Rattle.cw_tokens.specs.LeastTokens.{separated}
use Rattle.cw_tokens.specs.TreeTokens.{total, expr_tokens, cond_tokens, ref_tokens, felem_tokens, simple_tokens, stmt_tokens, decl_tokens}
use Rattle.cw_tokens.proofs.Counting as counting
use Rattle.cw_tokens.proofs.Counting.{b_end, b_more, behind_counts}

-- a second index, with the comma before it
abbrev pub second_tokens : Option RawExpr → ℕ
second_tokens None = 0
second_tokens (Some e) = suc (expr_tokens e)

-- what stands behind ELSE, with that word
abbrev pub behind_else : Option RawStmt → ℕ
behind_else None = 0
behind_else (Some s) = suc (stmt_tokens s)

-- what is counted inside a level, up to its end
abbrev pub inside : (s : Sort) → Rule s → Value s → ℕ
inside _ bracketed x = suc (expr_tokens x)
inside _ subscript x = suc (expr_tokens x)
inside _ indexed x = suc (expr_tokens x.0 + second_tokens x.1)
inside _ called x = separated (map expr_tokens x)
inside _ located x = suc (ref_tokens x)
inside _ conditional x = 2 + (cond_tokens x.0 + (expr_tokens x.1.0 + expr_tokens x.1.1))
inside _ (if_rest q) x = suc (cond_tokens x.0 + (2 * length x.1.0.0 + simple_tokens x.1.0.1 + behind_else x.1.1))
inside _ (else_rest q) x = stmt_tokens x
inside _ (for_rest q) x = suc (ref_tokens x.0 + (separated (map felem_tokens x.1.0) + stmt_tokens x.1.1))
inside _ (block_rest q) x = total (map decl_tokens x.0) + separated (map stmt_tokens x.1)
inside _ proc_body x = stmt_tokens x

abbrev pub again_tokens : {s : Sort} → Again s → Value s → ℕ
again_tokens (labelled q) x = stmt_tokens x
again_tokens (labelled_simple q) x = 2 * length x.0 + simple_tokens x.1
again_tokens more_elems x = 0
again_tokens places x = 0

abbrev pub Within : (s : Sort) → Again s → Value s → ℕ → Type 0
Within s a x u = again_tokens a x ≤ u

abbrev pub Built : (s : Sort) → Grammar s → Value s → ℕ → Type 0
Built s g x u = counting.Built inside Within s g x u

abbrev pub Counts : (s : Sort) → Grammar s → (Value s → ℕ) → Type 0
Counts s g f = counting.Counts inside Within s g f

-- ---- lists

pub many_counts : {s : Sort} {g : Grammar s} (f : Value s → ℕ) → Counts s g f → {xs : List (Value s)} {u : ℕ} → Built (a_list s) (many g) xs u → total (map f xs) ≤ u
many_counts f k b_end = omega arith
many_counts f k (b_more {u = u} {x = x} d e) = omega (arith, k x u d, many_counts f k e)

-- an item, and more, each behind a token
pub some_counts : {s t : Sort} {g : Grammar s} {h : Grammar t} (f : Value s → ℕ) → Counts t h (λ y. 1) → Counts s g f → {x : Value s} {xs : List (Value s)} {u v : ℕ} → Built s g x u → Built (a_list s) (many (h *> g)) xs v → separated (map f (x ∷ xs)) ≤ suc (u + v)
some_counts f l k {x = x} {u = u} d e = omega (arith, k x u d, behind_counts f l k e)
