-- The lengths of the canonical tokens inside the levels and of the rules that lead back to themselves.
use Rattle.std.proofs.Common.{ℕ, suc, ◌+◌, ◌≤◌, length, map, Option, Some, None}
use Rattle.cw_tree.specs.declared.leaf.Position.{Position}
use Rattle.cw_tree.specs.declared.expression.RawExpr.{RawExpr}
use Rattle.cw_tree.specs.declared.statement.RawStmt.{RawStmt}
use Rattle.cw_grammar.specs.Grammar.{Sort, Value, Rule, bracketed, subscript, indexed, called, located, conditional, if_rest, else_rest, for_rest, block_rest, proc_body, Again, labelled, labelled_simple, more_elems, places, Grammar}
use Rattle.cw_show.specs.Canonical.{between, behind_each, ended, comma, semicolon}
use Rattle.cw_show.specs.ExpressionTokens.{expr_tokens, cond_tokens, ref_tokens}
use Rattle.cw_show.specs.ItemTokens.{places_tokens, elem_tokens, preset_tokens}
use Rattle.cw_show.specs.StatementTokens.{felems_tokens, labels_tokens, simple_tokens, stmt_tokens, decl_tokens}
use Rattle.cw_tokens.proofs.Counting as counting

-- a second index, with the comma before it
abbrev pub second_length : Option RawExpr → ℕ
second_length None = 0
second_length (Some e) = suc (length (expr_tokens e))

-- what stands behind ELSE, with that word
abbrev pub behind_else : Option RawStmt → ℕ
behind_else None = 0
behind_else (Some s) = suc (length (stmt_tokens s))

-- the canonical tokens inside a level, up to its end
abbrev pub inside : (s : Sort) → Rule s → Value s → ℕ
inside _ bracketed x = suc (length (expr_tokens x))
inside _ subscript x = suc (length (expr_tokens x))
inside _ indexed x = suc (length (expr_tokens x.0) + second_length x.1)
inside _ called x = suc (length (between comma (map expr_tokens x)))
inside _ located x = suc (length (ref_tokens x))
inside _ conditional x = 2 + (length (cond_tokens x.0) + (length (expr_tokens x.1.0) + length (expr_tokens x.1.1)))
inside _ (if_rest q) x = suc (length (cond_tokens x.0) + (length (labels_tokens x.1.0.0) + length (simple_tokens x.1.0.1) + behind_else x.1.1))
inside _ (else_rest q) x = length (stmt_tokens x)
inside _ (for_rest q) x = 2 + (length (ref_tokens x.0) + (length (felems_tokens x.1.0) + length (stmt_tokens x.1.1)))
inside _ (block_rest q) x = suc (length (ended (map decl_tokens x.0)) + length (between semicolon (map stmt_tokens x.1)))
inside _ proc_body x = length (stmt_tokens x)

-- a list of presets has them wherever it stands
abbrev pub Within : (s : Sort) → Again s → Value s → ℕ → Type 0
Within _ (labelled q) x u = length (stmt_tokens x) ≤ u
Within _ (labelled_simple q) x u = length (labels_tokens x.0) + length (simple_tokens x.1) ≤ u
Within _ more_elems x u = length (behind_each semicolon (map elem_tokens x.0)) + length (preset_tokens x.1) ≤ u
Within _ places f u = (p : Position) → length (places_tokens (f p)) ≤ u

abbrev pub Built : (s : Sort) → Grammar s → Value s → ℕ → Type 0
Built s g x u = counting.Built inside Within s g x u

-- Each text of the grammar has at least as many tokens as this counts of its value.
abbrev pub Counts : (s : Sort) → Grammar s → (Value s → ℕ) → Type 0
Counts s g f = counting.Counts inside Within s g f
