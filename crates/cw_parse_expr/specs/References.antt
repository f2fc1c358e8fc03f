-- Alternatives of references, each by a name of its own.
use Rattle.cw_lex.specs.declared.token.TokenKind.TheVariants as kinds
use Rattle.cw_lex.specs.declared.token.Symbol.TheVariants as symbols
use Rattle.cw_tree.specs.declared.expression.RawRef.TheVariants as ref_tree
use Rattle.cw_grammar.specs.Tokens.{position}
use Rattle.cw_grammar.specs.Grammar.{a_from, a_name, a_ref, subscript, indexed, Grammar, ◌⇒◌, opens}
use Rattle.cw_grammar.specs.Rules.{indexed_name}

-- "[" expr [ "," expr ] "]", behind its name
abbrev pub element : Grammar (a_from a_name a_ref)
element = opens (kinds.Symbol symbols.OpenSquare) indexed ⇒ (λ x n. indexed_name n x.1.0 x.1.1)

-- "[" expr "]"
abbrev pub bare : Grammar a_ref
bare = opens (kinds.Symbol symbols.OpenSquare) subscript ⇒ (λ x. ref_tree.Bare (position x.0) x.1)
