-- Alternatives of rules, each by a name of its own.
use Rattle.cw_lex.specs.declared.token.TokenKind.TheVariants as kinds
use Rattle.cw_lex.specs.declared.token.Symbol.TheVariants as symbols
use Rattle.cw_lex.specs.declared.token.Word.TheVariants as words
use Rattle.cw_tree.specs.declared.expression.RawPrimary.TheVariants as primary_tree
use Rattle.cw_tree.specs.declared.expression.RawRef.TheVariants as ref_tree
use Rattle.cw_grammar.specs.Tokens.{position, characters}
use Rattle.cw_grammar.specs.Grammar.{a_primary, bracketed, subscript, located, Grammar, one, opens, ◌·◌, ◌⇒◌}
use Rattle.cw_grammar.specs.Rules.{word, number_type, raw_literal}

-- literal
abbrev pub literal : Grammar a_primary
literal = one kinds.Literal ⇒ (λ t. primary_tree.Literal (raw_literal t))

-- string
abbrev pub quoted : Grammar a_primary
quoted = one kinds.Text ⇒ (λ t. primary_tree.Text (position t) (characters t.kind t.text))

-- LOCATION "(" ref ")"
abbrev pub location : Grammar a_primary
location = word words.Location · opens (kinds.Symbol symbols.Open) located ⇒ (λ x. primary_tree.Location (position x.0) x.1.1)

-- type "(" expr ")"
abbrev pub forced : Grammar a_primary
forced = number_type · opens (kinds.Symbol symbols.Open) bracketed ⇒ (λ x. primary_tree.Forced x.0 x.1.1)

-- "(" expr ")"
abbrev pub in_brackets : Grammar a_primary
in_brackets = opens (kinds.Symbol symbols.Open) bracketed ⇒ (λ x. primary_tree.Bracket (position x.0) x.1)

-- "[" expr "]"
abbrev pub addressed : Grammar a_primary
addressed = opens (kinds.Symbol symbols.OpenSquare) subscript ⇒ (λ x. primary_tree.Ref (ref_tree.Bare (position x.0) x.1))
