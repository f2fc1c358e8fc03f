-- What names, strings and literals must be, that they are tokens as they are spelled.
use Rattle.std.specs.Prelude.{◌≡◌, ℕ, true, List, None, All}
use Rattle.cw_lex.specs.declared.token.Form.TheVariants.{Source}
use Rattle.cw_lex.specs.declared.token.TokenKind.{TokenKind}
use Rattle.cw_lex.specs.declared.token.TokenKind.TheVariants as kinds
use Rattle.cw_lex.specs.Items.{word_of, IsText, is_literal_byte}
use Rattle.cw_grammar.specs.Tokens.{literal_byte}
use Rattle.cw_show.specs.Canonical.{Tokens}

-- A name is no word, a string has characters that can stand between quotes, and a literal has one that can stand in brackets.
abbrev pub IsLeaf : TokenKind → List ℕ → Type 0
IsLeaf kinds.Name text = word_of text ≡ None
IsLeaf kinds.Text text = IsText text
IsLeaf kinds.Literal text = is_literal_byte Source (literal_byte text) ≡ true
IsLeaf _ text = Unit {0}

abbrev pub HasSpelledLeaves : Tokens → Type 0
HasSpelledLeaves = All (λ t. IsLeaf t.kind t.text)
