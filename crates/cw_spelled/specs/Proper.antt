-- What is known of each token that the lexer gives, of a text or of a macro's body, by its kind.
use Rattle.std.specs.Prelude.{◌≡◌, ◌≢◌, ℕ, true, List, Some}
use Rattle.cw_lex.specs.declared.token.Form.TheVariants.{Source}
use Rattle.cw_lex.specs.declared.token.Word.TheVariants as words
use Rattle.cw_lex.specs.declared.token.TokenKind.{TokenKind}
use Rattle.cw_lex.specs.declared.token.TokenKind.TheVariants as kinds
use Rattle.cw_lex.specs.Items.{IsWord, IsIdentifier, IsNumber, IsText, IsBodyText, IsLiteral, symbol_of, keeps_limit}
use Rattle.cw_lex.specs.Lexical.{Lexeme}

-- The bytes are a token of this kind. No token is COMMENT, and names and numbers keep their limits.
abbrev pub IsProperAs : TokenKind → List ℕ → Type 0
IsProperAs (kinds.Word k) w = IsWord w k × (k ≢ words.Comment)
IsProperAs kinds.Name w = IsIdentifier w × (keeps_limit kinds.Name w ≡ true)
IsProperAs kinds.Number w = IsNumber w × (keeps_limit kinds.Number w ≡ true)
IsProperAs kinds.Text w = IsText w
IsProperAs kinds.BodyText w = IsBodyText w
-- One of a macro's body is one of the source too.
IsProperAs kinds.Literal w = IsLiteral Source w
IsProperAs (kinds.Symbol s) w = symbol_of w ≡ Some s

abbrev pub IsProperToken : Lexeme → Type 0
IsProperToken t = IsProperAs t.kind t.text
