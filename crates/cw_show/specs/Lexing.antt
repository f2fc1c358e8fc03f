-- The tokens of a text that is written token by token.
use Rattle.std.specs.Prelude.{◌≡◌, ℕ, Bool, true, false, List, [], ◌∷◌, ◌++◌, map, All}
use Rattle.cw_lex.specs.declared.token.Form.TheVariants.{Source}
use Rattle.cw_lex.specs.declared.token.TokenKind.TheVariants as kinds
use Rattle.cw_lex.specs.declared.token.Word.{Word}
use Rattle.cw_lex.specs.declared.token.Word.TheVariants as words
use Rattle.cw_lex.specs.declared.token.Symbol.{Symbol}
use Rattle.cw_lex.specs.Items.{IsIdentifier, IsNumber, IsQuotable, is_literal_byte, keeps_limit}
use Rattle.cw_lex.specs.Lexical.{Lexeme, Tokenizes, first_place, is_token, is_semicolon}
use Rattle.cw_show.specs.Spelling.{Spelling, word, symbol, text_of}
use Rattle.cw_show.specs.Canonical.{name, literal}

-- COMMENT begins a comment, and LITERAL alone may begin a literal.
abbrev pub stands_alone : Word → Bool
stands_alone words.Comment = false
stands_alone words.Literal = false
stands_alone _ = true

-- The spelling of a token: a word, a symbol, a name, a number, a string or a literal.
pub data IsSpelled : Spelling → Type 0 where
  a_word : (w : Word) → stands_alone w ≡ true → IsSpelled (word w)
  a_symbol : (s : Symbol) → IsSpelled (symbol s)
  a_name : (w : List ℕ) → IsIdentifier w → keeps_limit kinds.Name w ≡ true → IsSpelled (name w)
  a_number : (w : List ℕ) → IsNumber w → keeps_limit kinds.Number w ≡ true → IsSpelled (record { kind = kinds.Number; text = w })
  a_string : (w : List ℕ) → IsQuotable w → IsSpelled (record { kind = kinds.Text; text = 34 ∷ w ++ 34 ∷ [] })
  a_literal : (byte : ℕ) → is_literal_byte Source byte ≡ true → IsSpelled (literal byte)

-- No opening bracket stands directly behind a semicolon.
abbrev pub NoComment : Bool → List Spelling → Type 0
NoComment after_semicolon [] = Unit {0}
NoComment after_semicolon (t ∷ ts) = (is_token after_semicolon t.kind ≡ true) × NoComment (is_semicolon t.kind) ts

abbrev pub spelling : Lexeme → Spelling
spelling t = record { kind = t.kind; text = t.text }

-- A text written token by token has these tokens and no others.
abbrev pub TokenizesAsWritten : Type 0
TokenizesAsWritten = (ts : List Spelling) → All IsSpelled ts → NoComment false ts
    → (us : List Lexeme) × Tokenizes Source first_place (text_of ts) us × (map spelling us ≡ ts)
