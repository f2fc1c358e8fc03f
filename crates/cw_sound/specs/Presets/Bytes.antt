-- Texts of bytes, and tokens whose text is one. A text is a list of any numbers, and the characters of a string are words that are held at the start.
use Rattle.std.specs.Prelude.{ℕ, ◌<◌, List, All}
use Rattle.cw_lex.specs.Lexical.{Lexeme}

abbrev pub AreBytes : List ℕ → Type 0
AreBytes text = All (λ b. b < 256) text

abbrev pub HasBytes : Lexeme → Type 0
HasBytes t = AreBytes t.text
