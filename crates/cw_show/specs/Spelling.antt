-- The spelling of tokens, and the text that they are written as.
use Rattle.std.specs.Prelude.{ℕ, List, [], ◌∷◌, ◌++◌, codes}
use Rattle.cw_lex.specs.declared.token.TokenKind.{TokenKind}
use Rattle.cw_lex.specs.declared.token.TokenKind.TheVariants as kinds
use Rattle.cw_lex.specs.declared.token.Symbol.{Symbol}
use Rattle.cw_lex.specs.declared.token.Symbol.TheVariants as symbols
use Rattle.cw_lex.specs.declared.token.Word.{Word}
use Rattle.cw_lex.specs.declared.token.Word.TheVariants as words

-- a token by its kind and its bytes
pub record Spelling : Type 0 where
  pub kind : TokenKind
  pub text : List ℕ

abbrev pub word_text : Word → List ℕ
word_text words.Absolute = codes "ABSOLUTE"
word_text words.And = codes "AND"
word_text words.Answer = codes "ANSWER"
word_text words.Array = codes "ARRAY"
word_text words.Begin = codes "BEGIN"
word_text words.Bits = codes "BITS"
word_text words.Code = codes "CODE"
word_text words.Comment = codes "COMMENT"
word_text words.Common = codes "COMMON"
word_text words.Define = codes "DEFINE"
word_text words.Delete = codes "DELETE"
word_text words.Differ = codes "DIFFER"
word_text words.Do = codes "DO"
word_text words.Else = codes "ELSE"
word_text words.End = codes "END"
word_text words.External = codes "EXTERNAL"
word_text words.Finish = codes "FINISH"
word_text words.Fixed = codes "FIXED"
word_text words.Floating = codes "FLOATING"
word_text words.For = codes "FOR"
word_text words.Goto = codes "GOTO"
word_text words.If = codes "IF"
word_text words.Integer = codes "INTEGER"
word_text words.Label = codes "LABEL"
word_text words.Library = codes "LIBRARY"
word_text words.Literal = codes "LITERAL"
word_text words.Location = codes "LOCATION"
word_text words.Mask = codes "MASK"
word_text words.Octal = codes "OCTAL"
word_text words.Or = codes "OR"
word_text words.Overlay = codes "OVERLAY"
word_text words.Preset = codes "PRESET"
word_text words.Procedure = codes "PROCEDURE"
word_text words.Recursive = codes "RECURSIVE"
word_text words.Segment = codes "SEGMENT"
word_text words.Step = codes "STEP"
word_text words.Switch = codes "SWITCH"
word_text words.Table = codes "TABLE"
word_text words.Then = codes "THEN"
word_text words.Union = codes "UNION"
word_text words.Unsigned = codes "UNSIGNED"
word_text words.Until = codes "UNTIL"
word_text words.Value = codes "VALUE"
word_text words.While = codes "WHILE"
word_text words.With = codes "WITH"

abbrev pub symbol_text : Symbol → List ℕ
symbol_text symbols.Semicolon = codes ";"
symbol_text symbols.Colon = codes ":"
symbol_text symbols.Comma = codes ","
symbol_text symbols.Open = codes "("
symbol_text symbols.Close = codes ")"
symbol_text symbols.OpenSquare = codes "["
symbol_text symbols.CloseSquare = codes "]"
symbol_text symbols.Plus = codes "+"
symbol_text symbols.Minus = codes "-"
symbol_text symbols.Times = codes "*"
symbol_text symbols.Divide = codes "/"
symbol_text symbols.Less = codes "<"
symbol_text symbols.LessOrEqual = codes "<="
symbol_text symbols.Equal = codes "="
symbol_text symbols.GreaterOrEqual = codes ">="
symbol_text symbols.Greater = codes ">"
symbol_text symbols.NotEqual = codes "<>"
symbol_text symbols.Assign = codes ":="

abbrev pub word : Word → Spelling
word w = record { kind = kinds.Word w; text = word_text w }

abbrev pub symbol : Symbol → Spelling
symbol s = record { kind = kinds.Symbol s; text = symbol_text s }

-- What stands behind a token: the end of the line behind `;`, BEGIN and FINISH, and a blank behind each other token.
abbrev pub separator : TokenKind → ℕ
separator (kinds.Symbol symbols.Semicolon) = 10
separator (kinds.Word words.Begin) = 10
separator (kinds.Word words.Finish) = 10
separator _ = 32

-- the text of tokens, each with its separator behind it
abbrev pub text_of : List Spelling → List ℕ
text_of [] = []
text_of (t ∷ ts) = t.text ++ separator t.kind ∷ text_of ts
