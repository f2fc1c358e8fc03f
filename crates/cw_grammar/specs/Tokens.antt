-- The tokens that the grammar speaks of, and what names, numbers, strings and literals stand for.
use Rattle.std.specs.Prelude.{ℕ, min, ◌+◌, ◌-◌, ◌==◌, Bool, true, false, ◌&&◌, ◌||◌, List, [], ◌∷◌, map, length}
use Rattle.std.specs.Prelude.{take, drop, nat_le, Option, Some, None, unwrap_or, if◌then◌else◌}
use Rattle.std.specs.List.{list_all, prefix_len}
use Rattle.std.specs.Char.{is_ascii_digit, is_ascii_uppercase, to_ascii_uppercase}
use Rattle.std.specs.Str.Parse.{digits_value}
use Rattle.cw_lex.specs.declared.token.TokenKind.{TokenKind}
use Rattle.cw_lex.specs.declared.token.TokenKind.TheVariants as kinds
use Rattle.cw_lex.specs.declared.token.Symbol.{Symbol}
use Rattle.cw_lex.specs.declared.token.Symbol.TheVariants as symbols
use Rattle.cw_lex.specs.declared.token.Word.{Word}
use Rattle.cw_lex.specs.declared.token.Word.TheVariants as words
use Rattle.cw_lex.specs.declared.token.Token as token
use Rattle.cw_lex.specs.Lexical.{Lexeme, view}
use Rattle.cw_grammar.specs.declared.token.Item as item
use Rattle.cw_tree.specs.declared.leaf.Position.{Position}
use Rattle.cw_word.specs.Number.{Number}

-- A token with its number, from 1.
pub record Item : Type 0 where
  pub kind : TokenKind
  pub line : ℕ
  pub number : ℕ
  pub text : List ℕ

-- the token with the number n (4,294,967,295 is each number from there on)
abbrev pub with_number : ℕ → Lexeme → Item
with_number n t = record { kind = t.kind; line = t.line; number = min n 4294967295; text = t.text }

-- the tokens, numbered from n on
abbrev pub numbered : ℕ → List Lexeme → List Item
numbered n [] = []
numbered n (t ∷ ts) = with_number n t ∷ numbered (n + 1) ts

abbrev pub items : List token.Token → List Item
items ts = numbered 1 (map view ts)

-- an item of the readers, without where its text lies in memory
abbrev pub seen : item.Item → Item
seen t = record { kind = t.kind; line = t.line; number = t.number; text = t.text.now }

-- the tokens from a place on
unfoldable pub behind : List token.Token → ℕ → List Item
behind ts at = numbered (at + 1) (map view (drop at ts))

abbrev pub position : Item → Position
position t = record { line = t.line; token = t.number }

-- ---- kinds

abbrev pub symbol_code : Symbol → ℕ
symbol_code symbols.Semicolon = 4
symbol_code symbols.Colon = 5
symbol_code symbols.Comma = 6
symbol_code symbols.Open = 7
symbol_code symbols.Close = 8
symbol_code symbols.OpenSquare = 9
symbol_code symbols.CloseSquare = 10
symbol_code symbols.Plus = 11
symbol_code symbols.Minus = 12
symbol_code symbols.Times = 13
symbol_code symbols.Divide = 14
symbol_code symbols.Less = 15
symbol_code symbols.LessOrEqual = 16
symbol_code symbols.Equal = 17
symbol_code symbols.GreaterOrEqual = 18
symbol_code symbols.Greater = 19
symbol_code symbols.NotEqual = 20
symbol_code symbols.Assign = 21

abbrev pub word_code : Word → ℕ
word_code words.Absolute = 22
word_code words.And = 23
word_code words.Answer = 24
word_code words.Array = 25
word_code words.Begin = 26
word_code words.Bits = 27
word_code words.Code = 28
word_code words.Comment = 29
word_code words.Common = 30
word_code words.Define = 31
word_code words.Delete = 32
word_code words.Differ = 33
word_code words.Do = 34
word_code words.Else = 35
word_code words.End = 36
word_code words.External = 37
word_code words.Finish = 38
word_code words.Fixed = 39
word_code words.Floating = 40
word_code words.For = 41
word_code words.Goto = 42
word_code words.If = 43
word_code words.Integer = 44
word_code words.Label = 45
word_code words.Library = 46
word_code words.Literal = 47
word_code words.Location = 48
word_code words.Mask = 49
word_code words.Octal = 50
word_code words.Or = 51
word_code words.Overlay = 52
word_code words.Preset = 53
word_code words.Procedure = 54
word_code words.Recursive = 55
word_code words.Segment = 56
word_code words.Step = 57
word_code words.Switch = 58
word_code words.Table = 59
word_code words.Then = 60
word_code words.Union = 61
word_code words.Unsigned = 62
word_code words.Until = 63
word_code words.Value = 64
word_code words.While = 65
word_code words.With = 66

-- A string of the source and one of a macro body are of one kind here.
abbrev pub code : TokenKind → ℕ
code kinds.Name = 0
code kinds.Number = 1
code kinds.Text = 2
code kinds.BodyText = 2
code kinds.Literal = 3
code (kinds.Symbol s) = symbol_code s
code (kinds.Word w) = word_code w

abbrev pub same : TokenKind → TokenKind → Bool
same k l = code k == code l

-- ---- names

abbrev pub begins_with : (ℕ → Bool) → List ℕ → Bool
begins_with p [] = false
begins_with p (b ∷ bs) = p b

-- a letter, then letters and digits, 31 at most, in capital letters
abbrev pub is_identifier : List ℕ → Bool
is_identifier text =
    begins_with is_ascii_uppercase text && (list_all (λ b. is_ascii_uppercase b || is_ascii_digit b) text && nat_le (length text) 31)

abbrev pub identifier : List ℕ → Option (List ℕ)
identifier text = if is_identifier text then Some text else None

-- A name in capital letters. (No token that the lexer gives is another one: for such a text it is A.)
abbrev pub name_of : List ℕ → List ℕ
name_of text = unwrap_or (identifier (map to_ascii_uppercase text)) (65 ∷ [])

-- ---- numbers

-- what stands on one side of a number's point: 12 digits at most (with more, as no token has, it is 0)
abbrev pub is_part : List ℕ → Bool
is_part digits = nat_le (length digits) 12 && list_all is_ascii_digit digits

abbrev pub part_value : List ℕ → ℕ
part_value digits = if is_part digits then digits_value 10 digits else 0

abbrev pub part_places : List ℕ → ℕ
part_places digits = if is_part digits then length digits else 0

abbrev pub whole_part : List ℕ → List ℕ
whole_part text = take (prefix_len is_ascii_digit text) text

abbrev pub fraction : List ℕ → List ℕ
fraction text = drop (prefix_len is_ascii_digit text + 1) text

abbrev pub number_of : List ℕ → Number
number_of text = record { whole = part_value (whole_part text); digits = part_value (fraction text); places = part_places (fraction text) }

-- ---- strings and literals

-- the characters up to the closing quote; two quotes stand for one
abbrev pub unquoted : List ℕ → List ℕ
unquoted [] = []
unquoted (b ∷ []) = if b == 34 then [] else b ∷ []
unquoted (b ∷ c ∷ w) = if b == 34 then (if c == 34 then b ∷ unquoted w else []) else b ∷ unquoted (c ∷ w)

abbrev pub characters : TokenKind → List ℕ → List ℕ
characters kinds.BodyText text = take (length text - 4) (drop 2 text)
characters _ text = unquoted (drop 1 text)

abbrev pub first_or_zero : List ℕ → ℕ
first_or_zero [] = 0
first_or_zero (b ∷ bs) = b

-- the byte before the closing bracket
abbrev pub literal_byte : List ℕ → ℕ
literal_byte text = first_or_zero (drop (length text - 2) text)
