-- The forms of items, separators and comments. Official Definition of CORAL 66, "Basic symbols", "Comment" and "Macro
-- facility"; the limits are this project's profile.
use Rattle.std.specs.Prelude.{◌≡◌, ◌≢◌, ℕ, ◌+◌, ◌≤◌, ◌<◌, ◌==◌, nat_le, Bool, true, false, not, ◌&&◌, ◌||◌, List}
use Rattle.std.specs.Prelude.{[], ◌∷◌, ◌++◌, length, drop, map, count_by, Option, Some, None, if◌then◌else◌}
use Rattle.std.specs.List.{prefix_len, list_all}
use Rattle.std.specs.Char.{is_ascii_alphabetic, is_ascii_alphanumeric, is_ascii_digit}
use Rattle.std.specs.Str.{str_eq_ignore_ascii_case}
use Rattle.cw_lex.specs.declared.token.Form.{Form}
use Rattle.cw_lex.specs.declared.token.Form.TheVariants.{Source, MacroBody}
use Rattle.cw_lex.specs.declared.token.Word.{Word}
use Rattle.cw_lex.specs.declared.token.Word.TheVariants as words
use Rattle.cw_lex.specs.declared.token.Symbol.{Symbol}
use Rattle.cw_lex.specs.declared.token.Symbol.TheVariants as symbols
use Rattle.cw_lex.specs.declared.token.TokenKind.{TokenKind}
use Rattle.cw_lex.specs.declared.token.TokenKind.TheVariants as kinds
use Rattle.cw_lex.specs.declared.token.TheConstants.{WORDS}

-- blank, tab, carriage return, form feed and line feed
abbrev pub is_separator : ℕ → Bool
is_separator b = (b == 32) || ((b == 9) || ((b == 13) || ((b == 12) || (b == 10))))

abbrev pub not_semicolon : ℕ → Bool
not_semicolon b = not (b == 59)

-- the first entry whose text is this, in either case
abbrev pub look_up : List (List ℕ × Word) → List ℕ → Option Word
look_up [] text = None
look_up (entry ∷ entries) text = if str_eq_ignore_ascii_case entry.0 text then Some entry.1 else look_up entries text

-- the word of the language that the bytes are
unfoldable pub word_of : List ℕ → Option Word
word_of = look_up (map (λ k. (k.0.now, k.1)) WORDS)

abbrev pub one_mark : ℕ → Option Symbol
one_mark c =
    if c == 59 then Some symbols.Semicolon
    else (if c == 58 then Some symbols.Colon
    else (if c == 44 then Some symbols.Comma
    else (if c == 40 then Some symbols.Open
    else (if c == 41 then Some symbols.Close
    else (if c == 91 then Some symbols.OpenSquare
    else (if c == 93 then Some symbols.CloseSquare
    else (if c == 43 then Some symbols.Plus
    else (if c == 45 then Some symbols.Minus
    else (if c == 42 then Some symbols.Times
    else (if c == 47 then Some symbols.Divide
    else (if c == 60 then Some symbols.Less
    else (if c == 61 then Some symbols.Equal
    else (if c == 62 then Some symbols.Greater
    else None)))))))))))))

-- := <- <= >= <>
abbrev pub two_marks : ℕ → ℕ → Option Symbol
two_marks c d =
    if (c == 58) && (d == 61) then Some symbols.Assign
    else (if (c == 60) && (d == 45) then Some symbols.Assign
    else (if (c == 60) && (d == 61) then Some symbols.LessOrEqual
    else (if (c == 62) && (d == 61) then Some symbols.GreaterOrEqual
    else (if (c == 60) && (d == 62) then Some symbols.NotEqual
    else None))))

abbrev pub symbol_of : List ℕ → Option Symbol
symbol_of [] = None
symbol_of (c ∷ []) = one_mark c
symbol_of (c ∷ d ∷ []) = two_marks c d
symbol_of (c ∷ d ∷ e ∷ w) = None

-- a byte of a string, and no quote
abbrev pub is_plain : ℕ → Bool
is_plain b = nat_le 32 b && not (b == 34)

-- the character of a literal; in a macro body it is no quote
abbrev pub is_literal_byte : Form → ℕ → Bool
is_literal_byte Source b = nat_le 32 b && nat_le b 126
is_literal_byte MacroBody b = nat_le 32 b && (nat_le b 126 && not (b == 34))

-- a word of the language, bare or between apostrophes
pub data IsWord : List ℕ → Word → Type 0 where
  bare : (w : List ℕ) {k : Word} → word_of w ≡ Some k → IsWord w k
  quoted : (w : List ℕ) {k : Word} → word_of w ≡ Some k → IsWord (39 ∷ w ++ 39 ∷ []) k

-- a letter, then letters and digits, and no word
pub data IsIdentifier : List ℕ → Type 0 where
  letter_first : {c : ℕ} {w : List ℕ} → is_ascii_alphabetic c ≡ true → list_all is_ascii_alphanumeric w ≡ true → word_of (c ∷ w) ≡ None → IsIdentifier (c ∷ w)

-- one digit or more
pub record AreDigits (w : List ℕ) : Type 0 where
  pub some : 0 < length w
  pub digits : list_all is_ascii_digit w ≡ true

-- digits, or digits, a point and digits, or a point and digits
pub data IsNumber : List ℕ → Type 0 where
  whole : (w : List ℕ) → AreDigits w → IsNumber w
  pointed : (w f : List ℕ) → list_all is_ascii_digit w ≡ true → AreDigits f → IsNumber (w ++ 46 ∷ f)

-- what stands between the quotes of a string of the source: quotes only in pairs, each of which stands for one
pub data IsQuotable : List ℕ → Type 0 where
  empty : IsQuotable []
  plain : {b : ℕ} {w : List ℕ} → is_plain b ≡ true → IsQuotable w → IsQuotable (b ∷ w)
  pair : {w : List ℕ} → IsQuotable w → IsQuotable (34 ∷ 34 ∷ w)

pub data IsText : List ℕ → Type 0 where
  between_quotes : (w : List ℕ) → IsQuotable w → IsText (34 ∷ w ++ 34 ∷ [])

-- a string of a macro body
pub data IsBodyText : List ℕ → Type 0 where
  between_pairs : (w : List ℕ) → list_all is_plain w ≡ true → IsBodyText (34 ∷ 34 ∷ w ++ 34 ∷ 34 ∷ [])

-- Of the letters and digits there none goes on behind the word. (A word between apostrophes begins with none.)
abbrev pub EndsWord : List ℕ → List ℕ → Type 0
EndsWord w rest = prefix_len is_ascii_alphanumeric (w ++ rest) ≤ length w

-- separators, each a byte, or the word COMMENT and all up to the next semicolon
pub data AreSeparators : List ℕ → Type 0 where
  no_separator : AreSeparators []
  a_byte : {b : ℕ} {rest : List ℕ} → is_separator b ≡ true → AreSeparators rest → AreSeparators (b ∷ rest)
  a_comment : (w body : List ℕ) {rest : List ℕ} → IsWord w words.Comment → EndsWord w body
      → list_all not_semicolon body ≡ true → AreSeparators rest → AreSeparators (w ++ (body ++ 59 ∷ rest))

-- the word LITERAL, separators, and one character between brackets
pub data IsLiteral (form : Form) : List ℕ → Type 0 where
  of_character : (w gap : List ℕ) (b : ℕ) → IsWord w words.Literal → EndsWord w gap → AreSeparators gap
      → is_literal_byte form b ≡ true → IsLiteral form (w ++ (gap ++ 40 ∷ b ∷ 41 ∷ []))

-- The bytes, all of them, are an item of this kind. (The word COMMENT is one too, though no token.)
abbrev pub IsItem : Form → List ℕ → TokenKind → Type 0
IsItem form w (kinds.Word k) = IsWord w k
IsItem form w kinds.Name = IsIdentifier w
IsItem form w kinds.Number = IsNumber w
IsItem form w kinds.Text = (form ≡ Source) × IsText w
IsItem form w kinds.BodyText = (form ≡ MacroBody) × IsBodyText w
IsItem form w kinds.Literal = IsLiteral form w
IsItem form w (kinds.Symbol s) = symbol_of w ≡ Some s

-- The bytes w, before rest, are the longest item there.
pub record IsLongest (form : Form) (w rest : List ℕ) (kind : TokenKind) : Type 0 where
  pub is_item : IsItem form w kind
  pub most : (v r : List ℕ) (k : TokenKind) → v ++ r ≡ w ++ rest → IsItem form v k → length v ≤ length w

-- No item is at the front.
abbrev pub HasNoItem : Form → List ℕ → Type 0
HasNoItem form bs = (v r : List ℕ) (k : TokenKind) → v ++ r ≡ bs → IsItem form v k → ⊥

-- A name has 31 bytes at most, a number 12 digits on each side of its point.
abbrev pub keeps_limit : TokenKind → List ℕ → Bool
keeps_limit kinds.Name w = nat_le (length w) 31
keeps_limit kinds.Number w = nat_le (prefix_len is_ascii_digit w) 12 && nat_le (prefix_len is_ascii_digit (drop (1 + prefix_len is_ascii_digit w) w)) 12
keeps_limit _ w = true

-- the bytes behind a quote make it the quote of a string: any in the source, and another quote in a macro body
abbrev pub opens_string : Form → List ℕ → Bool
opens_string Source bs = true
opens_string MacroBody [] = false
opens_string MacroBody (b ∷ bs) = b == 34

abbrev pub openings : List ℕ → ℕ
openings = count_by (λ b. b == 40)

abbrev pub closings : List ℕ → ℕ
closings = count_by (λ b. b == 41)

-- A bracket with all up to the one that matches it: as many closing brackets as opening ones, and fewer before its end.
pub record IsBracketed (w : List ℕ) : Type 0 where
  pub matched : openings w ≡ closings w
  pub first : (u v : List ℕ) → u ++ v ≡ w → u ≢ [] → v ≢ [] → closings u < openings u
