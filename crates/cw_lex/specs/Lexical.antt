-- The tokens of a whole text, and the first fault of a text that has none.
use Rattle.std.specs.Prelude.{◌≡◌, ℕ, ◌+◌, ◌==◌, Bool, true, false, not, List, [], ◌∷◌, ◌++◌, length, map, count_by, Option, Some, None, Result, Ok, Err}
use Rattle.std.specs.List.{list_all}
use Rattle.cw_lex.specs.declared.token.Token.{Token}
use Rattle.cw_lex.specs.declared.token.Form.{Form}
use Rattle.cw_lex.specs.declared.token.Word.TheVariants as words
use Rattle.cw_lex.specs.declared.token.Symbol.TheVariants as symbols
use Rattle.cw_lex.specs.declared.token.TokenKind.{TokenKind}
use Rattle.cw_lex.specs.declared.token.TokenKind.TheVariants as kinds
use Rattle.cw_lex.specs.declared.token.Problem.{Problem}
use Rattle.cw_lex.specs.declared.token.Problem.TheVariants.{BadChar, OpenString, BadNumber, LongName, OpenComment}
use Rattle.cw_lex.specs.declared.token.LexFault.{LexFault}
use Rattle.cw_lex.specs.declared.token.LexFault.TheVariants as faults
use Rattle.cw_lex.specs.Items.{is_separator, IsLongest, HasNoItem, keeps_limit, opens_string, not_semicolon, IsBracketed}

-- a token without where its slice lies in memory
pub record Lexeme : Type 0 where
  pub kind : TokenKind
  pub line : ℕ
  pub at : ℕ
  pub text : List ℕ

abbrev pub view : Token → Lexeme
view t = record { kind = t.kind; line = t.line; at = t.at; text = t.text.now }

-- Where a text begins: the line, counted from 1, and the place in bytes from the start of the source.
pub record Place : Type 0 where
  pub line : ℕ
  pub at : ℕ

abbrev pub first_place : Place
first_place = record { line = 1; at = 0 }

-- the line and the place behind the bytes of a text that begins there
abbrev pub line_behind : Place → List ℕ → ℕ
line_behind start before = start.line + count_by (λ b. b == 10) before

abbrev pub at_behind : Place → List ℕ → ℕ
at_behind start before = start.at + length before

abbrev pub is_semicolon : TokenKind → Bool
is_semicolon (kinds.Symbol symbols.Semicolon) = true
is_semicolon _ = false

-- The word COMMENT, and an opening bracket as the next item after a semicolon, are no tokens: they begin comments.
abbrev pub is_token : Bool → TokenKind → Bool
is_token after_semicolon (kinds.Word words.Comment) = false
is_token after_semicolon (kinds.Symbol symbols.Open) = not after_semicolon
is_token after_semicolon _ = true

-- Between tokens: a separator; the word COMMENT and all up to the next semicolon; or, where the last token is a
-- semicolon, a bracket and all up to the matching one.
pub data IsGap (form : Form) (after_semicolon : Bool) : List ℕ → List ℕ → Type 0 where
  separator : {b : ℕ} {rest : List ℕ} → is_separator b ≡ true → IsGap form after_semicolon (b ∷ []) rest
  comment : (w body : List ℕ) {rest : List ℕ} → IsLongest form w (body ++ 59 ∷ rest) (kinds.Word words.Comment)
      → list_all not_semicolon body ≡ true → IsGap form after_semicolon (w ++ (body ++ 59 ∷ [])) rest
  bracket_comment : {w rest : List ℕ} → after_semicolon ≡ true → IsBracketed (40 ∷ w) → IsGap form after_semicolon (40 ∷ w) rest

-- Behind before, where after_semicolon says whether the last token is a semicolon, the rest of the text has these tokens.
pub data Lexes (form : Form) (start : Place) : List ℕ → Bool → List ℕ → List Lexeme → Type 0 where
  at_end : {before : List ℕ} {after : Bool} → Lexes form start before after [] []
  a_gap : {before gap rest : List ℕ} {after : Bool} {ts : List Lexeme} → IsGap form after gap rest
      → Lexes form start (before ++ gap) after rest ts → Lexes form start before after (gap ++ rest) ts
  a_token : {before w rest : List ℕ} {after : Bool} {kind : TokenKind} {ts : List Lexeme}
      → IsLongest form w rest kind → is_token after kind ≡ true → keeps_limit kind w ≡ true
      → Lexes form start (before ++ w) (is_semicolon kind) rest ts
      → Lexes form start before after (w ++ rest) (record { kind = kind; line = line_behind start before; at = at_behind start before; text = w } ∷ ts)

-- The problem where no item, separator or comment is possible: an open string at its quote, a bad number at a point, else a bad character.
pub data IsMissing (form : Form) : Problem → ℕ → List ℕ → Type 0 where
  at_point : {rest : List ℕ} → IsMissing form BadNumber 46 rest
  at_quote : {rest : List ℕ} → opens_string form rest ≡ true → IsMissing form OpenString 34 rest
  at_single_quote : {rest : List ℕ} → opens_string form rest ≡ false → IsMissing form BadChar 34 rest
  at_other : {b : ℕ} {rest : List ℕ} → (b == 46) ≡ false → (b == 34) ≡ false → IsMissing form BadChar b rest

-- What is wrong at the front of a text.
pub data IsWrong (form : Form) (after_semicolon : Bool) : Problem → List ℕ → Type 0 where
  no_item : {p : Problem} {b : ℕ} {rest : List ℕ} → is_separator b ≡ false → HasNoItem form (b ∷ rest)
      → IsMissing form p b rest → IsWrong form after_semicolon p (b ∷ rest)
  long_name : {w rest : List ℕ} → IsLongest form w rest kinds.Name → keeps_limit kinds.Name w ≡ false → IsWrong form after_semicolon LongName (w ++ rest)
  long_number : {w rest : List ℕ} → IsLongest form w rest kinds.Number → keeps_limit kinds.Number w ≡ false → IsWrong form after_semicolon BadNumber (w ++ rest)
  open_comment : {w rest : List ℕ} → IsLongest form w rest (kinds.Word words.Comment)
      → list_all not_semicolon rest ≡ true → IsWrong form after_semicolon OpenComment (w ++ rest)
  open_bracket : {rest : List ℕ} → after_semicolon ≡ true
      → ((v r : List ℕ) → v ++ r ≡ rest → IsBracketed (40 ∷ v) → ⊥)
      → IsWrong form after_semicolon OpenComment (40 ∷ rest)

abbrev pub fault_at : Problem → ℕ → LexFault
fault_at BadChar line = faults.BadChar line
fault_at OpenString line = faults.OpenString line
fault_at BadNumber line = faults.BadNumber line
fault_at LongName line = faults.LongName line
fault_at OpenComment line = faults.OpenComment line

-- The first fault behind before.
pub data Fails (form : Form) (start : Place) : List ℕ → Bool → List ℕ → LexFault → Type 0 where
  here : {before rest : List ℕ} {after : Bool} {p : Problem} → IsWrong form after p rest
      → Fails form start before after rest (fault_at p (line_behind start before))
  behind_gap : {before gap rest : List ℕ} {after : Bool} {f : LexFault} → IsGap form after gap rest
      → Fails form start (before ++ gap) after rest f → Fails form start before after (gap ++ rest) f
  behind_token : {before w rest : List ℕ} {after : Bool} {kind : TokenKind} {f : LexFault}
      → IsLongest form w rest kind → is_token after kind ≡ true → keeps_limit kind w ≡ true
      → Fails form start (before ++ w) (is_semicolon kind) rest f → Fails form start before after (w ++ rest) f

-- The text, which begins at the place, has these tokens.
abbrev pub Tokenizes : Form → Place → List ℕ → List Lexeme → Type 0
Tokenizes form start text ts = Lexes form start [] false text ts

-- The first fault of the text.
abbrev pub IsFirstFault : Form → Place → List ℕ → LexFault → Type 0
IsFirstFault form start text f = Fails form start [] false text f

-- What the lexer answers: the tokens, or the first fault, unless memory runs out.
abbrev pub IsAnswer : Form → Place → List ℕ → Result (List Token) LexFault → Type 0
IsAnswer form start text (Ok tokens) = Tokenizes form start text (map view tokens)
IsAnswer form start text (Err faults.NoMemory) = Unit {0}
IsAnswer form start text (Err f) = IsFirstFault form start text f

-- the token of a piece, if it is one, and whether the last token is a semicolon behind it
abbrev pub lexemes : Option TokenKind → ℕ → ℕ → List ℕ → List Lexeme
lexemes None line at text = []
lexemes (Some kind) line at text = record { kind = kind; line = line; at = at; text = text } ∷ []

abbrev pub is_after_semicolon : Option TokenKind → Bool → Bool
is_after_semicolon None after = after
is_after_semicolon (Some kind) after = is_semicolon kind

-- A text has at most one list of tokens,
abbrev pub HasOneList : Type 0
HasOneList = (form : Form) (start : Place) (text : List ℕ) (ts us : List Lexeme) → Tokenizes form start text ts → Tokenizes form start text us → ts ≡ us

-- at most one first fault,
abbrev pub HasOneFault : Type 0
HasOneFault = (form : Form) (start : Place) (text : List ℕ) (f g : LexFault) → IsFirstFault form start text f → IsFirstFault form start text g → f ≡ g

-- and not both.
abbrev pub HasNotBoth : Type 0
HasNotBoth = (form : Form) (start : Place) (text : List ℕ) (ts : List Lexeme) (f : LexFault) → Tokenizes form start text ts → IsFirstFault form start text f → ⊥
