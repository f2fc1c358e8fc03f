-- What the tokens of a text keep: they lie in it, and names and strings have their form.
use Rattle.std.proofs.Common.{◌≡◌, ℕ, suc, ◌+◌, ◌-◌, ◌≤◌, ◌==◌, Result, Ok, Err, Bool, true, false, ◌⊎◌, inl, List, [], ◌∷◌, ◌++◌, length, map, take, drop, refl, subst, arith}
use Rattle.std.specs.Prelude.{nat_le, All}
use Rattle.std.specs.List.{list_all}
use Rattle.std.specs.Char.{is_ascii_alphabetic, is_ascii_alphanumeric, to_ascii_uppercase}
use Rattle.std.specs.Str.{str_to_ascii_uppercase}
use Rattle.std.proofs.lemmas.Bool.Decides.{nat_tests}
use Rattle.std.proofs.lemmas.List.{length-append, length-take, length-map}
use Rattle.std.proofs.lemmas.List.Sums.{count_by-le-length}
use Rattle.std.proofs.lemmas.Bool.{and_parts}
use Rattle.std.proofs.lemmas.List.Elements.{All-cons, All-nil}
use Rattle.cw_word.specs.Name.{IsName, IsLetter, IsDigit}
use Rattle.cw_lex.specs.declared.token.Form.{Form}
use Rattle.cw_lex.specs.declared.token.Form.TheVariants.{Source, MacroBody}
use Rattle.cw_lex.specs.declared.token.Token.{Token}
use Rattle.cw_lex.specs.declared.token.LexFault.{LexFault}
use Rattle.cw_lex.specs.declared.token.LexFault.TheVariants as faults
use Rattle.cw_lex.specs.declared.token.TokenKind.{TokenKind}
use Rattle.cw_lex.specs.declared.token.TokenKind.TheVariants as kinds
use Rattle.cw_lex.specs.Items.{IsItem, IsIdentifier, letter_first, IsText, between_quotes, IsBodyText, between_pairs, keeps_limit}
use Rattle.cw_lex.specs.Lexical.{Lexeme, Place, view, Lexes, at_end, a_gap, a_token, first_place, is_semicolon, Tokenizes, IsAnswer}
use Rattle.cw_macro.specs.declared.fault.TheConstants.{MOST_BYTES}
use Rattle.cw_macro.specs.Expansion.{is_string, quote_length, body_place, body_text, of_text, HasNoBody, faulty}
use Rattle.cw_macro.specs.Premises.{Each, HasForm, IsWithin, IsPlaced}

upper_letter : (c : ℕ) → is_ascii_alphabetic c ≡ true → IsLetter (to_ascii_uppercase c)
upper_letter c h = grind (arith, nat_tests, h)

upper_character : (c : ℕ) → is_ascii_alphanumeric c ≡ true → IsLetter (to_ascii_uppercase c) ⊎ IsDigit (to_ascii_uppercase c)
upper_character c h = grind (arith, nat_tests, h)

upper_characters : (w : List ℕ) → list_all is_ascii_alphanumeric w ≡ true → All (λ b. IsLetter b ⊎ IsDigit b) (map to_ascii_uppercase w)
upper_characters [] h = All-nil (λ b. IsLetter b ⊎ IsDigit b)
upper_characters (c ∷ w) h =
    let p = and_parts (is_ascii_alphanumeric c) (list_all is_ascii_alphanumeric w) h in
    All-cons (λ b. IsLetter b ⊎ IsDigit b) (to_ascii_uppercase c) (map to_ascii_uppercase w) (upper_character c p.0) (upper_characters w p.1)

letter_character : (c : ℕ) → is_ascii_alphabetic c ≡ true → is_ascii_alphanumeric c ≡ true
letter_character c h = grind (arith, nat_tests, h)

name_is : (w : List ℕ) → IsIdentifier w → nat_le (length w) 31 ≡ true → IsName (str_to_ascii_uppercase w)
name_is _ (letter_first {c = c} {w = w} a n k) h = record {
  letter_first = upper_letter c a;
  characters = All-cons (λ b. IsLetter b ⊎ IsDigit b) (to_ascii_uppercase c) (map to_ascii_uppercase w) (inl (upper_letter c a)) (upper_characters w n);
  short = short (length w) (length (map to_ascii_uppercase w)) (length-map w to_ascii_uppercase) h;
}
  where
    short : (m n : ℕ) → n ≡ m → nat_le (suc m) 31 ≡ true → suc n ≤ 31
    short m n e g = grind (arith, nat_tests, g)

text_length : (w : List ℕ) → IsText w → 2 ≤ length w
text_length _ (between_quotes w q) = omega (arith, length-append w (34 ∷ []))

body_text_length : (w : List ℕ) → IsBodyText w → 4 ≤ length w
body_text_length _ (between_pairs w q) = omega (arith, length-append w (34 ∷ 34 ∷ []))

has_form : (form : Form) (text : List ℕ) (k : TokenKind) → IsItem form text k → keeps_limit k text ≡ true → HasForm text k
has_form form text kinds.Name i h = name_is text i h
has_form form text kinds.Text i h = text_length text i.1
has_form form text kinds.BodyText i h = body_text_length text i.1
has_form form text k i h = tt

pub within_tokens : (form : Form) (start : Place) (before rest : List ℕ) (after : Bool) (ts : List Lexeme) → Lexes form start before after rest ts → start.at + length before + length rest ≤ MOST_BYTES → Each IsWithin ts
within_tokens form start before _ after _ at_end h = tt
within_tokens form start before _ after ts (a_gap {gap = gap} {rest = rest} g d) h = within_tokens form start (before ++ gap) rest after ts d (omega (arith, h, length-append before gap, length-append gap rest))
within_tokens form start before _ after _ (a_token {w = w} {rest = rest} {kind = kind} {ts = ts} l t k d) h = (
  record { place = omega (arith, h, length-append w rest); form = has_form form w kind l.is_item k },
  within_tokens form start (before ++ w) rest (is_semicolon kind) ts d (omega (arith, h, length-append before w, length-append w rest)),
)

pub placed_tokens : (before rest : List ℕ) (after : Bool) (ts : List Lexeme) → Lexes Source first_place before after rest ts → length before + length rest ≤ MOST_BYTES → Each IsPlaced (map of_text ts)
placed_tokens before _ after _ at_end h = tt
placed_tokens before _ after ts (a_gap {gap = gap} {rest = rest} g d) h = placed_tokens (before ++ gap) rest after ts d (omega (arith, h, length-append before gap, length-append gap rest))
placed_tokens before _ after _ (a_token {w = w} {rest = rest} {kind = kind} {ts = ts} l t k d) h = (
  record {
    line = omega (arith, h, count_by-le-length (λ b. b == 10) before);
    within = record { place = omega (arith, h, length-append w rest); form = has_form Source w kind l.is_item k };
  },
  placed_tokens (before ++ w) rest (is_semicolon kind) ts d (omega (arith, h, length-append before w, length-append w rest)),
)

pub quotes_fit : (text : List ℕ) (k : TokenKind) → is_string k ≡ true → HasForm text k → quote_length k + quote_length k ≤ length text
quotes_fit text kinds.Text e h = h
quotes_fit text kinds.BodyText e h = h
quotes_fit text k e h = absurd cc

pub within_body : (string : Lexeme) (ts : List Lexeme) → is_string string.kind ≡ true → IsWithin string → Tokenizes MacroBody (body_place string) (body_text string) ts → Each IsWithin ts
within_body string ts e w d =
    let q = quote_length string.kind in
    let fit : q + q ≤ length string.text = quotes_fit string.text string.kind e w.form in
    let size : length (body_text string) ≤ length string.text - q - q = omega (arith, length-take (length string.text - q - q) (drop q string.text)) in
    within_tokens MacroBody (body_place string) [] (body_text string) false ts d (omega (arith, w.place, fit, size))

-- ---- what the lexer answers for a body

abbrev pub IsAnswerBehind : Lexeme → ℕ → Result (List Token) LexFault → Type 0
IsAnswerBehind string q r = IsAnswer MacroBody (record { line = string.line; at = string.at + q }) (take (length string.text - q - q) (drop q string.text)) r

answer_at : (string : Lexeme) (q : ℕ) (r : Result (List Token) LexFault) → q ≡ quote_length string.kind → IsAnswerBehind string q r → IsAnswer MacroBody (body_place string) (body_text string) r
answer_at string q r e h = let P : ℕ → Type 0 = λ n. IsAnswerBehind string n r in subst P e h

fault_at : (string : Lexeme) (f : LexFault) → (f ≡ faults.NoMemory → ⊥) → IsAnswer MacroBody (body_place string) (body_text string) (Err f) → HasNoBody string
fault_at string faults.NoMemory n h = absurd (n refl)
fault_at string (faults.BadChar line) n h = faulty h
fault_at string (faults.OpenString line) n h = faulty h
fault_at string (faults.BadNumber line) n h = faulty h
fault_at string (faults.LongName line) n h = faulty h
fault_at string (faults.OpenComment line) n h = faulty h

pub read_fault : (string : Lexeme) (q : ℕ) (f : LexFault) → q ≡ quote_length string.kind → (f ≡ faults.NoMemory → ⊥) → IsAnswerBehind string q (Err f) → HasNoBody string
read_fault string q f e n h = fault_at string f n (answer_at string q (Err f) e h)

pub read_tokens : (string : Lexeme) (q : ℕ) (ts : List Token) → q ≡ quote_length string.kind → IsAnswerBehind string q (Ok ts) → Tokenizes MacroBody (body_place string) (body_text string) (map view ts)
read_tokens string q ts e h = answer_at string q (Ok ts) e h
