-- A token that is written with a separator behind it is the longest item there.
use Rattle.std.proofs.Common.{◌≡◌, ℕ, suc, ◌+◌, ◌<◌, Bool, true, false, cond, ◌==◌, nat_lt, List, [], ◌∷◌, ◌++◌, map, length, take, drop, Option, Some, None, refl, ap, subst, ◌∙◌, arith, append_assoc}
use Rattle.std.specs.Prelude.{All}
use Rattle.std.specs.List.{prefix_len, list_all}
use Rattle.std.specs.Char.{is_ascii_alphabetic, is_ascii_alphanumeric, is_ascii_digit}
use Rattle.std.proofs.lemmas.Bool.{and_parts, and_from, eqb-true}
use Rattle.std.proofs.lemmas.Bool.Decides.{nat_tests}
use Rattle.std.proofs.lemmas.List.{length-append}
use Rattle.cw_lex.specs.declared.token.Form.TheVariants.{Source}
use Rattle.cw_lex.specs.declared.token.TokenKind.{TokenKind}
use Rattle.cw_lex.specs.declared.token.TokenKind.TheVariants as kinds
use Rattle.cw_lex.specs.declared.token.Word.{Word}
use Rattle.cw_lex.specs.declared.token.Word.TheVariants as words
use Rattle.cw_lex.specs.declared.token.Symbol.{Symbol}
use Rattle.cw_lex.specs.declared.token.Symbol.TheVariants as symbols
use Rattle.cw_lex.specs.Items.{is_separator, word_of, bare, IsIdentifier, letter_first, IsNumber, whole, pointed, IsQuotable, empty, plain, pair, between_quotes, IsItem, IsLongest, is_literal_byte, keeps_limit, no_separator, of_character}
use Rattle.cw_lex.specs.Found.{found, word_or_name, number, fraction, number_of, text_end, of_kind}
use Rattle.cw_lex.specs.Lexical.{Lexeme, Lexes, at_end, a_gap, a_token, separator as separator_gap, first_place, line_behind, at_behind, is_semicolon}
use Rattle.cw_lex.proofs.Lists.{every_stop, cut}
use Rattle.cw_lex.proofs.Longest.{FoundOrNot}
use Rattle.cw_lex.proofs.Marks.{found_is}
use Rattle.cw_show.specs.Spelling.{Spelling, word_text, symbol_text, separator, text_of}
use Rattle.cw_show.specs.Canonical.{literal}
use Rattle.cw_show.specs.Lexing.{stands_alone, IsSpelled, a_word, a_symbol, a_name, a_number, a_string, a_literal, NoComment, spelling}

-- what stands behind a token
pub data IsBehind : ℕ → Type 0 where
  blank : IsBehind 32
  line_end : IsBehind 10

pub separator_behind : (k : TokenKind) → IsBehind (separator k)
separator_behind (kinds.Symbol symbols.Semicolon) = line_end
separator_behind (kinds.Word words.Begin) = line_end
separator_behind (kinds.Word words.Finish) = line_end
separator_behind _ = blank

behind_separates : {d : ℕ} → IsBehind d → is_separator d ≡ true
behind_separates blank = refl
behind_separates line_end = refl

no_letter : {d : ℕ} → IsBehind d → is_ascii_alphanumeric d ≡ false
no_letter blank = refl
no_letter line_end = refl

no_digit : {d : ℕ} → IsBehind d → is_ascii_digit d ≡ false
no_digit blank = refl
no_digit line_end = refl

no_point : {d : ℕ} → IsBehind d → (d == 46) ≡ false
no_point blank = refl
no_point line_end = refl

no_quote : {d : ℕ} → IsBehind d → (d == 34) ≡ false
no_quote blank = refl
no_quote line_end = refl

-- what is found is longest
longest_of : (w : List ℕ) (d : ℕ) (rest : List ℕ) (k : TokenKind) → IsItem Source w k → 0 < length w → found Source (w ++ d ∷ rest) ≡ Some (k, length w) → IsLongest Source w (d ∷ rest) k
longest_of [] d rest k i s f = absurd (omega (arith, s))
longest_of (c ∷ w) d rest k i s f =
    let x = subst (FoundOrNot Source (c ∷ (w ++ d ∷ rest))) f (found_is Source c (w ++ d ∷ rest)) in
    record { is_item = i; most = λ v r j e h. x.best v r j e h }

-- ---- words and names

letters_found : (c : ℕ) (w : List ℕ) (d : ℕ) (rest : List ℕ) (o : Option Word) → is_ascii_alphabetic c ≡ true → list_all is_ascii_alphanumeric (c ∷ w) ≡ true → is_ascii_alphanumeric d ≡ false → word_of (c ∷ w) ≡ o
    → found Source (c ∷ (w ++ d ∷ rest)) ≡ Some (word_or_name Source o (length (c ∷ w)) (c ∷ (w ++ d ∷ rest)))
letters_found c w d rest o a e s h =
    let bs : List ℕ = c ∷ (w ++ d ∷ rest) in
    let n : prefix_len is_ascii_alphanumeric bs ≡ length (c ∷ w) = every_stop is_ascii_alphanumeric (c ∷ w) d rest e s in
    let t = cut (c ∷ w) (d ∷ rest) bs (length (c ∷ w)) refl refl in
    rw a (ap (λ z. Some (word_or_name Source (word_of (take z bs)) z bs)) n ∙ ap (λ p. Some (word_or_name Source p (length (c ∷ w)) bs)) (ap word_of t.0 ∙ h))

name_longest : (w : List ℕ) → IsIdentifier w → (d : ℕ) (rest : List ℕ) → IsBehind d → IsLongest Source w (d ∷ rest) kinds.Name
name_longest _ (letter_first {c = c} {w = w} a e n) d rest s =
    let all : list_all is_ascii_alphanumeric (c ∷ w) ≡ true = and_from (is_ascii_alphanumeric c) (list_all is_ascii_alphanumeric w) (grind (arith, nat_tests, a)) e in
    longest_of (c ∷ w) d rest kinds.Name (letter_first a e n) (omega arith) (letters_found c w d rest None a all (no_letter s) n)

pub word_is : (k : Word) → word_of (word_text k) ≡ Some k
unfolding word_of
word_is words.Absolute = refl
word_is _ = refl

word_found : (k : Word) (d : ℕ) (rest : List ℕ) → stands_alone k ≡ true → IsBehind d → found Source (word_text k ++ d ∷ rest) ≡ Some (kinds.Word k, length (word_text k))
unfolding word_of
word_found words.Comment d rest e s = absurd cc
word_found words.Literal d rest e s = absurd cc
word_found _ _ rest e blank = refl
word_found _ _ rest e line_end = refl

word_some : (k : Word) → 0 < length (word_text k)
word_some words.Absolute = omega arith
word_some _ = omega arith

word_longest : (k : Word) → stands_alone k ≡ true → (d : ℕ) (rest : List ℕ) → IsBehind d → IsLongest Source (word_text k) (d ∷ rest) (kinds.Word k)
word_longest k e d rest s = longest_of (word_text k) d rest (kinds.Word k) (bare (word_text k) (word_is k)) (word_some k) (word_found k d rest e s)

-- ---- symbols

symbol_longest : (k : Symbol) (d : ℕ) (rest : List ℕ) → IsBehind d → IsLongest Source (symbol_text k) (d ∷ rest) (kinds.Symbol k)
symbol_longest symbols.Semicolon _ rest blank = longest_of (symbol_text symbols.Semicolon) 32 rest (kinds.Symbol symbols.Semicolon) refl (omega arith) refl
symbol_longest symbols.Semicolon _ rest line_end = longest_of (symbol_text symbols.Semicolon) 10 rest (kinds.Symbol symbols.Semicolon) refl (omega arith) refl
symbol_longest k _ rest blank = longest_of (symbol_text k) 32 rest (kinds.Symbol k) refl (omega arith) refl
symbol_longest k _ rest line_end = longest_of (symbol_text k) 10 rest (kinds.Symbol k) refl (omega arith) refl

-- ---- numbers

number_some : (m : ℕ) → 0 < m → number_of m ≡ Some (kinds.Number, m)
number_some m h =
    elim (m == 0) as (λ t. (m == 0) ≡ t → cond {A = Option (TokenKind × ℕ)} t None (Some (kinds.Number, m)) ≡ Some (kinds.Number, m)) [
      | true ↦ λ z. absurd (omega (arith, h, eqb-true m 0 z))
      | false ↦ λ z. refl
    ] refl

-- the digits in front, and the fraction behind them
digits_found : (w : List ℕ) (d : ℕ) (rest : List ℕ) (k : ℕ) → list_all is_ascii_digit w ≡ true → is_ascii_digit d ≡ false → fraction (d ∷ rest) ≡ k → 0 < length w + k → number (w ++ d ∷ rest) ≡ Some (kinds.Number, length w + k)
digits_found w d rest k e s f h =
    let bs : List ℕ = w ++ d ∷ rest in
    let n : prefix_len is_ascii_digit bs ≡ length w = every_stop is_ascii_digit w d rest e s in
    let t = cut w (d ∷ rest) bs (length w) refl refl in
    ap (λ z. number_of (z + fraction (drop z bs))) n ∙ ap (λ z. number_of (length w + fraction z)) t.1 ∙ ap (λ z. number_of (length w + z)) f ∙ number_some (length w + k) h

digit_first : (c : ℕ) (bs : List ℕ) → is_ascii_digit c ≡ true → found Source (c ∷ bs) ≡ number (c ∷ bs)
digit_first c bs h =
    let a : is_ascii_alphabetic c ≡ false = grind (arith, nat_tests, h) in
    rw (a, h) refl

-- a number is found by its digits
number_first : (w : List ℕ) (d : ℕ) (rest : List ℕ) → list_all is_ascii_digit w ≡ true → 0 < length w → found Source (w ++ d ∷ rest) ≡ number (w ++ d ∷ rest)
number_first [] d rest e h = absurd (omega (arith, h))
number_first (c ∷ w) d rest e h = digit_first c (w ++ d ∷ rest) (and_parts (is_ascii_digit c) (list_all is_ascii_digit w) e).0

no_fraction : (d : ℕ) (rest : List ℕ) → (d == 46) ≡ false → fraction (d ∷ rest) ≡ 0
no_fraction d rest h = rw h refl

its_fraction : (f : List ℕ) (d : ℕ) (rest : List ℕ) → list_all is_ascii_digit f ≡ true → 0 < length f → is_ascii_digit d ≡ false → fraction (46 ∷ (f ++ d ∷ rest)) ≡ length f + 1
its_fraction f d rest e h s =
    let n : prefix_len is_ascii_digit (f ++ d ∷ rest) ≡ length f = every_stop is_ascii_digit f d rest e s in
    ap (λ z. cond (z == 0) 0 (z + 1)) n
    ∙ elim (length f == 0) as (λ t. (length f == 0) ≡ t → cond t 0 (length f + 1) ≡ length f + 1) [
      | true ↦ λ z. absurd (omega (arith, h, eqb-true (length f) 0 z))
      | false ↦ λ z. refl
    ] refl

point_first : (w : List ℕ) (rest : List ℕ) → list_all is_ascii_digit w ≡ true → found Source (w ++ 46 ∷ rest) ≡ number (w ++ 46 ∷ rest)
point_first [] rest e = refl
point_first (c ∷ w) rest e = digit_first c (w ++ 46 ∷ rest) (and_parts (is_ascii_digit c) (list_all is_ascii_digit w) e).0

number_longest : (w : List ℕ) → IsNumber w → (d : ℕ) (rest : List ℕ) → IsBehind d → IsLongest Source w (d ∷ rest) kinds.Number
number_longest _ (whole w h) d rest s =
    let z : length w + 0 ≡ length w = omega arith in
    longest_of w d rest kinds.Number (whole w h) h.some
    (number_first w d rest h.digits h.some ∙ digits_found w d rest 0 h.digits (no_digit s) (no_fraction d rest (no_point s)) (omega (arith, h.some)) ∙ ap (λ n. Some (kinds.Number, n)) z)
number_longest _ (pointed w f e h) d rest s =
    let all : (w ++ 46 ∷ f) ++ d ∷ rest ≡ w ++ 46 ∷ (f ++ d ∷ rest) = append_assoc w (46 ∷ f) (d ∷ rest) in
    let size : length w + (length f + 1) ≡ length (w ++ 46 ∷ f) = omega (arith, length-append w (46 ∷ f)) in
    longest_of (w ++ 46 ∷ f) d rest kinds.Number (pointed w f e h) (omega (arith, length-append w (46 ∷ f)))
    (ap (found Source) all ∙ point_first w (f ++ d ∷ rest) e ∙ digits_found w 46 (f ++ d ∷ rest) (length f + 1) e refl (its_fraction f d rest h.digits h.some (no_digit s)) (omega arith) ∙ ap (λ n. Some (kinds.Number, n)) size)

-- ---- strings

string_end : {w : List ℕ} → IsQuotable w → (at : ℕ) (end : Option ℕ) (d : ℕ) (rest : List ℕ) → (d == 34) ≡ false → text_end false at end (w ++ 34 ∷ d ∷ rest) ≡ Some (at + length w + 1)
string_end empty at end d rest h = rw h (ap Some (omega arith))
string_end (plain {b = b} {w = w} p q) at end d rest h =
    let e : (b == 34) ≡ false = grind (arith, nat_tests, p) in
    let f : nat_lt b 32 ≡ false = grind (arith, nat_tests, p) in
    rw (e, f) (string_end q (at + 1) end d rest h ∙ ap Some (omega arith))
string_end (pair {w = w} q) at end d rest h = string_end q (at + 1 + 1) (Some (at + 1)) d rest h ∙ ap Some (omega arith)

string_longest : (w : List ℕ) → IsQuotable w → (d : ℕ) (rest : List ℕ) → IsBehind d → IsLongest Source (34 ∷ w ++ 34 ∷ []) (d ∷ rest) kinds.Text
string_longest w q d rest s =
    let all : (w ++ 34 ∷ []) ++ d ∷ rest ≡ w ++ 34 ∷ d ∷ rest = append_assoc w (34 ∷ []) (d ∷ rest) in
    let size : 0 + length w + 1 + 1 ≡ length (34 ∷ w ++ 34 ∷ []) = omega (arith, length-append w (34 ∷ [])) in
    longest_of (34 ∷ w ++ 34 ∷ []) d rest kinds.Text (refl, between_quotes w q) (omega arith)
    (ap (λ z. found Source (34 ∷ z)) all ∙ ap (of_kind kinds.Text 1) (string_end q 0 None d rest (no_quote s)) ∙ ap (λ n. Some (kinds.Text, n)) size)

-- ---- literals

literal_found : (b d : ℕ) (rest : List ℕ) → is_literal_byte Source b ≡ true → found Source ((literal b).text ++ d ∷ rest) ≡ Some (kinds.Literal, 10)
unfolding word_of
literal_found b d rest h = rw h refl

literal_longest : (b : ℕ) → is_literal_byte Source b ≡ true → (d : ℕ) (rest : List ℕ) → IsLongest Source (literal b).text (d ∷ rest) kinds.Literal
literal_longest b h d rest = longest_of (literal b).text d rest kinds.Literal (of_character (word_text words.Literal) [] b (bare (word_text words.Literal) (word_is words.Literal)) (omega arith) no_separator h) (omega arith) (literal_found b d rest h)

-- ---- all tokens

spelled_longest : {t : Spelling} → IsSpelled t → (d : ℕ) (rest : List ℕ) → IsBehind d → IsLongest Source t.text (d ∷ rest) t.kind
spelled_longest (a_word w e) d rest s = word_longest w e d rest s
spelled_longest (a_symbol k) d rest s = symbol_longest k d rest s
spelled_longest (a_name w i l) d rest s = name_longest w i d rest s
spelled_longest (a_number w i l) d rest s = number_longest w i d rest s
spelled_longest (a_string w q) d rest s = string_longest w q d rest s
spelled_longest (a_literal b h) d rest s = literal_longest b h d rest

spelled_limit : {t : Spelling} → IsSpelled t → keeps_limit t.kind t.text ≡ true
spelled_limit (a_word w e) = refl
spelled_limit (a_symbol k) = refl
spelled_limit (a_name w i l) = l
spelled_limit (a_number w i l) = l
spelled_limit (a_string w q) = refl
spelled_limit (a_literal b h) = refl

pub text_lexes : (ts : List Spelling) → All IsSpelled ts → (after : Bool) → NoComment after ts → (before : List ℕ) → (us : List Lexeme) × Lexes Source first_place before after (text_of ts) us × (map spelling us ≡ ts)
text_lexes [] a after n before = ([], at_end, refl)
text_lexes (t ∷ ts) a after n before =
    let d = separator t.kind in
    let s = separator_behind t.kind in
    let here : IsSpelled t = a 0 t (omega arith) in
    let later : All IsSpelled ts = λ k z h. a (suc k) z (omega (arith, h)) in
    let more = text_lexes ts later (is_semicolon t.kind) n.1 ((before ++ t.text) ++ d ∷ []) in
    let first : Lexeme = record { kind = t.kind; line = line_behind first_place before; at = at_behind first_place before; text = t.text } in (
      first ∷ more.0,
      a_token (spelled_longest here d (text_of ts) s) n.0 (spelled_limit here) (a_gap (separator_gap (behind_separates s)) more.1),
      ap (λ z. t ∷ z) more.2,
    )
