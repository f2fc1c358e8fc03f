-- The tokens of the texts, whose numbers are known to be numerals alone.
use Rattle.std.proofs.Common.{◌≡◌, ℕ, ◌+◌, ◌<◌, ◌≤◌, ◌==◌, Bool, true, false, cond, ◌&&◌, nat_lt, nat_le, List, [], ◌∷◌, ◌++◌, length, take, drop, Option, Some, None, Ok, refl, sym, ap, ◌∙◌, codes, decimal, append_assoc, arith}
use Rattle.std.specs.List.{list_all, prefix_len}
use Rattle.std.specs.Char.{is_ascii_digit, is_ascii_alphabetic, is_ascii_alphanumeric}
use Rattle.std.proofs.lemmas.Bool.{and_parts, and_from, eqb-true, ltb-true}
use Rattle.std.proofs.lemmas.Bool.Decides.{nat_tests}
use Rattle.std.proofs.Math.ListN.{drop_of_length-le}
use Rattle.cw_lex.specs.declared.token.Form.TheVariants.{Source}
use Rattle.cw_lex.specs.declared.token.TokenKind.{TokenKind}
use Rattle.cw_lex.specs.declared.token.TokenKind.TheVariants as kinds
use Rattle.cw_lex.specs.Items.{is_separator, word_of, keeps_limit}
use Rattle.cw_lex.specs.Found.{PieceResult, piece, piece_of, found, word_or_name, number, number_of, fraction, limited}
use Rattle.cw_lex.specs.Lexical.{Lexeme, first_place, Tokenizes}
use Rattle.cw_lex.proofs.Lists.{every_stop, every_all, cut}
use Rattle.cw_big.specs.LargeProgram.{total_written, large_text}
use Rattle.cw_big_units.proofs.Scanning.{Scanned, start, feeds, scan, follows_on, scan_follows, token_follows, scanned_whole}
use Rattle.cw_big_units.proofs.Digits.{IsNumeral}

-- ---- the name and the number

no_feeds : (w : List ℕ) → list_all is_ascii_digit w ≡ true → feeds w ≡ 0
no_feeds [] e = refl
no_feeds (c ∷ w) e =
    let q = and_parts (is_ascii_digit c) (list_all is_ascii_digit w) e in
    let n : (c == 10) ≡ false = grind (arith, nat_tests, q.0) in
    rw n (omega (arith, no_feeds w q.1))

all_alphanumeric : (w : List ℕ) → list_all is_ascii_digit w ≡ true → list_all is_ascii_alphanumeric w ≡ true
all_alphanumeric [] e = refl
all_alphanumeric (c ∷ w) e =
    let q = and_parts (is_ascii_digit c) (list_all is_ascii_digit w) e in
    and_from (is_ascii_alphanumeric c) (list_all is_ascii_alphanumeric w) (grind (arith, nat_tests, q.0)) (all_alphanumeric w q.1)

name_piece : (w rest : List ℕ) → IsNumeral w → piece Source false (66 ∷ (w ++ 10 ∷ rest)) ≡ Ok (Some kinds.Name, length (66 ∷ w))
unfolding piece
name_piece w rest g =
    let bs : List ℕ = 66 ∷ (w ++ 10 ∷ rest) in
    let n : ℕ = length (66 ∷ w) in
    let size : prefix_len is_ascii_alphanumeric bs ≡ n = every_stop is_ascii_alphanumeric (66 ∷ w) 10 rest (all_alphanumeric w g.all_digits) refl in
    let t = cut (66 ∷ w) (10 ∷ rest) bs n refl refl in
    let few : nat_le (length (66 ∷ w)) 31 ≡ true = grind (arith, nat_tests, g.few) in
    ap (λ z. piece_of Source bs (Some (word_or_name Source (word_of (take z bs)) z bs))) size
    ∙ ap (λ o. piece_of Source bs (Some (word_or_name Source o n bs))) (ap word_of t.0 ∙ g.no_word)
    ∙ ap (λ z. limited kinds.Name n (keeps_limit kinds.Name z)) t.0
    ∙ ap (limited kinds.Name n) few

number_some : (m : ℕ) → 0 < m → number_of m ≡ Some (kinds.Number, m)
number_some m h =
    elim (m == 0) as (λ t. (m == 0) ≡ t → cond {A = Option (TokenKind × ℕ)} t None (Some (kinds.Number, m)) ≡ Some (kinds.Number, m)) [
      | true ↦ λ z. absurd (omega (arith, h, eqb-true m 0 z))
      | false ↦ λ z. refl
    ] refl

number_found : (w rest : List ℕ) → IsNumeral w → number (w ++ 59 ∷ rest) ≡ Some (kinds.Number, length w)
number_found w rest g =
    let bs : List ℕ = w ++ 59 ∷ rest in
    let n : prefix_len is_ascii_digit bs ≡ length w = every_stop is_ascii_digit w 59 rest g.all_digits refl in
    let t = cut w (59 ∷ rest) bs (length w) refl refl in
    let whole : length w + 0 ≡ length w = omega arith in
    ap (λ z. number_of (z + fraction (drop z bs))) n ∙ ap (λ z. number_of (length w + fraction z)) t.1 ∙ ap number_of whole ∙ number_some (length w) g.some

digit_first : (c : ℕ) (bs : List ℕ) → is_ascii_digit c ≡ true → found Source (c ∷ bs) ≡ number (c ∷ bs)
digit_first c bs h =
    let a : is_ascii_alphabetic c ≡ false = grind (arith, nat_tests, h) in
    rw (a, h) refl

number_limit : (w : List ℕ) → IsNumeral w → keeps_limit kinds.Number w ≡ true
number_limit w g =
    let n : prefix_len is_ascii_digit w ≡ length w = every_all is_ascii_digit w g.all_digits in
    let d : drop (1 + length w) w ≡ [] = drop_of_length-le w (omega arith) in
    ap (λ z. nat_le z 12 && nat_le (prefix_len is_ascii_digit (drop (1 + z) w)) 12) n
    ∙ ap (λ z. nat_le (length w) 12 && nat_le (prefix_len is_ascii_digit z) 12) d
    ∙ ap (λ z. z && true) g.few

number_piece : (w rest : List ℕ) → IsNumeral w → piece Source false (w ++ 59 ∷ rest) ≡ Ok (Some kinds.Number, length w)
unfolding piece
number_piece [] rest g = absurd (omega (arith, g.some))
number_piece (c ∷ w) rest g =
    let bs : List ℕ = c ∷ (w ++ 59 ∷ rest) in
    let n : ℕ = length (c ∷ w) in
    let h = (and_parts (is_ascii_digit c) (list_all is_ascii_digit w) g.all_digits).0 in
    let none : is_separator c ≡ false = grind (arith, nat_tests, h) in
    let t = cut (c ∷ w) (59 ∷ rest) bs n refl refl in
    let nothing : PieceResult = Ok (None, 1) in
    ap (λ (z : Bool). cond z nothing (piece_of Source bs (found Source bs))) none
    ∙ ap (piece_of Source bs) (digit_first c (w ++ 59 ∷ rest) h ∙ number_found (c ∷ w) rest g)
    ∙ ap (λ z. limited kinds.Number n (keeps_limit kinds.Number z)) t.0
    ∙ ap (limited kinds.Number n) (number_limit (c ∷ w) g)

-- ---- the text by its parts

abbrev pub behind_number : Bool → List ℕ
behind_number is_last = codes "\nFOR J := 0 STEP 1 UNTIL 99 DO TOTAL := (TOTAL + A[J]) MASK 4095" ++ (total_written is_last ++ codes "\nEND\nFINISH\n")

abbrev pub behind_name : Bool → List ℕ → List ℕ
behind_name is_last w = codes "BEGIN\nINTEGER J;\nINTEGER ARRAY A[0:99];\nFOR J := 0 STEP 1 UNTIL 99 DO A[J] := J * " ++ (w ++ 59 ∷ behind_number is_last)

abbrev pub text_of : Bool → List ℕ → List ℕ
text_of is_last w = codes "COMMON (INTEGER TOTAL);\nLIBRARY (PROCEDURE WRITEBYTE(VALUE INTEGER));\nSEGMENT " ++ 66 ∷ (w ++ 10 ∷ behind_name is_last w)

regrouped : (x w a b c d e f g h j k l : List ℕ)
    → x ++ w ++ a ++ b ++ c ++ d ++ e ++ w ++ f ++ g ++ h ++ j ++ k ++ l ≡ x ++ (w ++ ((a ++ (b ++ (c ++ (d ++ e)))) ++ (w ++ ((f ++ g) ++ (h ++ (j ++ (k ++ l)))))))
regrouped x w a b c d e f g h j k l = simp append_assoc

pub text_is : (i : ℕ) (is_last : Bool) → text_of is_last (decimal i) ≡ large_text i is_last
text_is i is_last =
    sym (regrouped (codes "COMMON (INTEGER TOTAL);\nLIBRARY (PROCEDURE WRITEBYTE(VALUE INTEGER));\nSEGMENT B") (decimal i) (codes "\n") (codes "BEGIN\n") (codes "INTEGER J;\n") (codes "INTEGER ARRAY A[0:99];\n")
    (codes "FOR J := 0 STEP 1 UNTIL 99 DO A[J] := J * ") (codes ";\n") (codes "FOR J := 0 STEP 1 UNTIL 99 DO TOTAL := (TOTAL + A[J]) MASK 4095") (total_written is_last) (codes "\n") (codes "END\n") (codes "FINISH\n"))

-- ---- the tokens: up to the name, up to the number, and the rest

abbrev pub first_part : Bool → List ℕ → Scanned
first_part is_last w = scan 25 (start (text_of is_last w))

abbrev pub name_token : Bool → List ℕ → Lexeme
name_token is_last w = record { kind = kinds.Name; line = (first_part is_last w).1.line; at = (first_part is_last w).1.at; text = 66 ∷ w }

abbrev pub second_part : Bool → List ℕ → Scanned
second_part is_last w = scan 49 (record { line = (first_part is_last w).1.line; at = (first_part is_last w).1.at + length (66 ∷ w); after_semicolon = false; rest = 10 ∷ behind_name is_last w })

abbrev pub number_token : Bool → List ℕ → Lexeme
number_token is_last w = record { kind = kinds.Number; line = (second_part is_last w).1.line; at = (second_part is_last w).1.at; text = w }

abbrev pub last_part : Bool → List ℕ → Scanned
last_part is_last w = scan 400 (record { line = (second_part is_last w).1.line; at = (second_part is_last w).1.at + length w; after_semicolon = false; rest = 59 ∷ behind_number is_last })

abbrev pub tokens : Bool → List ℕ → List Lexeme
tokens is_last w = (first_part is_last w).0 ++ ((name_token is_last w ∷ []) ++ ((second_part is_last w).0 ++ ((number_token is_last w ∷ []) ++ (last_part is_last w).0)))

ends : (is_last : Bool) (w : List ℕ) → (last_part is_last w).1.rest ≡ []
unfolding piece word_of
ends true w = refl
ends false w = refl

pub lexed : (is_last : Bool) (w : List ℕ) → IsNumeral w → Tokenizes Source first_place (text_of is_last w) (tokens is_last w)
unfolding piece word_of
lexed is_last w g =
    let one = first_part is_last w in
    let two = second_part is_last w in
    let named = token_follows one.1.line one.1.at kinds.Name (66 ∷ w) (10 ∷ behind_name is_last w) (name_piece w (behind_name is_last w) g) (omega (arith, no_feeds w g.all_digits)) in
    let numbered = token_follows two.1.line two.1.at kinds.Number w (59 ∷ behind_number is_last) (number_piece w (behind_number is_last) g) (no_feeds w g.all_digits) in
    scanned_whole (text_of is_last w) (tokens is_last w) (last_part is_last w).1
    (follows_on (scan_follows 25 (start (text_of is_last w))) (follows_on named (follows_on (scan_follows 49 (record { line = one.1.line; at = one.1.at + length (66 ∷ w); after_semicolon = false; rest = 10 ∷ behind_name is_last w }))
    (follows_on numbered (scan_follows 400 (record { line = two.1.line; at = two.1.at + length w; after_semicolon = false; rest = 59 ∷ behind_number is_last }))))))
    (ends is_last w)

-- few tokens
few_tokens : (is_last : Bool) (w : List ℕ) → nat_lt (length (tokens is_last w)) 65536 ≡ true
unfolding piece word_of
few_tokens true w = refl
few_tokens false w = refl

pub tokens_few : (is_last : Bool) (w : List ℕ) → length (tokens is_last w) ≤ 65535
tokens_few is_last w = omega (arith, ltb-true (length (tokens is_last w)) 65536 (few_tokens is_last w))
