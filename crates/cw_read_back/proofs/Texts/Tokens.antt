-- The name, the string and the literal that a token stands for can be written again.
use Rattle.std.proofs.Common.{◌≡◌, ℕ, ◌-◌, ◌<◌, true, false, ◌==◌, not, nat_le, List, [], ◌∷◌, ◌++◌, length, map, take, drop, Some, None, refl, sym, ap, ap₂, subst, ◌∙◌, arith, append_assoc, length-append}
use Rattle.std.specs.Prelude.{if◌then◌else◌, unwrap_or}
use Rattle.std.specs.List.{list_all}
use Rattle.std.specs.Char.{to_ascii_uppercase}
use Rattle.std.specs.Str.{str_to_ascii_lowercase, bytes_eq}
use Rattle.std.proofs.Math.Seq.{drop-append_seam}
use Rattle.std.proofs.lemmas.Bool.{and_parts}
use Rattle.std.proofs.lemmas.Bool.Decides.{nat_tests}
use Rattle.std.proofs.lemmas.Str.Ascii.{lowercase-uppercase}
use Rattle.cw_lex.specs.declared.token.Form.TheVariants.{Source}
use Rattle.cw_lex.specs.declared.token.Symbol.{Symbol}
use Rattle.cw_lex.specs.declared.token.Symbol.TheVariants as symbols
use Rattle.cw_lex.specs.declared.token.Word.{Word}
use Rattle.cw_lex.specs.declared.token.Word.TheVariants as words
use Rattle.cw_lex.specs.declared.token.TokenKind.{TokenKind}
use Rattle.cw_lex.specs.declared.token.TokenKind.TheVariants as kinds
use Rattle.cw_lex.specs.declared.token.TheConstants.{WORDS}
use Rattle.cw_lex.specs.Items.{look_up, word_of, is_plain, is_literal_byte, IsIdentifier, letter_first, IsQuotable, empty, plain, pair, IsText, between_quotes, IsBodyText, between_pairs, IsLiteral, of_character}
use Rattle.cw_lex.proofs.Lists.{cut}
use Rattle.cw_grammar.specs.Tokens.{Item, symbol_code, word_code, same, is_identifier, identifier, name_of, unquoted, characters, first_or_zero, literal_byte}
use Rattle.cw_show.specs.Canonical.{name, literal, doubled, string}
use Rattle.cw_spelled.specs.Proper.{IsProperAs}
use Rattle.cw_tokens.proofs.Codes.{symbol_after, word_after}
use Rattle.cw_read_back.proofs.Texts.Spelled.{Spelled, alone}

-- The token is spelled as its kind asks.
abbrev pub IsProperItem : Item → Type 0
IsProperItem t = IsProperAs t.kind t.text

-- ---- kinds

not_so : (n k : ℕ) → 3 < n → k < 4 → (n == k) ≡ true → ⊥
not_so n k h l e = grind (arith, nat_tests, h, l, e)

-- ---- names

same_lower : (w : List ℕ) → str_to_ascii_lowercase (map to_ascii_uppercase w) ≡ str_to_ascii_lowercase w
same_lower [] = refl
same_lower (c ∷ w) = ap₂ (λ d v. d ∷ v) (lowercase-uppercase c) (same_lower w)

same_entry : (entries : List (List ℕ × Word)) (w : List ℕ) → look_up entries (map to_ascii_uppercase w) ≡ look_up entries w
same_entry [] w = refl
same_entry (x ∷ entries) w =
    ap₂ (λ v o. if bytes_eq (str_to_ascii_lowercase x.0) v then Some x.1 else o) (same_lower w) (same_entry entries w)

no_word : (w : List ℕ) → word_of w ≡ None → word_of (map to_ascii_uppercase w) ≡ None
unfolding word_of
no_word w h = same_entry (map (λ k. (k.0.now, k.1)) WORDS) w ∙ h

letter_alone : word_of (65 ∷ []) ≡ None
unfolding word_of
letter_alone = refl

identifier_no_word : (w : List ℕ) → word_of w ≡ None → word_of (unwrap_or (identifier w) (65 ∷ [])) ≡ None
identifier_no_word w h =
    elim (is_identifier w) as (λ b. word_of (unwrap_or (if b then Some w else None) (65 ∷ [])) ≡ None) [
      | true ↦ h
      | false ↦ letter_alone
    ]

no_word_of : (w : List ℕ) → IsIdentifier w → word_of w ≡ None
no_word_of _ (letter_first h k l) = l

name_right : (k : TokenKind) (w : List ℕ) → IsProperAs k w → same k kinds.Name ≡ true → word_of (name_of w) ≡ None
name_right kinds.Name w p h = identifier_no_word (map to_ascii_uppercase w) (no_word w (no_word_of w p.0))
name_right (kinds.Symbol s) w p h = absurd (not_so (symbol_code s) 0 (symbol_after s) (omega arith) h)
name_right (kinds.Word k) w p h = absurd (not_so (word_code k) 0 (word_after k) (omega arith) h)
name_right _ w p h = absurd cc

pub name_spelled : (t : Item) → IsProperItem t → same t.kind kinds.Name ≡ true → Spelled (name (name_of t.text) ∷ [])
name_spelled t p h = alone (name (name_of t.text)) (name_right t.kind t.text p h)

-- ---- strings

no_quote : (b : ℕ) → is_plain b ≡ true → (b == 34) ≡ false
no_quote b h = let p = and_parts (nat_le 32 b) (not (b == 34)) h in grind (arith, nat_tests, p.1)

doubled_plain : (b : ℕ) (w : List ℕ) → is_plain b ≡ true → doubled (b ∷ w) ≡ b ∷ doubled w
doubled_plain b w h = rw (no_quote b h) refl

unquoted_plain : (b : ℕ) (w : List ℕ) → (b == 34) ≡ false → unquoted (b ∷ w) ≡ b ∷ unquoted w
unquoted_plain b [] h = rw h refl
unquoted_plain b (c ∷ w) h = rw h refl

quotable_again : {w : List ℕ} → IsQuotable w → IsQuotable (doubled (unquoted (w ++ 34 ∷ [])))
quotable_again empty = empty
quotable_again (plain {b = b} {w = w} h q) =
    let e : doubled (unquoted (b ∷ (w ++ 34 ∷ []))) ≡ b ∷ doubled (unquoted (w ++ 34 ∷ [])) = ap doubled (unquoted_plain b (w ++ 34 ∷ []) (no_quote b h)) ∙ doubled_plain b (unquoted (w ++ 34 ∷ [])) h in
    subst IsQuotable (sym e) (plain h (quotable_again q))
quotable_again (pair q) = pair (quotable_again q)

plain_again : (w : List ℕ) → list_all is_plain w ≡ true → IsQuotable (doubled w)
plain_again [] h = empty
plain_again (b ∷ w) h =
    let p = and_parts (is_plain b) (list_all is_plain w) h in
    subst IsQuotable (sym (doubled_plain b w p.0)) (plain p.0 (plain_again w p.1))

text_again : (w : List ℕ) → IsText w → IsQuotable (doubled (characters kinds.Text w))
text_again _ (between_quotes w q) = quotable_again q

body_again : (w : List ℕ) → IsBodyText w → IsQuotable (doubled (characters kinds.BodyText w))
body_again _ (between_pairs w q) =
    let bs : List ℕ = w ++ 34 ∷ 34 ∷ [] in
    let n : length (34 ∷ 34 ∷ bs) - 4 ≡ length w = omega (arith, length-append w (34 ∷ 34 ∷ [])) in
    let e : take (length (34 ∷ 34 ∷ bs) - 4) bs ≡ w = ap (λ (k : ℕ). take k bs) n ∙ (cut w (34 ∷ 34 ∷ []) bs (length w) refl refl).0 in
    subst (λ (v : List ℕ). IsQuotable (doubled v)) (sym e) (plain_again w q)

string_right : (k : TokenKind) (w : List ℕ) → IsProperAs k w → same k kinds.Text ≡ true → IsText (string (characters k w)).text
string_right kinds.Text w p h = between_quotes _ (text_again w p)
string_right kinds.BodyText w p h = between_quotes _ (body_again w p)
string_right (kinds.Symbol s) w p h = absurd (not_so (symbol_code s) 2 (symbol_after s) (omega arith) h)
string_right (kinds.Word k) w p h = absurd (not_so (word_code k) 2 (word_after k) (omega arith) h)
string_right _ w p h = absurd cc

pub string_spelled : (t : Item) → IsProperItem t → same t.kind kinds.Text ≡ true → Spelled (string (characters t.kind t.text) ∷ [])
string_spelled t p h = alone (string (characters t.kind t.text)) (string_right t.kind t.text p h)

-- ---- literals

byte_at : (u : List ℕ) (b c : ℕ) → literal_byte (u ++ b ∷ c ∷ []) ≡ b
byte_at u b c =
    let e : length (u ++ b ∷ c ∷ []) - 2 ≡ length u = omega (arith, length-append u (b ∷ c ∷ [])) in
    ap (λ (n : ℕ). first_or_zero (drop n (u ++ b ∷ c ∷ []))) e ∙ ap first_or_zero (drop-append_seam u (b ∷ c ∷ []))

byte_is : (w : List ℕ) → IsLiteral Source w → is_literal_byte Source (literal_byte w) ≡ true
byte_is _ (of_character w gap b i n g k) =
    let e : w ++ (gap ++ 40 ∷ b ∷ 41 ∷ []) ≡ (w ++ (gap ++ 40 ∷ [])) ++ b ∷ 41 ∷ [] =
    ap (λ (z : List ℕ). w ++ z) (sym (append_assoc gap (40 ∷ []) (b ∷ 41 ∷ []))) ∙ sym (append_assoc w (gap ++ 40 ∷ []) (b ∷ 41 ∷ [])) in
    ap (is_literal_byte Source) (ap literal_byte e ∙ byte_at (w ++ (gap ++ 40 ∷ [])) b 41) ∙ k

literal_right : (k : TokenKind) (w : List ℕ) → IsProperAs k w → same k kinds.Literal ≡ true → is_literal_byte Source (literal_byte w) ≡ true
literal_right kinds.Literal w p h = byte_is w p
literal_right (kinds.Symbol s) w p h = absurd (not_so (symbol_code s) 3 (symbol_after s) (omega arith) h)
literal_right (kinds.Word k) w p h = absurd (not_so (word_code k) 3 (word_after k) (omega arith) h)
literal_right _ w p h = absurd cc

pub literal_spelled : (t : Item) → IsProperItem t → same t.kind kinds.Literal ≡ true → Spelled (literal (literal_byte t.text) ∷ [])
literal_spelled t p h = alone (literal (literal_byte t.text)) (literal_right t.kind t.text p h)
