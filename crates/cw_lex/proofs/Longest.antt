-- What is found at the front of a text is the longest item there.
use Rattle.std.proofs.Common.{◌≡◌, ℕ, zero, suc, ◌+◌, ◌≤◌, ◌<◌, true, List, [], ◌∷◌, ◌++◌, length, take, drop, Option, Some, None, refl, sym, ap, subst, ◌∙◌, arith, append_assoc}
use Rattle.std.specs.List.{prefix_len, list_all}
use Rattle.std.specs.Char.{is_ascii_alphabetic, is_ascii_alphanumeric}
use Rattle.std.proofs.lemmas.Bool.{and_parts}
use Rattle.std.proofs.lemmas.Bool.Decides.{nat_tests}
use Rattle.std.proofs.lemmas.List.{take-append-drop, length-append}
use Rattle.std.proofs.lemmas.List.Sums.{prefix_len-le-length}
use Rattle.cw_lex.specs.declared.token.Form.{Form}
use Rattle.cw_lex.specs.declared.token.Word.{Word}
use Rattle.cw_lex.specs.declared.token.Word.TheVariants as words
use Rattle.cw_lex.specs.declared.token.TokenKind.{TokenKind}
use Rattle.cw_lex.specs.declared.token.TokenKind.TheVariants as kinds
use Rattle.cw_lex.specs.Items.{is_literal_byte, word_of, bare, IsIdentifier, letter_first, EndsWord, AreSeparators, IsLiteral, of_character, IsItem, HasNoItem}
use Rattle.cw_lex.specs.Found.{FoundItem, bare_word, word_or_name, worded}
use Rattle.cw_lex.proofs.Lists.{every_prefix, every_take, length_front, cut}
use Rattle.cw_lex.proofs.Letters.{word_lettered, lettered_digits}
use Rattle.cw_lex.proofs.Classes.{class, class_of, class_letter, is_bare, is_quoted, word_form, number_class, text_class, body_text_class, symbol_class, item_class}
use Rattle.cw_lex.proofs.Gaps.{ends_word, ends_before}
use Rattle.cw_lex.proofs.Words.{IsWordedAt, worded_at}

-- what is found is the longest item
pub record IsFoundAt (form : Form) (bs : List ℕ) (x : TokenKind × ℕ) : Type 0 where
  pub some : 0 < x.1
  pub within : x.1 ≤ length bs
  pub is_item : IsItem form (take x.1 bs) x.0
  pub best : (v r : List ℕ) (k : TokenKind) → v ++ r ≡ bs → IsItem form v k → length v ≤ x.1

-- what is said of what was found, if anything
abbrev pub FoundOrNot : Form → List ℕ → FoundItem → Type 0
FoundOrNot form bs None = HasNoItem form bs
FoundOrNot form bs (Some x) = IsFoundAt form bs x

-- an item that begins with a letter
data LetterItem (form : Form) (v : List ℕ) : Type 0 where
  all_letters : list_all is_ascii_alphanumeric v ≡ true → LetterItem form v
  a_literal : (u gap : List ℕ) (b : ℕ) → word_of u ≡ Some words.Literal → EndsWord u gap → AreSeparators gap → is_literal_byte form b ≡ true → v ≡ u ++ (gap ++ 40 ∷ b ∷ 41 ∷ []) → LetterItem form v

zero_front : (w u : List ℕ) → class_of w ≡ 3 → class_of (w ++ u) ≡ 0 → ⊥
zero_front [] u e f = cc
zero_front (c ∷ w) u e f = cc

letter_literal : (form : Form) (v : List ℕ) → IsLiteral form v → class_of v ≡ 0 → LetterItem form v
letter_literal form _ (of_character w gap b p t s l) h = elim (word_form w words.Literal p) [
  | is_bare e q ↦ a_literal w gap b e t s l refl
  | is_quoted u e q k ↦ absurd (zero_front w (gap ++ 40 ∷ b ∷ 41 ∷ []) k h)
]

letter_name : (form : Form) (v : List ℕ) → IsIdentifier v → LetterItem form v
letter_name form _ (letter_first {c = c} {w = w} e a n) = all_letters (lettered_alnum c w e a)
  where
    lettered_alnum : (c : ℕ) (w : List ℕ) → is_ascii_alphabetic c ≡ true → list_all is_ascii_alphanumeric w ≡ true → list_all is_ascii_alphanumeric (c ∷ w) ≡ true
    lettered_alnum c w e a = let h : is_ascii_alphanumeric c ≡ true = grind (arith, nat_tests, e) in rw (h, a) refl

letter_item : (form : Form) (v : List ℕ) (k : TokenKind) → IsItem form v k → class_of v ≡ 0 → LetterItem form v
letter_item form v (kinds.Word k) i h = elim (word_form v k i) [
  | is_bare e q ↦ all_letters (lettered_digits v (word_lettered v k e))
  | is_quoted w e p q ↦ absurd cc
]
letter_item form v kinds.Name i h = letter_name form v i
letter_item form v kinds.Number i h = let q = number_class v i in absurd cc
letter_item form v kinds.Text i h = let q = text_class v i.1 in absurd cc
letter_item form v kinds.BodyText i h = let q = body_text_class v i.1 in absurd cc
letter_item form v kinds.Literal i h = letter_literal form v i h
letter_item form v (kinds.Symbol s) i h = let q = symbol_class v s i in absurd cc

-- what the letters and digits w, before rest, become
letters_best : (form : Form) (bs : List ℕ) (n : ℕ) → n ≡ prefix_len is_ascii_alphanumeric bs → n ≤ length bs → (m : ℕ) → n ≤ m
    → ((gap : List ℕ) (b : ℕ) (r : List ℕ) → word_of (take n bs) ≡ Some words.Literal → drop n bs ≡ gap ++ 40 ∷ b ∷ 41 ∷ r → AreSeparators gap → is_literal_byte form b ≡ true → n + (length gap + 3) ≤ m)
    → (v r : List ℕ) → v ++ r ≡ bs → LetterItem form v → length v ≤ m
letters_best form bs n e l m more literal v r h (all_letters a) = omega (arith, every_prefix is_ascii_alphanumeric v r a, ap (prefix_len is_ascii_alphanumeric) h)
letters_best form bs n e l m more literal v r h (a_literal u gap b k z s q p) =
    let inner : (gap ++ 40 ∷ b ∷ 41 ∷ []) ++ r ≡ gap ++ 40 ∷ b ∷ 41 ∷ r = append_assoc gap (40 ∷ b ∷ 41 ∷ []) r in
    let parts : bs ≡ u ++ (gap ++ 40 ∷ b ∷ 41 ∷ r) = sym h ∙ ap (λ (z : List ℕ). z ++ r) p ∙ append_assoc u (gap ++ 40 ∷ b ∷ 41 ∷ []) r ∙ ap (λ (z : List ℕ). u ++ z) inner in
    let stop : prefix_len is_ascii_alphanumeric bs ≡ length u = ap (prefix_len is_ascii_alphanumeric) parts ∙ ends_word u (gap ++ 40 ∷ b ∷ 41 ∷ r) (lettered_digits u (word_lettered u words.Literal k)) (ends_before u gap 40 (b ∷ 41 ∷ r) refl z) in
    let c = cut u (gap ++ 40 ∷ b ∷ 41 ∷ r) bs n parts (sym stop ∙ sym e) in
    let size : length v ≡ length u + (length gap + 3) = omega (arith, ap length p, length-append u (gap ++ 40 ∷ b ∷ 41 ∷ []), length-append gap (40 ∷ b ∷ 41 ∷ [])) in
    omega (arith, size, stop, e, literal gap b r (ap word_of c.0 ∙ k) c.1 s q)

identifier_of : (v : List ℕ) → class_of v ≡ 0 → list_all is_ascii_alphanumeric v ≡ true → word_of v ≡ None → IsIdentifier v
identifier_of [] h a n = absurd cc
identifier_of (c ∷ w) h a n = letter_first (class_letter c h) (and_parts (is_ascii_alphanumeric c) (list_all is_ascii_alphanumeric w) a).1 n

front_class : (n c : ℕ) (bs : List ℕ) → 0 < n → class_of (take n (c ∷ bs)) ≡ class c
front_class zero c bs h = absurd (omega (arith, h))
front_class (suc n) c bs h = refl

bare_found : (form : Form) (c : ℕ) (bs : List ℕ) (n : ℕ) (o : Option Word) → class c ≡ 0 → n ≡ prefix_len is_ascii_alphanumeric (c ∷ bs) → 0 < n → n ≤ length (c ∷ bs) → list_all is_ascii_alphanumeric (take n (c ∷ bs)) ≡ true → word_of (take n (c ∷ bs)) ≡ o
    → IsFoundAt form (c ∷ bs) (word_or_name form o n (c ∷ bs))
bare_found form c bs n None a e some within all w = record {
  some = some;
  within = within;
  is_item = identifier_of (take n (c ∷ bs)) (front_class n c bs some ∙ a) all w;
  best = λ v r k h i. letters_best form (c ∷ bs) n e within n (omega arith) (λ gap b r k h s l. absurd cc) v r h (letter_item form v k i (item_class form v r c bs k h i ∙ a));
}
bare_found form c bs n (Some k) a e some within all w =
    let whole = c ∷ bs in
    let front = take n whole in
    let rest = drop n whole in
    let join : front ++ rest ≡ whole = take-append-drop n whole in
    let size : length front ≡ n = length_front n whole within in
    let d0 : IsWordedAt form front rest k (worded form k (length front) (front ++ rest)) = worded_at form front rest k (bare front w) (omega (arith, size, e, ap (prefix_len is_ascii_alphanumeric) join)) in
    let F : ℕ → Type 0 = λ (z : ℕ). IsWordedAt form front rest k (worded form k z (front ++ rest)) in
    let G : List ℕ → Type 0 = λ (z : List ℕ). IsWordedAt form front rest k (worded form k n z) in
    let d : IsWordedAt form front rest k (worded form k n whole) = subst G join (subst F size d0) in
    record {
      some = omega (arith, d.more, size, some);
      within = omega (arith, d.within, ap length join);
      is_item = subst (λ (z : List ℕ). IsItem form (take (worded form k n whole).1 z) (worded form k n whole).0) join d.is_item;
      best = λ v r j h i. letters_best form whole n e within (worded form k n whole).1 (omega (arith, d.more, size)) (λ gap b r l p s q. omega (arith, size, d.literal gap b r (let z : Some k ≡ Some words.Literal = sym w ∙ l in cc) p s q)) v r h (letter_item form v j i (item_class form v r c bs j h i ∙ a));
    }

pub bare_is : (form : Form) (c : ℕ) (bs : List ℕ) → class c ≡ 0 → IsFoundAt form (c ∷ bs) (bare_word form (c ∷ bs))
bare_is form c bs a =
    let h : is_ascii_alphanumeric c ≡ true = (let g = class_letter c a in grind (arith, nat_tests, g)) in
    let n : prefix_len is_ascii_alphanumeric (c ∷ bs) ≡ 1 + prefix_len is_ascii_alphanumeric bs = rw h refl in
    bare_found form c bs (prefix_len is_ascii_alphanumeric (c ∷ bs)) (word_of (take (prefix_len is_ascii_alphanumeric (c ∷ bs)) (c ∷ bs))) a refl (omega (arith, n)) (prefix_len-le-length is_ascii_alphanumeric (c ∷ bs)) (every_take is_ascii_alphanumeric (c ∷ bs)) refl
