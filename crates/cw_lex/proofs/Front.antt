-- What is found at the front of a text, by its first byte.
use Rattle.std.proofs.Common.{◌≡◌, ℕ, zero, suc, ◌+◌, ◌≤◌, ◌<◌, true, false, cond, ◌==◌, List, [], ◌∷◌, ◌++◌, length, take, drop, Option, Some, None, refl, sym, ap, subst, ◌∙◌, ◌⊎◌, inl, inr, arith, append_assoc}
use Rattle.std.specs.List.{prefix_len, list_all}
use Rattle.std.proofs.lemmas.Bool.{eqb-true}
use Rattle.std.proofs.lemmas.List.{take-append-drop, length-append}
use Rattle.std.proofs.lemmas.List.Sums.{prefix_len-le-length}
use Rattle.std.proofs.Math.Seq.{drop-append_seam}
use Rattle.cw_lex.specs.declared.token.Form.{Form}
use Rattle.cw_lex.specs.declared.token.Form.TheVariants.{Source, MacroBody}
use Rattle.cw_lex.specs.declared.token.Word.{Word}
use Rattle.cw_lex.specs.declared.token.Word.TheVariants as words
use Rattle.cw_lex.specs.declared.token.TokenKind.{TokenKind}
use Rattle.cw_lex.specs.declared.token.TokenKind.TheVariants as kinds
use Rattle.cw_lex.specs.Items.{is_plain, IsWord, IsText, between_quotes, IsBodyText, between_pairs, IsLiteral, of_character, IsItem}
use Rattle.cw_lex.specs.Found.{of_kind, number, number_of, text_end, body_text_end, two_quotes, string}
use Rattle.cw_lex.proofs.Lists.{every_stop, every_take, length_front, cut}
use Rattle.cw_lex.proofs.Classes.{class, class_of, is_bare, is_quoted, word_form, name_class, number_class, text_class, body_text_class, symbol_class, item_class}
use Rattle.cw_lex.proofs.Numbers.{number_size, number_most, number_is, number_within}
use Rattle.cw_lex.proofs.Strings.{Ends, EndsAt, as_before, farther, text_end_is, ends_quotes, quotable_ends, Quotes, quotes, quotes_more, quotes_none}
use Rattle.cw_lex.proofs.Longest.{IsFoundAt, FoundOrNot}

-- words and names begin with a letter or an apostrophe
word_class : (v : List ℕ) (k : Word) (m : ℕ) → IsWord v k → class_of v ≡ m → (m ≡ 0) ⊎ (m ≡ 3)
word_class v k m p h = elim (word_form v k p) [
  | is_bare e q ↦ inl (sym h ∙ q)
  | is_quoted w e r q ↦ inr (sym h ∙ q)
]

lead_class : (w u : List ℕ) (n : ℕ) → class_of w ≡ n → n ≤ 4 → class_of (w ++ u) ≡ n
lead_class [] u n e h = absurd (omega (arith, e, h))
lead_class (c ∷ w) u n e h = e

literal_class : (form : Form) (v : List ℕ) (m : ℕ) → IsLiteral form v → class_of v ≡ m → (m ≡ 0) ⊎ (m ≡ 3)
literal_class form _ m (of_character w gap b p t s l) h = elim (word_form w words.Literal p) [
  | is_bare e q ↦ inl (sym h ∙ lead_class w (gap ++ 40 ∷ b ∷ 41 ∷ []) 0 q (omega arith))
  | is_quoted u e r q ↦ inr (sym h ∙ lead_class w (gap ++ 40 ∷ b ∷ 41 ∷ []) 3 q (omega arith))
]

-- the kinds of each class
number_only : (form : Form) (v : List ℕ) (k : TokenKind) → IsItem form v k → class_of v ≡ 1 → k ≡ kinds.Number
number_only form v (kinds.Word k) i h = elim (word_class v k 1 i h) [ inl q ↦ absurd cc | inr q ↦ absurd cc ]
number_only form v kinds.Name i h = let q = name_class v i in absurd cc
number_only form v kinds.Number i h = refl
number_only form v kinds.Text i h = let q = text_class v i.1 in absurd cc
number_only form v kinds.BodyText i h = let q = body_text_class v i.1 in absurd cc
number_only form v kinds.Literal i h = elim (literal_class form v 1 i h) [ inl q ↦ absurd cc | inr q ↦ absurd cc ]
number_only form v (kinds.Symbol s) i h = let q = symbol_class v s i in absurd cc

as_number : (form : Form) (v : List ℕ) (k : TokenKind) → k ≡ kinds.Number → IsItem form v k → IsItem form v kinds.Number
as_number form v k e i = subst (IsItem form v) e i

empty_class : (v : List ℕ) → class_of v ≡ 1 → length v ≤ 0 → ⊥
empty_class [] h l = cc
empty_class (x ∷ v) h l = omega (arith, l)

positive : (n : ℕ) → (n == 0) ≡ false → 0 < n
positive zero e = absurd cc
positive (suc n) e = omega arith

number_found : (form : Form) (c : ℕ) (bs : List ℕ) (n : ℕ) → class c ≡ 1 → n ≡ number_size (c ∷ bs) → FoundOrNot form (c ∷ bs) (number_of n)
number_found form c bs n a e =
    let most : (v r : List ℕ) (k : TokenKind) → v ++ r ≡ c ∷ bs → IsItem form v k → length v ≤ n = λ v r k h i. omega (arith, e, number_most v r (c ∷ bs) h (as_number form v k (number_only form v k i (item_class form v r c bs k h i ∙ a)) i)) in
    elim (n == 0) as (λ t. (n == 0) ≡ t → FoundOrNot form (c ∷ bs) (cond t None (Some (kinds.Number, n)))) [
      | true ↦ λ z. λ v r k h i. empty_class v (item_class form v r c bs k h i ∙ a) (omega (arith, most v r k h i, eqb-true n 0 z))
      | false ↦ λ z. record {
        some = positive n z;
        within = omega (arith, e, number_within (c ∷ bs));
        is_item = rw e (number_is (c ∷ bs) (omega (arith, e, positive n z)));
        best = most;
      }
    ] refl

pub number_at : (form : Form) (c : ℕ) (bs : List ℕ) → class c ≡ 1 → FoundOrNot form (c ∷ bs) (number (c ∷ bs))
number_at form c bs a = number_found form c bs (number_size (c ∷ bs)) a refl

-- strings
string_only : (form : Form) (v : List ℕ) (k : TokenKind) → IsItem form v k → class_of v ≡ 2 → ((form ≡ Source) × IsText v) ⊎ ((form ≡ MacroBody) × IsBodyText v)
string_only form v (kinds.Word k) i h = elim (word_class v k 2 i h) [ inl q ↦ absurd cc | inr q ↦ absurd cc ]
string_only form v kinds.Name i h = let q = name_class v i in absurd cc
string_only form v kinds.Number i h = let q = number_class v i in absurd cc
string_only form v kinds.Text i h = inl i
string_only form v kinds.BodyText i h = inr i
string_only form v kinds.Literal i h = elim (literal_class form v 2 i h) [ inl q ↦ absurd cc | inr q ↦ absurd cc ]
string_only form v (kinds.Symbol s) i h = let q = symbol_class v s i in absurd cc

-- the bytes behind the first quote of a string end it
text_ends : (v r bs : List ℕ) → v ++ r ≡ 34 ∷ bs → IsText v → (w : List ℕ) × (w ++ r ≡ bs) × Ends false w × (length v ≡ suc (length w))
text_ends _ r bs h (between_quotes w q) = (w ++ 34 ∷ [], (cc), quotable_ends w q, refl)

ends_text : (w : List ℕ) → Quotes false w → IsText (34 ∷ w)
ends_text w (quotes u q n h) = let F : List ℕ → Type 0 = λ (z : List ℕ). IsText (34 ∷ z) in subst F (sym h) (between_quotes u q)
ends_text w (quotes_more u q n h) = absurd cc
ends_text w (quotes_none n h) = absurd cc

ends_empty : (w : List ℕ) → w ≡ [] → Quotes false w → ⊥
ends_empty w e (quotes [] q n h) = cc
ends_empty w e (quotes (x ∷ u) q n h) = cc
ends_empty w e (quotes_more u q n h) = cc
ends_empty w e (quotes_none n h) = cc

text_only : (form : Form) (v r bs : List ℕ) (k : TokenKind) → form ≡ Source → v ++ r ≡ 34 ∷ bs → IsItem form v k → IsText v
text_only form v r bs k f h i = elim (string_only form v k i (item_class form v r 34 bs k h i)) [
  | inl q ↦ q.1
  | inr q ↦ (let n : Source ≡ MacroBody = sym f ∙ q.0 in absurd cc)
]

text_found : (bs : List ℕ) (o : Option ℕ) → EndsAt false 0 None bs o → FoundOrNot Source (34 ∷ bs) (of_kind kinds.Text 1 o)
text_found bs _ (as_before none) = λ v r k h i.
    let t = text_ends v r bs h (text_only Source v r bs k refl h i) in
    ends_empty t.0 (none t.0 r t.1 t.2) (ends_quotes t.2)
text_found bs _ (farther n l e d) =
    let size : suc (suc n) ≡ 0 + suc n + 1 = omega arith in
    let F : ℕ → Type 0 = λ (z : ℕ). IsFoundAt Source (34 ∷ bs) (kinds.Text, z) in
    subst F size (record {
      some = omega arith;
      within = omega (arith, l);
      is_item = (refl, ends_text (take (suc n) bs) (ends_quotes e));
      best = λ v r k h i. (let t = text_ends v r bs h (text_only Source v r bs k refl h i) in omega (arith, t.3, d t.0 r t.1 t.2));
    })

pub source_string : (bs : List ℕ) → FoundOrNot Source (34 ∷ bs) (string Source (34 ∷ bs))
source_string bs = text_found bs (text_end false 0 None bs) (text_end_is false 0 None bs)

-- strings of macro bodies
body_only : (form : Form) (v r bs : List ℕ) (k : TokenKind) → form ≡ MacroBody → v ++ r ≡ 34 ∷ bs → IsItem form v k → IsBodyText v
body_only form v r bs k f h i = elim (string_only form v k i (item_class form v r 34 bs k h i)) [
  | inl q ↦ (let n : MacroBody ≡ Source = sym f ∙ q.0 in absurd cc)
  | inr q ↦ q.1
]

body_ends : (v r bs : List ℕ) → v ++ r ≡ 34 ∷ bs → IsBodyText v → (w : List ℕ) × (bs ≡ 34 ∷ (w ++ 34 ∷ 34 ∷ r)) × (list_all is_plain w ≡ true) × (length v ≡ length w + 4)
body_ends _ r bs h (between_pairs w q) =
    let inner : (w ++ 34 ∷ 34 ∷ []) ++ r ≡ w ++ 34 ∷ 34 ∷ r = append_assoc w (34 ∷ 34 ∷ []) r in
    (w, (cc), q, omega (arith, length-append w (34 ∷ 34 ∷ [])))

body_end_of : (w r : List ℕ) → list_all is_plain w ≡ true → body_text_end (w ++ 34 ∷ 34 ∷ r) ≡ Some (length w + 2)
body_end_of w r e =
    let stop : prefix_len is_plain (w ++ 34 ∷ 34 ∷ r) ≡ length w = every_stop is_plain w 34 (34 ∷ r) e refl in
    let behind : drop (length w) (w ++ 34 ∷ 34 ∷ r) ≡ 34 ∷ 34 ∷ r = drop-append_seam w (34 ∷ 34 ∷ r) in
    rw (stop, behind) refl

data AreTwoQuotes (n : ℕ) (xs : List ℕ) (m : ℕ) : Type 0 where
  two : (r : List ℕ) → xs ≡ 34 ∷ 34 ∷ r → m ≡ n + 2 → AreTwoQuotes n xs m

two_quotes_are : (n : ℕ) (xs : List ℕ) (m : ℕ) → two_quotes n xs ≡ Some m → AreTwoQuotes n xs m
two_quotes_are n [] m e = absurd cc
two_quotes_are n (c ∷ []) m e = absurd cc
two_quotes_are n (c ∷ d ∷ bs) m e =
    elim (c == 34) as (λ t. (c == 34) ≡ t → cond t (cond (d == 34) (Some (n + 2)) None) None ≡ Some m → AreTwoQuotes n (c ∷ d ∷ bs) m) [
      | false ↦ λ p h. absurd cc
      | true ↦ λ p.
          elim (d == 34) as (λ t. (d == 34) ≡ t → cond t (Some (n + 2)) None ≡ Some m → AreTwoQuotes n (c ∷ d ∷ bs) m) [
            | false ↦ λ q h. absurd cc
            | true ↦ λ q h.
                let first : c ≡ 34 = eqb-true c 34 p in
                let last : d ≡ 34 = eqb-true d 34 q in
                two bs (rw (first, last) refl) (cc)
          ] refl
    ] refl e

body_text_found : (bs : List ℕ) (o : Option ℕ) → body_text_end bs ≡ o → FoundOrNot MacroBody (34 ∷ 34 ∷ bs) (of_kind kinds.BodyText 2 o)
body_text_found bs None e = λ v r k h i.
    let t = body_ends v r (34 ∷ bs) h (body_only MacroBody v r (34 ∷ bs) k refl h i) in
    let same : bs ≡ t.0 ++ 34 ∷ 34 ∷ r = (let p = t.1 in cc) in
    let f : body_text_end bs ≡ Some (length t.0 + 2) = ap body_text_end same ∙ body_end_of t.0 r t.2 in
    cc
body_text_found bs (Some m) e = elim (two_quotes_are (prefix_len is_plain bs) (drop (prefix_len is_plain bs) bs) m e) [
  | two s h q ↦
      let n = prefix_len is_plain bs in
      let w = take n bs in
      let size : length w ≡ n = length_front n bs (prefix_len-le-length is_plain bs) in
      let item = 34 ∷ 34 ∷ (w ++ 34 ∷ 34 ∷ []) in
      let tail : bs ≡ w ++ 34 ∷ 34 ∷ s = sym (take-append-drop n bs) ∙ ap (λ (z : List ℕ). w ++ z) h in
      let parts : 34 ∷ 34 ∷ bs ≡ item ++ s = ap (λ (z : List ℕ). 34 ∷ 34 ∷ z) (tail ∙ sym (append_assoc w (34 ∷ 34 ∷ []) s)) in
      let count : length item ≡ m + 2 = omega (arith, q, size, length-append w (34 ∷ 34 ∷ [])) in
      record {
        some = omega arith;
        within = omega (arith, count, ap length parts, length-append item s);
        is_item = (refl, subst IsBodyText (sym (cut item s (34 ∷ 34 ∷ bs) (m + 2) parts count).0) (between_pairs w (every_take is_plain bs)));
        best = λ v r k g i.
            let t = body_ends v r (34 ∷ bs) g (body_only MacroBody v r (34 ∷ bs) k refl g i) in
            let same : bs ≡ t.0 ++ 34 ∷ 34 ∷ r = (let p = t.1 in cc) in
            let f : body_text_end bs ≡ Some (length t.0 + 2) = ap body_text_end same ∙ body_end_of t.0 r t.2 in
            let z : m ≡ length t.0 + 2 = cc in
            omega (arith, z, t.3);
      }
]

pub body_string : (bs : List ℕ) → FoundOrNot MacroBody (34 ∷ bs) (string MacroBody (34 ∷ bs))
body_string [] = λ v r k h i.
    let t = body_ends v r [] h (body_only MacroBody v r [] k refl h i) in
    let p = t.1 in cc
body_string (d ∷ bs) =
    elim (d == 34) as (λ t. (d == 34) ≡ t → FoundOrNot MacroBody (34 ∷ d ∷ bs) (cond t (of_kind kinds.BodyText 2 (body_text_end bs)) None)) [
      | true ↦ λ q. (let F : ℕ → Type 0 = λ (z : ℕ). FoundOrNot MacroBody (34 ∷ z ∷ bs) (of_kind kinds.BodyText 2 (body_text_end bs)) in subst F (sym (eqb-true d 34 q)) (body_text_found bs (body_text_end bs) refl))
      | false ↦ λ q. λ v r k h i.
          let t = body_ends v r (d ∷ bs) h (body_only MacroBody v r (d ∷ bs) k refl h i) in
          let p = t.1 in
          let n : d ≡ 34 = cc in
          let z : (d == 34) ≡ true = ap (λ (x : ℕ). x == 34) n in
          cc
    ] refl

pub string_at : (form : Form) (bs : List ℕ) → FoundOrNot form (34 ∷ bs) (string form (34 ∷ bs))
string_at Source bs = source_string bs
string_at MacroBody bs = body_string bs
