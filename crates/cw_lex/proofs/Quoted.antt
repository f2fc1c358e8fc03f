-- Words between apostrophes, and symbols, at the front of a text.
use Rattle.std.proofs.Common.{◌≡◌, ℕ, ◌+◌, ◌≤◌, true, false, cond, ◌==◌, List, [], ◌∷◌, ◌++◌, length, take, drop, Option, Some, None, refl, sym, ap, subst, ◌∙◌, arith, append_assoc}
use Rattle.std.specs.List.{prefix_len}
use Rattle.std.specs.Char.{is_ascii_alphanumeric}
use Rattle.std.proofs.lemmas.Bool.{eqb-true}
use Rattle.std.proofs.lemmas.List.{take-append-drop, length-append}
use Rattle.std.proofs.lemmas.List.Sums.{prefix_len-le-length}
use Rattle.std.proofs.Math.Seq.{take-append_seam, drop-append_seam}
use Rattle.cw_lex.specs.declared.token.Form.{Form}
use Rattle.cw_lex.specs.declared.token.Word.{Word}
use Rattle.cw_lex.specs.declared.token.Word.TheVariants as words
use Rattle.cw_lex.specs.declared.token.TokenKind.{TokenKind}
use Rattle.cw_lex.specs.declared.token.TokenKind.TheVariants as kinds
use Rattle.cw_lex.specs.Items.{is_literal_byte, word_of, quoted, AreSeparators, IsLiteral, of_character, IsItem, HasNoItem}
use Rattle.cw_lex.specs.Found.{worded, quoted_word, closed_word, quoted_or_none}
use Rattle.cw_lex.proofs.Lists.{every_stop, length_front, cut}
use Rattle.cw_lex.proofs.Letters.{word_lettered, lettered_digits}
use Rattle.cw_lex.proofs.Classes.{class_of, is_bare, is_quoted, word_form, name_class, number_class, text_class, body_text_class, symbol_class, item_class}
use Rattle.cw_lex.proofs.Words.{IsWordedAt, worded_at}
use Rattle.cw_lex.proofs.Longest.{IsFoundAt, FoundOrNot}

-- an item that begins with an apostrophe
data QuotedItem (form : Form) (v : List ℕ) : Type 0 where
  a_word : (u : List ℕ) (k : Word) → word_of u ≡ Some k → v ≡ 39 ∷ u ++ 39 ∷ [] → QuotedItem form v
  a_literal : (u gap : List ℕ) (b : ℕ) → word_of u ≡ Some words.Literal → AreSeparators gap → is_literal_byte form b ≡ true → v ≡ (39 ∷ u ++ 39 ∷ []) ++ (gap ++ 40 ∷ b ∷ 41 ∷ []) → QuotedItem form v

three_front : (w u : List ℕ) → class_of w ≡ 0 → class_of (w ++ u) ≡ 3 → ⊥
three_front [] u e f = cc
three_front (c ∷ w) u e f = cc

quoted_literal : (form : Form) (v : List ℕ) → IsLiteral form v → class_of v ≡ 3 → QuotedItem form v
quoted_literal form _ (of_character w gap b p t s l) h = elim (word_form w words.Literal p) [
  | is_bare e q ↦ absurd (three_front w (gap ++ 40 ∷ b ∷ 41 ∷ []) q h)
  | is_quoted u e q k ↦ a_literal u gap b e s l (ap (λ (z : List ℕ). z ++ (gap ++ 40 ∷ b ∷ 41 ∷ [])) q)
]

quoted_item : (form : Form) (v : List ℕ) (k : TokenKind) → IsItem form v k → class_of v ≡ 3 → QuotedItem form v
quoted_item form v (kinds.Word k) i h = elim (word_form v k i) [
  | is_bare e q ↦ absurd cc
  | is_quoted u e p q ↦ a_word u k e p
]
quoted_item form v kinds.Name i h = let q = name_class v i in absurd cc
quoted_item form v kinds.Number i h = let q = number_class v i in absurd cc
quoted_item form v kinds.Text i h = let q = text_class v i.1 in absurd cc
quoted_item form v kinds.BodyText i h = let q = body_text_class v i.1 in absurd cc
quoted_item form v kinds.Literal i h = quoted_literal form v i h
quoted_item form v (kinds.Symbol s) i h = let q = symbol_class v s i in absurd cc

-- the word u between apostrophes, before t, is found
pub quoted_of : (form : Form) (u t : List ℕ) (k : Word) → word_of u ≡ Some k → quoted_word form (39 ∷ (u ++ 39 ∷ t)) ≡ Some (worded form k (length u + 2) (39 ∷ (u ++ 39 ∷ t)))
quoted_of form u t k e =
    let stop : prefix_len is_ascii_alphanumeric (u ++ 39 ∷ t) ≡ length u = every_stop is_ascii_alphanumeric u 39 t (lettered_digits u (word_lettered u k e)) refl in
    let front : take (length u) (u ++ 39 ∷ t) ≡ u = take-append_seam u (39 ∷ t) in
    let behind : drop (length u) (u ++ 39 ∷ t) ≡ 39 ∷ t = drop-append_seam u (39 ∷ t) in
    let part : closed_word form u (length u) (39 ∷ (u ++ 39 ∷ t)) (39 ∷ t) ≡ Some (worded form k (length u + 2) (39 ∷ (u ++ 39 ∷ t))) = ap (λ (o : Option Word). quoted_or_none form o (length u + 2) (39 ∷ (u ++ 39 ∷ t))) e in
    rw (stop, front, behind) part

worded_quoted : (form : Form) (u t : List ℕ) (k : Word) → word_of u ≡ Some k → IsWordedAt form (39 ∷ u ++ 39 ∷ []) t k (worded form k (length u + 2) (39 ∷ (u ++ 39 ∷ t)))
worded_quoted form u t k e =
    let w = 39 ∷ u ++ 39 ∷ [] in
    let d : IsWordedAt form w t k (worded form k (length w) (w ++ t)) = worded_at form w t k (quoted u e) (omega arith) in
    let size : length w ≡ length u + 2 = omega (arith, length-append u (39 ∷ [])) in
    let shape : w ++ t ≡ 39 ∷ (u ++ 39 ∷ t) = ap (λ (z : List ℕ). 39 ∷ z) (append_assoc u (39 ∷ []) t) in
    let F : ℕ → Type 0 = λ (z : ℕ). IsWordedAt form w t k (worded form k z (w ++ t)) in
    let G : List ℕ → Type 0 = λ (z : List ℕ). IsWordedAt form w t k (worded form k (length u + 2) z) in
    subst G shape (subst F size d)

pub same_prefix : (u t x s : List ℕ) (k j : Word) → word_of u ≡ Some k → word_of x ≡ Some j → u ++ 39 ∷ t ≡ x ++ 39 ∷ s → (u ≡ x) × (t ≡ s)
same_prefix u t x s k j e f h =
    let a : prefix_len is_ascii_alphanumeric (u ++ 39 ∷ t) ≡ length u = every_stop is_ascii_alphanumeric u 39 t (lettered_digits u (word_lettered u k e)) refl in
    let b : prefix_len is_ascii_alphanumeric (x ++ 39 ∷ s) ≡ length x = every_stop is_ascii_alphanumeric x 39 s (lettered_digits x (word_lettered x j f)) refl in
    let size : length x ≡ length u = sym b ∙ ap (prefix_len is_ascii_alphanumeric) (sym h) ∙ a in
    let c = cut x (39 ∷ s) (u ++ 39 ∷ t) (length u) h size in
    let front : u ≡ x = sym (take-append_seam u (39 ∷ t)) ∙ c.0 in
    let tail : 39 ∷ t ≡ 39 ∷ s = sym (drop-append_seam u (39 ∷ t)) ∙ c.1 in
    (front, (cc))

item_front : (form : Form) (v r bs : List ℕ) (k : TokenKind) → v ++ r ≡ 39 ∷ bs → IsItem form v k → QuotedItem form v
item_front form v r bs k h i = quoted_item form v k i (item_class form v r 39 bs k h i)

-- the word between the apostrophes of such an item
record WordThere (bs : List ℕ) : Type 0 where
  pub word : List ℕ
  pub rest : List ℕ
  pub kind : Word
  pub is_word : word_of word ≡ Some kind
  pub parts : bs ≡ word ++ 39 ∷ rest

quoted_parts : (u t bs : List ℕ) → (39 ∷ u ++ 39 ∷ []) ++ t ≡ 39 ∷ bs → bs ≡ u ++ 39 ∷ t
quoted_parts u t bs h = let g : (u ++ 39 ∷ []) ++ t ≡ bs = cc in sym g ∙ append_assoc u (39 ∷ []) t

literal_parts : (u gap r bs : List ℕ) (b : ℕ) → ((39 ∷ u ++ 39 ∷ []) ++ (gap ++ 40 ∷ b ∷ 41 ∷ [])) ++ r ≡ 39 ∷ bs → bs ≡ u ++ 39 ∷ (gap ++ 40 ∷ b ∷ 41 ∷ r)
literal_parts u gap r bs b h =
    quoted_parts u (gap ++ 40 ∷ b ∷ 41 ∷ r) bs (ap (λ (z : List ℕ). (39 ∷ u ++ 39 ∷ []) ++ z) (sym (append_assoc gap (40 ∷ b ∷ 41 ∷ []) r)) ∙ sym (append_assoc (39 ∷ u ++ 39 ∷ []) (gap ++ 40 ∷ b ∷ 41 ∷ []) r) ∙ h)

word_there : (form : Form) (v r bs : List ℕ) → v ++ r ≡ 39 ∷ bs → QuotedItem form v → WordThere bs
word_there form v r bs h (a_word u k e p) = record { word = u; rest = r; kind = k; is_word = e; parts = quoted_parts u r bs (ap (λ (z : List ℕ). z ++ r) (sym p) ∙ h) }
word_there form v r bs h (a_literal u gap b e s l p) = record { word = u; rest = gap ++ 40 ∷ b ∷ 41 ∷ r; kind = words.Literal; is_word = e; parts = literal_parts u gap r bs b (ap (λ (z : List ℕ). z ++ r) (sym p) ∙ h) }

quoted_none : (form : Form) (bs : List ℕ) → quoted_word form (39 ∷ bs) ≡ None → HasNoItem form (39 ∷ bs)
quoted_none form bs e v r k h i =
    let t = word_there form v r bs h (item_front form v r bs k h i) in
    let f : quoted_word form (39 ∷ bs) ≡ Some (worded form t.kind (length t.word + 2) (39 ∷ (t.word ++ 39 ∷ t.rest))) = ap (λ (z : List ℕ). quoted_word form (39 ∷ z)) t.parts ∙ quoted_of form t.word t.rest t.kind t.is_word in
    cc

quoted_best : (form : Form) (bs w t : List ℕ) (k : Word) (m : ℕ) → word_of w ≡ Some k → bs ≡ w ++ 39 ∷ t → length w + 2 ≤ m
    → ((gap : List ℕ) (b : ℕ) (r : List ℕ) → k ≡ words.Literal → t ≡ gap ++ 40 ∷ b ∷ 41 ∷ r → AreSeparators gap → is_literal_byte form b ≡ true → length w + 2 + (length gap + 3) ≤ m)
    → (v r : List ℕ) → v ++ r ≡ 39 ∷ bs → QuotedItem form v → length v ≤ m
quoted_best form bs w t k m e q more literal v r h (a_word u j f p) =
    let same = same_prefix u r w t j k f e (sym (quoted_parts u r bs (ap (λ (z : List ℕ). z ++ r) (sym p) ∙ h)) ∙ q) in
    omega (arith, ap length p, ap length same.0, length-append u (39 ∷ []))
quoted_best form bs w t k m e q more literal v r h (a_literal u gap b f s l p) =
    let same = same_prefix u (gap ++ 40 ∷ b ∷ 41 ∷ r) w t words.Literal k f e (sym (literal_parts u gap r bs b (ap (λ (z : List ℕ). z ++ r) (sym p) ∙ h)) ∙ q) in
    let kind : Some k ≡ Some words.Literal = sym e ∙ ap word_of (sym same.0) ∙ f in
    omega (arith, literal gap b r (cc) (sym same.1) s l, ap length p, ap length same.0, length-append (39 ∷ u ++ 39 ∷ []) (gap ++ 40 ∷ b ∷ 41 ∷ []), length-append u (39 ∷ []), length-append gap (40 ∷ b ∷ 41 ∷ []))

word_found : (form : Form) (bs t : List ℕ) (n : ℕ) (k : Word) → n ≤ length bs → word_of (take n bs) ≡ Some k → drop n bs ≡ 39 ∷ t → IsFoundAt form (39 ∷ bs) (worded form k (n + 2) (39 ∷ bs))
word_found form bs t n k l e q =
    let w = take n bs in
    let size : length w ≡ n = length_front n bs l in
    let parts : bs ≡ w ++ 39 ∷ t = sym (take-append-drop n bs) ∙ ap (λ (z : List ℕ). w ++ z) q in
    let item = 39 ∷ w ++ 39 ∷ [] in
    let d0 : IsWordedAt form item t k (worded form k (length w + 2) (39 ∷ (w ++ 39 ∷ t))) = worded_quoted form w t k e in
    let F : ℕ → Type 0 = λ (z : ℕ). IsWordedAt form item t k (worded form k (z + 2) (39 ∷ (w ++ 39 ∷ t))) in
    let G : List ℕ → Type 0 = λ (z : List ℕ). IsWordedAt form item t k (worded form k (n + 2) (39 ∷ z)) in
    let d : IsWordedAt form item t k (worded form k (n + 2) (39 ∷ bs)) = subst G (sym parts) (subst F size d0) in
    let join : item ++ t ≡ 39 ∷ bs = ap (λ (z : List ℕ). 39 ∷ z) (append_assoc w (39 ∷ []) t ∙ sym parts) in
    let count : length item ≡ n + 2 = omega (arith, size, length-append w (39 ∷ [])) in
    let x = worded form k (n + 2) (39 ∷ bs) in
    record {
      some = omega (arith, d.more, count);
      within = omega (arith, d.within, ap length join);
      is_item = subst (λ (z : List ℕ). IsItem form (take x.1 z) x.0) join d.is_item;
      best = λ v r j h i. quoted_best form bs w t k x.1 e parts (omega (arith, d.more, count, size)) (λ gap b s g p f a. omega (arith, d.literal gap b s g p f a, count, size)) v r h (item_front form v r bs j h i);
    }

quoted_word_found : (form : Form) (bs t : List ℕ) (n : ℕ) (o : Option Word) → n ≤ length bs → word_of (take n bs) ≡ o → drop n bs ≡ 39 ∷ t → quoted_word form (39 ∷ bs) ≡ quoted_or_none form o (n + 2) (39 ∷ bs) → FoundOrNot form (39 ∷ bs) (quoted_or_none form o (n + 2) (39 ∷ bs))
quoted_word_found form bs t n None l e q same = quoted_none form bs same
quoted_word_found form bs t n (Some k) l e q same = word_found form bs t n k l e q

closed_found : (form : Form) (bs xs : List ℕ) → drop (prefix_len is_ascii_alphanumeric bs) bs ≡ xs → quoted_word form (39 ∷ bs) ≡ closed_word form (take (prefix_len is_ascii_alphanumeric bs) bs) (prefix_len is_ascii_alphanumeric bs) (39 ∷ bs) xs
    → FoundOrNot form (39 ∷ bs) (closed_word form (take (prefix_len is_ascii_alphanumeric bs) bs) (prefix_len is_ascii_alphanumeric bs) (39 ∷ bs) xs)
closed_found form bs [] q same = quoted_none form bs same
closed_found form bs (x ∷ t) q same =
    let n = prefix_len is_ascii_alphanumeric bs in
    let w = take n bs in
    elim (x == 39) as (λ c. (x == 39) ≡ c → quoted_word form (39 ∷ bs) ≡ cond c (quoted_or_none form (word_of w) (n + 2) (39 ∷ bs)) None → FoundOrNot form (39 ∷ bs) (cond c (quoted_or_none form (word_of w) (n + 2) (39 ∷ bs)) None)) [
      | false ↦ λ p s. quoted_none form bs s
      | true ↦ λ p s. quoted_word_found form bs t n (word_of w) (prefix_len-le-length is_ascii_alphanumeric bs) refl (q ∙ ap (λ (z : ℕ). z ∷ t) (eqb-true x 39 p)) s
    ] refl same

pub quoted_at : (form : Form) (bs : List ℕ) → FoundOrNot form (39 ∷ bs) (quoted_word form (39 ∷ bs))
quoted_at form bs = closed_found form bs (drop (prefix_len is_ascii_alphanumeric bs) bs) refl refl
