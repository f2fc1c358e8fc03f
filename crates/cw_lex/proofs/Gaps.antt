-- The separators between the word LITERAL and its bracket.
use Rattle.std.proofs.Common.{◌≡◌, ℕ, zero, suc, ◌+◌, ◌-◌, ◌≤◌, ◌<◌, Bool, true, false, not, cond, ◌&&◌, ◌==◌, List, [], ◌∷◌, ◌++◌, length, take, drop, Option, Some, refl, sym, ap, subst, ◌∙◌, arith, append_assoc}
use Rattle.std.specs.Prelude.{nat_lt}
use Rattle.std.specs.List.{prefix_len, list_all}
use Rattle.std.specs.Char.{is_ascii_alphanumeric}
use Rattle.std.proofs.lemmas.Bool.{eqb-true, and_parts, lt-ltb, ltb-true}
use Rattle.std.proofs.lemmas.List.{take-append-drop, length-append, drop-drop}
use Rattle.std.proofs.lemmas.List.Sums.{prefix_len-le-length}
use Rattle.std.proofs.lemmas.Bool.Decides.{nat_tests}
use Rattle.std.proofs.Math.Numerals.{one-add}
use Rattle.std.proofs.Math.Seq.{take-append_seam, drop-append_seam}
use Rattle.cw_lex.specs.declared.token.Word.{Word}
use Rattle.cw_lex.specs.declared.token.Word.TheVariants as words
use Rattle.cw_lex.specs.Items.{is_separator, word_of, IsWord, bare, quoted, EndsWord, AreSeparators, no_separator, a_byte, a_comment, not_semicolon}
use Rattle.cw_lex.specs.Found.{is_comment, closed_comment, bare_comment, quoted_comment, comment_word, shut_comment, comment_size, gap_size}
use Rattle.cw_lex.proofs.Lists.{every_prefix, every_stop, length_front, prefix_seam, prefix_front, take_more, cut}
use Rattle.cw_lex.proofs.Letters.{word_lettered, lettered_digits}
use Rattle.cw_lex.proofs.Classes.{class, class_of, class_letter, is_bare, is_quoted, WordForm, word_form}

some_not : (n : ℕ) → 0 < n → (n == 0) ≡ false
some_not n e =
    elim (n == 0) as (λ t. (n == 0) ≡ t → t ≡ false) [
      | false ↦ λ q. refl
      | true ↦ λ q. absurd (omega (arith, e, eqb-true n 0 q))
    ] refl

-- a word with what does not go on with it
pub ends_word : (w rest : List ℕ) → list_all is_ascii_alphanumeric w ≡ true → EndsWord w rest → prefix_len is_ascii_alphanumeric (w ++ rest) ≡ length w
ends_word w rest a e = omega (arith, e, every_prefix is_ascii_alphanumeric w rest a)

pub ends_before : (w gap : List ℕ) (d : ℕ) (t : List ℕ) → is_ascii_alphanumeric d ≡ false → EndsWord w gap → EndsWord w (gap ++ d ∷ t)
ends_before w gap d t n e = rw (sym (append_assoc w gap (d ∷ t)), prefix_seam is_ascii_alphanumeric (w ++ gap) d t n) e

pub ends_front : (w gap t : List ℕ) → EndsWord w (gap ++ t) → EndsWord w gap
ends_front w gap t e = omega (arith, e, prefix_front is_ascii_alphanumeric (w ++ gap) t, ap (prefix_len is_ascii_alphanumeric) (append_assoc w gap t))

-- the word COMMENT is found
not_quote : (c : ℕ) → class c ≡ 0 → (c == 39) ≡ false
not_quote c e =
    elim (c == 39) as (λ t. (c == 39) ≡ t → t ≡ false) [
      | false ↦ λ q. refl
      | true ↦ λ q. absurd (let z : class c ≡ 3 = ap class (eqb-true c 39 q) in cc)
    ] refl

bare_comment_of : (w rest : List ℕ) → word_of w ≡ Some words.Comment → EndsWord w rest → bare_comment (w ++ rest) ≡ length w
bare_comment_of w rest e h =
    let n : prefix_len is_ascii_alphanumeric (w ++ rest) ≡ length w = ends_word w rest (lettered_digits w (word_lettered w words.Comment e)) h in
    let t : take (length w) (w ++ rest) ≡ w = take-append_seam w rest in
    rw (n, t, e) refl

bare_word_of : (w rest : List ℕ) → word_of w ≡ Some words.Comment → class_of w ≡ 0 → EndsWord w rest → comment_word (w ++ rest) ≡ length w
bare_word_of [] rest e c h = absurd cc
bare_word_of (c ∷ w) rest e k h = rw (not_quote c k) (bare_comment_of (c ∷ w) rest e h)

quoted_comment_of : (u rest : List ℕ) → word_of u ≡ Some words.Comment → quoted_comment (u ++ 39 ∷ rest) ≡ length u + 2
quoted_comment_of u rest e =
    let n : prefix_len is_ascii_alphanumeric (u ++ 39 ∷ rest) ≡ length u = every_stop is_ascii_alphanumeric u 39 rest (lettered_digits u (word_lettered u words.Comment e)) refl in
    let t : take (length u) (u ++ 39 ∷ rest) ≡ u = take-append_seam u (39 ∷ rest) in
    let d : drop (length u) (u ++ 39 ∷ rest) ≡ 39 ∷ rest = drop-append_seam u (39 ∷ rest) in
    rw (n, t, d, e) refl

comment_word_of : (w rest : List ℕ) → WordForm w words.Comment → EndsWord w rest → comment_word (w ++ rest) ≡ length w
comment_word_of w rest (is_bare e c) h = bare_word_of w rest e c h
comment_word_of w rest (is_quoted u e q c) h =
    let shape : w ++ rest ≡ 39 ∷ (u ++ 39 ∷ rest) = ap (λ (z : List ℕ). z ++ rest) q ∙ ap (λ (z : List ℕ). 39 ∷ z) (append_assoc u (39 ∷ []) rest) in
    let size : length w ≡ length u + 2 = omega (arith, ap length q, length-append u (39 ∷ [])) in
    ap comment_word shape ∙ quoted_comment_of u rest e ∙ sym size

word_some : (w : List ℕ) (k : Word) → WordForm w k → 0 < length w
word_some [] k (is_bare e c) = absurd cc
word_some (x ∷ w) k (is_bare e c) = omega arith
word_some w k (is_quoted u e q c) = omega (arith, ap length q)

comment_size_of : (w body t : List ℕ) → IsWord w words.Comment → EndsWord w body → list_all not_semicolon body ≡ true → comment_size (w ++ (body ++ 59 ∷ t)) ≡ length w + length body + 1
comment_size_of w body t i h a =
    let form = word_form w words.Comment i in
    let n : comment_word (w ++ (body ++ 59 ∷ t)) ≡ length w = comment_word_of w (body ++ 59 ∷ t) form (ends_before w body 59 t refl h) in
    let d : drop (length w) (w ++ (body ++ 59 ∷ t)) ≡ body ++ 59 ∷ t = drop-append_seam w (body ++ 59 ∷ t) in
    let some : (length w == 0) ≡ false = some_not (length w) (word_some w words.Comment form) in
    let stop : prefix_len not_semicolon (body ++ 59 ∷ t) ≡ length body = every_stop not_semicolon body 59 t a refl in
    let less : nat_lt (length body) (length (body ++ 59 ∷ t)) ≡ true = lt-ltb (length body) (length (body ++ 59 ∷ t)) (omega (arith, length-append body (59 ∷ t))) in
    rw (n, d, some, stop, less) refl

-- the length of separators
pub gap_within : (n : ℕ) (bs : List ℕ) → gap_size n bs ≤ length bs
gap_within n [] = omega arith
gap_within (suc n) (b ∷ bs) = omega (arith, gap_within n bs)
gap_within zero (b ∷ bs) = go (is_separator b) (comment_size (b ∷ bs) == 0) (gap_size 0 bs) (gap_size (comment_size (b ∷ bs) - 1) bs) (gap_within 0 bs) (gap_within (comment_size (b ∷ bs) - 1) bs)
  where
    go : (s c : Bool) (i j : ℕ) → i ≤ length bs → j ≤ length bs → cond s (1 + i) (cond c 0 (1 + j)) ≤ suc (length bs)
    go true c i j h k = omega (arith, h)
    go false true i j h k = omega arith
    go false false i j h k = omega (arith, k)

pub gap_inside : (n : ℕ) (bs : List ℕ) → n ≤ length bs → gap_size n bs ≡ n + gap_size 0 (drop n bs)
gap_inside zero bs h = omega arith
gap_inside (suc n) [] h = absurd (omega (arith, h))
gap_inside (suc n) (b ∷ bs) h = omega (arith, gap_inside n bs (omega (arith, h)))

pub gap_byte : (b : ℕ) (bs : List ℕ) → is_separator b ≡ true → gap_size 0 (b ∷ bs) ≡ 1 + gap_size 0 bs
gap_byte b bs e = rw e refl

pub gap_comment : (b : ℕ) (bs : List ℕ) → is_separator b ≡ false → (comment_size (b ∷ bs) == 0) ≡ false → comment_size (b ∷ bs) ≤ length (b ∷ bs) → gap_size 0 (b ∷ bs) ≡ comment_size (b ∷ bs) + gap_size 0 (drop (comment_size (b ∷ bs)) (b ∷ bs))
gap_comment b bs s e h = rw (s, e) (go (comment_size (b ∷ bs)) e h)
  where
    go : (n : ℕ) → (n == 0) ≡ false → n ≤ length (b ∷ bs) → 1 + gap_size (n - 1) bs ≡ n + gap_size 0 (drop n (b ∷ bs))
    go zero e h = absurd cc
    go (suc n) e h = (let z : suc n - 1 ≡ n = omega arith in rw z (omega (arith, gap_inside n bs (omega (arith, h)))))

pub gap_ends : (b : ℕ) (bs : List ℕ) → is_separator b ≡ false → comment_size (b ∷ bs) ≡ 0 → gap_size 0 (b ∷ bs) ≡ 0
gap_ends b bs s e = (let z : (comment_size (b ∷ bs) == 0) ≡ true = ap (λ (n : ℕ). n == 0) e in rw (s, z) refl)

-- no word begins with a separator
form_front : (w : List ℕ) (k : Word) (c : ℕ) (bs : List ℕ) → WordForm w k → w ≡ c ∷ bs → is_separator c ≡ false
form_front w k c bs (is_bare e a) h = letter_front c (sym (ap class_of h) ∙ a)
  where
    letter_front : (c : ℕ) → class c ≡ 0 → is_separator c ≡ false
    letter_front c a = (let h = class_letter c a in grind (arith, nat_tests, h))
form_front w k c bs (is_quoted u e q a) h = (let n : c ≡ 39 = cc in rw n refl)

gap_of_comment : (w body rest : List ℕ) → IsWord w words.Comment → EndsWord w body → list_all not_semicolon body ≡ true → gap_size 0 (w ++ (body ++ 59 ∷ rest)) ≡ length w + (length body + 1 + gap_size 0 rest)
gap_of_comment [] body rest i h a = absurd (omega (arith, word_some [] words.Comment (word_form [] words.Comment i)))
gap_of_comment (c ∷ w) body rest i h a =
    let size : comment_size (c ∷ (w ++ (body ++ 59 ∷ rest))) ≡ length (c ∷ w) + length body + 1 = comment_size_of (c ∷ w) body rest i h a in
    let whole : (c ∷ w) ++ (body ++ 59 ∷ rest) ≡ ((c ∷ w) ++ (body ++ 59 ∷ [])) ++ rest = sym (append_assoc (c ∷ w) (body ++ 59 ∷ []) rest ∙ ap (λ (z : List ℕ). (c ∷ w) ++ z) (append_assoc body (59 ∷ []) rest)) in
    let count : length ((c ∷ w) ++ (body ++ 59 ∷ [])) ≡ length (c ∷ w) + length body + 1 = omega (arith, length-append (c ∷ w) (body ++ 59 ∷ []), length-append body (59 ∷ [])) in
    let part = cut ((c ∷ w) ++ (body ++ 59 ∷ [])) rest ((c ∷ w) ++ (body ++ 59 ∷ rest)) (length (c ∷ w) + length body + 1) whole count in
    let some : (comment_size (c ∷ (w ++ (body ++ 59 ∷ rest))) == 0) ≡ false = some_not (comment_size (c ∷ (w ++ (body ++ 59 ∷ rest)))) (omega (arith, size)) in
    let within : comment_size (c ∷ (w ++ (body ++ 59 ∷ rest))) ≤ length (c ∷ (w ++ (body ++ 59 ∷ rest))) = omega (arith, size, ap length whole, count, length-append ((c ∷ w) ++ (body ++ 59 ∷ [])) rest) in
    let g = gap_comment c (w ++ (body ++ 59 ∷ rest)) (form_front (c ∷ w) words.Comment c w (word_form (c ∷ w) words.Comment i) refl) some within in
    let behind : drop (comment_size (c ∷ (w ++ (body ++ 59 ∷ rest)))) (c ∷ (w ++ (body ++ 59 ∷ rest))) ≡ rest = rw size part.1 in
    omega (arith, g, size, ap (gap_size 0) behind)

bracket_stops : (t : List ℕ) → gap_size 0 (40 ∷ t) ≡ 0
unfolding word_of
bracket_stops t = refl

-- Separators are found up to a bracket.
pub gap_of : {gap : List ℕ} (t : List ℕ) → AreSeparators gap → gap_size 0 (gap ++ 40 ∷ t) ≡ length gap
gap_of t no_separator = bracket_stops t
gap_of t (a_byte {b = b} {rest = rest} e s) = omega (arith, gap_byte b (rest ++ 40 ∷ t) e, gap_of t s)
gap_of t (a_comment w body {rest = rest} i h a s) =
    let shape : (w ++ (body ++ 59 ∷ rest)) ++ 40 ∷ t ≡ w ++ (body ++ 59 ∷ (rest ++ 40 ∷ t)) = append_assoc w (body ++ 59 ∷ rest) (40 ∷ t) ∙ ap (λ (z : List ℕ). w ++ z) (append_assoc body (59 ∷ rest) (40 ∷ t)) in
    omega (arith, ap (gap_size 0) shape, gap_of_comment w body (rest ++ 40 ∷ t) i h a, gap_of t s, length-append w (body ++ 59 ∷ rest), length-append body (59 ∷ rest))

-- the word COMMENT that was found
record IsCommentWord (bs : List ℕ) (n : ℕ) : Type 0 where
  word : List ℕ
  rest : List ℕ
  parts : bs ≡ word ++ rest
  is_word : IsWord word words.Comment
  ends : EndsWord word rest
  size : length word ≡ n

is_comment_only : (o : Option Word) → is_comment o ≡ true → o ≡ Some words.Comment
is_comment_only (Some words.Comment) e = refl
is_comment_only o e = absurd cc

bare_comment_is : (bs : List ℕ) → 0 < bare_comment bs → IsCommentWord bs (bare_comment bs)
bare_comment_is bs =
    let n = prefix_len is_ascii_alphanumeric bs in
    let o = word_of (take n bs) in
    elim (is_comment o) as (λ t. is_comment o ≡ t → 0 < cond t n 0 → IsCommentWord bs (cond t n 0)) [
      | false ↦ λ e h. absurd (omega (arith, h))
      | true ↦ λ e h.
          let within : n ≤ length bs = prefix_len-le-length is_ascii_alphanumeric bs in
          let size : length (take n bs) ≡ n = length_front n bs within in
          record {
            word = take n bs;
            rest = drop n bs;
            parts = sym (take-append-drop n bs);
            is_word = bare (take n bs) (is_comment_only o e);
            ends = omega (arith, size, ap (prefix_len is_ascii_alphanumeric) (take-append-drop n bs));
            size = size;
          }
    ] refl

closed_comment_is : (bs : List ℕ) (n : ℕ) (xs : List ℕ) → n ≤ length bs → drop n bs ≡ xs → 0 < closed_comment n (is_comment (word_of (take n bs))) xs → IsCommentWord (39 ∷ bs) (closed_comment n (is_comment (word_of (take n bs))) xs)
closed_comment_is bs n [] l d h = absurd (omega (arith, h))
closed_comment_is bs n (c ∷ t) l d h =
    let o = word_of (take n bs) in
    elim ((c == 39) && is_comment o) as (λ b. ((c == 39) && is_comment o) ≡ b → 0 < cond b (n + 2) 0 → IsCommentWord (39 ∷ bs) (cond b (n + 2) 0)) [
      | false ↦ λ e h. absurd (omega (arith, h))
      | true ↦ λ e h.
          let p = and_parts (c == 39) (is_comment o) e in
          let u = take n bs in
          let size : length u ≡ n = length_front n bs l in
          let tail : bs ≡ u ++ 39 ∷ t = sym (take-append-drop n bs) ∙ ap (λ (z : List ℕ). u ++ z) (d ∙ ap (λ (z : ℕ). z ∷ t) (eqb-true c 39 p.0)) in
          record {
            word = 39 ∷ u ++ 39 ∷ [];
            rest = t;
            parts = ap (λ (z : List ℕ). 39 ∷ z) (tail ∙ sym (append_assoc u (39 ∷ []) t));
            is_word = quoted u (is_comment_only o p.1);
            ends = omega arith;
            size = omega (arith, size, length-append u (39 ∷ []));
          }
    ] refl h

comment_word_is : (bs : List ℕ) → 0 < comment_word bs → IsCommentWord bs (comment_word bs)
comment_word_is [] h = absurd (omega (arith, h))
comment_word_is (c ∷ bs) h =
    elim (c == 39) as (λ t. (c == 39) ≡ t → 0 < cond t (quoted_comment bs) (bare_comment (c ∷ bs)) → IsCommentWord (c ∷ bs) (cond t (quoted_comment bs) (bare_comment (c ∷ bs)))) [
      | true ↦ λ e h. (let n = prefix_len is_ascii_alphanumeric bs in subst (λ (z : ℕ). IsCommentWord (z ∷ bs) (quoted_comment bs)) (sym (eqb-true c 39 e)) (closed_comment_is bs n (drop n bs) (prefix_len-le-length is_ascii_alphanumeric bs) refl h))
      | false ↦ λ e h. bare_comment_is (c ∷ bs) h
    ] refl h

-- the comment that was found
record IsComment (bs : List ℕ) (n : ℕ) : Type 0 where
  word : List ℕ
  body : List ℕ
  rest : List ℕ
  parts : bs ≡ word ++ (body ++ 59 ∷ rest)
  is_word : IsWord word words.Comment
  ends : EndsWord word body
  no_end : list_all not_semicolon body ≡ true
  size : n ≡ length word + length body + 1

-- a list up to a semicolon
record IsStopped (xs : List ℕ) (n : ℕ) : Type 0 where
  body : List ℕ
  rest : List ℕ
  parts : xs ≡ body ++ 59 ∷ rest
  no_end : list_all not_semicolon body ≡ true
  size : length body ≡ n

stopped : (xs : List ℕ) → prefix_len not_semicolon xs < length xs → IsStopped xs (prefix_len not_semicolon xs)
stopped [] h = absurd (omega (arith, h))
stopped (b ∷ xs) h =
    elim (b == 59) as (λ t. (b == 59) ≡ t → cond (not t) (1 + prefix_len not_semicolon xs) 0 < suc (length xs) → IsStopped (b ∷ xs) (cond (not t) (1 + prefix_len not_semicolon xs) 0)) [
      | true ↦ λ e h. record { body = []; rest = xs; parts = ap (λ (z : ℕ). z ∷ xs) (eqb-true b 59 e); no_end = refl; size = refl }
      | false ↦ λ e h.
          let s = stopped xs (omega (arith, h)) in
          record { body = b ∷ s.body; rest = s.rest; parts = ap (λ (z : List ℕ). b ∷ z) s.parts; no_end = rw (e, s.no_end) refl; size = omega (arith, s.size) }
    ] refl h

comment_size_is : (bs : List ℕ) → 0 < comment_size bs → IsComment bs (comment_size bs)
comment_size_is bs = go (comment_word bs) (λ h. comment_word_is bs h)
  where
    go : (n : ℕ) → (0 < n → IsCommentWord bs n) → 0 < shut_comment n (drop n bs) → IsComment bs (shut_comment n (drop n bs))
    go zero w h = absurd (omega (arith, h))
    go (suc n) w h =
        let c = w (omega arith) in
        let xs = drop (suc n) bs in
        let behind : xs ≡ c.rest = (cut c.word c.rest bs (suc n) c.parts c.size).1 in
        let k = prefix_len not_semicolon xs in
        let some : (suc n == 0) ≡ false = some_not (suc n) (omega arith) in
        rw some (elim (nat_lt k (length xs)) as (λ t. nat_lt k (length xs) ≡ t → 0 < cond t (suc n + k + 1) 0 → IsComment bs (cond t (suc n + k + 1) 0)) [
          | false ↦ λ e h. absurd (omega (arith, h))
          | true ↦ λ e h.
              let s = stopped xs (ltb-true k (length xs) e) in
              record {
                word = c.word;
                body = s.body;
                rest = s.rest;
                parts = c.parts ∙ ap (λ (z : List ℕ). c.word ++ z) (sym behind ∙ s.parts);
                is_word = c.is_word;
                ends = ends_front c.word s.body (59 ∷ s.rest) (subst (EndsWord c.word) (sym behind ∙ s.parts) c.ends);
                no_end = s.no_end;
                size = omega (arith, c.size, s.size);
              }
        ] refl (subst (λ (t : Bool). 0 < cond t 0 (cond (nat_lt k (length xs)) (suc n + k + 1) 0)) some h))

comment_gap : (b : ℕ) (bs : List ℕ) (m : ℕ) → (0 < m → IsComment (b ∷ bs) m) → ((n : ℕ) → n ≤ length bs → AreSeparators (take (gap_size 0 (drop n bs)) (drop n bs))) → AreSeparators (take (cond (m == 0) 0 (1 + gap_size (m - 1) bs)) (b ∷ bs))
comment_gap b bs zero f more = no_separator
comment_gap b bs (suc n) f more =
    let c = f (omega arith) in
    let u = c.word ++ (c.body ++ 59 ∷ []) in
    let parts : b ∷ bs ≡ u ++ c.rest = c.parts ∙ sym (append_assoc c.word (c.body ++ 59 ∷ []) c.rest ∙ ap (λ (z : List ℕ). c.word ++ z) (append_assoc c.body (59 ∷ []) c.rest)) in
    let size : length u ≡ suc n = omega (arith, c.size, length-append c.word (c.body ++ 59 ∷ []), length-append c.body (59 ∷ [])) in
    let behind : drop n bs ≡ c.rest = (cut u c.rest (b ∷ bs) (suc n) parts size).1 in
    let within : n ≤ length bs = omega (arith, ap length parts, size, length-append u c.rest) in
    let k = gap_size 0 c.rest in
    let total : 1 + gap_size n bs ≡ length u + k = omega (arith, gap_inside n bs within, size, ap (gap_size 0) behind) in
    let inner : AreSeparators (take k c.rest) = subst (λ (z : List ℕ). AreSeparators (take (gap_size 0 z) z)) behind (more n within) in
    let shape : u ++ take k c.rest ≡ c.word ++ (c.body ++ 59 ∷ take k c.rest) = append_assoc c.word (c.body ++ 59 ∷ []) (take k c.rest) ∙ ap (λ (z : List ℕ). c.word ++ z) (append_assoc c.body (59 ∷ []) (take k c.rest)) in
    let front : take (1 + gap_size n bs) (b ∷ bs) ≡ c.word ++ (c.body ++ 59 ∷ take k c.rest) = ap (λ (z : ℕ). take z (b ∷ bs)) total ∙ ap (take (length u + k)) parts ∙ take_more u c.rest k ∙ shape in
    let less : suc n - 1 ≡ n = omega arith in
    rw (some_not (suc n) (omega arith), less) (subst AreSeparators (sym front) (a_comment c.word c.body c.is_word c.ends c.no_end inner))

-- What is found is separators.
pub gap_is : (bs : List ℕ) (n : ℕ) → n ≤ length bs → AreSeparators (take (gap_size 0 (drop n bs)) (drop n bs))
gap_is [] n h = subst (λ (z : List ℕ). AreSeparators (take (gap_size 0 z) z)) (sym (empty n)) no_separator
  where
    empty : (n : ℕ) → ◌≡◌ {A = List ℕ} (drop n []) []
    empty zero = refl
    empty (suc n) = refl
gap_is (b ∷ bs) (suc n) h = gap_is bs n (omega (arith, h))
gap_is (b ∷ bs) zero h =
    elim (is_separator b) as (λ t. is_separator b ≡ t → AreSeparators (take (cond t (1 + gap_size 0 bs) (cond (comment_size (b ∷ bs) == 0) 0 (1 + gap_size (comment_size (b ∷ bs) - 1) bs))) (b ∷ bs))) [
      | true ↦ λ e. rw one-add (a_byte e (gap_is bs 0 (omega arith)))
      | false ↦ λ e. comment_gap b bs (comment_size (b ∷ bs)) (λ h. comment_size_is (b ∷ bs) h) (gap_is bs)
    ] refl

gap_skip : (xs : List ℕ) → 0 < comment_size xs → gap_size 0 xs ≡ comment_size xs + gap_size 0 (drop (comment_size xs) xs)
gap_skip xs h =
    let c = comment_size_is xs h in
    let u = c.word ++ (c.body ++ 59 ∷ []) in
    let parts : xs ≡ u ++ c.rest = c.parts ∙ sym (append_assoc c.word (c.body ++ 59 ∷ []) c.rest ∙ ap (λ (z : List ℕ). c.word ++ z) (append_assoc c.body (59 ∷ []) c.rest)) in
    let size : length u ≡ comment_size xs = omega (arith, c.size, length-append c.word (c.body ++ 59 ∷ []), length-append c.body (59 ∷ [])) in
    let behind : drop (comment_size xs) xs ≡ c.rest = (cut u c.rest xs (comment_size xs) parts size).1 in
    omega (arith, c.size, ap (gap_size 0) c.parts, gap_of_comment c.word c.body c.rest c.is_word c.ends c.no_end, ap (gap_size 0) behind)

-- a comment more, in the loop over a text
pub gap_step : (bs : List ℕ) (at n : ℕ) → n ≡ comment_size (drop at bs) → 0 < n → gap_size 0 bs ≡ at + gap_size 0 (drop at bs) → gap_size 0 bs ≡ at + n + gap_size 0 (drop (at + n) bs)
gap_step bs at n e some same =
    let more : gap_size 0 (drop at bs) ≡ comment_size (drop at bs) + gap_size 0 (drop (comment_size (drop at bs)) (drop at bs)) = gap_skip (drop at bs) (omega (arith, e, some)) in
    let behind : drop (comment_size (drop at bs)) (drop at bs) ≡ drop (at + n) bs = ap (λ (z : ℕ). drop z (drop at bs)) (sym e) ∙ drop_twice in
    omega (arith, same, more, e, ap (gap_size 0) behind)
  where
    drop_twice : drop n (drop at bs) ≡ drop (at + n) bs
    drop_twice = grind (arith, drop-drop)
