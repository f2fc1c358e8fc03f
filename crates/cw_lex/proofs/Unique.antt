-- A text has one list of tokens or one first fault.
use Rattle.std.proofs.Common.{◌≡◌, ℕ, suc, ◌+◌, ◌<◌, ◌==◌, inl, inr, Bool, true, false, cond, ◌&&◌, List, [], ◌∷◌, ◌++◌, length, take, drop, Option, Some, None, Ok, Err, refl, sym, ap, subst, ◌∙◌, append_assoc, arith}
use Rattle.std.specs.Prelude.{nat_lt}
use Rattle.std.specs.List.{prefix_len, list_all}
use Rattle.std.proofs.lemmas.Bool.{and_parts, eqb-true, or_cases, lt-ltb, le-ltb}
use Rattle.std.proofs.lemmas.List.{take-append-drop, take-append-le, length-append, append-nil}
use Rattle.std.proofs.Math.Seq.{take-append_seam, drop-append_seam}
use Rattle.std.specs.Char.{is_ascii_alphanumeric}
use Rattle.std.proofs.lemmas.Bool.Decides.{nat_tests}
use Rattle.cw_lex.specs.declared.token.Form.{Form}
use Rattle.cw_lex.specs.declared.token.Form.TheVariants.{Source, MacroBody}
use Rattle.cw_lex.specs.declared.token.Word.{Word}
use Rattle.cw_lex.specs.declared.token.Word.TheVariants as words
use Rattle.cw_lex.specs.declared.token.Symbol.TheVariants as symbols
use Rattle.cw_lex.specs.declared.token.TokenKind.{TokenKind}
use Rattle.cw_lex.specs.declared.token.TokenKind.TheVariants as kinds
use Rattle.cw_lex.specs.declared.token.Problem.{Problem}
use Rattle.cw_lex.specs.declared.token.Problem.TheVariants.{BadNumber, LongName, OpenComment}
use Rattle.cw_lex.specs.declared.token.LexFault.{LexFault}
use Rattle.cw_lex.specs.Items.{is_separator, word_of, IsWord, IsLiteral, of_character, IsIdentifier, letter_first, IsItem, IsLongest, HasNoItem, keeps_limit, not_semicolon, IsBracketed}
use Rattle.cw_lex.specs.Found.{FoundItem, PieceResult, found, piece, piece_of, comment_from, limited, missing, bracket_piece, bracket_end}
use Rattle.cw_lex.specs.Lexical.{Lexeme, Place, line_behind, at_behind, is_after_semicolon, fault_at, lexemes, IsGap, separator, comment, bracket_comment, IsMissing, at_point, at_quote, at_single_quote, at_other, IsWrong, no_item, long_name, long_number, open_comment, open_bracket, is_token, Lexes, at_end, a_gap, a_token, Fails, here, behind_gap, behind_token}
use Rattle.cw_lex.proofs.Lists.{every_stop, every_all, length_front}
use Rattle.cw_lex.proofs.Longest.{FoundOrNot}
use Rattle.cw_lex.proofs.Letters.{word_lettered, lettered_digits}
use Rattle.cw_lex.proofs.Quoted.{same_prefix}
use Rattle.cw_lex.proofs.Classes.{class, class_of, class_append, item_class, WordForm, is_bare, is_quoted, word_form, name_class, number_class, text_class, body_text_class, symbol_class, literal_class}
use Rattle.cw_lex.proofs.Marks.{found_is, symbol_only}
use Rattle.cw_lex.proofs.Matching.{Shuts, ShutsAt, shut, never, bracket_end_is, shuts_bracketed, bracketed_shuts}

-- no item begins with a separator
found_none : (form : Form) (n c : ℕ) (bs : List ℕ) → c ≡ n → found form (n ∷ bs) ≡ None → found form (c ∷ bs) ≡ None
found_none form n c bs e h = ap (λ (z : ℕ). found form (z ∷ bs)) e ∙ h

blank_found : (form : Form) (c : ℕ) (bs : List ℕ) → is_separator c ≡ true → found form (c ∷ bs) ≡ None
blank_found form c [] e =
    elim (or_cases (c == 32) _ e) [
      | inl h ↦ found_none form 32 c [] (eqb-true c 32 h) refl
      | inr h ↦ elim (or_cases (c == 9) _ h) [
        | inl h ↦ found_none form 9 c [] (eqb-true c 9 h) refl
        | inr h ↦ elim (or_cases (c == 13) _ h) [
          | inl h ↦ found_none form 13 c [] (eqb-true c 13 h) refl
          | inr h ↦ elim (or_cases (c == 12) _ h) [
            | inl h ↦ found_none form 12 c [] (eqb-true c 12 h) refl
            | inr h ↦ found_none form 10 c [] (eqb-true c 10 h) refl
          ]
        ]
      ]
    ]
blank_found form c (d ∷ bs) e =
    elim (or_cases (c == 32) _ e) [
      | inl h ↦ found_none form 32 c (d ∷ bs) (eqb-true c 32 h) refl
      | inr h ↦ elim (or_cases (c == 9) _ h) [
        | inl h ↦ found_none form 9 c (d ∷ bs) (eqb-true c 9 h) refl
        | inr h ↦ elim (or_cases (c == 13) _ h) [
          | inl h ↦ found_none form 13 c (d ∷ bs) (eqb-true c 13 h) refl
          | inr h ↦ elim (or_cases (c == 12) _ h) [
            | inl h ↦ found_none form 12 c (d ∷ bs) (eqb-true c 12 h) refl
            | inr h ↦ found_none form 10 c (d ∷ bs) (eqb-true c 10 h) refl
          ]
        ]
      ]
    ]

blank_no_item : (form : Form) (c : ℕ) (bs : List ℕ) → is_separator c ≡ true → HasNoItem form (c ∷ bs)
blank_no_item form c bs e = subst (FoundOrNot form (c ∷ bs)) (blank_found form c bs e) (found_is form c bs)

-- An item has one kind.
word_letters : (w : List ℕ) (k : Word) → word_of w ≡ Some k → list_all is_ascii_alphanumeric w ≡ true
word_letters w k e = lettered_digits w (word_lettered w k e)

no_bracket : (u t : List ℕ) → list_all is_ascii_alphanumeric (u ++ 40 ∷ t) ≡ true → ⊥
no_bracket [] t e = cc
no_bracket (x ∷ u) t e = no_bracket u t (and_parts (is_ascii_alphanumeric x) (list_all is_ascii_alphanumeric (u ++ 40 ∷ t)) e).1

no_literal_word : (form : Form) (w v : List ℕ) (k : Word) → v ≡ w → IsWord w k → IsLiteral form v → ⊥
no_literal_word form w v k h p (of_character x gap b q n s l) = go (word_form w k p) (word_form x words.Literal q)
  where
    go : WordForm w k → WordForm x words.Literal → ⊥
    go (is_bare e c) f =
        let shape : (x ++ gap) ++ 40 ∷ b ∷ 41 ∷ [] ≡ w = append_assoc x gap (40 ∷ b ∷ 41 ∷ []) ∙ h in
        no_bracket (x ++ gap) (b ∷ 41 ∷ []) (ap (list_all is_ascii_alphanumeric) shape ∙ word_letters w k e)
    go (is_quoted u e g c) (is_bare f d) = (let z : class_of w ≡ 0 = sym (ap class_of h) ∙ class_append x (gap ++ 40 ∷ b ∷ 41 ∷ []) 0 d (omega arith) in cc)
    go (is_quoted u e g c) (is_quoted y f d a) =
        let shape : y ++ 39 ∷ (gap ++ 40 ∷ b ∷ 41 ∷ []) ≡ u ++ 39 ∷ [] = (let m : (39 ∷ (y ++ 39 ∷ [])) ++ (gap ++ 40 ∷ b ∷ 41 ∷ []) ≡ 39 ∷ (u ++ 39 ∷ []) = ap (λ (z : List ℕ). z ++ (gap ++ 40 ∷ b ∷ 41 ∷ [])) (sym d) ∙ h ∙ g in
        let n : (y ++ 39 ∷ []) ++ (gap ++ 40 ∷ b ∷ 41 ∷ []) ≡ u ++ 39 ∷ [] = cc in sym (append_assoc y (39 ∷ []) (gap ++ 40 ∷ b ∷ 41 ∷ [])) ∙ n) in
        let t = (same_prefix y (gap ++ 40 ∷ b ∷ 41 ∷ []) u [] words.Literal k f e shape).1 in
        nonempty gap t
      where
        nonempty : (g : List ℕ) → g ++ 40 ∷ b ∷ 41 ∷ [] ≡ [] → ⊥
        nonempty [] t = cc
        nonempty (z ∷ g) t = cc

no_literal_name : (form : Form) (w v : List ℕ) → v ≡ w → list_all is_ascii_alphanumeric w ≡ true → IsLiteral form v → ⊥
no_literal_name form w v h a (of_character x gap b q n s l) =
    no_bracket (x ++ gap) (b ∷ 41 ∷ []) (ap (list_all is_ascii_alphanumeric) (append_assoc x gap (40 ∷ b ∷ 41 ∷ []) ∙ h) ∙ a)

name_none : (w : List ℕ) → IsIdentifier w → word_of w ≡ None
name_none _ (letter_first e a n) = n

name_letters : (w : List ℕ) → IsIdentifier w → list_all is_ascii_alphanumeric w ≡ true
name_letters _ (letter_first {c = c} {w = w} e a n) = (let h : is_ascii_alphanumeric c ≡ true = grind (arith, nat_tests, e) in rw (h, a) refl)

one_word : (w : List ℕ) (j k : Word) → WordForm w j → WordForm w k → j ≡ k
one_word w j k (is_bare e c) (is_bare f d) = cc
one_word w j k (is_bare e c) (is_quoted u f g d) = absurd cc
one_word w j k (is_quoted u e g c) (is_bare f d) = absurd cc
one_word w j k (is_quoted u e g c) (is_quoted x f h d) =
    let shape : u ++ 39 ∷ [] ≡ x ++ 39 ∷ [] = (let m : 39 ∷ (u ++ 39 ∷ []) ≡ 39 ∷ (x ++ 39 ∷ []) = sym g ∙ h in cc) in
    let same = (same_prefix u [] x [] j k e f shape).0 in
    let both : Some j ≡ Some k = sym e ∙ ap word_of same ∙ f in cc

no_name_word : (w : List ℕ) (k : Word) → WordForm w k → IsIdentifier w → ⊥
no_name_word w k (is_bare e c) i = (let n = name_none w i in cc)
no_name_word w k (is_quoted u e g c) i = (let n = name_class w i in cc)

word_not : (w : List ℕ) (j : Word) (n : ℕ) → WordForm w j → class_of w ≡ n → (n ≡ 0 → ⊥) → (n ≡ 3 → ⊥) → ⊥
word_not w j n (is_bare e c) h a b = a (sym h ∙ c)
word_not w j n (is_quoted u e g c) h a b = b (sym h ∙ c)

word_kind : (form : Form) (w : List ℕ) (j : Word) (k : TokenKind) → IsWord w j → IsItem form w k → kinds.Word j ≡ k
word_kind form w j (kinds.Word k) p i = ap kinds.Word (one_word w j k (word_form w j p) (word_form w k i))
word_kind form w j kinds.Name p i = absurd (no_name_word w j (word_form w j p) i)
word_kind form w j kinds.Number p i = absurd (word_not w j 1 (word_form w j p) (number_class w i) (λ e. cc) (λ e. cc))
word_kind form w j kinds.Text p i = absurd (word_not w j 2 (word_form w j p) (text_class w i.1) (λ e. cc) (λ e. cc))
word_kind form w j kinds.BodyText p i = absurd (word_not w j 2 (word_form w j p) (body_text_class w i.1) (λ e. cc) (λ e. cc))
word_kind form w j kinds.Literal p i = absurd (no_literal_word form w w j refl p i)
word_kind form w j (kinds.Symbol s) p i = absurd (word_not w j 4 (word_form w j p) (symbol_class w s i) (λ e. cc) (λ e. cc))

literal_not : (form : Form) (w : List ℕ) (n : ℕ) → IsLiteral form w → class_of w ≡ n → (n ≡ 0 → ⊥) → (n ≡ 3 → ⊥) → ⊥
literal_not form w n l h a b = elim (literal_class form w l) [ inl c ↦ a (sym h ∙ c) | inr c ↦ b (sym h ∙ c) ]

one_kind : (form : Form) (w : List ℕ) (j k : TokenKind) → IsItem form w j → IsItem form w k → j ≡ k
one_kind form w (kinds.Word j) k p i = word_kind form w j k p i
one_kind form w j (kinds.Word k) p i = sym (word_kind form w k j i p)
one_kind form w kinds.Name kinds.Name p i = refl
one_kind form w kinds.Name kinds.Number p i = (let c = name_class w p in let d = number_class w i in absurd cc)
one_kind form w kinds.Name kinds.Text p i = (let c = name_class w p in let d = text_class w i.1 in absurd cc)
one_kind form w kinds.Name kinds.BodyText p i = (let c = name_class w p in let d = body_text_class w i.1 in absurd cc)
one_kind form w kinds.Name kinds.Literal p i = absurd (no_literal_name form w w refl (name_letters w p) i)
one_kind form w kinds.Name (kinds.Symbol s) p i = (let c = name_class w p in let d = symbol_class w s i in absurd cc)
one_kind form w kinds.Number kinds.Name p i = (let c = name_class w i in let d = number_class w p in absurd cc)
one_kind form w kinds.Number kinds.Number p i = refl
one_kind form w kinds.Number kinds.Text p i = (let c = number_class w p in let d = text_class w i.1 in absurd cc)
one_kind form w kinds.Number kinds.BodyText p i = (let c = number_class w p in let d = body_text_class w i.1 in absurd cc)
one_kind form w kinds.Number kinds.Literal p i = absurd (literal_not form w 1 i (number_class w p) (λ e. cc) (λ e. cc))
one_kind form w kinds.Number (kinds.Symbol s) p i = (let c = number_class w p in let d = symbol_class w s i in absurd cc)
one_kind form w kinds.Text kinds.Name p i = (let c = name_class w i in let d = text_class w p.1 in absurd cc)
one_kind form w kinds.Text kinds.Number p i = (let c = number_class w i in let d = text_class w p.1 in absurd cc)
one_kind form w kinds.Text kinds.Text p i = refl
one_kind form w kinds.Text kinds.BodyText p i = (let n : Source ≡ MacroBody = sym p.0 ∙ i.0 in absurd cc)
one_kind form w kinds.Text kinds.Literal p i = absurd (literal_not form w 2 i (text_class w p.1) (λ e. cc) (λ e. cc))
one_kind form w kinds.Text (kinds.Symbol s) p i = (let c = text_class w p.1 in let d = symbol_class w s i in absurd cc)
one_kind form w kinds.BodyText kinds.Name p i = (let c = name_class w i in let d = body_text_class w p.1 in absurd cc)
one_kind form w kinds.BodyText kinds.Number p i = (let c = number_class w i in let d = body_text_class w p.1 in absurd cc)
one_kind form w kinds.BodyText kinds.Text p i = (let n : MacroBody ≡ Source = sym p.0 ∙ i.0 in absurd cc)
one_kind form w kinds.BodyText kinds.BodyText p i = refl
one_kind form w kinds.BodyText kinds.Literal p i = absurd (literal_not form w 2 i (body_text_class w p.1) (λ e. cc) (λ e. cc))
one_kind form w kinds.BodyText (kinds.Symbol s) p i = (let c = body_text_class w p.1 in let d = symbol_class w s i in absurd cc)
one_kind form w kinds.Literal kinds.Name p i = absurd (no_literal_name form w w refl (name_letters w i) p)
one_kind form w kinds.Literal kinds.Number p i = absurd (literal_not form w 1 p (number_class w i) (λ e. cc) (λ e. cc))
one_kind form w kinds.Literal kinds.Text p i = absurd (literal_not form w 2 p (text_class w i.1) (λ e. cc) (λ e. cc))
one_kind form w kinds.Literal kinds.BodyText p i = absurd (literal_not form w 2 p (body_text_class w i.1) (λ e. cc) (λ e. cc))
one_kind form w kinds.Literal kinds.Literal p i = refl
one_kind form w kinds.Literal (kinds.Symbol s) p i = absurd (literal_not form w 4 p (symbol_class w s i) (λ e. cc) (λ e. cc))
one_kind form w (kinds.Symbol s) kinds.Name p i = (let c = name_class w i in let d = symbol_class w s p in absurd cc)
one_kind form w (kinds.Symbol s) kinds.Number p i = (let c = number_class w i in let d = symbol_class w s p in absurd cc)
one_kind form w (kinds.Symbol s) kinds.Text p i = (let c = text_class w i.1 in let d = symbol_class w s p in absurd cc)
one_kind form w (kinds.Symbol s) kinds.BodyText p i = (let c = body_text_class w i.1 in let d = symbol_class w s p in absurd cc)
one_kind form w (kinds.Symbol s) kinds.Literal p i = absurd (literal_not form w 4 i (symbol_class w s p) (λ e. cc) (λ e. cc))
one_kind form w (kinds.Symbol s) (kinds.Symbol t) p i = (let n : Some s ≡ Some t = sym p ∙ i in let m : s ≡ t = cc in ap kinds.Symbol m)

-- The longest item is what is found.
longest_found : (form : Form) (w rest : List ℕ) (k : TokenKind) → IsLongest form w rest k → (o : FoundItem) → FoundOrNot form (w ++ rest) o → o ≡ Some (k, length w)
longest_found form w rest k p None h = absurd (h w rest k refl p.is_item)
longest_found form w rest k p (Some (j, n)) h =
    let bs = w ++ rest in
    let front : length (take n bs) ≡ n = length_front n bs h.within in
    let less = p.most (take n bs) (drop n bs) j (take-append-drop n bs) h.is_item in
    let more = h.best w rest k refl p.is_item in
    let size : n ≡ length w = omega arith in
    let part : take n bs ≡ w = rw size (take-append_seam w rest) in
    let kind : j ≡ k = one_kind form w j k (subst (λ (z : List ℕ). IsItem form z j) part h.is_item) p.is_item in
    rw (kind, size) refl

pub found_longest : (form : Form) (w rest : List ℕ) (k : TokenKind) → IsLongest form w rest k → found form (w ++ rest) ≡ Some (k, length w)
found_longest form [] rest k p = absurd (let c : 5 ≡ class 32 = item_class form [] (32 ∷ []) 32 [] k refl p.is_item in cc)
found_longest form (c ∷ w) rest k p = longest_found form (c ∷ w) rest k p (found form (c ∷ (w ++ rest))) (found_is form c (w ++ rest))

-- An item that begins with an opening bracket is that symbol.
bracket_kind : (form : Form) (w : List ℕ) (k : TokenKind) → IsItem form (40 ∷ w) k → k ≡ kinds.Symbol symbols.Open
bracket_kind form [] k i = one_kind form (40 ∷ []) k (kinds.Symbol symbols.Open) i refl
bracket_kind form (d ∷ []) k i = absurd (let s = symbol_only form (40 ∷ d ∷ []) k i (item_class form (40 ∷ d ∷ []) [] 40 (d ∷ []) k refl i) in let e = s.1 in cc)
bracket_kind form (d ∷ x ∷ w) k i = absurd (let s = symbol_only form (40 ∷ d ∷ x ∷ w) k i (item_class form (40 ∷ d ∷ x ∷ w) [] 40 (d ∷ x ∷ w) k (append-nil (40 ∷ d ∷ x ∷ w)) i) in let e = s.1 in cc)

piece_found : (form : Form) (after : Bool) (w rest : List ℕ) (k : TokenKind) → IsLongest form w rest k → (after ≡ true → k ≡ kinds.Symbol symbols.Open → ⊥) → piece form after (w ++ rest) ≡ piece_of form (w ++ rest) (found form (w ++ rest))
unfolding piece
piece_found form after [] rest k p n = absurd (let c : 5 ≡ class 32 = item_class form [] (32 ∷ []) 32 [] k refl p.is_item in cc)
piece_found form after (c ∷ w) rest k p n =
    let bs = w ++ rest in
    elim (is_separator c) as (λ b. is_separator c ≡ b → cond b (Ok (None, 1)) (cond (after && (c == 40)) (bracket_piece (bracket_end 1 0 bs)) (piece_of form (c ∷ bs) (found form (c ∷ bs)))) ≡ piece_of form (c ∷ bs) (found form (c ∷ bs))) [
      | true ↦ λ s. absurd (blank_no_item form c bs s (c ∷ w) rest k refl p.is_item)
      | false ↦ λ s.
          elim (after && (c == 40)) as (λ b. (after && (c == 40)) ≡ b → cond b (bracket_piece (bracket_end 1 0 bs)) (piece_of form (c ∷ bs) (found form (c ∷ bs))) ≡ piece_of form (c ∷ bs) (found form (c ∷ bs))) [
            | false ↦ λ q. refl
            | true ↦ λ q.
                let both = and_parts after (c == 40) q in
                let F : ℕ → Type 0 = λ (z : ℕ). IsItem form (z ∷ w) k in
                absurd (n both.0 (bracket_kind form w k (subst F (eqb-true c 40 both.1) p.is_item)))
          ] refl
    ] refl

pub piece_longest : (form : Form) (after : Bool) (w rest : List ℕ) (k : TokenKind) → IsLongest form w rest k → (after ≡ true → k ≡ kinds.Symbol symbols.Open → ⊥) → piece form after (w ++ rest) ≡ piece_of form (w ++ rest) (Some (k, length w))
piece_longest form after w rest k p n = piece_found form after w rest k p n ∙ ap (piece_of form (w ++ rest)) (found_longest form w rest k p)

limited_true : (k : TokenKind) (n : ℕ) → limited k n true ≡ Ok (Some k, n)
limited_true (kinds.Word k) n = refl
limited_true kinds.Name n = refl
limited_true kinds.Number n = refl
limited_true kinds.Text n = refl
limited_true kinds.BodyText n = refl
limited_true kinds.Literal n = refl
limited_true (kinds.Symbol s) n = refl

token_kept : (form : Form) (after : Bool) (bs w : List ℕ) (k : TokenKind) → take (length w) bs ≡ w → is_token after k ≡ true → keeps_limit k w ≡ true → piece_of form bs (Some (k, length w)) ≡ Ok (Some k, length w)
token_kept form after bs w (kinds.Word words.Comment) h t e = absurd cc
token_kept form after bs w (kinds.Word k) h t e = refl
token_kept form after bs w kinds.Name h t e = rw h (rw e refl)
token_kept form after bs w kinds.Number h t e = ap (limited kinds.Number (length w)) (ap (keeps_limit kinds.Number) h ∙ e)
token_kept form after bs w kinds.Text h t e = refl
token_kept form after bs w kinds.BodyText h t e = refl
token_kept form after bs w kinds.Literal h t e = refl
token_kept form after bs w (kinds.Symbol s) h t e = refl

open_no_token : (after : Bool) (k : TokenKind) → is_token after k ≡ true → after ≡ true → k ≡ kinds.Symbol symbols.Open → ⊥
open_no_token after k t a e = let z : is_token true (kinds.Symbol symbols.Open) ≡ true = rw (a, e) at t in cc

token_piece : (form : Form) (after : Bool) (w rest : List ℕ) (k : TokenKind) → IsLongest form w rest k → is_token after k ≡ true → keeps_limit k w ≡ true → piece form after (w ++ rest) ≡ Ok (Some k, length w)
token_piece form after w rest k p t e = piece_longest form after w rest k p (open_no_token after k t) ∙ token_kept form after (w ++ rest) w k (take-append_seam w rest) t e

comment_longest : (form : Form) (after : Bool) (w rest : List ℕ) → IsLongest form w rest (kinds.Word words.Comment) → piece form after (w ++ rest) ≡ comment_from (length w) rest
comment_longest form after w rest p =
    let behind : drop (length w) (w ++ rest) ≡ rest = drop-append_seam w rest in
    piece_longest form after w rest (kinds.Word words.Comment) p (λ a e. cc) ∙ ap (comment_from (length w)) behind

separator_piece : (form : Form) (after : Bool) (b : ℕ) (rest : List ℕ) → is_separator b ≡ true → piece form after (b ∷ rest) ≡ Ok (None, 1)
unfolding piece
separator_piece form after b rest e = rw e refl

bracket_read : (form : Form) (bs : List ℕ) → piece form true (40 ∷ bs) ≡ bracket_piece (bracket_end 1 0 bs)
unfolding piece
bracket_read form bs = refl

matched_once : (w v r s bs : List ℕ) → w ++ r ≡ bs → v ++ s ≡ bs → Shuts 1 w → Shuts 1 v → length w < length v → ⊥
matched_once w v r s bs h g p q l =
    let front : v ≡ w ++ drop (length w) v = (let t : take (length w) v ≡ w = take_front w v r s bs h g l in sym (take-append-drop (length w) v) ∙ ap (λ (z : List ℕ). z ++ drop (length w) v) t) in
    let less = q.first w (drop (length w) v) (sym front) (λ e. (let n : length v ≡ length w = ap length front ∙ length-append w (drop (length w) v) ∙ (let z : length (drop (length w) v) ≡ 0 = ap length e in omega (arith, z)) in omega (arith, n, l))) in
    omega (arith, less, p.matched)
  where
    take_front : (w v r s bs : List ℕ) → w ++ r ≡ bs → v ++ s ≡ bs → length w < length v → take (length w) v ≡ w
    take_front w v r s bs h g l =
        let a : take (length w) (v ++ s) ≡ take (length w) v = take-append-le (length w) v s (omega arith) in
        let b : take (length w) (w ++ r) ≡ w = take-append_seam w r in
        sym a ∙ ap (take (length w)) (g ∙ sym h) ∙ b

bracket_gap : (w rest : List ℕ) (o : Option ℕ) → Shuts 1 w → ShutsAt 1 0 (w ++ rest) o → bracket_piece o ≡ Ok (None, suc (length w))
bracket_gap w rest _ p (never f) = absurd (f w rest refl p)
bracket_gap w rest _ p (shut n l q) =
    let bs = w ++ rest in
    let size : length (take (suc n) bs) ≡ suc n = length_front (suc n) bs l in
    let one = matched_once w (take (suc n) bs) rest (drop (suc n) bs) bs refl (take-append-drop (suc n) bs) p q in
    let two = matched_once (take (suc n) bs) w (drop (suc n) bs) rest bs (take-append-drop (suc n) bs) refl q p in
    let same : 0 + suc n + 1 ≡ suc (length w) = equal (length w) n size one two in
    ap (λ (z : ℕ). Ok (None, z)) same
  where
    equal : (m n : ℕ) → length (take (suc n) (w ++ rest)) ≡ suc n → (m < length (take (suc n) (w ++ rest)) → ⊥) → (length (take (suc n) (w ++ rest)) < m → ⊥) → 0 + suc n + 1 ≡ suc m
    equal m n e f g = grind (arith, e, f, g)

gap_piece : (form : Form) (after : Bool) (gap rest : List ℕ) → IsGap form after gap rest → piece form after (gap ++ rest) ≡ Ok (None, length gap)
gap_piece form after gap rest (separator {b = b} e) = separator_piece form after b rest e
gap_piece form after gap rest (comment w body p e) =
    let tail = body ++ 59 ∷ rest in
    let shape : (w ++ (body ++ 59 ∷ [])) ++ rest ≡ w ++ tail = append_assoc w (body ++ 59 ∷ []) rest ∙ ap (λ (z : List ℕ). w ++ z) (append_assoc body (59 ∷ []) rest) in
    let size : prefix_len not_semicolon tail ≡ length body = every_stop not_semicolon body 59 rest e refl in
    let less : nat_lt (length body) (length tail) ≡ true = lt-ltb (length body) (length tail) (omega (arith, length-append body (59 ∷ rest))) in
    let total : length w + length body + 1 ≡ length (w ++ (body ++ 59 ∷ [])) = omega (arith, length-append w (body ++ 59 ∷ []), length-append body (59 ∷ [])) in
    let ends : comment_from (length w) tail ≡ Ok (None, length w + length body + 1) = rw (size, less) refl in
    ap (piece form after) shape ∙ comment_longest form after w tail p ∙ ends ∙ ap (λ (n : ℕ). Ok (None, n)) total
gap_piece form after gap rest (bracket_comment {w = w} a p) =
    ap (λ (z : Bool). piece form z (40 ∷ (w ++ rest))) a ∙ bracket_read form (w ++ rest) ∙ bracket_gap w rest (bracket_end 1 0 (w ++ rest)) (bracketed_shuts w p) (bracket_end_is 1 0 (w ++ rest) (omega arith))

missing_of : (form : Form) (p : Problem) (b : ℕ) (bs : List ℕ) → IsMissing form p b bs → missing form (b ∷ bs) ≡ p
missing_of form _ _ bs at_point = refl
missing_of form _ _ bs (at_quote e) = rw e refl
missing_of form _ _ bs (at_single_quote e) = rw e refl
missing_of form _ b bs (at_other e f) = rw (e, f) refl

no_bracket_item : (form : Form) (rest : List ℕ) → HasNoItem form (40 ∷ rest) → ⊥
no_bracket_item form rest h = h (40 ∷ []) rest (kinds.Symbol symbols.Open) refl refl

nothing_found : (form : Form) (b : ℕ) (rest : List ℕ) → HasNoItem form (b ∷ rest) → (o : FoundItem) → FoundOrNot form (b ∷ rest) o → piece_of form (b ∷ rest) o ≡ Err (missing form (b ∷ rest))
nothing_found form b rest h None q = refl
nothing_found form b rest h (Some (k, n)) q = absurd (h (take n (b ∷ rest)) (drop n (b ∷ rest)) k (take-append-drop n (b ∷ rest)) q.is_item)

missing_piece : (form : Form) (after : Bool) (b : ℕ) (rest : List ℕ) → is_separator b ≡ false → HasNoItem form (b ∷ rest) → piece form after (b ∷ rest) ≡ Err (missing form (b ∷ rest))
unfolding piece
missing_piece form after b rest e h =
    let last : piece_of form (b ∷ rest) (found form (b ∷ rest)) ≡ Err (missing form (b ∷ rest)) = nothing_found form b rest h (found form (b ∷ rest)) (found_is form b rest) in
    let inner : cond (after && (b == 40)) (bracket_piece (bracket_end 1 0 rest)) (piece_of form (b ∷ rest) (found form (b ∷ rest))) ≡ Err (missing form (b ∷ rest)) =
    elim (after && (b == 40)) as (λ t. (after && (b == 40)) ≡ t → cond t (bracket_piece (bracket_end 1 0 rest)) (piece_of form (b ∷ rest) (found form (b ∷ rest))) ≡ Err (missing form (b ∷ rest))) [
      | false ↦ λ q. last
      | true ↦ λ q. absurd (let F : ℕ → Type 0 = λ (z : ℕ). HasNoItem form (z ∷ rest) in no_bracket_item form rest (subst F (eqb-true b 40 (and_parts after (b == 40) q).1) h))
    ] refl in
    ap (λ (t : Bool). cond t (Ok (None, 1)) (cond (after && (b == 40)) (bracket_piece (bracket_end 1 0 rest)) (piece_of form (b ∷ rest) (found form (b ∷ rest))))) e ∙ inner

bracket_wrong : (rest : List ℕ) (o : Option ℕ) → ((v r : List ℕ) → v ++ r ≡ rest → IsBracketed (40 ∷ v) → ⊥) → ShutsAt 1 0 rest o → bracket_piece o ≡ Err OpenComment
bracket_wrong rest _ f (never g) = refl
bracket_wrong rest _ f (shut n l q) = absurd (f (take (suc n) rest) (drop (suc n) rest) (take-append-drop (suc n) rest) (shuts_bracketed (take (suc n) rest) q))

name_long : (form : Form) (bs w : List ℕ) → take (length w) bs ≡ w → keeps_limit kinds.Name w ≡ false → piece_of form bs (Some (kinds.Name, length w)) ≡ Err LongName
name_long form bs w h e = ap (limited kinds.Name (length w)) (ap (keeps_limit kinds.Name) h ∙ e)

number_long : (form : Form) (bs w : List ℕ) → take (length w) bs ≡ w → keeps_limit kinds.Number w ≡ false → piece_of form bs (Some (kinds.Number, length w)) ≡ Err BadNumber
number_long form bs w h e = ap (limited kinds.Number (length w)) (ap (keeps_limit kinds.Number) h ∙ e)

wrong_piece : (form : Form) (after : Bool) (p : Problem) (bs : List ℕ) → IsWrong form after p bs → piece form after bs ≡ Err p
wrong_piece form after p bs (no_item {b = b} {rest = rest} e h m) = missing_piece form after b rest e h ∙ ap Err (missing_of form p b rest m)
wrong_piece form after p bs (long_name {w = w} {rest = rest} l e) = piece_longest form after w rest kinds.Name l (λ a q. cc) ∙ name_long form (w ++ rest) w (take-append_seam w rest) e
wrong_piece form after p bs (long_number {w = w} {rest = rest} l e) = piece_longest form after w rest kinds.Number l (λ a q. cc) ∙ number_long form (w ++ rest) w (take-append_seam w rest) e
wrong_piece form after p bs (open_comment {w = w} {rest = rest} l e) =
    let size : prefix_len not_semicolon rest ≡ length rest = every_all not_semicolon rest e in
    let less : nat_lt (length rest) (length rest) ≡ false = le-ltb (length rest) (length rest) (omega arith) in
    let ends : comment_from (length w) rest ≡ Err OpenComment = rw (size, less) refl in
    comment_longest form after w rest l ∙ ends
wrong_piece form after p bs (open_bracket {rest = rest} a f) = ap (λ (z : Bool). piece form z (40 ∷ rest)) a ∙ bracket_read form rest ∙ bracket_wrong rest (bracket_end 1 0 rest) f (bracket_end_is 1 0 rest (omega arith))

-- the first step of a derivation
data Opened (form : Form) (start : Place) (before : List ℕ) (after : Bool) (bs : List ℕ) (us : List Lexeme) : Type 0 where
  is_done : bs ≡ [] → us ≡ [] → Opened form start before after bs us
  is_step : (k : Option TokenKind) (n : ℕ) (vs : List Lexeme) → piece form after bs ≡ Ok (k, n) → us ≡ lexemes k (line_behind start before) (at_behind start before) (take n bs) ++ vs → Lexes form start (before ++ take n bs) (is_after_semicolon k after) (drop n bs) vs → Opened form start before after bs us

seam : (form : Form) (start : Place) (before u rest : List ℕ) (a : Bool) (vs : List Lexeme) → Lexes form start (before ++ u) a rest vs → Lexes form start (before ++ take (length u) (u ++ rest)) a (drop (length u) (u ++ rest)) vs
seam form start before u rest a vs d = rw (take-append_seam u rest, drop-append_seam u rest) d

opened : {form : Form} {start : Place} {before : List ℕ} {after : Bool} {bs : List ℕ} {us : List Lexeme} → Lexes form start before after bs us → Opened form start before after bs us
opened at_end = is_done refl refl
opened {form} {start} (a_gap {before = before} {gap = gap} {rest = rest} {after = after} {ts = ts} g d) = is_step None (length gap) ts (gap_piece form after gap rest g) refl (seam form start before gap rest after ts d)
opened {form} {start} (a_token {before = before} {w = w} {rest = rest} {after = after} {kind = k} {ts = ts} p n e d) = is_step (Some k) (length w) ts (token_piece form after w rest k p n e) (rw take-append_seam refl) (seam form start before w rest (is_after_semicolon (Some k) after) ts d)

same_read : (x y : Option TokenKind × ℕ) (o : PieceResult) → o ≡ Ok x → o ≡ Ok y → x ≡ y
same_read x y o e f = cc

nothing_read : (form : Form) (after : Bool) (x : Option TokenKind × ℕ) → piece form after [] ≡ Ok x → ⊥
unfolding piece
nothing_read form after x e = cc

follows : (form : Form) (start : Place) (before u rest : List ℕ) (after : Bool) (k j : Option TokenKind) (n : ℕ) (vs : List Lexeme) → piece form after (u ++ rest) ≡ Ok (k, length u) → piece form after (u ++ rest) ≡ Ok (j, n) → Lexes form start (before ++ take n (u ++ rest)) (is_after_semicolon j after) (drop n (u ++ rest)) vs
    → (j ≡ k) × (take n (u ++ rest) ≡ u) × Lexes form start (before ++ u) (is_after_semicolon k after) rest vs
follows form start before u rest after k j n vs e f d =
    let same = same_read (k, length u) (j, n) (piece form after (u ++ rest)) e f in
    let kind : j ≡ k = sym (ap (λ (x : Option TokenKind × ℕ). x.0) same) in
    let size : n ≡ length u = sym (ap (λ (x : Option TokenKind × ℕ). x.1) same) in
    let part : take n (u ++ rest) ≡ u = rw size (take-append_seam u rest) in
    let tail : drop n (u ++ rest) ≡ rest = rw size (drop-append_seam u rest) in
    (kind, part, rw (part, tail, kind) at d)

-- A text has one list of tokens.
pub one_lexes : {form : Form} {start : Place} {before : List ℕ} {after : Bool} {bs : List ℕ} {ts : List Lexeme} → Lexes form start before after bs ts → (us : List Lexeme) → Lexes form start before after bs us → ts ≡ us
one_lexes at_end us e =
    elim (opened e) [
      | is_done h g ↦ sym g
      | is_step k n vs p g d ↦ absurd (nothing_read _ _ (k, n) p)
    ]
one_lexes {form} {start} (a_gap {before = before} {gap = gap} {rest = rest} {after = after} {ts = ts} g d) us e =
    elim (opened e) [
      | is_done h q ↦ absurd (nothing_read form after (None, length gap) (sym (ap (piece form after) h) ∙ gap_piece form after gap rest g))
      | is_step k n vs p q c ↦
          let f = follows form start before gap rest after None k n vs (gap_piece form after gap rest g) p c in
          let mine : us ≡ vs = q ∙ (rw f.0 refl) in
          one_lexes d vs f.2 ∙ sym mine
    ]
one_lexes {form} {start} (a_token {before = before} {w = w} {rest = rest} {after = after} {kind = kind} {ts = ts} l m b d) us e =
    elim (opened e) [
      | is_done h q ↦ absurd (nothing_read form after (Some kind, length w) (sym (ap (piece form after) h) ∙ token_piece form after w rest kind l m b))
      | is_step k n vs p q c ↦
          let f = follows form start before w rest after (Some kind) k n vs (token_piece form after w rest kind l m b) p c in
          let mine : us ≡ record { kind = kind; line = line_behind start before; at = at_behind start before; text = w } ∷ vs = q ∙ (rw (f.0, f.1) refl) in
          ap (λ (z : List Lexeme). record { kind = kind; line = line_behind start before; at = at_behind start before; text = w } ∷ z) (one_lexes d vs f.2) ∙ sym mine
    ]

-- A text with tokens has no fault.
pub no_fault : {form : Form} {start : Place} {before : List ℕ} {after : Bool} {bs : List ℕ} {x : LexFault} → Fails form start before after bs x → (us : List Lexeme) → Lexes form start before after bs us → ⊥
no_fault {form} (here {rest = rest} {after = after} {p = p} w) us e =
    elim (opened e) [
      | is_done h q ↦ (let g = ap (piece form after) (sym h) ∙ wrong_piece form after p rest w in wrong_empty form after p rest h w)
      | is_step k n vs g q c ↦ (let h = wrong_piece form after p rest w in cc)
    ]
  where
    long_empty : (form : Form) (w rest : List ℕ) (k : TokenKind) → w ++ rest ≡ [] → IsLongest form w rest k → ⊥
    long_empty form [] rest k h p = (let c : 5 ≡ class 32 = item_class form [] (32 ∷ []) 32 [] k refl p.is_item in cc)
    long_empty form (x ∷ w) rest k h p = cc

    wrong_empty : (form : Form) (after : Bool) (p : Problem) (bs : List ℕ) → bs ≡ [] → IsWrong form after p bs → ⊥
    wrong_empty form after p bs h (no_item e n m) = cc
    wrong_empty form after p bs h (long_name {w = w} {rest = rest} q s) = long_empty form w rest kinds.Name h q
    wrong_empty form after p bs h (long_number {w = w} {rest = rest} q s) = long_empty form w rest kinds.Number h q
    wrong_empty form after p bs h (open_comment {w = w} {rest = rest} q s) = long_empty form w rest (kinds.Word words.Comment) h q
    wrong_empty form after p bs h (open_bracket a f) = cc
no_fault {form} {start} (behind_gap {before = before} {gap = gap} {rest = rest} {after = after} g d) us e =
    elim (opened e) [
      | is_done h q ↦ nothing_read form after (None, length gap) (sym (ap (piece form after) h) ∙ gap_piece form after gap rest g)
      | is_step k n vs p q c ↦ no_fault d vs (follows form start before gap rest after None k n vs (gap_piece form after gap rest g) p c).2
    ]
no_fault {form} {start} (behind_token {before = before} {w = w} {rest = rest} {after = after} {kind = kind} l m b d) us e =
    elim (opened e) [
      | is_done h q ↦ nothing_read form after (Some kind, length w) (sym (ap (piece form after) h) ∙ token_piece form after w rest kind l m b)
      | is_step k n vs p q c ↦ no_fault d vs (follows form start before w rest after (Some kind) k n vs (token_piece form after w rest kind l m b) p c).2
    ]

-- the first step to a fault
data OpenedFault (form : Form) (start : Place) (before : List ℕ) (after : Bool) (bs : List ℕ) (x : LexFault) : Type 0 where
  fault_here : (p : Problem) → piece form after bs ≡ Err p → x ≡ fault_at p (line_behind start before) → OpenedFault form start before after bs x
  fault_step : (k : Option TokenKind) (n : ℕ) → piece form after bs ≡ Ok (k, n) → Fails form start (before ++ take n bs) (is_after_semicolon k after) (drop n bs) x → OpenedFault form start before after bs x

fault_seam : (form : Form) (start : Place) (before u rest : List ℕ) (a : Bool) (x : LexFault) → Fails form start (before ++ u) a rest x → Fails form start (before ++ take (length u) (u ++ rest)) a (drop (length u) (u ++ rest)) x
fault_seam form start before u rest a x d = rw (take-append_seam u rest, drop-append_seam u rest) d

opened_fault : {form : Form} {start : Place} {before : List ℕ} {after : Bool} {bs : List ℕ} {x : LexFault} → Fails form start before after bs x → OpenedFault form start before after bs x
opened_fault {form} {start} (here {rest = rest} {after = after} {p = p} w) = fault_here p (wrong_piece form after p rest w) refl
opened_fault {form} {start} (behind_gap {before = before} {gap = gap} {rest = rest} {after = after} {f = x} g d) = fault_step None (length gap) (gap_piece form after gap rest g) (fault_seam form start before gap rest after x d)
opened_fault {form} {start} (behind_token {before = before} {w = w} {rest = rest} {after = after} {kind = k} {f = x} p n e d) = fault_step (Some k) (length w) (token_piece form after w rest k p n e) (fault_seam form start before w rest (is_after_semicolon (Some k) after) x d)

fault_follows : (form : Form) (start : Place) (before u rest : List ℕ) (after : Bool) (k j : Option TokenKind) (n : ℕ) (x : LexFault) → piece form after (u ++ rest) ≡ Ok (k, length u) → piece form after (u ++ rest) ≡ Ok (j, n) → Fails form start (before ++ take n (u ++ rest)) (is_after_semicolon j after) (drop n (u ++ rest)) x → Fails form start (before ++ u) (is_after_semicolon k after) rest x
fault_follows form start before u rest after k j n x e f d =
    let same = same_read (k, length u) (j, n) (piece form after (u ++ rest)) e f in
    let kind : j ≡ k = sym (ap (λ (x : Option TokenKind × ℕ). x.0) same) in
    let size : n ≡ length u = sym (ap (λ (x : Option TokenKind × ℕ). x.1) same) in
    let part : take n (u ++ rest) ≡ u = rw size (take-append_seam u rest) in
    let tail : drop n (u ++ rest) ≡ rest = rw size (drop-append_seam u rest) in
    rw (part, tail, kind) at d

-- A text has one first fault.
pub one_fault : {form : Form} {start : Place} {before : List ℕ} {after : Bool} {bs : List ℕ} {x : LexFault} → Fails form start before after bs x → (y : LexFault) → Fails form start before after bs y → x ≡ y
one_fault {form} {start} (here {before = before} {rest = rest} {after = after} {p = p} w) y e =
    elim (opened_fault e) [
      | fault_here q g h ↦ (let f = wrong_piece form after p rest w in let same : p ≡ q = cc in ap (λ (z : Problem). fault_at z (line_behind start before)) same ∙ sym h)
      | fault_step k n g d ↦ absurd (let f = wrong_piece form after p rest w in cc)
    ]
one_fault {form} {start} (behind_gap {before = before} {gap = gap} {rest = rest} {after = after} g d) y e =
    elim (opened_fault e) [
      | fault_here q h i ↦ absurd (let f = gap_piece form after gap rest g in cc)
      | fault_step k n h c ↦ one_fault d y (fault_follows form start before gap rest after None k n y (gap_piece form after gap rest g) h c)
    ]
one_fault {form} {start} (behind_token {before = before} {w = w} {rest = rest} {after = after} {kind = kind} l m b d) y e =
    elim (opened_fault e) [
      | fault_here q h i ↦ absurd (let f = token_piece form after w rest kind l m b in cc)
      | fault_step k n h c ↦ one_fault d y (fault_follows form start before w rest after (Some kind) k n y (token_piece form after w rest kind l m b) h c)
    ]
