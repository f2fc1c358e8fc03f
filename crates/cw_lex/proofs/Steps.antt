-- What each kind of piece says of the text.
use Rattle.std.proofs.Common.{◌≡◌, ℕ, zero, suc, ◌+◌, ◌≤◌, ◌<◌, ◌==◌, Bool, true, false, not, cond, ◌&&◌, List, [], ◌∷◌, ◌++◌, length, take, drop, get_or, Option, Some, None, Ok, Err, refl, sym, ap, subst, ◌∙◌, append_assoc, add-one, arith}
use Rattle.std.specs.Prelude.{nat_lt}
use Rattle.std.specs.List.{prefix_len}
use Rattle.std.proofs.lemmas.Bool.{and_parts, eqb-true, ltb-true, ltb-false, not-false}
use Rattle.std.proofs.lemmas.List.{take-append-drop, length-append}
use Rattle.std.proofs.lemmas.List.Sums.{prefix_len-le-length, prefix_len_stops}
use Rattle.std.proofs.Math.Seq.{drop-cons}
use Rattle.cw_lex.specs.declared.token.Form.{Form}
use Rattle.cw_lex.specs.declared.token.Word.TheVariants as words
use Rattle.cw_lex.specs.declared.token.Symbol.{Symbol}
use Rattle.cw_lex.specs.declared.token.Symbol.TheVariants as symbols
use Rattle.cw_lex.specs.declared.token.TokenKind.{TokenKind}
use Rattle.cw_lex.specs.declared.token.TokenKind.TheVariants as kinds
use Rattle.cw_lex.specs.declared.token.Problem.{Problem}
use Rattle.cw_lex.specs.declared.token.Problem.TheVariants.{BadChar, OpenString, BadNumber, LongName, OpenComment}
use Rattle.cw_lex.specs.Items.{is_separator, one_mark, two_marks, symbol_of, IsLongest, keeps_limit, opens_string, not_semicolon}
use Rattle.cw_lex.specs.Found.{FoundItem, PieceResult, found, piece, piece_of, comment_from, limited, missing, bracket_piece, bracket_end}
use Rattle.cw_lex.specs.Lexical.{IsGap, separator, comment, bracket_comment, IsMissing, at_point, at_quote, at_single_quote, at_other, IsWrong, no_item, long_name, long_number, open_comment, open_bracket, is_token}
use Rattle.cw_lex.proofs.Lists.{every_take, all_of, cut, length_front}
use Rattle.cw_lex.proofs.Longest.{IsFoundAt, FoundOrNot}
use Rattle.cw_lex.proofs.Marks.{found_is}
use Rattle.cw_lex.proofs.Matching.{ShutsAt, shut, never, bracket_end_is, shuts_bracketed, bracketed_shuts}

-- the piece at the front is a gap, a token or wrong
pub record IsGapAt (form : Form) (after : Bool) (bs : List ℕ) (n : ℕ) : Type 0 where
  pub some : 0 < n
  pub within : n ≤ length bs
  pub is_gap : IsGap form after (take n bs) (drop n bs)

pub record IsTokenAt (form : Form) (after : Bool) (bs : List ℕ) (k : TokenKind) (n : ℕ) : Type 0 where
  pub some : 0 < n
  pub within : n ≤ length bs
  pub is_longest : IsLongest form (take n bs) (drop n bs) k
  pub is_token : is_token after k ≡ true
  pub keeps : keeps_limit k (take n bs) ≡ true

abbrev pub IsPiece : Form → Bool → List ℕ → PieceResult → Type 0
IsPiece form after bs (Ok (None, n)) = IsGapAt form after bs n
IsPiece form after bs (Ok (Some k, n)) = IsTokenAt form after bs k n
IsPiece form after bs (Err p) = IsWrong form after p bs

longest : (form : Form) (bs : List ℕ) (k : TokenKind) (n : ℕ) → IsFoundAt form bs (k, n) → IsLongest form (take n bs) (drop n bs) k
longest form bs k n p = record {
  is_item = p.is_item;
  most = λ v r j e i. omega (arith, p.best v r j (e ∙ take-append-drop n bs) i, length_front n bs p.within);
}

whole : (form : Form) (after : Bool) (n : ℕ) (bs : List ℕ) (p : Problem) → IsWrong form after p (take n bs ++ drop n bs) → IsWrong form after p bs
whole form after n bs p h = let F : List ℕ → Type 0 = λ (z : List ℕ). IsWrong form after p z in subst F (take-append-drop n bs) h

comment_gap : (form : Form) (after : Bool) (bs : List ℕ) (n : ℕ) → IsFoundAt form bs (kinds.Word words.Comment, n) → prefix_len not_semicolon (drop n bs) < length (drop n bs) → IsGapAt form after bs (n + prefix_len not_semicolon (drop n bs) + 1)
comment_gap form after bs n p lt =
    let rest = drop n bs in
    let m = prefix_len not_semicolon rest in
    let w = take n bs in
    let body = take m rest in
    let tail = drop (m + 1) rest in
    let stop : get_or rest m 0 ≡ 59 = eqb-true (get_or rest m 0) 59 (not-false (get_or rest m 0 == 59) (prefix_len_stops not_semicolon rest 0 lt)) in
    let behind : drop m rest ≡ 59 ∷ tail = rw add-one (drop-cons rest m 0 lt ∙ ap (λ (z : ℕ). z ∷ drop (suc m) rest) stop) in
    let parts : rest ≡ body ++ 59 ∷ tail = sym (take-append-drop m rest) ∙ ap (λ (z : List ℕ). body ++ z) behind in
    let all : bs ≡ (w ++ (body ++ 59 ∷ [])) ++ tail = sym (take-append-drop n bs) ∙ ap (λ (z : List ℕ). w ++ z) (parts ∙ sym (append_assoc body (59 ∷ []) tail)) ∙ sym (append_assoc w (body ++ 59 ∷ []) tail) in
    let size : length (w ++ (body ++ 59 ∷ [])) ≡ n + m + 1 = omega (arith, length-append w (body ++ 59 ∷ []), length-append body (59 ∷ []), length_front n bs p.within, length_front m rest (omega arith)) in
    let c = cut (w ++ (body ++ 59 ∷ [])) tail bs (n + m + 1) all size in
    let long : IsLongest form w (body ++ 59 ∷ tail) (kinds.Word words.Comment) = rw (← parts) (longest form bs (kinds.Word words.Comment) n p) in
    record {
      some = omega arith;
      within = omega (arith, ap length all, length-append (w ++ (body ++ 59 ∷ [])) tail);
      is_gap = rw (c.0, c.1) (comment w body long (every_take not_semicolon rest));
    }

comment_piece : (form : Form) (after : Bool) (bs : List ℕ) (n : ℕ) → IsFoundAt form bs (kinds.Word words.Comment, n) → IsPiece form after bs (comment_from n (drop n bs))
comment_piece form after bs n p =
    elim (nat_lt (prefix_len not_semicolon (drop n bs)) (length (drop n bs))) as (λ c. nat_lt (prefix_len not_semicolon (drop n bs)) (length (drop n bs)) ≡ c → IsPiece form after bs (cond c (Ok (None, n + prefix_len not_semicolon (drop n bs) + 1)) (Err OpenComment))) [
      | true ↦ λ e. comment_gap form after bs n p (ltb-true (prefix_len not_semicolon (drop n bs)) (length (drop n bs)) e)
      | false ↦ λ e.
          let le = prefix_len-le-length not_semicolon (drop n bs) in
          let same : prefix_len not_semicolon (drop n bs) ≡ length (drop n bs) = omega (arith, ltb-false (prefix_len not_semicolon (drop n bs)) (length (drop n bs)) e) in
          whole form after n bs OpenComment (open_comment (longest form bs (kinds.Word words.Comment) n p) (all_of not_semicolon (drop n bs) same))
    ] refl

token_at : (form : Form) (after : Bool) (bs : List ℕ) (k : TokenKind) (n : ℕ) → IsFoundAt form bs (k, n) → is_token after k ≡ true → keeps_limit k (take n bs) ≡ true → IsTokenAt form after bs k n
token_at form after bs k n p t e = record { some = p.some; within = p.within; is_longest = longest form bs k n p; is_token = t; keeps = e }

name_piece : (form : Form) (after : Bool) (bs : List ℕ) (n : ℕ) → IsFoundAt form bs (kinds.Name, n) → (b : Bool) → keeps_limit kinds.Name (take n bs) ≡ b → IsPiece form after bs (limited kinds.Name n b)
name_piece form after bs n p true e = token_at form after bs kinds.Name n p refl e
name_piece form after bs n p false e = whole form after n bs LongName (long_name (longest form bs kinds.Name n p) e)

number_piece : (form : Form) (after : Bool) (bs : List ℕ) (n : ℕ) → IsFoundAt form bs (kinds.Number, n) → (b : Bool) → keeps_limit kinds.Number (take n bs) ≡ b → IsPiece form after bs (limited kinds.Number n b)
number_piece form after bs n p true e = token_at form after bs kinds.Number n p refl e
number_piece form after bs n p false e = whole form after n bs BadNumber (long_number (longest form bs kinds.Number n p) e)

missing_is : (form : Form) (b : ℕ) (bs : List ℕ) → IsMissing form (missing form (b ∷ bs)) b bs
missing_is form b bs =
    elim (b == 46) as (λ t. (b == 46) ≡ t → IsMissing form (cond t BadNumber (cond ((b == 34) && opens_string form bs) OpenString BadChar)) b bs) [
      | true ↦ λ e. (let F : ℕ → Type 0 = λ (z : ℕ). IsMissing form BadNumber z bs in subst F (sym (eqb-true b 46 e)) at_point)
      | false ↦ λ e.
          elim (b == 34) as (λ t. (b == 34) ≡ t → IsMissing form (cond (t && opens_string form bs) OpenString BadChar) b bs) [
            | false ↦ λ q. at_other e q
            | true ↦ λ q.
                elim (opens_string form bs) as (λ t. opens_string form bs ≡ t → IsMissing form (cond t OpenString BadChar) b bs) [
                  | true ↦ λ o. (let F : ℕ → Type 0 = λ (z : ℕ). IsMissing form OpenString z bs in subst F (sym (eqb-true b 34 q)) (at_quote o))
                  | false ↦ λ o. (let F : ℕ → Type 0 = λ (z : ℕ). IsMissing form BadChar z bs in subst F (sym (eqb-true b 34 q)) (at_single_quote o))
                ] refl
          ] refl
    ] refl

open_step : (c : ℕ) (t : Bool) (s : Symbol) (y : Option Symbol) → (t ≡ true → s ≡ symbols.Open → c ≡ 40) → (y ≡ Some symbols.Open → c ≡ 40) → cond t (Some s) y ≡ Some symbols.Open → c ≡ 40
open_step c true s y f g e = f refl (cc)
open_step c false s y f g e = g e

one_open : (c : ℕ) → one_mark c ≡ Some symbols.Open → c ≡ 40
one_open c = (open_step c (c == 59) symbols.Semicolon _ (λ e q. absurd cc) (open_step c (c == 58) symbols.Colon _ (λ e q. absurd cc) (open_step c (c == 44) symbols.Comma _ (λ e q. absurd cc) (open_step c (c == 40) symbols.Open _ (λ e q. eqb-true c 40 e) (open_step c (c == 41) symbols.Close _ (λ e q. absurd cc) (open_step c (c == 91) symbols.OpenSquare _ (λ e q. absurd cc) (open_step c (c == 93) symbols.CloseSquare _ (λ e q. absurd cc) (open_step c (c == 43) symbols.Plus _ (λ e q. absurd cc) (open_step c (c == 45) symbols.Minus _ (λ e q. absurd cc) (open_step c (c == 42) symbols.Times _ (λ e q. absurd cc) (open_step c (c == 47) symbols.Divide _ (λ e q. absurd cc) (open_step c (c == 60) symbols.Less _ (λ e q. absurd cc) (open_step c (c == 61) symbols.Equal _ (λ e q. absurd cc) (open_step c (c == 62) symbols.Greater _ (λ e q. absurd cc) (λ x. absurd cc)))))))))))))))

two_open : (c d : ℕ) → two_marks c d ≡ Some symbols.Open → c ≡ 40
two_open c d = (open_step c ((c == 58) && (d == 61)) symbols.Assign _ (λ e q. absurd cc) (open_step c ((c == 60) && (d == 45)) symbols.Assign _ (λ e q. absurd cc) (open_step c ((c == 60) && (d == 61)) symbols.LessOrEqual _ (λ e q. absurd cc) (open_step c ((c == 62) && (d == 61)) symbols.GreaterOrEqual _ (λ e q. absurd cc) (open_step c ((c == 60) && (d == 62)) symbols.NotEqual _ (λ e q. absurd cc) (λ x. absurd cc))))))

open_symbol : (n b : ℕ) (bs : List ℕ) → symbol_of (take n (b ∷ bs)) ≡ Some symbols.Open → b ≡ 40
open_symbol zero b bs e = absurd cc
open_symbol (suc n) b bs e = first (take n bs) e
  where
    first : (w : List ℕ) → symbol_of (b ∷ w) ≡ Some symbols.Open → b ≡ 40
    first [] e = one_open b e
    first (d ∷ []) e = two_open b d e
    first (d ∷ x ∷ w) e = absurd cc

-- an opening bracket behind a semicolon is read before
open_token : (form : Form) (after : Bool) (b : ℕ) (bs : List ℕ) (n : ℕ) → IsFoundAt form (b ∷ bs) (kinds.Symbol symbols.Open, n) → (after && (b == 40)) ≡ false → not after ≡ true
open_token form true b bs n p e = absurd (let h : b ≡ 40 = open_symbol n b bs p.is_item in let q : (b == 40) ≡ true = ap (λ (x : ℕ). x == 40) h in cc)
open_token form false b bs n p e = refl

found_piece : (form : Form) (after : Bool) (b : ℕ) (bs : List ℕ) → is_separator b ≡ false → (after && (b == 40)) ≡ false → (o : FoundItem) → FoundOrNot form (b ∷ bs) o → IsPiece form after (b ∷ bs) (piece_of form (b ∷ bs) o)
found_piece form after b bs e o None h = no_item e h (missing_is form b bs)
found_piece form after b bs e o (Some (kinds.Word words.Comment, n)) h = comment_piece form after (b ∷ bs) n h
found_piece form after b bs e o (Some (kinds.Word k, n)) h = token_at form after (b ∷ bs) (kinds.Word k) n h refl refl
found_piece form after b bs e o (Some (kinds.Name, n)) h = name_piece form after (b ∷ bs) n h (keeps_limit kinds.Name (take n (b ∷ bs))) refl
found_piece form after b bs e o (Some (kinds.Number, n)) h = number_piece form after (b ∷ bs) n h (keeps_limit kinds.Number (take n (b ∷ bs))) refl
found_piece form after b bs e o (Some (kinds.Text, n)) h = token_at form after (b ∷ bs) kinds.Text n h refl refl
found_piece form after b bs e o (Some (kinds.BodyText, n)) h = token_at form after (b ∷ bs) kinds.BodyText n h refl refl
found_piece form after b bs e o (Some (kinds.Literal, n)) h = token_at form after (b ∷ bs) kinds.Literal n h refl refl
found_piece form after b bs e o (Some (kinds.Symbol symbols.Open, n)) h = token_at form after (b ∷ bs) (kinds.Symbol symbols.Open) n h (open_token form after b bs n h o) refl
found_piece form after b bs e o (Some (kinds.Symbol s, n)) h = token_at form after (b ∷ bs) (kinds.Symbol s) n h refl refl

bracket_at : (form : Form) (bs : List ℕ) (o : Option ℕ) → ShutsAt 1 0 bs o → IsPiece form true (40 ∷ bs) (bracket_piece o)
bracket_at form bs _ (shut n l s) =
    let size : suc (suc n) ≡ 0 + suc n + 1 = omega arith in
    let F : ℕ → Type 0 = λ (z : ℕ). IsGapAt form true (40 ∷ bs) z in
    subst F size (record { some = omega arith; within = omega (arith, l); is_gap = bracket_comment refl (shuts_bracketed (take (suc n) bs) s) })
bracket_at form bs _ (never f) = open_bracket refl (λ v r h s. f v r h (bracketed_shuts v s))

not_separator : (form : Form) (after : Bool) (b : ℕ) (bs : List ℕ) → is_separator b ≡ false → IsPiece form after (b ∷ bs) (cond (after && (b == 40)) (bracket_piece (bracket_end 1 0 bs)) (piece_of form (b ∷ bs) (found form (b ∷ bs))))
not_separator form after b bs e =
    elim (after && (b == 40)) as (λ t. (after && (b == 40)) ≡ t → IsPiece form after (b ∷ bs) (cond t (bracket_piece (bracket_end 1 0 bs)) (piece_of form (b ∷ bs) (found form (b ∷ bs))))) [
      | true ↦ λ q.
          let p = and_parts after (b == 40) q in
          let F : ℕ → Type 0 = λ (z : ℕ). IsPiece form after (z ∷ bs) (bracket_piece (bracket_end 1 0 bs)) in
          let G : Bool → Type 0 = λ (z : Bool). IsPiece form z (40 ∷ bs) (bracket_piece (bracket_end 1 0 bs)) in
          subst F (sym (eqb-true b 40 p.1)) (subst G (sym p.0) (bracket_at form bs (bracket_end 1 0 bs) (bracket_end_is 1 0 bs (omega arith))))
      | false ↦ λ q. found_piece form after b bs e q (found form (b ∷ bs)) (found_is form b bs)
    ] refl

pub piece_is : (form : Form) (after : Bool) (bs : List ℕ) → 0 < length bs → IsPiece form after bs (piece form after bs)
unfolding piece
piece_is form after [] h = absurd (omega (arith, h))
piece_is form after (b ∷ bs) h =
    elim (is_separator b) as (λ t. is_separator b ≡ t → IsPiece form after (b ∷ bs) (cond t (Ok (None, 1)) (cond (after && (b == 40)) (bracket_piece (bracket_end 1 0 bs)) (piece_of form (b ∷ bs) (found form (b ∷ bs)))))) [
      | true ↦ λ e. record { some = omega arith; within = omega arith; is_gap = separator e }
      | false ↦ λ e. not_separator form after b bs e
    ] refl
