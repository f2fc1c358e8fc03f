-- One more piece of a text.
use Rattle.std.proofs.Common.{◌≡◌, ℕ, Bool, false, ◌+◌, ◌-◌, ◌≤◌, ◌<◌, ◌==◌, List, [], ◌∷◌, ◌++◌, length, take, drop, Option, Some, None, Ok, Err, refl, sym, ap, subst, ◌∙◌, append_assoc, cond, arith}
use Rattle.std.specs.Prelude.{count_by}
use Rattle.std.proofs.lemmas.List.{take_all, take-append-drop, append-nil, length-take, length-drop}
use Rattle.std.proofs.lemmas.List.Sums.{sum_by-append}
use Rattle.std.proofs.Math.Seq.{take-add}
use Rattle.std.proofs.Math.ListN.{drop_of_length-le}
use Rattle.std.proofs.Common.{drop-drop}
use Rattle.cw_lex.specs.declared.token.Form.{Form}
use Rattle.cw_lex.specs.declared.token.TokenKind.{TokenKind}
use Rattle.cw_lex.specs.declared.token.Problem.{Problem}
use Rattle.cw_lex.specs.declared.token.Problem.TheVariants.{BadChar, OpenString, BadNumber, LongName, OpenComment}
use Rattle.cw_lex.specs.declared.token.LexFault.{LexFault}
use Rattle.cw_lex.specs.Found.{PieceResult, piece}
use Rattle.cw_lex.specs.Lexical.{Lexeme, Place, line_behind, is_after_semicolon, fault_at, IsAnswer, IsFirstFault, lexemes, Lexes, at_end, a_gap, a_token, Fails, here, behind_gap, behind_token}
use Rattle.cw_lex.proofs.Steps.{IsPiece, piece_is}

-- the pieces behind a place belong to what is read there
abbrev pub Reads : (form : Form) (start : Place) (text : List ℕ) (after : Bool) (at : ℕ) → List Lexeme → Type 0
Reads form start text after at front = (ts : List Lexeme) → Lexes form start (take at text) after (drop at text) ts → Lexes form start [] false text (front ++ ts)

abbrev pub FailsFrom : (form : Form) (start : Place) (text : List ℕ) (after : Bool) (at : ℕ) → Type 0
FailsFrom form start text after at = (f : LexFault) → Fails form start (take at text) after (drop at text) f → Fails form start [] false text f

piece_at : (form : Form) (after : Bool) (bs : List ℕ) (o : PieceResult) → 0 < length bs → piece form after bs ≡ o → IsPiece form after bs o
piece_at form after bs o h e = let P : PieceResult → Type 0 = λ z. IsPiece form after bs z in subst P e (piece_is form after bs h)

not_past : (text : List ℕ) (at : ℕ) → at < length text → 0 < length (drop at text)
not_past text at h = omega (arith, length-drop at text)

next_place : (text : List ℕ) (at n : ℕ) → (take (at + n) text ≡ take at text ++ take n (drop at text)) × (drop (at + n) text ≡ drop n (drop at text))
next_place text at n = (take-add at n text, sym (drop-drop n at text))

lexes_behind : (form : Form) (start : Place) (text : List ℕ) (after : Bool) (at n : ℕ) (kind : Option TokenKind) (ts : List Lexeme) → at ≤ length text → IsPiece form after (drop at text) (Ok (kind, n)) → Lexes form start (take at text ++ take n (drop at text)) (is_after_semicolon kind after) (drop n (drop at text)) ts
    → Lexes form start (take at text) after (drop at text) (lexemes kind (line_behind start (take at text)) (start.at + at) (take n (drop at text)) ++ ts)
lexes_behind form start text after at n None ts h p d =
    let F : List ℕ → Type 0 = λ (z : List ℕ). Lexes form start (take at text) after z ts in
    subst F (take-append-drop n (drop at text)) (a_gap p.is_gap d)
lexes_behind form start text after at n (Some k) ts h p d =
    let size : start.at + length (take at text) ≡ start.at + at = omega (arith, length-take at text) in
    let F : List ℕ → Type 0 = λ (z : List ℕ). Lexes form start (take at text) after z (record { kind = k; line = line_behind start (take at text); at = start.at + at; text = take n (drop at text) } ∷ ts) in
    let G : ℕ → Type 0 = λ (x : ℕ). Lexes form start (take at text) after (take n (drop at text) ++ drop n (drop at text)) (record { kind = k; line = line_behind start (take at text); at = x; text = take n (drop at text) } ∷ ts) in
    subst F (take-append-drop n (drop at text)) (subst G size (a_token p.is_longest p.is_token p.keeps d))

fails_behind : (form : Form) (start : Place) (text : List ℕ) (after : Bool) (at n : ℕ) (kind : Option TokenKind) (f : LexFault) → IsPiece form after (drop at text) (Ok (kind, n)) → Fails form start (take at text ++ take n (drop at text)) (is_after_semicolon kind after) (drop n (drop at text)) f → Fails form start (take at text) after (drop at text) f
fails_behind form start text after at n None f p d =
    let F : List ℕ → Type 0 = λ (z : List ℕ). Fails form start (take at text) after z f in
    subst F (take-append-drop n (drop at text)) (behind_gap p.is_gap d)
fails_behind form start text after at n (Some k) f p d =
    let F : List ℕ → Type 0 = λ (z : List ℕ). Fails form start (take at text) after z f in
    subst F (take-append-drop n (drop at text)) (behind_token p.is_longest p.is_token p.keeps d)

pub reads_on : (form : Form) (start : Place) (text : List ℕ) (after : Bool) (at n : ℕ) (kind : Option TokenKind) (front : List Lexeme) → at < length text → piece form after (drop at text) ≡ Ok (kind, n) → Reads form start text after at front
    → Reads form start text (is_after_semicolon kind after) (at + n) (front ++ lexemes kind (line_behind start (take at text)) (start.at + at) (take n (drop at text)))
reads_on form start text after at n kind front h e r ts d =
    let p = piece_at form after (drop at text) (Ok (kind, n)) (not_past text at h) e in
    let place = next_place text at n in
    let there : Lexes form start (take at text ++ take n (drop at text)) (is_after_semicolon kind after) (drop n (drop at text)) ts = rw (place.0, place.1) at d in
    rw append_assoc (r (lexemes kind (line_behind start (take at text)) (start.at + at) (take n (drop at text)) ++ ts) (lexes_behind form start text after at n kind ts (omega arith) p there))

pub fails_on : (form : Form) (start : Place) (text : List ℕ) (after : Bool) (at n : ℕ) (kind : Option TokenKind) → at < length text → piece form after (drop at text) ≡ Ok (kind, n) → FailsFrom form start text after at → FailsFrom form start text (is_after_semicolon kind after) (at + n)
fails_on form start text after at n kind h e f q d =
    let p = piece_at form after (drop at text) (Ok (kind, n)) (not_past text at h) e in
    let place = next_place text at n in
    let there : Fails form start (take at text ++ take n (drop at text)) (is_after_semicolon kind after) (drop n (drop at text)) q = rw (place.0, place.1) at d in
    f q (fails_behind form start text after at n kind q p there)

pub fails_here : (form : Form) (start : Place) (text : List ℕ) (after : Bool) (at line : ℕ) (q : Problem) → at < length text → line ≡ line_behind start (take at text) → piece form after (drop at text) ≡ Err q → FailsFrom form start text after at → Fails form start [] false text (fault_at q line)
fails_here form start text after at line q h l e f =
    let F : ℕ → Type 0 = λ (x : ℕ). Fails form start [] false text (fault_at q x) in
    subst F (sym l) (f (fault_at q (line_behind start (take at text))) (here (piece_at form after (drop at text) (Err q) (not_past text at h) e)))

pub reads_all : (form : Form) (start : Place) (text : List ℕ) (after : Bool) (at : ℕ) (front : List Lexeme) → at ≤ length text → length text ≤ at → Reads form start text after at front → Lexes form start [] false text front
reads_all form start text after at front h k r =
    let e : drop at text ≡ [] = drop_of_length-le text k in
    let d : Lexes form start (take at text) after (drop at text) [] = rw e at_end in
    let F : List Lexeme → Type 0 = λ (z : List Lexeme). Lexes form start [] false text z in
    subst F (append-nil front) (r [] d)

pub line_on : (start : Place) (text : List ℕ) (at n line feeds : ℕ) → line ≡ line_behind start (take at text) → feeds ≡ count_by (λ b. b == 10) (take n (drop at text)) → line + feeds ≡ line_behind start (take (at + n) text)
line_on start text at n line feeds l f =
    let both : count_by (λ b. b == 10) (take (at + n) text) ≡ count_by (λ b. b == 10) (take at text) + count_by (λ b. b == 10) (take n (drop at text)) = ap (count_by (λ b. b == 10)) (take-add at n text) ∙ sum_by-append (λ b. cond (b == 10) 1 0) (take at text) (take n (drop at text)) in
    omega arith

-- the slices of the loop
pub tail_is : (text : List ℕ) (at : ℕ) → take (length text - at) (drop at text) ≡ drop at text
tail_is text at = take_all (length text - at) (drop at text) (omega (arith, length-drop at text))

pub part_is : (text : List ℕ) (at n : ℕ) → take (at + n - at) (drop at text) ≡ take n (drop at text)
part_is text at n = let e : at + n - at ≡ n = omega arith in rw e refl

pub answers_fault : (form : Form) (start : Place) (text : List ℕ) (p : Problem) (line : ℕ) → IsFirstFault form start text (fault_at p line) → IsAnswer form start text (Err (fault_at p line))
answers_fault form start text BadChar line h = h
answers_fault form start text OpenString line h = h
answers_fault form start text BadNumber line h = h
answers_fault form start text LongName line h = h
answers_fault form start text OpenComment line h = h

moves : (form : Form) (after : Bool) (bs : List ℕ) (kind : Option TokenKind) (n : ℕ) → IsPiece form after bs (Ok (kind, n)) → 0 < n
moves form after bs None n p = p.some
moves form after bs (Some k) n p = p.some

pub piece_moves : (form : Form) (after : Bool) (text : List ℕ) (at n : ℕ) (kind : Option TokenKind) → at < length text → piece form after (drop at text) ≡ Ok (kind, n) → 0 < n
piece_moves form after text at n kind h e = moves form after (drop at text) kind n (piece_at form after (drop at text) (Ok (kind, n)) (not_past text at h) e)
