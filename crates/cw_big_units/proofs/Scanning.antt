-- The lexer's pieces one after another, over a text of which only the front may be known.
use Rattle.std.proofs.Common.{◌≡◌, ℕ, zero, suc, ◌+◌, ◌<◌, ◌≤◌, ◌==◌, Bool, false, cond, List, [], ◌∷◌, ◌++◌, length, take, drop, Option, Some, None, Ok, Err, refl, sym, subst, append_assoc, arith}
use Rattle.std.specs.Prelude.{count_by}
use Rattle.std.proofs.lemmas.List.{take-append-drop, length-append, append-nil}
use Rattle.std.proofs.lemmas.List.Sums.{sum_by-append}
use Rattle.std.proofs.Math.Seq.{take-append_seam, drop-append_seam}
use Rattle.cw_lex.specs.declared.token.Form.TheVariants.{Source}
use Rattle.cw_lex.specs.declared.token.TokenKind.{TokenKind}
use Rattle.cw_lex.specs.Found.{PieceResult, piece}
use Rattle.cw_lex.specs.Lexical.{Lexeme, lexemes, is_semicolon, is_after_semicolon, first_place, line_behind, at_behind, Lexes, at_end, a_gap, a_token, Tokenizes}
use Rattle.cw_lex.proofs.Lists.{length_front}
use Rattle.cw_lex.proofs.Steps.{IsPiece, piece_is}

-- where the lexer stands, whether the last token is a semicolon, and the rest of the text
pub record State : Type 0 where
  pub line : ℕ
  pub at : ℕ
  pub after_semicolon : Bool
  pub rest : List ℕ

abbrev pub start : List ℕ → State
start text = record { line = 1; at = 0; after_semicolon = false; rest = text }

abbrev pub feeds : List ℕ → ℕ
feeds = count_by (λ b. b == 10)

abbrev pub moved : State → Option TokenKind → ℕ → State
moved s kind n = record { line = s.line + feeds (take n s.rest); at = s.at + n; after_semicolon = is_after_semicolon kind s.after_semicolon; rest = drop n s.rest }

-- tokens, and where the lexer stands behind them
abbrev pub Scanned : Type 0
Scanned = List Lexeme × State

abbrev pub behind_tokens : List Lexeme → Scanned → Scanned
behind_tokens ts r = (ts ++ r.0, r.1)

abbrev pub with_piece : (State → Scanned) → State → PieceResult → Scanned
with_piece more s (Ok (kind, n)) = behind_tokens (lexemes kind s.line s.at (take n s.rest)) (more (moved s kind n))
with_piece more s (Err p) = ([], s)

-- so many pieces, or all where there are fewer
abbrev pub scan : ℕ → State → Scanned
scan zero s = ([], s)
scan (suc n) s = with_piece (scan n) s (piece Source s.after_semicolon s.rest)

-- ---- what is scanned is lexed

-- the state stands behind these bytes of a text
pub record StandsBehind (before : List ℕ) (s : State) : Type 0 where
  pub line_is : s.line ≡ line_behind first_place before
  pub at_is : s.at ≡ at_behind first_place before

-- what is lexed behind t has these tokens in front of it behind s
pub record Follows (s : State) (ts : List Lexeme) (t : State) : Type 0 where
  pub behind : (before : List ℕ) → StandsBehind before s → (after : List ℕ) × StandsBehind after t × ((us : List Lexeme) → Lexes Source first_place after t.after_semicolon t.rest us → Lexes Source first_place before s.after_semicolon s.rest (ts ++ us))

pub follows_on : {s t v : State} {ts us : List Lexeme} → Follows s ts t → Follows t us v → Follows s (ts ++ us) v
follows_on {ts = ts} {us = us} p q = record {
  behind = λ before h.
      let x = p.behind before h in
      let y = q.behind x.0 x.1 in
      (y.0, y.1, λ vs d. rw append_assoc (x.2 (us ++ vs) (y.2 vs d)));
}

stands_on : (before : List ℕ) (s : State) (kind : Option TokenKind) (n : ℕ) → n ≤ length s.rest → StandsBehind before s → StandsBehind (before ++ take n s.rest) (moved s kind n)
stands_on before s kind n le h = record {
  line_is = omega (arith, h.line_is, sum_by-append (λ b. cond (b == 10) 1 0) before (take n s.rest));
  at_is = omega (arith, h.at_is, length-append before (take n s.rest), length_front n s.rest le);
}

-- one piece
piece_follows : (s : State) (kind : Option TokenKind) (n : ℕ) → IsPiece Source s.after_semicolon s.rest (Ok (kind, n)) → Follows s (lexemes kind s.line s.at (take n s.rest)) (moved s kind n)
piece_follows s None n p = record {
  behind = λ before h. (
    before ++ take n s.rest,
    stands_on before s None n p.within h,
    λ us d.
        let F : List ℕ → Type 0 = λ z. Lexes Source first_place before s.after_semicolon z us in
        subst F (take-append-drop n s.rest) (a_gap p.is_gap d),
  );
}
piece_follows s (Some k) n p = record {
  behind = λ before h. (
    before ++ take n s.rest,
    stands_on before s (Some k) n p.within h,
    λ us d.
        let F : List ℕ → Type 0 = λ z. Lexes Source first_place before s.after_semicolon z (record { kind = k; line = s.line; at = s.at; text = take n s.rest } ∷ us) in
        let L : ℕ → Type 0 = λ z. Lexes Source first_place before s.after_semicolon (take n s.rest ++ drop n s.rest) (record { kind = k; line = z; at = s.at; text = take n s.rest } ∷ us) in
        let A : ℕ → Type 0 = λ z. Lexes Source first_place before s.after_semicolon (take n s.rest ++ drop n s.rest) (record { kind = k; line = line_behind first_place before; at = z; text = take n s.rest } ∷ us) in
        subst F (take-append-drop n s.rest) (subst L (sym h.line_is) (subst A (sym h.at_is) (a_token p.is_longest p.is_token p.keeps d))),
  );
}

some_rest : (after : Bool) (bs : List ℕ) (x : Option TokenKind × ℕ) → piece Source after bs ≡ Ok x → 0 < length bs
unfolding piece
some_rest after [] x e = absurd cc
some_rest after (b ∷ bs) x e = omega arith

is_piece : (s : State) (kind : Option TokenKind) (n : ℕ) → piece Source s.after_semicolon s.rest ≡ Ok (kind, n) → IsPiece Source s.after_semicolon s.rest (Ok (kind, n))
is_piece s kind n e =
    let P : PieceResult → Type 0 = λ z. IsPiece Source s.after_semicolon s.rest z in
    subst P e (piece_is Source s.after_semicolon s.rest (some_rest s.after_semicolon s.rest (kind, n) e))

scanned_on : (n : ℕ) → ((t : State) → Follows t (scan n t).0 (scan n t).1) → (s : State) (o : PieceResult) → piece Source s.after_semicolon s.rest ≡ o → Follows s (with_piece (scan n) s o).0 (with_piece (scan n) s o).1
scanned_on n more s (Ok (kind, m)) e = follows_on (piece_follows s kind m (is_piece s kind m e)) (more (moved s kind m))
scanned_on n more s (Err p) e = record { behind = λ before h. (before, h, λ us d. d) }

pub scan_follows : (n : ℕ) (s : State) → Follows s (scan n s).0 (scan n s).1
scan_follows zero s = record { behind = λ before h. (before, h, λ us d. d) }
scan_follows (suc n) s = scanned_on n (scan_follows n) s (piece Source s.after_semicolon s.rest) refl

-- one token, whose bytes are told
pub token_follows : (line at : ℕ) (k : TokenKind) (w rest : List ℕ) → piece Source false (w ++ rest) ≡ Ok (Some k, length w) → feeds w ≡ 0
    → Follows (record { line = line; at = at; after_semicolon = false; rest = w ++ rest }) (record { kind = k; line = line; at = at; text = w } ∷ []) (record { line = line; at = at + length w; after_semicolon = is_semicolon k; rest = rest })
token_follows line at k w rest e none =
    let s : State = record { line = line; at = at; after_semicolon = false; rest = w ++ rest } in
    let p = piece_follows s (Some k) (length w) (is_piece s (Some k) (length w) e) in
    let T : List ℕ → Type 0 = λ z. Follows s (record { kind = k; line = line; at = at; text = z } ∷ []) (record { line = line + feeds z; at = at + length w; after_semicolon = is_semicolon k; rest = drop (length w) (w ++ rest) }) in
    let R : List ℕ → Type 0 = λ z. Follows s (record { kind = k; line = line; at = at; text = w } ∷ []) (record { line = line + feeds w; at = at + length w; after_semicolon = is_semicolon k; rest = z }) in
    let L : ℕ → Type 0 = λ z. Follows s (record { kind = k; line = line; at = at; text = w } ∷ []) (record { line = z; at = at + length w; after_semicolon = is_semicolon k; rest = rest }) in
    let same : line + feeds w ≡ line = omega (arith, none) in
    subst L same (subst R (drop-append_seam w rest) (subst T (take-append_seam w rest) p))

-- A text that is scanned up to its end has the tokens that were found.
pub scanned_whole : (text : List ℕ) (ts : List Lexeme) (s : State) → Follows (start text) ts s → s.rest ≡ [] → Tokenizes Source first_place text ts
scanned_whole text ts s p e =
    let x = p.behind [] (record { line_is = refl; at_is = refl }) in
    let d : Lexes Source first_place x.0 s.after_semicolon s.rest [] = rw e at_end in
    let F : List Lexeme → Type 0 = λ z. Lexes Source first_place [] false text z in
    subst F (append-nil ts) (x.2 [] d)
