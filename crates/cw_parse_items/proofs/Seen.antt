-- A token that was seen.
use Rattle.std.proofs.Common.{◌≡◌, ℕ, ◌+◌, ◌<◌, Bool, true, false, cond, ◌||◌, List, [], ◌∷◌, length, get_or, Ok, Err, refl, inl, inr}
use Rattle.std.proofs.lemmas.Bool.{cases_lt, false≢true}
use Rattle.cw_lex.specs.declared.token.Token as token
use Rattle.cw_lex.specs.declared.token.TokenKind.{TokenKind}
use Rattle.cw_lex.specs.Lexical.{view}
use Rattle.cw_grammar.specs.Tokens.{Item, same, with_number, behind}
use Rattle.cw_grammar.specs.Grammar.{starts}
use Rattle.cw_grammar.specs.Reading.{Read, syntax_at, take_one}
use Rattle.cw_grammar.proofs.Behind.{behind_at, behind_end}

pub is_within : (ts : List token.Token) (at : ℕ) (k : TokenKind) → starts (behind ts at) (k ∷ []) ≡ true → at < length ts
is_within ts at k s =
    elim (cases_lt at (length ts)) [
      | inl h ↦ h
      | inr h ↦ absurd (false≢true (rw (behind_end ts at h) at s))
    ]

taken_first : (k : TokenKind) (t : Item) (us : List Item) → starts (t ∷ us) (k ∷ []) ≡ true → take_one k (t ∷ us) ≡ Ok (t, us)
taken_first k t us s = go (same t.kind k) s
  where
    go : (b : Bool) → b || false ≡ true → cond {A = Read Item} b (Ok (t, us)) (Err (syntax_at (length us + 1))) ≡ Ok (t, us)
    go true e = refl
    go false e = absurd (false≢true e)

pub taken_at : (ts : List token.Token) (at : ℕ) (k : TokenKind) (d : token.Token) → starts (behind ts at) (k ∷ []) ≡ true
    → take_one k (behind ts at) ≡ Ok (with_number (at + 1) (view (get_or ts at d)), behind ts (at + 1))
taken_at ts at k d s =
    let e = behind_at ts at d (is_within ts at k s) in
    rw e (taken_first k (with_number (at + 1) (view (get_or ts at d))) (behind ts (at + 1)) (rw e at s))
