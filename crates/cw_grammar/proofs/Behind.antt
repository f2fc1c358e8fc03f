-- The tokens from a place on.
use Rattle.std.proofs.Common.{◌≡◌, ◌∙◌, ℕ, suc, ◌+◌, ◌-◌, ◌<◌, ◌≤◌, List, [], ◌∷◌, length, map, drop, refl, ap, sym, arith, get_or, inl, inr}
use Rattle.std.proofs.lemmas.Bool.{cases_lt}
use Rattle.std.proofs.lemmas.List.{length-drop, drop_all, drop_more}
use Rattle.cw_lex.specs.declared.token.Token as token
use Rattle.cw_lex.specs.Lexical.{Lexeme, view}
use Rattle.cw_grammar.specs.Tokens.{Item, with_number, numbered, behind}

numbered_length : (n : ℕ) (ts : List token.Token) → length (numbered n (map view ts)) ≡ length ts
numbered_length n [] = refl
numbered_length n (t ∷ ts) = ap suc (numbered_length (n + 1) ts)

pub left_is : (ts : List token.Token) (at : ℕ) → length (behind ts at) ≡ length ts - at
unfolding behind
left_is ts at = numbered_length (at + 1) (drop at ts) ∙ length-drop at ts

pub behind_end : (ts : List token.Token) (at : ℕ) → length ts ≤ at → behind ts at ≡ []
unfolding behind
behind_end ts at h = rw (drop_all at ts h) refl

pub behind_at : (ts : List token.Token) (at : ℕ) (d : token.Token) → at < length ts → behind ts at ≡ with_number (at + 1) (view (get_or ts at d)) ∷ behind ts (at + 1)
unfolding behind
behind_at ts at d h = rw (drop_more ts at d h) refl

pub behind_again : (ts : List token.Token) (at : ℕ) → behind ts (length ts - length (behind ts at)) ≡ behind ts at
behind_again ts at =
    elim (cases_lt (length ts) at) [
      | inl h ↦ (let e : length ts - length (behind ts at) ≡ length ts = omega (arith, left_is ts at) in ap (behind ts) e ∙ behind_end ts (length ts) (omega arith) ∙ sym (behind_end ts at (omega arith)))
      | inr h ↦ (let e : length ts - length (behind ts at) ≡ at = omega (arith, left_is ts at) in ap (behind ts) e)
    ]

pub left_within : (ts : List token.Token) (at : ℕ) → length (behind ts at) ≤ length ts
left_within ts at = omega (arith, left_is ts at)
