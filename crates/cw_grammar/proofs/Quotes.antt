-- Strings without their quotes, byte by byte.
use Rattle.std.proofs.Common.{◌≡◌, ◌∙◌, ℕ, ◌+◌, ◌<◌, ◌≤◌, ◌==◌, true, false, List, [], ◌∷◌, ◌++◌, length, drop, refl, ap, sym, arith, get_or, append_assoc}
use Rattle.std.proofs.lemmas.List.{drop_all, drop_more, append-nil}
use Rattle.cw_grammar.specs.Tokens.{unquoted}

plain : (b : ℕ) (w : List ℕ) → (b == 34) ≡ false → unquoted (b ∷ w) ≡ b ∷ unquoted w
plain b [] e = rw e refl
plain b (c ∷ w) e = rw e refl

pub plain_step : (found text total : List ℕ) (at : ℕ) → at < length text → (get_or text at 0 == 34) ≡ false → found ++ unquoted (drop at text) ≡ total → (found ++ get_or text at 0 ∷ []) ++ unquoted (drop (at + 1) text) ≡ total
plain_step found text total at h e so_far =
    let here : drop at text ≡ get_or text at 0 ∷ drop (at + 1) text = drop_more text at 0 h in
    let step : unquoted (drop at text) ≡ get_or text at 0 ∷ unquoted (drop (at + 1) text) = ap unquoted here ∙ plain (get_or text at 0) (drop (at + 1) text) e in
    append_assoc found (get_or text at 0 ∷ []) (unquoted (drop (at + 1) text)) ∙ ap (λ (z : List ℕ). found ++ z) (sym step) ∙ so_far
