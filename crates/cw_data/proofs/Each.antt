-- Parts that are judged one after another.
use Rattle.std.proofs.Common.{◌≡◌, ℕ, zero, suc, ◌+◌, ◌<◌, List, [], ◌∷◌, length, drop, get_or, Option, sym, ap, ◌∙◌, arith, add-one}
use Rattle.cw_scale.specs.declared.fault.Fault.{Fault}
use Rattle.cw_scale.specs.Faults.{Judgement, both}

module _ {X : Type 0} where
  drop_suc : (xs : List X) (i : ℕ) (x : X) → i < length xs → x ≡ get_or xs i x → drop i xs ≡ x ∷ drop (suc i) xs
  drop_suc [] i x h e = absurd (omega arith)
  drop_suc (y ∷ ys) zero x h e = ap (λ z. z ∷ ys) (sym e)
  drop_suc (y ∷ ys) (suc i) x h e = drop_suc ys i x (omega arith) e

  drop_at : (xs : List X) (i : ℕ) (x : X) → i < length xs → x ≡ get_or xs i x → drop i xs ≡ x ∷ drop (i + 1) xs
  drop_at xs i x h e = rw add-one (drop_suc xs i x h e)

  module _ (judged : X → Judgement) (each : List X → Judgement) (next : (x : X) (xs : List X) → each (x ∷ xs) ≡ both (judged x) (each xs)) where
    pub goes_on : (xs : List X) (i : ℕ) (x : X) (before after total : Option Fault) → i < length xs → x ≡ get_or xs i x → after ≡ judged x before
        → each (drop i xs) before ≡ total → each (drop (i + 1) xs) after ≡ total
    goes_on xs i x before after total h g e t =
        ap (each (drop (i + 1) xs)) e
        ∙ sym (ap (λ (J : Judgement). J before) (next x (drop (i + 1) xs)))
        ∙ sym (ap (λ (ys : List X). each ys before) (drop_at xs i x h g))
        ∙ t
