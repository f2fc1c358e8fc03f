-- The front of a line: its end is looked for among the bytes that are shown, and not beyond them.
use Rattle.std.proofs.Common.{◌≡◌, ◌∙◌, ℕ, zero, suc, ◌+◌, List, [], ◌∷◌, take, Bool, true, false, cond, refl, ap, sym, arith}
use Rattle.std.specs.List.{prefix_len}

one_more : (n : ℕ) → 1 + n ≡ suc n
one_more n = omega arith

front_behind : {X : Type 0} (p : X → Bool) (n : ℕ) (x : X) (xs : List X) (goes_on : Bool)
    → take n (take (prefix_len p xs) xs) ≡ take (prefix_len p (take n xs)) (take n xs)
    → take (suc n) (take (cond goes_on (1 + prefix_len p xs) 0) (x ∷ xs)) ≡ take (cond goes_on (1 + prefix_len p (take n xs)) 0) (x ∷ take n xs)
front_behind p n x xs true same =
    ap (λ m. take (suc n) (take m (x ∷ xs))) (one_more (prefix_len p xs))
    ∙ ap (λ ys. x ∷ ys) same
    ∙ sym (ap (λ m. take m (x ∷ take n xs)) (one_more (prefix_len p (take n xs))))
front_behind p n x xs false same = refl

pub front_of_line : {X : Type 0} (p : X → Bool) (n : ℕ) (xs : List X) → take n (take (prefix_len p xs) xs) ≡ take (prefix_len p (take n xs)) (take n xs)
front_of_line p zero [] = refl
front_of_line p zero (x ∷ xs) = refl
front_of_line p (suc n) [] = refl
front_of_line p (suc n) (x ∷ xs) = front_behind p n x xs (p x) (front_of_line p n xs)
