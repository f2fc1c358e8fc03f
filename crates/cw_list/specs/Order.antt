-- Things in order of a number that each has.
use Rattle.std.specs.Prelude.{ℕ, nat_lt, List, [], ◌∷◌, if◌then◌else◌}

-- in front of those that have the same number
abbrev pub put_in : {X : Type 0} → (X → ℕ) → X → List X → List X
put_in number x [] = x ∷ []
put_in number x (y ∷ ys) = if nat_lt (number y) (number x) then y ∷ put_in number x ys else x ∷ (y ∷ ys)

-- those that have the same number stay in the order in which they stood
abbrev pub in_order : {X : Type 0} → (X → ℕ) → List X → List X
in_order number [] = []
in_order number (x ∷ xs) = put_in number x (in_order number xs)
