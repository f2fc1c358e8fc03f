-- Numbers in rising order.
use Rattle.std.specs.Prelude.{ℕ, ◌+◌, ◌≤◌, List, [], ◌∷◌}

-- numbers each above the one before, the first of which is at least one number, and all below another
abbrev pub RisesFrom : (low : ℕ) → List ℕ → (high : ℕ) → Type 0
RisesFrom low [] high = low ≤ high
RisesFrom low (x ∷ xs) high = (low ≤ x) × RisesFrom (x + 1) xs high
