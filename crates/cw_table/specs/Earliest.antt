-- The earliest of some things, whatever the order in which they are met.
use Rattle.std.specs.Prelude.{◌≡◌, List, [], ◌∷◌, Bool, false, Option, Some, None, Contains}

module _ {X : Type 0} (comes_before : X → X → Bool) where
  -- one of them before which none of them comes; of none, nothing
  abbrev pub IsEarliest : List X → Option X → Type 0
  IsEarliest xs None = xs ≡ []
  IsEarliest xs (Some x) = Contains xs x × ((y : X) → Contains xs y → comes_before y x ≡ false)

  abbrev pub with_first : Option X → List X → List X
  with_first None xs = xs
  with_first (Some x) xs = x ∷ xs

  -- what is kept, whatever was kept before, is the earliest of that and of all that are met
  pub record Keeps (kept : Option X → Option X) (met : List X) : Type 0 where
    pub earliest : (first : Option X) → IsEarliest (with_first first met) (kept first)
