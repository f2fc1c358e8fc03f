-- What is said of tokens, row by row.
use Rattle.std.specs.Prelude.{◌≡◌, ℕ, zero, suc, List, [], ◌∷◌, nat_eq, Bool, Option, Some, None, option_map, option_and_then, slice_get, slice_index_or, if◌then◌else◌, find}
use Rattle.std.specs.Option.{option_or}
use Rattle.cw_table.specs.declared.table.Row.{Row}

-- by token: one more than a place, 0 where there is none
abbrev pub Places : Type 0
Places = List ℕ

abbrev pub place_noted : ℕ → Option ℕ
place_noted zero = None
place_noted (suc place) = Some place

abbrev pub place_in : Places → (token : ℕ) → Option ℕ
place_in places token = place_noted (slice_index_or places token 0)

module _ {T : Type 0} where
  abbrev pub stands_at : (token : ℕ) → Row T → Bool
  stands_at token r = nat_eq token r.token

  abbrev pub item_of : Row T → T
  item_of r = r.item

  -- the item of the first row of a token
  abbrev pub item_at : List (Row T) → (token : ℕ) → Option T
  item_at rs token = option_map item_of (find (stands_at token) rs)

  -- how many rows stand before the first one of a token
  abbrev pub place_at : List (Row T) → (token : ℕ) → Option ℕ
  place_at [] token = None
  place_at (r ∷ rs) token = if stands_at token r then Some 0 else option_map suc (place_at rs token)

  -- the place of each token is noted, where its first row stands
  pub record Finds (places : Places) (rs : List (Row T)) : Type 0 where
    pub numbered : (token : ℕ) → place_in places token ≡ place_at rs token
    pub found : (token : ℕ) → option_and_then (slice_get rs) (place_in places token) ≡ find (stands_at token) rs

-- a place is noted for a token that has none
abbrev pub NotesFirst : Places → Places → (token at : ℕ) → Type 0
NotesFirst old new k at = (q : ℕ) → place_in new q ≡ option_or (place_in old q) (if nat_eq k q then Some at else None)
