-- Tables that tell of each place whether it is among some.
use Rattle.std.specs.Prelude.{ℕ, ◌≡◌, ◌<◌, Bool, false, List, length, slice_index_or}

-- a table of the places below a number
pub record IsTable (size : ℕ) (has : ℕ → Bool) (table : List Bool) : Type 0 where
  pub length_is : length table ≡ size
  pub tells : (place : ℕ) → place < size → slice_index_or table place false ≡ has place
