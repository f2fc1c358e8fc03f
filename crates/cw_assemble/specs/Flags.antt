-- Flags that tell of the first so many numbers which of them pass a test.
use Rattle.std.specs.Prelude.{◌≡◌, ℕ, ◌<◌, Bool, false, List, length, slice_index_or}

-- the flag of a number, false past the end
abbrev pub flag : List Bool → (number : ℕ) → Bool
flag flags k = slice_index_or flags k false

pub record AreFlags (flags : List Bool) (count : ℕ) (test : ℕ → Bool) : Type 0 where
  pub long : length flags ≡ count
  pub each : (k : ℕ) → k < count → flag flags k ≡ test k
