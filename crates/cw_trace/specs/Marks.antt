-- Offsets that are marked.
use Rattle.std.specs.Prelude.{◌≡◌, ℕ, ◌<◌, ◌==◌, Bool, List, Some, slice_get}
use Rattle.std.specs.List.{list_any}

-- the table tells of each offset of a segment whether it is one of the places
abbrev pub Marks : (places : List ℕ) → (table : List Bool) → Type 0
Marks places table = (k : ℕ) → k < 65536 → slice_get table k ≡ Some (list_any (λ place. place == k) places)
