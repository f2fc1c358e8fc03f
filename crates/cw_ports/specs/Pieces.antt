-- Pieces of the input that are in hand and of the output that are gathered, as windows of arrays.
use Rattle.std.specs.Prelude.{◌≡◌, ℕ, ◌+◌, ◌-◌, List, length, take, drop, Option, None, Some}
use Rattle.cw_io.specs.Bytes.{before_told, after_told}

-- the most bytes that an input may have
abbrev pub input_limit : ℕ
input_limit = 16777216

-- how many bytes are left, as far as it is told
abbrev pub left_count : Option (List ℕ) → ℕ
left_count None = 0
left_count (Some left) = length left

-- the bytes at these places
abbrev pub part : List ℕ → (from to : ℕ) → List ℕ
part bytes from to = take (to - from) (drop from bytes)

-- the source gave some bytes, and they are counted
abbrev pub Took : (old new : Option (List ℕ)) → (taken taken' : ℕ) → Type 0
Took old new taken taken' = (bytes : List ℕ) × (old ≡ before_told bytes new) × (taken' ≡ taken + length bytes)

-- the sink got some bytes
abbrev pub Wrote : (old new : Option (List ℕ)) → Type 0
Wrote old new = (bytes : List ℕ) × (new ≡ after_told old bytes)
