-- Where names are defined, by their numbers.
use Rattle.std.specs.Prelude.{◌≡◌, ◌<◌, ℕ, ◌+◌, nat_eq, Bool, false, if◌then◌else◌, List, [], ◌∷◌, length}
use Rattle.std.specs.Prelude.{map, Option, Some, None, option_map, slice_get, slice_index_or}
use Rattle.cw_unit.specs.Allocation.{name_at}
use Rattle.cw_comm.specs.Agreement.{or_else}
use Rattle.cw_link.specs.Contents.{Contents}
use Rattle.cw_link.specs.Relocation.{word, entry_or_zero}
use Rattle.cw_link.specs.LinkedImage.{definition_from, definition_address}

abbrev pub has_number : ℕ → Option ℕ → Bool
has_number k None = false
has_number k (Some n) = nat_eq k n

-- the place of the first definition in a segment, the numbers of whose descriptors are these
abbrev pub numbered_in : (k : ℕ) → (numbers : List ℕ) → List (ℕ × ℕ) → Option ℕ
numbered_in k numbers [] = None
numbered_in k numbers (d ∷ more) = if has_number k (slice_get numbers d.0) then Some d.1 else numbered_in k numbers more

-- the address of the first, in segments from number g on, whose code begins at a place
abbrev pub numbered_from : (start g k : ℕ) → (numbers : List (List ℕ)) → List Contents → Option ℕ
numbered_from start g k numbers [] = None
numbered_from start g k numbers (c ∷ cs) =
    or_else (option_map (λ place. word (start + place)) (numbered_in k (slice_index_or numbers g []) c.definitions))
    (numbered_from (start + length c.code) (g + 1) k numbers cs)

-- each name's entry is the address of its definition
pub record TellsAddresses (names : List (List ℕ)) (start : ℕ) (cs : List Contents) (table : List (Option ℕ)) : Type 0 where
  pub count : length table ≡ length names
  pub at : (k : ℕ) → k < length names → slice_index_or table k None ≡ definition_from start (name_at names k) cs

-- the addresses of the definitions of each segment's descriptors
abbrev pub TellsDefinitions : List Contents → List (List ℕ) → Type 0
TellsDefinitions cs definitions = (g : ℕ) (c : Contents) → slice_get cs g ≡ Some c
    → slice_index_or definitions g [] ≡ map (λ d. definition_address cs d.name) c.descs

-- the same by the numbers of descriptors
abbrev pub definitions_by : List (Option ℕ) → List ℕ → List ℕ
definitions_by table numbers = map (λ n. entry_or_zero (slice_index_or table n None)) numbers
