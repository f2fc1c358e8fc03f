-- What the relocations of an object have to keep.
use Rattle.std.specs.Prelude.{◌≡◌, ℕ, ◌+◌, ◌≤◌, List, [], ◌∷◌, length, slice_index}
use Rattle.cw_unit.specs.declared.layout.Reloc.{Reloc}

-- The word of a relocation lies in the code and is 0; its sort is one of the nine, and a limit one of the four.
pub record FillsBlank (code : List ℕ) (r : Reloc) : Type 0 where
  pub inside : r.place + 2 ≤ length code
  pub low : slice_index code r.place ≡ 0
  pub high : slice_index code (r.place + 1) ≡ 0
  pub first_sort : 1 ≤ r.sort
  pub last_sort : r.sort ≤ 9
  pub limits : r.sort ≡ 8 → r.index ≤ 3

-- The words stand behind one another, the first one not before a place.
abbrev pub Rise : ℕ → List Reloc → Type 0
Rise from [] = Unit {0}
Rise from (r ∷ rs) = (from ≤ r.place) × Rise (r.place + 2) rs
