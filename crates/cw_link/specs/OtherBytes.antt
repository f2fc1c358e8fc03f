-- The bytes of the linked code that are in no relocated word.
use Rattle.std.specs.Prelude.{◌≢◌, ℕ, ◌+◌, List, [], ◌∷◌, length}
use Rattle.std.specs.List.{AllByRecursion}
use Rattle.cw_unit.specs.declared.layout.Reloc.{Reloc}
use Rattle.cw_link.specs.Contents.{Contents}

-- a place of the linked code is not in this word of a segment whose code begins there
abbrev pub IsApart : (start place : ℕ) → Reloc → Type 0
IsApart start k r = (k ≢ start + r.place) × (k ≢ start + r.place + 1)

-- it is in no relocated word of these segments
abbrev pub IsInNoWord : (start : ℕ) → List Contents → (place : ℕ) → Type 0
IsInNoWord start [] k = Unit {0}
IsInNoWord start (c ∷ cs) k = AllByRecursion (IsApart start k) c.relocs × IsInNoWord (start + length c.code) cs k
