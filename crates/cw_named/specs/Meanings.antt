-- What names mean: the first definition of each, with its segment.
use Rattle.std.specs.Prelude.{◌≡◌, ℕ, List, Bool, Option, Some, None, nat_eq, if◌then◌else◌}
use Rattle.std.specs.Option.{option_or}
use Rattle.std.specs.Cmp.Lexicographic.{pointwise}
use Rattle.std.specs.declared.hash.FoldHasher.{FoldHasher}
use Rattle.std.specs.declared.hash.BuildHasherDefault.{BuildHasherDefault}
use Rattle.indexmap.specs.IndexMap.{IndexMap, get}
use Rattle.cw_unit.specs.declared.unit.Unit.{Unit as SourceUnit}
use Rattle.cw_unit.specs.declared.unit.Def.{Def}
use Rattle.cw_unit.specs.Allocation.{Name}
use Rattle.cw_unit.specs.Program.{definition_in, found_in, definition_from}
use Rattle.cw_named.specs.declared.key.Key.{Key}
use Rattle.cw_named.specs.declared.definitions.Definitions.{Definitions}
use Rattle.cw_named.specs.Spelled.{spelled}

abbrev pub Place : Type 0
Place = ℕ × Def

abbrev pub Places : Type 0
Places = IndexMap Key Place (BuildHasherDefault FoldHasher)

abbrev pub key_eq : Key → Key → Bool
key_eq a b = pointwise nat_eq (spelled a.name) (spelled b.name)

abbrev pub key : Name → Key
key name = record { name = Some name }

-- where a name is defined
abbrev pub place_in : Places → Name → Option Place
place_in first name = get key_eq first (key name)

abbrev pub place_of : Definitions → Name → Option Place
place_of d name = place_in d.first name

-- a place is noted for a name that has none
abbrev pub NotesFirst : Places → Places → Name → Place → Type 0
NotesFirst old new name at = (q : Name) → place_in new q ≡ option_or (place_in old q) (if pointwise nat_eq name q then Some at else None)

-- the definitions of a unit are noted for names that have none
abbrev pub NotesUnit : Places → Places → (segment : ℕ) → SourceUnit → Type 0
NotesUnit old new g u = (q : Name) → place_in new q ≡ option_or (place_in old q) (found_in g (definition_in u q u.defined) None)

-- each name has its first definition in these units
abbrev pub IsTableOf : List SourceUnit → Definitions → Type 0
IsTableOf units d = (name : Name) → place_of d name ≡ definition_from name 0 units
