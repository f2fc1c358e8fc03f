-- Tables that find the first declaration of a name.
use Rattle.std.specs.Prelude.{◌≡◌, ℕ, ◌<◌, List, length, nat_eq, Bool, Some, None, slice_get, option_and_then, if◌then◌else◌}
use Rattle.std.specs.Option.{option_or}
use Rattle.std.specs.Cmp.Lexicographic.{pointwise}
use Rattle.std.specs.declared.hash.FoldHasher.{FoldHasher}
use Rattle.std.specs.declared.hash.BuildHasherDefault.{BuildHasherDefault}
use Rattle.indexmap.specs.IndexMap.{IndexMap, get}
use Rattle.cw_scope.specs.declared.key.Key.{Key}
use Rattle.cw_facts.specs.declared.fact.Declaration.{Declaration}
use Rattle.cw_scope.specs.Scope.{declared_in}

abbrev pub key : List ℕ → Key
key name = record { name = name }

abbrev pub key_eq : Key → Key → Bool
key_eq a b = pointwise nat_eq a.name b.name

abbrev pub Places : Type 0
Places = IndexMap Key ℕ (BuildHasherDefault FoldHasher)

-- the table has the place of the first declaration of each name
pub record Finds (first : Places) (all : List Declaration) : Type 0 where
  pub each : (name : List ℕ) → option_and_then (slice_get all) (get key_eq first (key name)) ≡ declared_in all name
  pub inside : (name : List ℕ) (i : ℕ) → get key_eq first (key name) ≡ Some i → i < length all

-- a place is noted for a name that has none
abbrev pub NotesFirst : Places → Places → Key → (at : ℕ) → Type 0
NotesFirst old new k at = (q : Key) → get key_eq new q ≡ option_or (get key_eq old q) (if key_eq k q then Some at else None)
