-- Name resolution: the declaration to which a name refers at a place.
-- Official Definition of CORAL 66, "Scoping"; BS 5905, "Block structure".
use Rattle.std.specs.Prelude.{ℕ, List, [], ◌∷◌, nat_eq, Bool, Option, Some, None, find}
use Rattle.std.specs.Cmp.Lexicographic.{pointwise}
use Rattle.cw_facts.specs.declared.fact.Declaration.{Declaration}

-- the declarations of each block that encloses a place: the communicators first, the innermost block last
abbrev pub Environment : Type 0
Environment = List (List Declaration)

abbrev pub has_name : (name : List ℕ) → Declaration → Bool
has_name n d = pointwise nat_eq n d.name.name

-- the first declaration of a name in a block
abbrev pub declared_in : List Declaration → (name : List ℕ) → Option Declaration
declared_in ds n = find (has_name n) ds

abbrev pub or_else : Option Declaration → Option Declaration → Option Declaration
or_else (Some d) other = Some d
or_else None other = other

-- the declaration in the innermost block that has one
abbrev pub declaration_of : Environment → (name : List ℕ) → Option Declaration
declaration_of [] n = None
declaration_of (outer ∷ blocks) n = or_else (declaration_of blocks n) (declared_in outer n)
