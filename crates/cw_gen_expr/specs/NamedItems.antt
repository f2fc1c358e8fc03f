-- The items that a body may name.
use Rattle.std.specs.Prelude.{ℕ, nat_eq, nat_le, List, [], ◌∷◌, Bool, true, false, ◌&&◌, Option, Some, None, slice_get}
use Rattle.cw_unit.specs.declared.layout.Sort.{Sort}
use Rattle.cw_unit.specs.declared.layout.Sort.TheVariants as sort
use Rattle.cw_unit.specs.declared.unit.Unit.{Unit as SourceUnit}
use Rattle.cw_unit.specs.declared.unit.Item.{Item}
use Rattle.cw_unit.specs.declared.unit.Param.{Param}
use Rattle.cw_unit.specs.declared.unit.Param.TheVariants as param
use Rattle.cw_unit.specs.Storage.{root_of, family_of}
use Rattle.cw_unit.specs.ValidStorage.{owner_in, sort_of_family}

-- ---- items with words

abbrev pub is_same_procedure : (who owner : Option ℕ) → Bool
is_same_procedure (Some p) (Some q) = nat_eq p q
is_same_procedure _ _ = false

-- a family that stands in a frame belongs to the procedure whose body names it
abbrev pub may_name : (who owner : Option ℕ) → Sort → Bool
may_name who owner (sort.Frame o) = is_same_procedure who owner
may_name who owner _ = true

abbrev pub item_has : SourceUnit → (who : Option ℕ) → (item : ℕ) → Option Item → (words : ℕ) → Bool
item_has u who i None n = false
item_has u who i (Some x) n = nat_le n x.words && may_name who (owner_in (slice_get u.items (root_of u i))) (sort_of_family u (family_of u i))

-- whether this is an item of so many words that the body of the segment, or of this procedure, may name
abbrev pub has_words : SourceUnit → (who : Option ℕ) → (item words : ℕ) → Bool
has_words u who i n = item_has u who i (slice_get u.items i) n

-- ---- parameters

-- the items of the parameters that take words have a property
abbrev pub ItemFits : (ℕ → Type 0) → Param → Type 0
ItemFits V (param.Value i s) = V i
ItemFits V (param.Location i s) = V i
ItemFits V (param.Array i s) = V i
ItemFits V (param.Table i n) = V i
ItemFits V _ = Unit {0}

abbrev pub ItemsFit : (ℕ → Type 0) → List Param → Type 0
ItemsFit V [] = Unit {0}
ItemsFit V (q ∷ qs) = ItemFits V q × ItemsFit V qs
