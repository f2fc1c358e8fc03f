-- What objects offer: the names of labels, switches and procedures that each lists, and the names that each defines.
use Rattle.std.specs.Prelude.{◌≡◌, ℕ, if◌then◌else◌, List, [], ◌∷◌, slice_get, option_map, Option, Some, Contains}
use Rattle.cw_unit.specs.declared.descriptor.Desc.{Desc}
use Rattle.cw_view.specs.Splitting.{Bytes}
use Rattle.cw_comm.specs.Agreement.{Name, wants_definition}
use Rattle.cw_pick.specs.declared.offer.Offer.{Offer}
use Rattle.cw_pick.specs.Selection.{kept, descriptors_of, definitions_of}

-- the names of those that want a definition
abbrev pub wanting : List Desc → List Name
wanting [] = []
wanting (d ∷ ds) = if wants_definition d.body then d.name ∷ wanting ds else wanting ds

abbrev pub name_of : Option Desc → Option Name
name_of d = option_map (λ x. x.name) d

-- the names of the descriptors of these numbers
abbrev pub defined : List Desc → List ℕ → List Name
defined ds [] = []
defined ds (n ∷ ns) = kept (name_of (slice_get ds n)) (defined ds ns)

abbrev pub offer_of : Bytes → Offer
offer_of object = record { lists = wanting (descriptors_of object); defines = defined (descriptors_of object) (definitions_of object) }

-- the offer of this number lists, or defines, the name
pub record ListsAt (offers : List Offer) (k : ℕ) (name : Name) : Type 0 where
  pub offer : Offer
  pub there : slice_get offers k ≡ Some offer
  pub lists : Contains offer.lists name

pub record DefinesAt (offers : List Offer) (k : ℕ) (name : Name) : Type 0 where
  pub offer : Offer
  pub there : slice_get offers k ≡ Some offer
  pub defines : Contains offer.defines name
