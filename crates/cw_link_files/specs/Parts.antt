-- What `link` takes of its files, and the list of objects that it links. A file that begins with the mark of a library is a library; each other is a given
-- object. The list is the given objects in their order, and behind them the members that they need, in the order of the libraries and of their members.
use Rattle.std.specs.Prelude.{◌≡◌, ℕ, Bool, true, false, List, [], ◌∷◌, ◌++◌, map, take, slice_index_or}
use Rattle.std.specs.Str.{bytes_eq}
use Rattle.cw_view.specs.ObjectFormat.{IsObject}
use Rattle.cw_lib.specs.LibraryFormat.{mark, IsLibrary}
use Rattle.cw_pick.specs.Selection.{IsSelection}
use Rattle.cw_files.specs.Texts.{IsBad}
use Rattle.cw_files.specs.say.declared.status.Bad.{Bad}
use Rattle.cw_files.specs.say.declared.status.Bad.TheVariants.{Object, Library}

-- ---- files

-- a given object, or the members of a library
pub data Part : Type 0 where
  Given : (object : List ℕ) → Part
  Members : (members : List (List ℕ)) → Part

-- the bytes are taken for a library
abbrev pub begins_library : (bytes : List ℕ) → Bool
begins_library bytes = bytes_eq (take 4 bytes) mark

abbrev pub TellsPart : (is_library : Bool) → (bytes : List ℕ) → Part → Type 0
TellsPart true bytes (Members members) = IsLibrary bytes members
TellsPart false bytes (Given object) = IsObject bytes × (object ≡ bytes)
TellsPart is_library bytes part = ⊥

abbrev pub HasPart : (bytes : List ℕ) → Part → Type 0
HasPart bytes part = TellsPart (begins_library bytes) bytes part

-- why the bytes of a file are neither: what is wrong with them first as what they are taken for
abbrev pub IsBadPart : (bytes : List ℕ) → Bad → Type 0
IsBadPart bytes (Object fault) = (begins_library bytes ≡ false) × IsBad bytes (Object fault)
IsBadPart bytes (Library fault) = (begins_library bytes ≡ true) × IsBad bytes (Library fault)
IsBadPart bytes _ = ⊥

-- ---- the list

abbrev pub given_objects : List Part → List (List ℕ)
given_objects [] = []
given_objects (Given object ∷ parts) = object ∷ given_objects parts
given_objects (Members members ∷ parts) = given_objects parts

abbrev pub all_members : List Part → List (List ℕ)
all_members [] = []
all_members (Given object ∷ parts) = all_members parts
all_members (Members members ∷ parts) = members ++ all_members parts

-- where no object is given, the first member of the first library counts as the one that is
abbrev pub or_first : (objects members : List (List ℕ)) → List (List ℕ)
or_first [] members = take 1 members
or_first (object ∷ objects) members = object ∷ objects

abbrev pub picked_of : (members : List (List ℕ)) → (picked : List ℕ) → List (List ℕ)
picked_of members picked = map (λ k. slice_index_or members k []) picked

-- of given objects and of members
pub record IsListOf (objects members list : List (List ℕ)) : Type 0 where
  pub picked : List ℕ
  pub selection : IsSelection (or_first objects members) members picked
  pub joined : list ≡ or_first objects members ++ picked_of members picked

abbrev pub IsLinkList : List Part → (list : List (List ℕ)) → Type 0
IsLinkList parts list = IsListOf (given_objects parts) (all_members parts) list

-- There is one such list, and where no file is a library, it is the objects themselves.
abbrev pub HasOneLinkList : Type 0
HasOneLinkList = (parts : List Part) → (list : List (List ℕ)) × IsLinkList parts list × ((others : List (List ℕ)) → IsLinkList parts others → others ≡ list)

abbrev pub LinksObjectsAlone : Type 0
LinksObjectsAlone = (objects list : List (List ℕ)) → IsLinkList (map Given objects) list → list ≡ objects
