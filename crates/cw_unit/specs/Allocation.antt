-- Storage allocation: where the families of a list of segments stand. It needs of a segment the names of its descriptors and its
-- families, whether they are those of a unit or those that an object tells.
use Rattle.std.specs.Prelude.{ℕ, zero, suc, ◌+◌, min, max, nat_eq, nat_lt, ◌&&◌, List, [], ◌∷◌, ◌++◌, map}
use Rattle.std.specs.Prelude.{length, Bool, false, Option, Some, None, slice_get, if◌then◌else◌}
use Rattle.std.specs.Str.{bytes_eq}
use Rattle.cw_unit.specs.declared.unit.Unit.{Unit as SourceUnit}
use Rattle.cw_unit.specs.declared.layout.Family.{Family}
use Rattle.cw_unit.specs.declared.layout.Map.{Map}
use Rattle.cw_unit.specs.declared.layout.Sort.{Sort}
use Rattle.cw_unit.specs.declared.layout.Sort.TheVariants as sort
use Rattle.cw_unit.specs.Storage.{layout_of}

abbrev pub Name : Type 0
Name = List ℕ

abbrev pub is_same_name : Name → Name → Bool
is_same_name = bytes_eq

-- the names of a segment's descriptors, and its families
pub record SegmentStorage : Type 0 where
  pub names : List Name
  pub families : List Family

abbrev pub storage_of : SourceUnit → SegmentStorage
storage_of u = record { names = map (λ d. d.name) u.descs; families = (layout_of u).families }

abbrev pub name_or_none : Option Name → Name
name_or_none None = []
name_or_none (Some name) = name

abbrev pub name_at : List Name → (descriptor : ℕ) → Name
name_at names d = name_or_none (slice_get names d)

-- ---- absolute families

-- the words from start up to end
pub record Range : Type 0 where
  pub start : ℕ
  pub end : ℕ

abbrev pub absolute_range : Sort → (extent : ℕ) → List Range
absolute_range (sort.Absolute a) extent = record { start = a; end = a + extent } ∷ []
absolute_range _ extent = []

abbrev pub absolute_ranges_in : List Family → List Range
absolute_ranges_in [] = []
absolute_ranges_in (f ∷ fs) = absolute_range f.sort f.extent ++ absolute_ranges_in fs

abbrev pub absolute_ranges : List SegmentStorage → List Range
absolute_ranges [] = []
absolute_ranges (g ∷ gs) = absolute_ranges_in g.families ++ absolute_ranges gs

-- ---- what is to be placed

-- families of one name in COMMON lists are one; every other is known by its segment and its number there
pub data FamilyKey : Type 0 where
  Shared : Name → FamilyKey
  Private : (segment family : ℕ) → FamilyKey

abbrev pub is_same_key : FamilyKey → FamilyKey → Bool
is_same_key (Shared a) (Shared b) = is_same_name a b
is_same_key (Shared a) (Private h k) = false
is_same_key (Private g n) (Shared b) = false
is_same_key (Private g n) (Private h k) = nat_eq g h && nat_eq n k

-- the extent that a family of a segment gives a name
abbrev pub extent_of_name : Name → List Name → Sort → (extent : ℕ) → ℕ
extent_of_name name names (sort.Common d) extent = if is_same_name name (name_at names d) then extent else 0
extent_of_name name names _ extent = 0

abbrev pub extent_in_segment : Name → List Name → List Family → ℕ
extent_in_segment name names [] = 0
extent_in_segment name names (f ∷ fs) = max (extent_of_name name names f.sort f.extent) (extent_in_segment name names fs)

-- a common family has the largest extent that any segment gives it
abbrev pub common_extent : Name → List SegmentStorage → ℕ
common_extent name [] = 0
common_extent name (g ∷ gs) = max (extent_in_segment name g.names g.families) (common_extent name gs)

abbrev pub extent_of_family : Option Family → ℕ
extent_of_family None = 0
extent_of_family (Some f) = f.extent

abbrev pub extent_in_storage : Option SegmentStorage → (family : ℕ) → ℕ
extent_in_storage None n = 0
extent_in_storage (Some s) n = extent_of_family (slice_get s.families n)

-- the extent of a family that the map has to place
abbrev pub key_extent : List SegmentStorage → FamilyKey → ℕ
key_extent ss (Shared name) = common_extent name ss
key_extent ss (Private g n) = extent_in_storage (slice_get ss g) n

-- neither absolute families nor those of frames are placed
abbrev pub placed_key : (segment : ℕ) → List Name → (family : ℕ) → Sort → List FamilyKey
placed_key g names n (sort.Common d) = Shared (name_at names d) ∷ []
placed_key g names n sort.Own = Private g n ∷ []
placed_key g names n (sort.Absolute a) = []
placed_key g names n (sort.Frame o) = []

abbrev pub keys_in_segment : (segment : ℕ) → List Name → (family : ℕ) → List Family → List FamilyKey
keys_in_segment g names n [] = []
keys_in_segment g names n (f ∷ fs) = placed_key g names n f.sort ++ keys_in_segment g names (n + 1) fs

-- in order of segment and of first place in the text
abbrev pub keys_from : (segment : ℕ) → List SegmentStorage → List FamilyKey
keys_from g [] = []
keys_from g (s ∷ ss) = keys_in_segment g s.names 0 s.families ++ keys_from (g + 1) ss

abbrev pub without : FamilyKey → List FamilyKey → List FamilyKey
without key [] = []
without key (k ∷ ks) = if is_same_key key k then without key ks else k ∷ without key ks

-- a common family is placed with the first segment that lists it
abbrev pub first_keys : List FamilyKey → List FamilyKey
first_keys [] = []
first_keys (k ∷ ks) = k ∷ without k (first_keys ks)

-- ---- first fit

-- whether the words from an address on have one in a range
abbrev pub meets : (address extent : ℕ) → Range → Bool
meets a extent r = nat_lt (max a r.start) (min (a + extent) r.end)

-- the end of an absolute family that these words meet
abbrev pub met_end : List Range → (address extent : ℕ) → Option ℕ
met_end [] a extent = None
met_end (r ∷ rs) a extent = if meets a extent r then Some r.end else met_end rs a extent

-- passes an absolute family that is met, at most n of them
abbrev pub first_fit_within : (n : ℕ) → List Range → (extent address : ℕ) → ℕ
first_fit_within zero rs extent a = a
first_fit_within (suc n) rs extent a = elim (met_end rs a extent) [ None ↦ a | Some end ↦ first_fit_within n rs extent end ]

-- the least address that is not below this one and at which the words meet no absolute family
abbrev pub first_fit : List Range → (extent address : ℕ) → ℕ
first_fit rs extent a = first_fit_within (length rs) rs extent a

-- ---- the storage map

-- a family in its place
pub record Placed : Type 0 where
  pub key : FamilyKey
  pub start : ℕ
  pub extent : ℕ

-- each stands at the first fit that is not below the end of the one before
abbrev pub placed_from : List SegmentStorage → List Range → (last_end : ℕ) → List FamilyKey → List Placed
placed_from ss rs e [] = []
placed_from ss rs e (k ∷ ks) =
    let extent = key_extent ss k in
    let a = first_fit rs extent e in
    record { key = k; start = a; extent = extent } ∷ placed_from ss rs (a + extent) ks

abbrev pub last_end_of : (last_end : ℕ) → List Placed → ℕ
last_end_of e [] = e
last_end_of e (p ∷ ps) = last_end_of (p.start + p.extent) ps

abbrev pub placed_families : List SegmentStorage → List Placed
placed_families ss = placed_from ss (absolute_ranges ss) 0 (first_keys (keys_from 0 ss))

abbrev pub start_of : FamilyKey → List Placed → ℕ
start_of key [] = 0
start_of key (p ∷ ps) = if is_same_key key p.key then p.start else start_of key ps

-- the address of a family; a frame family's is its offset in the frame
abbrev pub family_address : List Placed → (segment : ℕ) → List Name → (family : ℕ) → Sort → ℕ
family_address ps g names n (sort.Common d) = start_of (Shared (name_at names d)) ps
family_address ps g names n sort.Own = start_of (Private g n) ps
family_address ps g names n (sort.Absolute a) = a
family_address ps g names n (sort.Frame o) = o

abbrev pub addresses_from : List Placed → (segment : ℕ) → List Name → (family : ℕ) → List Family → List ℕ
addresses_from ps g names n [] = []
addresses_from ps g names n (f ∷ fs) = family_address ps g names n f.sort ∷ addresses_from ps g names (n + 1) fs

abbrev pub homes_from : List Placed → (segment : ℕ) → List SegmentStorage → List (List ℕ)
homes_from ps g [] = []
homes_from ps g (s ∷ ss) = addresses_from ps g s.names 0 s.families ∷ homes_from ps (g + 1) ss

abbrev pub map_of : List SegmentStorage → Map
map_of ss = let ps = placed_families ss in record { homes = homes_from ps 0 ss; end = last_end_of 0 ps }

-- the storage map of a list of units
abbrev pub storage_map : List SourceUnit → Map
storage_map us = map_of (map storage_of us)
