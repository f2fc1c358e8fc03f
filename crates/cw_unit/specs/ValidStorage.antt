-- What makes a storage map valid: items share words exactly as OVERLAY declares it.
use Rattle.std.specs.Prelude.{◌≡◌, ◌≢◌, ◌↔◌, ℕ, ◌+◌, ◌-◌, ◌<◌, ◌≤◌, List, [], map, Option, Some, None, slice_get, slice_index, slice_index_or, ⊤}
use Rattle.std.specs.List.{All}
use Rattle.cw_unit.specs.declared.unit.Unit.{Unit as SourceUnit}
use Rattle.cw_unit.specs.declared.unit.Item.{Item}
use Rattle.cw_unit.specs.declared.unit.Home.TheVariants as home
use Rattle.cw_unit.specs.declared.layout.Family.{Family}
use Rattle.cw_unit.specs.declared.layout.Limits.{Limits}
use Rattle.cw_unit.specs.declared.layout.Map.{Map}
use Rattle.cw_unit.specs.declared.layout.Sort.{Sort}
use Rattle.cw_unit.specs.declared.layout.Sort.TheVariants as sort
use Rattle.cw_unit.specs.Storage.{layout_of, base_of, root_of, family_of, family_offset, frame_size}
use Rattle.cw_unit.specs.Allocation.{Name, FamilyKey, Shared, Private, absolute_ranges, storage_of, storage_map, name_at}

-- an item with its place: its family, the family's address, which for a frame family is its offset in the frame, its own offset in the
-- family, its words, and the procedure in whose frame the family stands
pub record StoredItem : Type 0 where
  pub segment : ℕ
  pub frame : Option ℕ
  pub family : FamilyKey
  pub sort : Sort
  pub start : ℕ
  pub offset : ℕ
  pub words : ℕ

-- items of equal common names are one
abbrev pub key_of : (segment : ℕ) → List Name → (family : ℕ) → Sort → FamilyKey
key_of g names n (sort.Common d) = Shared (name_at names d)
key_of g names n _ = Private g n

abbrev pub sort_in : Option Family → Sort
sort_in None = sort.Own
sort_in (Some f) = f.sort

abbrev pub owner_in : Option Item → Option ℕ
owner_in None = None
owner_in (Some i) = i.owner

abbrev pub sort_of_family : SourceUnit → (family : ℕ) → Sort
sort_of_family u n = sort_in (slice_get (layout_of u).families n)

abbrev pub as_stored : (segment : ℕ) → SourceUnit → (addresses : List ℕ) → (item : ℕ) → Item → StoredItem
as_stored g u addresses n i =
    record {
      segment = g;
      frame = owner_in (slice_get u.items (root_of u n));
      family = key_of g (storage_of u).names (family_of u n) (sort_of_family u (family_of u n));
      sort = sort_of_family u (family_of u n);
      start = slice_index addresses (family_of u n);
      offset = family_offset u n;
      words = i.words;
    }

-- x is an item of these units, with its place in this map
abbrev pub IsStored : List SourceUnit → Map → StoredItem → Type 0
IsStored us m x =
    (g n : ℕ) ×
    (u : SourceUnit) ×
    (i : Item) ×
    (slice_get us g ≡ Some u) ×
    (slice_get u.items n ≡ Some i) ×
    (x ≡ as_stored g u (slice_index_or m.homes g []) n i)

abbrev pub IsAbsolute : Sort → Type 0
IsAbsolute (sort.Absolute a) = ⊤
IsAbsolute _ = ⊥

abbrev pub IsInFrame : Sort → Type 0
IsInFrame (sort.Frame o) = ⊤
IsInFrame _ = ⊥

-- the word of an item at this distance from its first
abbrev pub word_of : StoredItem → (distance : ℕ) → ℕ
word_of x p = x.start + (x.offset + p)

abbrev pub frame_size_in : List SourceUnit → (segment : ℕ) → Option ℕ → ℕ
frame_size_in us g None = 0
frame_size_in us g (Some q) = elim (slice_get us g) [ None ↦ 0 | Some u ↦ frame_size u q ]

-- a unit whose storage is well formed: a base stands before what is overlaid on it, and an item of a frame has an owner
pub record IsStorable (u : SourceUnit) : Type 0 where
  pub base_before : (n : ℕ) (b : ℕ × ℕ) → base_of u n ≡ Some b → b.0 < n
  pub frame_owned : (n : ℕ) (i : Item) → slice_get u.items n ≡ Some i → i.home ≡ home.Frame → (q : ℕ) × (i.owner ≡ Some q)

-- what is placed ends before the frame area, and so do absolute families
pub record FitsArea (us : List SourceUnit) (limits : Limits) : Type 0 where
  pub placed : (storage_map us).end + limits.frames ≤ limits.area
  pub absolute : All (λ r. r.end + limits.frames ≤ limits.area) (absolute_ranges (map storage_of us))

-- what holds of two items
pub record Disjoint (x y : StoredItem) : Type 0 where
  -- items of one family share exactly the words in which their places there overlap
  pub overlaid : x.family ≡ y.family → (p q : ℕ) → p < x.words → q < y.words → (word_of x p ≡ word_of y q) ↔ (x.offset + p ≡ y.offset + q)
  -- items of two families share no word, unless both are absolute
  pub apart : x.family ≢ y.family → ¬ IsInFrame x.sort → ¬ IsInFrame y.sort → (p q : ℕ) → p < x.words → q < y.words
      → word_of x p ≡ word_of y q → IsAbsolute x.sort × IsAbsolute y.sort
  -- nor do those of two families of one frame
  pub apart_in_frame : x.family ≢ y.family → IsInFrame x.sort → IsInFrame y.sort → x.segment ≡ y.segment
      → x.frame ≡ y.frame → (p q : ℕ) → p < x.words → q < y.words → word_of x p ≢ word_of y q

-- what holds of one item
pub record InPlace (us : List SourceUnit) (limits : Limits) (x : StoredItem) : Type 0 where
  -- the frame area has no words of items but those of frames
  pub below_frames : ¬ IsInFrame x.sort → x.start + (x.offset + x.words) ≤ limits.area - limits.frames
  -- an absolute family stands at its number
  pub at_number : (a : ℕ) → x.sort ≡ sort.Absolute a → x.start ≡ a
  -- a family of a frame at its offset there
  pub at_offset : (o : ℕ) → x.sort ≡ sort.Frame o → x.start ≡ o
  -- an item of a frame is inside the frame
  pub inside_frame : IsInFrame x.sort → x.start + (x.offset + x.words) ≤ frame_size_in us x.segment x.frame

-- a valid storage map. Where the frames of activations stand is told by the semantics
pub record ValidStorageMap (us : List SourceUnit) (limits : Limits) (m : Map) : Type 0 where
  pub pairs : (x y : StoredItem) → IsStored us m x → IsStored us m y → Disjoint x y
  pub each : (x : StoredItem) → IsStored us m x → InPlace us limits x
