-- Tables by numbers of names: where names are listed, and which segments define them. Segments and descriptors count from 0.
use Rattle.std.specs.Prelude.{◌≡◌, ◌↔◌, ◌<◌, ◌≤◌, ℕ, ◌+◌, Bool, if◌then◌else◌, List, [], ◌∷◌, length, drop, replicate, slice_get, slice_index_or, Option, Some, None}
use Rattle.std.specs.Str.{bytes_eq}
use Rattle.cw_unit.specs.Allocation.{name_at}
use Rattle.cw_unit.specs.declared.descriptor.Desc.{Desc}
use Rattle.cw_comm.specs.declared.face.Face.{Face}
use Rattle.cw_comm.specs.declared.tables.Numbering.{Numbering}
use Rattle.cw_comm.specs.declared.tables.Tables.{Tables}
use Rattle.cw_comm.specs.Agreement.{Name, defines, definer_from, as_listed, wants_definition}
use Rattle.cw_comm.specs.Clashes.{Kind, Names, Defines, IsFirst}
use Rattle.cw_comm.specs.Numbered.{AreNumbered}

-- the first of these descriptors that has the name, counted from n on
abbrev pub place_from : (n : ℕ) → Name → List Desc → Option ℕ
place_from n name [] = None
place_from n name (d ∷ ds) = if bytes_eq name d.name then Some n else place_from (n + 1) name ds

-- the segment and the descriptor, or else what is known
abbrev pub listed_in : (segment : ℕ) → Option ℕ → Option (ℕ × ℕ) → Option (ℕ × ℕ)
listed_in g None other = other
listed_in g (Some d) other = Some (g, d)

-- the first listing of a name, in these segments, counted from g on
abbrev pub first_listing : (g : ℕ) → Name → List Face → Option (ℕ × ℕ)
first_listing g name [] = None
first_listing g name (f ∷ fs) = listed_in g (place_from 0 name f.descs) (first_listing (g + 1) name fs)

-- the definer, or else what is known
abbrev pub defined_in : (segment : ℕ) → Bool → Option ℕ → Option ℕ
defined_in g b other = if b then Some g else other

-- what each name's entry is
pub record TellsListings (names : List Name) (faces : List Face) (table : List (Option (ℕ × ℕ))) : Type 0 where
  pub count : length table ≡ length names
  pub at : (k : ℕ) → k < length names → slice_index_or table k None ≡ first_listing 0 (name_at names k) faces

pub record TellsDefiners (names : List Name) (faces : List Face) (table : List (Option ℕ)) : Type 0 where
  pub count : length table ≡ length names
  pub at : (k : ℕ) → k < length names → slice_index_or table k None ≡ definer_from 0 (name_at names k) faces

-- the entries of the names that a segment lists are its own
pub record TellsHere (names : List Name) (faces : List Face) (segment : ℕ) (table : List (Option (ℕ × ℕ))) : Type 0 where
  pub count : length table ≡ length names
  pub at : (k p : ℕ) (f : Face) → k < length names → slice_get faces segment ≡ Some f
      → place_from 0 (name_at names k) f.descs ≡ Some p → slice_index_or table k None ≡ Some (segment, p)

-- the entries of the names that a segment defines are its own, and no others
pub record TellsOwn (names : List Name) (faces : List Face) (segment : ℕ) (table : List (Option ℕ)) : Type 0 where
  pub count : length table ≡ length names
  pub at : (k : ℕ) → k < length names → (slice_index_or table k None ≡ Some segment) ↔ Defines faces segment (name_at names k)

-- whether a descriptor wants a definition, if it is there
abbrev pub TellsWanted : List Face → (segment descriptor : ℕ) → Bool → Type 0
TellsWanted faces g d wanted = (f : Face) (x : Desc) → slice_get faces g ≡ Some f → slice_get f.descs d ≡ Some x → wanted ≡ wants_definition x.body

-- two descriptors tell the same, if they are there
abbrev pub AreAlike : List Face → (segment descriptor other place : ℕ) → Type 0
AreAlike faces g d i p =
    (f e : Face) (x y : Desc) → slice_get faces g ≡ Some f → slice_get f.descs d ≡ Some x
    → slice_get faces i ≡ Some e → slice_get e.descs p ≡ Some y → as_listed f.descs x ≡ as_listed e.descs y

-- the first clash of a kind is at this descriptor, with an earlier segment
pub record IsFirstTold (P : Kind) (faces : List Face) (segment descriptor earlier : ℕ) : Type 0 where
  pub name : Name
  pub names : Names faces segment descriptor name
  pub first : IsFirst P segment descriptor earlier name

-- the first clash of a kind is in this segment, with an earlier one
abbrev pub IsFirstIn : Kind → Name → (earlier segment : ℕ) → Type 0
IsFirstIn P name i j = (d : ℕ) × IsFirst P j d i name

-- ---- the tables of the names of segments

-- the names are those of the segments, of which there are few
pub record IsNumbering (n : Numbering) : Type 0 where
  pub numbered : AreNumbered n.segments.now n.names.now n.numbers.now
  pub few : length n.segments.now ≤ 200

-- no name has an entry
pub record HaveNone (count : ℕ) (t : Tables) : Type 0 where
  pub listings : t.listings.items ≡ replicate count None
  pub definers : t.definers.items ≡ replicate count None

-- each name has an entry
pub record HaveEach (count : ℕ) (t : Tables) : Type 0 where
  pub listings : length t.listings.items ≡ count
  pub definers : length t.definers.items ≡ count

-- a segment is entered: the entries of the names that it lists or defines are its own, and the others stay
pub record Enter (n : Numbering) (segment : ℕ) (old new : Tables) : Type 0 where
  pub listings : length new.listings.items ≡ length old.listings.items
  pub definers : length new.definers.items ≡ length old.definers.items
  pub listed : (k : ℕ) (f : Face) → k < length n.names.now → slice_get n.segments.now segment ≡ Some f
      → slice_index_or new.listings.items k None ≡ listed_in segment (place_from 0 (name_at n.names.now k) f.descs) (slice_index_or old.listings.items k None)
  pub defined : (k : ℕ) (f : Face) → k < length n.names.now → slice_get n.segments.now segment ≡ Some f
      → slice_index_or new.definers.items k None ≡ defined_in segment (defines (name_at n.names.now k) f.descs f.defined) (slice_index_or old.definers.items k None)

-- the entries tell the first of the segments from one on
pub record TellFrom (n : Numbering) (segment : ℕ) (t : Tables) : Type 0 where
  pub each : HaveEach (length n.names.now) t
  pub listed : (k : ℕ) → k < length n.names.now → slice_index_or t.listings.items k None ≡ first_listing segment (name_at n.names.now k) (drop segment n.segments.now)
  pub defined : (k : ℕ) → k < length n.names.now → slice_index_or t.definers.items k None ≡ definer_from segment (name_at n.names.now k) (drop segment n.segments.now)

-- the entries are those of the segments before one
pub record TellBefore (n : Numbering) (segment : ℕ) (t : Tables) : Type 0 where
  pub each : HaveEach (length n.names.now) t
  pub past : (k g : ℕ) → k < length n.names.now → slice_index_or t.definers.items k None ≡ Some g → g < segment

-- the entries of the names that a segment lists or defines are its own
pub record TellOwn (n : Numbering) (segment : ℕ) (t : Tables) : Type 0 where
  pub here : TellsHere n.names.now n.segments.now segment t.listings.items
  pub own : TellsOwn n.names.now n.segments.now segment t.definers.items
