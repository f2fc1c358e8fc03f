-- The items of a program of units, as the storage map tells them.
use Rattle.std.specs.Prelude.{ℕ, ◌+◌, List, [], ◌∷◌, ◌++◌, map, Bool, true, false, Option, None, Some, slice_get, slice_index, slice_index_or}
use Rattle.cw_unit.specs.declared.unit.Unit.{Unit as SourceUnit}
use Rattle.cw_unit.specs.declared.unit.Item.{Item}
use Rattle.cw_unit.specs.declared.unit.Proc.{Proc}
use Rattle.cw_unit.specs.declared.unit.Home.{Home}
use Rattle.cw_unit.specs.declared.unit.Home.TheVariants as home
use Rattle.cw_unit.specs.declared.layout.Layout.{Layout}
use Rattle.cw_unit.specs.Allocation.{Name}
use Rattle.cw_unit.specs.Storage.{layout_of}
use Rattle.cw_unit.specs.Program.{Program, layout_at, position_of, is_frame_family, item_address}
use Rattle.cw_list.specs.Listing.{map_listing}
use Rattle.cw_list.specs.declared.row.Row.{Row}

abbrev pub is_common : Home → Bool
is_common (home.Common d) = true
is_common _ = false

abbrev pub procedure_name : Option Proc → Option Name
procedure_name None = None
procedure_name (Some q) = Some q.name

abbrev pub owner_of : List Proc → Option ℕ → Option Name
owner_of qs None = None
owner_of qs (Some q) = procedure_name (slice_get qs q)

-- the same from the layout of one segment and the addresses of its families
abbrev pub home_in : Layout → (item : ℕ) → ℕ × ℕ
home_in l n = slice_index_or l.homes n (0, 0)

abbrev pub frame_in : Layout → (item : ℕ) → Bool
frame_in l n = is_frame_family (slice_get l.families (home_in l n).0)

abbrev pub address_in : Layout → (addresses : List ℕ) → (item : ℕ) → ℕ
address_in l addresses n = slice_index addresses (home_in l n).0 + (home_in l n).1

-- the row of an item of a unit, which stands there, maybe in a frame
abbrev pub row_at : SourceUnit → Item → (frame : Bool) → (address : ℕ) → Row
row_at u i frame address =
    record {
      segment = u.name;
      procedure = owner_of u.procs i.owner;
      name = i.name;
      line = i.line;
      kind = i.kind;
      common = is_common i.home;
      frame = frame;
      address = address;
      words = i.words;
    }

abbrev pub row_in : SourceUnit → Layout → (addresses : List ℕ) → (item : ℕ) → Item → Row
row_in u l addresses n i = row_at u i (frame_in l n) (address_in l addresses n)

abbrev pub segment_rows : SourceUnit → Layout → (addresses : List ℕ) → (n : ℕ) → List Item → List Row
segment_rows u l addresses n [] = []
segment_rows u l addresses n (i ∷ is) = row_in u l addresses n i ∷ segment_rows u l addresses (n + 1) is

-- ---- of a program

-- whether an item stands in a frame
abbrev pub in_frame : Program → (segment item : ℕ) → Bool
in_frame p g n = is_frame_family (slice_get (layout_at p g).families (position_of p g n).0)

-- the address where it stands, in a frame that of the frame's first word being 0
abbrev pub row_of : Program → (segment : ℕ) → SourceUnit → (item : ℕ) → Item → Row
row_of p g u n i = row_at u i (in_frame p g n) (item_address p g n 0)

abbrev pub rows_in : Program → (segment : ℕ) → SourceUnit → (n : ℕ) → List Item → List Row
rows_in p g u n [] = []
rows_in p g u n (i ∷ is) = row_of p g u n i ∷ rows_in p g u (n + 1) is

abbrev pub rows_from : Program → (segment : ℕ) → List SourceUnit → List Row
rows_from p g [] = []
rows_from p g (u ∷ us) = rows_in p g u 0 u.items ++ rows_from p (g + 1) us

abbrev pub layouts_of : List SourceUnit → List Layout
layouts_of us = map layout_of us

-- all items in order of segment and place in the text
abbrev pub rows_of : Program → List Row
rows_of p = rows_from p 0 p.units

-- the text of a program's storage map
abbrev pub program_listing : Program → List ℕ
program_listing p = map_listing (rows_of p) p.limits
