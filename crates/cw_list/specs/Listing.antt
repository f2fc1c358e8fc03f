-- The storage map as text.
use Rattle.std.specs.Prelude.{ℕ, ◌+◌, ◌-◌, ◌/◌, ◌%◌, List, [], ◌∷◌, ◌++◌, flat_map, Bool, true, false}
use Rattle.std.specs.Prelude.{not, ◌&&◌, Option, None, Some, if◌then◌else◌, decimal, codes}
use Rattle.std.specs.List.{filter}
use Rattle.cw_unit.specs.declared.unit.ItemKind.{ItemKind}
use Rattle.cw_unit.specs.declared.unit.ItemKind.TheVariants.{Single, Array, Table, Text, Loop}
use Rattle.cw_unit.specs.declared.layout.Limits.{Limits}
use Rattle.cw_unit.specs.Allocation.{Name, is_same_name}
use Rattle.cw_list.specs.Order.{in_order}
use Rattle.cw_list.specs.declared.row.Row.{Row}

-- ---- a line

abbrev pub digit : ℕ → ℕ
digit n = 48 + n % 10

-- a number in five digits, with zeros in front
unfoldable pub five_digits : ℕ → List ℕ
five_digits n = digit (n / 10000) ∷ digit (n / 1000) ∷ digit (n / 100) ∷ digit (n / 10) ∷ digit n ∷ []

abbrev pub kind_name : ItemKind → List ℕ
kind_name Single = codes "WORD"
kind_name Array = codes "ARRAY"
kind_name Table = codes "TABLE"
kind_name Text = codes "STRING"
kind_name Loop = codes "LOOP"

-- what stands in front of the line of an item without a name
abbrev pub unnamed : ItemKind → List ℕ
unnamed Loop = codes "FOR@"
unnamed _ = codes "STRING@"

abbrev pub name_or_line : Option Name → ItemKind → (line : ℕ) → List ℕ
name_or_line (Some name) kind line = name
name_or_line None kind line = unnamed kind ++ decimal line

abbrev pub segment_owner : (segment : Name) → (procedure : Option Name) → List ℕ
segment_owner segment None = segment
segment_owner segment (Some procedure) = segment ++ codes "." ++ procedure

abbrev pub owner_name : Row → List ℕ
owner_name r = if r.common then codes "COMMON" else segment_owner r.segment r.procedure

-- an offset in a frame is told by its sign
abbrev pub sign : (frame : Bool) → List ℕ
sign frame = if frame then codes "+" else []

-- address, words, owner, name and kind
abbrev pub row_line : Row → List ℕ
row_line r =
    sign r.frame ++ five_digits r.address ++ codes " " ++ five_digits r.words ++ codes " " ++ owner_name r ++ codes "."
    ++ name_or_line r.name r.kind r.line ++ codes " " ++ kind_name r.kind ++ codes "\n"

abbrev pub row_lines : List Row → List ℕ
row_lines rs = flat_map row_line rs

-- where the frame area begins, and its words
abbrev pub frames_line : Limits → List ℕ
frames_line limits = five_digits (limits.area - limits.frames) ++ codes " " ++ five_digits limits.frames ++ codes " FRAMES\n"

-- ---- the lines in order

abbrev pub same_or_none : Option Name → Name → Bool
same_or_none None other = false
same_or_none (Some name) other = is_same_name name other

-- whether this is the COMMON item of a name
abbrev pub is_common_of : Name → Row → Bool
is_common_of name r = r.common && same_or_none r.name name

abbrev pub without_common : Option Name → List Row → List Row
without_common None rs = rs
without_common (Some name) rs = filter (λ r. not (is_common_of name r)) rs

-- a COMMON item has one line, that of the first that tells it
abbrev pub commons_once : List Row → List Row
commons_once [] = []
commons_once (r ∷ rs) = r ∷ (if r.common then without_common r.name (commons_once rs) else commons_once rs)

-- whether it is told with an offset in a frame, or not
abbrev pub stands_in_frame : (frame : Bool) → Row → Bool
stands_in_frame true r = r.frame
stands_in_frame false r = not r.frame

-- those at addresses by address, then segment, then place in the text; then those of frames
abbrev pub in_map_order : List Row → List Row
in_map_order rs = in_order (λ r. r.address) (filter (stands_in_frame false) rs) ++ filter (stands_in_frame true) rs

-- the map, from all items in order of segment and place in the text
abbrev pub map_listing : List Row → Limits → List ℕ
map_listing rs limits = row_lines (in_map_order (commons_once rs)) ++ frames_line limits
