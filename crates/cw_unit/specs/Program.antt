-- Units read as one program: what the names that segments share mean, and where each item stands.
use Rattle.std.specs.Prelude.{ℕ, ◌+◌, List, [], ◌∷◌, map, Bool, true, false, Option, Some, None, slice_get, slice_index, slice_index_or, if◌then◌else◌}
use Rattle.cw_unit.specs.declared.unit.Unit.{Unit as SourceUnit}
use Rattle.cw_unit.specs.declared.unit.Def.{Def}
use Rattle.cw_unit.specs.declared.descriptor.Desc.{Desc}
use Rattle.cw_unit.specs.declared.layout.Family.{Family}
use Rattle.cw_unit.specs.declared.layout.Layout.{Layout}
use Rattle.cw_unit.specs.declared.layout.Limits.{Limits}
use Rattle.cw_unit.specs.declared.layout.Map.{Map}
use Rattle.cw_unit.specs.declared.layout.Sort.{Sort}
use Rattle.cw_unit.specs.declared.layout.Sort.TheVariants as sort
use Rattle.cw_unit.specs.Storage.{layout_of}
use Rattle.cw_unit.specs.Allocation.{Name, is_same_name, storage_map}

-- the units in order of the command's files, with their layouts, a storage map and the limits of the run
pub record Program : Type 0 where
  pub units : List SourceUnit
  pub layouts : List Layout
  pub addresses : Map
  pub limits : Limits

abbrev pub program_at : List SourceUnit → Map → Limits → Program
program_at us m limits = record { units = us; layouts = map layout_of us; addresses = m; limits = limits }

-- with the map that storage allocation gives
abbrev pub program_of : List SourceUnit → Limits → Program
program_of us limits = program_at us (storage_map us) limits

-- ---- items

abbrev pub no_layout : Layout
no_layout = record { families = []; homes = []; frames = []; words = [] }

abbrev pub layout_at : Program → (segment : ℕ) → Layout
layout_at p g = slice_index_or p.layouts g no_layout

-- an item's family and its offset there
abbrev pub position_of : Program → (segment item : ℕ) → ℕ × ℕ
position_of p g i = slice_index_or (layout_at p g).homes i (0, 0)

abbrev pub is_frame_sort : Sort → Bool
is_frame_sort (sort.Frame o) = true
is_frame_sort _ = false

abbrev pub is_frame_family : Option Family → Bool
is_frame_family None = false
is_frame_family (Some f) = is_frame_sort f.sort

abbrev pub family_address_at : Program → (segment family : ℕ) → ℕ
family_address_at p g n = slice_index (slice_index_or p.addresses.homes g []) n

-- the address of an item, where the frame at work begins at this base
abbrev pub item_address : Program → (segment item base : ℕ) → ℕ
item_address p g i base =
    let q = position_of p g i in
    (if is_frame_family (slice_get (layout_at p g).families q.0) then base else 0) + (family_address_at p g q.0 + q.1)

-- ---- names that segments share

abbrev pub name_in : Option Desc → Name
name_in None = []
name_in (Some d) = d.name

-- the name of a descriptor
abbrev pub name_of : SourceUnit → (descriptor : ℕ) → Name
name_of u d = name_in (slice_get u.descs d)

abbrev pub definition_in : SourceUnit → Name → List (ℕ × Def) → Option Def
definition_in u name [] = None
definition_in u name (d ∷ ds) = if is_same_name name (name_of u d.0) then Some d.1 else definition_in u name ds

abbrev pub found_in : (segment : ℕ) → Option Def → Option (ℕ × Def) → Option (ℕ × Def)
found_in g None other = other
found_in g (Some d) other = Some (g, d)

abbrev pub definition_from : Name → (segment : ℕ) → List SourceUnit → Option (ℕ × Def)
definition_from name g [] = None
definition_from name g (u ∷ us) = found_in g (definition_in u name u.defined) (definition_from name (g + 1) us)

abbrev pub definition_for : Program → Option SourceUnit → (descriptor : ℕ) → Option (ℕ × Def)
definition_for p None d = None
definition_for p (Some u) d = definition_from (name_of u d) 0 p.units

-- the segment that defines what a segment's descriptor names, and the definition there
abbrev pub definition_of : Program → (segment descriptor : ℕ) → Option (ℕ × Def)
definition_of p g d = definition_for p (slice_get p.units g) d
