-- The object of a unit: the records that tell its descriptors, its storage, and its code.
use Rattle.std.specs.Prelude.{ℕ, ◌+◌, List, [], ◌∷◌, ◌++◌, map, Option, Some, None, slice_get, slice_index, slice_index_or, Bool, true, false}
use Rattle.cw_unit.specs.declared.unit.Unit.{Unit as SourceUnit}
use Rattle.cw_unit.specs.declared.unit.Item.{Item}
use Rattle.cw_unit.specs.declared.unit.Proc.{Proc}
use Rattle.cw_unit.specs.declared.unit.Home.{Home}
use Rattle.cw_unit.specs.declared.unit.Def.{Def}
use Rattle.cw_unit.specs.declared.unit.Def.TheVariants as def
use Rattle.cw_unit.specs.declared.unit.Home.TheVariants as home
use Rattle.cw_unit.specs.declared.layout.Layout.{Layout}
use Rattle.cw_unit.specs.declared.layout.Body.{Body}
use Rattle.cw_tmpl.specs.declared.assembling.Code.{Code as MadeCode}
use Rattle.std.specs.Int.{from_bool}
use Rattle.cw_fields.specs.Fields.{word_bytes, long_bytes}
use Rattle.cw_view.specs.Payloads.{ItemEntry, item_kind_number}
use Rattle.cw_view.specs.ObjectFormat.{Record, SegmentName, Descriptor, StorageFamily, StoredItem, PresetWord, Code}
use Rattle.cw_view.specs.ObjectFormat.{Relocation, Definition, BodyFacts, Statement, End, record_bytes, header}

abbrev pub name_or_none : Option (List ℕ) → List ℕ
name_or_none None = []
name_or_none (Some name) = name

abbrev pub proc_name : Option Proc → List ℕ
proc_name None = []
proc_name (Some p) = p.name

-- the procedure to which an item belongs
abbrev pub owner_name : SourceUnit → Option ℕ → List ℕ
owner_name u None = []
owner_name u (Some q) = proc_name (slice_get u.procs q)

abbrev pub is_common : Home → Bool
is_common (home.Common d) = true
is_common _ = false

-- an item with its place in its family
abbrev pub entry_of : SourceUnit → ℕ × ℕ → Item → ItemEntry
entry_of u place i = record {
  owner = owner_name u i.owner;
  name = name_or_none i.name;
  line = i.line;
  kind = i.kind;
  common = is_common i.home;
  family = place.0;
  offset = place.1;
  words = i.words;
}

abbrev pub entries_from : (n : ℕ) → SourceUnit → Layout → List Item → List ItemEntry
entries_from n u l [] = []
entries_from n u l (i ∷ is) = entry_of u (slice_index_or l.homes n (0, 0)) i ∷ entries_from (n + 1) u l is

abbrev pub items_from : (n : ℕ) → SourceUnit → Layout → List Item → List Record
items_from n u l is = map StoredItem (entries_from n u l is)

-- where the code of what defines a descriptor begins
abbrev pub definition_place : MadeCode → Def → ℕ
definition_place c (def.Proc q) = slice_index c.procedures q
definition_place c (def.Label l) = slice_index c.labels l
definition_place c (def.Switch s) = slice_index c.switches s

-- a descriptor with the place of its definition
abbrev pub definition_of : MadeCode → ℕ × Def → ℕ × ℕ
definition_of c d = (d.0, definition_place c d.1)

abbrev pub definitions_of : MadeCode → List (ℕ × Def) → List (ℕ × ℕ)
definitions_of c ds = map (definition_of c) ds

abbrev pub definition_records : MadeCode → List (ℕ × Def) → List Record
definition_records c ds = map Definition (definitions_of c ds)

abbrev pub body_of : SourceUnit → MadeCode → (need : ℕ) → Body
body_of u c need = record { entry = c.entry; need = need; tokens = u.tokens }

-- what stands before the code
abbrev pub front_records : SourceUnit → Layout → List Record
front_records u l = (SegmentName u.name ∷ map Descriptor u.descs) ++ (map StorageFamily l.families ++ (items_from 0 u l u.items ++ map PresetWord l.words))

-- the code and what stands behind it
abbrev pub back_records : SourceUnit → MadeCode → (need : ℕ) → (places : List (ℕ × ℕ)) → List Record
back_records u c need places =
    (Code c.bytes ∷ map Relocation c.relocs)
    ++ (definition_records c u.defined ++ (BodyFacts (body_of u c need) ∷ map Statement places ++ End ∷ []))

-- in the order in which they stand
abbrev pub object_records : SourceUnit → Layout → MadeCode → (need : ℕ) → (places : List (ℕ × ℕ)) → List Record
object_records u l c need places = front_records u l ++ back_records u c need places

abbrev pub records_bytes : List Record → List ℕ
records_bytes [] = []
records_bytes (r ∷ rs) = record_bytes r ++ records_bytes rs

-- the bytes of the object, version 2
abbrev pub object_bytes : List Record → List ℕ
object_bytes records = header 2 ++ records_bytes records

-- behind an item's names and its line
abbrev pub place_bytes : (place : ℕ × ℕ) → Item → List ℕ
place_bytes place i = item_kind_number i.kind ∷ from_bool (is_common i.home) ∷ word_bytes place.0 ++ (word_bytes place.1 ++ long_bytes i.words)
