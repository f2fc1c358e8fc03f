-- The object file: a mark, a version, and records. Each record has a kind, the length of its payload, and the payload.
use Rattle.std.specs.Prelude.{◌≡◌, ℕ, ◌+◌, ◌<◌, ◌≢◌, ◌⊎◌, ◌==◌, ◌||◌, ◌&&◌, not, nat_lt, nat_le, Bool, true, false, if◌then◌else◌}
use Rattle.std.specs.Prelude.{List, [], ◌∷◌, ◌++◌, length, take, drop, slice_get, slice_index, Option, Some, None, is_some}
use Rattle.byteorder.specs.Endian.{little_number}
use Rattle.cw_word.specs.Name.{IsName}
use Rattle.cw_unit.specs.declared.descriptor.Desc.{Desc}
use Rattle.cw_unit.specs.declared.unit.ItemKind.{ItemKind}
use Rattle.cw_unit.specs.declared.unit.ItemKind.TheVariants.{Single, Array, Table, Text, Loop}
use Rattle.cw_unit.specs.declared.layout.Family.{Family}
use Rattle.cw_unit.specs.declared.layout.Sort.{Sort}
use Rattle.cw_unit.specs.declared.layout.Sort.TheVariants as sorts
use Rattle.cw_unit.specs.declared.layout.Preset.{Preset}
use Rattle.cw_unit.specs.declared.layout.Reloc.{Reloc}
use Rattle.cw_unit.specs.declared.layout.Body.{Body}
use Rattle.cw_view.specs.declared.view.View.{View}
use Rattle.cw_view.specs.declared.fault.ObjFault.{ObjFault}
use Rattle.cw_view.specs.declared.fault.ObjFault.TheVariants.{NotObject, BadVersion, Truncated, BadRecord, Trailing}
use Rattle.cw_fields.specs.Fields.{◌>>=◌, text_bytes, whole, word_bytes, long_bytes, IsLong}
use Rattle.cw_view.specs.Payloads.{ItemEntry, descriptor_bytes, FitsDescriptor, family_bytes, FitsFamily}
use Rattle.cw_view.specs.Payloads.{item_bytes, FitsItem, preset_bytes, FitsPreset, relocation_bytes}
use Rattle.cw_view.specs.Payloads.{FitsRelocation, definition_bytes, FitsDefinition, body_facts_bytes, FitsBodyFacts, statement_bytes, FitsStatement}
use Rattle.cw_fields.specs.Names.{is_empty, name_in}
use Rattle.cw_view.specs.Reading.{descriptor_in, family_in, item_in, preset_in, relocation_in, definition_in, body_facts_in, statement_in}

-- ---- records

pub data Record : Type 0 where
  SegmentName : List ℕ → Record
  Descriptor : Desc → Record
  StorageFamily : Family → Record
  StoredItem : ItemEntry → Record
  PresetWord : Preset → Record
  Code : List ℕ → Record
  Relocation : Reloc → Record
  Definition : ℕ × ℕ → Record
  BodyFacts : Body → Record
  Statement : ℕ × ℕ → Record
  End : Record

abbrev pub kind_of : Record → ℕ
kind_of (SegmentName name) = 1
kind_of (Descriptor d) = 2
kind_of (StorageFamily f) = 3
kind_of (StoredItem i) = 4
kind_of (PresetWord p) = 5
kind_of (Code bytes) = 6
kind_of (Relocation r) = 7
kind_of (Definition d) = 8
kind_of (BodyFacts b) = 9
kind_of (Statement s) = 10
kind_of End = 255

abbrev pub payload_of : Record → List ℕ
payload_of (SegmentName name) = text_bytes name
payload_of (Descriptor d) = descriptor_bytes d
payload_of (StorageFamily f) = family_bytes f
payload_of (StoredItem i) = item_bytes i
payload_of (PresetWord p) = preset_bytes p
payload_of (Code bytes) = bytes
payload_of (Relocation r) = relocation_bytes r
payload_of (Definition d) = definition_bytes d
payload_of (BodyFacts b) = body_facts_bytes b
payload_of (Statement s) = statement_bytes s
payload_of End = []

-- its numbers fit the fields
abbrev pub FitsRecord : Record → Type 0
FitsRecord (SegmentName name) = IsName name
FitsRecord (Descriptor d) = FitsDescriptor d
FitsRecord (StorageFamily f) = FitsFamily f
FitsRecord (StoredItem i) = FitsItem i
FitsRecord (PresetWord p) = FitsPreset p
FitsRecord (Code bytes) = Unit {0}
FitsRecord (Relocation r) = FitsRelocation r
FitsRecord (Definition d) = FitsDefinition d
FitsRecord (BodyFacts b) = FitsBodyFacts b
FitsRecord (Statement s) = FitsStatement s
FitsRecord End = Unit {0}

abbrev pub framed : (kind : ℕ) → (payload : List ℕ) → List ℕ
framed kind payload = kind ∷ long_bytes (length payload) ++ payload

abbrev pub record_bytes : Record → List ℕ
record_bytes r = framed (kind_of r) (payload_of r)

-- ---- what records tell to the next one. The records before are listed with the last one first.

pub record Facts : Type 0 where
  -- of the last record its kind, and the place or the descriptor with which a relocation, a definition or a statement begins
  pub kind : ℕ
  pub number : ℕ
  -- how many descriptors there are, and which family has a number
  pub descriptors : ℕ
  pub family : ℕ → Option Family
  pub code : List ℕ

abbrev pub last_kind : List Record → ℕ
last_kind [] = 0
last_kind (r ∷ before) = kind_of r

abbrev pub number_of : Record → ℕ
number_of (Relocation r) = r.place
number_of (Definition d) = d.0
number_of (Statement s) = s.0
number_of r = 0

abbrev pub last_number : List Record → ℕ
last_number [] = 0
last_number (r ∷ before) = number_of r

abbrev pub one_descriptor : Record → ℕ
one_descriptor (Descriptor d) = 1
one_descriptor r = 0

abbrev pub descriptor_count : List Record → ℕ
descriptor_count [] = 0
descriptor_count (r ∷ before) = descriptor_count before + one_descriptor r

abbrev pub one_family : Record → List Family
one_family (StorageFamily f) = f ∷ []
one_family r = []

abbrev pub families_of : List Record → List Family
families_of [] = []
families_of (r ∷ before) = families_of before ++ one_family r

abbrev pub code_or : List ℕ → Record → List ℕ
code_or code (Code bytes) = bytes
code_or code r = code

abbrev pub code_of : List Record → List ℕ
code_of [] = []
code_of (r ∷ before) = code_or (code_of before) r

abbrev pub facts_of : List Record → Facts
facts_of before = record {
  kind = last_kind before;
  number = last_number before;
  descriptors = descriptor_count before;
  family = slice_get (families_of before);
  code = code_of before;
}

-- ---- the rules

-- The kinds in their order: a name; descriptors, families, items, presets; the code; relocations, definitions; the facts of the body; in version 2
-- statements; the end.
abbrev pub can_follow : (version last kind : ℕ) → Bool
can_follow version last kind =
    if last == 0 then kind == 1
    else if nat_lt last 6 then nat_le last kind && nat_le 2 kind && nat_le kind 6
    else if nat_lt last 9 then nat_le last kind && nat_le 7 kind && nat_le kind 9
    else if last == 255 then false
    else (kind == 255) || ((version == 2) && (kind == 10))

abbrev pub has_base : (descriptors : ℕ) → Option (ℕ × ℕ) → Bool
has_base descriptors None = true
has_base descriptors (Some base) = nat_lt base.0 descriptors

-- a family is of an earlier descriptor, and a frame has at most 32,768 words
abbrev pub is_placed : (descriptors : ℕ) → Sort → (extent : ℕ) → Bool
is_placed descriptors (sorts.Common d) extent = nat_lt d descriptors
is_placed descriptors sorts.Own extent = true
is_placed descriptors (sorts.Absolute a) extent = true
is_placed descriptors (sorts.Frame o) extent = nat_le (o + extent) 32768

abbrev pub has_name : ItemKind → Bool
has_name Single = true
has_name Array = true
has_name Table = true
has_name Text = false
has_name Loop = false

-- strings and loops have no name and are not of a COMMON list
abbrev pub is_named : ItemEntry → Bool
is_named i = if has_name i.kind then not (is_empty i.name) else (is_empty i.name && not i.common)

abbrev pub has_words : (offset words : ℕ) → Option Family → Bool
has_words offset words None = false
has_words offset words (Some f) = nat_le (offset + words) f.extent

abbrev pub is_frame : Sort → Bool
is_frame (sorts.Frame o) = true
is_frame _ = false

abbrev pub has_preset : (offset : ℕ) → Option Family → Bool
has_preset offset None = false
has_preset offset (Some f) = not (is_frame f.sort) && nat_lt offset f.extent

-- whether both bytes of a word are in the code and are 0
abbrev pub is_blank : List ℕ → (place : ℕ) → Bool
is_blank code place = nat_lt (place + 1) (length code) && (slice_index code place == 0) && (slice_index code (place + 1) == 0)

abbrev pub has_index : Facts → (sort index : ℕ) → Bool
has_index facts sort index =
    if (sort == 1) || (sort == 2) then is_some (facts.family index)
    else if (sort == 4) || (sort == 5) then nat_lt index facts.descriptors
    else if sort == 8 then nat_le index 3
    else (sort == 3) || (sort == 6) || (sort == 7) || (sort == 9)

-- a number is by so much above that of the record before, where that is of the same kind
abbrev pub rises : (last_kind last_number kind by number : ℕ) → Bool
rises last_kind last_number kind by number = not (last_kind == kind) || nat_le (last_number + by) number

abbrev pub is_allowed : Facts → Record → Bool
is_allowed facts (SegmentName name) = true
is_allowed facts (Descriptor d) = has_base facts.descriptors d.over
is_allowed facts (StorageFamily f) = is_placed facts.descriptors f.sort f.extent
is_allowed facts (StoredItem i) = is_named i && has_words i.offset i.words (facts.family i.family)
is_allowed facts (PresetWord p) = has_preset p.offset (facts.family p.family)
is_allowed facts (Code bytes) = true
is_allowed facts (Relocation r) = is_blank facts.code r.place && rises facts.kind facts.number 7 2 r.place && has_index facts r.sort r.index
is_allowed facts (Definition d) = nat_lt d.0 facts.descriptors && nat_lt d.1 (length facts.code) && rises facts.kind facts.number 8 1 d.0
is_allowed facts (BodyFacts b) = nat_lt b.entry (length facts.code)
is_allowed facts (Statement s) = nat_lt s.0 (length facts.code) && rises facts.kind facts.number 10 1 s.0
is_allowed facts End = true

-- ---- objects

abbrev pub mark : List ℕ
mark = 67 ∷ 54 ∷ 54 ∷ 79 ∷ []

abbrev pub IsVersion : ℕ → Type 0
IsVersion v = (v ≡ 1) ⊎ (v ≡ 2)

abbrev pub header : (version : ℕ) → List ℕ
header v = mark ++ word_bytes v

abbrev pub front_bytes : (version : ℕ) → List Record → List ℕ
front_bytes v [] = header v
front_bytes v (r ∷ before) = front_bytes v before ++ record_bytes r

-- a record may come next
pub record IsNext (v : ℕ) (before : List Record) (r : Record) : Type 0 where
  pub in_order : can_follow v (last_kind before) (kind_of r) ≡ true
  pub fits : FitsRecord r
  pub short : IsLong (length (payload_of r))
  pub allowed : is_allowed (facts_of before) r ≡ true

-- each of these records may come after those before it
abbrev pub IsFront : (version : ℕ) → List Record → Type 0
IsFront v [] = Unit {0}
IsFront v (r ∷ before) = IsFront v before × IsNext v before r

-- the bytes are the object of these records
pub record IsObjectOf (bytes : List ℕ) (v : ℕ) (records : List Record) : Type 0 where
  pub version : IsVersion v
  pub front : IsFront v records
  pub ended : last_kind records ≡ 255
  pub spelled : bytes ≡ front_bytes v records

abbrev pub IsObject : List ℕ → Type 0
IsObject bytes = (v : ℕ) × (records : List Record) × IsObjectOf bytes v records

-- the payloads of a kind, in order
abbrev pub payload_if : (kind : ℕ) → Record → List (List ℕ)
payload_if kind r = if kind_of r == kind then payload_of r ∷ [] else []

abbrev pub payloads : (kind : ℕ) → List Record → List (List ℕ)
payloads kind [] = []
payloads kind (r ∷ before) = payloads kind before ++ payload_if kind r

-- ---- the first fault

-- whether the record that begins so is there to its end
abbrev pub is_complete : List ℕ → Bool
is_complete rest = nat_le 5 (length rest) && nat_le (5 + little_number 4 (drop 1 rest)) (length rest)

-- what is wrong behind records that may stand so, at this place of bytes of this length
pub data FailsBehind (v : ℕ) (before : List Record) (place len : ℕ) : List ℕ → ObjFault → Type 0 where
  no_end : last_kind before ≢ 255 → FailsBehind v before place len [] (Truncated len)
  out_of_order : {kind : ℕ} {rest : List ℕ} → last_kind before ≢ 255 → can_follow v (last_kind before) kind ≡ false
      → FailsBehind v before place len (kind ∷ rest) (BadRecord place)
  cut : {kind : ℕ} {rest : List ℕ} → can_follow v (last_kind before) kind ≡ true → is_complete (kind ∷ rest) ≡ false
      → FailsBehind v before place len (kind ∷ rest) (Truncated len)
  not_allowed : (kind : ℕ) (payload rest : List ℕ) → can_follow v (last_kind before) kind ≡ true → IsLong (length payload)
      → ((r : Record) → kind_of r ≡ kind → payload_of r ≡ payload → FitsRecord r → is_allowed (facts_of before) r ≡ true → ⊥)
      → FailsBehind v before place len (framed kind payload ++ rest) (BadRecord place)
  trailing : {byte : ℕ} {rest : List ℕ} → last_kind before ≡ 255 → FailsBehind v before place len (byte ∷ rest) (Trailing place)

pub data IsFirstObjectFault (bytes : List ℕ) : ObjFault → Type 0 where
  not_object : take 4 bytes ≢ take (length bytes) mark → IsFirstObjectFault bytes NotObject
  no_version : take 4 bytes ≡ take (length bytes) mark → length bytes < 6 → IsFirstObjectFault bytes (Truncated (length bytes))
  other_version : {v : ℕ} {rest : List ℕ} → bytes ≡ header v ++ rest → v < 65536 → (IsVersion v → ⊥) → IsFirstObjectFault bytes BadVersion
  behind : {v : ℕ} {before : List Record} {rest : List ℕ} {fault : ObjFault} → IsVersion v → IsFront v before
      → bytes ≡ front_bytes v before ++ rest → FailsBehind v before (length (front_bytes v before)) (length bytes)
      rest fault → IsFirstObjectFault bytes fault

-- ---- the same as it is read

abbrev pub record_in : (kind : ℕ) → (payload : List ℕ) → Option Record
record_in kind payload =
    if kind == 1 then (whole name_in payload >>= λ x. Some (SegmentName x))
    else if kind == 2 then (whole descriptor_in payload >>= λ x. Some (Descriptor x))
    else if kind == 3 then (whole family_in payload >>= λ x. Some (StorageFamily x))
    else if kind == 4 then (whole item_in payload >>= λ x. Some (StoredItem x))
    else if kind == 5 then (whole preset_in payload >>= λ x. Some (PresetWord x))
    else if kind == 6 then Some (Code payload)
    else if kind == 7 then (whole relocation_in payload >>= λ x. Some (Relocation x))
    else if kind == 8 then (whole definition_in payload >>= λ x. Some (Definition x))
    else if kind == 9 then (whole body_facts_in payload >>= λ x. Some (BodyFacts x))
    else if kind == 10 then (whole statement_in payload >>= λ x. Some (Statement x))
    else if kind == 255 then (if is_empty payload then Some End else None)
    else None

abbrev pub next_record : Facts → (kind : ℕ) → (payload : List ℕ) → Option Record
next_record facts kind payload = record_in kind payload >>= λ r. if is_allowed facts r then Some r else None

-- ---- what a view shows

pub record IsViewOf (view : View) (object : List ℕ) (v : ℕ) (records : List Record) : Type 0 where
  pub bytes : view.bytes.now ≡ object
  pub version : view.version ≡ v
  pub name : payloads 1 records ≡ text_bytes view.name ∷ []
  pub code : view.code.now ≡ code_of records
