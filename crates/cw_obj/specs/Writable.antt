-- What a unit, its storage and its code have to be so that the object of them is in the format; and what it is that a record may come next.
use Rattle.std.specs.Prelude.{◌≡◌, ℕ, ◌+◌, ◌<◌, ◌≤◌, true, List, [], ◌∷◌, length, map, slice_get}
use Rattle.cw_word.specs.Name.{IsName}
use Rattle.cw_unit.specs.declared.unit.Unit.{Unit as SourceUnit}
use Rattle.cw_unit.specs.declared.descriptor.Desc.{Desc}
use Rattle.cw_unit.specs.declared.layout.Layout.{Layout}
use Rattle.cw_unit.specs.declared.layout.Family.{Family}
use Rattle.cw_unit.specs.declared.layout.Preset.{Preset}
use Rattle.cw_unit.specs.declared.layout.Reloc.{Reloc}
use Rattle.cw_tmpl.specs.declared.assembling.Code.{Code as MadeCode}
use Rattle.cw_fields.specs.Fields.{text_bytes, IsLong}
use Rattle.cw_view.specs.Payloads.{ItemEntry, descriptor_bytes, family_bytes, item_bytes, preset_bytes, relocation_bytes}
use Rattle.cw_view.specs.Payloads.{definition_bytes, body_facts_bytes, statement_bytes}
use Rattle.cw_view.specs.Payloads.{FitsDescriptor, FitsFamily, FitsItem, FitsPreset, FitsRelocation, FitsDefinition, FitsBodyFacts, FitsStatement}
use Rattle.cw_view.specs.ObjectFormat.{Record, Facts, has_base, is_placed, is_named, has_words, has_preset, is_blank, has_index, IsObjectOf, payloads}
use Rattle.cw_obj.specs.ReferenceObject.{entries_from, definitions_of, body_of, object_records, object_bytes}

-- something that hangs on a number, which each value moves on
abbrev pub AllFrom : {A : Type 0} → (ℕ → A → Type 0) → (ℕ → A → ℕ) → (n : ℕ) → List A → Type 0
AllFrom P step n [] = Unit {0}
AllFrom P step n (x ∷ xs) = P n x × AllFrom P step (step n x) xs

abbrev pub by_one : {A : Type 0} → ℕ → A → ℕ
by_one n x = n + 1

abbrev pub the_same : {A : Type 0} → ℕ → A → ℕ
the_same n x = n

-- with n descriptors before it
pub record IsListed (n : ℕ) (d : Desc) : Type 0 where
  pub fits : FitsDescriptor d
  pub short : IsLong (length (descriptor_bytes d))
  pub base : has_base n d.over ≡ true

pub record IsKept (descriptors : ℕ) (f : Family) : Type 0 where
  pub fits : FitsFamily f
  pub placed : is_placed descriptors f.sort f.extent ≡ true

pub record IsEntry (families : List Family) (i : ItemEntry) : Type 0 where
  pub fits : FitsItem i
  pub named : is_named i ≡ true
  pub words : has_words i.offset i.words (slice_get families i.family) ≡ true

pub record IsSet (families : List Family) (p : Preset) : Type 0 where
  pub fits : FitsPreset p
  pub place : has_preset p.offset (slice_get families p.family) ≡ true

-- the facts that an index needs
abbrev pub tables : (descriptors : ℕ) → List Family → Facts
tables descriptors families = record { kind = 0; number = 0; descriptors = descriptors; family = slice_get families; code = [] }

-- not below a place
pub record IsFilled (descriptors : ℕ) (families : List Family) (code : List ℕ) (low : ℕ) (r : Reloc) : Type 0 where
  pub fits : FitsRelocation r
  pub after : low ≤ r.place
  pub blank : is_blank code r.place ≡ true
  pub index : has_index (tables descriptors families) r.sort r.index ≡ true

abbrev pub behind_word : ℕ → Reloc → ℕ
behind_word low r = r.place + 2

-- a descriptor, not below a number, with a place in the code
pub record IsDefined (descriptors : ℕ) (code : List ℕ) (low : ℕ) (d : ℕ × ℕ) : Type 0 where
  pub fits : FitsDefinition d
  pub after : low ≤ d.0
  pub listed : d.0 < descriptors
  pub inside : d.1 < length code

abbrev pub behind_number : ℕ → ℕ × ℕ → ℕ
behind_number low d = d.0 + 1

pub record IsBegun (code : List ℕ) (low : ℕ) (s : ℕ × ℕ) : Type 0 where
  pub fits : FitsStatement s
  pub after : low ≤ s.0
  pub inside : s.0 < length code

pub record IsWritable (u : SourceUnit) (l : Layout) (c : MadeCode) (need : ℕ) (places : List (ℕ × ℕ)) : Type 0 where
  pub name : IsName u.name
  pub descriptors : AllFrom IsListed by_one 0 u.descs
  pub families : AllFrom (λ n. IsKept (length u.descs)) the_same 0 l.families
  pub items : AllFrom (λ n. IsEntry l.families) the_same 0 (entries_from 0 u l u.items)
  pub presets : AllFrom (λ n. IsSet l.families) the_same 0 l.words
  pub code : IsLong (length c.bytes)
  pub relocations : AllFrom (IsFilled (length u.descs) l.families c.bytes) behind_word 0 c.relocs
  pub definitions : AllFrom (IsDefined (length u.descs) c.bytes) behind_number 0 (definitions_of c u.defined)
  pub body : FitsBodyFacts (body_of u c need)
  pub entry : c.entry < length c.bytes
  pub statements : AllFrom (IsBegun c.bytes) behind_number 0 places

-- records after others, with the last one first
abbrev pub onto : List Record → List Record → List Record
onto [] before = before
onto (r ∷ rs) before = onto rs (r ∷ before)

-- What is written is in the format.
abbrev pub WritesObjects : Type 0
WritesObjects =
    (u : SourceUnit) (l : Layout) (c : MadeCode) (need : ℕ) (places : List (ℕ × ℕ)) → IsWritable u l c need places
    → IsObjectOf (object_bytes (object_records u l c need places)) 2 (onto (object_records u l c need places) [])

-- What is written tells the unit, its storage and its code: of each kind of records the payloads are these, in order.
pub record Tells (u : SourceUnit) (l : Layout) (c : MadeCode) (need : ℕ) (places : List (ℕ × ℕ)) (records : List Record) : Type 0 where
  pub name : payloads 1 records ≡ text_bytes u.name ∷ []
  pub descriptors : payloads 2 records ≡ map descriptor_bytes u.descs
  pub families : payloads 3 records ≡ map family_bytes l.families
  pub items : payloads 4 records ≡ map item_bytes (entries_from 0 u l u.items)
  pub presets : payloads 5 records ≡ map preset_bytes l.words
  pub code : payloads 6 records ≡ c.bytes ∷ []
  pub relocations : payloads 7 records ≡ map relocation_bytes c.relocs
  pub definitions : payloads 8 records ≡ map definition_bytes (definitions_of c u.defined)
  pub body : payloads 9 records ≡ body_facts_bytes (body_of u c need) ∷ []
  pub statements : payloads 10 records ≡ map statement_bytes places

abbrev pub TellsUnits : Type 0
TellsUnits = (u : SourceUnit) (l : Layout) (c : MadeCode) (need : ℕ) (places : List (ℕ × ℕ))
    → Tells u l c need places (onto (object_records u l c need places) [])
