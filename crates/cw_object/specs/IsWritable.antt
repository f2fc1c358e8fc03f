-- The test for what a unit, its layout, its code and its need of control stack have to be so that their object is in the format.
use Rattle.std.specs.Prelude.{ℕ, ◌+◌, ◌&&◌, nat_lt, nat_le, Bool, true, List, [], ◌∷◌, length, slice_get}
use Rattle.std.specs.List.{list_all}
use Rattle.cw_unit.specs.declared.unit.Unit.{Unit as SourceUnit}
use Rattle.cw_unit.specs.declared.unit.Item.{Item}
use Rattle.cw_unit.specs.declared.unit.Def.{Def}
use Rattle.cw_unit.specs.declared.descriptor.Desc.{Desc}
use Rattle.cw_unit.specs.declared.layout.Layout.{Layout}
use Rattle.cw_unit.specs.declared.layout.Family.{Family}
use Rattle.cw_unit.specs.declared.layout.Preset.{Preset}
use Rattle.cw_unit.specs.declared.layout.Reloc.{Reloc}
use Rattle.cw_tmpl.specs.declared.assembling.Code.{Code}
use Rattle.cw_view.specs.Payloads.{ItemEntry}
use Rattle.cw_fields.specs.Names.{is_name}
use Rattle.cw_view.specs.ObjectFormat.{has_base, is_placed, is_named, has_words, has_preset, is_blank, has_index}
use Rattle.cw_obj.specs.ReferenceObject.{entries_from, definition_of, body_of}
use Rattle.cw_obj.specs.Writable.{tables}
use Rattle.cw_object.specs.Fits.{is_long, fits_descriptor, fits_family, fits_item, fits_preset, fits_relocation}
use Rattle.cw_object.specs.Fits.{fits_definition, fits_body_facts, fits_statement}

-- ---- before the code

-- with n descriptors before it
abbrev pub is_listed : (n : ℕ) → Desc → Bool
is_listed n d = fits_descriptor d && has_base n d.over

-- the descriptors from this number on
abbrev pub are_listed : (n : ℕ) → List Desc → Bool
are_listed n [] = true
are_listed n (d ∷ ds) = is_listed n d && are_listed (n + 1) ds

abbrev pub is_kept : (descriptors : ℕ) → Family → Bool
is_kept descriptors f = fits_family f && is_placed descriptors f.sort f.extent

abbrev pub is_entry : List Family → ItemEntry → Bool
is_entry families i = fits_item i && (is_named i && has_words i.offset i.words (slice_get families i.family))

-- the items from this number on
abbrev pub are_entries : (n : ℕ) → SourceUnit → Layout → List Item → Bool
are_entries n u l is = list_all (is_entry l.families) (entries_from n u l is)

abbrev pub is_set : List Family → Preset → Bool
is_set families p = fits_preset p && has_preset p.offset (slice_get families p.family)

-- ---- the code and what stands behind it

-- not below a place
abbrev pub is_filled : (descriptors : ℕ) → List Family → (code : List ℕ) → (low : ℕ) → Reloc → Bool
is_filled descriptors families code low r =
    fits_relocation r && (nat_le low r.place && (is_blank code r.place && has_index (tables descriptors families) r.sort r.index))

-- each above the word of the one before
abbrev pub are_filled : (descriptors : ℕ) → List Family → (code : List ℕ) → (low : ℕ) → List Reloc → Bool
are_filled descriptors families code low [] = true
are_filled descriptors families code low (r ∷ rs) = is_filled descriptors families code low r && are_filled descriptors families code (r.place + 2) rs

-- a descriptor, not below a number, with a place in the code
abbrev pub is_defined : (descriptors size low : ℕ) → ℕ × ℕ → Bool
is_defined descriptors size low d = fits_definition d && (nat_le low d.0 && (nat_lt d.0 descriptors && nat_lt d.1 size))

-- by rising descriptor
abbrev pub are_defined : (descriptors : ℕ) → Code → (low : ℕ) → List (ℕ × Def) → Bool
are_defined descriptors c low [] = true
are_defined descriptors c low (d ∷ ds) = is_defined descriptors (length c.bytes) low (definition_of c d) && are_defined descriptors c (d.0 + 1) ds

-- not below a place, and in the code
abbrev pub is_begun : (size low : ℕ) → ℕ × ℕ → Bool
is_begun size low s = fits_statement s && (nat_le low s.0 && nat_lt s.0 size)

-- by rising place
abbrev pub are_begun : (size low : ℕ) → List (ℕ × ℕ) → Bool
are_begun size low [] = true
are_begun size low (s ∷ ss) = is_begun size low s && are_begun size (s.0 + 1) ss

-- ---- the whole

-- what stands before the code
abbrev pub is_front : SourceUnit → Layout → Bool
is_front u l =
    is_name u.name
    && (are_listed 0 u.descs && (list_all (is_kept (length u.descs)) l.families && (are_entries 0 u l u.items && list_all (is_set l.families) l.words)))

-- the code's size, and its entry
abbrev pub is_coded : SourceUnit → Code → (need : ℕ) → Bool
is_coded u c need = is_long (length c.bytes) && (fits_body_facts (body_of u c need) && nat_lt c.entry (length c.bytes))

-- the code and what stands behind it
abbrev pub is_back : SourceUnit → Layout → Code → (need : ℕ) → Bool
is_back u l c need =
    is_coded u c need
    && (are_filled (length u.descs) l.families c.bytes 0 c.relocs && (are_defined (length u.descs) c 0 u.defined && are_begun (length c.bytes) 0 c.statements))

unfoldable pub is_writable : SourceUnit → Layout → Code → (need : ℕ) → Bool
is_writable u l c need = is_front u l && is_back u l c need
