-- What a linker takes from the bytes of an object, and from the object of a unit.
use Rattle.std.specs.Prelude.{◌≡◌, ℕ, List, [], ◌∷◌, drop, IsTrue}
use Rattle.cw_unit.specs.declared.unit.Unit.{Unit as SourceUnit}
use Rattle.cw_unit.specs.declared.layout.Layout.{Layout}
use Rattle.cw_view.specs.ObjectFormat.{IsObject}
use Rattle.cw_object.specs.IsWritable.{is_writable}
use Rattle.cw_tmpl.specs.declared.assembling.Code.{Code}
use Rattle.cw_fields.specs.Names.{name_in}
use Rattle.cw_view.specs.Reading.{descriptor_in, family_in, preset_in, relocation_in, definition_in, body_facts_in}
use Rattle.cw_view.specs.Splitting.{payloads_in}
use Rattle.cw_link.specs.Contents.{Contents, values_in, first_body}
use Rattle.cw_obj.specs.ReferenceObject.{definitions_of, body_of, object_records, object_bytes}

-- the payloads of a kind, behind the mark and the version
abbrev pub payloads_of : (kind : ℕ) → (bytes : List ℕ) → List (List ℕ)
payloads_of kind bytes = payloads_in kind (drop 6 bytes)

abbrev pub first_text : List (List ℕ) → List ℕ
first_text [] = []
first_text (text ∷ texts) = text

-- what the bytes of an object tell
abbrev pub contents_in : (bytes : List ℕ) → Contents
contents_in bytes = record {
  name = first_text (values_in name_in (payloads_of 1 bytes));
  descs = values_in descriptor_in (payloads_of 2 bytes);
  families = values_in family_in (payloads_of 3 bytes);
  presets = values_in preset_in (payloads_of 5 bytes);
  code = first_text (payloads_of 6 bytes);
  relocs = values_in relocation_in (payloads_of 7 bytes);
  definitions = values_in definition_in (payloads_of 8 bytes);
  body = first_body (values_in body_facts_in (payloads_of 9 bytes));
}

-- the object of a unit with this layout, this code and this need of control stack
abbrev pub object_with : SourceUnit → Layout → Code → (need : ℕ) → List ℕ
object_with u l c need = object_bytes (object_records u l c need c.statements)

-- what it tells
abbrev pub contents_with : SourceUnit → Layout → Code → (need : ℕ) → Contents
contents_with u l c need = record {
  name = u.name;
  descs = u.descs;
  families = l.families;
  presets = l.words;
  code = c.bytes;
  relocs = c.relocs;
  definitions = definitions_of c u.defined;
  body = body_of u c need;
}

-- The object of a unit is in the format, and tells what it was written from.
abbrev pub TellsItsUnit : Type 0
TellsItsUnit = (u : SourceUnit) (l : Layout) (c : Code) (need : ℕ) → IsTrue (is_writable u l c need)
    → IsObject (object_with u l c need) × (contents_in (object_with u l c need) ≡ contents_with u l c need)
