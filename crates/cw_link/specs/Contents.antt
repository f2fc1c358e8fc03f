-- What a linker takes from an object: of each kind the values of those payloads that are of the form.
use Rattle.std.specs.Prelude.{ℕ, List, [], ◌∷◌, drop}
use Rattle.cw_unit.specs.declared.descriptor.Desc.{Desc}
use Rattle.cw_unit.specs.declared.layout.Family.{Family}
use Rattle.cw_unit.specs.declared.layout.Preset.{Preset}
use Rattle.cw_unit.specs.declared.layout.Reloc.{Reloc}
use Rattle.cw_unit.specs.declared.layout.Body.{Body}
use Rattle.cw_view.specs.declared.view.View.{View}
use Rattle.cw_fields.specs.Fields.{Reader}
use Rattle.cw_view.specs.Reading.{descriptor_in, family_in, preset_in, relocation_in, definition_in, body_facts_in}
use Rattle.cw_view.specs.Splitting.{payloads_in}
pub use Rattle.cw_view.specs.Values.{kept, values_in}

abbrev pub records_of : {A : Type 0} → Reader A → (kind : ℕ) → View → List A
records_of read kind view = values_in read (payloads_in kind (drop 6 view.bytes.now))

-- an object has one body
abbrev pub first_body : List Body → Body
first_body [] = record { entry = 0; need = 0; tokens = 0 }
first_body (b ∷ bs) = b

pub record Contents : Type 0 where
  pub name : List ℕ
  pub descs : List Desc
  pub families : List Family
  pub presets : List Preset
  pub code : List ℕ
  pub relocs : List Reloc
  -- of a descriptor, and its place in the code
  pub definitions : List (ℕ × ℕ)
  pub body : Body

abbrev pub contents_of : View → Contents
contents_of view = record {
  name = view.name;
  descs = records_of descriptor_in 2 view;
  families = records_of family_in 3 view;
  presets = records_of preset_in 5 view;
  code = view.code.now;
  relocs = records_of relocation_in 7 view;
  definitions = records_of definition_in 8 view;
  body = first_body (records_of body_facts_in 9 view);
}
