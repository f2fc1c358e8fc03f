-- The payloads of an object's records, as they are spelled.
use Rattle.std.specs.Prelude.{◌≡◌, ℕ, ◌<◌, ◌≤◌, ◌^◌, ◌⊎◌, Bool, List, [], ◌∷◌, ◌++◌, length, IfSome, ℤ, FitsSigned}
use Rattle.std.specs.List.{AllByRecursion}
use Rattle.std.specs.Int.{w16, from_bool}
use Rattle.cw_word.specs.Name.{IsName}
use Rattle.cw_unit.specs.declared.descriptor.Scale.{Scale}
use Rattle.cw_unit.specs.declared.descriptor.Desc.{Desc}
use Rattle.cw_unit.specs.declared.descriptor.DescBody.{DescBody}
use Rattle.cw_unit.specs.declared.descriptor.DescBody.TheVariants as bodies
use Rattle.cw_unit.specs.declared.descriptor.ElemDesc.{ElemDesc}
use Rattle.cw_unit.specs.declared.descriptor.Spec.{Spec, out-Spec}
use Rattle.cw_unit.specs.declared.descriptor.SpecParam.{SpecParam, SpecParam-F, out-SpecParam}
use Rattle.cw_unit.specs.declared.descriptor.SpecParam.TheOpen as takes
use Rattle.cw_unit.specs.declared.unit.ItemKind.{ItemKind}
use Rattle.cw_unit.specs.declared.unit.ItemKind.TheVariants.{Single, Array, Table, Text, Loop}
use Rattle.cw_unit.specs.declared.layout.Family.{Family}
use Rattle.cw_unit.specs.declared.layout.Sort.{Sort}
use Rattle.cw_unit.specs.declared.layout.Sort.TheVariants as sorts
use Rattle.cw_unit.specs.declared.layout.Preset.{Preset}
use Rattle.cw_unit.specs.declared.layout.Reloc.{Reloc}
use Rattle.cw_unit.specs.declared.layout.Body.{Body}
use Rattle.cw_fields.specs.Fields.{IsByte, IsWord, IsLong, each, word_bytes, long_bytes, text_bytes, signed_bytes, optional_bytes}
use Rattle.cw_fields.specs.Names.{IsNameOrEmpty}

-- ---- descriptors

abbrev pub scale_bytes : Scale → List ℕ
scale_bytes s = s.t ∷ s.f ∷ []

abbrev pub FitsScale : Scale → Type 0
FitsScale s = IsByte s.t × IsByte s.f

-- A parameter that is no procedure, by its number and what it takes.
abbrev pub plain_layer_bytes : SpecParam-F SpecParam Spec → List ℕ
plain_layer_bytes (takes.Value s) = 0 ∷ scale_bytes s
plain_layer_bytes (takes.Location s) = 1 ∷ scale_bytes s
plain_layer_bytes (takes.Array s) = 2 ∷ scale_bytes s
plain_layer_bytes (takes.Table width) = 3 ∷ word_bytes width
plain_layer_bytes takes.Label = 4 ∷ []
plain_layer_bytes takes.Switch = 5 ∷ []
plain_layer_bytes (takes.Proc s) = []

abbrev pub FitsPlainLayer : SpecParam-F SpecParam Spec → Type 0
FitsPlainLayer (takes.Value s) = FitsScale s
FitsPlainLayer (takes.Location s) = FitsScale s
FitsPlainLayer (takes.Array s) = FitsScale s
FitsPlainLayer (takes.Table width) = IsWord width
FitsPlainLayer takes.Label = Unit {0}
FitsPlainLayer takes.Switch = Unit {0}
FitsPlainLayer (takes.Proc s) = ⊥

abbrev pub plain_parameter_bytes : SpecParam → List ℕ
plain_parameter_bytes p = plain_layer_bytes (out-SpecParam p)

abbrev pub FitsPlainParameter : SpecParam → Type 0
FitsPlainParameter p = FitsPlainLayer (out-SpecParam p)

-- The answer's scale, where there is one, and the parameters behind their number.
abbrev pub spec_bytes : (SpecParam → List ℕ) → Spec → List ℕ
spec_bytes spell s = optional_bytes scale_bytes (out-Spec s).answer ++ (length (out-Spec s).params ∷ each spell (out-Spec s).params)

abbrev pub FitsSpec : (SpecParam → Type 0) → Spec → Type 0
FitsSpec Fits s = IfSome (out-Spec s).answer FitsScale × IsByte (length (out-Spec s).params) × AllByRecursion Fits (out-Spec s).params

abbrev pub layer_bytes : SpecParam-F SpecParam Spec → List ℕ
layer_bytes (takes.Proc s) = 6 ∷ spec_bytes plain_parameter_bytes s
layer_bytes p = plain_layer_bytes p

abbrev pub FitsLayer : SpecParam-F SpecParam Spec → Type 0
FitsLayer (takes.Proc s) = FitsSpec FitsPlainParameter s
FitsLayer p = FitsPlainLayer p

abbrev pub parameter_bytes : SpecParam → List ℕ
parameter_bytes p = layer_bytes (out-SpecParam p)

abbrev pub FitsParameter : SpecParam → Type 0
FitsParameter p = FitsLayer (out-SpecParam p)

abbrev pub bound_bytes : ℤ × ℤ → List ℕ
bound_bytes d = signed_bytes d.0 ++ signed_bytes d.1

abbrev pub FitsBounds : ℤ × ℤ → Type 0
FitsBounds d = FitsSigned w16 d.0 × FitsSigned w16 d.1

abbrev pub element_bytes : ElemDesc → List ℕ
element_bytes e = text_bytes e.name ++ (e.form ∷ e.t ∷ e.f ∷ word_bytes e.word ++ (e.bit ∷ []))

pub record FitsElement (e : ElemDesc) : Type 0 where
  pub name : IsName e.name
  pub form : e.form ≤ 2
  pub t : IsByte e.t
  pub f : IsByte e.f
  pub word : IsWord e.word
  pub bit : IsByte e.bit

abbrev pub body_number : DescBody → ℕ
body_number (bodies.Word s) = 0
body_number (bodies.Array s dims) = 1
body_number (bodies.Table width len elems) = 2
body_number bodies.Label = 3
body_number bodies.Switch = 4
body_number (bodies.Proc s) = 5

abbrev pub body_bytes : DescBody → List ℕ
body_bytes (bodies.Word s) = scale_bytes s
body_bytes (bodies.Array s dims) = scale_bytes s ++ (length dims ∷ each bound_bytes dims)
body_bytes (bodies.Table width len elems) = word_bytes width ++ (word_bytes len ++ (word_bytes (length elems) ++ each element_bytes elems))
body_bytes bodies.Label = []
body_bytes bodies.Switch = []
body_bytes (bodies.Proc s) = spec_bytes parameter_bytes s

abbrev pub FitsBody : DescBody → Type 0
FitsBody (bodies.Word s) = FitsScale s
FitsBody (bodies.Array s dims) = FitsScale s × ((length dims ≡ 1) ⊎ (length dims ≡ 2)) × AllByRecursion FitsBounds dims
FitsBody (bodies.Table width len elems) = IsWord width × IsWord len × IsWord (length elems) × AllByRecursion FitsElement elems
FitsBody bodies.Label = Unit {0}
FitsBody bodies.Switch = Unit {0}
FitsBody (bodies.Proc s) = FitsSpec FitsParameter s

abbrev pub overlay_bytes : ℕ × ℕ → List ℕ
overlay_bytes base = word_bytes base.0 ++ word_bytes base.1

abbrev pub FitsOverlay : ℕ × ℕ → Type 0
FitsOverlay base = IsWord base.0 × IsWord base.1

-- name, number of the body's form, whether listed in LIBRARY, the overlay's base, body
abbrev pub descriptor_bytes : Desc → List ℕ
descriptor_bytes d = text_bytes d.name ++ (body_number d.body ∷ from_bool d.library ∷ optional_bytes overlay_bytes d.over ++ body_bytes d.body)

pub record FitsDescriptor (d : Desc) : Type 0 where
  pub name : IsName d.name
  pub over : IfSome d.over FitsOverlay
  pub body : FitsBody d.body

-- ---- storage

abbrev pub sort_number : Sort → ℕ
sort_number (sorts.Common d) = 0
sort_number sorts.Own = 1
sort_number (sorts.Absolute a) = 2
sort_number (sorts.Frame o) = 3

-- the descriptor, the address, or the offset in the frame
abbrev pub sort_operand : Sort → ℕ
sort_operand (sorts.Common d) = d
sort_operand sorts.Own = 0
sort_operand (sorts.Absolute a) = a
sort_operand (sorts.Frame o) = o

abbrev pub family_bytes : Family → List ℕ
family_bytes f = sort_number f.sort ∷ word_bytes (sort_operand f.sort) ++ long_bytes f.extent

pub record FitsFamily (f : Family) : Type 0 where
  pub operand : IsWord (sort_operand f.sort)
  pub extent : IsLong f.extent

-- an item, where a procedure's name or the item's own may be empty
pub record ItemEntry : Type 0 where
  pub owner : List ℕ
  pub name : List ℕ
  pub line : ℕ
  pub kind : ItemKind
  pub common : Bool
  pub family : ℕ
  pub offset : ℕ
  pub words : ℕ

abbrev pub item_kind_number : ItemKind → ℕ
item_kind_number kind = elim kind [ Single ↦ 0 | Array ↦ 1 | Table ↦ 2 | Text ↦ 3 | Loop ↦ 4 ]

abbrev pub item_bytes : ItemEntry → List ℕ
item_bytes i =
    text_bytes i.owner
    ++ (text_bytes i.name
    ++ (word_bytes i.line
    ++ (item_kind_number i.kind ∷ from_bool i.common ∷ word_bytes i.family ++ (word_bytes i.offset ++ long_bytes i.words))))

pub record FitsItem (i : ItemEntry) : Type 0 where
  pub owner : IsNameOrEmpty i.owner
  pub name : IsNameOrEmpty i.name
  pub line : IsWord i.line
  pub named : (i.name ≡ []) ⊎ (i.line ≡ 0)
  pub family : IsWord i.family
  pub offset : IsWord i.offset
  pub words : IsLong i.words

abbrev pub preset_bytes : Preset → List ℕ
preset_bytes p = word_bytes p.family ++ (word_bytes p.offset ++ word_bytes p.word)

pub record FitsPreset (p : Preset) : Type 0 where
  pub family : IsWord p.family
  pub offset : IsWord p.offset
  pub word : IsWord p.word

-- ---- code

abbrev pub relocation_bytes : Reloc → List ℕ
relocation_bytes r = long_bytes r.place ++ (r.sort ∷ word_bytes r.index ++ word_bytes r.add)

pub record FitsRelocation (r : Reloc) : Type 0 where
  pub place : IsLong r.place
  pub sort : IsByte r.sort
  pub index : IsWord r.index
  pub add : IsWord r.add

-- the descriptor, and the place in the code of what defines it
abbrev pub definition_bytes : ℕ × ℕ → List ℕ
definition_bytes d = word_bytes d.0 ++ long_bytes d.1

abbrev pub FitsDefinition : ℕ × ℕ → Type 0
FitsDefinition d = IsWord d.0 × IsLong d.1

abbrev pub body_facts_bytes : Body → List ℕ
body_facts_bytes b = long_bytes b.entry ++ (word_bytes b.need ++ long_bytes b.tokens)

pub record FitsBodyFacts (b : Body) : Type 0 where
  pub entry : IsLong b.entry
  pub need : IsWord b.need
  pub tokens : IsLong b.tokens

-- the place in the code at which a statement begins, and its line, from 1
abbrev pub statement_bytes : ℕ × ℕ → List ℕ
statement_bytes s = long_bytes s.0 ++ word_bytes s.1

abbrev pub FitsStatement : ℕ × ℕ → Type 0
FitsStatement s = IsLong s.0 × IsWord s.1 × (1 ≤ s.1)
