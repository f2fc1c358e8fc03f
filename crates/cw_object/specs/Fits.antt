-- Tests for values that fit the fields of an object.
use Rattle.std.specs.Prelude.{ℕ, ◌&&◌, ◌||◌, nat_eq, nat_lt, nat_le, Bool, true, false, List, length, Option, Some, None, ℤ}
use Rattle.std.specs.List.{list_all}
use Rattle.cw_word.specs.FixedPoint.{fits_word}
use Rattle.cw_unit.specs.declared.descriptor.Scale.{Scale}
use Rattle.cw_unit.specs.declared.descriptor.Desc.{Desc}
use Rattle.cw_unit.specs.declared.descriptor.DescBody.{DescBody}
use Rattle.cw_unit.specs.declared.descriptor.DescBody.TheVariants as bodies
use Rattle.cw_unit.specs.declared.descriptor.ElemDesc.{ElemDesc}
use Rattle.cw_unit.specs.declared.descriptor.Spec.{Spec, out-Spec}
use Rattle.cw_unit.specs.declared.descriptor.SpecParam.{SpecParam, SpecParam-F, out-SpecParam}
use Rattle.cw_unit.specs.declared.descriptor.SpecParam.TheOpen as takes
use Rattle.cw_unit.specs.declared.layout.Family.{Family}
use Rattle.cw_unit.specs.declared.layout.Preset.{Preset}
use Rattle.cw_unit.specs.declared.layout.Reloc.{Reloc}
use Rattle.cw_unit.specs.declared.layout.Body.{Body}
use Rattle.cw_view.specs.Payloads.{ItemEntry, sort_operand}
use Rattle.cw_fields.specs.Names.{is_name, is_empty, is_name_or_empty}

-- numbers of one, two and four bytes
abbrev pub is_byte : ℕ → Bool
is_byte n = nat_lt n 256

abbrev pub is_word : ℕ → Bool
is_word n = nat_lt n 65536

abbrev pub is_long : ℕ → Bool
is_long n = nat_lt n 4294967296

-- ---- descriptors

abbrev pub fits_scale : Scale → Bool
fits_scale s = is_byte s.t && is_byte s.f

abbrev pub fits_answer : Option Scale → Bool
fits_answer None = true
fits_answer (Some s) = fits_scale s

-- a parameter that is no procedure
abbrev pub fits_plain_layer : SpecParam-F SpecParam Spec → Bool
fits_plain_layer (takes.Value s) = fits_scale s
fits_plain_layer (takes.Location s) = fits_scale s
fits_plain_layer (takes.Array s) = fits_scale s
fits_plain_layer (takes.Table width) = is_word width
fits_plain_layer takes.Label = true
fits_plain_layer takes.Switch = true
fits_plain_layer (takes.Proc s) = false

abbrev pub fits_plain_parameter : SpecParam → Bool
fits_plain_parameter p = fits_plain_layer (out-SpecParam p)

-- a specification, by the test for its parameters
abbrev pub fits_spec : (SpecParam → Bool) → Spec → Bool
fits_spec fits s = fits_answer (out-Spec s).answer && (is_byte (length (out-Spec s).params) && list_all fits (out-Spec s).params)

abbrev pub fits_layer : SpecParam-F SpecParam Spec → Bool
fits_layer (takes.Proc s) = fits_spec fits_plain_parameter s
fits_layer p = fits_plain_layer p

abbrev pub fits_parameter : SpecParam → Bool
fits_parameter p = fits_layer (out-SpecParam p)

abbrev pub fits_bounds : ℤ × ℤ → Bool
fits_bounds d = fits_word d.0 && fits_word d.1

abbrev pub fits_element : ElemDesc → Bool
fits_element e = is_name e.name && (nat_le e.form 2 && (is_byte e.t && (is_byte e.f && (is_word e.word && is_byte e.bit))))

-- an array has one or two dimensions
abbrev pub is_few : ℕ → Bool
is_few n = nat_eq n 1 || nat_eq n 2

abbrev pub fits_body : DescBody → Bool
fits_body (bodies.Word s) = fits_scale s
fits_body (bodies.Array s dims) = fits_scale s && (is_few (length dims) && list_all fits_bounds dims)
fits_body (bodies.Table width len elems) = is_word width && (is_word len && (is_word (length elems) && list_all fits_element elems))
fits_body bodies.Label = true
fits_body bodies.Switch = true
fits_body (bodies.Proc s) = fits_spec fits_parameter s

abbrev pub fits_overlay : Option (ℕ × ℕ) → Bool
fits_overlay None = true
fits_overlay (Some base) = is_word base.0 && is_word base.1

abbrev pub fits_descriptor : Desc → Bool
fits_descriptor d = is_name d.name && (fits_overlay d.over && fits_body d.body)

-- ---- storage

abbrev pub fits_family : Family → Bool
fits_family f = is_word (sort_operand f.sort) && is_long f.extent

-- an item has a name or a line
abbrev pub fits_item : ItemEntry → Bool
fits_item i =
    is_name_or_empty i.owner
    && (is_name_or_empty i.name
    && (is_word i.line && ((is_empty i.name || nat_eq i.line 0) && (is_word i.family && (is_word i.offset && is_long i.words)))))

abbrev pub fits_preset : Preset → Bool
fits_preset p = is_word p.family && (is_word p.offset && is_word p.word)

-- ---- code

abbrev pub fits_relocation : Reloc → Bool
fits_relocation r = is_long r.place && (is_byte r.sort && (is_word r.index && is_word r.add))

abbrev pub fits_definition : ℕ × ℕ → Bool
fits_definition d = is_word d.0 && is_long d.1

abbrev pub fits_body_facts : Body → Bool
fits_body_facts b = is_long b.entry && (is_word b.need && is_long b.tokens)

-- lines are numbered from 1
abbrev pub fits_statement : ℕ × ℕ → Bool
fits_statement s = is_long s.0 && (is_word s.1 && nat_le 1 s.1)
