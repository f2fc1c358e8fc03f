-- The same payloads, as they are read.
use Rattle.std.specs.Prelude.{ℕ, ◌==◌, ◌||◌, ◌&&◌, nat_le, Bool, true, false, if◌then◌else◌, List, [], ◌∷◌, length, Option, Some, None, ℤ}
use Rattle.cw_unit.specs.declared.descriptor.Scale.{Scale}
use Rattle.cw_unit.specs.declared.descriptor.Desc.{Desc}
use Rattle.cw_unit.specs.declared.descriptor.DescBody.{DescBody}
use Rattle.cw_unit.specs.declared.descriptor.DescBody.TheVariants as bodies
use Rattle.cw_unit.specs.declared.descriptor.ElemDesc.{ElemDesc}
use Rattle.cw_unit.specs.declared.descriptor.Spec.{Spec}
use Rattle.cw_unit.specs.declared.descriptor.SpecParam.{SpecParam, roll-SpecParam}
use Rattle.cw_unit.specs.declared.descriptor.SpecParam.TheOpen as takes
use Rattle.cw_unit.specs.declared.unit.ItemKind.{ItemKind}
use Rattle.cw_unit.specs.declared.unit.ItemKind.TheVariants.{Single, Array, Table, Text, Loop}
use Rattle.cw_unit.specs.declared.layout.Family.{Family}
use Rattle.cw_unit.specs.declared.layout.Sort.{Sort}
use Rattle.cw_unit.specs.declared.layout.Sort.TheVariants as sorts
use Rattle.cw_unit.specs.declared.layout.Preset.{Preset}
use Rattle.cw_unit.specs.declared.layout.Reloc.{Reloc}
use Rattle.cw_unit.specs.declared.layout.Body.{Body}
use Rattle.cw_fields.specs.Fields.{Reader, ◌>>=◌, followed, both, meaning, counted, byte_in, word_in, long_in, signed_in, optional_in, flag_in}
use Rattle.cw_fields.specs.Names.{is_empty, name_in, name_or_empty_in}
use Rattle.cw_view.specs.Payloads.{ItemEntry}

-- ---- descriptors

abbrev pub scale_of : ℕ × ℕ → Option Scale
scale_of (t, f) = Some (record { t = t; f = f })

unfoldable pub scale_in : Reader Scale
scale_in bytes = meaning scale_of (both byte_in byte_in) bytes

-- the parameter of a number
abbrev pub plain_parameter_of : (number : ℕ) → Reader SpecParam
plain_parameter_of number bytes =
    if number == 0 then meaning (λ s. Some (roll-SpecParam (takes.Value s))) scale_in bytes
    else if number == 1 then meaning (λ s. Some (roll-SpecParam (takes.Location s))) scale_in bytes
    else if number == 2 then meaning (λ s. Some (roll-SpecParam (takes.Array s))) scale_in bytes
    else if number == 3 then meaning (λ width. Some (roll-SpecParam (takes.Table width))) word_in bytes
    else if number == 4 then Some (roll-SpecParam takes.Label, bytes)
    else if number == 5 then Some (roll-SpecParam takes.Switch, bytes)
    else None

abbrev pub plain_parameter_in : Reader SpecParam
plain_parameter_in bytes = byte_in bytes >>= λ number. plain_parameter_of number.0 number.1

abbrev pub parameters_in : Reader SpecParam → Reader (List SpecParam)
parameters_in parameter bytes = byte_in bytes >>= λ count. counted count.0 parameter count.1

abbrev pub spec_of : Option Scale × List SpecParam → Option Spec
spec_of (answer, params) = Some (record { answer = answer; params = params })

abbrev pub spec_in : Reader SpecParam → Reader Spec
spec_in parameter bytes = meaning spec_of (both (optional_in scale_in) (parameters_in parameter)) bytes

abbrev pub parameter_of : (number : ℕ) → Reader SpecParam
parameter_of number bytes =
    if number == 6 then meaning (λ s. Some (roll-SpecParam (takes.Proc s))) (spec_in plain_parameter_in) bytes
    else plain_parameter_of number bytes

abbrev pub parameter_in : Reader SpecParam
parameter_in bytes = byte_in bytes >>= λ number. parameter_of number.0 number.1

abbrev pub bounds_in : Reader (ℤ × ℤ)
bounds_in bytes = both signed_in signed_in bytes

abbrev pub few_dimensions : ℕ → Option ℕ
few_dimensions n = if (n == 1) || (n == 2) then Some n else None

abbrev pub dimensions_in : Reader (List (ℤ × ℤ))
dimensions_in bytes = meaning few_dimensions byte_in bytes >>= λ count. counted count.0 bounds_in count.1

abbrev pub element_of : List ℕ × (ℕ × (ℕ × (ℕ × (ℕ × ℕ)))) → Option ElemDesc
element_of (name, (form, (t, (f, (word, bit))))) = if nat_le form 2
    then Some (record { name = name; form = form; t = t; f = f; word = word; bit = bit }) else None

abbrev pub element_in : Reader ElemDesc
element_in bytes = meaning element_of (both name_in (both byte_in (both byte_in (both byte_in (both word_in byte_in))))) bytes

abbrev pub elements_in : Reader (List ElemDesc)
elements_in bytes = word_in bytes >>= λ count. counted count.0 element_in count.1

abbrev pub array_of : Scale × List (ℤ × ℤ) → Option DescBody
array_of (scale, dims) = Some (bodies.Array scale dims)

abbrev pub table_of : ℕ × (ℕ × List ElemDesc) → Option DescBody
table_of (width, (len, elems)) = Some (bodies.Table width len elems)

abbrev pub body_in : (number : ℕ) → Reader DescBody
body_in number bytes =
    if number == 0 then meaning (λ s. Some (bodies.Word s)) scale_in bytes
    else if number == 1 then meaning array_of (both scale_in dimensions_in) bytes
    else if number == 2 then meaning table_of (both word_in (both word_in elements_in)) bytes
    else if number == 3 then Some (bodies.Label, bytes)
    else if number == 4 then Some (bodies.Switch, bytes)
    else if number == 5 then meaning (λ s. Some (bodies.Proc s)) (spec_in parameter_in) bytes
    else None

abbrev pub overlay_in : Reader (ℕ × ℕ)
overlay_in bytes = both word_in word_in bytes

-- behind the name and the number of the body's form
abbrev pub listed_in : (number : ℕ) → Reader (Bool × (Option (ℕ × ℕ) × DescBody))
listed_in number bytes = both flag_in (both (optional_in overlay_in) (body_in number)) bytes

abbrev pub descriptor_of : List ℕ × (ℕ × (Bool × (Option (ℕ × ℕ) × DescBody))) → Option Desc
descriptor_of (name, (number, (library, (over, body)))) = Some (record { name = name; library = library; over = over; body = body })

abbrev pub descriptor_in : Reader Desc
descriptor_in bytes = meaning descriptor_of (both name_in (followed byte_in listed_in)) bytes

-- ---- storage

abbrev pub sort_of : ℕ → ℕ → Option Sort
sort_of number operand =
    if number == 0 then Some (sorts.Common operand)
    else if number == 1 then (if operand == 0 then Some sorts.Own else None)
    else if number == 2 then Some (sorts.Absolute operand)
    else if number == 3 then Some (sorts.Frame operand)
    else None

abbrev pub family_of : ℕ × (ℕ × ℕ) → Option Family
family_of (number, (operand, extent)) = sort_of number operand >>= λ sort. Some (record { sort = sort; extent = extent })

abbrev pub family_in : Reader Family
family_in bytes = meaning family_of (both byte_in (both word_in long_in)) bytes

abbrev pub item_kind_of : ℕ → Option ItemKind
item_kind_of number =
    if number == 0 then Some Single
    else if number == 1 then Some Array
    else if number == 2 then Some Table
    else if number == 3 then Some Text
    else if number == 4 then Some Loop
    else None

unfoldable pub item_kind_in : Reader ItemKind
item_kind_in bytes = meaning item_kind_of byte_in bytes

-- kind, whether of a COMMON list, family, offset there, words
abbrev pub ItemPlace : Type 0
ItemPlace = ItemKind × (Bool × (ℕ × (ℕ × ℕ)))

unfoldable pub item_place_in : Reader ItemPlace
item_place_in bytes = both item_kind_in (both flag_in (both word_in (both word_in long_in))) bytes

-- an item that has a name has the line 0
abbrev pub item_of : List ℕ × (List ℕ × (ℕ × ItemPlace)) → Option ItemEntry
item_of (owner, (name, (line, (kind, (common, (family, (offset, words))))))) =
    if is_empty name || (line == 0) then Some
    (record {
      owner = owner;
      name = name;
      line = line;
      kind = kind;
      common = common;
      family = family;
      offset = offset;
      words = words;
    }) else None

abbrev pub item_in : Reader ItemEntry
item_in bytes = meaning item_of (both name_or_empty_in (both name_or_empty_in (both word_in item_place_in))) bytes

abbrev pub preset_of : ℕ × (ℕ × ℕ) → Option Preset
preset_of (family, (offset, word)) = Some (record { family = family; offset = offset; word = word })

abbrev pub preset_in : Reader Preset
preset_in bytes = meaning preset_of (both word_in (both word_in word_in)) bytes

-- ---- code

abbrev pub relocation_of : ℕ × (ℕ × (ℕ × ℕ)) → Option Reloc
relocation_of (place, (sort, (index, add))) = Some (record { place = place; sort = sort; index = index; add = add })

abbrev pub relocation_in : Reader Reloc
relocation_in bytes = meaning relocation_of (both long_in (both byte_in (both word_in word_in))) bytes

abbrev pub definition_in : Reader (ℕ × ℕ)
definition_in bytes = both word_in long_in bytes

abbrev pub body_facts_of : ℕ × (ℕ × ℕ) → Option Body
body_facts_of (entry, (need, tokens)) = Some (record { entry = entry; need = need; tokens = tokens })

abbrev pub body_facts_in : Reader Body
body_facts_in bytes = meaning body_facts_of (both long_in (both word_in long_in)) bytes

abbrev pub statement_of : ℕ × ℕ → Option (ℕ × ℕ)
statement_of s = if nat_le 1 s.1 then Some s else None

abbrev pub statement_in : Reader (ℕ × ℕ)
statement_in bytes = meaning statement_of (both long_in word_in) bytes
