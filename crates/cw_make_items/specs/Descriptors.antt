-- The descriptors of a segment: what COMMON and LIBRARY say of the names that they list, in order of the text.
-- Official Definition of CORAL 66, "Communicators"; BS 5905, "Communicators".
use Rattle.std.specs.Prelude.{ℕ, min, List, [], ◌∷◌, ◌++◌, ℤ, Bool, true, false, Option, Some, None, slice_get, if◌then◌else◌}
use Rattle.cw_table.specs.declared.table.Row.{Row}
use Rattle.cw_table.specs.Rows.{place_at}
use Rattle.cw_tree.specs.declared.leaf.RawName.{RawName}
use Rattle.cw_tree.specs.declared.leaf.RawType.{RawType}
use Rattle.cw_tree.specs.declared.items.RawRange.{RawRange}
use Rattle.cw_tree.specs.declared.items.RawBounds.{RawBounds}
use Rattle.cw_tree.specs.declared.items.RawGroup.{RawGroup}
use Rattle.cw_tree.specs.declared.items.RawElem.{RawElem}
use Rattle.cw_tree.specs.declared.items.RawElem.TheVariants as elem
use Rattle.cw_tree.specs.declared.items.RawTable.{RawTable}
use Rattle.cw_tree.specs.declared.items.RawData.{RawData}
use Rattle.cw_tree.specs.declared.items.RawData.TheVariants as items
use Rattle.cw_tree.specs.declared.segment.RawComm.{RawComm}
use Rattle.cw_tree.specs.declared.segment.RawComm.TheVariants as comm
use Rattle.cw_tree.specs.declared.segment.RawCitem.{RawCitem}
use Rattle.cw_tree.specs.declared.segment.RawCitem.TheVariants as citem
use Rattle.cw_tree.specs.declared.segment.RawSpec.{RawSpec}
use Rattle.cw_amount.specs.Amounts.{place_amount}
use Rattle.cw_scale.specs.Kinds.{element_fraction, fraction_of_sint}
use Rattle.cw_number.specs.things.declared.thing.Base.{Base}
use Rattle.cw_number.specs.things.declared.thing.Thing.{Thing}
use Rattle.cw_number.specs.things.Things.{amount_or_none}
use Rattle.cw_number.specs.declared.listed.Listing.{Listing}
use Rattle.cw_number.specs.declared.numbered.Numbered.{Numbered}
use Rattle.cw_number.specs.Listed.{is_built_in}
use Rattle.cw_unit.specs.declared.descriptor.Desc.{Desc}
use Rattle.cw_unit.specs.declared.descriptor.DescBody.{DescBody}
use Rattle.cw_unit.specs.declared.descriptor.DescBody.TheVariants as body
use Rattle.cw_unit.specs.declared.descriptor.ElemDesc.{ElemDesc}
use Rattle.cw_make_items.specs.Lookup.{item_here}
use Rattle.cw_make_items.specs.Types.{within, bound, scale_of, width_of, spec_of}

-- ---- what stands for what

abbrev pub dimension : RawRange → ℤ × ℤ
dimension r = (bound r.lower, bound r.upper)

abbrev pub second_dimension : Option RawRange → List (ℤ × ℤ)
second_dimension None = []
second_dimension (Some r) = dimension r ∷ []

abbrev pub dimensions_of : RawBounds → List (ℤ × ℤ)
dimensions_of b = dimension b.first ∷ second_dimension b.second

abbrev pub part_form : (unsigned : Bool) → ℕ
part_form true = 2
part_form false = 1

abbrev pub element_of : RawElem → ElemDesc
element_of (elem.Word n t w) =
    record { name = n.name; form = 0; t = (scale_of t).t; f = (scale_of t).f; word = within 65535 (place_amount w); bit = 0 }
element_of (elem.Part n u t f w b) =
    record {
      name = n.name;
      form = part_form u;
      t = within 255 (place_amount t);
      f = fraction_of_sint f;
      word = within 65535 (place_amount w);
      bit = within 255 (place_amount b);
    }

abbrev pub elements_of : List RawElem → List ElemDesc
elements_of [] = []
elements_of (e ∷ es) = element_of e ∷ elements_of es

abbrev pub array_body : RawType → RawBounds → DescBody
array_body t b = body.Array (scale_of t) (dimensions_of b)

abbrev pub table_body : RawTable → DescBody
table_body t = body.Table (width_of t.size) (within 65535 (place_amount t.size.second)) (elements_of t.elems)

-- ---- the lists

abbrev pub bare_desc : RawName → DescBody → Desc
bare_desc n b = record { name = n.name; library = false; over = None; body = b }

abbrev pub label_descs : List RawName → List Desc
label_descs [] = []
label_descs (n ∷ ns) = bare_desc n body.Label ∷ label_descs ns

abbrev pub switch_descs : List RawName → List Desc
switch_descs [] = []
switch_descs (n ∷ ns) = bare_desc n body.Switch ∷ switch_descs ns

abbrev pub spec_desc : (library : Bool) → RawSpec → Desc
spec_desc l s = record { name = s.name.name; library = l; over = None; body = body.Proc (spec_of s.answer s.params) }

abbrev pub library_desc : RawSpec → List Desc
library_desc s = if is_built_in s.name.name then [] else spec_desc true s ∷ []

abbrev pub library_descs : List RawSpec → List Desc
library_descs [] = []
library_descs (s ∷ ss) = library_desc s ++ library_descs ss

abbrev pub descriptor_at : List (Row Listing) → (token : ℕ) → ℕ
descriptor_at listed token = min (amount_or_none (place_at listed token)) 65535

abbrev pub over_base : List (Row Listing) → Option Base → Option (ℕ × ℕ)
over_base listed None = None
over_base listed (Some b) = Some (descriptor_at listed b.token, min b.word 65535)

abbrev pub over_thing : List (Row Listing) → Option Thing → Option (ℕ × ℕ)
over_thing listed None = None
over_thing listed (Some t) = over_base listed t.base

module _ (numbers : List (Row Numbered)) (listed : List (Row Listing)) (things : List Thing) where
  -- what the item with a name of this token is overlaid on
  abbrev pub over_at : (token : ℕ) → Option (ℕ × ℕ)
  over_at token = over_thing listed (slice_get things (item_here numbers token))

  abbrev pub data_desc : RawName → DescBody → Desc
  data_desc n b = record { name = n.name; library = false; over = over_at n.at.token; body = b }

  abbrev pub word_descs : RawType → List RawName → List Desc
  word_descs t [] = []
  word_descs t (n ∷ ns) = data_desc n (body.Word (scale_of t)) ∷ word_descs t ns

  abbrev pub array_descs : RawType → RawBounds → List RawName → List Desc
  array_descs t b [] = []
  array_descs t b (n ∷ ns) = data_desc n (array_body t b) ∷ array_descs t b ns

  abbrev pub group_descs : RawType → List RawGroup → List Desc
  group_descs t [] = []
  group_descs t (g ∷ gs) = array_descs t g.bounds g.names ++ group_descs t gs

  abbrev pub data_descs : RawData → List Desc
  data_descs (items.Singles t ns presets) = word_descs t ns
  data_descs (items.Arrays t gs presets) = group_descs t gs
  data_descs (items.Table t inside behind) = data_desc t.name (table_body t) ∷ []

  abbrev pub citem_descs : RawCitem → List Desc
  citem_descs (citem.Data d) = data_descs d
  citem_descs (citem.Overlay at b d) = data_descs d
  citem_descs (citem.Label at ns) = label_descs ns
  citem_descs (citem.Switch at ns) = switch_descs ns
  citem_descs (citem.Spec s) = spec_desc false s ∷ []

  abbrev pub citems_descs : List RawCitem → List Desc
  citems_descs [] = []
  citems_descs (i ∷ is) = citem_descs i ++ citems_descs is

  abbrev pub communicator_descs : RawComm → List Desc
  communicator_descs (comm.Common at is) = citems_descs is
  communicator_descs (comm.Library at ss) = library_descs ss
  communicator_descs (comm.Absolute at is) = []

  abbrev pub descs_of : List RawComm → List Desc
  descs_of [] = []
  descs_of (c ∷ cs) = communicator_descs c ++ descs_of cs
