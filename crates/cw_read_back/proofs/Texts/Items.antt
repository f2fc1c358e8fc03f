-- The rules of data, specifications and communicators keep what is known.
use Rattle.std.proofs.Common.{Bool, List, [], Option, Some, None, is_some}
use Rattle.cw_lex.specs.declared.token.Symbol.TheVariants as symbols
use Rattle.cw_lex.specs.declared.token.Word.TheVariants as words
use Rattle.cw_tree.specs.declared.leaf.RawName.{RawName}
use Rattle.cw_tree.specs.declared.leaf.RawInt.{RawInt}
use Rattle.cw_tree.specs.declared.leaf.RawSint.{RawSint}
use Rattle.cw_tree.specs.declared.leaf.RawType.{RawType}
use Rattle.cw_tree.specs.declared.items.RawPlace.{RawPlace}
use Rattle.cw_tree.specs.declared.items.RawPresets.{RawPresets}
use Rattle.cw_tree.specs.declared.items.RawBounds.{RawBounds}
use Rattle.cw_tree.specs.declared.items.RawGroup.{RawGroup}
use Rattle.cw_tree.specs.declared.items.RawElem.TheVariants as elem_tree
use Rattle.cw_tree.specs.declared.items.RawTable.{RawTable}
use Rattle.cw_tree.specs.declared.items.RawData.{RawData}
use Rattle.cw_tree.specs.declared.items.RawData.TheVariants as data_tree
use Rattle.cw_tree.specs.declared.items.RawBase.{RawBase}
use Rattle.cw_tree.specs.declared.statement.RawPtag.{RawPtag}
use Rattle.cw_tree.specs.declared.segment.RawPs.{RawPs}
use Rattle.cw_tree.specs.declared.segment.RawAitem.TheVariants as aitem_tree
use Rattle.cw_grammar.specs.Tokens.{Item, position}
use Rattle.cw_grammar.specs.Statements.{preset_value, place, further_places, presets, assigned, preset, group, elem, table, elems_behind, table_body, data_table, singles, arrays, item_data, base_of, base, overlay, spec_behind, spec, citem, typed_aitem, unplaced_aitem, aitem, comm}
use Rattle.cw_show.specs.Canonical.{Tokens, comma, semicolon}
use Rattle.cw_show.specs.ItemTokens.{name_tokens, names_tokens, place_tokens, assigned_tokens, preset_tokens, group_tokens, elem_tokens, table_with, data_tokens, base_tokens, overlay_tokens}
use Rattle.cw_show.specs.SegmentTokens.{spec_tokens, citem_tokens, aitem_tokens}
use Rattle.cw_read_back.proofs.Expressions.Reading.{Each}
use Rattle.cw_read_back.proofs.Texts.Spelled.{each_append, Spelled, nothing, the_word, the_symbol, the_number, ◌&◌, in_brackets, list_between}
use Rattle.cw_read_back.proofs.Texts.Plain.{sign_spelled, octal_spelled, int_spelled, sint_spelled, size_spelled, type_spelled, bounds_spelled, shape_spelled, two_ints_spelled, address_spelled, answer_spelled, tag_spelled, ps_listed}
use Rattle.cw_read_back.proofs.Texts.Tokens.{literal_spelled}
use Rattle.cw_read_back.proofs.Texts.Expressions.{NameGood, name_keeps, names_keep}
use Rattle.cw_tokens.proofs.Kept.{OfOption}
use Rattle.cw_read_back.proofs.Texts.Good.{ElemGood, TableGood, Given, Keeps, given_good}

-- ---- trees

abbrev PlaceGood : RawPlace → Type 0
PlaceGood x = Spelled (place_tokens x)

abbrev PresetsGood : RawPresets → Type 0
PresetsGood x = Each PlaceGood x.places

pub names_good : (ns : List RawName) → Each NameGood ns → Spelled (names_tokens ns)
names_good ns h = list_between name_tokens comma tt ns h

assigned_good : (o : Option RawPresets) → OfOption PresetsGood o → Spelled (assigned_tokens o)
assigned_good None h = nothing
assigned_good (Some p) h = the_symbol symbols.Assign & list_between place_tokens comma tt p.places h

preset_good : (o : Option RawPresets) → OfOption PresetsGood o → Spelled (preset_tokens o)
preset_good None h = nothing
preset_good (Some p) h = the_word words.Preset & list_between place_tokens comma tt p.places h

word_elem : (f : RawName) (t : RawType) (x : RawInt) → NameGood f → ElemGood (elem_tree.Word f t x)
word_elem f t x h = h & type_spelled t & int_spelled x

part_elem : (f : RawName) (u : Bool) (t : RawInt) (s : RawSint) (w b : RawInt) → NameGood f → ElemGood (elem_tree.Part f u t s w b)
part_elem f u t s w b h = h & shape_spelled u t s & two_ints_spelled w b

pub table_good : (t : RawTable) (inside : Tokens) → TableGood t → Spelled inside → Spelled (table_with t inside)
table_good t inside h k =
    (the_word words.Table & h.0 & size_spelled t.size) & the_symbol symbols.OpenSquare & list_between elem_tokens semicolon tt t.elems h.1 & k & the_symbol symbols.CloseSquare

table_data_good : (t : RawTable) (i o : Option RawPresets) → TableGood t → OfOption PresetsGood i → OfOption PresetsGood o → Spelled (data_tokens (data_tree.Table t i o))
table_data_good t i o h k l = table_good t (preset_tokens i) h (preset_good i k) & assigned_good o l

singles_good : (t : RawType) (ns : List RawName) (o : Option RawPresets) → Each NameGood ns → OfOption PresetsGood o → Spelled (data_tokens (data_tree.Singles t ns o))
singles_good t ns o h k = type_spelled t & names_good ns h & assigned_good o k

abbrev GroupGood : RawGroup → Type 0
GroupGood x = Spelled (group_tokens x)

arrays_good : (t : RawType) (gs : List RawGroup) (o : Option RawPresets) → Each GroupGood gs → OfOption PresetsGood o → Spelled (data_tokens (data_tree.Arrays t gs o))
arrays_good t gs o h k = type_spelled t & the_word words.Array & list_between group_tokens comma tt gs h & assigned_good o k

base_good : (f : RawName) (o : Option (RawSint × Option RawSint)) → NameGood f → Spelled (base_tokens (base_of f o))
base_good f None h = h
base_good f (Some (x, None)) h = h & the_symbol symbols.OpenSquare & sint_spelled x & the_symbol symbols.CloseSquare
base_good f (Some (x, Some y)) h = h & the_symbol symbols.OpenSquare & sint_spelled x & the_symbol symbols.Comma & sint_spelled y & the_symbol symbols.CloseSquare

pub overlay_good : (b : RawBase) (d : RawData) → Spelled (base_tokens b) → Spelled (data_tokens d) → Spelled (overlay_tokens b d)
overlay_good b d h k = the_word words.Overlay & h & the_word words.With & k

spec_good : (o : Option RawType) (t : RawPtag) (f : RawName) (ps : List RawPs) → NameGood f → Spelled (spec_tokens (record { answer = o; tag = t; name = f; params = ps }))
spec_good o t f ps h = answer_spelled o & tag_spelled t & h & ps_listed ps

single_aitem : (t : RawType) (f : RawName) (x : RawInt) → NameGood f → Spelled (aitem_tokens (aitem_tree.Single t f x))
single_aitem t f x h = type_spelled t & h & address_spelled x

array_aitem : (t : RawType) (f : RawName) (b : RawBounds) (x : RawInt) → NameGood f → Spelled (aitem_tokens (aitem_tree.Array t f b x))
array_aitem t f b x h = type_spelled t & the_word words.Array & h & bounds_spelled b & address_spelled x

table_aitem : (t : RawTable) (x : RawInt) → TableGood t → Spelled (aitem_tokens (aitem_tree.Table t x))
table_aitem t x h = table_good t [] h nothing & address_spelled x

-- ---- presets

preset_value_keeps : Keeps preset_value
unfolding preset_value
preset_value_keeps = (
  (
    tt,
    (
      (tt, λ n h s k. sign_spelled s & the_number n.number),
      ((tt, λ n h s k. sign_spelled s & octal_spelled n), (tt, λ t h s k. sign_spelled s & literal_spelled t h.1 h.0)),
    ),
  ),
  λ x h. h.1 x.0 h.0,
)

place_keeps : Keeps place
unfolding place
place_keeps = (
  ((tt, (tt, tt)), λ x h before k. h.1.0 (position x.0) tt),
  ((preset_value_keeps, λ x h before k. (given_good preset_value x h, tt)), λ before k. (nothing, tt)),
)

further_keeps : Keeps further_places
unfolding further_places
further_keeps = (((tt, tt), λ x h. h.1 (position x.0) tt), tt)

pub presets_keep : Keeps presets
unfolding presets
presets_keep = ((place_keeps, further_keeps), λ x h before k. each_append PlaceGood (x.0 before) x.1 (given_good place x.0 h.0 before tt) (given_good further_places x.1 h.1))

assigned_keeps : Keeps assigned
unfolding assigned
assigned_keeps = ((tt, tt), λ x h. h.1 (position x.0) tt)

preset_keeps : Keeps preset
unfolding preset
preset_keeps = ((tt, tt), λ x h. h.1 (position x.0) tt)

-- ---- data

group_keeps : Keeps group
unfolding group
group_keeps = ((names_keep, tt), λ x h. names_good x.0 h.0 & bounds_spelled x.1)

elem_keeps : Keeps elem
unfolding elem
elem_keeps = (
  (
    name_keeps,
    ((tt, λ x h n k. word_elem n x.0 x.1 k), (tt, λ x h n k. part_elem n (is_some x.0) x.1.0.0 x.1.0.1 x.1.1.0 x.1.1.1 k)),
  ),
  λ x h. h.1 x.0 h.0,
)

pub table_keeps : Keeps table
unfolding table
table_keeps = ((tt, (name_keeps, (tt, ((tt, (((((elem_keeps, ((tt, elem_keeps), λ x h. given_good elem x.1 h.1)), λ x h. (given_good elem x.0 h.0, h.1)), tt), tt), λ x h. h.0)), λ x h. h.1)))), λ x h. (h.1.0, h.1.1.1))

pub elems_keep : Keeps elems_behind
unfolding elems_behind
elems_keep = (
  ((tt, (((elem_keeps, tt), λ x h. ((given_good elem x.0 h.0, h.1.0), h.1.1)), (preset_keeps, λ x h. (tt, given_good preset x h)))), λ x h. h.1),
  ((preset_keeps, λ x h. (tt, given_good preset x h)), (tt, tt)),
)

body_keeps : Keeps table_body
unfolding table_body
body_keeps = (
  ((elem_keeps, tt), λ x h. ((given_good elem x.0 h.0, h.1.0), h.1.1)),
  (
    (preset_keeps, λ x h. (tt, given_good preset x h)),
    (((tt, (preset_keeps, λ x h. (tt, given_good preset x h))), λ x h. h.1), (tt, tt)),
  ),
)

pub data_table_keeps : Keeps data_table
unfolding data_table
data_table_keeps = (
  (tt, (name_keeps, (tt, (((tt, ((body_keeps, tt), λ x h. given_good table_body x.0 h.0)), λ x h. h.1), ((assigned_keeps, λ x h. given_good assigned x h), tt))))),
  λ x h. table_data_good (record { at = position x.0; name = x.1.0; size = x.1.1.0; elems = x.1.1.1.0.0 }) x.1.1.1.0.1 x.1.1.1.1 (h.1.0, h.1.1.1.0.0) h.1.1.1.0.1 h.1.1.1.1,
)

pub singles_keep : Keeps singles
unfolding singles
singles_keep = ((names_keep, ((assigned_keeps, λ x h. given_good assigned x h), tt)), λ x h t k. singles_good t x.0 x.1 h.0 h.1)

pub arrays_keep : Keeps arrays
unfolding arrays
arrays_keep = (((tt, (((group_keeps, ((tt, group_keeps), λ x h. given_good group x.1 h.1)), λ x h. (given_good group x.0 h.0, h.1)), ((assigned_keeps, λ x h. given_good assigned x h), tt))), λ x h. h.1), λ x h t k. arrays_good t x.0 x.1 h.0 h.1)

item_data_keeps : Keeps item_data
unfolding item_data
item_data_keeps = (((tt, (singles_keep, arrays_keep)), λ x h. h.1 x.0 tt), data_table_keeps)

base_keeps : Keeps base
unfolding base
base_keeps = ((name_keeps, tt), λ x h. base_good x.0 x.1 h.0)

pub overlay_keeps : Keeps overlay
unfolding overlay
overlay_keeps = (tt, (base_keeps, ((tt, item_data_keeps), λ x h. given_good item_data x.1 h.1)))

-- what an overlay keeps of its base and its data
pub overlaid : (x : Item × (RawBase × RawData)) → Given overlay x → Spelled (overlay_tokens x.1.0 x.1.1)
overlaid x h = let k = given_good overlay x h in overlay_good x.1.0 x.1.1 k.1.0 k.1.1

-- ---- specifications and communicators

spec_behind_keeps : Keeps spec_behind
unfolding spec_behind
spec_behind_keeps = ((tt, (name_keeps, tt)), λ x h t k. spec_good t x.0 x.1.0 x.1.1 h.1.0)

spec_keeps : Keeps spec
unfolding spec
spec_keeps = (
  ((tt, (spec_behind_keeps, λ f h t k. given_good spec_behind f h (Some t) tt)), λ x h. h.1 x.0 tt),
  (spec_behind_keeps, λ f h. given_good spec_behind f h None tt),
)

citem_keeps : Keeps citem
unfolding citem
citem_keeps = (
  (
    (tt, ((singles_keep, λ f h t k. given_good singles f h t k), ((arrays_keep, λ f h t k. given_good arrays f h t k), (spec_behind_keeps, λ f h t k. given_good spec_behind f h (Some t) tt)))),
    λ x h. h.1 x.0 tt,
  ),
  (
    (data_table_keeps, λ d h. given_good data_table d h),
    (
      (overlay_keeps, λ x h. overlaid x h),
      (
        ((tt, names_keep), λ x h. the_word words.Label & names_good x.1 h.1),
        (((tt, names_keep), λ x h. the_word words.Switch & names_good x.1 h.1), (spec_behind_keeps, λ f h. given_good spec_behind f h None tt)),
      ),
    ),
  ),
)

typed_aitem_keeps : Keeps typed_aitem
unfolding typed_aitem
typed_aitem_keeps = ((name_keeps, λ n h t k a l. single_aitem t n a h), (((tt, (name_keeps, tt)), λ x h. h.1), λ x h t k a l. array_aitem t x.0 x.1 a h.0))

unplaced_keeps : Keeps unplaced_aitem
unfolding unplaced_aitem
unplaced_keeps = (((tt, typed_aitem_keeps), λ x h. given_good typed_aitem x.1 h.1 x.0 tt), (table_keeps, λ t h a k. table_aitem t a (given_good table t h)))

aitem_keeps : Keeps aitem
unfolding aitem
aitem_keeps = ((unplaced_keeps, tt), λ x h. given_good unplaced_aitem x.0 h.0 x.1 tt)

pub comm_keeps : Keeps comm
unfolding comm
comm_keeps = (
  ((tt, ((tt, ((((citem_keeps, ((tt, citem_keeps), λ x h. given_good citem x.1 h.1)), λ x h. (given_good citem x.0 h.0, h.1)), tt), λ x h. h.0)), λ x h. h.1)), λ x h. the_word words.Common & in_brackets (list_between citem_tokens semicolon tt x.1 h.1)),
  (
    ((tt, ((tt, ((((spec_keeps, ((tt, spec_keeps), λ x h. given_good spec x.1 h.1)), λ x h. (given_good spec x.0 h.0, h.1)), tt), λ x h. h.0)), λ x h. h.1)), λ x h. the_word words.Library & in_brackets (list_between spec_tokens semicolon tt x.1 h.1)),
    ((tt, ((tt, ((((aitem_keeps, ((tt, aitem_keeps), λ x h. given_good aitem x.1 h.1)), λ x h. (given_good aitem x.0 h.0, h.1)), tt), λ x h. h.0)), λ x h. h.1)), λ x h. the_word words.Absolute & in_brackets (list_between aitem_tokens semicolon tt x.1 h.1)),
  ),
)
