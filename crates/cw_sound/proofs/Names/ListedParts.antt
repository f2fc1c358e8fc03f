-- What communicators declare, beside what they list and the descriptors of that.
use Rattle.std.proofs.Common.{◌≡◌, ◌≢◌, ◌⊎◌, inl, inr, ℕ, zero, suc, ◌+◌, ◌<◌, ◌≤◌, List, [], ◌∷◌, ◌++◌, map, length, Bool, true, false, cond, IsTrue, ◌||◌, Option, Some, None, slice_get, refl, sym, ap, ap₂, subst, ◌∙◌, arith, append_assoc, append-nil, codes, nat_eq}
use Rattle.std.specs.Cmp.Lexicographic.{pointwise}
use Rattle.cw_table.specs.declared.table.Row.{Row}
use Rattle.cw_tree.specs.declared.leaf.RawName.{RawName}
use Rattle.cw_tree.specs.declared.leaf.RawType.{RawType}
use Rattle.cw_tree.specs.declared.items.RawBounds.{RawBounds}
use Rattle.cw_tree.specs.declared.items.RawBase.{RawBase}
use Rattle.cw_tree.specs.declared.items.RawElem.{RawElem}
use Rattle.cw_tree.specs.declared.items.RawGroup.{RawGroup}
use Rattle.cw_tree.specs.declared.items.RawTable.{RawTable}
use Rattle.cw_tree.specs.declared.items.RawData.{RawData}
use Rattle.cw_tree.specs.declared.items.RawData.TheVariants as items
use Rattle.cw_tree.specs.declared.segment.RawPs.{RawPs}
use Rattle.cw_tree.specs.declared.segment.RawComm.{RawComm}
use Rattle.cw_tree.specs.declared.segment.RawComm.TheVariants as comm
use Rattle.cw_tree.specs.declared.segment.RawCitem.{RawCitem}
use Rattle.cw_tree.specs.declared.segment.RawCitem.TheVariants as citem
use Rattle.cw_tree.specs.declared.segment.RawAitem.{RawAitem}
use Rattle.cw_tree.specs.declared.segment.RawAitem.TheVariants as aitem
use Rattle.cw_tree.specs.declared.segment.RawSpec.{RawSpec}
use Rattle.cw_facts.specs.declared.fact.Fact.{Fact}
use Rattle.cw_facts.specs.declared.fact.Fact.TheVariants as fact
use Rattle.cw_facts.specs.declared.fact.Form.TheVariants as form
use Rattle.cw_facts.specs.declared.fact.Kind.{Kind as NameKind}
use Rattle.cw_facts.specs.declared.fact.Kind.TheVariants as kind
use Rattle.cw_facts.specs.declared.fact.Use.{Use}
use Rattle.cw_facts.specs.Facts.{declares, specifies, each_declares, element_name, elements_facts, table_facts, groups_facts, data_facts, base_facts, base_name}
use Rattle.cw_facts.specs.Text.{library_kind, spec_facts, library_facts, citem_facts, citems_facts, aitem_facts, aitems_facts, communicator_facts, communicators_facts}
use Rattle.cw_number.specs.declared.listed.Listing.{Listing}
use Rattle.cw_number.specs.declared.listed.Listing.TheVariants as listing
use Rattle.cw_number.specs.declared.numbered.Numbered.{Numbered}
use Rattle.cw_number.specs.Listed.{row, each_listed, groups_listed, data_listed, citem_listed, citems_listed, is_built_in, spec_listed, specs_listed, communicator_listed, communicators_listed}
use Rattle.cw_items.specs.declared.thing.Thing.{Thing}
use Rattle.cw_make_items.specs.Descriptors.{label_descs, switch_descs, spec_desc, library_desc, library_descs, data_desc, word_descs, array_body, array_descs, group_descs, table_body, data_descs, citem_descs, citems_descs, communicator_descs, descs_of}
use Rattle.cw_make_items.specs.Types.{scale_of}
use Rattle.cw_unit.specs.declared.descriptor.Desc.{Desc}
use Rattle.cw_unit.specs.declared.descriptor.DescBody.{DescBody}
use Rattle.cw_unit.specs.declared.descriptor.DescBody.TheVariants as bodies
use Rattle.cw_sound.proofs.Names.PartKinds.{is_data}

abbrev pub is_special : NameKind → Bool
is_special kind.ReadByte = true
is_special kind.WriteByte = true
is_special kind.Bounds = true
is_special _ = false

abbrev pub label_desc : RawName → Desc
label_desc n = record { name = n.name; library = false; over = None; body = bodies.Label }

abbrev pub switch_desc : RawName → Desc
switch_desc n = record { name = n.name; library = false; over = None; body = bodies.Switch }

pub data Listed : List Fact → List (Row Listing) → List Desc → Type 0 where
  none : Listed [] [] []
  also : {fs gs : List Fact} {rs qs : List (Row Listing)} {ds es : List Desc} → Listed fs rs ds → Listed gs qs es → Listed (fs ++ gs) (rs ++ qs) (ds ++ es)
  used : (x : Use) → Listed (fact.Uses x ∷ []) [] []
  stored : (n : RawName) (k : NameKind) (d : Desc) → IsTrue (is_data k) → d.name ≡ n.name → Listed (declares n k ∷ []) (row listing.Data n ∷ []) (d ∷ [])
  unlisted : (n : RawName) (k : NameKind) → IsTrue (is_data k) → Listed (declares n k ∷ []) [] []
  label : (n : RawName) → Listed (declares n kind.Label ∷ []) (row listing.Label n ∷ []) (label_desc n ∷ [])
  switch : (n : RawName) → Listed (declares n kind.Switch ∷ []) (row listing.Switch n ∷ []) (switch_desc n ∷ [])
  procedure : (library : Bool) (s : RawSpec) → Listed (spec_facts (kind.Proc s.answer) s) (row listing.Proc s.name ∷ []) (spec_desc library s ∷ [])
  special : (k : NameKind) (s : RawSpec) → IsTrue (is_special k) → Listed (spec_facts k s) [] []

elements : (table : RawName) (es : List RawElem) → Listed (elements_facts table es) [] []
elements table [] = none
elements table (e ∷ es) = also (unlisted (element_name e) (kind.Element table e) refl) (elements table es)

labels : (ns : List RawName) → Listed (each_declares kind.Label ns) (each_listed listing.Label ns) (label_descs ns)
labels [] = none
labels (n ∷ ns) = also (label n) (labels ns)

switches : (ns : List RawName) → Listed (each_declares kind.Switch ns) (each_listed listing.Switch ns) (switch_descs ns)
switches [] = none
switches (n ∷ ns) = also (switch n) (switches ns)

module _ (numbers : List (Row Numbered)) (rows : List (Row Listing)) (things : List Thing) where
  words : (t : RawType) (ns : List RawName) → Listed (each_declares (kind.Single t) ns) (each_listed listing.Data ns) (word_descs numbers rows things t ns)
  words t [] = none
  words t (n ∷ ns) = also (stored n (kind.Single t) (data_desc numbers rows things n (bodies.Word (scale_of t))) refl refl) (words t ns)

  arrays : (t : RawType) (b : RawBounds) (ns : List RawName) → Listed (each_declares (kind.Array t b) ns) (each_listed listing.Data ns) (array_descs numbers rows things t b ns)
  arrays t b [] = none
  arrays t b (n ∷ ns) = also (stored n (kind.Array t b) (data_desc numbers rows things n (array_body t b)) refl refl) (arrays t b ns)

  groups : (t : RawType) (gs : List RawGroup) → Listed (groups_facts t gs) (groups_listed gs) (group_descs numbers rows things t gs)
  groups t [] = none
  groups t (g ∷ gs) = also (arrays t g.bounds g.names) (groups t gs)

  data_parts : (d : RawData) → Listed (data_facts d) (data_listed d) (data_descs numbers rows things d)
  data_parts (items.Singles t ns presets) = words t ns
  data_parts (items.Arrays t gs presets) = groups t gs
  data_parts (items.Table t inside behind) = also (stored t.name (kind.Table t.size) (data_desc numbers rows things t.name (table_body t)) refl refl) (elements t.name t.elems)

  citem_parts : (i : RawCitem) → Listed (citem_facts i) (citem_listed i) (citem_descs numbers rows things i)
  citem_parts (citem.Data d) = data_parts d
  citem_parts (citem.Overlay at b d) = also (used (record { name = base_name b; form = form.Base })) (data_parts d)
  citem_parts (citem.Label at ns) = labels ns
  citem_parts (citem.Switch at ns) = switches ns
  citem_parts (citem.Spec s) = procedure false s

  citems_parts : (is : List RawCitem) → Listed (citems_facts is) (citems_listed is) (citems_descs numbers rows things is)
  citems_parts [] = none
  citems_parts (i ∷ is) = also (citem_parts i) (citems_parts is)

  by_tests : (a b c : Bool) (s : RawSpec) → Listed (spec_facts (cond a kind.ReadByte (cond b kind.WriteByte (cond c kind.Bounds (kind.Proc s.answer)))) s) (cond (a || (b || c)) [] (row listing.Proc s.name ∷ [])) (cond (a || (b || c)) [] (spec_desc true s ∷ []))
  by_tests true b c s = special kind.ReadByte s refl
  by_tests false true c s = special kind.WriteByte s refl
  by_tests false false true s = special kind.Bounds s refl
  by_tests false false false s = procedure true s

  library_parts : (ss : List RawSpec) → Listed (library_facts ss) (specs_listed ss) (library_descs ss)
  library_parts [] = none
  library_parts (s ∷ ss) =
      also (by_tests (pointwise nat_eq s.name.name (codes "READBYTE")) (pointwise nat_eq s.name.name (codes "WRITEBYTE")) (pointwise nat_eq s.name.name (codes "BOUNDS")) s) (library_parts ss)

  aitem_parts : (i : RawAitem) → Listed (aitem_facts i) [] []
  aitem_parts (aitem.Single t n at) = unlisted n (kind.Single t) refl
  aitem_parts (aitem.Array t n b at) = unlisted n (kind.Array t b) refl
  aitem_parts (aitem.Table t at) = also (unlisted t.name (kind.Table t.size) refl) (elements t.name t.elems)

  aitems_parts : (is : List RawAitem) → Listed (aitems_facts is) [] []
  aitems_parts [] = none
  aitems_parts (i ∷ is) = also (aitem_parts i) (aitems_parts is)

  communicator_parts : (c : RawComm) → Listed (communicator_facts c) (communicator_listed c) (communicator_descs numbers rows things c)
  communicator_parts (comm.Common at is) = citems_parts is
  communicator_parts (comm.Library at ss) = library_parts ss
  communicator_parts (comm.Absolute at is) = aitems_parts is

  pub communicators_parts : (cs : List RawComm) → Listed (communicators_facts cs) (communicators_listed cs) (descs_of numbers rows things cs)
  communicators_parts [] = none
  communicators_parts (c ∷ cs) = also (communicator_parts c) (communicators_parts cs)
