-- What facts declare, where data, parameters and communicators have no fault.
use Rattle.std.proofs.Common.{◌⊎◌, inl, inr, ℕ, List, [], ◌∷◌, ◌++◌, Bool, true, false, nat_eq, codes, cond, IsTrue, Option, Some, None, refl, subst}
use Rattle.std.specs.Cmp.Lexicographic.{pointwise}
use Rattle.cw_table.specs.declared.table.Row.{Row}
use Rattle.cw_tree.specs.declared.leaf.RawName.{RawName}
use Rattle.cw_tree.specs.declared.leaf.RawType.{RawType}
use Rattle.cw_tree.specs.declared.items.RawBase.{RawBase}
use Rattle.cw_tree.specs.declared.items.RawBounds.{RawBounds}
use Rattle.cw_tree.specs.declared.items.RawElem.{RawElem}
use Rattle.cw_tree.specs.declared.items.RawGroup.{RawGroup}
use Rattle.cw_tree.specs.declared.items.RawTable.{RawTable}
use Rattle.cw_tree.specs.declared.items.RawData.{RawData}
use Rattle.cw_tree.specs.declared.items.RawData.TheVariants as items
use Rattle.cw_tree.specs.declared.segment.RawPs.{RawPs}
use Rattle.cw_tree.specs.declared.segment.RawComm.{RawComm}
use Rattle.cw_tree.specs.declared.segment.RawComm.TheVariants as comm
use Rattle.cw_tree.specs.declared.segment.RawCitem.{RawCitem}
use Rattle.cw_tree.specs.declared.segment.RawCitem.TheVariants as citem
use Rattle.cw_tree.specs.declared.segment.RawAitem.{RawAitem}
use Rattle.cw_tree.specs.declared.segment.RawAitem.TheVariants as aitem
use Rattle.cw_tree.specs.declared.segment.RawSpec.{RawSpec}
use Rattle.cw_tree.specs.declared.statement.RawParam.{RawParam}
use Rattle.cw_tree.specs.declared.statement.RawParam.TheVariants as param
use Rattle.cw_facts.specs.declared.fact.Fact.{Fact}
use Rattle.cw_facts.specs.declared.fact.Fact.TheVariants as fact
use Rattle.cw_facts.specs.declared.fact.Form.TheVariants as form
use Rattle.cw_facts.specs.declared.fact.Kind.{Kind}
use Rattle.cw_facts.specs.declared.fact.Kind.TheVariants as kind
use Rattle.cw_facts.specs.Signatures.{plain}
use Rattle.cw_facts.specs.Facts.{declares, specifies, each_declares, element_name, elements_facts, table_facts, groups_facts, data_facts, base_facts, base_name, parameter_facts, parameters_facts, answer_facts, answer_name, type_position}
use Rattle.cw_facts.specs.Text.{library_kind, spec_facts, library_facts, citem_facts, citems_facts, aitem_facts, aitems_facts, communicator_facts, communicators_facts}
use Rattle.cw_scope.specs.declared.resolve.Named.{Named}
use Rattle.cw_scale.specs.declared.fault.Rule.TheVariants as rule
use Rattle.cw_scale.specs.Faults.{Judgement, unless, both}
use Rattle.cw_scale.specs.Types.{type_judged}
use Rattle.cw_data.specs.Data.{range_judged, second_judged, good_bounds, each_wrong_unless, group_judged, groups_judged, size_judged, element_judged, elements_judged, table_judged, data_judged}
use Rattle.cw_data.specs.Overlays.{base_judged}
use Rattle.cw_data.specs.Specifications.{param_judged, params_judged, address_judged, bounds_judged, aitem_judged, aitems_judged}
use Rattle.cw_amount.specs.Amounts.{place_amount}
use Rattle.cw_items.specs.declared.families.Site.{Site}
use Rattle.cw_judge.specs.Declarations.{presets_judged, declared_judged, overlaid_judged, common_base_judged, common_overlaid_judged}
use Rattle.cw_judge.specs.Judged.{citem_judged, citems_judged, communicator_judged, communicators_judged}
use Rattle.cw_make_expr.specs.Parts.{Numbers}
use Rattle.cw_make.specs.Labels.{proc_within}
use Rattle.cw_sound.specs.Uses.Mentions.{In, Mention, Here, here, declares as declared, uses, stores, facts_mentions}
use Rattle.cw_sound.proofs.Expressions.Truth.{no}
use Rattle.cw_sound.proofs.Expressions.Judging.{Keeps, NoFault, keeps_both, keeps_unless, both_free, holds}
use Rattle.cw_sound.proofs.Names.Lists.{in_either}
use Rattle.cw_sound.proofs.Names.Parts.{Plain, is_plain}
use Rattle.cw_sound.proofs.Names.PlainFacts.{plain_use, plain_nothing}
use Rattle.cw_sound.proofs.Names.Rows.{mentions_append}
use Rattle.cw_sound.proofs.Names.MentionsOf.{declared_first, specified_first, block_alone}
use Rattle.cw_sound.specs.Ranges.Declared.{is_size, has_ranges}
use Rattle.cw_sound.proofs.Ranged.Sizes.{row_good, SmallWidth, size_good, element_good}
use Rattle.cw_sound.proofs.Items.Keeping.{keeps_second, keeps_each_wrong, keeps_groups, keeps_elements, keeps_presets, keeps_declared, keeps_params, keeps_address, keeps_bounds, keeps_aitems, keeps_citems, keeps_communicators}

abbrev pub RangedMention : Mention → Type 0
RangedMention (declared d) = IsTrue (has_ranges d.kind)
RangedMention (uses x) = Unit {0}
RangedMention (stores token words) = Unit {0}

module _ (numbers : Numbers) where
  -- each kind that the facts declare has its numbers in range
  abbrev pub Ranged : List Fact → Type 0
  Ranged fs = (q : Option ℕ) (m : Here) → In m (facts_mentions numbers fs q) → RangedMention m.mention

  pub nothing_ranged : Ranged []
  nothing_ranged q m i = absurd i

  pub both_ranged : (fs gs : List Fact) → Ranged fs → Ranged gs → Ranged (fs ++ gs)
  both_ranged fs gs h k q m i = by_side (in_either m (facts_mentions numbers fs q) (facts_mentions numbers gs q) (subst (In m) (mentions_append numbers fs gs q) i))
    where
      by_side : In m (facts_mentions numbers fs q) ⊎ In m (facts_mentions numbers gs q) → RangedMention m.mention
      by_side (inl j) = h q m j
      by_side (inr j) = k q m j

  plain_mention : (m : Mention) → IsTrue (is_plain m) → RangedMention m
  plain_mention (declared d) h = no h
  plain_mention (uses x) h = tt
  plain_mention (stores token words) h = tt

  pub plain_ranged : (fs : List Fact) → Plain numbers fs → Ranged fs
  plain_ranged fs p q m i = plain_mention m.mention (p.mentions q m i).1

  pub declared_ranged : (n : RawName) (k : Kind) (fs : List Fact) → IsTrue (has_ranges k) → Ranged fs → Ranged (declares n k ∷ fs)
  declared_ranged n k fs h rest q m i = by_side (subst (In m) (declared_first numbers n k fs q) i)
    where
      by_side : In m (here q (declared (record { name = n; kind = k })) ∷ facts_mentions numbers fs q) → RangedMention m.mention
      by_side (inl e) = subst (λ (x : Here). RangedMention x.mention) e h
      by_side (inr j) = rest q m j

  pub specified_ranged : (token : ℕ) (answer : Option RawType) (params : List RawPs) (fs : List Fact) → Ranged fs → Ranged (specifies token answer params ∷ fs)
  specified_ranged token answer params fs rest q m i = rest q m (subst (In m) (specified_first numbers token answer params fs q) i)

  pub block_ranged : (owner : Option ℕ) (fs : List Fact) → Ranged fs → Ranged (fact.Block owner fs ∷ [])
  block_ranged owner fs h q m i = h (proc_within numbers owner q) m (subst (In m) (block_alone numbers owner fs q) i)

  pub each_ranged : (k : Kind) (ns : List RawName) → IsTrue (has_ranges k) → Ranged (each_declares k ns)
  each_ranged k [] h = nothing_ranged
  each_ranged k (n ∷ ns) h = declared_ranged n k (each_declares k ns) h (each_ranged k ns h)

  -- ---- data

  names_ranged : (t : RawType) (b : RawBounds) (ns : List RawName) → NoFault (each_wrong_unless (good_bounds b.first b.second) ns) → Ranged (each_declares (kind.Array t b) ns)
  names_ranged t b [] free = nothing_ranged
  names_ranged t b (n ∷ ns) free =
      let good : Bool = good_bounds b.first b.second in
      let calm = both_free (unless good rule.BadBounds n.at) (each_wrong_unless good ns) (keeps_each_wrong good ns) free in
      declared_ranged n (kind.Array t b) (each_declares (kind.Array t b) ns) (row_good b.first b.second (holds good rule.BadBounds n.at calm.0)) (names_ranged t b ns calm.1)

  groups_ranged : (t : RawType) (gs : List RawGroup) → NoFault (groups_judged gs) → Ranged (groups_facts t gs)
  groups_ranged t [] free = nothing_ranged
  groups_ranged t (g ∷ gs) free =
      let good : Bool = good_bounds g.bounds.first g.bounds.second in
      let last : Judgement = each_wrong_unless good g.names in
      let calm = both_free (group_judged g) (groups_judged gs) (keeps_groups gs) free in
      let behind = both_free (range_judged g.bounds.first) (both (second_judged g.bounds.second) last) (keeps_both (keeps_second g.bounds.second) (keeps_each_wrong good g.names)) calm.0 in
      let own = both_free (second_judged g.bounds.second) last (keeps_each_wrong good g.names) behind.1 in
      both_ranged (each_declares (kind.Array t g.bounds) g.names) (groups_facts t gs) (names_ranged t g.bounds g.names own.1) (groups_ranged t gs calm.1)

  elements_ranged : (table : RawName) (width : Option ℕ) (es : List RawElem) → SmallWidth width → NoFault (elements_judged width es) → Ranged (elements_facts table es)
  elements_ranged table width [] small free = nothing_ranged
  elements_ranged table width (e ∷ es) small free =
      let calm = both_free (element_judged width e) (elements_judged width es) (keeps_elements width es) free in
      declared_ranged (element_name e) (kind.Element table e) (elements_facts table es) (element_good width e small calm.0) (elements_ranged table width es small calm.1)

  -- a table of a kind that has its size
  table_ranged : (k : Kind) (t : RawTable) → (IsTrue (is_size t.size) → IsTrue (has_ranges k)) → NoFault (table_judged t) → Ranged (table_facts k t)
  table_ranged k t h free =
      let width : Option ℕ = place_amount t.size.first in
      let calm = both_free (size_judged t.name t.size) (elements_judged width t.elems) (keeps_elements width t.elems) free in
      let size = size_good t.name t.size calm.0 in
      declared_ranged t.name k (elements_facts t.name t.elems) (h size.0) (elements_ranged t.name width t.elems size.1 calm.1)

  pub data_ranged : (sites : List (Row Site)) (d : RawData) → NoFault (declared_judged sites d) → Ranged (data_facts d)
  data_ranged sites (items.Singles t ns presets) free = each_ranged (kind.Single t) ns refl
  data_ranged sites (items.Arrays t gs presets) free =
      let calm = both_free (data_judged (items.Arrays t gs presets)) (presets_judged sites (items.Arrays t gs presets)) (keeps_presets sites (items.Arrays t gs presets)) free in
      groups_ranged t gs (both_free (type_judged t) (groups_judged gs) (keeps_groups gs) calm.0).1
  data_ranged sites (items.Table t inside behind) free =
      table_ranged (kind.Table t.size) t (λ h. h) (both_free (table_judged t) (presets_judged sites (items.Table t inside behind)) (keeps_presets sites (items.Table t inside behind)) free).0

  -- a base is used, and not declared
  base_ranged : (b : RawBase) (fs : List Fact) → Ranged fs → Ranged (base_facts b ++ fs)
  base_ranged b fs h = both_ranged (base_facts b) fs (plain_ranged (base_facts b) (plain_use numbers (record { name = base_name b; form = form.Base }) [] (plain_nothing numbers))) h

  pub overlaid_ranged : (named : Named) (sites : List (Row Site)) (b : RawBase) (d : RawData) → NoFault (overlaid_judged named sites b d) → Ranged (base_facts b ++ data_facts d)
  unfolding overlaid_judged
  overlaid_ranged named sites b d free = base_ranged b (data_facts d) (data_ranged sites d (both_free (base_judged named b) (declared_judged sites d) (keeps_declared sites d) free).1)

  -- ---- parameters

  parameter_ranged : (p : RawParam) → NoFault (param_judged p) → Ranged (parameter_facts p)
  parameter_ranged (param.Value at t ns) free = each_ranged (kind.Value t) ns refl
  parameter_ranged (param.Location at t ns) free = each_ranged (kind.Location t) ns refl
  parameter_ranged (param.Array t ns) free = each_ranged (kind.ArrayParam t) ns refl
  parameter_ranged (param.Table t) free = table_ranged (kind.TableParam t.size) t (λ h. h) free
  parameter_ranged (param.Label at ns) free = each_ranged kind.LabelParam ns refl
  parameter_ranged (param.Switch at ns) free = each_ranged kind.SwitchParam ns refl
  parameter_ranged (param.Proc answer at n params) free =
      declared_ranged n (kind.ProcParam answer) (specifies n.at.token answer (plain params) ∷ []) refl (specified_ranged n.at.token answer (plain params) [] nothing_ranged)

  pub parameters_ranged : (params : List RawParam) → NoFault (params_judged params) → Ranged (parameters_facts params)
  parameters_ranged [] free = nothing_ranged
  parameters_ranged (p ∷ more) free =
      let calm = both_free (param_judged p) (params_judged more) (keeps_params more) free in
      both_ranged (parameter_facts p) (parameters_facts more) (parameter_ranged p calm.0) (parameters_ranged more calm.1)

  pub answer_ranged : (answer : Option RawType) → Ranged (answer_facts answer)
  answer_ranged None = nothing_ranged
  answer_ranged (Some t) = declared_ranged (answer_name (type_position t)) (kind.Answer t) [] refl nothing_ranged

  -- ---- communicators

  spec_ranged : (k : Kind) (s : RawSpec) → IsTrue (has_ranges k) → Ranged (spec_facts k s)
  spec_ranged k s h = declared_ranged s.name k (specifies s.name.at.token s.answer s.params ∷ []) h (specified_ranged s.name.at.token s.answer s.params [] nothing_ranged)

  listed_kind : (n : List ℕ) (answer : Option RawType) → IsTrue (has_ranges (library_kind n (kind.Proc answer)))
  listed_kind n answer = by_name (pointwise nat_eq n (codes "READBYTE")) (pointwise nat_eq n (codes "WRITEBYTE")) (pointwise nat_eq n (codes "BOUNDS"))
    where
      by_name : (a b c : Bool) → IsTrue (has_ranges (cond a kind.ReadByte (cond b kind.WriteByte (cond c kind.Bounds (kind.Proc answer)))))
      by_name true b c = refl
      by_name false true c = refl
      by_name false false true = refl
      by_name false false false = refl

  library_ranged : (ss : List RawSpec) → Ranged (library_facts ss)
  library_ranged [] = nothing_ranged
  library_ranged (s ∷ ss) =
      let k : Kind = library_kind s.name.name (kind.Proc s.answer) in
      both_ranged (spec_facts k s) (library_facts ss) (spec_ranged k s (listed_kind s.name.name s.answer)) (library_ranged ss)

  aitem_ranged : (i : RawAitem) → NoFault (aitem_judged i) → Ranged (aitem_facts i)
  aitem_ranged (aitem.Single t n a) free = declared_ranged n (kind.Single t) [] refl nothing_ranged
  aitem_ranged (aitem.Array t n b a) free =
      let good : Bool = good_bounds b.first b.second in
      let last : Judgement = unless good rule.BadBounds n.at in
      let keeps_last : Keeps last = keeps_unless good rule.BadBounds n.at in
      let behind = both_free (type_judged t) (both (bounds_judged n b) (address_judged n a)) (keeps_both (keeps_bounds n b) (keeps_address n a)) free in
      let bounds = both_free (bounds_judged n b) (address_judged n a) (keeps_address n a) behind.1 in
      let x = both_free (range_judged b.first) (both (second_judged b.second) last) (keeps_both (keeps_second b.second) keeps_last) bounds.0 in
      let y = both_free (second_judged b.second) last keeps_last x.1 in
      declared_ranged n (kind.Array t b) [] (row_good b.first b.second (holds good rule.BadBounds n.at y.1)) nothing_ranged
  aitem_ranged (aitem.Table t a) free = table_ranged (kind.Table t.size) t (λ h. h) (both_free (table_judged t) (address_judged t.name a) (keeps_address t.name a) free).0

  aitems_ranged : (is : List RawAitem) → NoFault (aitems_judged is) → Ranged (aitems_facts is)
  aitems_ranged [] free = nothing_ranged
  aitems_ranged (i ∷ is) free =
      let calm = both_free (aitem_judged i) (aitems_judged is) (keeps_aitems is) free in
      both_ranged (aitem_facts i) (aitems_facts is) (aitem_ranged i calm.0) (aitems_ranged is calm.1)

  module _ (named : Named) (sites : List (Row Site)) (absolute : List (Row ℕ)) where
    common_overlaid_ranged : (b : RawBase) (d : RawData) → NoFault (common_overlaid_judged named sites absolute b d) → Ranged (base_facts b ++ data_facts d)
    unfolding common_overlaid_judged
    common_overlaid_ranged b d free = base_ranged b (data_facts d) (data_ranged sites d (both_free (common_base_judged named absolute b) (declared_judged sites d) (keeps_declared sites d) free).1)

    citem_ranged : (i : RawCitem) → NoFault (citem_judged named sites absolute i) → Ranged (citem_facts i)
    citem_ranged (citem.Data d) free = data_ranged sites d free
    citem_ranged (citem.Overlay at b d) free = common_overlaid_ranged b d free
    citem_ranged (citem.Label at ns) free = each_ranged kind.Label ns refl
    citem_ranged (citem.Switch at ns) free = each_ranged kind.Switch ns refl
    citem_ranged (citem.Spec s) free = spec_ranged (kind.Proc s.answer) s refl

    citems_ranged : (is : List RawCitem) → NoFault (citems_judged named sites absolute is) → Ranged (citems_facts is)
    citems_ranged [] free = nothing_ranged
    citems_ranged (i ∷ is) free =
        let calm = both_free (citem_judged named sites absolute i) (citems_judged named sites absolute is) (keeps_citems named sites absolute is) free in
        both_ranged (citem_facts i) (citems_facts is) (citem_ranged i calm.0) (citems_ranged is calm.1)

    communicator_ranged : (c : RawComm) → NoFault (communicator_judged named sites absolute c) → Ranged (communicator_facts c)
    communicator_ranged (comm.Common at is) free = citems_ranged is free
    communicator_ranged (comm.Library at ss) free = library_ranged ss
    communicator_ranged (comm.Absolute at is) free = aitems_ranged is free

    pub communicators_ranged : (cs : List RawComm) → NoFault (communicators_judged named sites absolute cs) → Ranged (communicators_facts cs)
    communicators_ranged [] free = nothing_ranged
    communicators_ranged (c ∷ cs) free =
        let calm = both_free (communicator_judged named sites absolute c) (communicators_judged named sites absolute cs) (keeps_communicators named sites absolute cs) free in
        both_ranged (communicator_facts c) (communicators_facts cs) (communicator_ranged c calm.0) (communicators_ranged cs calm.1)
