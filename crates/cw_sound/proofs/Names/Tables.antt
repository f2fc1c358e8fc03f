-- Each element is declared with its table.
use Rattle.std.proofs.Common.{◌≡◌, ◌⊎◌, inl, inr, ℕ, List, [], ◌∷◌, ◌++◌, Bool, true, false, cond, nat_eq, codes, IsTrue, Option, Some, None, refl, sym, ap, subst, ◌∙◌}
use Rattle.std.specs.Cmp.Lexicographic.{pointwise}
use Rattle.cw_table.specs.Rows.{item_at}
use Rattle.cw_tree.specs.declared.leaf.RawName.{RawName}
use Rattle.cw_tree.specs.declared.leaf.RawType.{RawType}
use Rattle.cw_tree.specs.declared.items.RawElem.{RawElem}
use Rattle.cw_tree.specs.declared.items.RawGroup.{RawGroup}
use Rattle.cw_tree.specs.declared.items.RawTable.{RawTable}
use Rattle.cw_tree.specs.declared.items.RawData.{RawData}
use Rattle.cw_tree.specs.declared.items.RawData.TheVariants as items
use Rattle.cw_tree.specs.declared.segment.RawComm.{RawComm}
use Rattle.cw_tree.specs.declared.segment.RawComm.TheVariants as comm
use Rattle.cw_tree.specs.declared.segment.RawCitem.{RawCitem}
use Rattle.cw_tree.specs.declared.segment.RawCitem.TheVariants as citem
use Rattle.cw_tree.specs.declared.segment.RawAitem.{RawAitem}
use Rattle.cw_tree.specs.declared.segment.RawAitem.TheVariants as aitem
use Rattle.cw_tree.specs.declared.segment.RawSpec.{RawSpec}
use Rattle.cw_tree.specs.declared.statement.RawParam.{RawParam}
use Rattle.cw_tree.specs.declared.statement.RawParam.TheVariants as raw
use Rattle.cw_tree.specs.declared.statement.RawProc.{RawProc, out-RawProc}
use Rattle.cw_facts.specs.declared.fact.Fact.{Fact}
use Rattle.cw_facts.specs.declared.fact.Fact.TheVariants as fact
use Rattle.cw_facts.specs.declared.fact.Form.TheVariants as form
use Rattle.cw_facts.specs.declared.fact.Declaration.{Declaration}
use Rattle.cw_facts.specs.declared.fact.Kind.{Kind as NameKind}
use Rattle.cw_facts.specs.declared.fact.Kind.TheVariants as kind
use Rattle.cw_facts.specs.Facts.{declares, specifies, each_declares, each_uses, elements_facts, table_facts, groups_facts, data_facts, base_facts, base_name, parameter_facts, parameters_facts, answer_facts, answer_name, type_position}
use Rattle.cw_facts.specs.Signatures.{plain}
use Rattle.cw_facts.specs.Text.{library_kind, spec_facts, library_facts, citem_facts, citems_facts, aitem_facts, aitems_facts, communicator_facts, communicators_facts}
use Rattle.cw_scope.specs.declared.resolve.Named.{Named}
use Rattle.cw_make_items.specs.Lookup.{Numbers}
use Rattle.cw_unit.specs.declared.unit.Proc.{Proc}
use Rattle.cw_unit.specs.declared.unit.Switch.{Switch}
use Rattle.cw_sound.specs.Uses.Mentions.{In, Mention, Here, here, declares as declared, uses, stores, facts_mentions}
use Rattle.cw_sound.proofs.Names.Parts.{Part, Plain, is_plain, empty, both, plain as plain_part, items as data_items, label, switch, block, procedure, more, procedure_with}
use Rattle.cw_sound.proofs.Names.Lists.{in_left, in_right, in_either}
use Rattle.cw_sound.proofs.Names.Rows.{mentions_append}
use Rattle.cw_sound.proofs.Names.MentionsOf.{Says, says_nothing, says_both, says_declared, says_each, says_elements, says_use, declared_first, specified_first, block_alone}
use Rattle.cw_sound.proofs.Names.InProcedure.{answer_says}
use Rattle.cw_sound.proofs.Names.PartKinds.{uses_say, shape, answers, params, body, first_mention, within_it}

abbrev pub is_table : NameKind → Bool
is_table (kind.Table s) = true
is_table (kind.TableParam s) = true
is_table _ = false

-- the table of an element is declared in the same body
abbrev pub TabledKind : List Here → Option ℕ → NameKind → Type 0
TabledKind ms q (kind.Element table e) = (d : Declaration) × In (here q (declared d)) ms × (d.name ≡ table) × IsTrue (is_table d.kind)
TabledKind ms q _ = Unit {0}

abbrev pub TabledMention : List Here → Option ℕ → Mention → Type 0
TabledMention ms q (declared d) = TabledKind ms q d.kind
TabledMention ms q (uses x) = Unit {0}
TabledMention ms q (stores token n) = Unit {0}

kind_in_more : (ms ns : List Here) (q : Option ℕ) (k : NameKind) → ((h : Here) → In h ms → In h ns) → TabledKind ms q k → TabledKind ns q k
kind_in_more ms ns q (kind.Element table e) sub t = (t.0, sub (here q (declared t.0)) t.1, t.2, t.3)
kind_in_more ms ns q _ sub t = tt

in_more : (ms ns : List Here) (q : Option ℕ) (m : Mention) → ((h : Here) → In h ms → In h ns) → TabledMention ms q m → TabledMention ns q m
in_more ms ns q (declared d) sub t = kind_in_more ms ns q d.kind sub t
in_more ms ns q (uses x) sub t = tt
in_more ms ns q (stores token n) sub t = tt

abbrev is_other : NameKind → Bool
is_other (kind.Element table e) = false
is_other _ = true

abbrev IsOther : Mention → Type 0
IsOther (declared d) = IsTrue (is_other d.kind)
IsOther (uses x) = Unit {0}
IsOther (stores token n) = Unit {0}

other_kind : (ms : List Here) (q : Option ℕ) (k : NameKind) → IsTrue (is_other k) → TabledKind ms q k
other_kind ms q (kind.Element table e) h = absurd (cc)
other_kind ms q _ h = tt

other : (ms : List Here) (q : Option ℕ) (m : Mention) → IsOther m → TabledMention ms q m
other ms q (declared d) h = other_kind ms q d.kind h
other ms q (uses x) h = tt
other ms q (stores token n) h = tt

module _ (numbers : Numbers) where
  abbrev pub Tabled : List Fact → Type 0
  Tabled fs = (q : Option ℕ) (m : Here) → In m (facts_mentions numbers fs q) → TabledMention (facts_mentions numbers fs q) m.who m.mention

  others : (fs : List Fact) → Says numbers IsOther fs → Tabled fs
  others fs h q m i = other (facts_mentions numbers fs q) m.who m.mention (h q m i).1

  pub tabled_both : (fs gs : List Fact) → Tabled fs → Tabled gs → Tabled (fs ++ gs)
  tabled_both fs gs h k q m i =
      subst (λ ms. TabledMention ms m.who m.mention) (sym (mentions_append numbers fs gs q))
      (by_side (in_either m (facts_mentions numbers fs q) (facts_mentions numbers gs q) (subst (In m) (mentions_append numbers fs gs q) i)))
    where
      by_side : In m (facts_mentions numbers fs q) ⊎ In m (facts_mentions numbers gs q) → TabledMention (facts_mentions numbers fs q ++ facts_mentions numbers gs q) m.who m.mention
      by_side (inl j) = in_more (facts_mentions numbers fs q) (facts_mentions numbers fs q ++ facts_mentions numbers gs q) m.who m.mention (λ x. in_left x (facts_mentions numbers fs q) (facts_mentions numbers gs q)) (h q m j)
      by_side (inr j) = in_more (facts_mentions numbers gs q) (facts_mentions numbers fs q ++ facts_mentions numbers gs q) m.who m.mention (λ x. in_right x (facts_mentions numbers fs q) (facts_mentions numbers gs q)) (k q m j)

  -- ---- a table and its elements

  abbrev OfTableKind : RawName → NameKind → Type 0
  OfTableKind table (kind.Element t e) = t ≡ table
  OfTableKind table _ = Unit {0}

  abbrev OfTable : RawName → Mention → Type 0
  OfTable table (declared d) = OfTableKind table d.kind
  OfTable table (uses x) = Unit {0}
  OfTable table (stores token n) = Unit {0}

  of_table_kind : (table : RawName) (k j : NameKind) (q : Option ℕ) (rest : List Here) → IsTrue (is_table k) → OfTableKind table j → TabledKind (here q (declared (record { name = table; kind = k })) ∷ rest) q j
  of_table_kind table k (kind.Element t e) q rest h o = (record { name = table; kind = k }, inl refl, sym o, h)
  of_table_kind table k _ q rest h o = tt

  of_table : (table : RawName) (k : NameKind) (m : Mention) (q : Option ℕ) (rest : List Here) → IsTrue (is_table k) → OfTable table m → TabledMention (here q (declared (record { name = table; kind = k })) ∷ rest) q m
  of_table table k (declared d) q rest h o = of_table_kind table k d.kind q rest h o
  of_table table k (uses x) q rest h o = tt
  of_table table k (stores token n) q rest h o = tt

  table_other : (k : NameKind) → IsTrue (is_table k) → IsTrue (is_other k)
  table_other (kind.Element t e) h = absurd (cc)
  table_other _ h = refl

  table_tabled : (k : NameKind) (t : RawTable) → IsTrue (is_table k) → Tabled (table_facts k t)
  table_tabled k t h q m i =
      subst (λ ms. TabledMention ms m.who m.mention) (sym (declared_first numbers t.name k (elements_facts t.name t.elems) q))
      (by_side (subst (In m) (declared_first numbers t.name k (elements_facts t.name t.elems) q) i))
    where
      by_side : In m (here q (declared (record { name = t.name; kind = k })) ∷ facts_mentions numbers (elements_facts t.name t.elems) q)
          → TabledMention (here q (declared (record { name = t.name; kind = k })) ∷ facts_mentions numbers (elements_facts t.name t.elems) q) m.who m.mention
      by_side (inl e) =
          subst (λ n. TabledMention (here q (declared (record { name = t.name; kind = k })) ∷ facts_mentions numbers (elements_facts t.name t.elems) q) n.who n.mention) e
          (other_kind (here q (declared (record { name = t.name; kind = k })) ∷ facts_mentions numbers (elements_facts t.name t.elems) q) q k (table_other k h))
      by_side (inr j) =
          let s = says_elements numbers (OfTable t.name) t.name t.elems (λ n e. refl) q m j in
          subst (λ w. TabledMention (here q (declared (record { name = t.name; kind = k })) ∷ facts_mentions numbers (elements_facts t.name t.elems) q) w m.mention) (sym s.0)
          (of_table t.name k m.mention q (facts_mentions numbers (elements_facts t.name t.elems) q) h s.1)

  -- ---- data, parameters and communicators

  each_tabled : (k : NameKind) (ns : List RawName) → IsTrue (is_other k) → Tabled (each_declares k ns)
  each_tabled k ns h = others (each_declares k ns) (says_each numbers IsOther k ns (λ n. h))

  groups_tabled : (t : RawType) (gs : List RawGroup) → Tabled (groups_facts t gs)
  groups_tabled t [] = λ q m i. absurd i
  groups_tabled t (g ∷ gs) = tabled_both (each_declares (kind.Array t g.bounds) g.names) (groups_facts t gs) (each_tabled (kind.Array t g.bounds) g.names refl) (groups_tabled t gs)

  data_tabled : (d : RawData) → Tabled (data_facts d)
  data_tabled (items.Singles t ns presets) = each_tabled (kind.Single t) ns refl
  data_tabled (items.Arrays t gs presets) = groups_tabled t gs
  data_tabled (items.Table t inside behind) = table_tabled (kind.Table t.size) t refl

  parameter_tabled : (p : RawParam) → Tabled (parameter_facts p)
  parameter_tabled (raw.Value at t ns) = each_tabled (kind.Value t) ns refl
  parameter_tabled (raw.Location at t ns) = each_tabled (kind.Location t) ns refl
  parameter_tabled (raw.Array t ns) = each_tabled (kind.ArrayParam t) ns refl
  parameter_tabled (raw.Table t) = table_tabled (kind.TableParam t.size) t refl
  parameter_tabled (raw.Label at ns) = each_tabled kind.LabelParam ns refl
  parameter_tabled (raw.Switch at ns) = each_tabled kind.SwitchParam ns refl
  parameter_tabled (raw.Proc answer at n ps) =
      others (parameter_facts (raw.Proc answer at n ps))
      (says_declared numbers IsOther n (kind.ProcParam answer) (specifies n.at.token answer (plain ps) ∷ []) refl (λ q m i. absurd (subst (In m) (specified_first numbers n.at.token answer (plain ps) [] q) i)))

  parameters_tabled : (ps : List RawParam) → Tabled (parameters_facts ps)
  parameters_tabled [] = λ q m i. absurd i
  parameters_tabled (p ∷ ps) = tabled_both (parameter_facts p) (parameters_facts ps) (parameter_tabled p) (parameters_tabled ps)

  library_other : (b : Bool) (k j : NameKind) → IsTrue (is_other k) → IsTrue (is_other j) → IsTrue (is_other (cond b k j))
  library_other true k j h g = h
  library_other false k j h g = g

  spec_tabled : (k : NameKind) (s : RawSpec) → IsTrue (is_other k) → Tabled (spec_facts k s)
  spec_tabled k s h =
      others (spec_facts k s)
      (says_declared numbers IsOther s.name k (specifies s.name.at.token s.answer s.params ∷ []) h (λ q m i. absurd (subst (In m) (specified_first numbers s.name.at.token s.answer s.params [] q) i)))

  library_kind_other : (n : List ℕ) (t : Option RawType) → IsTrue (is_other (library_kind n (kind.Proc t)))
  library_kind_other n t =
      let bounds = library_other (pointwise nat_eq n (codes "BOUNDS")) kind.Bounds (kind.Proc t) refl refl in
      let write = library_other (pointwise nat_eq n (codes "WRITEBYTE")) kind.WriteByte
      (cond (pointwise nat_eq n (codes "BOUNDS")) kind.Bounds (kind.Proc t)) refl bounds in
      library_other (pointwise nat_eq n (codes "READBYTE")) kind.ReadByte
      (cond (pointwise nat_eq n (codes "WRITEBYTE")) kind.WriteByte
      (cond (pointwise nat_eq n (codes "BOUNDS")) kind.Bounds (kind.Proc t))) refl write

  library_tabled : (ss : List RawSpec) → Tabled (library_facts ss)
  library_tabled [] = λ q m i. absurd i
  library_tabled (s ∷ ss) =
      let k = library_kind s.name.name (kind.Proc s.answer) in
      tabled_both (spec_facts k s) (library_facts ss) (spec_tabled k s (library_kind_other s.name.name s.answer)) (library_tabled ss)

  citem_tabled : (i : RawCitem) → Tabled (citem_facts i)
  citem_tabled (citem.Data d) = data_tabled d
  citem_tabled (citem.Overlay at b d) =
      tabled_both (base_facts b) (data_facts d) (others (base_facts b) (says_use numbers IsOther (record { name = base_name b; form = form.Base }) [] tt (says_nothing numbers IsOther))) (data_tabled d)
  citem_tabled (citem.Label at ns) = each_tabled kind.Label ns refl
  citem_tabled (citem.Switch at ns) = each_tabled kind.Switch ns refl
  citem_tabled (citem.Spec s) = spec_tabled (kind.Proc s.answer) s refl

  citems_tabled : (is : List RawCitem) → Tabled (citems_facts is)
  citems_tabled [] = λ q m i. absurd i
  citems_tabled (i ∷ is) = tabled_both (citem_facts i) (citems_facts is) (citem_tabled i) (citems_tabled is)

  aitem_tabled : (i : RawAitem) → Tabled (aitem_facts i)
  aitem_tabled (aitem.Single t n at) = others (declares n (kind.Single t) ∷ []) (says_declared numbers IsOther n (kind.Single t) [] refl (says_nothing numbers IsOther))
  aitem_tabled (aitem.Array t n b at) = others (declares n (kind.Array t b) ∷ []) (says_declared numbers IsOther n (kind.Array t b) [] refl (says_nothing numbers IsOther))
  aitem_tabled (aitem.Table t at) = table_tabled (kind.Table t.size) t refl

  aitems_tabled : (is : List RawAitem) → Tabled (aitems_facts is)
  aitems_tabled [] = λ q m i. absurd i
  aitems_tabled (i ∷ is) = tabled_both (aitem_facts i) (aitems_facts is) (aitem_tabled i) (aitems_tabled is)

  communicator_tabled : (c : RawComm) → Tabled (communicator_facts c)
  communicator_tabled (comm.Common at is) = citems_tabled is
  communicator_tabled (comm.Library at ss) = library_tabled ss
  communicator_tabled (comm.Absolute at is) = aitems_tabled is

  pub communicators_tabled : (cs : List RawComm) → Tabled (communicators_facts cs)
  communicators_tabled [] = λ q m i. absurd i
  communicators_tabled (c ∷ cs) = tabled_both (communicator_facts c) (communicators_facts cs) (communicator_tabled c) (communicators_tabled cs)

plain_other : (m : Mention) → IsTrue (is_plain m) → IsOther m
plain_other (declared d) h = absurd (cc)
plain_other (uses x) h = tt
plain_other (stores token n) h = tt

module _ (named : Named) (numbers : Numbers) where
  inner_tabled : (p : RawProc) (fs : List Fact) → Tabled numbers fs → Tabled numbers (answer_facts (out-RawProc p).answer ++ (parameters_facts (out-RawProc p).params ++ fs))
  inner_tabled p fs h =
      tabled_both numbers (answer_facts (out-RawProc p).answer) (parameters_facts (out-RawProc p).params ++ fs) (answer_tabled (out-RawProc p).answer)
      (tabled_both numbers (parameters_facts (out-RawProc p).params) fs (parameters_tabled numbers (out-RawProc p).params) h)
    where
      answer_tabled : (o : Option RawType) → Tabled numbers (answer_facts o)
      answer_tabled None = λ q m i. absurd i
      answer_tabled (Some t) = others numbers (answer_facts (Some t)) (says_declared numbers IsOther (answer_name (type_position t)) (kind.Answer t) [] refl (says_nothing numbers IsOther))

  inner : (p : RawProc) (fs : List Fact) (q : Option ℕ) → Tabled numbers fs → (n : Here) → In n (answers named numbers p fs q ++ (params named numbers p fs q ++ body named numbers p fs q))
      → TabledMention (answers named numbers p fs q ++ (params named numbers p fs q ++ body named numbers p fs q)) n.who n.mention
  inner p fs q h n i =
      let who : Option ℕ = within_it named numbers p fs q in
      let same : facts_mentions numbers (answer_facts (out-RawProc p).answer ++ (parameters_facts (out-RawProc p).params ++ fs)) who ≡ answers named numbers p fs q ++ (params named numbers p fs q ++ body named numbers p fs q) =
      mentions_append numbers (answer_facts (out-RawProc p).answer) (parameters_facts (out-RawProc p).params ++ fs) who ∙ ap (λ ms. answers named numbers p fs q ++ ms) (mentions_append numbers (parameters_facts (out-RawProc p).params) fs who) in
      subst (λ ms. TabledMention ms n.who n.mention) same (inner_tabled p fs h who n (subst (In n) (sym same) i))

  in_procedure : (p : RawProc) (fs : List Fact) → Tabled numbers fs → Tabled numbers (procedure_with named numbers p fs)
  in_procedure p fs h q m i =
      subst (λ ms. TabledMention ms m.who m.mention) (sym (shape named numbers p fs q)) (by_side (inner p fs q h) (subst (In m) (shape named numbers p fs q) i))
    where
      by_side : ((n : Here) → In n (answers named numbers p fs q ++ (params named numbers p fs q ++ body named numbers p fs q)) → TabledMention (answers named numbers p fs q ++ (params named numbers p fs q ++ body named numbers p fs q)) n.who n.mention)
          → In m (first_mention named numbers p fs q ∷ (answers named numbers p fs q ++ (params named numbers p fs q ++ body named numbers p fs q)))
          → TabledMention (first_mention named numbers p fs q ∷ (answers named numbers p fs q ++ (params named numbers p fs q ++ body named numbers p fs q))) m.who m.mention
      by_side h (inl e) = subst (λ n. TabledMention (first_mention named numbers p fs q ∷ (answers named numbers p fs q ++ (params named numbers p fs q ++ body named numbers p fs q))) n.who n.mention) e tt
      by_side h (inr j) =
          in_more (answers named numbers p fs q ++ (params named numbers p fs q ++ body named numbers p fs q)) (first_mention named numbers p fs q ∷ (answers named numbers p fs q ++ (params named numbers p fs q ++ body named numbers p fs q))) m.who m.mention (λ x k. inr k) (h m j)

  in_block : (fs : List Fact) → Tabled numbers fs → Tabled numbers (fact.Block None fs ∷ [])
  in_block fs h q m i = subst (λ ms. TabledMention ms m.who m.mention) (sym (block_alone numbers None fs q)) (h q m (subst (In m) (block_alone numbers None fs q) i))

  pub part_tabled : {fs : List Fact} {ws : Option ℕ → List Switch} {ps : List Proc} {s : ℕ → Bool} → Part named numbers fs ws ps s → Tabled numbers fs
  part_tabled empty = λ q m i. absurd i
  part_tabled (both {fs} {gs} a b) = tabled_both numbers fs gs (part_tabled a) (part_tabled b)
  part_tabled (plain_part {fs} h) = λ q m i. other (facts_mentions numbers fs q) m.who m.mention (plain_other m.mention (h.mentions q m i).1)
  part_tabled (data_items d) = data_tabled numbers d
  part_tabled (label n) = others numbers (declares n kind.Label ∷ []) (says_declared numbers IsOther n kind.Label [] refl (says_nothing numbers IsOther))
  part_tabled (switch n labels) =
      others numbers (declares n kind.Switch ∷ each_uses labels) (says_declared numbers IsOther n kind.Switch (each_uses labels) refl (λ q m i. let s = uses_say numbers labels q m i in (s.0, plain_other m.mention s.1)))
  part_tabled (block {fs} a) = in_block fs (part_tabled a)
  part_tabled (procedure p {fs} a) = in_procedure p fs (part_tabled a)
  part_tabled (more h a) = part_tabled a
