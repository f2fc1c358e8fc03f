-- What communicators list has few parts: parameters, since a text without faults has few, and elements, since each is declared.
use Rattle.std.proofs.Common.{◌≡◌, ℕ, ◌<◌, ◌≤◌, List, [], ◌∷◌, ◌++◌, length, true, Option, None, ap, ◌∙◌, arith, length-append}
use Rattle.std.proofs.lemmas.Bool.Decides.{nat_tests}
use Rattle.cw_table.specs.declared.table.Row.{Row}
use Rattle.cw_tree.specs.declared.leaf.Position.{Position}
use Rattle.cw_tree.specs.declared.leaf.RawName.{RawName}
use Rattle.cw_tree.specs.declared.leaf.RawType.{RawType}
use Rattle.cw_tree.specs.declared.items.RawElem.{RawElem}
use Rattle.cw_tree.specs.declared.items.RawData.{RawData}
use Rattle.cw_tree.specs.declared.items.RawData.TheVariants as items
use Rattle.cw_tree.specs.declared.segment.RawPs.{RawPs}
use Rattle.cw_tree.specs.declared.segment.RawPs.TheVariants as ps
use Rattle.cw_tree.specs.declared.segment.RawSpec.{RawSpec}
use Rattle.cw_tree.specs.declared.segment.RawCitem.{RawCitem}
use Rattle.cw_tree.specs.declared.segment.RawCitem.TheVariants as citem
use Rattle.cw_tree.specs.declared.segment.RawComm.{RawComm}
use Rattle.cw_tree.specs.declared.segment.RawComm.TheVariants as comm
use Rattle.cw_facts.specs.declared.fact.Fact.{Fact}
use Rattle.cw_facts.specs.declared.fact.Kind.TheVariants as kind
use Rattle.cw_facts.specs.Facts.{declares, element_name, elements_facts, data_facts, base_facts, block_facts}
use Rattle.cw_facts.specs.Text.{citem_facts, citems_facts, communicator_facts, communicators_facts}
use Rattle.cw_scope.specs.declared.resolve.Named.{Named}
use Rattle.cw_scope.specs.Resolved.{text_declarations}
use Rattle.cw_scale.specs.declared.fault.Rule.TheVariants as rule
use Rattle.cw_scale.specs.Faults.{Judgement, unless, both}
use Rattle.cw_scale.specs.Types.{answer_judged}
use Rattle.cw_data.specs.Specifications.{few, specified_judged, plains_judged, each_specified_judged, spec_judged, specs_judged}
use Rattle.cw_items.specs.declared.families.Site.{Site}
use Rattle.cw_judge.specs.Judged.{sites_of, absolute_addresses, citem_judged, citems_judged, communicator_judged, communicators_judged}
use Rattle.cw_sound.specs.Names.Placed.{Placed}
use Rattle.cw_sound.proofs.Names.ListedRows.{declared_row}
use Rattle.cw_sound.proofs.Names.ListedNumbers.{declarations_append}
use Rattle.cw_sound.specs.Items.Free.{PartsFree}
use Rattle.cw_sound.specs.Items.Items.{things_of}
use Rattle.cw_sound.specs.Written.Counts.{Each, HasFewPlain, SpecCounts, DataCounts, CitemCounts, CommCounts, CountsFit}
use Rattle.cw_sound.proofs.Expressions.Judging.{Keeps, keeps_both, keeps_unless, both_free, holds}
use Rattle.cw_sound.proofs.Items.Keeping.{keeps_specs, keeps_citems, keeps_communicators, keeps_plains, keeps_each_specified}

-- ---- parameters

at_most : (n : ℕ) → few n ≡ true → n ≤ 255
at_most n h = let most : n ≤ 32 = grind (arith, nat_tests) in omega (arith, most)

-- what a procedure with so many parameters is judged to be
counted : (answer : Option RawType) (n : ℕ) (at : Position) (rest : Judgement) → Keeps rest → both (answer_judged answer) (both (unless (few n) rule.TooMany at) rest) None ≡ None → (n ≤ 255) × (rest None ≡ None)
counted answer n at rest keeps free =
    let test = unless (few n) rule.TooMany at in
    let behind = both_free (answer_judged answer) (both test rest) (keeps_both (keeps_unless (few n) rule.TooMany at) keeps) free in
    let halves = both_free test rest keeps behind.1 in
    (at_most n (holds (few n) rule.TooMany at halves.0), halves.1)

plain_counted : (n : RawName) (p : RawPs) → specified_judged n p None ≡ None → HasFewPlain p
plain_counted n (ps.Plain p) free = tt
plain_counted n (ps.Proc answer at params) free = (counted answer (length params) n.at (plains_judged n params) (keeps_plains n params) free).0

plains_counted : (n : RawName) (params : List RawPs) → each_specified_judged n params None ≡ None → Each HasFewPlain params
plains_counted n [] free = tt
plains_counted n (p ∷ more) free =
    let halves = both_free (specified_judged n p) (each_specified_judged n more) (keeps_each_specified n more) free in
    (plain_counted n p halves.0, plains_counted n more halves.1)

spec_counted : (s : RawSpec) → spec_judged s None ≡ None → SpecCounts s
spec_counted s free =
    let c = counted s.answer (length s.params) s.name.at (each_specified_judged s.name s.params) (keeps_each_specified s.name s.params) free in
    record { params = c.0; plain = plains_counted s.name s.params c.1 }

specs_counted : (ss : List RawSpec) → specs_judged ss None ≡ None → Each SpecCounts ss
specs_counted [] free = tt
specs_counted (s ∷ ss) free = let halves = both_free (spec_judged s) (specs_judged ss) (keeps_specs ss) free in (spec_counted s halves.0, specs_counted ss halves.1)

-- ---- elements

abbrev Few : List Fact → Type 0
Few fs = length (text_declarations fs) < 65536

few_parts : (fs gs : List Fact) → Few (fs ++ gs) → Few fs × Few gs
few_parts fs gs h =
    let same = ap length (declarations_append fs gs) ∙ length-append (text_declarations fs) (text_declarations gs) in
    (omega (arith, h, same), omega (arith, h, same))

elements_declared : (table : RawName) (es : List RawElem) → length es ≤ length (text_declarations (elements_facts table es))
elements_declared table [] = omega arith
elements_declared table (e ∷ es) =
    let rest = elements_declared table es in
    let same = ap (λ rs. length (rs ++ text_declarations (elements_facts table es))) (declared_row (λ t. Unit {0}) (element_name e) (kind.Element table e)) in
    omega (arith, rest, same)

data_counted : (d : RawData) → Few (data_facts d) → DataCounts d
data_counted (items.Singles t ns presets) h = tt
data_counted (items.Arrays t gs presets) h = tt
data_counted (items.Table t inside behind) h =
    let few_elements = (few_parts (declares t.name (kind.Table t.size) ∷ []) (elements_facts t.name t.elems) h).1 in
    let declared = elements_declared t.name t.elems in
    omega (arith, few_elements, declared)

-- ---- communicators

module _ (named : Named) (sites : List (Row Site)) (absolute : List (Row ℕ)) where
  citem_counted : (i : RawCitem) → Few (citem_facts i) → citem_judged named sites absolute i None ≡ None → CitemCounts i
  citem_counted (citem.Data d) h free = data_counted d h
  citem_counted (citem.Overlay at b d) h free = data_counted d (few_parts (base_facts b) (data_facts d) h).1
  citem_counted (citem.Label at ns) h free = tt
  citem_counted (citem.Switch at ns) h free = tt
  citem_counted (citem.Spec s) h free = spec_counted s free

  citems_counted : (is : List RawCitem) → Few (citems_facts is) → citems_judged named sites absolute is None ≡ None → Each CitemCounts is
  citems_counted [] h free = tt
  citems_counted (i ∷ is) h free =
      let part = few_parts (citem_facts i) (citems_facts is) h in
      let halves = both_free (citem_judged named sites absolute i) (citems_judged named sites absolute is) (keeps_citems named sites absolute is) free in
      (citem_counted i part.0 halves.0, citems_counted is part.1 halves.1)

  communicator_counted : (c : RawComm) → Few (communicator_facts c) → communicator_judged named sites absolute c None ≡ None → CommCounts c
  communicator_counted (comm.Common at is) h free = citems_counted is h free
  communicator_counted (comm.Library at ss) h free = specs_counted ss free
  communicator_counted (comm.Absolute at is) h free = tt

  communicators_counted : (cs : List RawComm) → Few (communicators_facts cs) → communicators_judged named sites absolute cs None ≡ None → CountsFit cs
  communicators_counted [] h free = tt
  communicators_counted (c ∷ cs) h free =
      let part = few_parts (communicator_facts c) (communicators_facts cs) h in
      let halves = both_free (communicator_judged named sites absolute c) (communicators_judged named sites absolute cs) (keeps_communicators named sites absolute cs) free in
      (communicator_counted c part.0 halves.0, communicators_counted cs part.1 halves.1)

pub counts_fit : (named : Named) → Placed named.raw.now → PartsFree named → CountsFit named.raw.now.comms
counts_fit named placed free =
    communicators_counted named (sites_of (things_of named)) (absolute_addresses named.raw.now.comms) named.raw.now.comms
    (few_parts (communicators_facts named.raw.now.comms) (block_facts named.raw.now.block true) placed.few).0 free.communicators
