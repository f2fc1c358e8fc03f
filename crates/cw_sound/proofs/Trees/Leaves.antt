-- What names, data, parameters and communicators in normal form say.
use Rattle.std.proofs.Common.{◌≡◌, ◌≢◌, ℕ, List, [], ◌∷◌, ◌++◌, Bool, true, Option, Some, None}
use Rattle.cw_tree.specs.declared.leaf.Position.{Position}
use Rattle.cw_tree.specs.declared.leaf.RawName.{RawName}
use Rattle.cw_tree.specs.declared.leaf.RawType.{RawType}
use Rattle.cw_tree.specs.declared.leaf.RawType.TheVariants as type_tree
use Rattle.cw_tree.specs.declared.items.RawData.{RawData}
use Rattle.cw_tree.specs.declared.items.RawGroup.{RawGroup}
use Rattle.cw_tree.specs.declared.items.RawTable.{RawTable}
use Rattle.cw_tree.specs.declared.items.RawElem.{RawElem}
use Rattle.cw_tree.specs.declared.items.RawBase.{RawBase}
use Rattle.cw_tree.specs.declared.items.RawBase.TheVariants as base
use Rattle.cw_tree.specs.declared.segment.RawPs.{RawPs}
use Rattle.cw_tree.specs.declared.statement.RawParam.{RawParam}
use Rattle.cw_tree.specs.declared.segment.RawComm.{RawComm}
use Rattle.cw_tree.specs.declared.segment.RawCitem.{RawCitem}
use Rattle.cw_tree.specs.declared.segment.RawAitem.{RawAitem}
use Rattle.cw_tree.specs.declared.segment.RawSpec.{RawSpec}
use Rattle.cw_facts.specs.declared.fact.Form.TheVariants as form
use Rattle.cw_facts.specs.declared.fact.Kind.{Kind}
use Rattle.cw_facts.specs.declared.fact.Kind.TheVariants as kind
use Rattle.cw_facts.specs.Signatures.{plain}
use Rattle.cw_facts.specs.Facts.{declares, specifies, each_declares, each_uses, groups_facts, element_name, elements_facts, table_facts, data_facts, base_facts, parameter_facts, parameters_facts, answer_name, type_position, answer_facts}
use Rattle.cw_facts.specs.Text.{library_kind, spec_facts, library_facts, citem_facts, citems_facts, aitem_facts, aitems_facts, communicator_facts, communicators_facts}
use Rattle.cw_grammar.specs.Tokens.{is_identifier}
use Rattle.cw_grammar.specs.Grammar.{a_list, an_option, a_name, a_type, a_group, an_elem, a_table, a_data, a_base, a_param, a_spec, a_citem, an_aitem, a_comm}
use Rattle.cw_derived.specs.Marks.{mark, Within, empty}
use Rattle.cw_derived.specs.NormalForm as normal
use Rattle.cw_derived.specs.NormalForm.{IsNormal}
use Rattle.cw_derived.proofs.Withins.{all_within, join, front, beyond}
use Rattle.cw_sound.proofs.Trees.Core.{Core, core_nothing, core_answer}
use Rattle.cw_sound.proofs.Trees.Spread.{Spread, spread_same, spread_wider}
use Rattle.cw_sound.proofs.Trees.Said.{Said, declared, nothing, widened, together, declares_said, answer_places, uses_said, specified_said}

has_characters : (w : List ℕ) → is_identifier w ≡ true → w ≢ []
has_characters [] h e = absurd cc
has_characters (c ∷ w) h e = absurd cc

pub name_said : (i : Bool) {n : ℕ} {p : Bool} {f : RawName} {a : List ℕ} (k : Kind) → IsNormal n p a_name f a → Said i (declares f k ∷ []) a
name_said i k (normal.is_name x h) = declares_said i x k (has_characters x.name h)

pub names_said : (i : Bool) {n : ℕ} {p : Bool} {fs : List RawName} {a : List ℕ} (k : Kind) → IsNormal n p (a_list a_name) fs a → Said i (each_declares k fs) a
names_said i k normal.no_more = nothing i []
names_said i k (normal.one_more h r) = together (name_said i k h) (names_said i k r)

use_said : (i : Bool) {n : ℕ} {p : Bool} {f : RawName} {a : List ℕ} → IsNormal n p a_name f a → Said i (each_uses (f ∷ [])) a
use_said i (normal.is_name x h) = uses_said i x form.Listed

pub listed_said : (i : Bool) {n : ℕ} {p : Bool} {fs : List RawName} {a : List ℕ} → IsNormal n p (a_list a_name) fs a → Said i (each_uses fs) a
listed_said i normal.no_more = nothing i []
listed_said i (normal.one_more h r) = together (use_said i h) (listed_said i r)

-- ---- data

element_said : (i : Bool) {n : ℕ} {p : Bool} {x : RawElem} {a : List ℕ} (table : RawName) → IsNormal n p an_elem x a → Said i (declares (element_name x) (kind.Element table x) ∷ []) a
element_said i table (normal.word_elem {a = a} {b = b} {c = c} h k l) = widened (front (b ++ c) (all_within a)) (name_said i _ h)
element_said i table (normal.part_elem u {a = a} {b = b} {c = c} {d = d} {e = e} h k l m o) = widened (front ((b ++ c) ++ (d ++ e)) (all_within a)) (name_said i _ h)

elements_said : (i : Bool) {n : ℕ} {p : Bool} {xs : List RawElem} {a : List ℕ} (table : RawName) → IsNormal n p (a_list an_elem) xs a → Said i (elements_facts table xs) a
elements_said i table normal.no_more = nothing i []
elements_said i table (normal.one_more h r) = together (element_said i table h) (elements_said i table r)

pub table_said : (i : Bool) {n : ℕ} {p : Bool} {x : RawTable} {a : List ℕ} (k : Kind) → IsNormal n p a_table x a → Said i (table_facts k x) a
table_said i k (normal.is_table at {f = f} {a = a} {b = b} {c = c} h z r) = widened (beyond (mark at ∷ []) (join (all_within a) (beyond b (all_within c)))) (together (name_said i k h) (elements_said i f r))

group_said : (i : Bool) {n : ℕ} {p : Bool} {x : RawGroup} {a : List ℕ} (t : RawType) → IsNormal n p a_group x a → Said i (each_declares (kind.Array t x.bounds) x.names) a
group_said i t (normal.is_group {a = a} {b = b} h k) = widened (front b (all_within a)) (names_said i _ h)

groups_said : (i : Bool) {n : ℕ} {p : Bool} {xs : List RawGroup} {a : List ℕ} (t : RawType) → IsNormal n p (a_list a_group) xs a → Said i (groups_facts t xs) a
groups_said i t normal.no_more = nothing i []
groups_said i t (normal.one_more h r) = together (group_said i t h) (groups_said i t r)

middle : (a b c : List ℕ) → Within b (a ++ (b ++ c))
middle a b c = beyond a (front c (all_within b))

pub data_said : (i : Bool) {n : ℕ} {p : Bool} {x : RawData} {a : List ℕ} → IsNormal n p a_data x a → Said i (data_facts x) a
data_said i (normal.single_data {t = t} {a = a} {b = b} {c = c} h k l) = widened (middle a b c) (names_said i (kind.Single t) k)
data_said i (normal.array_data {t = t} {a = a} {b = b} {c = c} h k l) = widened (middle a b c) (groups_said i t k)
data_said i (normal.table_data {t = t} {a = a} {b = b} {c = c} h k l) = widened (front (b ++ c) (all_within a)) (table_said i (kind.Table t.size) h)

based : (i : Bool) {n : ℕ} {p : Bool} {f : RawName} {a : List ℕ} → IsNormal n p a_name f a → Said i (base_facts (base.Name f)) a
based i (normal.is_name x h) = uses_said i x form.Base

pub base_said : (i : Bool) {n : ℕ} {p : Bool} {x : RawBase} {a : List ℕ} → IsNormal n p a_base x a → Said i (base_facts x) a
base_said i (normal.name_base h) = based i h
base_said i (normal.one_base {a = a} {b = b} h k) = widened (front b (all_within a)) (based i h)
base_said i (normal.two_base {a = a} {b = b} {c = c} h k l) = widened (front (b ++ c) (all_within a)) (based i h)

-- ---- parameters

pub proc_said : (i : Bool) {n : ℕ} {p : Bool} {f : RawName} {a : List ℕ} (k : Kind) (answer : Option RawType) (ps : List RawPs) → IsNormal n p a_name f a → Said i (declares f k ∷ specifies f.at.token answer ps ∷ []) a
proc_said i k answer ps (normal.is_name x h) = specified_said i x k answer ps (has_characters x.name h)

parameter_said : (i : Bool) {n : ℕ} {p : Bool} {x : RawParam} {a : List ℕ} → IsNormal n p a_param x a → Said i (parameter_facts x) a
parameter_said i (normal.value_param at {t = t} {a = a} {b = b} h k) = widened (beyond (mark at ∷ a) (all_within b)) (names_said i (kind.Value t) k)
parameter_said i (normal.location_param at {t = t} {a = a} {b = b} h k) = widened (beyond (mark at ∷ a) (all_within b)) (names_said i (kind.Location t) k)
parameter_said i (normal.array_param {t = t} {a = a} {b = b} h k) = widened (beyond a (all_within b)) (names_said i (kind.ArrayParam t) k)
parameter_said i (normal.table_param {t = t} h) = table_said i (kind.TableParam t.size) h
parameter_said i (normal.label_param at {a = a} h) = widened (beyond (mark at ∷ []) (all_within a)) (names_said i kind.LabelParam h)
parameter_said i (normal.switch_param at {a = a} h) = widened (beyond (mark at ∷ []) (all_within a)) (names_said i kind.SwitchParam h)
parameter_said i (normal.procedure_param {o = o} at {xs = xs} {a = a} {b = b} {c = c} h k l) = widened (beyond a (beyond (mark at ∷ []) (front c (all_within b)))) (proc_said i (kind.ProcParam o) o (plain xs) k)

pub parameters_said : (i : Bool) {n : ℕ} {p : Bool} {xs : List RawParam} {a : List ℕ} → IsNormal n p (a_list a_param) xs a → Said i (parameters_facts xs) a
parameters_said i normal.no_more = nothing i []
parameters_said i (normal.one_more h r) = together (parameter_said i h) (parameters_said i r)

pub answer_characters : (at : Position) → (answer_name at).name ≢ []
answer_characters at e = absurd cc

pub answers_core : (i : Bool) (o : Option RawType) → Core i (answer_facts o) []
answers_core i None = core_nothing i []
answers_core i (Some t) = core_answer i (answer_name (type_position t)) t (answer_characters (type_position t))

typed_places : {n : ℕ} {p : Bool} {t : RawType} {a : List ℕ} → IsNormal n p a_type t a → Spread (declared (declares (answer_name (type_position t)) (kind.Answer t) ∷ [])) a
typed_places (normal.integer at) = answer_places (answer_name at) (type_tree.Integer at)
typed_places (normal.fixed at {t = t} {f = f} {a = a} {b = b} h k) = spread_wider (front (a ++ b) (all_within (mark at ∷ []))) (answer_places (answer_name at) (type_tree.Fixed at t f))

pub answers_places : {n : ℕ} {p : Bool} {o : Option RawType} {a : List ℕ} → IsNormal n p (an_option a_type) o a → Spread (declared (answer_facts o)) a
answers_places normal.absent = spread_same empty
answers_places (normal.present h) = typed_places h

-- ---- communicators

pub spec_said : (i : Bool) {n : ℕ} {p : Bool} {x : RawSpec} {a : List ℕ} (k : Kind) → IsNormal n p a_spec x a → Said i (spec_facts k x) a
spec_said i k (normal.is_spec {o = o} {xs = xs} {a = a} {b = b} {c = c} {d = d} h t f r) = widened (beyond a (beyond b (front d (all_within c)))) (proc_said i k o xs f)

library_said : (i : Bool) {n : ℕ} {p : Bool} {xs : List RawSpec} {a : List ℕ} → IsNormal n p (a_list a_spec) xs a → Said i (library_facts xs) a
library_said i normal.no_more = nothing i []
library_said i (normal.one_more {x = x} h r) = together (spec_said i (library_kind x.name.name (kind.Proc x.answer)) h) (library_said i r)

citem_said : (i : Bool) {n : ℕ} {p : Bool} {x : RawCitem} {a : List ℕ} → IsNormal n p a_citem x a → Said i (citem_facts x) a
citem_said i (normal.data_citem h) = data_said i h
citem_said i (normal.overlay_citem at {a = a} {b = b} h k) = widened (beyond (mark at ∷ []) (all_within (a ++ b))) (together (base_said i h) (data_said i k))
citem_said i (normal.label_citem at {a = a} h) = widened (beyond (mark at ∷ []) (all_within a)) (names_said i kind.Label h)
citem_said i (normal.switch_citem at {a = a} h) = widened (beyond (mark at ∷ []) (all_within a)) (names_said i kind.Switch h)
citem_said i (normal.spec_citem {x = x} h) = spec_said i (kind.Proc x.answer) h

citems_said : (i : Bool) {n : ℕ} {p : Bool} {xs : List RawCitem} {a : List ℕ} → IsNormal n p (a_list a_citem) xs a → Said i (citems_facts xs) a
citems_said i normal.no_more = nothing i []
citems_said i (normal.one_more h r) = together (citem_said i h) (citems_said i r)

aitem_said : (i : Bool) {n : ℕ} {p : Bool} {x : RawAitem} {a : List ℕ} → IsNormal n p an_aitem x a → Said i (aitem_facts x) a
aitem_said i (normal.single_aitem {t = t} {a = a} {b = b} {c = c} h k l) = widened (front c (beyond a (all_within b))) (name_said i (kind.Single t) k)
aitem_said i (normal.array_aitem {t = t} {y = y} {a = a} {b = b} {c = c} {d = d} h k l m) = widened (front d (middle a b c)) (name_said i (kind.Array t y) k)
aitem_said i (normal.table_aitem {t = t} {a = a} {b = b} h k) = widened (front b (all_within a)) (table_said i (kind.Table t.size) h)

aitems_said : (i : Bool) {n : ℕ} {p : Bool} {xs : List RawAitem} {a : List ℕ} → IsNormal n p (a_list an_aitem) xs a → Said i (aitems_facts xs) a
aitems_said i normal.no_more = nothing i []
aitems_said i (normal.one_more h r) = together (aitem_said i h) (aitems_said i r)

communicator_said : (i : Bool) {n : ℕ} {p : Bool} {x : RawComm} {a : List ℕ} → IsNormal n p a_comm x a → Said i (communicator_facts x) a
communicator_said i (normal.is_common at {a = a} h) = widened (beyond (mark at ∷ []) (all_within a)) (citems_said i h)
communicator_said i (normal.is_library at {a = a} h) = widened (beyond (mark at ∷ []) (all_within a)) (library_said i h)
communicator_said i (normal.is_absolute at {a = a} h) = widened (beyond (mark at ∷ []) (all_within a)) (aitems_said i h)

pub communicators_said : (i : Bool) {n : ℕ} {p : Bool} {xs : List RawComm} {a : List ℕ} → IsNormal n p (a_list a_comm) xs a → Said i (communicators_facts xs) a
communicators_said i normal.no_more = nothing i []
communicators_said i (normal.one_more h r) = together (communicator_said i h) (communicators_said i r)
