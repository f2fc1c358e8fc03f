-- Each name that data, parameters and communicators in normal form declare is an identifier.
use Rattle.std.proofs.Common.{◌≡◌, ℕ, List, [], ◌∷◌, ◌++◌, Bool, Option, Some, None, refl, sym, subst, ◌∙◌, append-nil}
use Rattle.cw_table.specs.declared.table.Row.{Row}
use Rattle.cw_tree.specs.declared.leaf.Position.{Position}
use Rattle.cw_tree.specs.declared.leaf.RawName.{RawName}
use Rattle.cw_tree.specs.declared.leaf.RawType.{RawType}
use Rattle.cw_tree.specs.declared.items.RawData.{RawData}
use Rattle.cw_tree.specs.declared.items.RawGroup.{RawGroup}
use Rattle.cw_tree.specs.declared.items.RawTable.{RawTable}
use Rattle.cw_tree.specs.declared.items.RawElem.{RawElem}
use Rattle.cw_tree.specs.declared.items.RawBase.{RawBase}
use Rattle.cw_tree.specs.declared.segment.RawPs.{RawPs}
use Rattle.cw_tree.specs.declared.segment.RawComm.{RawComm}
use Rattle.cw_tree.specs.declared.segment.RawCitem.{RawCitem}
use Rattle.cw_tree.specs.declared.segment.RawAitem.{RawAitem}
use Rattle.cw_tree.specs.declared.segment.RawSpec.{RawSpec}
use Rattle.cw_tree.specs.declared.statement.RawParam.{RawParam}
use Rattle.cw_facts.specs.declared.fact.Declaration.{Declaration}
use Rattle.cw_facts.specs.declared.fact.Fact.{Fact, Fact-F, map-Fact, roll-Fact}
use Rattle.cw_facts.specs.declared.fact.Fact.TheFolds.{fold-roll-Fact}
use Rattle.cw_facts.specs.declared.fact.Fact.TheOpen as layer
use Rattle.cw_facts.specs.declared.fact.Fact.TheVariants as fact
use Rattle.cw_facts.specs.declared.fact.Form.{Form}
use Rattle.cw_facts.specs.declared.fact.Form.TheVariants as form
use Rattle.cw_facts.specs.declared.fact.Kind.{Kind}
use Rattle.cw_facts.specs.declared.fact.Kind.TheVariants as kind
use Rattle.cw_facts.specs.Signatures.{plain}
use Rattle.cw_facts.specs.Uses.{uses_of}
use Rattle.cw_facts.specs.Facts.{declares, specifies, each_declares, each_uses, groups_facts, element_name, elements_facts, table_facts, data_facts, base_name, base_facts, parameter_facts, parameters_facts, answer_name, type_position, answer_facts}
use Rattle.cw_facts.specs.Text.{library_kind, spec_facts, library_facts, citem_facts, citems_facts, aitem_facts, aitems_facts, communicator_facts, communicators_facts}
use Rattle.cw_scope.specs.Resolved.{declarations_step, fact_declarations, text_declarations}
use Rattle.cw_grammar.specs.Grammar.{a_list, a_name, a_group, an_elem, a_table, a_data, a_param, a_spec, a_citem, an_aitem, a_comm}
use Rattle.cw_derived.specs.NormalForm as normal
use Rattle.cw_derived.specs.NormalForm.{IsNormal}
use Rattle.cw_sound.proofs.Names.ListedNumbers.{declarations_append}
use Rattle.cw_sound.specs.Written.Counts.{Each}
use Rattle.cw_sound.specs.Written.Identified.{IsIdentified}
use Rattle.cw_sound.proofs.Written.Titles.{each_both}

-- all names that facts declare are identifiers
pub record Identified (facts : List Fact) : Type 0 where
  pub each : Each IsIdentified (text_declarations facts)

pub nothing : Identified []
nothing = record { each = tt }

pub together : {f g : List Fact} → Identified f → Identified g → Identified (f ++ g)
together {f = f} {g = g} h k = record { each = subst (Each IsIdentified) (sym (declarations_append f g)) (each_both IsIdentified (text_declarations f) (text_declarations g) h.each k.each) }

-- ---- single facts

alone : (y : Fact-F Fact) (f : Fact) → roll-Fact y ≡ f → Each IsIdentified (declarations_step (map-Fact Fact (List (Row Declaration)) fact_declarations y)) → Identified (f ∷ [])
alone y f e h =
    subst (λ (z : Fact). Identified (z ∷ [])) e
    (record { each = subst (Each IsIdentified) (sym (append-nil (fact_declarations (roll-Fact y)) ∙ fold-roll-Fact (List (Row Declaration)) declarations_step y)) h })

pub name_identified : {n : ℕ} {p : Bool} {f : RawName} {a : List ℕ} (k : Kind) → IsNormal n p a_name f a → Identified (declares f k ∷ [])
name_identified k (normal.is_name x h) = let d : Declaration = record { name = x; kind = k } in alone (layer.Declares d) (fact.Declares d) (fact.rolls-Declares d) (h, tt)

pub answer_identified : (o : Option RawType) → Identified (answer_facts o)
answer_identified None = nothing
answer_identified (Some t) = let d : Declaration = record { name = answer_name (type_position t); kind = kind.Answer t } in alone (layer.Declares d) (fact.Declares d) (fact.rolls-Declares d) (refl, tt)

pub use_identified : (n : RawName) (f : Form) → Identified (uses_of n f)
use_identified n f = alone (layer.Uses (record { name = n; form = f })) (fact.Uses (record { name = n; form = f })) (fact.rolls-Uses (record { name = n; form = f })) tt

specified_identified : (token : ℕ) (answer : Option RawType) (params : List RawPs) → Identified (specifies token answer params ∷ [])
specified_identified token answer params =
    alone (layer.Specifies token (record { answer = answer; params = params })) (specifies token answer params) (fact.rolls-Specifies token (record { answer = answer; params = params })) tt

pub loop_identified : (at : Position) → Identified (fact.Loop at ∷ [])
loop_identified at = alone (layer.Loop at) (fact.Loop at) (fact.rolls-Loop at) tt

pub block_identified : (o : Option ℕ) {facts : List Fact} → Identified facts → Identified (fact.Block o facts ∷ [])
block_identified o {facts = facts} h = alone (layer.Block o facts) (fact.Block o facts) (fact.rolls-Block o facts) h.each

-- ---- lists of names

pub names_identified : {n : ℕ} {p : Bool} {fs : List RawName} {a : List ℕ} (k : Kind) → IsNormal n p (a_list a_name) fs a → Identified (each_declares k fs)
names_identified k normal.no_more = nothing
names_identified k (normal.one_more h r) = together (name_identified k h) (names_identified k r)

pub uses_identified : (ns : List RawName) → Identified (each_uses ns)
uses_identified [] = nothing
uses_identified (n ∷ ns) = together (use_identified n form.Listed) (uses_identified ns)

pub specification_identified : {n : ℕ} {p : Bool} {f : RawName} {a : List ℕ} (k : Kind) (answer : Option RawType) (ps : List RawPs) → IsNormal n p a_name f a → Identified (declares f k ∷ specifies f.at.token answer ps ∷ [])
specification_identified {f = f} k answer ps h = together (name_identified k h) (specified_identified f.at.token answer ps)

-- ---- data

element_identified : {n : ℕ} {p : Bool} {x : RawElem} {a : List ℕ} (table : RawName) → IsNormal n p an_elem x a → Identified (declares (element_name x) (kind.Element table x) ∷ [])
element_identified table (normal.word_elem h k l) = name_identified _ h
element_identified table (normal.part_elem u h k l m o) = name_identified _ h

elements_identified : {n : ℕ} {p : Bool} {xs : List RawElem} {a : List ℕ} (table : RawName) → IsNormal n p (a_list an_elem) xs a → Identified (elements_facts table xs)
elements_identified table normal.no_more = nothing
elements_identified table (normal.one_more h r) = together (element_identified table h) (elements_identified table r)

table_identified : {n : ℕ} {p : Bool} {x : RawTable} {a : List ℕ} (k : Kind) → IsNormal n p a_table x a → Identified (table_facts k x)
table_identified k (normal.is_table at {f = f} h z r) = together (name_identified k h) (elements_identified f r)

group_identified : {n : ℕ} {p : Bool} {x : RawGroup} {a : List ℕ} (t : RawType) → IsNormal n p a_group x a → Identified (each_declares (kind.Array t x.bounds) x.names)
group_identified t (normal.is_group h k) = names_identified _ h

groups_identified : {n : ℕ} {p : Bool} {xs : List RawGroup} {a : List ℕ} (t : RawType) → IsNormal n p (a_list a_group) xs a → Identified (groups_facts t xs)
groups_identified t normal.no_more = nothing
groups_identified t (normal.one_more h r) = together (group_identified t h) (groups_identified t r)

pub data_identified : {n : ℕ} {p : Bool} {x : RawData} {a : List ℕ} → IsNormal n p a_data x a → Identified (data_facts x)
data_identified (normal.single_data {t = t} h k l) = names_identified (kind.Single t) k
data_identified (normal.array_data {t = t} h k l) = groups_identified t k
data_identified (normal.table_data {t = t} h k l) = table_identified (kind.Table t.size) h

pub base_identified : (b : RawBase) → Identified (base_facts b)
base_identified b = use_identified (base_name b) form.Base

-- ---- parameters

parameter_identified : {n : ℕ} {p : Bool} {x : RawParam} {a : List ℕ} → IsNormal n p a_param x a → Identified (parameter_facts x)
parameter_identified (normal.value_param at {t = t} h k) = names_identified (kind.Value t) k
parameter_identified (normal.location_param at {t = t} h k) = names_identified (kind.Location t) k
parameter_identified (normal.array_param {t = t} h k) = names_identified (kind.ArrayParam t) k
parameter_identified (normal.table_param {t = t} h) = table_identified (kind.TableParam t.size) h
parameter_identified (normal.label_param at h) = names_identified kind.LabelParam h
parameter_identified (normal.switch_param at h) = names_identified kind.SwitchParam h
parameter_identified (normal.procedure_param {o = o} at {xs = xs} h k l) = specification_identified (kind.ProcParam o) o (plain xs) k

pub parameters_identified : {n : ℕ} {p : Bool} {xs : List RawParam} {a : List ℕ} → IsNormal n p (a_list a_param) xs a → Identified (parameters_facts xs)
parameters_identified normal.no_more = nothing
parameters_identified (normal.one_more h r) = together (parameter_identified h) (parameters_identified r)

-- ---- communicators

spec_identified : {n : ℕ} {p : Bool} {x : RawSpec} {a : List ℕ} (k : Kind) → IsNormal n p a_spec x a → Identified (spec_facts k x)
spec_identified k (normal.is_spec {o = o} {xs = xs} h t f r) = specification_identified k o xs f

library_identified : {n : ℕ} {p : Bool} {xs : List RawSpec} {a : List ℕ} → IsNormal n p (a_list a_spec) xs a → Identified (library_facts xs)
library_identified normal.no_more = nothing
library_identified (normal.one_more {x = x} h r) = together (spec_identified (library_kind x.name.name (kind.Proc x.answer)) h) (library_identified r)

citem_identified : {n : ℕ} {p : Bool} {x : RawCitem} {a : List ℕ} → IsNormal n p a_citem x a → Identified (citem_facts x)
citem_identified (normal.data_citem h) = data_identified h
citem_identified (normal.overlay_citem at {x = b} h k) = together (base_identified b) (data_identified k)
citem_identified (normal.label_citem at h) = names_identified kind.Label h
citem_identified (normal.switch_citem at h) = names_identified kind.Switch h
citem_identified (normal.spec_citem {x = x} h) = spec_identified (kind.Proc x.answer) h

citems_identified : {n : ℕ} {p : Bool} {xs : List RawCitem} {a : List ℕ} → IsNormal n p (a_list a_citem) xs a → Identified (citems_facts xs)
citems_identified normal.no_more = nothing
citems_identified (normal.one_more h r) = together (citem_identified h) (citems_identified r)

aitem_identified : {n : ℕ} {p : Bool} {x : RawAitem} {a : List ℕ} → IsNormal n p an_aitem x a → Identified (aitem_facts x)
aitem_identified (normal.single_aitem {t = t} h k l) = name_identified (kind.Single t) k
aitem_identified (normal.array_aitem {t = t} {y = y} h k l m) = name_identified (kind.Array t y) k
aitem_identified (normal.table_aitem {t = t} h k) = table_identified (kind.Table t.size) h

aitems_identified : {n : ℕ} {p : Bool} {xs : List RawAitem} {a : List ℕ} → IsNormal n p (a_list an_aitem) xs a → Identified (aitems_facts xs)
aitems_identified normal.no_more = nothing
aitems_identified (normal.one_more h r) = together (aitem_identified h) (aitems_identified r)

communicator_identified : {n : ℕ} {p : Bool} {x : RawComm} {a : List ℕ} → IsNormal n p a_comm x a → Identified (communicator_facts x)
communicator_identified (normal.is_common at h) = citems_identified h
communicator_identified (normal.is_library at h) = library_identified h
communicator_identified (normal.is_absolute at h) = aitems_identified h

pub communicators_identified : {n : ℕ} {p : Bool} {xs : List RawComm} {a : List ℕ} → IsNormal n p (a_list a_comm) xs a → Identified (communicators_facts xs)
communicators_identified normal.no_more = nothing
communicators_identified (normal.one_more h r) = together (communicator_identified h) (communicators_identified r)
