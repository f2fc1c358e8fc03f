-- The procedures that communicators list have few parameters too.
use Rattle.std.proofs.Common.{◌≡◌, ℕ, List, [], ◌∷◌, ◌++◌, length, true, None, refl, sym, ap, subst, ◌∙◌}
use Rattle.cw_table.specs.declared.table.Row.{Row}
use Rattle.cw_tree.specs.declared.segment.RawComm.{RawComm}
use Rattle.cw_tree.specs.declared.segment.RawComm.TheVariants as comm
use Rattle.cw_tree.specs.declared.segment.RawCitem.{RawCitem}
use Rattle.cw_tree.specs.declared.segment.RawCitem.TheVariants as citem
use Rattle.cw_tree.specs.declared.segment.RawAitem.{RawAitem}
use Rattle.cw_tree.specs.declared.segment.RawAitem.TheVariants as aitem
use Rattle.cw_tree.specs.declared.segment.RawSpec.{RawSpec}
use Rattle.cw_facts.specs.declared.fact.Fact.{Fact}
use Rattle.cw_facts.specs.declared.fact.Form.TheVariants as form
use Rattle.cw_facts.specs.declared.fact.Kind.{Kind}
use Rattle.cw_facts.specs.declared.fact.Kind.TheVariants as kind
use Rattle.cw_facts.specs.Facts.{each_declares, elements_facts, data_facts, base_facts, base_name}
use Rattle.cw_facts.specs.Text.{library_kind, spec_facts, library_facts, citem_facts, citems_facts, aitem_facts, aitems_facts, communicator_facts, communicators_facts}
use Rattle.std.specs.declared.result.Result.TheVariants as result
use Rattle.cw_facts.specs.Facts.{block_facts}
use Rattle.cw_scope.specs.declared.resolve.Named.{Named}
use Rattle.cw_scope.specs.Outcome.{Resolves}
use Rattle.cw_items.specs.declared.thing.Thing.{Thing}
use Rattle.cw_items.specs.Things.{text_things}
use Rattle.cw_items.specs.Families.{things_judged, nothing_known}
use Rattle.cw_make_items.specs.Lookup.{Numbers}
use Rattle.cw_sound.specs.Names.Placed.{Placed, tokens, Differ}
use Rattle.cw_sound.specs.Names.Standing.{FewParameters}
use Rattle.cw_sound.proofs.Names.Lists.{in_right}
use Rattle.cw_sound.proofs.Names.MentionsOf.{signatures_append}
use Rattle.cw_sound.proofs.Names.FewParameters.{block_few}
use Rattle.cw_scope.specs.Resolved.{text_signatures}
use Rattle.cw_scale.specs.declared.fault.Rule.TheVariants as rule
use Rattle.cw_scale.specs.Faults.{unless, both}
use Rattle.cw_scale.specs.Types.{answer_judged}
use Rattle.cw_data.specs.Specifications.{few, each_specified_judged, spec_judged, specs_judged}
use Rattle.cw_items.specs.declared.families.Site.{Site}
use Rattle.cw_judge.specs.Judged.{first_type_fault, sites_of, absolute_addresses, block_judged, citem_judged, citems_judged, communicator_judged, communicators_judged}
use Rattle.cw_sound.specs.Uses.Mentions.{In}
use Rattle.cw_sound.proofs.Names.MentionsOf.{signatures_use, declared_before}
use Rattle.cw_sound.proofs.Names.Specified.{each_none, elements_none, data_none}
use Rattle.cw_sound.proofs.Names.FewParameters.{at_most, Few, few_none, few_both, few_specified}
use Rattle.cw_sound.proofs.Expressions.Judging.{keeps_unless, keeps_both, both_free, holds}
use Rattle.cw_sound.proofs.Items.Keeping.{keeps_each_specified, keeps_specs, keeps_citems, keeps_communicators}

spec_few : (k : Kind) (s : RawSpec) → spec_judged s None ≡ None → Few (spec_facts k s)
spec_few k s e =
    let rest = both (unless (few (length s.params)) rule.TooMany s.name.at) (each_specified_judged s.name s.params) in
    let behind = both_free (answer_judged s.answer) rest (keeps_both (keeps_unless (few (length s.params)) rule.TooMany s.name.at) (keeps_each_specified s.name s.params)) e in
    let counted = both_free (unless (few (length s.params)) rule.TooMany s.name.at) (each_specified_judged s.name s.params) (keeps_each_specified s.name s.params) behind.1 in
    few_specified s.name k s.answer s.params [] (at_most (length s.params) (holds (few (length s.params)) rule.TooMany s.name.at counted.0)) (few_none [] refl)

-- ---- what stands at an address

aitem_none : (i : RawAitem) → text_signatures (aitem_facts i) ≡ []
aitem_none (aitem.Single t n a) = declared_before n (kind.Single t) []
aitem_none (aitem.Array t n b a) = declared_before n (kind.Array t b) []
aitem_none (aitem.Table t a) = declared_before t.name (kind.Table t.size) (elements_facts t.name t.elems) ∙ elements_none t.name t.elems

aitems_few : (is : List RawAitem) → Few (aitems_facts is)
aitems_few [] = few_none [] refl
aitems_few (i ∷ is) = few_both (aitem_facts i) (aitems_facts is) (few_none (aitem_facts i) (aitem_none i)) (aitems_few is)

library_few : (ss : List RawSpec) → specs_judged ss None ≡ None → Few (library_facts ss)
library_few [] e = few_none [] refl
library_few (s ∷ ss) e =
    let free = both_free (spec_judged s) (specs_judged ss) (keeps_specs ss) e in
    few_both (spec_facts (library_kind s.name.name (kind.Proc s.answer)) s) (library_facts ss) (spec_few (library_kind s.name.name (kind.Proc s.answer)) s free.0) (library_few ss free.1)

-- ---- communicators

module _ (named : Named) (sites : List (Row Site)) (absolute : List (Row ℕ)) where
  citem_few : (i : RawCitem) → citem_judged named sites absolute i None ≡ None → Few (citem_facts i)
  citem_few (citem.Data d) e = few_none (data_facts d) (data_none d)
  citem_few (citem.Overlay at b d) e =
      few_both (base_facts b) (data_facts d) (few_none (base_facts b) (ap (λ rs. rs ++ []) (signatures_use (record { name = base_name b; form = form.Base })))) (few_none (data_facts d) (data_none d))
  citem_few (citem.Label at ns) e = few_none (each_declares kind.Label ns) (each_none kind.Label ns)
  citem_few (citem.Switch at ns) e = few_none (each_declares kind.Switch ns) (each_none kind.Switch ns)
  citem_few (citem.Spec s) e = spec_few (kind.Proc s.answer) s e

  citems_few : (is : List RawCitem) → citems_judged named sites absolute is None ≡ None → Few (citems_facts is)
  citems_few [] e = few_none [] refl
  citems_few (i ∷ is) e =
      let free = both_free (citem_judged named sites absolute i) (citems_judged named sites absolute is) (keeps_citems named sites absolute is) e in
      few_both (citem_facts i) (citems_facts is) (citem_few i free.0) (citems_few is free.1)

  communicator_few : (c : RawComm) → communicator_judged named sites absolute c None ≡ None → Few (communicator_facts c)
  communicator_few (comm.Common at is) e = citems_few is e
  communicator_few (comm.Library at ss) e = library_few ss e
  communicator_few (comm.Absolute at is) e = aitems_few is

  pub communicators_few : (cs : List RawComm) → communicators_judged named sites absolute cs None ≡ None → Few (communicators_facts cs)
  communicators_few [] e = few_none [] refl
  communicators_few (c ∷ cs) e =
      let free = both_free (communicator_judged named sites absolute c) (communicators_judged named sites absolute cs) (keeps_communicators named sites absolute cs) e in
      few_both (communicator_facts c) (communicators_facts cs) (communicator_few c free.0) (communicators_few cs free.1)

-- ---- the text, where expressions take no fault away

module _ (named : Named) (numbers : Numbers) (resolves : Resolves named.raw.now (result.Ok named)) (placed : Placed named.raw.now) where
  pub few_parameters : first_type_fault named ≡ None → FewParameters named
  few_parameters fault r i =
      let things : List Thing = text_things named named.raw.now in
      let sites : List (Row Site) = sites_of things in
      let absolute : List (Row ℕ) = absolute_addresses named.raw.now.comms in
      let listed = communicators_judged named sites absolute named.raw.now.comms in
      let own = block_judged named sites named.raw.now.block in
      let differ : Differ (tokens named.signatures) = subst (λ rs. Differ (tokens rs)) (sym resolves.4) placed.signatures in
      let block = block_few named sites numbers differ named.raw.now.block true in
      let comms_facts : List Fact = communicators_facts named.raw.now.comms in
      let own_facts : List Fact = block_facts named.raw.now.block true in
      let all = resolves.4 ∙ signatures_append comms_facts own_facts in
      let first = both_free (things_judged nothing_known things) (both listed own) (keeps_both (keeps_communicators named sites absolute named.raw.now.comms) block.0) fault in
      let second = both_free listed own block.0 first.1 in
      few_both comms_facts own_facts (communicators_few named sites absolute named.raw.now.comms second.0)
      (block.1 second.1 (λ x j. subst (In x) (sym all) (in_right x (text_signatures comms_facts) (text_signatures own_facts) j))) r
      (subst (In r) resolves.4 i)
