-- What the switches of the outermost block stand for.
use Rattle.std.proofs.Common.{◌≡◌, ◌⊎◌, inl, inr, ℕ, List, ◌++◌, length, true, IsTrue, Option, Some, None, slice_get, refl, sym, ap, subst, ◌∙◌}
use Rattle.std.specs.Prelude.{option_and_then}
use Rattle.cw_table.specs.Rows.{item_at}
use Rattle.cw_tree.specs.declared.leaf.RawName.{RawName}
use Rattle.cw_facts.specs.declared.fact.Declaration.{Declaration}
use Rattle.cw_facts.specs.declared.fact.Form.{Form}
use Rattle.cw_facts.specs.declared.fact.Form.TheVariants as form
use Rattle.cw_facts.specs.declared.fact.Kind.{Kind as NameKind}
use Rattle.cw_facts.specs.declared.fact.Kind.TheVariants as kind
use Rattle.cw_facts.specs.Facts.{block_facts}
use Rattle.cw_facts.specs.Text.{communicators_facts}
use Rattle.cw_scope.specs.declared.resolve.Named.{Named}
use Rattle.cw_scope.specs.NameRules.{is_own_label, is_own_switch}
use Rattle.cw_number.specs.declared.numbers.Counts.{Counts}
use Rattle.cw_number.specs.declared.numbered.Numbered.TheVariants as numbered
use Rattle.cw_number.specs.Numbers.{none_counted, own_number}
use Rattle.cw_make_expr.specs.Parts.{number_of}
use Rattle.cw_make_items.specs.Lookup.{Numbers}
use Rattle.cw_make.specs.Switches.{block_switches}
use Rattle.cw_unit.specs.declared.unit.Unit.{Unit as SourceUnit}
use Rattle.cw_unit.specs.declared.unit.Switch.{Switch}
use Rattle.cw_unit.specs.Step.{goals_of}
use Rattle.cw_safety.specs.WellFormed.{reaches_list}
use Rattle.cw_built.specs.Built.{alone, at_work}
use Rattle.cw_sound.specs.Uses.Mentions.{In, Mention, here, declares, uses, stores, listed_mentions, block_mentions, text_mentions}
use Rattle.cw_sound.specs.Uses.Stands.{StandsAs, IsSwitch}
use Rattle.cw_sound.specs.Names.Placed.{Placed}
use Rattle.cw_sound.specs.Names.Found.{Found, UsesFound}
use Rattle.cw_sound.specs.Names.Standing.{counted_from, CountsOwn, StandsIn, StandsFrom, Stand, is_common}
use Rattle.cw_sound.proofs.Names.Lists.{in_either, in_right, split}
use Rattle.cw_sound.proofs.Names.Rows.{mentions_append}
use Rattle.cw_sound.proofs.Names.Picking.{picked_at, Zip, zip_at}
use Rattle.cw_sound.proofs.Names.Sorts.{of_kind, few_before, switches_before}
use Rattle.cw_sound.proofs.Names.StandingNames.{near_stands}
use Rattle.cw_sound.proofs.Names.OwnDeclarations.{Made}
use Rattle.cw_sound.proofs.Names.SwitchNumbers.{number_reached, AllReached, all_everywhere, LabelReached, FormReached, MentionReached, AllMentionsReached, SwitchOf, switches_in, in_switches}
use Rattle.cw_sound.proofs.Names.TreeParts.{block_parts}

numbered_switch : (k : NameKind) (c : Counts) → IsTrue (is_own_switch k) → own_number c k ≡ Some (numbered.Switch c.switches)
numbered_switch kind.Switch c h = refl
numbered_switch _ c h = absurd (cc)

label_common : (k : NameKind) → IsTrue (is_own_label k) → IsTrue (is_common k)
label_common kind.Label h = refl
label_common kind.Switch h = refl
label_common (kind.Proc t) h = refl
label_common _ h = absurd (cc)

module _ (named : Named) (numbers : Numbers) (u : SourceUnit) (placed : Placed named.raw.now) (counts : CountsOwn named numbers) (made : Made named numbers u) (found : UsesFound named numbers)
    (labels : Stand named numbers u is_own_label (block_mentions numbers named.raw.now)) (listed : Stand named numbers u is_common (listed_mentions numbers named.raw.now)) where
  parted : text_mentions numbers named.raw.now ≡ listed_mentions numbers named.raw.now ++ block_mentions numbers named.raw.now
  parted = mentions_append numbers (communicators_facts named.raw.now.comms) (block_facts named.raw.now.block true) None

  label_side : (owner : Option ℕ) (d : Declaration) → IsTrue (is_own_label d.kind) → In (here owner (declares d)) (listed_mentions numbers named.raw.now) ⊎ In (here owner (declares d)) (block_mentions numbers named.raw.now) → StandsFrom named numbers u owner d
  label_side owner d h (inl i) = listed owner d (label_common d.kind h) i
  label_side owner d h (inr i) = labels owner d h i

  of_kinds : (who : Option ℕ) (n : RawName) (k : NameKind) → IsTrue (is_own_label k) → StandsAs named numbers u who k n → LabelReached named numbers u who n
  of_kinds who n kind.Label h s = number_reached named numbers u who (number_of named numbers n) s
  of_kinds who n _ h s = absurd (cc)

  listed_use : (who : Option ℕ) (n : RawName) → Found named numbers who (record { name = n; form = form.Listed }) → LabelReached named numbers u who n
  listed_use who n f =
      of_kinds who n f.declaration.kind f.fits_use
      (near_stands named numbers u f.owner who f.declaration f.is_near
      (label_side f.owner f.declaration f.fits_use (in_either (here f.owner (declares f.declaration)) (listed_mentions numbers named.raw.now) (block_mentions numbers named.raw.now) (subst (In (here f.owner (declares f.declaration))) parted f.is_declared))) n f.refers)

  use_reached : (who : Option ℕ) (n : RawName) (g : Form) → In (here who (uses (record { name = n; form = g }))) (text_mentions numbers named.raw.now) → FormReached named numbers u who n g
  use_reached who n form.Listed i = listed_use who n (found who (record { name = n; form = form.Listed }) i)
  use_reached who n _ i = tt

  mention_reached : (who : Option ℕ) (m : Mention) → In (here who m) (text_mentions numbers named.raw.now) → MentionReached named numbers u who m
  mention_reached who (declares d) i = tt
  mention_reached who (uses x) i = use_reached who x.name x.form i
  mention_reached who (stores token n) i = tt

  all_reached : AllMentionsReached named numbers u (block_mentions numbers named.raw.now)
  all_reached m i = mention_reached m.who m.mention (subst (In m) (sym parted) (in_right m (listed_mentions numbers named.raw.now) (block_mentions numbers named.raw.now) i))

  abbrev here_switches : List Switch
  here_switches = block_switches named numbers named.raw.now.block None

  pub zipped : Zip (SwitchOf named numbers u) (switches_in (block_mentions numbers named.raw.now)) here_switches
  zipped = in_switches named numbers u (block_parts named numbers named.raw.now.block true) None all_reached

  -- ---- the switch of a declaration

  by_list : (who : Option ℕ) (n : ℕ) (s : Switch) → slice_get u.switches n ≡ Some s → AllReached u who s.list → IsSwitch named numbers u who (Some (numbered.Switch n))
  by_list who n s is h = subst (λ o. IsTrue (reaches_list (alone u) (at_work who) 0 (goals_of o))) (sym is) h

  as_switch : (who : Option ℕ) (n : RawName) (k : NameKind) → IsTrue (is_own_switch k) → StandsAs named numbers u who kind.Switch n → StandsAs named numbers u who k n
  as_switch who n kind.Switch e x = x
  as_switch who n _ e x = absurd (cc)

  module _ (d : Declaration) (h : IsTrue (is_own_switch d.kind)) (k : ℕ) (s : Switch) (is : item_at numbers d.name.at.token ≡ Some (numbered.Switch k)) (there : slice_get u.switches k ≡ Some s) where
    in_body : (who : Option ℕ) → AllReached u who s.list → StandsIn named numbers u who d
    in_body who r n f = as_switch who n d.kind h (subst (IsSwitch named numbers u who) (sym (ap (option_and_then (item_at numbers)) f.0 ∙ is)) (by_list who k s there r))

    from_owner : (owner : Option ℕ) → AllReached u owner s.list → StandsFrom named numbers u owner d
    from_owner None r = λ who. in_body who (all_everywhere u who s.list r)
    from_owner (Some p) r = in_body (Some p) r

  pub switches_stand : Stand named numbers u is_own_switch (block_mentions numbers named.raw.now)
  switches_stand owner d h i =
      let cut = split (here owner (declares d)) (block_mentions numbers named.raw.now) i in
      let k : ℕ = length (switches_in cut.0) in
      let count = switches_before cut.0 (few_before numbers named.raw.now placed is_own_switch cut.0 cut.1 (here owner (declares d)) cut.2) in
      let is = counts cut.0 cut.1 owner d (numbered.Switch k) cut.2 (numbered_switch d.kind (counted_from none_counted cut.0) h ∙ ap (λ n. Some (numbered.Switch n)) count) in
      let at = zip_at (SwitchOf named numbers u) (switches_in cut.0) (switches_in cut.1) (here owner (declares d)) here_switches
      (subst (λ ms. Zip (SwitchOf named numbers u) ms here_switches) (ap switches_in cut.2 ∙ picked_at (of_kind is_own_switch) cut.0 cut.1 (here owner (declares d)) h) zipped) in
      from_owner d h k at.0 is (ap (λ ls. slice_get ls k) made.switches ∙ at.1) owner at.2
