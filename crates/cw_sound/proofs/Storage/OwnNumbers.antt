-- The labels and the switches that the segment's body declares.
use Rattle.std.proofs.Common.{◌≡◌, ℕ, List, length, true, IsTrue, Option, Some, None, slice_get, refl, sym, ap, subst, ◌∙◌}
use Rattle.std.specs.declared.result.Result.TheVariants as result
use Rattle.cw_table.specs.Rows.{item_at}
use Rattle.cw_facts.specs.declared.fact.Declaration.{Declaration}
use Rattle.cw_facts.specs.declared.fact.Form.{Form}
use Rattle.cw_facts.specs.declared.fact.Form.TheVariants as form
use Rattle.cw_facts.specs.declared.fact.Use.{Use}
use Rattle.cw_facts.specs.Facts.{block_facts}
use Rattle.cw_scope.specs.declared.resolve.Named.{Named}
use Rattle.cw_scope.specs.Outcome.{Resolves}
use Rattle.cw_scope.specs.NameRules.{is_own_label, is_own_switch, fits}
use Rattle.cw_number.specs.declared.numbered.Numbered.TheVariants as numbered
use Rattle.cw_number.specs.Numbers.{none_counted, own_number}
use Rattle.cw_make_expr.specs.Parts.{number_of}
use Rattle.cw_make_items.specs.Lookup.{Numbers}
use Rattle.cw_make.specs.Switches.{block_switches}
use Rattle.cw_unit.specs.declared.unit.Unit.{Unit as SourceUnit}
use Rattle.cw_unit.specs.declared.unit.Switch.{Switch}
use Rattle.cw_unit.specs.Step.{goals_of}
use Rattle.cw_safety.specs.WellFormed.{sets, reaches, reaches_label, reaches_list, reaches_switch}
use Rattle.cw_built.specs.Built.{alone}
use Rattle.cw_sound.specs.Uses.Mentions.{In, Mention, Here, here, declares, uses, stores, block_mentions}
use Rattle.cw_sound.specs.Uses.Stands.{StandsAs, Stands, MentionStands, FactsStand}
use Rattle.cw_sound.specs.Names.Placed.{Placed}
use Rattle.cw_sound.specs.Names.Standing.{counted_from, CountsOwn}
use Rattle.cw_sound.proofs.Names.Lists.{split}
use Rattle.cw_sound.proofs.Names.Picking.{picked_at, Zip, zip_at}
use Rattle.cw_sound.proofs.Names.Sorts.{of_kind, few_before, switches_before}
use Rattle.cw_sound.proofs.Names.OwnDeclarations.{Made, label_at}
use Rattle.cw_sound.proofs.Names.SwitchNumbers.{number_reached, FormReached, MentionReached, AllMentionsReached, SwitchOf, switches_in, in_switches}
use Rattle.cw_sound.proofs.Names.TreeParts.{block_parts}
use Rattle.cw_sound.proofs.Storage.SortsOf.{label_is, switch_is}

module _ (named : Named) (numbers : Numbers) (u : SourceUnit) (resolves : Resolves named.raw.now (result.Ok named)) (placed : Placed named.raw.now)
    (counts : CountsOwn named numbers) (made : Made named numbers u) (stand : FactsStand named numbers u (block_facts named.raw.now.block true) None) where
  abbrev mentions : List Here
  mentions = block_mentions numbers named.raw.now

  -- ---- labels

  set_anywhere : (l : ℕ) (owner : Option ℕ) (line : ℕ) → owner ≡ None → IsTrue (sets l u.body) → IsTrue (reaches_label u (Some (record { proc = owner; line = line })) 0 l None)
  set_anywhere l None line e h = h
  set_anywhere l (Some q) line e h = absurd (cc)

  pub label_found : (d : Declaration) → is_own_label d.kind ≡ true → In (here None (declares d)) mentions → (k : ℕ) × (item_at numbers d.name.at.token ≡ Some (numbered.Label k)) × IsTrue (reaches (alone u) None (Some (0, k)))
  label_found d h i =
      let l = label_at named numbers u resolves placed counts made None d h i in
      (l.number, l.is_number, subst (λ o. IsTrue (reaches_label u o 0 l.number None)) (sym l.is_label) (set_anywhere l.number l.label.proc l.label.line l.is_owner l.is_set))

  -- ---- switches

  use_reached : (who : Option ℕ) (x : Use) (g : Form) → x.form ≡ g → Stands named numbers u who x → FormReached named numbers u who x.name g
  use_reached who x form.Listed e s =
      let is = label_is s.named_kind (subst (λ f. IsTrue (fits f s.named_kind)) e s.fits_use) in
      number_reached named numbers u who (number_of named numbers x.name) (subst (λ k. StandsAs named numbers u who k x.name) is s.stands_as)
  use_reached who x _ e s = tt

  mention_reached : (who : Option ℕ) (m : Mention) → MentionStands named numbers u who m → MentionReached named numbers u who m
  mention_reached who (declares d) s = tt
  mention_reached who (uses x) s = use_reached who x x.form refl s
  mention_reached who (stores token n) s = tt

  all_reached : AllMentionsReached named numbers u mentions
  all_reached m i = mention_reached m.who m.mention (stand m i)

  abbrev all_switches : List Switch
  all_switches = block_switches named numbers named.raw.now.block None

  pub switch_found : (d : Declaration) → is_own_switch d.kind ≡ true → In (here None (declares d)) mentions → (k : ℕ) × (item_at numbers d.name.at.token ≡ Some (numbered.Switch k)) × IsTrue (reaches_switch (alone u) None (Some (0, k)))
  switch_found d h i =
      let cut = split (here None (declares d)) mentions i in
      let k : ℕ = length (switches_in cut.0) in
      let count = switches_before cut.0 (few_before numbers named.raw.now placed is_own_switch cut.0 cut.1 (here None (declares d)) cut.2) in
      let is = counts cut.0 cut.1 None d (numbered.Switch k) cut.2 (ap (own_number (counted_from none_counted cut.0)) (switch_is d.kind h) ∙ ap (λ n. Some (numbered.Switch n)) count) in
      let at = zip_at (SwitchOf named numbers u) (switches_in cut.0) (switches_in cut.1) (here None (declares d)) all_switches
      (subst (λ ms. Zip (SwitchOf named numbers u) ms all_switches) (ap switches_in cut.2 ∙ picked_at (of_kind is_own_switch) cut.0 cut.1 (here None (declares d)) h)
      (in_switches named numbers u (block_parts named numbers named.raw.now.block true) None all_reached)) in
      (k, is, subst (λ o. IsTrue (reaches_list (alone u) None 0 (goals_of o))) (sym (ap (λ ss. slice_get ss k) made.switches ∙ at.1)) at.2)
