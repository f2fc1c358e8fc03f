-- The switches of a text, beside their declarations: each of its labels is reached in the body where the switch is declared.
use Rattle.std.proofs.Common.{◌≡◌, inl, inr, ℕ, List, [], ◌∷◌, ◌++◌, Bool, true, false, IsTrue, ◌&&◌, Option, Some, None, slice_get, refl, sym, ap, subst, ◌∙◌}
use Rattle.cw_tree.specs.declared.leaf.RawName.{RawName}
use Rattle.cw_tree.specs.declared.statement.RawProc.{out-RawProc}
use Rattle.cw_facts.specs.declared.fact.Fact.{Fact}
use Rattle.cw_facts.specs.declared.fact.Form.{Form}
use Rattle.cw_facts.specs.declared.fact.Form.TheVariants as form
use Rattle.cw_facts.specs.declared.fact.Kind.{Kind as NameKind}
use Rattle.cw_facts.specs.declared.fact.Kind.TheVariants as kind
use Rattle.cw_facts.specs.Facts.{each_uses, data_facts}
use Rattle.cw_scope.specs.declared.resolve.Named.{Named}
use Rattle.cw_scope.specs.NameRules.{is_own_switch}
use Rattle.cw_number.specs.declared.numbered.Numbered.{Numbered}
use Rattle.cw_number.specs.declared.numbered.Numbered.TheVariants as numbered
use Rattle.cw_make_items.specs.Lookup.{Numbers, goal_in, goal_of}
use Rattle.cw_make.specs.Switches.{goals_of}
use Rattle.cw_unit.specs.declared.unit.Unit.{Unit as SourceUnit}
use Rattle.cw_unit.specs.declared.unit.Proc.{Proc}
use Rattle.cw_unit.specs.declared.unit.Label.{Label}
use Rattle.cw_unit.specs.declared.unit.Goal.{Goal}
use Rattle.cw_unit.specs.declared.unit.Switch.{Switch}
use Rattle.cw_unit.specs.Step.{label_of_goal}
use Rattle.cw_safety.specs.WellFormed.{reaches, reaches_unit, reaches_label, reaches_goals}
use Rattle.cw_built.specs.Built.{alone, at_work}
use Rattle.cw_sound.specs.Uses.Mentions.{In, Mention, Here, here, declares as declared, uses, stores, facts_mentions}
use Rattle.cw_sound.specs.Uses.Stands.{IsLabel}
use Rattle.cw_sound.proofs.Names.Parts.{Part, empty, both, plain, items as data_items, label, switch, block, procedure, more}
use Rattle.cw_sound.proofs.Names.Lists.{in_left, in_right}
use Rattle.cw_sound.proofs.Names.Rows.{mentions_append}
use Rattle.cw_sound.proofs.Names.Picking.{pick, pick_append, none_picked, Zip, zip_both}
use Rattle.cw_sound.proofs.Names.Sorts.{of_kind}
use Rattle.cw_sound.proofs.Names.MentionsOf.{declared_first, block_alone, of_use}
use Rattle.cw_sound.proofs.Names.InProcedure.{is_parameter, parameters_say, answer_says}
use Rattle.cw_sound.proofs.Names.PartKinds.{is_data, data_say, uses_say, shape, answers, params, body, within_it, data_not, parameter_not, plain_not}

-- ---- none of these is a switch

-- a switch is neither data nor a parameter
neither : (k : NameKind) → (IsTrue (is_data k) → is_own_switch k ≡ false) × (IsTrue (is_parameter k) → is_own_switch k ≡ false)
neither kind.Switch = (λ h. absurd (cc), λ h. absurd (cc))
neither _ = (λ h. refl, λ h. refl)

abbrev pub switches_in : List Here → List Here
switches_in = pick (of_kind is_own_switch)

both_hold : (a b : Bool) → IsTrue a → IsTrue b → IsTrue (a && b)
both_hold true b h k = k
both_hold false b h k = absurd (cc)

-- ---- what is reached from the segment's body is reached from each

label_everywhere : (u : SourceUnit) (proc : Option ℕ) (line h l : ℕ) (o : Option (ℕ × ℕ)) → IsTrue (reaches_label u (Some (record { proc = proc; line = line })) h l None) → IsTrue (reaches_label u (Some (record { proc = proc; line = line })) h l o)
label_everywhere u None line h l o e = e
label_everywhere u (Some q) line h l o e = absurd (cc)

some_label_everywhere : (u : SourceUnit) (m : Option Label) (h l : ℕ) (o : Option (ℕ × ℕ)) → IsTrue (reaches_label u m h l None) → IsTrue (reaches_label u m h l o)
some_label_everywhere u None h l o e = absurd (cc)
some_label_everywhere u (Some m) h l o e = label_everywhere u m.proc m.line h l o e

unit_everywhere : (v : Option SourceUnit) (h l : ℕ) (o : Option (ℕ × ℕ)) → IsTrue (reaches_unit v h l None) → IsTrue (reaches_unit v h l o)
unit_everywhere None h l o e = absurd (cc)
unit_everywhere (Some u) h l o e = some_label_everywhere u (slice_get u.labels l) h l o e

both_parts : (a b : Bool) → IsTrue (a && b) → IsTrue a × IsTrue b
both_parts true b h = (refl, h)
both_parts false b h = absurd (cc)

module _ (u : SourceUnit) where
  pub everywhere : (l : Option (ℕ × ℕ)) (o : Option (ℕ × ℕ)) → IsTrue (reaches (alone u) None l) → IsTrue (reaches (alone u) o l)
  everywhere None o e = absurd (cc)
  everywhere (Some l) o e = unit_everywhere (slice_get (alone u).units l.0) l.0 l.1 o e

  abbrev pub AllReached : Option ℕ → List Goal → Type 0
  AllReached q gs = IsTrue (reaches_goals (alone u) (at_work q) 0 gs)

  pub all_everywhere : (who : Option ℕ) (gs : List Goal) → AllReached None gs → AllReached who gs
  all_everywhere who [] h = refl
  all_everywhere who (g ∷ gs) h =
      let parts = both_parts (reaches (alone u) None (label_of_goal (alone u) 0 g)) (reaches_goals (alone u) None 0 gs) h in
      both_hold (reaches (alone u) (at_work who) (label_of_goal (alone u) 0 g)) (reaches_goals (alone u) (at_work who) 0 gs) (everywhere (label_of_goal (alone u) 0 g) (at_work who) parts.0) (all_everywhere who gs parts.1)

-- ---- the labels that switches list

module _ (named : Named) (numbers : Numbers) (u : SourceUnit) where
  abbrev pub LabelReached : Option ℕ → RawName → Type 0
  LabelReached q n = IsTrue (reaches (alone u) (at_work q) (label_of_goal (alone u) 0 (goal_of named numbers n)))

  abbrev pub FormReached : Option ℕ → RawName → Form → Type 0
  FormReached q n form.Listed = LabelReached q n
  FormReached q n _ = Unit {0}

  abbrev pub MentionReached : Option ℕ → Mention → Type 0
  MentionReached q (declared d) = Unit {0}
  MentionReached q (uses x) = FormReached q x.name x.form
  MentionReached q (stores token n) = Unit {0}

  abbrev pub AllMentionsReached : List Here → Type 0
  AllMentionsReached ms = (m : Here) → In m ms → MentionReached m.who m.mention

  goals_reached : (labels : List RawName) (q : Option ℕ) → AllMentionsReached (facts_mentions numbers (each_uses labels) q) → AllReached u q (goals_of named numbers labels)
  goals_reached [] q h = refl
  goals_reached (n ∷ ns) q h =
      let here_first = subst AllMentionsReached (ap (λ ms. ms ++ facts_mentions numbers (each_uses ns) q) (of_use numbers (record { name = n; form = form.Listed }) q)) h in
      both_hold (reaches (alone u) (at_work q) (label_of_goal (alone u) 0 (goal_of named numbers n))) (reaches_goals (alone u) (at_work q) 0 (goals_of named numbers ns))
      (here_first (here q (uses (record { name = n; form = form.Listed }))) (inl refl)) (goals_reached ns q (λ m i. here_first m (inr i)))

  abbrev pub SwitchOf : Here → Switch → Type 0
  SwitchOf m s = AllReached u m.who s.list

  none_here : (ms : List Here) → switches_in ms ≡ [] → Zip SwitchOf (switches_in ms) []
  none_here ms e = subst (λ zs. Zip SwitchOf zs []) (sym e) tt

  pub in_switches : {fs : List Fact} {ws : Option ℕ → List Switch} {ps : List Proc} {s : ℕ → Bool} → Part named numbers fs ws ps s → (q : Option ℕ) → AllMentionsReached (facts_mentions numbers fs q) → Zip SwitchOf (switches_in (facts_mentions numbers fs q)) (ws q)
  in_switches empty q h = tt
  in_switches (both {fs} {gs} {ws} {xs} {ps} {qs} a b) q h =
      let f : List Here = facts_mentions numbers fs q in
      let g : List Here = facts_mentions numbers gs q in
      let parted = subst AllMentionsReached (mentions_append numbers fs gs q) h in
      subst (λ zs. Zip SwitchOf zs (ws q ++ xs q)) (sym (ap switches_in (mentions_append numbers fs gs q) ∙ pick_append (of_kind is_own_switch) f g))
      (zip_both SwitchOf (switches_in f) (switches_in g) (ws q) (xs q) (in_switches a q (λ m i. parted m (in_left m f g i))) (in_switches b q (λ m i. parted m (in_right m f g i))))
  in_switches (plain {fs} p) q h = none_here (facts_mentions numbers fs q) (none_picked (of_kind is_own_switch) (facts_mentions numbers fs q) (λ m i. plain_not is_own_switch m.mention (p.mentions q m i).1))
  in_switches (data_items d) q h = none_here (facts_mentions numbers (data_facts d) q) (none_picked (of_kind is_own_switch) (facts_mentions numbers (data_facts d) q) (λ m i. data_not is_own_switch (λ k. (neither k).0) m.mention (data_say numbers d q m i).1))
  in_switches (label n) q h = subst (λ ms. Zip SwitchOf (switches_in ms) []) (sym (declared_first numbers n kind.Label [] q)) tt
  in_switches (switch n labels) q h =
      let parted = subst AllMentionsReached (declared_first numbers n kind.Switch (each_uses labels) q) h in
      subst (λ ms. Zip SwitchOf (switches_in ms) (record { proc = q; list = goals_of named numbers labels } ∷ [])) (sym (declared_first numbers n kind.Switch (each_uses labels) q))
      (goals_reached labels q (λ m i. parted m (inr i)), none_here (facts_mentions numbers (each_uses labels) q) (none_picked (of_kind is_own_switch) (facts_mentions numbers (each_uses labels) q) (λ m i. plain_not is_own_switch m.mention (uses_say numbers labels q m i).1)))
  in_switches (block {fs} {ws} a) q h =
      subst (λ ms. Zip SwitchOf (switches_in ms) (ws q)) (sym (block_alone numbers None fs q)) (in_switches a q (subst AllMentionsReached (block_alone numbers None fs q) h))
  in_switches (procedure p {fs} {ws} {ps} a) q h =
      let who : Option ℕ = within_it named numbers p fs q in
      let rest : List Here = params named numbers p fs q ++ body named numbers p fs q in
      let parted = subst AllMentionsReached (shape named numbers p fs q) h in
      let no_answers = none_picked (of_kind is_own_switch) (answers named numbers p fs q) (λ m i. parameter_not is_own_switch (λ k. (neither k).1) m.mention (answer_says numbers (out-RawProc p).answer who m i).1) in
      let no_params = none_picked (of_kind is_own_switch) (params named numbers p fs q) (λ m i. parameter_not is_own_switch (λ k. (neither k).1) m.mention (parameters_say numbers (out-RawProc p).params who m i).1) in
      let same : switches_in (answers named numbers p fs q ++ rest) ≡ switches_in (body named numbers p fs q) =
      pick_append (of_kind is_own_switch) (answers named numbers p fs q) rest ∙ ap (λ zs. zs ++ switches_in rest) no_answers
      ∙ pick_append (of_kind is_own_switch) (params named numbers p fs q) (body named numbers p fs q) ∙ ap (λ zs. zs ++ switches_in (body named numbers p fs q)) no_params in
      subst (λ ms. Zip SwitchOf (switches_in ms) (ws who)) (sym (shape named numbers p fs q))
      (subst (λ zs. Zip SwitchOf zs (ws who)) (sym same)
      (in_switches a who (λ m i. parted m (inr (in_right m (answers named numbers p fs q) rest (in_right m (params named numbers p fs q) (body named numbers p fs q) i))))))
  in_switches (more k a) q h = in_switches a q h

-- a number of a label that a body may jump to
pub number_reached : (named : Named) (numbers : Numbers) (u : SourceUnit) (who : Option ℕ) (o : Option Numbered) → IsLabel named numbers u who o → IsTrue (reaches (alone u) (at_work who) (label_of_goal (alone u) 0 (goal_in o)))
number_reached named numbers u who None h = absurd h
number_reached named numbers u who (Some (numbered.Label l)) h = h
number_reached named numbers u who (Some (numbered.CommonLabel d)) h = h
number_reached named numbers u who (Some (numbered.Item i)) h = absurd h
number_reached named numbers u who (Some (numbered.Switch s)) h = absurd h
number_reached named numbers u who (Some (numbered.CommonSwitch d)) h = absurd h
number_reached named numbers u who (Some (numbered.Proc p)) h = absurd h
number_reached named numbers u who (Some (numbered.CommonProc d)) h = absurd h
number_reached named numbers u who (Some (numbered.Control c)) h = absurd h
number_reached named numbers u who (Some numbered.ReadByte) h = absurd h
number_reached named numbers u who (Some numbered.WriteByte) h = absurd h
