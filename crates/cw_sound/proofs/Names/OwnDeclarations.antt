-- What the declarations of the outermost block stand for.
use Rattle.std.proofs.Common.{◌≡◌, ℕ, [], ◌++◌, length, true, IsTrue, Option, Some, None, slice_get, refl, sym, ap, subst, ◌∙◌, append-nil}
use Rattle.std.specs.declared.result.Result.TheVariants as result
use Rattle.cw_table.specs.Rows.{item_at}
use Rattle.cw_tree.specs.declared.leaf.RawName.{RawName}
use Rattle.cw_facts.specs.declared.fact.Declaration.{Declaration}
use Rattle.cw_facts.specs.declared.fact.Kind.{Kind as NameKind}
use Rattle.cw_facts.specs.declared.fact.Kind.TheVariants as kind
use Rattle.cw_facts.specs.Facts.{block_facts}
use Rattle.cw_facts.specs.Text.{communicators_facts}
use Rattle.cw_scope.specs.declared.resolve.Named.{Named}
use Rattle.cw_scope.specs.Outcome.{Resolves}
use Rattle.cw_scope.specs.NameRules.{is_own_label}
use Rattle.cw_scope.specs.Resolved.{text_signatures}
use Rattle.cw_number.specs.declared.numbers.Counts.{Counts}
use Rattle.cw_number.specs.declared.numbered.Numbered.TheVariants as numbered
use Rattle.cw_number.specs.Numbers.{none_counted, own_number}
use Rattle.cw_make_expr.specs.Parts.{label_in}
use Rattle.cw_make_items.specs.Lookup.{Numbers}
use Rattle.cw_make_stmt.specs.Made.{block_of}
use Rattle.cw_make.specs.Labels.{facts_labels}
use Rattle.cw_make.specs.Procedures.{block_procs}
use Rattle.cw_make.specs.Switches.{block_switches}
use Rattle.cw_unit.specs.declared.unit.Unit.{Unit as SourceUnit}
use Rattle.cw_safety.specs.WellFormed.{sets}
use Rattle.cw_sound.specs.Uses.Mentions.{In, Here, here, declares, block_mentions}
use Rattle.cw_sound.specs.Names.Placed.{Placed, tokens, Differ}
use Rattle.cw_sound.specs.Names.Standing.{is_own_procedure, is_control, counted_from, CountsOwn, FewParameters, Stand}
use Rattle.cw_sound.proofs.Names.Lists.{in_right, split}
use Rattle.cw_sound.proofs.Names.Picking.{pick, picked_at, Zip, zip_at}
use Rattle.cw_sound.proofs.Names.Sorts.{of_kind, few_before, labels_before}
use Rattle.cw_sound.proofs.Names.LabelNumbers.{LabelOf, facts_have_labels}
use Rattle.cw_sound.proofs.Names.MentionsOf.{signatures_append}
use Rattle.cw_sound.proofs.Names.Inside.{SetIn, Goal, HereGoal}
use Rattle.cw_sound.proofs.Names.InParts.{in_part}
use Rattle.cw_sound.proofs.Names.TreeParts.{block_parts}
use Rattle.cw_sound.proofs.Names.StandingNames.{LabelAt, procedure_from, control_from, label_from}

-- what the unit has of the text's outermost block
pub record Made (named : Named) (numbers : Numbers) (u : SourceUnit) : Type 0 where
  pub procs : u.procs ≡ block_procs named numbers named.raw.now.block
  pub labels : u.labels ≡ facts_labels numbers (block_facts named.raw.now.block true) None
  pub switches : u.switches ≡ block_switches named numbers named.raw.now.block None
  pub body : u.body ≡ block_of named numbers named.raw.now.block

numbered_label : (k : NameKind) (c : Counts) → IsTrue (is_own_label k) → own_number c k ≡ Some (numbered.Label c.labels)
numbered_label kind.Label c h = refl
numbered_label _ c h = absurd (cc)

module _ (named : Named) (numbers : Numbers) (u : SourceUnit) (resolves : Resolves named.raw.now (result.Ok named)) (placed : Placed named.raw.now) (counts : CountsOwn named numbers) (made : Made named numbers u) where
  all_signatures : named.signatures ≡ text_signatures (communicators_facts named.raw.now.comms) ++ text_signatures (block_facts named.raw.now.block true)
  all_signatures = resolves.4 ∙ signatures_append (communicators_facts named.raw.now.comms) (block_facts named.raw.now.block true)

  pub signatures_differ : Differ (tokens named.signatures)
  signatures_differ = subst (λ rs. Differ (tokens rs)) (sym resolves.4) placed.signatures

  -- all parts together
  pub goals : (m : Here) → In m (block_mentions numbers named.raw.now) → HereGoal named numbers u m
  goals =
      in_part named numbers u placed counts (block_parts named numbers named.raw.now.block true) None [] [] [] []
      (record {
        parted = sym (append-nil (block_mentions numbers named.raw.now));
        made = made.procs ∙ sym (append-nil (block_procs named numbers named.raw.now.block));
        count = refl;
        sub = λ r i. subst (In r) (sym all_signatures) (in_right r (text_signatures (communicators_facts named.raw.now.comms)) (text_signatures (block_facts named.raw.now.block true)) i);
      })
      (λ l h. subst (λ s. IsTrue (sets l s)) (sym made.body) h)

  pub procedures_stand : Stand named numbers u is_own_procedure (block_mentions numbers named.raw.now)
  procedures_stand owner d h i = procedure_from named numbers u owner d h signatures_differ (goals (here owner (declares d)) i)

  pub parameters_stand : FewParameters named → Stand named numbers u is_control (block_mentions numbers named.raw.now)
  parameters_stand few owner d h i = control_from named numbers u few owner d h signatures_differ (goals (here owner (declares d)) i)

  set_goal : (owner : Option ℕ) (n : RawName) (k : NameKind) → IsTrue (is_own_label k) → Goal named numbers u owner n k → SetIn named numbers u owner (label_in (item_at numbers n.at.token))
  set_goal owner n kind.Label h g = g
  set_goal owner n _ h g = absurd (cc)

  pub label_at : (owner : Option ℕ) (d : Declaration) → IsTrue (is_own_label d.kind) → In (here owner (declares d)) (block_mentions numbers named.raw.now) → LabelAt named numbers u owner d.name
  label_at owner d h i =
      let cut = split (here owner (declares d)) (block_mentions numbers named.raw.now) i in
      let k : ℕ = length (pick (of_kind is_own_label) cut.0) in
      let count = labels_before cut.0 (few_before numbers named.raw.now placed is_own_label cut.0 cut.1 (here owner (declares d)) cut.2) in
      let is = counts cut.0 cut.1 owner d (numbered.Label k) cut.2 (numbered_label d.kind (counted_from none_counted cut.0) h ∙ ap (λ n. Some (numbered.Label n)) count) in
      let found = zip_at LabelOf (pick (of_kind is_own_label) cut.0) (pick (of_kind is_own_label) cut.1) (here owner (declares d)) (facts_labels numbers (block_facts named.raw.now.block true) None)
      (subst (λ ms. Zip LabelOf ms (facts_labels numbers (block_facts named.raw.now.block true) None)) (ap (pick (of_kind is_own_label)) cut.2 ∙ picked_at (of_kind is_own_label) cut.0 cut.1 (here owner (declares d)) h)
      (facts_have_labels numbers (block_facts named.raw.now.block true) None)) in
      record {
        number = k;
        is_number = is;
        label = found.0;
        is_label = ap (λ ls. slice_get ls k) made.labels ∙ found.1;
        is_owner = found.2;
        is_set = subst (λ o. SetIn named numbers u owner (label_in o)) is (set_goal owner d.name d.kind h (goals (here owner (declares d)) i));
      }

  pub labels_stand : Stand named numbers u is_own_label (block_mentions numbers named.raw.now)
  labels_stand owner d h i = label_from named numbers u owner d h (label_at owner d h i)
