-- Each ANSWER is that of the procedure in whose body it stands.
use Rattle.std.proofs.Common.{◌≡◌, ◌⊎◌, inl, inr, ℕ, ◌++◌, true, IsTrue, Option, Some, None, slice_get, sym, ap, subst, ◌∙◌}
use Rattle.std.specs.Prelude.{option_map, option_and_then}
use Rattle.cw_table.specs.Rows.{item_at}
use Rattle.cw_tree.specs.declared.leaf.RawType.{RawType}
use Rattle.cw_facts.specs.declared.fact.Kind.{Kind as NameKind}
use Rattle.cw_facts.specs.declared.fact.Kind.TheVariants as kind
use Rattle.cw_facts.specs.declared.fact.Use.{Use}
use Rattle.cw_facts.specs.Facts.{block_facts}
use Rattle.cw_facts.specs.Text.{communicators_facts}
use Rattle.cw_scope.specs.declared.resolve.Named.{Named}
use Rattle.cw_scope.specs.NameRules.{fits, is_answer}
use Rattle.cw_scale.specs.Kinds.{kind_in, kind_of, fraction_of_kind}
use Rattle.cw_make_items.specs.Lookup.{Numbers, proc_in}
use Rattle.cw_make_items.specs.Types.{answer_of}
use Rattle.cw_make.specs.Procedures.{proc_of}
use Rattle.cw_unit.specs.declared.unit.Unit.{Unit as SourceUnit}
use Rattle.cw_unit.specs.declared.unit.Proc.{Proc}
use Rattle.cw_unit.specs.Scales.{fraction_of}
use Rattle.cw_sound.specs.Uses.Mentions.{In, Here, here, declares, uses, listed_mentions, block_mentions, text_mentions}
use Rattle.cw_sound.specs.Names.Found.{Found, UsesFound}
use Rattle.cw_sound.specs.Names.Standing.{AnswersFit}
use Rattle.cw_sound.proofs.Names.Lists.{in_either, in_right}
use Rattle.cw_sound.proofs.Names.Rows.{mentions_append}
use Rattle.cw_sound.proofs.Names.ListedKinds.{is_listed, communicators_say}
use Rattle.cw_sound.proofs.Names.TreeParts.{block_parts}
use Rattle.cw_sound.proofs.Names.Inside.{HereGoal, ProcedureAt}
use Rattle.cw_sound.proofs.Names.StandingNames.{answer_same}
use Rattle.cw_sound.proofs.Names.Answers.{Owned, OwnedKind, part_owned}

module _ (named : Named) (numbers : Numbers) (u : SourceUnit) (found : UsesFound named numbers) (goals : (m : Here) → In m (block_mentions numbers named.raw.now) → HereGoal named numbers u m) where
  parted : text_mentions numbers named.raw.now ≡ listed_mentions numbers named.raw.now ++ block_mentions numbers named.raw.now
  parted = mentions_append numbers (communicators_facts named.raw.now.comms) (block_facts named.raw.now.block true) None

  abbrev Result : Option ℕ → Use → Type 0
  Result who x = (p : ℕ) × (q : Proc) × (who ≡ Some p) × (slice_get u.procs p ≡ Some q) × (fraction_of_kind (kind_of named x.name) ≡ fraction_of q.answer)

  of_near : (owner who : Option ℕ) (p : ℕ) → (owner ≡ who) ⊎ (owner ≡ None) → owner ≡ Some p → who ≡ Some p
  of_near owner who p (inl e) f = sym e ∙ f
  of_near owner who p (inr e) f = absurd (let wrong : None ≡ Some p = sym e ∙ f in cc)

  of_procedure : (who owner : Option ℕ) (x : Use) (t : RawType) → kind_of named x.name ≡ Some (kind.Answer t) → (owner ≡ who) ⊎ (owner ≡ None) → Owned numbers (block_mentions numbers named.raw.now) owner t → Result who x
  of_procedure who owner x t e near o =
      let at : ProcedureAt named numbers u o.name (Some t) = goals (here o.owner (declares (record { name = o.name; kind = kind.Proc (Some t) }))) o.is_declared in
      let body : owner ≡ Some at.number = o.is_body ∙ ap (λ n. Some (proc_in n)) at.is_number in (
        at.number,
        proc_of named numbers at.proc,
        of_near owner who at.number near body,
        at.is_proc,
        ap fraction_of_kind e ∙ sym (answer_same (Some t)) ∙ ap (λ a. fraction_of (answer_of a)) (sym at.is_answer),
      )

  by_kind : (who owner : Option ℕ) (x : Use) (k : NameKind) → IsTrue (is_answer k) → kind_of named x.name ≡ Some k → (owner ≡ who) ⊎ (owner ≡ None) → OwnedKind numbers (block_mentions numbers named.raw.now) owner k → Result who x
  by_kind who owner x (kind.Answer t) h e near o = of_procedure who owner x t e near o
  by_kind who owner x _ h e near o = absurd (cc)

  not_listed : (k : NameKind) → IsTrue (is_answer k) → IsTrue (is_listed k) → ⊥
  not_listed (kind.Answer t) a b = cc
  not_listed _ a b = cc

  pub answers_fit : AnswersFit named numbers u
  answers_fit who x i is =
      let f = found who x (subst (In (here who (uses x))) (sym parted) (in_right (here who (uses x)) (listed_mentions numbers named.raw.now) (block_mentions numbers named.raw.now) i)) in
      let fit : IsTrue (is_answer f.declaration.kind) = subst (λ g. IsTrue (fits g f.declaration.kind)) is f.fits_use in
      let known = ap (λ o. option_map kind_in (option_and_then (item_at named.declarations) o)) f.refers.0 ∙ ap (option_map kind_in) f.refers.1 in
      by_side f fit known (in_either (here f.owner (declares f.declaration)) (listed_mentions numbers named.raw.now) (block_mentions numbers named.raw.now) (subst (In (here f.owner (declares f.declaration))) parted f.is_declared))
    where
      by_side : (f : Found named numbers who x) → IsTrue (is_answer f.declaration.kind) → kind_of named x.name ≡ Some f.declaration.kind
          → In (here f.owner (declares f.declaration)) (listed_mentions numbers named.raw.now) ⊎ In (here f.owner (declares f.declaration)) (block_mentions numbers named.raw.now) → Result who x
      by_side f h e (inl j) = absurd (not_listed f.declaration.kind h (communicators_say numbers named.raw.now.comms None (here f.owner (declares f.declaration)) j).1)
      by_side f h e (inr j) = by_kind who f.owner x f.declaration.kind h e f.is_near (part_owned named numbers (block_parts named numbers named.raw.now.block true) None (here f.owner (declares f.declaration)) j)
