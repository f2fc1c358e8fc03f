-- Each name that a text uses has in its unit the specification of its declaration.
use Rattle.std.proofs.Common.{◌≡◌, ◌⊎◌, inl, inr, ℕ, zero, suc, List, [], ◌∷◌, ◌++◌, true, false, IsTrue, Option, Some, None, is_some, slice_get, refl, sym, ap, subst, ◌∙◌, append-nil}
use Rattle.std.specs.Prelude.{option_map, option_and_then}
use Rattle.std.specs.declared.result.Result.TheVariants as result
use Rattle.std.proofs.lemmas.Option.{same_Some}
use Rattle.cw_table.specs.Rows.{item_at}
use Rattle.cw_tree.specs.declared.leaf.RawName.{RawName}
use Rattle.cw_tree.specs.declared.leaf.RawType.{RawType}
use Rattle.cw_tree.specs.declared.segment.RawPs.{RawPs}
use Rattle.cw_tree.specs.declared.statement.RawProc.{out-RawProc}
use Rattle.cw_facts.specs.declared.fact.Declaration.{Declaration}
use Rattle.cw_facts.specs.declared.fact.Kind.{Kind as NameKind}
use Rattle.cw_facts.specs.declared.fact.Kind.TheVariants as kind
use Rattle.cw_facts.specs.declared.fact.Use.{Use}
use Rattle.cw_facts.specs.Facts.{block_facts}
use Rattle.cw_facts.specs.Signatures.{plain, flattened}
use Rattle.cw_facts.specs.Text.{communicators_facts}
use Rattle.cw_scope.specs.declared.resolve.Named.{Named}
use Rattle.cw_scope.specs.Outcome.{Resolves}
use Rattle.cw_scope.specs.Resolved.{text_signatures}
use Rattle.cw_scale.specs.Kinds.{kind_in, kind_of}
use Rattle.cw_items.specs.Things.{text_things}
use Rattle.cw_number.specs.Listed.{listed_of}
use Rattle.cw_number.specs.Numbers.{numbers_of}
use Rattle.cw_make.specs.Procedures.{block_procs}
use Rattle.cw_make_items.specs.Descriptors.{descs_of}
use Rattle.cw_make_items.specs.Lookup.{Numbers}
use Rattle.cw_make_items.specs.Types.{spec_of}
use Rattle.cw_unit.specs.declared.unit.Unit.{Unit as SourceUnit}
use Rattle.cw_unit.specs.declared.unit.Proc.{Proc}
use Rattle.cw_unit.specs.declared.descriptor.Spec.{Spec}
use Rattle.cw_deepest.specs.Programs.Fitting.{AreNumbered, spec_if}
use Rattle.cw_deepest.specs.Linked.UnitFits.{parameter_in}
use Rattle.cw_sound.specs.Uses.Mentions.{In, Mention, Here, here, declares, listed_mentions, block_mentions, text_mentions}
use Rattle.cw_sound.specs.Names.Found.{Refers, Found, UsesFound}
use Rattle.cw_sound.specs.Names.Placed.{Placed}
use Rattle.cw_sound.specs.Names.Standing.{CountsOwn, FewParameters, ItemsStand}
use Rattle.cw_sound.proofs.Names.Inside.{ProcedureAt}
use Rattle.cw_sound.proofs.Names.Inside as inside
use Rattle.cw_sound.proofs.Names.Lists.{in_either, in_right}
use Rattle.cw_sound.proofs.Names.MentionsOf.{signatures_append}
use Rattle.cw_sound.proofs.Names.OwnDeclarations.{Made, goals, signatures_differ}
use Rattle.cw_sound.proofs.Names.Rows.{mentions_append}
use Rattle.cw_sound.proofs.Names.StandingNames.{number_here, signature_here}
use Rattle.cw_sound.proofs.Names.TreeParts.{block_parts}
use Rattle.cw_sound.proofs.Calls.Names.Taken.{declared_spec}
use Rattle.cw_sound.proofs.Calls.Names.Numbered.{Goal, HereGoal, in_part}
use Rattle.cw_sound.proofs.Calls.Names.Known.{HasSpec, SpecsAs, SpecsKnown, UsesKnown}
use Rattle.cw_sound.proofs.Calls.Names.Listed.{listed_specs}

abbrev IsNear : (owner who : Option ℕ) → Type 0
IsNear owner who = (owner ≡ who) ⊎ (owner ≡ None)

same_owner : (owner who : Option ℕ) → IsTrue (is_some owner) → IsNear owner who → owner ≡ who
same_owner owner who h (inl e) = e
same_owner owner who h (inr e) = absurd (let none : true ≡ false = sym h ∙ ap is_some e in cc)

module _ (named : Named) (numbers : Numbers) (u : SourceUnit) (resolves : Resolves named.raw.now (result.Ok named)) (placed : Placed named.raw.now) (counts : CountsOwn named numbers) (made : Made named numbers u) (few : FewParameters named) where
  -- all parts of the outermost block together
  whole : ((m : Here) → In m (block_mentions numbers named.raw.now) → HereGoal named numbers u m) × ((x : Proc) → In x (block_procs named numbers named.raw.now.block) → AreNumbered 0 x.params)
  whole =
      in_part named numbers u placed counts few (block_parts named numbers named.raw.now.block true) None [] [] [] []
      (record {
        parted = sym (append-nil (block_mentions numbers named.raw.now));
        made = made.procs ∙ sym (append-nil (block_procs named numbers named.raw.now.block));
        count = refl;
        sub = λ r i. subst (In r) (sym (resolves.4 ∙ signatures_append (communicators_facts named.raw.now.comms) (block_facts named.raw.now.block true)))
            (in_right r (text_signatures (communicators_facts named.raw.now.comms)) (text_signatures (block_facts named.raw.now.block true)) i);
      })

  found_in : (xs : List Proc) (q : ℕ) (x : Proc) → slice_get xs q ≡ Some x → In x xs
  found_in [] q x e = absurd (cc)
  found_in (y ∷ ys) zero x e = inl (same_Some y x e)
  found_in (y ∷ ys) (suc q) x e = inr (found_in ys q x e)

  -- control parameters are numbered
  pub procedures_numbered : (q : ℕ) (x : Proc) → slice_get u.procs q ≡ Some x → AreNumbered 0 x.params
  procedures_numbered q x e = whole.1 x (subst (In x) made.procs (found_in u.procs q x e))

  module _ (owner who : Option ℕ) (near : IsNear owner who) (n : RawName) (d : Declaration) (r : Refers named n d) where
    own_spec : (answer : Option RawType) → ProcedureAt named numbers u d.name answer → SpecsAs named numbers u who (kind.Proc answer) n
    own_spec answer at =
        let params : List RawPs = flattened (out-RawProc at.proc).params in
        let same : spec_if (slice_get u.procs at.number) ≡ Some (spec_of answer params) =
        ap spec_if at.is_proc ∙ ap (λ (s : Spec). Some s) (declared_spec numbers named at.proc ∙ ap (λ (a : Option RawType). spec_of a params) at.is_answer) in (
          params,
          signature_here named numbers u n d (record { answer = answer; params = params }) (signatures_differ named numbers u resolves placed counts made) r at.signature,
          subst (HasSpec named numbers u (spec_of answer params)) (sym (number_here named numbers u n d r ∙ at.is_number)) same,
        )

    own_kind : (k : NameKind) → inside.Goal named numbers u owner d.name k → Goal named numbers u owner d.name k → SpecsAs named numbers u who k n
    own_kind (kind.Proc answer) g h = own_spec answer g
    own_kind kind.LabelParam g h = (h.0, number_here named numbers u n d r ∙ h.1, ap (λ o. parameter_in u o h.0) (sym (same_owner owner who h.3 near)) ∙ h.2)
    own_kind kind.SwitchParam g h = (h.0, number_here named numbers u n d r ∙ h.1, ap (λ o. parameter_in u o h.0) (sym (same_owner owner who h.3 near)) ∙ h.2)
    own_kind (kind.ProcParam answer) g h =
        let c = h.1 in (
          h.0,
          c.0,
          number_here named numbers u n d r ∙ c.1,
          ap (λ o. parameter_in u o c.0) (sym (same_owner owner who c.3 near)) ∙ c.2,
          signature_here named numbers u n d (record { answer = answer; params = plain h.0 }) (signatures_differ named numbers u resolves placed counts made) r h.2,
        )
    own_kind _ g h = tt

  module _ (items : ItemsStand named numbers u) (is : numbers ≡ numbers_of named) (descs : u.descs ≡ descs_of numbers (listed_of named.raw.now) (text_things named named.raw.now) named.raw.now.comms) (found : UsesFound named numbers) where
    parted : text_mentions numbers named.raw.now ≡ listed_mentions numbers named.raw.now ++ block_mentions numbers named.raw.now
    parted = mentions_append numbers (communicators_facts named.raw.now.comms) (block_facts named.raw.now.block true) None

    by_side : (owner who : Option ℕ) → IsNear owner who → (n : RawName) (d : Declaration) → Refers named n d → In (here owner (declares d)) (listed_mentions numbers named.raw.now) ⊎ In (here owner (declares d)) (block_mentions numbers named.raw.now) → SpecsAs named numbers u who d.kind n
    by_side owner who near n d r (inl i) = listed_specs named numbers u resolves placed items is descs owner d i who n r
    by_side owner who near n d r (inr i) = own_kind owner who near n d r d.kind (goals named numbers u resolves placed counts made (here owner (declares d)) i) (whole.0 (here owner (declares d)) i)

    use_known : (who : Option ℕ) (x : Use) → Found named numbers who x → SpecsKnown named numbers u who x.name
    use_known who x f k e =
        let d : Declaration = f.declaration in
        let its_kind : kind_of named x.name ≡ Some d.kind = ap (λ o. option_map kind_in (option_and_then (item_at named.declarations) o)) f.refers.0 ∙ ap (option_map kind_in) f.refers.1 in
        subst (λ (z : NameKind). SpecsAs named numbers u who z x.name) (same_Some d.kind k (sym its_kind ∙ e))
        (by_side f.owner who f.is_near x.name d f.refers
        (in_either (here f.owner (declares d)) (listed_mentions numbers named.raw.now) (block_mentions numbers named.raw.now) (subst (In (here f.owner (declares d))) parted f.is_declared)))

    pub uses_known : UsesKnown named numbers u (block_facts named.raw.now.block true) None
    uses_known m i x e =
        let there : In m (text_mentions numbers named.raw.now) = subst (In m) (sym parted) (in_right m (listed_mentions numbers named.raw.now) (block_mentions numbers named.raw.now) i) in
        use_known m.who x (found m.who x (subst (λ (z : Mention). In (here m.who z) (text_mentions numbers named.raw.now)) e there))
