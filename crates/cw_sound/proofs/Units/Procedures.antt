-- The procedures of a unit beside their declarations: each is made of one that the text declares.
use Rattle.std.proofs.Common.{◌≡◌, inl, inr, ℕ, arith, List, [], ◌∷◌, ◌++◌, length, Bool, Option, None, refl, sym, ap, subst, ◌∙◌, append-nil}
use Rattle.cw_tree.specs.declared.statement.RawProc.{RawProc, out-RawProc}
use Rattle.cw_facts.specs.declared.fact.Fact.{Fact}
use Rattle.cw_facts.specs.declared.fact.Fact.TheVariants as fact
use Rattle.cw_facts.specs.Facts.{parameters_facts}
use Rattle.cw_scope.specs.declared.resolve.Named.{Named}
use Rattle.cw_scope.specs.Resolved.{fact_signatures, text_signatures}
use Rattle.cw_make_items.specs.Lookup.{Numbers}
use Rattle.cw_make.specs.Procedures.{proc_of}
use Rattle.cw_unit.specs.declared.unit.Proc.{Proc}
use Rattle.cw_unit.specs.declared.unit.Switch.{Switch}
use Rattle.cw_sound.specs.Uses.Mentions.{In, Here, facts_mentions, block_mentions}
use Rattle.cw_sound.specs.Names.Standing.{is_own_procedure}
use Rattle.cw_sound.proofs.Names.Lists.{Sub, in_right, sub_left, sub_right}
use Rattle.cw_sound.proofs.Names.Parts.{Part, empty, both, plain, items, label, switch, block, procedure, more, procedure_with}
use Rattle.cw_sound.proofs.Names.PartKinds.{procs_in, part_procs, shape, inner_procs, answers, params, body, within_it, first_mention}
use Rattle.cw_sound.proofs.Names.Signed.{row_of, rows_signed, inner_signed}
use Rattle.cw_sound.proofs.Names.Rows.{mentions_append}
use Rattle.cw_sound.proofs.Names.Picking.{pick_append, Zip, zip_both}
use Rattle.cw_sound.proofs.Names.Sorts.{of_kind}
use Rattle.cw_sound.proofs.Names.MentionsOf.{block_alone, signatures_append, signatures_block}
use Rattle.cw_sound.proofs.Units.Bodies.{Declares}

module _ (named : Named) (numbers : Numbers) where
  abbrev pub all : List Here
  all = block_mentions numbers named.raw.now

  -- a procedure of the unit, and the mention that declares it
  pub record ProcOf (m : Here) (q : Proc) : Type 0 where
    pub proc : RawProc
    pub is_proc : q ≡ proc_of named numbers proc
    pub name : Declares m.mention (out-RawProc proc).name.at.token
    pub signature : In (row_of proc) named.signatures
    pub inside : (who : Option ℕ) → Sub (facts_mentions numbers (parameters_facts (out-RawProc proc).params) (within_it named numbers proc [] who)) all

  no_procs : (ms : List Here) → length ms ≡ 0 → Zip ProcOf ms []
  no_procs [] e = tt
  no_procs (m ∷ ms) e = absurd (omega (arith, e))

  none : {fs : List Fact} {ws : Option ℕ → List Switch} {s : ℕ → Bool} → Part named numbers fs ws [] s → (q : Option ℕ) → Zip ProcOf (procs_in (facts_mentions numbers fs q)) []
  none {fs} a q = no_procs (procs_in (facts_mentions numbers fs q)) (part_procs named numbers a q)

  -- ---- a procedure

  module _ (p : RawProc) (fs : List Fact) (q : Option ℕ) (sub : Sub (facts_mentions numbers (procedure_with named numbers p fs) q) all) (signed : Sub (text_signatures (procedure_with named numbers p fs)) named.signatures) where
    body_signatures : Sub (text_signatures fs) named.signatures
    body_signatures = sub_right (text_signatures (parameters_facts (out-RawProc p).params)) (text_signatures fs) named.signatures (inner_signed named numbers p fs q signed)

    inner : Sub (params named numbers p fs q ++ body named numbers p fs q) all
    inner m i = sub m (subst (In m) (sym (shape named numbers p fs q)) (inr (in_right m (answers named numbers p fs q) (params named numbers p fs q ++ body named numbers p fs q) i)))

    inner_params : Sub (params named numbers p fs q) all
    inner_params = sub_left (params named numbers p fs q) (body named numbers p fs q) all inner

    inner_body : Sub (body named numbers p fs q) all
    inner_body = sub_right (params named numbers p fs q) (body named numbers p fs q) all inner

    first : ProcOf (first_mention named numbers p fs q) (proc_of named numbers p)
    first = record { proc = p; is_proc = refl; name = refl; signature = rows_signed named numbers p fs q signed (row_of p) (inl refl); inside = λ who. inner_params }

    whole : (qs : List Proc) → Zip ProcOf (procs_in (body named numbers p fs q)) qs → Zip ProcOf (procs_in (facts_mentions numbers (procedure_with named numbers p fs) q)) (proc_of named numbers p ∷ qs)
    whole qs h =
        subst (λ ms. Zip ProcOf (procs_in ms) (proc_of named numbers p ∷ qs)) (sym (shape named numbers p fs q))
        (first, subst (λ ms. Zip ProcOf ms qs) (sym (inner_procs named numbers p fs q)) h)

  -- ---- each part

  pub part_has : {fs : List Fact} {ws : Option ℕ → List Switch} {ps : List Proc} {s : ℕ → Bool} → Part named numbers fs ws ps s
      → (q : Option ℕ) → Sub (facts_mentions numbers fs q) all → Sub (text_signatures fs) named.signatures → Zip ProcOf (procs_in (facts_mentions numbers fs q)) ps
  part_has empty q sub signed = tt
  part_has (both {fs} {gs} {ws} {xs} {ps} {qs} a b) q sub signed =
      let f : List Here = facts_mentions numbers fs q in
      let g : List Here = facts_mentions numbers gs q in
      let subs = subst (λ ms. Sub ms all) (mentions_append numbers fs gs q) sub in
      let rows = subst (λ rs. Sub rs named.signatures) (signatures_append fs gs) signed in
      subst (λ ms. Zip ProcOf ms (ps ++ qs)) (sym (ap procs_in (mentions_append numbers fs gs q) ∙ pick_append (of_kind is_own_procedure) f g))
      (zip_both ProcOf (procs_in f) (procs_in g) ps qs
      (part_has a q (sub_left f g all subs) (sub_left (text_signatures fs) (text_signatures gs) named.signatures rows))
      (part_has b q (sub_right f g all subs) (sub_right (text_signatures fs) (text_signatures gs) named.signatures rows)))
  part_has (plain h) q sub signed = none (plain h) q
  part_has (items d) q sub signed = none (items d) q
  part_has (label n) q sub signed = none (label n) q
  part_has (switch n labels) q sub signed = none (switch n labels) q
  part_has (block {fs} {ws} {ps} a) q sub signed =
      subst (λ ms. Zip ProcOf (procs_in ms) ps) (sym (block_alone numbers None fs q))
      (part_has a q (subst (λ ms. Sub ms all) (block_alone numbers None fs q) sub) (subst (λ rs. Sub rs named.signatures) (append-nil (fact_signatures (fact.Block None fs)) ∙ signatures_block None fs) signed))
  part_has (procedure p {fs} {ws} {ps} a) q sub signed =
      whole p fs q sub signed ps (part_has a (within_it named numbers p fs q) (inner_body p fs q sub signed) (body_signatures p fs q sub signed))
  part_has (more h a) q sub signed = part_has a q sub signed
