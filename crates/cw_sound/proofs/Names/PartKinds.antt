-- What the parts of a block declare by themselves.
use Rattle.std.proofs.Common.{◌≡◌, ℕ, suc, ◌+◌, List, [], ◌∷◌, ◌++◌, length, Bool, true, false, IsTrue, Option, Some, None, refl, sym, ap, ap₂, ◌∙◌, append_assoc, length-append}
use Rattle.cw_tree.specs.declared.leaf.RawName.{RawName}
use Rattle.cw_tree.specs.declared.leaf.RawType.{RawType}
use Rattle.cw_tree.specs.declared.items.RawGroup.{RawGroup}
use Rattle.cw_tree.specs.declared.items.RawData.{RawData}
use Rattle.cw_tree.specs.declared.items.RawData.TheVariants as items
use Rattle.cw_tree.specs.declared.statement.RawProc.{RawProc, out-RawProc}
use Rattle.cw_facts.specs.declared.fact.Fact.{Fact}
use Rattle.cw_facts.specs.declared.fact.Fact.TheVariants as fact
use Rattle.cw_facts.specs.declared.fact.Form.TheVariants as form
use Rattle.cw_facts.specs.declared.fact.Kind.{Kind as NameKind}
use Rattle.cw_facts.specs.declared.fact.Kind.TheVariants as kind
use Rattle.cw_facts.specs.Facts.{specifies, each_declares, each_uses, elements_facts, groups_facts, data_facts, parameters_facts, answer_facts}
use Rattle.cw_facts.specs.Signatures.{flattened}
use Rattle.cw_scope.specs.declared.resolve.Named.{Named}
use Rattle.cw_make_items.specs.Lookup.{Numbers, proc_here}
use Rattle.cw_unit.specs.declared.unit.Proc.{Proc}
use Rattle.cw_unit.specs.declared.unit.Switch.{Switch}
use Rattle.cw_sound.specs.Uses.Mentions.{Mention, Here, here, declares as declared, facts_mentions}
use Rattle.cw_sound.specs.Names.Standing.{is_own_procedure}
use Rattle.cw_sound.proofs.Names.Parts.{Part, is_plain, empty, both, plain, items as data_items, label, switch, block, procedure, more, procedure_with}
use Rattle.cw_sound.proofs.Names.Rows.{mentions_append}
use Rattle.cw_sound.proofs.Names.Picking.{pick, pick_append, none_picked}
use Rattle.cw_sound.proofs.Names.Sorts.{of_kind}
use Rattle.cw_sound.proofs.Names.MentionsOf.{Says, says_nothing, says_both, says_declared, says_each, says_elements, says_use, declared_first, specified_first, block_alone}
use Rattle.cw_sound.proofs.Names.InProcedure.{IsParameter, is_parameter, parameters_say, answer_says}

abbrev pub is_data : NameKind → Bool
is_data (kind.Single t) = true
is_data (kind.Array t b) = true
is_data (kind.Table s) = true
is_data (kind.Element t e) = true
is_data _ = false

abbrev pub IsData : Mention → Type 0
IsData m = IsTrue (of_kind is_data m)

abbrev pub IsPlain : Mention → Type 0
IsPlain m = IsTrue (is_plain m)

module _ (numbers : Numbers) where
  groups_say : (t : RawType) (gs : List RawGroup) → Says numbers IsData (groups_facts t gs)
  groups_say t [] = says_nothing numbers IsData
  groups_say t (g ∷ gs) = says_both numbers IsData (each_declares (kind.Array t g.bounds) g.names) (groups_facts t gs) (says_each numbers IsData (kind.Array t g.bounds) g.names (λ n. refl)) (groups_say t gs)

  pub data_say : (d : RawData) → Says numbers IsData (data_facts d)
  data_say (items.Singles t ns presets) = says_each numbers IsData (kind.Single t) ns (λ n. refl)
  data_say (items.Arrays t gs presets) = groups_say t gs
  data_say (items.Table t inside behind) =
      says_declared numbers IsData t.name (kind.Table t.size) (elements_facts t.name t.elems) refl (says_elements numbers IsData t.name t.elems (λ n e. refl))

  pub uses_say : (ns : List RawName) → Says numbers IsPlain (each_uses ns)
  uses_say [] = says_nothing numbers IsPlain
  uses_say (n ∷ ns) = says_use numbers IsPlain (record { name = n; form = form.Listed }) (each_uses ns) refl (uses_say ns)

-- ---- mentions of which none is of a sort

pub data_not : (is : NameKind → Bool) → ((k : NameKind) → IsTrue (is_data k) → is k ≡ false) → (m : Mention) → IsData m → of_kind is m ≡ false
data_not is never (declared d) h = never d.kind h
data_not is never _ h = refl

pub parameter_not : (is : NameKind → Bool) → ((k : NameKind) → IsTrue (is_parameter k) → is k ≡ false) → (m : Mention) → IsParameter m → of_kind is m ≡ false
parameter_not is never (declared d) h = never d.kind h
parameter_not is never _ h = refl

pub plain_not : (is : NameKind → Bool) (m : Mention) → IsPlain m → of_kind is m ≡ false
plain_not is (declared d) h = absurd (cc)
plain_not is _ h = refl

-- ---- none of these is a procedure

-- a procedure is neither data nor a parameter
neither : (k : NameKind) → (IsTrue (is_data k) → is_own_procedure k ≡ false) × (IsTrue (is_parameter k) → is_own_procedure k ≡ false)
neither (kind.Proc t) = (λ h. absurd (cc), λ h. absurd (cc))
neither _ = (λ h. refl, λ h. refl)

abbrev pub procs_in : List Here → List Here
procs_in = pick (of_kind is_own_procedure)

module _ (named : Named) (numbers : Numbers) where
  -- ---- a procedure

  module _ (p : RawProc) (fs : List Fact) (q : Option ℕ) where
    abbrev pub within_it : Option ℕ
    within_it = Some (proc_here numbers (out-RawProc p).name.at.token)

    abbrev pub inner_facts : List Fact
    inner_facts = answer_facts (out-RawProc p).answer ++ (parameters_facts (out-RawProc p).params ++ fs)

    abbrev pub first_mention : Here
    first_mention = here q (declared (record { name = (out-RawProc p).name; kind = kind.Proc (out-RawProc p).answer }))

    abbrev pub answers : List Here
    answers = facts_mentions numbers (answer_facts (out-RawProc p).answer) within_it

    abbrev pub params : List Here
    params = facts_mentions numbers (parameters_facts (out-RawProc p).params) within_it

    abbrev pub body : List Here
    body = facts_mentions numbers fs within_it

    pub shape : facts_mentions numbers (procedure_with named numbers p fs) q ≡ first_mention ∷ (answers ++ (params ++ body))
    shape =
        declared_first numbers (out-RawProc p).name (kind.Proc (out-RawProc p).answer) (specifies (out-RawProc p).name.at.token (out-RawProc p).answer (flattened (out-RawProc p).params) ∷ fact.Block (Some (out-RawProc p).name.at.token) inner_facts ∷ []) q
        ∙ ap (λ ms. first_mention ∷ ms)
        (specified_first numbers (out-RawProc p).name.at.token (out-RawProc p).answer (flattened (out-RawProc p).params) (fact.Block (Some (out-RawProc p).name.at.token) inner_facts ∷ []) q
        ∙ block_alone numbers (Some (out-RawProc p).name.at.token) inner_facts q
        ∙ mentions_append numbers (answer_facts (out-RawProc p).answer) (parameters_facts (out-RawProc p).params ++ fs) within_it
        ∙ ap (λ ms. answers ++ ms) (mentions_append numbers (parameters_facts (out-RawProc p).params) fs within_it))

    pub no_procs_before : procs_in (answers ++ params) ≡ []
    no_procs_before =
        pick_append (of_kind is_own_procedure) answers params
        ∙ ap₂ (λ a b. a ++ b)
        (none_picked (of_kind is_own_procedure) answers (λ m i. parameter_not is_own_procedure (λ k. (neither k).1) m.mention (answer_says numbers (out-RawProc p).answer within_it m i).1))
        (none_picked (of_kind is_own_procedure) params (λ m i. parameter_not is_own_procedure (λ k. (neither k).1) m.mention (parameters_say numbers (out-RawProc p).params within_it m i).1))

    pub inner_procs : procs_in (answers ++ (params ++ body)) ≡ procs_in body
    inner_procs =
        ap procs_in (sym (append_assoc answers params body)) ∙ pick_append (of_kind is_own_procedure) (answers ++ params) body ∙ ap (λ ms. ms ++ procs_in body) no_procs_before

  -- each procedure that a part declares is made
  pub part_procs : {fs : List Fact} {ws : Option ℕ → List Switch} {ps : List Proc} {s : ℕ → Bool} → Part named numbers fs ws ps s → (q : Option ℕ) → length (procs_in (facts_mentions numbers fs q)) ≡ length ps
  part_procs empty q = refl
  part_procs (both {fs} {gs} {ws} {xs} {ps} {qs} a b) q =
      ap (λ ms. length (procs_in ms)) (mentions_append numbers fs gs q)
      ∙ ap length (pick_append (of_kind is_own_procedure) (facts_mentions numbers fs q) (facts_mentions numbers gs q))
      ∙ length-append (procs_in (facts_mentions numbers fs q)) (procs_in (facts_mentions numbers gs q))
      ∙ ap₂ (λ m n. m + n) (part_procs a q) (part_procs b q) ∙ sym (length-append ps qs)
  part_procs (plain {fs} h) q = ap length (none_picked (of_kind is_own_procedure) (facts_mentions numbers fs q) (λ m i. plain_not is_own_procedure m.mention (h.mentions q m i).1))
  part_procs (data_items d) q = ap length (none_picked (of_kind is_own_procedure) (facts_mentions numbers (data_facts d) q) (λ m i. data_not is_own_procedure (λ k. (neither k).0) m.mention (data_say numbers d q m i).1))
  part_procs (label n) q = ap (λ ms. length (procs_in ms)) (declared_first numbers n kind.Label [] q)
  part_procs (switch n labels) q =
      ap (λ ms. length (procs_in ms)) (declared_first numbers n kind.Switch (each_uses labels) q)
      ∙ ap length (none_picked (of_kind is_own_procedure) (facts_mentions numbers (each_uses labels) q) (λ m i. plain_not is_own_procedure m.mention (uses_say numbers labels q m i).1))
  part_procs (block {fs} a) q = ap (λ ms. length (procs_in ms)) (block_alone numbers None fs q) ∙ part_procs a q
  part_procs (procedure p {fs} {ws} {ps} a) q =
      ap (λ ms. length (procs_in ms)) (shape p fs q) ∙ ap (λ ms. length (first_mention p fs q ∷ ms)) (inner_procs p fs q)
      ∙ ap (λ n. suc n) (part_procs a (within_it p fs q))
  part_procs (more h a) q = part_procs a q
