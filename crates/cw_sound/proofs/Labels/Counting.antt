-- How many labels the facts of the parts of a block declare, and how many labels their statements and procedures set.
use Rattle.std.proofs.Common.{◌≡◌, ℕ, suc, ◌+◌, ◌==◌, List, [], ◌∷◌, ◌++◌, length, Bool, false, IsTrue, if◌then◌else◌, Option, None, refl, sym, ap, ap₂, subst, ◌∙◌, arith, length-append}
use Rattle.std.proofs.lemmas.Bool.Decides.{nat_tests}
use Rattle.cw_tree.specs.declared.leaf.RawName.{RawName}
use Rattle.cw_tree.specs.declared.items.RawData.{RawData}
use Rattle.cw_tree.specs.declared.statement.RawProc.{RawProc, out-RawProc}
use Rattle.cw_facts.specs.declared.fact.Fact.{Fact}
use Rattle.cw_facts.specs.declared.fact.Fact.TheVariants as fact
use Rattle.cw_facts.specs.declared.fact.Kind.{Kind as NameKind}
use Rattle.cw_facts.specs.declared.fact.Kind.TheVariants as kind
use Rattle.cw_facts.specs.Facts.{declares, each_declares, each_uses, data_facts}
use Rattle.cw_scope.specs.declared.resolve.Named.{Named}
use Rattle.cw_scope.specs.NameRules.{is_own_label}
use Rattle.cw_make_items.specs.Lookup.{Numbers}
use Rattle.cw_make_stmt.specs.Made.{labels_of, marked, mark, statement_of}
use Rattle.cw_make.specs.Labels.{facts_labels}
use Rattle.cw_make.specs.Procedures.{proc_of}
use Rattle.cw_unit.specs.declared.unit.Label.{Label}
use Rattle.cw_unit.specs.declared.unit.Proc.{Proc}
use Rattle.cw_unit.specs.declared.unit.Stmt.{Stmt}
use Rattle.cw_unit.specs.declared.unit.Stmt.TheFolds.{fold-roll-Stmt}
use Rattle.cw_unit.specs.declared.unit.Stmt.TheOpen as statement
use Rattle.cw_tokens.specs.SetLabels.{set_step, set_labels, set_in_procedures}
use Rattle.cw_sound.specs.Uses.Mentions.{In, Here, facts_mentions}
use Rattle.cw_sound.proofs.Names.Parts.{Plain, procedure_with}
use Rattle.cw_sound.proofs.Names.Rows.{mentions_append}
use Rattle.cw_sound.proofs.Names.Picking.{pick, pick_append, none_picked, Zip}
use Rattle.cw_sound.proofs.Names.Sorts.{of_kind}
use Rattle.cw_sound.proofs.Names.LabelNumbers.{LabelOf, facts_have_labels}
use Rattle.cw_sound.proofs.Names.MentionsOf.{declared_first, block_alone}
use Rattle.cw_sound.proofs.Names.InProcedure.{is_parameter, parameters_say, answer_says}
use Rattle.cw_sound.proofs.Names.PartKinds.{is_data, data_say, uses_say, answers, params, body, within_it, shape, data_not, parameter_not, plain_not}

-- ---- what declares no label

-- a label is neither data nor a parameter
neither : (k : NameKind) → (IsTrue (is_data k) → is_own_label k ≡ false) × (IsTrue (is_parameter k) → is_own_label k ≡ false)
neither kind.Label = (λ h. absurd (cc), λ h. absurd (cc))
neither _ = (λ h. refl, λ h. refl)

abbrev labels_in : List Here → List Here
labels_in = pick (of_kind is_own_label)

-- ---- what statements set

not_empty : (k : ℕ) → (suc k == 0) ≡ false
not_empty k = grind (arith, nat_tests)

labels-long : (numbers : Numbers) (ns : List RawName) → length (labels_of numbers ns) ≡ length ns
labels-long numbers [] = refl
labels-long numbers (n ∷ ns) = ap suc (labels-long numbers ns)

-- behind its labels
pub set_marked : (numbers : Numbers) (ns : List RawName) (s : Stmt) → set_labels (marked numbers ns s) ≡ length ns + set_labels s
set_marked numbers [] s = omega arith
set_marked numbers (n ∷ ns) s =
    let ls = labels_of numbers (n ∷ ns) in
    let rolled : set_labels (mark ls s) ≡ length ls + set_labels s = fold-roll-Stmt ℕ set_step (statement.Mark ls s) in
    ap (λ (b : Bool). set_labels (if b then s else mark ls s)) (not_empty (length ns)) ∙ rolled ∙ ap (λ (k : ℕ). k + set_labels s) (labels-long numbers (n ∷ ns))

pub set-append : (ps qs : List Proc) → set_in_procedures (ps ++ qs) ≡ set_in_procedures ps + set_in_procedures qs
set-append [] qs = omega arith
set-append (p ∷ ps) qs = omega (arith, set-append ps qs)

module _ (named : Named) (numbers : Numbers) where
  abbrev count : List Fact → Option ℕ → ℕ
  count fs q = length (labels_in (facts_mentions numbers fs q))

  -- the facts declare as many labels as the statement sets, and the procedures
  pub record Counted (fs : List Fact) (n : ℕ) (ps : List Proc) : Type 0 where
    pub in_body : (q : Option ℕ) → count fs q ≡ n + set_in_procedures ps

  none : (fs : List Fact) → ((q : Option ℕ) (m : Here) → In m (facts_mentions numbers fs q) → of_kind is_own_label m.mention ≡ false) → Counted fs 0 []
  none fs h = record { in_body = λ q. ap length (none_picked (of_kind is_own_label) (facts_mentions numbers fs q) (h q)) }

  pub empty : Counted [] 0 []
  empty = record { in_body = λ q. refl }

  pub plain : {fs : List Fact} → Plain numbers fs → Counted fs 0 []
  plain {fs} h = none fs (λ q m i. plain_not is_own_label m.mention (h.mentions q m i).1)

  pub items : (d : RawData) → Counted (data_facts d) 0 []
  items d = none (data_facts d) (λ q m i. data_not is_own_label (λ k. (neither k).0) m.mention (data_say numbers d q m i).1)

  count-append : (fs gs : List Fact) (q : Option ℕ) → count (fs ++ gs) q ≡ count fs q + count gs q
  count-append fs gs q =
      ap (λ ms. length (labels_in ms)) (mentions_append numbers fs gs q)
      ∙ ap length (pick_append (of_kind is_own_label) (facts_mentions numbers fs q) (facts_mentions numbers gs q))
      ∙ length-append (labels_in (facts_mentions numbers fs q)) (labels_in (facts_mentions numbers gs q))

  pub both : {fs gs : List Fact} {m n : ℕ} {ps qs : List Proc} → Counted fs m ps → Counted gs n qs → Counted (fs ++ gs) (m + n) (ps ++ qs)
  both {fs} {gs} {m} {n} {ps} {qs} a b = record {
    in_body = λ q.
        (let all = count-append fs gs q in
        let first = a.in_body q in
        let second = b.in_body q in
        let procedures = set-append ps qs in
        let z : count (fs ++ gs) q ≡ m + n + set_in_procedures (ps ++ qs) = omega (arith, all, first, second, procedures) in z);
  }

  pub labels : (ns : List RawName) → Counted (each_declares kind.Label ns) (length ns) []
  labels [] = empty
  labels (n ∷ ns) = record {
    in_body = λ q.
        (let here = ap (λ ms. length (labels_in ms)) (declared_first numbers n kind.Label (each_declares kind.Label ns) q) in
        let rest = (labels ns).in_body q in
        let z : count (declares n kind.Label ∷ each_declares kind.Label ns) q ≡ suc (length ns) + 0 = omega (arith, here, rest) in z);
  }

  pub switch : (n : RawName) (ls : List RawName) → Counted (declares n kind.Switch ∷ each_uses ls) 0 []
  switch n ls = record {
    in_body = λ q. ap (λ ms. length (labels_in ms)) (declared_first numbers n kind.Switch (each_uses ls) q)
        ∙ ap length (none_picked (of_kind is_own_label) (facts_mentions numbers (each_uses ls) q) (λ m i. plain_not is_own_label m.mention (uses_say numbers ls q m i).1));
  }

  pub block : {fs : List Fact} {n : ℕ} {ps : List Proc} → Counted fs n ps → Counted (fact.Block None fs ∷ []) n ps
  block {fs} a = record { in_body = λ q. ap (λ ms. length (labels_in ms)) (block_alone numbers None fs q) ∙ a.in_body q }

  pub procedure : (p : RawProc) {fs : List Fact} {ps : List Proc} → Counted fs (set_labels (statement_of named numbers (out-RawProc p).body)) ps → Counted (procedure_with named numbers p fs) 0 (proc_of named numbers p ∷ ps)
  procedure p {fs} {ps} a = record {
    in_body = λ q.
        (let xs = answers named numbers p fs q in
        let ys = params named numbers p fs q in
        let zs = body named numbers p fs q in
        let shaped = ap (λ ms. length (labels_in ms)) (shape named numbers p fs q) in
        let none_first = none_picked (of_kind is_own_label) xs (λ m i. parameter_not is_own_label (λ k. (neither k).1) m.mention (answer_says numbers (out-RawProc p).answer (within_it named numbers p fs q) m i).1) in
        let none_second = none_picked (of_kind is_own_label) ys (λ m i. parameter_not is_own_label (λ k. (neither k).1) m.mention (parameters_say numbers (out-RawProc p).params (within_it named numbers p fs q) m i).1) in
        let inner : labels_in (xs ++ (ys ++ zs)) ≡ labels_in zs =
        pick_append (of_kind is_own_label) xs (ys ++ zs) ∙ ap₂ (λ a b. a ++ b) none_first (pick_append (of_kind is_own_label) ys zs ∙ ap (λ a. a ++ labels_in zs) none_second) in
        let within = a.in_body (within_it named numbers p fs q) in
        let last = ap length inner in
        shaped ∙ last ∙ within ∙ (let z : set_labels (statement_of named numbers (out-RawProc p).body) + set_in_procedures ps ≡ 0 + (set_labels (statement_of named numbers (out-RawProc p).body) + set_in_procedures ps) = omega arith in z));
  }

  pub like : {fs gs : List Fact} {m n : ℕ} {ps qs : List Proc} → gs ≡ fs → n ≡ m → qs ≡ ps → Counted fs m ps → Counted gs n qs
  like {fs} {gs} {m} {n} {ps} {qs} ef en ep a = subst (λ f. Counted f n qs) (sym ef) (subst (λ k. Counted fs k qs) (sym en) (subst (λ p. Counted fs m p) (sym ep) a))

  zip-long : (ms : List Here) (ls : List Label) → Zip LabelOf ms ls → length ls ≡ length ms
  zip-long [] [] h = refl
  zip-long [] (l ∷ ls) h = absurd h
  zip-long (m ∷ ms) [] h = absurd h
  zip-long (m ∷ ms) (l ∷ ls) h = ap suc (zip-long ms ls h.1)

  pub labels_counted : {fs : List Fact} {n : ℕ} {ps : List Proc} → Counted fs n ps → (q : Option ℕ) → length (facts_labels numbers fs q) ≡ n + set_in_procedures ps
  labels_counted {fs} a q = zip-long (labels_in (facts_mentions numbers fs q)) (facts_labels numbers fs q) (facts_have_labels numbers fs q) ∙ a.in_body q
