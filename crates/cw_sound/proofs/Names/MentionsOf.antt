-- What facts mention and which signatures they have, one by one.
use Rattle.std.proofs.Common.{◌≡◌, ◌⊎◌, inl, inr, ℕ, List, [], ◌∷◌, ◌++◌, map, Option, Some, None, refl, sym, ap, ap₂, subst, ◌∙◌, append_assoc, append-nil}
use Rattle.cw_table.specs.declared.table.Row.{Row}
use Rattle.cw_tree.specs.declared.leaf.RawName.{RawName}
use Rattle.cw_tree.specs.declared.items.RawElem.{RawElem}
use Rattle.cw_tree.specs.declared.leaf.RawType.{RawType}
use Rattle.cw_tree.specs.declared.leaf.Position.{Position}
use Rattle.cw_tree.specs.declared.segment.RawPs.{RawPs}
use Rattle.cw_facts.specs.declared.fact.Fact.{Fact}
use Rattle.cw_facts.specs.declared.fact.Fact.TheVariants as fact
use Rattle.cw_facts.specs.declared.fact.Fact.TheOpen as layer
use Rattle.cw_facts.specs.declared.fact.Fact.TheFolds.{fold-roll-Fact}
use Rattle.cw_facts.specs.declared.fact.Kind.{Kind}
use Rattle.cw_facts.specs.declared.fact.Kind.TheVariants as kind
use Rattle.cw_facts.specs.declared.fact.Use.{Use}
use Rattle.cw_facts.specs.declared.fact.Signature.{Signature}
use Rattle.cw_facts.specs.Facts.{declares, specifies, each_declares, element_name, elements_facts}
use Rattle.cw_scope.specs.Resolved.{all_rows, signatures_step, fact_signatures, text_signatures}
use Rattle.cw_make_items.specs.Lookup.{Numbers}
use Rattle.cw_make.specs.Labels.{proc_within}
use Rattle.cw_sound.specs.Uses.Mentions.{In, Mention, Here, here, declares as declared, uses, stores, Mentions, mentions_step, fact_mentions, facts_mentions}
use Rattle.cw_sound.proofs.Names.Lists.{in_either}
use Rattle.cw_sound.proofs.Names.Rows.{mentions_append}

module _ (numbers : Numbers) where
  pub of_declares : (n : RawName) (k : Kind) (q : Option ℕ) → fact_mentions numbers (declares n k) q ≡ here q (declared (record { name = n; kind = k })) ∷ []
  of_declares n k q =
      ap (λ f. fact_mentions numbers f q) (sym (fact.rolls-Declares (record { name = n; kind = k })))
      ∙ ap (λ ms. ms q) (fold-roll-Fact Mentions (mentions_step numbers) (layer.Declares (record { name = n; kind = k })))

  pub of_use : (x : Use) (q : Option ℕ) → fact_mentions numbers (fact.Uses x) q ≡ here q (uses x) ∷ []
  of_use x q = ap (λ f. fact_mentions numbers f q) (sym (fact.rolls-Uses x)) ∙ ap (λ ms. ms q) (fold-roll-Fact Mentions (mentions_step numbers) (layer.Uses x))

  pub of_specifies : (token : ℕ) (answer : Option RawType) (ps : List RawPs) (q : Option ℕ) → fact_mentions numbers (specifies token answer ps) q ≡ []
  of_specifies token answer ps q =
      ap (λ f. fact_mentions numbers f q) (sym (fact.rolls-Specifies token (record { answer = answer; params = ps })))
      ∙ ap (λ ms. ms q) (fold-roll-Fact Mentions (mentions_step numbers) (layer.Specifies token (record { answer = answer; params = ps })))

  pub of_loop : (at : Position) (q : Option ℕ) → fact_mentions numbers (fact.Loop at) q ≡ here q (stores at.token 4) ∷ []
  of_loop at q = ap (λ f. fact_mentions numbers f q) (sym (fact.rolls-Loop at)) ∙ ap (λ ms. ms q) (fold-roll-Fact Mentions (mentions_step numbers) (layer.Loop at))

  pub of_text : (at : Position) (n : ℕ) (q : Option ℕ) → fact_mentions numbers (fact.Text at n) q ≡ here q (stores at.token 1) ∷ []
  of_text at n q = ap (λ f. fact_mentions numbers f q) (sym (fact.rolls-Text at n)) ∙ ap (λ ms. ms q) (fold-roll-Fact Mentions (mentions_step numbers) (layer.Text at n))

  pub of_block : (owner : Option ℕ) (fs : List Fact) (q : Option ℕ) → fact_mentions numbers (fact.Block owner fs) q ≡ facts_mentions numbers fs (proc_within numbers owner q)
  of_block owner fs q = ap (λ f. fact_mentions numbers f q) (sym (fact.rolls-Block owner fs)) ∙ ap (λ ms. ms q) (fold-roll-Fact Mentions (mentions_step numbers) (layer.Block owner fs))

  -- a declaration before other facts
  pub declared_first : (n : RawName) (k : Kind) (fs : List Fact) (q : Option ℕ) → facts_mentions numbers (declares n k ∷ fs) q ≡ here q (declared (record { name = n; kind = k })) ∷ facts_mentions numbers fs q
  declared_first n k fs q = ap (λ ms. ms ++ facts_mentions numbers fs q) (of_declares n k q)

  pub specified_first : (token : ℕ) (answer : Option RawType) (ps : List RawPs) (fs : List Fact) (q : Option ℕ) → facts_mentions numbers (specifies token answer ps ∷ fs) q ≡ facts_mentions numbers fs q
  specified_first token answer ps fs q = ap (λ ms. ms ++ facts_mentions numbers fs q) (of_specifies token answer ps q)

  pub block_alone : (owner : Option ℕ) (fs : List Fact) (q : Option ℕ) → facts_mentions numbers (fact.Block owner fs ∷ []) q ≡ facts_mentions numbers fs (proc_within numbers owner q)
  block_alone owner fs q = append-nil (fact_mentions numbers (fact.Block owner fs) q) ∙ of_block owner fs q

-- ---- signatures

signatures_declares : (n : RawName) (k : Kind) → fact_signatures (declares n k) ≡ []
signatures_declares n k =
    ap fact_signatures (sym (fact.rolls-Declares (record { name = n; kind = k }))) ∙ fold-roll-Fact (List (Row Signature)) signatures_step (layer.Declares (record { name = n; kind = k }))

signatures_specifies : (token : ℕ) (answer : Option RawType) (ps : List RawPs) → fact_signatures (specifies token answer ps) ≡ record { token = token; item = record { answer = answer; params = ps } } ∷ []
signatures_specifies token answer ps =
    ap fact_signatures (sym (fact.rolls-Specifies token (record { answer = answer; params = ps })))
    ∙ fold-roll-Fact (List (Row Signature)) signatures_step (layer.Specifies token (record { answer = answer; params = ps }))

pub signatures_block : (owner : Option ℕ) (fs : List Fact) → fact_signatures (fact.Block owner fs) ≡ text_signatures fs
signatures_block owner fs = ap fact_signatures (sym (fact.rolls-Block owner fs)) ∙ fold-roll-Fact (List (Row Signature)) signatures_step (layer.Block owner fs)

pub signatures_use : (x : Use) → fact_signatures (fact.Uses x) ≡ []
signatures_use x = ap fact_signatures (sym (fact.rolls-Uses x)) ∙ fold-roll-Fact (List (Row Signature)) signatures_step (layer.Uses x)

pub signatures_loop : (at : Position) → fact_signatures (fact.Loop at) ≡ []
signatures_loop at = ap fact_signatures (sym (fact.rolls-Loop at)) ∙ fold-roll-Fact (List (Row Signature)) signatures_step (layer.Loop at)

pub signatures_text : (at : Position) (n : ℕ) → fact_signatures (fact.Text at n) ≡ []
signatures_text at n = ap fact_signatures (sym (fact.rolls-Text at n)) ∙ fold-roll-Fact (List (Row Signature)) signatures_step (layer.Text at n)

pub declared_before : (n : RawName) (k : Kind) (fs : List Fact) → text_signatures (declares n k ∷ fs) ≡ text_signatures fs
declared_before n k fs = ap (λ rs. rs ++ text_signatures fs) (signatures_declares n k)

pub specified_before : (token : ℕ) (answer : Option RawType) (ps : List RawPs) (fs : List Fact) → text_signatures (specifies token answer ps ∷ fs) ≡ record { token = token; item = record { answer = answer; params = ps } } ∷ text_signatures fs
specified_before token answer ps fs = ap (λ rs. rs ++ text_signatures fs) (signatures_specifies token answer ps)

pub signatures_append : (xs ys : List Fact) → text_signatures (xs ++ ys) ≡ text_signatures xs ++ text_signatures ys
signatures_append [] ys = refl
signatures_append (x ∷ xs) ys = ap (λ rs. fact_signatures x ++ rs) (signatures_append xs ys) ∙ sym (append_assoc (fact_signatures x) (text_signatures xs) (text_signatures ys))

-- ---- what all that some facts mention is

module _ (numbers : Numbers) (P : Mention → Type 0) where
  -- what the facts mention stands in no body of theirs, and is so
  abbrev pub Says : List Fact → Type 0
  Says fs = (q : Option ℕ) (m : Here) → In m (facts_mentions numbers fs q) → (m.who ≡ q) × P m.mention

  pub says_nothing : Says []
  says_nothing q m h = absurd h

  pub says_both : (xs ys : List Fact) → Says xs → Says ys → Says (xs ++ ys)
  says_both xs ys h k q m i = by_side (in_either m (facts_mentions numbers xs q) (facts_mentions numbers ys q) (subst (In m) (mentions_append numbers xs ys q) i))
    where
      by_side : In m (facts_mentions numbers xs q) ⊎ In m (facts_mentions numbers ys q) → (m.who ≡ q) × P m.mention
      by_side (inl j) = h q m j
      by_side (inr j) = k q m j

  first_says : (x : Mention) (ms : List Here) (q : Option ℕ) (m : Here) → P x → ((n : Here) → In n ms → (n.who ≡ q) × P n.mention) → In m (here q x ∷ ms) → (m.who ≡ q) × P m.mention
  first_says x ms q m p h (inl e) = subst (λ n. (n.who ≡ q) × P n.mention) e (refl, p)
  first_says x ms q m p h (inr i) = h m i

  pub says_declared : (n : RawName) (k : Kind) (fs : List Fact) → P (declared (record { name = n; kind = k })) → Says fs → Says (declares n k ∷ fs)
  says_declared n k fs p h q m i = first_says (declared (record { name = n; kind = k })) (facts_mentions numbers fs q) q m p (h q) (subst (In m) (declared_first numbers n k fs q) i)

  pub says_each : (k : Kind) (ns : List RawName) → ((n : RawName) → P (declared (record { name = n; kind = k }))) → Says (each_declares k ns)
  says_each k [] p = says_nothing
  says_each k (n ∷ ns) p = says_declared n k (each_declares k ns) (p n) (says_each k ns p)

  pub says_elements : (table : RawName) (es : List RawElem) → ((n : RawName) (e : RawElem) → P (declared (record { name = n; kind = kind.Element table e }))) → Says (elements_facts table es)
  says_elements table [] p = says_nothing
  says_elements table (e ∷ es) p = says_declared (element_name e) (kind.Element table e) (elements_facts table es) (p (element_name e) e) (says_elements table es p)

  pub says_use : (x : Use) (fs : List Fact) → P (uses x) → Says fs → Says (fact.Uses x ∷ fs)
  says_use x fs p h q m i = first_says (uses x) (facts_mentions numbers fs q) q m p (h q) (subst (In m) (ap (λ ms. ms ++ facts_mentions numbers fs q) (of_use numbers x q)) i)
