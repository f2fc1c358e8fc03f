-- How many labels, switches and procedures a text declares before a place.
use Rattle.std.proofs.Common.{◌≡◌, ◌⊎◌, inl, inr, ℕ, ◌+◌, ◌<◌, ◌≤◌, List, [], ◌∷◌, ◌++◌, length, Bool, true, false, cond, IsTrue, Option, Some, None, refl, sym, ap, subst, ◌∙◌, arith, length-append}
use Rattle.cw_facts.specs.declared.fact.Declaration.{Declaration}
use Rattle.cw_facts.specs.declared.fact.Kind.{Kind as NameKind}
use Rattle.cw_facts.specs.declared.fact.Kind.TheVariants as kind
use Rattle.cw_facts.specs.Facts.{block_facts}
use Rattle.cw_facts.specs.Text.{communicators_facts, text_facts}
use Rattle.cw_scope.specs.NameRules.{is_own_label, is_own_switch}
use Rattle.cw_tree.specs.declared.segment.Raw.{Raw}
use Rattle.cw_number.specs.declared.numbers.Counts.{Counts}
use Rattle.cw_number.specs.Numbers.{next_to, counted, none_counted}
use Rattle.cw_make_items.specs.Lookup.{Numbers}
use Rattle.cw_sound.specs.Uses.Mentions.{In, Mention, Here, here, declares, uses, stores, block_mentions, text_mentions, listed_mentions}
use Rattle.cw_sound.specs.Names.Placed.{Placed}
use Rattle.cw_sound.specs.Names.Standing.{counted_from, is_own_procedure}
use Rattle.cw_sound.proofs.Names.Rows.{rows_of, rows_in, rows_append, facts_rows, mentions_append}
use Rattle.cw_sound.proofs.Names.Picking.{pick, counted_below, Counts_it}

-- a sort of declarations as a sort of mentions
abbrev pub of_kind : (NameKind → Bool) → Mention → Bool
of_kind test (declares d) = test d.kind
of_kind test (uses x) = false
of_kind test (stores token n) = false

few_more : (b : Bool) (m : Here) (xs : List Here) (n : ℕ) → length xs ≤ n → length (cond b (m ∷ xs) xs) ≤ n + 1
few_more true m xs n h = omega (arith, h)
few_more false m xs n h = omega (arith, h)

few_picked : (test : NameKind → Bool) (ms : List Here) → length (pick (of_kind test) ms) ≤ length (rows_in ms)
few_picked test [] = omega arith
few_picked test (m ∷ ms) = by_mention (few_picked test ms) m.mention
  where
    by_mention : length (pick (of_kind test) ms) ≤ length (rows_in ms) → (n : Mention) → length (cond (of_kind test n) (m ∷ pick (of_kind test) ms) (pick (of_kind test) ms)) ≤ length (rows_of n ++ rows_in ms)
    by_mention h (declares d) = let k = few_more (test d.kind) m (pick (of_kind test) ms) (length (rows_in ms)) h in omega (arith, k)
    by_mention h (uses x) = h
    by_mention h (stores token n) = h

module _ (numbers : Numbers) (raw : Raw) (placed : Placed raw) where
  few_declared : length (rows_in (block_mentions numbers raw)) < 65536
  few_declared =
      let same = ap length (sym (facts_rows numbers (text_facts raw) None) ∙ ap rows_in (mentions_append numbers (communicators_facts raw.comms) (block_facts raw.block true) None) ∙ rows_append (listed_mentions numbers raw) (block_mentions numbers raw))
      ∙ length-append (rows_in (listed_mentions numbers raw)) (rows_in (block_mentions numbers raw)) in
      omega (arith, same, placed.few)

  pub few_before : (test : NameKind → Bool) (before after : List Here) (m : Here) → block_mentions numbers raw ≡ before ++ m ∷ after → length (pick (of_kind test) before) < 65536
  few_before test before after m split =
      let same = ap (λ ms. length (rows_in ms)) split ∙ ap length (rows_append before (m ∷ after)) ∙ length-append (rows_in before) (rows_in (m ∷ after)) in
      let few = few_picked test before in
      let all = few_declared in
      omega (arith, same, few, all)

-- ---- what counts

label_law : (k : NameKind) (c : Counts) → (counted c k).labels ≡ cond (is_own_label k) (next_to 4294967295 c.labels) c.labels
label_law kind.Label c = refl
label_law _ c = refl

switch_law : (k : NameKind) (c : Counts) → (counted c k).switches ≡ cond (is_own_switch k) (next_to 4294967295 c.switches) c.switches
switch_law kind.Switch c = refl
switch_law _ c = refl

procedure_law : (k : NameKind) (c : Counts) → (counted c k).procs ≡ cond (is_own_procedure k) (next_to 65535 c.procs) c.procs
procedure_law (kind.Proc t) c = refl
procedure_law _ c = refl

labels_counted : (m : Mention) → Counts_it (of_kind is_own_label) (λ c. c.labels) 4294967295 m
labels_counted (declares d) c = label_law d.kind c
labels_counted (uses x) c = refl
labels_counted (stores token n) c = refl

switches_counted : (m : Mention) → Counts_it (of_kind is_own_switch) (λ c. c.switches) 4294967295 m
switches_counted (declares d) c = switch_law d.kind c
switches_counted (uses x) c = refl
switches_counted (stores token n) c = refl

procedures_counted : (m : Mention) → Counts_it (of_kind is_own_procedure) (λ c. c.procs) 65535 m
procedures_counted (declares d) c = procedure_law d.kind c
procedures_counted (uses x) c = refl
procedures_counted (stores token n) c = refl

module _ (ms : List Here) where
  pub labels_before : length (pick (of_kind is_own_label) ms) < 65536 → (counted_from none_counted ms).labels ≡ length (pick (of_kind is_own_label) ms)
  labels_before h = counted_below (of_kind is_own_label) (λ c. c.labels) 4294967295 none_counted ms (λ m i. labels_counted m.mention) (omega (arith, h)) ∙ omega arith

  pub switches_before : length (pick (of_kind is_own_switch) ms) < 65536 → (counted_from none_counted ms).switches ≡ length (pick (of_kind is_own_switch) ms)
  switches_before h = counted_below (of_kind is_own_switch) (λ c. c.switches) 4294967295 none_counted ms (λ m i. switches_counted m.mention) (omega (arith, h)) ∙ omega arith

  pub procedures_before : length (pick (of_kind is_own_procedure) ms) < 65536 → (counted_from none_counted ms).procs ≡ length (pick (of_kind is_own_procedure) ms)
  procedures_before h = counted_below (of_kind is_own_procedure) (λ c. c.procs) 65535 none_counted ms (λ m i. procedures_counted m.mention) (omega (arith, h)) ∙ omega arith
