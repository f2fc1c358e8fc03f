-- Each declaration of the outermost block has the next number of its sort.
use Rattle.std.proofs.Common.{◌≡◌, ◌≢◌, ℕ, ◌<◌, ◌≤◌, List, [], ◌∷◌, ◌++◌, Bool, true, false, cond, IsTrue, nat_eq, nat_lt, Option, Some, None, refl, sym, ap, subst, ◌∙◌, arith, append_assoc}
use Rattle.std.specs.declared.result.Result.TheVariants as result
use Rattle.std.proofs.lemmas.Bool.Decides.{nat_tests}
use Rattle.cw_table.specs.declared.table.Row.{Row}
use Rattle.cw_table.specs.Rows.{item_at}
use Rattle.cw_facts.specs.declared.fact.Declaration.{Declaration}
use Rattle.cw_facts.specs.declared.fact.Kind.{Kind as NameKind}
use Rattle.cw_facts.specs.declared.fact.Kind.TheVariants as kind
use Rattle.cw_facts.specs.Text.{communicators_facts, text_facts}
use Rattle.cw_facts.specs.Facts.{block_facts}
use Rattle.cw_scope.specs.declared.resolve.Named.{Named}
use Rattle.cw_scope.specs.Outcome.{Resolves}
use Rattle.cw_items.specs.Things.{text_things}
use Rattle.cw_number.specs.declared.numbered.Numbered.{Numbered}
use Rattle.cw_number.specs.declared.numbers.Counts.{Counts}
use Rattle.cw_number.specs.Listed.{listed_of}
use Rattle.cw_number.specs.Numbers.{item_rows, listed_rows, row_if, own_number, counted, none_counted, declared_number, counted_after, declared_rows, built_in_number, begin_of, numbers_of}
use Rattle.cw_sound.specs.Uses.Mentions.{In, Mention, Here, here, declares, uses, stores, listed_mentions, block_mentions, text_mentions}
use Rattle.cw_sound.specs.Names.Placed.{Placed, tokens, Each, Differ}
use Rattle.cw_sound.specs.Names.Standing.{is_other, counted_by, counted_from, CountsOwn}
use Rattle.cw_sound.proofs.Names.Lists.{in_middle, in_right}
use Rattle.cw_sound.proofs.Names.FoundRows.{eq_same, eq_other, at_first, at_later, each_row}
use Rattle.cw_sound.proofs.Names.Rows.{row, rows_of, rows_in, rows_append, in_rows, facts_rows, mentions_append}
use Rattle.cw_sound.proofs.Names.ListedRows.{rows_first, communicators_rows, numbered_rows}

pub lt_true : (a b : ℕ) → a < b → nat_lt a b ≡ true
lt_true a b h = grind (arith, nat_tests, h)

lt_false : (a b : ℕ) → b ≤ a → nat_lt a b ≡ false
lt_false a b h = grind (arith, nat_tests, h)

-- ---- rows behind others

module _ {T : Type 0} where
  pub behind_none : (xs ys : List (Row T)) (t : ℕ) → item_at xs t ≡ None → item_at (xs ++ ys) t ≡ item_at ys t
  behind_none [] ys t e = refl
  behind_none (x ∷ xs) ys t e = by_test (behind_none xs ys t) (nat_eq t x.token) refl
    where
      by_test : (item_at xs t ≡ None → item_at (xs ++ ys) t ≡ item_at ys t) → (b : Bool) → nat_eq t x.token ≡ b → item_at (x ∷ xs ++ ys) t ≡ item_at ys t
      by_test rest true is = absurd (let first = at_first x xs t is in cc)
      by_test rest false is = at_later x (xs ++ ys) t is ∙ rest (sym (at_later x xs t is) ∙ e)

  none_below : (limit : ℕ) (rs : List (Row T)) (t : ℕ) → Each (λ s. s < limit) (tokens rs) → limit ≤ t → item_at rs t ≡ None
  none_below limit [] t h k = refl
  none_below limit (r ∷ rs) t h k = at_later r rs t (eq_other t r.token (λ e. omega (arith, e, h.0, k))) ∙ none_below limit rs t h.1 k

pub skip : (t s : ℕ) (o : Option Numbered) (rest : List (Row Numbered)) → s ≢ t → item_at (row_if s o ++ rest) t ≡ item_at rest t
skip t s None rest h = refl
skip t s (Some n) rest h = at_later (record { token = s; item = n }) rest t (eq_other t s h)

-- ---- counting

module _ (begin : ℕ) where
  abbrev pub step : Counts → Mention → Counts
  step c (declares d) = counted_after begin c d
  step c (uses x) = c
  step c (stores token n) = c

  abbrev pub steps : Counts → List Here → Counts
  steps c [] = c
  steps c (m ∷ ms) = steps (step c m.mention) ms

  steps_append : (c : Counts) (xs ys : List Here) → steps c (xs ++ ys) ≡ steps (steps c xs) ys
  steps_append c [] ys = refl
  steps_append c (x ∷ xs) ys = steps_append (step c x.mention) xs ys

  listed_steps : (c : Counts) (ms : List Here) → Each (λ t. t < begin) (tokens (rows_in ms)) → steps c ms ≡ c
  listed_steps c [] h = refl
  listed_steps c (m ∷ ms) h = by_mention (listed_steps c ms) m.mention h
    where
      by_mention : (Each (λ t. t < begin) (tokens (rows_in ms)) → steps c ms ≡ c) → (n : Mention) → Each (λ t. t < begin) (tokens (rows_of n ++ rows_in ms)) → steps (step c n) ms ≡ c
      by_mention rest (declares d) k = ap (λ b. steps (cond b c (counted c d.kind)) ms) (lt_true d.name.at.token begin k.0) ∙ rest k.1
      by_mention rest (uses x) k = rest k
      by_mention rest (stores token n) k = rest k

  own_steps : (c : Counts) (ms : List Here) → Each (λ t. begin ≤ t) (tokens (rows_in ms)) → steps c ms ≡ counted_from c ms
  own_steps c [] h = refl
  own_steps c (m ∷ ms) h = by_mention (λ b. own_steps b ms) m.mention h
    where
      by_mention : ((b : Counts) → Each (λ t. begin ≤ t) (tokens (rows_in ms)) → steps b ms ≡ counted_from b ms) → (n : Mention) → Each (λ t. begin ≤ t) (tokens (rows_of n ++ rows_in ms)) → steps (step c n) ms ≡ counted_from (counted_by c n) ms
      by_mention rest (declares d) k = ap (λ b. steps (cond b c (counted c d.kind)) ms) (lt_false d.name.at.token begin k.0) ∙ rest (counted c d.kind) k.1
      by_mention rest (uses x) k = rest c k
      by_mention rest (stores token n) k = rest c k

  pub declared_at : (c : Counts) (ms : List Here) (q : Option ℕ) (d : Declaration) (after : List Here) (n : Numbered) → Differ (tokens (rows_in (ms ++ here q (declares d) ∷ after)))
      → declared_number begin (steps c ms) d ≡ Some n → item_at (declared_rows begin c (rows_in (ms ++ here q (declares d) ∷ after))) d.name.at.token ≡ Some n
  declared_at c [] q d after n differ e =
      ap (λ o. item_at (row_if d.name.at.token o ++ declared_rows begin (counted_after begin c d) (rows_in after)) d.name.at.token) e
      ∙ at_first (record { token = d.name.at.token; item = n }) (declared_rows begin (counted_after begin c d) (rows_in after)) d.name.at.token (eq_same d.name.at.token)
  declared_at c (m ∷ ms) q d after n differ e = by_mention (λ b. declared_at b ms q d after n) m.mention differ e
    where
      by_mention : ((b : Counts) → Differ (tokens (rows_in (ms ++ here q (declares d) ∷ after))) → declared_number begin (steps b ms) d ≡ Some n → item_at (declared_rows begin b (rows_in (ms ++ here q (declares d) ∷ after))) d.name.at.token ≡ Some n)
          → (x : Mention) → Differ (tokens (rows_of x ++ rows_in (ms ++ here q (declares d) ∷ after))) → declared_number begin (steps (step c x) ms) d ≡ Some n
          → item_at (declared_rows begin c (rows_of x ++ rows_in (ms ++ here q (declares d) ∷ after))) d.name.at.token ≡ Some n
      by_mention rest (declares b) k e' =
          skip d.name.at.token b.name.at.token (declared_number begin c b) (declared_rows begin (counted_after begin c b) (rows_in (ms ++ here q (declares d) ∷ after)))
          (each_row (λ s. b.name.at.token ≢ s) (rows_in (ms ++ here q (declares d) ∷ after)) k.0 (row d) (in_rows q d (ms ++ here q (declares d) ∷ after) (in_middle (here q (declares d)) ms after)))
          ∙ rest (counted_after begin c b) k.1 e'
      by_mention rest (uses x) k e' = rest c k e'
      by_mention rest (stores token i) k e' = rest c k e'

no_item : (c : Counts) (k : NameKind) (n : Numbered) → own_number c k ≡ Some n → IsTrue (is_other k)
no_item c (kind.Single t) n e = absurd (cc)
no_item c (kind.Array t b) n e = absurd (cc)
no_item c (kind.Table s) n e = absurd (cc)
no_item c (kind.Value t) n e = absurd (cc)
no_item c (kind.Location t) n e = absurd (cc)
no_item c (kind.ArrayParam t) n e = absurd (cc)
no_item c (kind.TableParam s) n e = absurd (cc)
no_item c (kind.Answer t) n e = absurd (cc)
no_item c _ n e = refl

-- ---- the text

module _ (named : Named) (numbers : List (Row Numbered)) (resolves : Resolves named.raw.now (result.Ok named)) (placed : Placed named.raw.now) where
  abbrev begin_here : ℕ
  begin_here = begin_of named.raw.now

  parted : text_mentions numbers named.raw.now ≡ listed_mentions numbers named.raw.now ++ block_mentions numbers named.raw.now
  parted = mentions_append numbers (communicators_facts named.raw.now.comms) (block_facts named.raw.now.block true) None

  listed_below : Each (λ t. t < begin_here) (tokens (rows_in (listed_mentions numbers named.raw.now)))
  listed_below = subst (λ rs. Each (λ t. t < begin_here) (tokens rs)) (sym (facts_rows numbers (communicators_facts named.raw.now.comms) None)) placed.listed

  own_above : Each (λ t. begin_here ≤ t) (tokens (rows_in (block_mentions numbers named.raw.now)))
  own_above = subst (λ rs. Each (λ t. begin_here ≤ t) (tokens rs)) (sym (facts_rows numbers (block_facts named.raw.now.block true) None)) placed.own

  all_differ : Differ (tokens (rows_in (text_mentions numbers named.raw.now)))
  all_differ = subst (λ rs. Differ (tokens rs)) (sym (facts_rows numbers (text_facts named.raw.now) None)) placed.declarations

  abbrev pub NotItems : Type 0
  NotItems = (owner : Option ℕ) (d : Declaration) → IsTrue (is_other d.kind) → In (here owner (declares d)) (text_mentions numbers named.raw.now) → item_at (item_rows 0 (text_things named named.raw.now)) d.name.at.token ≡ None

  module _ (before after : List Here) (owner : Option ℕ) (d : Declaration) (n : Numbered) (split : block_mentions numbers named.raw.now ≡ before ++ here owner (declares d) ∷ after) (e : own_number (counted_from none_counted before) d.kind ≡ Some n) where
    abbrev first : List Here
    first = listed_mentions numbers named.raw.now ++ before

    whole : text_mentions numbers named.raw.now ≡ first ++ here owner (declares d) ∷ after
    whole = parted ∙ ap (λ ms. listed_mentions numbers named.raw.now ++ ms) split ∙ sym (append_assoc (listed_mentions numbers named.raw.now) before (here owner (declares d) ∷ after))

    pub in_block : In (here owner (declares d)) (block_mentions numbers named.raw.now)
    in_block = subst (In (here owner (declares d))) (sym split) (in_middle (here owner (declares d)) before after)

    above : begin_here ≤ d.name.at.token
    above = each_row (λ t. begin_here ≤ t) (rows_in (block_mentions numbers named.raw.now)) own_above (row d) (in_rows owner d (block_mentions numbers named.raw.now) in_block)

    above_before : Each (λ t. begin_here ≤ t) (tokens (rows_in before))
    above_before =
        rows_first (λ t. begin_here ≤ t) (rows_in before) (rows_in (here owner (declares d) ∷ after))
        (subst (λ rs. Each (λ t. begin_here ≤ t) (tokens rs)) (rows_append before (here owner (declares d) ∷ after)) (subst (λ ms. Each (λ t. begin_here ≤ t) (tokens (rows_in ms))) split own_above))

    counted_here : steps begin_here none_counted first ≡ counted_from none_counted before
    counted_here =
        steps_append begin_here none_counted (listed_mentions numbers named.raw.now) before
        ∙ ap (λ c. steps begin_here c before) (listed_steps begin_here none_counted (listed_mentions numbers named.raw.now) listed_below)
        ∙ own_steps begin_here none_counted before above_before

    number : declared_number begin_here (steps begin_here none_counted first) d ≡ Some n
    number =
        ap (λ b. cond b (built_in_number d.kind) (own_number (steps begin_here none_counted first) d.kind)) (lt_false d.name.at.token begin_here above)
        ∙ ap (λ c. own_number c d.kind) counted_here ∙ e

    declared_here : item_at (declared_rows begin_here none_counted named.declarations) d.name.at.token ≡ Some n
    declared_here =
        ap (λ rs. item_at (declared_rows begin_here none_counted rs) d.name.at.token) (resolves.3 ∙ sym (facts_rows numbers (text_facts named.raw.now) None) ∙ ap rows_in whole)
        ∙ declared_at begin_here none_counted first owner d after n (subst (λ ms. Differ (tokens (rows_in ms))) whole all_differ) number

    not_listed : item_at (listed_rows 0 (listed_of named.raw.now)) d.name.at.token ≡ None
    not_listed =
        none_below begin_here (listed_rows 0 (listed_of named.raw.now)) d.name.at.token
        (numbered_rows (λ t. t < begin_here) 0 (listed_of named.raw.now) (communicators_rows (λ t. t < begin_here) named.raw.now.comms placed.listed)) above

    pub counts_one : numbers ≡ numbers_of named → NotItems → item_at numbers d.name.at.token ≡ Some n
    counts_one is others =
        ap (λ ns. item_at ns d.name.at.token) is
        ∙ behind_none (item_rows 0 (text_things named named.raw.now)) (listed_rows 0 (listed_of named.raw.now) ++ declared_rows begin_here none_counted named.declarations) d.name.at.token
        (others owner d (no_item (counted_from none_counted before) d.kind n e) (subst (In (here owner (declares d))) (sym parted) (in_right (here owner (declares d)) (listed_mentions numbers named.raw.now) (block_mentions numbers named.raw.now) in_block)))
        ∙ behind_none (listed_rows 0 (listed_of named.raw.now)) (declared_rows begin_here none_counted named.declarations) d.name.at.token not_listed
        ∙ declared_here

  pub counts_own : numbers ≡ numbers_of named → NotItems → CountsOwn named numbers
  counts_own is others before after owner d n split e = counts_one before after owner d n split e is others
