-- What the numbers tell of a name that is listed: the place of its row, and the descriptor there.
use Rattle.std.proofs.Common.{◌≡◌, ℕ, ◌+◌, ◌≤◌, List, [], ◌∷◌, ◌++◌, length, Bool, true, false, IsTrue, nat_eq, Option, Some, None, slice_get, refl, sym, ap, subst, ◌∙◌, arith, length-append}
use Rattle.std.specs.declared.result.Result.TheVariants as result
use Rattle.cw_table.specs.declared.table.Row.{Row}
use Rattle.cw_table.specs.Rows.{item_at}
use Rattle.cw_facts.specs.declared.fact.Declaration.{Declaration}
use Rattle.cw_facts.specs.Facts.{block_facts}
use Rattle.cw_facts.specs.Text.{communicators_facts, text_facts}
use Rattle.cw_scope.specs.declared.resolve.Named.{Named}
use Rattle.cw_scope.specs.Outcome.{Resolves}
use Rattle.cw_scope.specs.Resolved.{text_declarations}
use Rattle.cw_items.specs.Things.{text_things}
use Rattle.cw_number.specs.declared.listed.Listing.{Listing}
use Rattle.cw_number.specs.declared.numbered.Numbered.{Numbered}
use Rattle.cw_number.specs.Listed.{listed_of}
use Rattle.cw_number.specs.Numbers.{item_rows, listed_number, listed_rows, declared_rows, none_counted, begin_of, numbers_of}
use Rattle.cw_make_items.specs.Descriptors.{descs_of}
use Rattle.cw_make_items.specs.Lookup.{Numbers}
use Rattle.cw_unit.specs.declared.unit.Unit.{Unit as SourceUnit}
use Rattle.cw_unit.specs.declared.descriptor.Desc.{Desc}
use Rattle.cw_unit.specs.declared.descriptor.DescBody.{DescBody}
use Rattle.cw_built.specs.Listed.{body_in, body_at}
use Rattle.cw_sound.specs.Uses.Mentions.{In, here, declares, listed_mentions, block_mentions, text_mentions}
use Rattle.cw_sound.specs.Names.Placed.{Placed, tokens, Differ}
use Rattle.cw_sound.specs.Names.Standing.{is_other, ItemsStand}
use Rattle.cw_sound.proofs.Names.Lists.{in_left}
use Rattle.cw_sound.proofs.Names.FoundRows.{at_first, at_later}
use Rattle.cw_sound.proofs.Names.Rows.{mentions_append}
use Rattle.cw_sound.proofs.Names.Counting.{behind_none}
use Rattle.cw_sound.proofs.Names.ListedParts.{Listed, communicators_parts}
use Rattle.cw_sound.proofs.Names.ListedNumbers.{listed_differ, listed_few, number_at, declarations_append, differ_parts, tokens_append}
use Rattle.cw_sound.proofs.Names.ListedDeclarations.{Told}

front : {T : Type 0} → (xs ys : List (Row T)) (t : ℕ) (v : T) → item_at xs t ≡ Some v → item_at (xs ++ ys) t ≡ Some v
front [] ys t v e = absurd (cc)
front (x ∷ xs) ys t v e = by_test (front xs ys t v) (nat_eq t x.token) refl
  where
    by_test : (item_at xs t ≡ Some v → item_at (xs ++ ys) t ≡ Some v) → (b : Bool) → nat_eq t x.token ≡ b → item_at (x ∷ xs ++ ys) t ≡ Some v
    by_test rest true is = at_first x (xs ++ ys) t is ∙ sym (at_first x xs t is) ∙ e
    by_test rest false is = at_later x (xs ++ ys) t is ∙ rest (sym (at_later x xs t is) ∙ e)

module _ (named : Named) (numbers : Numbers) where
  abbrev pub rows : List (Row Listing)
  rows = listed_of named.raw.now

  abbrev pub listed_descs : List Desc
  listed_descs = descs_of numbers rows (text_things named named.raw.now) named.raw.now.comms

  pub here_parts : Listed (communicators_facts named.raw.now.comms) rows listed_descs
  here_parts = communicators_parts numbers rows (text_things named named.raw.now) named.raw.now.comms

  pub body_told : (u : SourceUnit) → u.descs ≡ listed_descs → (d : Declaration) (l : Listing) (b : DescBody) (t : Told numbers named.signatures rows listed_descs d.name l b) → body_at u t.place ≡ Some b
  body_told u descs d l b t = ap (λ ds. body_in (slice_get ds t.place)) descs ∙ t.is_desc

pub signatures_differ : (named : Named) → Resolves named.raw.now (result.Ok named) → Placed named.raw.now → Differ (tokens named.signatures)
signatures_differ named resolves placed = subst (λ rs. Differ (tokens rs)) (sym resolves.4) placed.signatures

module _ (named : Named) (numbers : Numbers) (u : SourceUnit) (placed : Placed named.raw.now) (items : ItemsStand named numbers u) (is : numbers ≡ numbers_of named) where
  all_declared : text_declarations (text_facts named.raw.now) ≡ text_declarations (communicators_facts named.raw.now.comms) ++ text_declarations (block_facts named.raw.now.block true)
  all_declared = declarations_append (communicators_facts named.raw.now.comms) (block_facts named.raw.now.block true)

  rows_differ : Differ (tokens (rows named numbers))
  rows_differ =
      listed_differ (here_parts named numbers)
      (differ_parts (tokens (text_declarations (communicators_facts named.raw.now.comms))) (tokens (text_declarations (block_facts named.raw.now.block true)))
      (subst Differ (ap tokens all_declared ∙ tokens_append (text_declarations (communicators_facts named.raw.now.comms)) (text_declarations (block_facts named.raw.now.block true))) placed.declarations)).0

  rows_few : 0 + length (rows named numbers) ≤ 65536
  rows_few =
      let few = listed_few (here_parts named numbers) in
      let size = ap length all_declared ∙ length-append (text_declarations (communicators_facts named.raw.now.comms)) (text_declarations (block_facts named.raw.now.block true)) in
      omega (arith, few, size, placed.few)

  module _ (owner : Option ℕ) (d : Declaration) (i : In (here owner (declares d)) (listed_mentions numbers named.raw.now)) where
    in_text : In (here owner (declares d)) (text_mentions numbers named.raw.now)
    in_text =
        subst (In (here owner (declares d))) (sym (mentions_append numbers (communicators_facts named.raw.now.comms) (block_facts named.raw.now.block true) None))
        (in_left (here owner (declares d)) (listed_mentions numbers named.raw.now) (block_mentions numbers named.raw.now) i)

    pub number_told : (l : Listing) (b : DescBody) (number : Numbered) → IsTrue (is_other d.kind) → (t : Told numbers named.signatures (rows named numbers) (listed_descs named numbers) d.name l b) → listed_number t.place l ≡ Some number → item_at numbers d.name.at.token ≡ Some number
    number_told l b number other t e =
        let zero_more : 0 + t.place ≡ t.place = omega arith in
        ap (λ ns. item_at ns d.name.at.token) is
        ∙ behind_none (item_rows 0 (text_things named named.raw.now)) (listed_rows 0 (rows named numbers) ++ declared_rows (begin_of named.raw.now) none_counted named.declarations) d.name.at.token (items.others owner d other in_text)
        ∙ front (listed_rows 0 (rows named numbers)) (declared_rows (begin_of named.raw.now) none_counted named.declarations) d.name.at.token number
        (number_at (rows named numbers) 0 t.place d.name l number rows_differ t.is_row rows_few (ap (λ j. listed_number j l) zero_more ∙ e))
