-- The declarations of a text without faults are in range.
use Rattle.std.proofs.Common.{◌≡◌, inl, inr, ℕ, List, [], ◌∷◌, ◌++◌, Bool, true, false, nat_eq, IsTrue, Some, None, refl, sym, ap, subst, ◌∙◌}
use Rattle.std.specs.Prelude.{option_map}
use Rattle.std.specs.declared.result.Result.TheVariants as result
use Rattle.std.proofs.lemmas.Option.{none-some, same_Some}
use Rattle.cw_table.specs.declared.table.Row.{Row}
use Rattle.cw_table.specs.Rows.{item_at}
use Rattle.cw_facts.specs.declared.fact.Declaration.{Declaration}
use Rattle.cw_facts.specs.declared.fact.Fact.{Fact}
use Rattle.cw_facts.specs.declared.fact.Kind.{Kind}
use Rattle.cw_facts.specs.Facts.{block_facts}
use Rattle.cw_facts.specs.Text.{communicators_facts, text_facts}
use Rattle.cw_scope.specs.declared.resolve.Named.{Named}
use Rattle.cw_scope.specs.Outcome.{Resolves}
use Rattle.cw_scale.specs.Kinds.{kind_in}
use Rattle.cw_items.specs.declared.families.Site.{Site}
use Rattle.cw_sound.specs.Items.Items.{things_of}
use Rattle.cw_judge.specs.Judged.{sites_of, absolute_addresses}
use Rattle.cw_make_expr.specs.Parts.{Numbers}
use Rattle.cw_sound.specs.Uses.Mentions.{In, Mention, Here, declares, uses, stores, facts_mentions}
use Rattle.cw_sound.specs.Items.Free.{PartsFree}
use Rattle.cw_sound.proofs.Names.FoundRows.{at_first, at_later}
use Rattle.cw_sound.proofs.Names.Rows.{rows_of, rows_in, facts_rows}
use Rattle.cw_sound.specs.Ranges.Declared.{has_ranges, DeclarationsInRange}
use Rattle.cw_sound.proofs.Ranged.Facts.{RangedMention, Ranged, both_ranged, communicators_ranged}
use Rattle.cw_sound.proofs.Ranged.Declarations.{block_fit}

-- ---- the row of a declaration

abbrev Found : List (Row Declaration) → Kind → Type 0
Found rs k = (r : Row Declaration) × In r rs × (r.item.kind ≡ k)

found_in : (rs : List (Row Declaration)) (token : ℕ) (k : Kind) → option_map kind_in (item_at rs token) ≡ Some k → Found rs k
found_in [] token k e = absurd (none-some k e)
found_in (r ∷ rs) token k e = by_test (nat_eq token r.token) refl (λ f. found_in rs token k f)
  where
    by_test : (b : Bool) → nat_eq token r.token ≡ b → (option_map kind_in (item_at rs token) ≡ Some k → Found rs k) → Found (r ∷ rs) k
    by_test true h rest = (r, inl refl, same_Some r.item.kind k (sym (ap (option_map kind_in) (at_first r rs token h)) ∙ e))
    by_test false h rest = let f = rest (sym (ap (option_map kind_in) (at_later r rs token h)) ∙ e) in (f.0, inr f.1, f.2)

row_ranged : (ms : List Here) → ((m : Here) → In m ms → RangedMention m.mention) → (r : Row Declaration) → In r (rows_in ms) → IsTrue (has_ranges r.item.kind)
row_ranged [] h r i = absurd i
row_ranged (m ∷ ms) h r i = by_mention m.mention (h m (inl refl)) (row_ranged ms (λ n j. h n (inr j)) r) i
  where
    by_mention : (x : Mention) → RangedMention x → (In r (rows_in ms) → IsTrue (has_ranges r.item.kind)) → In r (rows_of x ++ rows_in ms) → IsTrue (has_ranges r.item.kind)
    by_mention (declares d) k later (inl e) = subst (λ (z : Row Declaration). IsTrue (has_ranges z.item.kind)) e k
    by_mention (declares d) k later (inr j) = later j
    by_mention (uses x) k later j = later j
    by_mention (stores token words) k later j = later j

-- ---- the text

module _ (named : Named) (numbers : Numbers) (free : PartsFree named) where
  abbrev sites : List (Row Site)
  sites = sites_of (things_of named)

  abbrev facts : List Fact
  facts = text_facts named.raw.now

  facts_ranged : Ranged numbers facts
  facts_ranged =
      both_ranged numbers (communicators_facts named.raw.now.comms) (block_facts named.raw.now.block true)
      (communicators_ranged numbers named sites (absolute_addresses named.raw.now.comms) named.raw.now.comms free.communicators) (block_fit named sites numbers named.raw.now.block true free.block).declared

  rows_ranged : (r : Row Declaration) → In r (rows_in (facts_mentions numbers facts None)) → IsTrue (has_ranges r.item.kind)
  rows_ranged = row_ranged (facts_mentions numbers facts None) (facts_ranged None)

  pub declarations_ranged : Resolves named.raw.now (result.Ok named) → DeclarationsInRange named
  declarations_ranged resolves = record {
    kinds = λ token k e.
        let f = found_in named.declarations token k e in
        subst (λ (z : Kind). IsTrue (has_ranges z)) f.2 (rows_ranged f.0 (subst (In f.0) (resolves.3 ∙ sym (facts_rows numbers facts None)) f.1));
  }
