-- The things of a text stand in its unit, where their bases do.
use Rattle.std.proofs.Common.{◌≡◌, ℕ, ◌+◌, ◌≤◌, List, [], ◌∷◌, length, Bool, true, false, ◌&&◌, cond, IsTrue, Option, Some, None, slice_get, nat_le, refl, sym, ap, subst, ◌∙◌, arith, inl, inr}
use Rattle.std.specs.List.{All, list_all}
use Rattle.std.proofs.lemmas.List.{length-map}
use Rattle.std.proofs.lemmas.List.Elements.{All-nil, All-cons}
use Rattle.cw_table.specs.Rows.{item_at}
use Rattle.cw_table.specs.declared.table.Row.{Row}
use Rattle.cw_facts.specs.declared.fact.Declaration.{Declaration}
use Rattle.cw_scope.specs.Resolved.{text_declarations}
use Rattle.cw_facts.specs.Text.{text_facts}
use Rattle.cw_scope.specs.declared.resolve.Named.{Named}
use Rattle.cw_items.specs.declared.thing.Owner.{Owner}
use Rattle.cw_items.specs.declared.thing.Sort.{Sort}
use Rattle.cw_items.specs.declared.thing.Sort.TheVariants as sort
use Rattle.cw_items.specs.declared.thing.Thing.{Thing}
use Rattle.cw_items.specs.Families.{frame_of, nothing_known, things_judged}
use Rattle.cw_number.specs.declared.numbered.Numbered.TheVariants as numbered
use Rattle.cw_number.specs.Listed.{listed_of}
use Rattle.cw_number.specs.Numbers.{item_rows, next_long, numbers_of}
use Rattle.cw_make_items.specs.Lookup.{Numbers, proc_here}
use Rattle.cw_make_items.specs.Items.{proc_of_owner, addresses_of}
use Rattle.cw_preset.specs.Held.{held_of}
use Rattle.cw_make.specs.Made.{unit_of}
use Rattle.cw_unit.specs.declared.layout.Sort.{Sort as FamilySort}
use Rattle.cw_unit.specs.declared.layout.Sort.TheVariants as family
use Rattle.cw_unit.specs.declared.unit.Item.{Item}
use Rattle.cw_unit.specs.declared.unit.Unit.{Unit as SourceUnit}
use Rattle.cw_unit.specs.Storage.{root_of, family_of, family_offset}
use Rattle.cw_unit.specs.ValidStorage.{owner_in, sort_of_family}
use Rattle.cw_gen_expr.specs.NamedItems.{may_name, item_has, has_words}
use Rattle.cw_sound.specs.Items.Derived.{IsRising, HasRisingTokens}
use Rattle.cw_sound.specs.Items.Bodies.{MayName, is_other, facts_stored}
use Rattle.cw_sound.specs.Items.Bases.{BasesStand}
use Rattle.cw_built.specs.Stored.{is_preset}
use Rattle.cw_sound.specs.Items.Free.{PartsFree}
use Rattle.cw_sound.proofs.Items.FittingText.{presets-within}
use Rattle.cw_sound.specs.Items.Items.{things_of, IsStored, IsThere, ItemsStand, StorageStands}
use Rattle.cw_sound.proofs.Items.Lists.{In, in-place, at-place, each-in, from-in, rising-within, few-tokens, not-in-both}
use Rattle.cw_sound.proofs.Items.Naming.{few-descriptors}
use Rattle.cw_sound.proofs.Items.Numbering.{found-later, token_of_thing, tokens_of_things, numbered-from, item-made, as-long, made-of}
use Rattle.cw_sound.proofs.Items.Overlaying.{as-many, overlays-are, bases-below}
use Rattle.cw_sound.proofs.Items.Storage.{Made, storable, reaches, has-words}
use Rattle.cw_sound.proofs.Items.Stores.{Stores, Kept, IsLong}
use Rattle.cw_sound.proofs.Items.Listing.{text-stores}
use Rattle.cw_macro.specs.Premises.{Each}

-- ---- what any body may name

never : (a : Bool) → IsTrue (a && false) → ⊥
never true h = absurd cc
never false h = absurd cc

not-true : IsTrue false → ⊥
not-true h = absurd cc

by-sort : (a : Bool) (who owner : Option ℕ) (s : FamilySort) → IsTrue (a && may_name None owner s) → IsTrue (a && may_name who owner s)
by-sort a who owner (family.Frame o) h = absurd (never a h)
by-sort a who owner _ h = h

named-anywhere : (u : SourceUnit) (who : Option ℕ) (i words : ℕ) (o : Option Item) → IsTrue (item_has u None i o words) → IsTrue (item_has u who i o words)
named-anywhere u who i words None h = absurd (not-true h)
named-anywhere u who i words (Some x) h = by-sort (nat_le words x.words) who (owner_in (slice_get u.items (root_of u i))) (sort_of_family u (family_of u i)) h

-- ---- the body of an owner

of-flag : (numbers : Numbers) (b : Bool) (token : ℕ) → MayName numbers (Some (proc_here numbers token)) (cond b (Some token) None)
of-flag numbers true token = refl
of-flag numbers false token = tt

own-body : (numbers : Numbers) (s : Sort) (o : Option Owner) → MayName numbers (proc_of_owner numbers o) (frame_of s o)
own-body numbers sort.Text o = tt
own-body numbers sort.Named None = tt
own-body numbers sort.Loop None = tt
own-body numbers sort.Named (Some w) = of-flag numbers w.recursive w.token
own-body numbers sort.Loop (Some w) = of-flag numbers w.recursive w.token

map-length : (ts : List Thing) → length (tokens_of_things ts) ≡ length ts
map-length ts = length-map ts token_of_thing

all-of : {A : Type 0} (P : A → Type 0) (xs : List A) → Each P xs → All P xs
all-of P [] h = All-nil P
all-of P (x ∷ xs) h = All-cons P x xs h.0 (all-of P xs h.1)

not-numbered : (n : ℕ) (ts : List Thing) (token : ℕ) → (In token (tokens_of_things ts) → ⊥) → item_at (item_rows n ts) token ≡ None
not-numbered n [] token h = refl
not-numbered n (t ∷ ts) token h =
    found-later (record { token = t.at.token; item = numbered.Item n }) (item_rows (next_long n) ts) token (λ e. h (inl e))
    ∙ not-numbered (next_long n) ts token (λ i. h (inr i))

-- ---- the things of a text

module _ (named : Named) (rising : HasRisingTokens named.raw.now) (bases : BasesStand (numbers_of named) (listed_of named.raw.now) (things_of named)) where
  things-stored : Stores (λ x. Unit {0}) (numbers_of named) None (text_facts named.raw.now) (things_of named)
  things-stored = text-stores (λ x. Unit {0}) (numbers_of named) named named.raw.now

  pub things-rise : IsRising 1 (tokens_of_things (things_of named))
  things-rise = rising-within 1 things-stored.tokens rising

  number-of : (i : ℕ) (t : Thing) → slice_get (things_of named) i ≡ Some t → item_at (numbers_of named) t.at.token ≡ Some (numbered.Item i)
  number-of i t e =
      let few : 1 + length (tokens_of_things (things_of named)) ≤ 65536 = few-tokens 1 (tokens_of_things (things_of named)) things-rise in
      let same : length (tokens_of_things (things_of named)) ≡ length (things_of named) = map-length (things_of named) in
      let at : 0 + i ≡ i = omega arith in
      numbered-from 1 0 (things_of named) _ i t things-rise (omega (arith, few, same)) e ∙ ap (λ n. Some (numbered.Item n)) at

  pub made : Made (unit_of named) named.declarations (numbers_of named) (listed_of named.raw.now) (addresses_of named.raw.now.comms) (held_of named.raw.now) (things_of named)
  made =
      let many = as-many (numbers_of named) (listed_of named.raw.now) (things_of named) named.raw.now.comms in
      let few = few-descriptors named.raw.now (numbers_of named) (listed_of named.raw.now) (things_of named) rising in
      record {
        items = refl;
        overlays = overlays-are (numbers_of named) (listed_of named.raw.now) (things_of named) named.raw.now.comms;
        few = subst (λ n. n ≤ 65535) many few;
        number = number-of;
        bases = bases;
      }

  words-of : (i : ℕ) (t : Thing) → slice_get (things_of named) i ≡ Some t → (who : Option ℕ) (words : ℕ) → MayName (numbers_of named) who (frame_of t.sort t.owner) → words ≤ t.words → IsTrue (has_words (unit_of named) who i words)
  words-of i t e who words n l =
      has-words (unit_of named) named.declarations (numbers_of named) (listed_of named.raw.now) (addresses_of named.raw.now.comms) (held_of named.raw.now) (things_of named) made i t who words e n l

  is-stored : (i : ℕ) (t : Thing) → slice_get (things_of named) i ≡ Some t → IsStored named i t
  is-stored i t e =
      let long : IsLong (λ x. Unit {0}) (numbers_of named) t = each-in (IsLong (λ x. Unit {0}) (numbers_of named)) (things_of named) things-stored.long t (at-place (things_of named) i t e) in
      record {
        item = item-made named.declarations (numbers_of named) (listed_of named.raw.now) (addresses_of named.raw.now.comms) (held_of named.raw.now) (things_of named) i t e;
        number = number-of i t e;
        has = words-of i t e;
        has_word = long.0;
        has_four = long.1;
      }

  is-kept : (t : Thing) → In t (things_of named) → Kept (IsThere named) (numbers_of named) t
  is-kept t m words l =
      let p = in-place t (things_of named) m in
      (p.0, number-of p.0 t p.1, words-of p.0 t p.1 (proc_of_owner (numbers_of named) t.owner) words (own-body (numbers_of named) t.sort t.owner) l)

  -- what is declared and no item has no number of one
  not-in : (r : Row Declaration) → In r (text_declarations (text_facts named.raw.now)) → is_other r.item.kind ≡ true → item_at (item_rows 0 (things_of named)) r.token ≡ None
  not-in r i e =
      let a = things-stored.apart in
      not-numbered 0 (things_of named) r.token (λ j. not-in-both 1 r.token a.merged rising j (a.others r i e))

  abbrev IsOther : Row Declaration → Type 0
  IsOther r = is_other r.item.kind ≡ true → item_at (item_rows 0 (things_of named)) r.token ≡ None

  pub items-stand : named.declarations ≡ text_declarations (text_facts named.raw.now) → ItemsStand named
  items-stand declared = record {
    things = is-stored;
    facts = all-of (IsThere named) (facts_stored (numbers_of named) (text_facts named.raw.now) None) ((text-stores (IsThere named) (numbers_of named) named named.raw.now).gives (from-in (Kept (IsThere named) (numbers_of named)) (things_of named) is-kept));
    others = subst (All IsOther) (sym declared) (all-of IsOther (text_declarations (text_facts named.raw.now)) (from-in IsOther (text_declarations (text_facts named.raw.now)) not-in));
    anywhere = λ who i words h. named-anywhere (unit_of named) who i words (slice_get (unit_of named).items i) h;
  }

  few-items : length (things_of named) ≤ 65535
  few-items =
      let few : 1 + length (tokens_of_things (things_of named)) ≤ 65536 = few-tokens 1 (tokens_of_things (things_of named)) things-rise in
      let same : length (tokens_of_things (things_of named)) ≡ length (things_of named) = map-length (things_of named) in
      omega (arith, few, same)

  module _ (free : things_judged nothing_known (things_of named) None ≡ None) where
    item-reaches : (i : ℕ) (x : Item) → slice_get (unit_of named).items i ≡ Some x → family_offset (unit_of named) i + x.words ≤ 32768
    item-reaches i x e =
        let r = made-of named.declarations (numbers_of named) (listed_of named.raw.now) (addresses_of named.raw.now.comms) (held_of named.raw.now) (things_of named) i x e in
        let words : r.0.words ≡ x.words = ap (λ (y : Item). y.words) r.2 in
        subst (λ n. family_offset (unit_of named) i + n ≤ 32768) words
        (reaches (unit_of named) named.declarations (numbers_of named) (listed_of named.raw.now) (addresses_of named.raw.now.comms) (held_of named.raw.now) (things_of named) made 1 things-rise free i r.0 r.1)

    presets-held : PartsFree named → (i : ℕ) (x : Item) → slice_get (unit_of named).items i ≡ Some x → IsTrue (list_all (is_preset x.words) x.presets)
    presets-held parts i x e =
        let r = made-of named.declarations (numbers_of named) (listed_of named.raw.now) (addresses_of named.raw.now.comms) (held_of named.raw.now) (things_of named) i x e in
        let words : r.0.words ≡ x.words = ap (λ (y : Item). y.words) r.2 in
        let reach = item-reaches i x e in
        let few : r.0.words ≤ 32768 = omega (arith, words, reach) in
        subst (λ (y : Item). IsTrue (list_all (is_preset y.words) y.presets)) r.2 (presets-within named parts things-rise i r.0 r.1 few)

  pub storage-stands : PartsFree named → StorageStands (unit_of named)
  storage-stands parts = record {
    reach = item-reaches parts.things;
    presets = presets-held parts.things parts;
    few = subst (λ n. n ≤ 65535) (sym (as-long named.declarations (numbers_of named) (listed_of named.raw.now) (addresses_of named.raw.now.comms) (held_of named.raw.now) (things_of named))) few-items;
    storable = storable (unit_of named) named.declarations (numbers_of named) (listed_of named.raw.now) (addresses_of named.raw.now.comms) (held_of named.raw.now) (things_of named) made;
    bases = bases-below (numbers_of named) (listed_of named.raw.now) (things_of named) named.raw.now.comms refl;
  }
