-- The base of each descriptor that is overlaid is a descriptor before it.
use Rattle.std.proofs.Common.{◌≡◌, ◌⊎◌, inl, inr, ℕ, suc, ◌+◌, ◌≤◌, min, List, [], ◌∷◌, ◌++◌, Bool, true, false, cond, IsTrue, nat_eq, nat_lt, Option, Some, None, slice_get, refl, sym, ap, subst, subst₂, ◌∙◌, arith, append_assoc, eqb-true}
use Rattle.std.specs.Prelude.{find, option_map}
use Rattle.std.specs.List.{list_all}
use Rattle.std.proofs.lemmas.List.{map-append}
use Rattle.std.proofs.lemmas.Option.{slice_get_within, slice_get_cases}
use Rattle.cw_table.specs.declared.table.Row.{Row}
use Rattle.cw_table.specs.Rows.{stands_at, place_at}
use Rattle.cw_tree.specs.declared.leaf.RawName.{RawName}
use Rattle.cw_facts.specs.declared.fact.Declaration.{Declaration}
use Rattle.cw_facts.specs.declared.fact.Fact.{Fact}
use Rattle.cw_facts.specs.declared.fact.Fact.TheVariants as fact
use Rattle.cw_facts.specs.declared.fact.Kind.{Kind}
use Rattle.cw_facts.specs.declared.fact.Kind.TheVariants as kind
use Rattle.cw_facts.specs.Text.{spec_facts, communicators_facts}
use Rattle.cw_facts.specs.Facts.{declares, specifies, block_facts}
use Rattle.cw_scope.specs.declared.resolve.Named.{Named}
use Rattle.cw_items.specs.declared.thing.Base.{Base}
use Rattle.cw_items.specs.declared.thing.Thing.{Thing}
use Rattle.cw_items.specs.Things.{amount_or_none}
use Rattle.cw_number.specs.declared.listed.Listing.{Listing}
use Rattle.cw_number.specs.declared.numbered.Numbered.{Numbered}
use Rattle.cw_number.specs.declared.numbered.Numbered.TheVariants as numbered
use Rattle.cw_number.specs.declared.numbers.Counts.{Counts}
use Rattle.cw_number.specs.Listed.{listed_of}
use Rattle.cw_number.specs.Numbers.{item_rows, next_long, next_short, row_if, listed_number, listed_rows, built_in_number, own_number, none_counted, declared_number, counted_after, declared_rows, begin_of, numbers_of}
use Rattle.cw_make_items.specs.Lookup.{item_in, item_here}
use Rattle.cw_make_items.specs.Descriptors.{over_base, over_thing, over_at}
use Rattle.cw_make.specs.Made.{unit_of}
use Rattle.cw_unit.specs.declared.descriptor.Desc.{Desc}
use Rattle.cw_view.specs.ObjectFormat.{has_base}
use Rattle.cw_object.specs.Fits.{fits_descriptor}
use Rattle.cw_object.specs.IsWritable.{is_listed, are_listed}
use Rattle.cw_writable.proofs.Front.Truth.{lt_true, both, first_of_two, second_of_two}
use Rattle.cw_sound.specs.Items.Derived.{IsRising, declared_token, facts_tokens, HasRisingTokens}
use Rattle.cw_sound.specs.Items.Bases.{BasesStand}
use Rattle.cw_sound.specs.Items.Items.{things_of}
use Rattle.cw_sound.proofs.Items.Lists.{In, at-place, Within, nothing, with, none-within, within-append, rising-within, rising-left}
use Rattle.cw_sound.proofs.Items.Says.{tokens-append, tokens-declares}
use Rattle.cw_sound.proofs.Items.Resolving.{row_tokens}
use Rattle.cw_sound.proofs.Items.ListedData.{placed}
use Rattle.cw_sound.proofs.Items.Numbering.{token_of_thing, row-at}
use Rattle.cw_sound.proofs.Items.Overlaying.{as-many, overlays-are}
use Rattle.cw_sound.proofs.Items.Standing.{things-rise, made}
use Rattle.cw_sound.proofs.Front.Lists.{token_in, rises_to, stands_before}
use Rattle.cw_sound.proofs.Names.PartKinds.{is_data}
use Rattle.cw_sound.proofs.Names.ListedParts.{Listed, none, also, used, stored, unlisted, label, switch, procedure, special, communicators_parts}
use Rattle.cw_number.specs.declared.listed.Listing.TheVariants as listing

-- ---- the tokens of what is listed rise

data_token : (k : Kind) (token : ℕ) → IsTrue (is_data k) → declared_token k token ≡ token ∷ []
data_token (kind.Answer t) token h = absurd (cc)
data_token _ token h = refl

named_first : (n : RawName) (k : Kind) (fs : List Fact) → declared_token k n.at.token ≡ n.at.token ∷ [] → Within (n.at.token ∷ []) (facts_tokens (declares n k ∷ fs))
named_first n k fs h = subst (λ (ts : List ℕ). Within (n.at.token ∷ []) (ts ++ facts_tokens fs)) (sym (tokens-declares (record { name = n; kind = k }) ∙ h)) (with (none-within (facts_tokens fs)))

listed_within : {fs : List Fact} {rs : List (Row Listing)} {ds : List Desc} → Listed fs rs ds → Within (row_tokens rs) (facts_tokens fs)
listed_within none = nothing
listed_within (also {fs} {gs} {rs} {qs} a b) = subst₂ Within (sym (map-append (λ (r : Row Listing). r.token) rs qs)) (sym (tokens-append fs gs)) (within-append (listed_within a) (listed_within b))
listed_within (used x) = none-within (facts_tokens (fact.Uses x ∷ []))
listed_within (stored n k d e w) = named_first n k [] (data_token k n.at.token e)
listed_within (unlisted n k e) = none-within (facts_tokens (declares n k ∷ []))
listed_within (label n) = named_first n kind.Label [] refl
listed_within (switch n) = named_first n kind.Switch [] refl
listed_within (procedure l s) = named_first s.name (kind.Proc s.answer) (specifies s.name.at.token s.answer s.params ∷ []) refl
listed_within (special k s e) = none-within (facts_tokens (spec_facts k s))

-- ---- what has the number of an item is the item at that token; else its number counts as that of the first item

listed_no_item : (d : ℕ) (l : Listing) → item_in (listed_number d l) ≡ 0
listed_no_item d listing.Data = refl
listed_no_item d _ = refl

built_in_no_item : (k : Kind) → item_in (built_in_number k) ≡ 0
built_in_no_item kind.ReadByte = refl
built_in_no_item kind.WriteByte = refl
built_in_no_item _ = refl

own_no_item : (c : Counts) (k : Kind) → item_in (own_number c k) ≡ 0
own_no_item c kind.Label = refl
own_no_item c _ = refl

module _ (token : ℕ) where
  behind_row : (t : ℕ) (o : Option Numbered) (rs : List (Row Numbered)) → item_in o ≡ 0 → item_here rs token ≡ 0 → item_here (row_if t o ++ rs) token ≡ 0
  behind_row t None rs h k = k
  behind_row t (Some x) rs h k = of_test (nat_eq token t)
    where
      of_test : (b : Bool) → item_in (option_map (λ (r : Row Numbered). r.item) (cond b (Some (record { token = t; item = x })) (find (stands_at token) rs))) ≡ 0
      of_test true = h
      of_test false = k

  no_declared : (begin : ℕ) (c : Counts) (rs : List (Row Declaration)) → item_here (declared_rows begin c rs) token ≡ 0
  no_declared begin c [] = refl
  no_declared begin c (r ∷ rs) =
      behind_row r.token (declared_number begin c r.item) (declared_rows begin (counted_after begin c r.item) rs) (of_test (nat_lt r.item.name.at.token begin)) (no_declared begin (counted_after begin c r.item) rs)
    where
      of_test : (b : Bool) → item_in (cond b (built_in_number r.item.kind) (own_number c r.item.kind)) ≡ 0
      of_test true = built_in_no_item r.item.kind
      of_test false = own_no_item c r.item.kind

  no_listed : (d : ℕ) (ls : List (Row Listing)) (rest : List (Row Numbered)) → item_here rest token ≡ 0 → item_here (listed_rows d ls ++ rest) token ≡ 0
  no_listed d [] rest h = h
  no_listed d (r ∷ rs) rest h =
      subst (λ (xs : List (Row Numbered)). item_here xs token ≡ 0) (sym (append_assoc (row_if r.token (listed_number d r.item)) (listed_rows (next_short d) rs) rest))
      (behind_row r.token (listed_number d r.item) (listed_rows (next_short d) rs ++ rest) (listed_no_item d r.item) (no_listed (next_short d) rs rest h))

  abbrev Holds : List Thing → Type 0
  Holds ts = (i : ℕ) × (t : Thing) × (slice_get ts i ≡ Some t) × (t.at.token ≡ token)

  thing_or_none : (n : ℕ) (ts : List Thing) (rest : List (Row Numbered)) → item_here rest token ≡ 0 → (item_here (item_rows n ts ++ rest) token ≡ 0) ⊎ Holds ts
  thing_or_none n [] rest h = inl h
  thing_or_none n (t ∷ ts) rest h = of_test (nat_eq token t.at.token) refl (thing_or_none (next_long n) ts rest h)
    where
      of_test : (b : Bool) → nat_eq token t.at.token ≡ b → (item_here (item_rows (next_long n) ts ++ rest) token ≡ 0) ⊎ Holds ts
          → (item_in (option_map (λ (r : Row Numbered). r.item) (cond b (Some (record { token = t.at.token; item = numbered.Item n })) (find (stands_at token) (item_rows (next_long n) ts ++ rest)))) ≡ 0) ⊎ Holds (t ∷ ts)
      of_test true e later = inr (0, t, refl, sym (eqb-true token t.at.token e))
      of_test false e (inl missing) = inl missing
      of_test false e (inr there) = inr (suc there.0, there.1, there.2, there.3)

-- ---- descriptors

listed_from : (n : ℕ) (ds : List Desc) → IsTrue (list_all fits_descriptor ds) → ((d : ℕ) (x : Desc) → slice_get ds d ≡ Some x → IsTrue (has_base (n + d) x.over)) → IsTrue (are_listed n ds)
listed_from n [] h k = refl
listed_from n (x ∷ xs) h k =
    let here : n + 0 ≡ n = omega arith in
    both (is_listed n x) (are_listed (n + 1) xs)
    (both (fits_descriptor x) (has_base n x.over) (first_of_two (fits_descriptor x) (list_all fits_descriptor xs) h) (subst (λ m. IsTrue (has_base m x.over)) here (k 0 x refl)))
    (listed_from (n + 1) xs (second_of_two (fits_descriptor x) (list_all fits_descriptor xs) h) (λ d y e. let next : n + suc d ≡ n + 1 + d = omega arith in subst (λ m. IsTrue (has_base m y.over)) next (k (suc d) y e)))

module _ (named : Named) (rising : HasRisingTokens named.raw.now) (bases : BasesStand (numbers_of named) (listed_of named.raw.now) (things_of named)) where
  abbrev numbers : List (Row Numbered)
  numbers = numbers_of named

  abbrev rows : List (Row Listing)
  rows = listed_of named.raw.now

  abbrev things : List Thing
  things = things_of named

  abbrev listed_facts : List Fact
  listed_facts = communicators_facts named.raw.now.comms

  rows_rise : IsRising 1 (row_tokens rows)
  rows_rise =
      rising-within 1 (listed_within (communicators_parts numbers rows things named.raw.now.comms))
      (rising-left 1 (facts_tokens listed_facts) (facts_tokens (block_facts named.raw.now.block true)) (subst (IsRising 1) (tokens-append listed_facts (block_facts named.raw.now.block true)) rising))

  -- the base of the thing at the token of a row
  base_before : (d : ℕ) (r : Row Listing) → slice_get rows d ≡ Some r → (i : ℕ) (t : Thing) → slice_get things i ≡ Some t → t.at.token ≡ r.token → (o : Option Base) → t.base ≡ o → IsTrue (has_base d (over_base rows o))
  base_before d r e i t there at None is = refl
  base_before d r e i t there at (Some b) is =
      let base = bases i t b there is in
      let place = placed rows t.at.token (subst (λ n. In n (row_tokens rows)) (sym at) (token_in (λ (x : Row Listing). x.token) rows r (at-place rows d r e))) in
      let listed = base.listed_too place.0 place.1 in
      let row = row-at rows b.token listed.0 listed.1 in
      let lower = rises_to token_of_thing 1 things base.place i base.base t (things-rise named rising bases) base.there there base.before in
      let tokens = row.2 in
      let base_token = base.at_token in
      let before = stands_before (λ (x : Row Listing). x.token) 1 rows listed.0 d row.0 r rows_rise row.1 e (omega (arith, lower, tokens, base_token, at)) in
      let number : min (amount_or_none (place_at rows b.token)) 65535 ≤ listed.0 = subst (λ (o : Option ℕ). min (amount_or_none o) 65535 ≤ listed.0) (sym listed.1) (omega arith) in
      lt_true (min (amount_or_none (place_at rows b.token)) 65535) d (omega (arith, before, number))

  -- the first thing of a text is overlaid on none
  first_alone : (d : ℕ) (o : Option Thing) → slice_get things 0 ≡ o → IsTrue (has_base d (over_thing rows o))
  first_alone d None e = refl
  first_alone d (Some t) e = of_base t.base refl
    where
      of_base : (o : Option Base) → t.base ≡ o → IsTrue (has_base d (over_base rows o))
      of_base None is = refl
      of_base (Some b) is = let before = (bases 0 t b e is).before in absurd (omega (arith, before))

  over_before : (d : ℕ) (r : Row Listing) → slice_get rows d ≡ Some r → IsTrue (has_base d (over_at numbers rows things r.token))
  over_before d r e =
      elim (thing_or_none r.token 0 things (listed_rows 0 rows ++ declared_rows (begin_of named.raw.now) none_counted named.declarations) (no_listed r.token 0 rows (declared_rows (begin_of named.raw.now) none_counted named.declarations) (no_declared r.token (begin_of named.raw.now) none_counted named.declarations))) [
        | inl missing ↦ subst (λ (i : ℕ). IsTrue (has_base d (over_thing rows (slice_get things i)))) (sym missing) (first_alone d (slice_get things 0) refl)
        | inr there ↦
            (let number : item_here numbers r.token ≡ there.0 = ap (item_here numbers) (sym there.3) ∙ ap item_in ((made named rising bases).number there.0 there.1 there.2) in
            subst (λ (o : Option Thing). IsTrue (has_base d (over_thing rows o))) (sym (ap (slice_get things) number ∙ there.2)) (base_before d r e there.0 there.1 there.2 there.3 there.1.base refl))
      ]

  row_of : (d : ℕ) (x : Desc) → slice_get (unit_of named).descs d ≡ Some x → (r : Row Listing) × (slice_get rows d ≡ Some r)
  row_of d x e =
      let within = slice_get_within (unit_of named).descs d x e in
      let many = as-many numbers rows things named.raw.now.comms in
      elim (slice_get_cases rows d).1 [ inl there ↦ (there.0, there.2) | inr past ↦ (let beyond = past.0 in absurd (omega (arith, within, many, beyond))) ]

  descriptor_based : (d : ℕ) (x : Desc) → slice_get (unit_of named).descs d ≡ Some x → IsTrue (has_base d x.over)
  descriptor_based d x e =
      let r = row_of d x e in
      elim (overlays-are numbers rows things named.raw.now.comms d x r.0 e r.1) [
        | inl alone ↦ subst (λ o. IsTrue (has_base d o)) (sym alone) refl
        | inr over ↦ subst (λ o. IsTrue (has_base d o)) (sym over) (over_before d r.0 r.1)
      ]

  pub bases_listed : IsTrue (list_all fits_descriptor (unit_of named).descs) → IsTrue (are_listed 0 (unit_of named).descs)
  bases_listed fits = listed_from 0 (unit_of named).descs fits (λ d x e. let same : 0 + d ≡ d = omega arith in subst (λ m. IsTrue (has_base m x.over)) (sym same) (descriptor_based d x e))
