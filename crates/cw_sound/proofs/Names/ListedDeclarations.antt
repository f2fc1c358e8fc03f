-- The descriptor of each label, switch and procedure that the communicators list.
use Rattle.std.proofs.Common.{◌≡◌, ◌⊎◌, inl, inr, ℕ, zero, suc, ◌+◌, List, [], ◌∷◌, ◌++◌, IsTrue, Option, Some, slice_get, refl, sym, ap, subst, ◌∙◌, append-nil}
use Rattle.cw_table.specs.declared.table.Row.{Row}
use Rattle.cw_tree.specs.declared.leaf.RawName.{RawName}
use Rattle.cw_tree.specs.declared.leaf.RawType.{RawType}
use Rattle.cw_tree.specs.declared.segment.RawPs.{RawPs}
use Rattle.cw_tree.specs.declared.segment.RawSpec.{RawSpec}
use Rattle.cw_facts.specs.declared.fact.Fact.{Fact}
use Rattle.cw_facts.specs.declared.fact.Fact.TheVariants as fact
use Rattle.cw_facts.specs.declared.fact.Kind.{Kind as NameKind}
use Rattle.cw_facts.specs.declared.fact.Kind.TheVariants as kind
use Rattle.cw_facts.specs.declared.fact.Signature.{Signature}
use Rattle.cw_facts.specs.Facts.{declares, specifies}
use Rattle.cw_facts.specs.Text.{spec_facts}
use Rattle.cw_scope.specs.Resolved.{text_signatures}
use Rattle.cw_number.specs.declared.listed.Listing.{Listing}
use Rattle.cw_number.specs.declared.listed.Listing.TheVariants as listing
use Rattle.cw_number.specs.Listed.{row}
use Rattle.cw_make_items.specs.Lookup.{Numbers}
use Rattle.cw_make_items.specs.Types.{spec_of}
use Rattle.cw_make_items.specs.Descriptors.{spec_desc}
use Rattle.cw_unit.specs.declared.descriptor.Desc.{Desc}
use Rattle.cw_unit.specs.declared.descriptor.DescBody.{DescBody}
use Rattle.cw_unit.specs.declared.descriptor.DescBody.TheVariants as bodies
use Rattle.cw_built.specs.Listed.{body_in}
use Rattle.cw_sound.specs.Uses.Mentions.{In, Mention, Here, here, declares as declared, uses, stores, fact_mentions, facts_mentions}
use Rattle.cw_sound.proofs.Names.Lists.{in_either, Sub, sub_left, sub_right}
use Rattle.cw_sound.proofs.Names.Rows.{mentions_append}
use Rattle.cw_sound.proofs.Names.MentionsOf.{declared_first, specified_first, of_use, declared_before, specified_before, signatures_append}
use Rattle.cw_sound.proofs.Names.PartKinds.{is_data}
use Rattle.cw_sound.proofs.Names.ListedParts.{Listed, none, also, used, stored, unlisted, label, switch, procedure, special, is_special, label_desc, switch_desc}

-- ---- places in two lists behind one another

abbrev behind : {X : Type 0} → List X → ℕ → ℕ
behind [] i = i
behind (x ∷ xs) i = suc (behind xs i)

get_left : {X : Type 0} → (xs ys : List X) (i : ℕ) (x : X) → slice_get xs i ≡ Some x → slice_get (xs ++ ys) i ≡ Some x
get_left [] ys i x e = absurd (cc)
get_left (z ∷ zs) ys zero x e = e
get_left (z ∷ zs) ys (suc i) x e = get_left zs ys i x e

get_right : {X : Type 0} → (xs ys : List X) (i : ℕ) → slice_get (xs ++ ys) (behind xs i) ≡ slice_get ys i
get_right [] ys i = refl
get_right (x ∷ xs) ys i = get_right xs ys i

body_left : (xs ys : List Desc) (i : ℕ) (b : DescBody) → body_in (slice_get xs i) ≡ Some b → body_in (slice_get (xs ++ ys) i) ≡ Some b
body_left [] ys i b e = absurd (cc)
body_left (z ∷ zs) ys zero b e = e
body_left (z ∷ zs) ys (suc i) b e = body_left zs ys i b e

behind_append : {X : Type 0} → (xs ys : List X) (i : ℕ) → behind (xs ++ ys) i ≡ behind xs (behind ys i)
behind_append [] ys i = refl
behind_append (x ∷ xs) ys i = ap (λ n. suc n) (behind_append xs ys i)

-- there are as many descriptors
same_places : {fs : List Fact} {rs : List (Row Listing)} {ds : List Desc} → Listed fs rs ds → (i : ℕ) → behind ds i ≡ behind rs i
same_places (also {fs} {gs} {rs} {qs} {ds} {es} a b) i =
    behind_append ds es i ∙ ap (behind ds) (same_places b i) ∙ same_places a (behind qs i) ∙ sym (behind_append rs qs i)
same_places _ i = refl

module _ (numbers : Numbers) (sigs : List (Row Signature)) where
  -- where what is declared is listed, and what its descriptor says
  pub record Told (rs : List (Row Listing)) (ds : List Desc) (n : RawName) (l : Listing) (b : DescBody) : Type 0 where
    pub place : ℕ
    pub is_row : slice_get rs place ≡ Some (row l n)
    pub is_desc : body_in (slice_get ds place) ≡ Some b

  -- the specification of what is not listed
  abbrev pub SpecialTold : RawName → Type 0
  SpecialTold n = (answer : Option RawType) × (params : List RawPs) × In (record { token = n.at.token; item = record { answer = answer; params = params } }) sigs

  abbrev pub ToldKind : List (Row Listing) → List Desc → RawName → NameKind → Type 0
  ToldKind rs ds n kind.Label = Told rs ds n listing.Label bodies.Label
  ToldKind rs ds n kind.Switch = Told rs ds n listing.Switch bodies.Switch
  ToldKind rs ds n (kind.Proc answer) = (params : List RawPs) × Told rs ds n listing.Proc (bodies.Proc (spec_of answer params)) × In (record { token = n.at.token; item = record { answer = answer; params = params } }) sigs
  ToldKind rs ds n kind.ReadByte = SpecialTold n
  ToldKind rs ds n kind.WriteByte = SpecialTold n
  ToldKind rs ds n _ = Unit {0}

  abbrev pub ToldMention : List (Row Listing) → List Desc → Mention → Type 0
  ToldMention rs ds (declared d) = ToldKind rs ds d.name d.kind
  ToldMention rs ds (uses x) = Unit {0}
  ToldMention rs ds (stores token n) = Unit {0}

  told_left : (rs qs : List (Row Listing)) (ds es : List Desc) (n : RawName) (l : Listing) (b : DescBody) → Told rs ds n l b → Told (rs ++ qs) (ds ++ es) n l b
  told_left rs qs ds es n l b t = record { place = t.place; is_row = get_left rs qs t.place (row l n) t.is_row; is_desc = body_left ds es t.place b t.is_desc }

  told_right : (rs qs : List (Row Listing)) (ds es : List Desc) (n : RawName) (l : Listing) (b : DescBody) → ((i : ℕ) → behind ds i ≡ behind rs i) → Told qs es n l b → Told (rs ++ qs) (ds ++ es) n l b
  told_right rs qs ds es n l b same t =
      record {
        place = behind rs t.place;
        is_row = get_right rs qs t.place ∙ t.is_row;
        is_desc = ap (λ i. body_in (slice_get (ds ++ es) i)) (sym (same t.place)) ∙ ap body_in (get_right ds es t.place) ∙ t.is_desc;
      }

  kind_left : (rs qs : List (Row Listing)) (ds es : List Desc) (n : RawName) (k : NameKind) → ToldKind rs ds n k → ToldKind (rs ++ qs) (ds ++ es) n k
  kind_left rs qs ds es n kind.Label t = told_left rs qs ds es n listing.Label bodies.Label t
  kind_left rs qs ds es n kind.Switch t = told_left rs qs ds es n listing.Switch bodies.Switch t
  kind_left rs qs ds es n (kind.Proc answer) t = (t.0, told_left rs qs ds es n listing.Proc (bodies.Proc (spec_of answer t.0)) t.1, t.2)
  kind_left rs qs ds es n kind.ReadByte t = t
  kind_left rs qs ds es n kind.WriteByte t = t
  kind_left rs qs ds es n _ t = tt

  kind_right : (rs qs : List (Row Listing)) (ds es : List Desc) (n : RawName) (k : NameKind) → ((i : ℕ) → behind ds i ≡ behind rs i) → ToldKind qs es n k → ToldKind (rs ++ qs) (ds ++ es) n k
  kind_right rs qs ds es n kind.Label same t = told_right rs qs ds es n listing.Label bodies.Label same t
  kind_right rs qs ds es n kind.Switch same t = told_right rs qs ds es n listing.Switch bodies.Switch same t
  kind_right rs qs ds es n (kind.Proc answer) same t = (t.0, told_right rs qs ds es n listing.Proc (bodies.Proc (spec_of answer t.0)) same t.1, t.2)
  kind_right rs qs ds es n kind.ReadByte same t = t
  kind_right rs qs ds es n kind.WriteByte same t = t
  kind_right rs qs ds es n _ same t = tt

  mention_left : (rs qs : List (Row Listing)) (ds es : List Desc) (m : Mention) → ToldMention rs ds m → ToldMention (rs ++ qs) (ds ++ es) m
  mention_left rs qs ds es (declared d) t = kind_left rs qs ds es d.name d.kind t
  mention_left rs qs ds es (uses x) t = tt
  mention_left rs qs ds es (stores token n) t = tt

  mention_right : (rs qs : List (Row Listing)) (ds es : List Desc) (m : Mention) → ((i : ℕ) → behind ds i ≡ behind rs i) → ToldMention qs es m → ToldMention (rs ++ qs) (ds ++ es) m
  mention_right rs qs ds es (declared d) same t = kind_right rs qs ds es d.name d.kind same t
  mention_right rs qs ds es (uses x) same t = tt
  mention_right rs qs ds es (stores token n) same t = tt

  data_told : (rs : List (Row Listing)) (ds : List Desc) (n : RawName) (k : NameKind) → IsTrue (is_data k) → ToldKind rs ds n k
  data_told rs ds n kind.Label h = absurd (cc)
  data_told rs ds n kind.Switch h = absurd (cc)
  data_told rs ds n (kind.Proc answer) h = absurd (cc)
  data_told rs ds n kind.ReadByte h = absurd (cc)
  data_told rs ds n kind.WriteByte h = absurd (cc)
  data_told rs ds n _ h = tt

  special_told : (rs : List (Row Listing)) (ds : List Desc) (n : RawName) (k : NameKind) → IsTrue (is_special k) → SpecialTold n → ToldKind rs ds n k
  special_told rs ds n kind.Label h t = absurd (cc)
  special_told rs ds n kind.Switch h t = absurd (cc)
  special_told rs ds n (kind.Proc answer) h t = absurd (cc)
  special_told rs ds n kind.ReadByte h t = t
  special_told rs ds n kind.WriteByte h t = t
  special_told rs ds n _ h t = tt

  -- one declaration alone
  alone : (n : RawName) (k : NameKind) (rs : List (Row Listing)) (ds : List Desc) (q : Option ℕ) (m : Here) → ToldKind rs ds n k → In m (facts_mentions numbers (declares n k ∷ []) q) → ToldMention rs ds m.mention
  alone n k rs ds q m t i = by_side (subst (In m) (declared_first numbers n k [] q) i)
    where
      by_side : In m (here q (declared (record { name = n; kind = k })) ∷ []) → ToldMention rs ds m.mention
      by_side (inl e) = subst (λ x. ToldMention rs ds x.mention) e t
      by_side (inr j) = absurd j

  specified : (k : NameKind) (s : RawSpec) (rs : List (Row Listing)) (ds : List Desc) (q : Option ℕ) (m : Here) → ToldKind rs ds s.name k → In m (facts_mentions numbers (spec_facts k s) q) → ToldMention rs ds m.mention
  specified k s rs ds q m t i =
      by_side (subst (In m) (declared_first numbers s.name k (specifies s.name.at.token s.answer s.params ∷ []) q ∙ ap (λ ms. here q (declared (record { name = s.name; kind = k })) ∷ ms) (specified_first numbers s.name.at.token s.answer s.params [] q)) i)
    where
      by_side : In m (here q (declared (record { name = s.name; kind = k })) ∷ []) → ToldMention rs ds m.mention
      by_side (inl e) = subst (λ x. ToldMention rs ds x.mention) e t
      by_side (inr j) = absurd j

  pub told : {fs : List Fact} {rs : List (Row Listing)} {ds : List Desc} → Listed fs rs ds → (q : Option ℕ) → Sub (text_signatures fs) sigs → (m : Here) → In m (facts_mentions numbers fs q) → ToldMention rs ds m.mention
  told none q sub m i = absurd i
  told (also {fs} {gs} {rs} {qs} {ds} {es} a b) q sub m i =
      let subs = subst (λ xs. Sub xs sigs) (signatures_append fs gs) sub in
      either (in_either m (facts_mentions numbers fs q) (facts_mentions numbers gs q) (subst (In m) (mentions_append numbers fs gs q) i))
      (λ j. mention_left rs qs ds es m.mention (told a q (sub_left (text_signatures fs) (text_signatures gs) sigs subs) m j))
      (λ j. mention_right rs qs ds es m.mention (same_places a) (told b q (sub_right (text_signatures fs) (text_signatures gs) sigs subs) m j))
    where
      either : {A B C : Type 0} → A ⊎ B → (A → C) → (B → C) → C
      either (inl x) h k = h x
      either (inr y) h k = k y
  told (used x) q sub m i = by_side (subst (In m) (append-nil (fact_mentions numbers (fact.Uses x) q) ∙ of_use numbers x q) i)
    where
      by_side : In m (here q (uses x) ∷ []) → ToldMention [] [] m.mention
      by_side (inl e) = subst (λ y. ToldMention [] [] y.mention) e tt
      by_side (inr j) = absurd j
  told (stored n k d h w) q sub m i = alone n k (row listing.Data n ∷ []) (d ∷ []) q m (data_told (row listing.Data n ∷ []) (d ∷ []) n k h) i
  told (unlisted n k h) q sub m i = alone n k [] [] q m (data_told [] [] n k h) i
  told (label n) q sub m i = alone n kind.Label (row listing.Label n ∷ []) (label_desc n ∷ []) q m (record { place = 0; is_row = refl; is_desc = refl }) i
  told (switch n) q sub m i = alone n kind.Switch (row listing.Switch n ∷ []) (switch_desc n ∷ []) q m (record { place = 0; is_row = refl; is_desc = refl }) i
  told (procedure l s) q sub m i =
      let there = sub (record { token = s.name.at.token; item = record { answer = s.answer; params = s.params } })
      (subst (In (record { token = s.name.at.token; item = record { answer = s.answer; params = s.params } })) (sym (declared_before s.name (kind.Proc s.answer) (specifies s.name.at.token s.answer s.params ∷ []) ∙ specified_before s.name.at.token s.answer s.params [])) (inl refl)) in
      specified (kind.Proc s.answer) s (row listing.Proc s.name ∷ []) (spec_desc l s ∷ []) q m (s.params, record { place = 0; is_row = refl; is_desc = refl }, there) i
  told (special k s h) q sub m i =
      let there = sub (record { token = s.name.at.token; item = record { answer = s.answer; params = s.params } })
      (subst (In (record { token = s.name.at.token; item = record { answer = s.answer; params = s.params } })) (sym (declared_before s.name k (specifies s.name.at.token s.answer s.params ∷ []) ∙ specified_before s.name.at.token s.answer s.params [])) (inl refl)) in
      specified k s [] [] q m (special_told [] [] s.name k h (s.answer, s.params, there)) i
