-- The storage map is valid.
use Rattle.std.proofs.Common.{◌≡◌, ◌↔◌, ℕ, zero, suc, ◌+◌, ◌-◌, ◌<◌, ◌≤◌, min, max, List, [], ◌∷◌, map, take, Bool, true, false, cond, nat_lt, Option, Some, None, All, option_map, slice_get, slice_index, slice_index_or, refl, sym, ap, ap₂, subst, ◌∙◌, arith, inl, inr, ltb-true, ltb-false, true≢false}
use Rattle.std.proofs.lemmas.Bool.{cases_Bool}
use Rattle.std.proofs.lemmas.Option.{none-some, same_Some, slice_get-map}
use Rattle.std.proofs.lemmas.List.Elements.{All-head, All-tail}
use Rattle.std.proofs.lemmas.Slice.Eq.{bytes_eq-Decides}
use Rattle.cw_unit.specs.declared.unit.Unit.{Unit as SourceUnit}
use Rattle.cw_unit.specs.declared.unit.Item.{Item}
use Rattle.cw_unit.specs.declared.unit.Home.{Home}
use Rattle.cw_unit.specs.declared.unit.Home.TheVariants as home
use Rattle.cw_unit.specs.declared.layout.Family.{Family}
use Rattle.cw_unit.specs.declared.layout.Limits.{Limits}
use Rattle.cw_unit.specs.declared.layout.Sort.{Sort}
use Rattle.cw_unit.specs.declared.layout.Sort.TheVariants as sort
use Rattle.cw_unit.specs.Storage.{root_of, roots_in, family_of, family_extent, family_at, sort_of, frame_words, frame_size, layout_of}
use Rattle.cw_unit.specs.Allocation.{Name, FamilyKey, Shared, Private, SegmentStorage, storage_of, name_at, Range, absolute_range, absolute_ranges_in, absolute_ranges, extent_of_name, extent_in_segment, common_extent, extent_of_family, extent_in_storage, key_extent, placed_key, keys_in_segment, keys_from, first_keys, meets, Placed, placed_families, start_of, family_address, addresses_from, homes_from, storage_map}
use Rattle.cw_unit.specs.ValidStorage.{StoredItem, key_of, sort_of_family, as_stored, owner_in, IsStored, IsAbsolute, IsInFrame, word_of, frame_size_in, IsStorable, FitsArea, ValidStorageMap}
use Rattle.cw_unit.proofs.Families.{Root, root_at, family_found, inside_family, inside_frame, past_in_frame}
use Rattle.cw_unit.proofs.Placing.{In, in-left, in-right, in-first_keys, Fits, fits, apart}

-- ---- keys, ranges and extents of the families of a list of segments

key-in-segment : (g : ℕ) (names : List Name) (n : ℕ) (fs : List Family) (k : ℕ) (f : Family) (key : FamilyKey) → slice_get fs k ≡ Some f → In key (placed_key g names (n + k) f.sort) → In key (keys_in_segment g names n fs)
key-in-segment g names n [] k f key e h = absurd (none-some f e)
key-in-segment g names n (j ∷ fs) zero f key e h =
    let at : n + 0 ≡ n = omega arith in
    in-left key (placed_key g names n j.sort) (keys_in_segment g names (n + 1) fs)
    (subst (λ x. In key (placed_key g names n x.sort)) (sym (same_Some j f e)) (subst (λ m. In key (placed_key g names m f.sort)) at h))
key-in-segment g names n (j ∷ fs) (suc k) f key e h =
    let at : n + suc k ≡ n + 1 + k = omega arith in
    in-right key (placed_key g names n j.sort) (keys_in_segment g names (n + 1) fs)
    (key-in-segment g names (n + 1) fs k f key e (subst (λ m. In key (placed_key g names m f.sort)) at h))

key-in : (g : ℕ) (ss : List SegmentStorage) (k : ℕ) (s : SegmentStorage) (key : FamilyKey) → slice_get ss k ≡ Some s → In key (keys_in_segment (g + k) s.names 0 s.families) → In key (keys_from g ss)
key-in g [] k s key e h = absurd (none-some s e)
key-in g (t ∷ ss) zero s key e h =
    let at : g + 0 ≡ g = omega arith in
    in-left key (keys_in_segment g t.names 0 t.families) (keys_from (g + 1) ss)
    (subst (λ x. In key (keys_in_segment g x.names 0 x.families)) (sym (same_Some t s e)) (subst (λ m. In key (keys_in_segment m s.names 0 s.families)) at h))
key-in g (t ∷ ss) (suc k) s key e h =
    let at : g + suc k ≡ g + 1 + k = omega arith in
    in-right key (keys_in_segment g t.names 0 t.families) (keys_from (g + 1) ss)
    (key-in (g + 1) ss k s key e (subst (λ m. In key (keys_in_segment m s.names 0 s.families)) at h))

range-in-segment : (fs : List Family) (k : ℕ) (f : Family) (r : Range) → slice_get fs k ≡ Some f → In r (absolute_range f.sort f.extent) → In r (absolute_ranges_in fs)
range-in-segment [] k f r e h = absurd (none-some f e)
range-in-segment (j ∷ fs) zero f r e h =
    in-left r (absolute_range j.sort j.extent) (absolute_ranges_in fs) (subst (λ x. In r (absolute_range x.sort x.extent)) (sym (same_Some j f e)) h)
range-in-segment (j ∷ fs) (suc k) f r e h = in-right r (absolute_range j.sort j.extent) (absolute_ranges_in fs) (range-in-segment fs k f r e h)

range-in : (ss : List SegmentStorage) (k : ℕ) (s : SegmentStorage) (r : Range) → slice_get ss k ≡ Some s → In r (absolute_ranges_in s.families) → In r (absolute_ranges ss)
range-in [] k s r e h = absurd (none-some s e)
range-in (t ∷ ss) zero s r e h =
    in-left r (absolute_ranges_in t.families) (absolute_ranges ss) (subst (λ x. In r (absolute_ranges_in x.families)) (sym (same_Some t s e)) h)
range-in (t ∷ ss) (suc k) s r e h = in-right r (absolute_ranges_in t.families) (absolute_ranges ss) (range-in ss k s r e h)

extent-in-segment : (names : List Name) (fs : List Family) (k : ℕ) (f : Family) (d : ℕ) → slice_get fs k ≡ Some f → f.sort ≡ sort.Common d → f.extent ≤ extent_in_segment (name_at names d) names fs
extent-in-segment names [] k f d e h = absurd (none-some f e)
extent-in-segment names (j ∷ fs) zero f d e h =
    let here : extent_of_name (name_at names d) names j.sort j.extent ≡ f.extent =
    ap (λ x. extent_of_name (name_at names d) names x.sort x.extent) (same_Some j f e) ∙ ap (λ x. extent_of_name (name_at names d) names x f.extent) h
    ∙ ap (λ b. cond b f.extent 0) ((bytes_eq-Decides (name_at names d) (name_at names d)).1 refl) in
    omega (arith, here)
extent-in-segment names (j ∷ fs) (suc k) f d e h = omega (arith, extent-in-segment names fs k f d e h)

extent-in : (name : Name) (ss : List SegmentStorage) (k : ℕ) (s : SegmentStorage) → slice_get ss k ≡ Some s → extent_in_segment name s.names s.families ≤ common_extent name ss
extent-in name [] k s e = absurd (none-some s e)
extent-in name (t ∷ ss) zero s e =
    let here : extent_in_segment name t.names t.families ≡ extent_in_segment name s.names s.families =
    ap (λ x. extent_in_segment name x.names x.families) (same_Some t s e) in
    omega (arith, here)
extent-in name (t ∷ ss) (suc k) s e = omega (arith, extent-in name ss k s e)

-- ---- the map's addresses

address-in : (ps : List Placed) (g : ℕ) (names : List Name) (n : ℕ) (fs : List Family) (k : ℕ) (f : Family) → slice_get fs k ≡ Some f → slice_index (addresses_from ps g names n fs) k ≡ family_address ps g names (n + k) f.sort
address-in ps g names n [] k f e = absurd (none-some f e)
address-in ps g names n (j ∷ fs) zero f e =
    let at : n ≡ n + 0 = omega arith in
    ap₂ (λ m x. family_address ps g names m x.sort) at (same_Some j f e)
address-in ps g names n (j ∷ fs) (suc k) f e =
    let at : n + 1 + k ≡ n + suc k = omega arith in
    address-in ps g names (n + 1) fs k f e ∙ ap (λ m. family_address ps g names m f.sort) at

homes-in : (ps : List Placed) (g : ℕ) (ss : List SegmentStorage) (k : ℕ) (s : SegmentStorage) → slice_get ss k ≡ Some s → slice_index_or (homes_from ps g ss) k [] ≡ addresses_from ps (g + k) s.names 0 s.families
homes-in ps g [] k s e = absurd (none-some s e)
homes-in ps g (t ∷ ss) zero s e =
    let at : g ≡ g + 0 = omega arith in
    ap₂ (λ m x. addresses_from ps m x.names 0 x.families) at (same_Some t s e)
homes-in ps g (t ∷ ss) (suc k) s e =
    let at : g + 1 + k ≡ g + suc k = omega arith in
    homes-in ps (g + 1) ss k s e ∙ ap (λ m. addresses_from ps m s.names 0 s.families) at

-- ---- an item in its place

-- an item of a unit, and the root of its family
record Rooted (us : List SourceUnit) (segment : ℕ) : Type 0 where
  n : ℕ
  u : SourceUnit
  r : Root u n
  unit : slice_get us segment ≡ Some u

-- what is known of the family of an item: it is this one, of this segment
record Stands (us : List SourceUnit) (x : StoredItem) : Type 0 where
  rooted : Rooted us x.segment
  open rooted use *
  frame_is : x.frame ≡ r.item.owner
  sort_is : x.sort ≡ sort_of u (root_of u n) r.item.owner r.item.home
  key_is : x.family ≡ key_of x.segment (storage_of u).names (family_of u n) x.sort
  start_is : x.start ≡ family_address (placed_families (map storage_of us)) x.segment (storage_of u).names (family_of u n) x.sort
  extent_in : x.offset + x.words ≤ family_extent u (root_of u n)

abbrev AllStorable : List SourceUnit → Type 0
AllStorable us = (g : ℕ) (u : SourceUnit) → slice_get us g ≡ Some u → IsStorable u

storage-found : (us : List SourceUnit) (g : ℕ) (u : SourceUnit) → slice_get us g ≡ Some u → slice_get (map storage_of us) g ≡ Some (storage_of u)
storage-found us g u e = slice_get-map storage_of us g ∙ ap (option_map storage_of) e

stands-there : (us : List SourceUnit) (g n : ℕ) (u : SourceUnit) (i : Item) → slice_get us g ≡ Some u → slice_get u.items n ≡ Some i → IsStorable u → Stands us (as_stored g u (slice_index_or (storage_map us).homes g []) n i)
stands-there us g n u i e m ok =
    let r : Root u n = root_at u ok n i m in
    let ps : List Placed = placed_families (map storage_of us) in
    let found : slice_get (layout_of u).families (family_of u n) ≡ Some (family_at u (root_of u n) r.item) = family_found u n r in
    let sorted : sort_of_family u (family_of u n) ≡ sort_of u (root_of u n) r.item.owner r.item.home = ap (λ o. elim o [ None ↦ sort.Own | Some f ↦ f.sort ]) found in
    let at : 0 + family_of u n ≡ family_of u n = omega arith in
    let seg : 0 + g ≡ g = omega arith in
    record {
      rooted = record { n = n; u = u; r = r; unit = e };
      frame_is = ap owner_in r.found;
      sort_is = sorted;
      key_is = refl;
      start_is =
          ap (λ xs. slice_index xs (family_of u n)) (homes-in ps 0 (map storage_of us) g (storage_of u) (storage-found us g u e))
          ∙ address-in ps (0 + g) (storage_of u).names 0 (layout_of u).families (family_of u n) (family_at u (root_of u n) r.item) found
          ∙ ap₂ (λ a b. family_address ps a (storage_of u).names b (sort_of u (root_of u n) r.item.owner r.item.home)) seg at
          ∙ ap (family_address ps g (storage_of u).names (family_of u n)) (sym sorted);
      extent_in = inside_family u n i m;
    }

stands : (us : List SourceUnit) → AllStorable us → (x : StoredItem) → IsStored us (storage_map us) x → Stands us x
stands us ok x h = subst (Stands us) (sym h.6) (stands-there us h.0 h.1 h.2 h.3 h.4 h.5 (ok h.0 h.2 h.4))

-- ---- items of one family

is-shared : FamilyKey → Bool
is-shared (Shared a) = true
is-shared (Private g n) = false

segment-of : FamilyKey → ℕ
segment-of (Shared a) = 0
segment-of (Private g n) = g

family-of : FamilyKey → ℕ
family-of (Shared a) = 0
family-of (Private g n) = n

shared-apart : (a : Name) (g n : ℕ) → Shared a ≡ Private g n → ⊥
unfolding is-shared
shared-apart a g n h = true≢false (ap is-shared h)

private-segment : (g n h k : ℕ) → Private g n ≡ Private h k → g ≡ h
unfolding segment-of
private-segment g n h k e = ap segment-of e

private-family : (g n h k : ℕ) → Private g n ≡ Private h k → n ≡ k
unfolding family-of
private-family g n h k e = ap family-of e

-- families of one key stand at one address
same-address : (ps : List Placed) (g h n k : ℕ) (names names2 : List Name) (s t : Sort) → (g ≡ h → n ≡ k → (names ≡ names2) × (s ≡ t)) → key_of g names n s ≡ key_of h names2 k t → family_address ps g names n s ≡ family_address ps h names2 k t
same-address ps g h n k names names2 (sort.Common d) (sort.Common e) det is = ap (λ key. start_of key ps) is
same-address ps g h n k names names2 (sort.Common d) sort.Own det is = absurd (shared-apart (name_at names d) h k is)
same-address ps g h n k names names2 (sort.Common d) (sort.Absolute e) det is = absurd (shared-apart (name_at names d) h k is)
same-address ps g h n k names names2 (sort.Common d) (sort.Frame e) det is = absurd (shared-apart (name_at names d) h k is)
same-address ps g h n k names names2 sort.Own (sort.Common d) det is = absurd (shared-apart (name_at names2 d) g n (sym is))
same-address ps g h n k names names2 (sort.Absolute e) (sort.Common d) det is = absurd (shared-apart (name_at names2 d) g n (sym is))
same-address ps g h n k names names2 (sort.Frame e) (sort.Common d) det is = absurd (shared-apart (name_at names2 d) g n (sym is))
same-address ps g h n k names names2 sort.Own sort.Own det is = ap (λ key. start_of key ps) is
same-address ps g h n k names names2 s t det is =
    let a : g ≡ h = private-segment g n h k is in
    let b : n ≡ k = private-family g n h k is in
    let d : (names ≡ names2) × (s ≡ t) = det a b in
    ap₂ (λ y z. family_address ps y names z s) a b ∙ ap₂ (λ y z. family_address ps h y k z) d.0 d.1

module _ (us : List SourceUnit) (x y : StoredItem) (p : Stands us x) (q : Stands us y) where
  same-unit : x.segment ≡ y.segment → p.u ≡ q.u
  same-unit e = same_Some p.u q.u (sym p.unit ∙ ap (slice_get us) e ∙ q.unit)

  same-sort : x.segment ≡ y.segment → family_of p.u p.n ≡ family_of q.u q.n → ((storage_of p.u).names ≡ (storage_of q.u).names) × (x.sort ≡ y.sort)
  same-sort e f =
      let v : p.u ≡ q.u = same-unit e in
      let family : Family = family_at p.u (root_of p.u p.n) p.r.item in
      let family2 : Family = family_at q.u (root_of q.u q.n) q.r.item in
      let is : family ≡ family2 =
      same_Some family family2
      (sym (family_found p.u p.n p.r) ∙ ap₂ (λ w k. slice_get (layout_of w).families k) v f ∙ family_found q.u q.n q.r) in
      (ap (λ w. (storage_of w).names) v, p.sort_is ∙ ap (λ z. z.sort) is ∙ sym q.sort_is)

  same-start : x.family ≡ y.family → x.start ≡ y.start
  same-start e =
      p.start_is
      ∙ same-address (placed_families (map storage_of us)) x.segment y.segment (family_of p.u p.n) (family_of q.u q.n) (storage_of p.u).names (storage_of q.u).names x.sort y.sort
      same-sort
      (sym p.key_is ∙ e ∙ q.key_is)
      ∙ sym q.start_is

  overlaid : x.family ≡ y.family → (a b : ℕ) → a < x.words → b < y.words → (word_of x a ≡ word_of y b) ↔ (x.offset + a ≡ y.offset + b)
  overlaid e a b _ _ =
      let s : x.start ≡ y.start = same-start e in
      (λ h. omega (arith, s, h), λ h. omega (arith, s, h))

-- ---- items of families that are placed

-- an item of a family that the map has placed
record Put (us : List SourceUnit) (x : StoredItem) : Type 0 where
  known : In x.family (first_keys (keys_from 0 (map storage_of us)))
  extent : x.offset + x.words ≤ key_extent (map storage_of us) x.family
  start : x.start ≡ start_of x.family (placed_families (map storage_of us))

data Standing (us : List SourceUnit) (x : StoredItem) : Type 0 where
  is_put : Put us x → Standing us x
  is_absolute : (a : ℕ) → x.sort ≡ sort.Absolute a → Standing us x
  is_in_frame : (o : ℕ) → x.sort ≡ sort.Frame o → Standing us x

module _ (us : List SourceUnit) (x : StoredItem) (p : Stands us x) where
  abbrev the-family : Family
  the-family = family_at p.u (root_of p.u p.n) p.r.item

  abbrev names : List Name
  names = (storage_of p.u).names

  abbrev number : ℕ
  number = family_of p.u p.n

  known-in : (t : Sort) (key : FamilyKey) → x.sort ≡ t → In key (placed_key x.segment names number t) → In key (first_keys (keys_from 0 (map storage_of us)))
  known-in t key e h =
      let at : number ≡ 0 + number = omega arith in
      let seg : x.segment ≡ 0 + x.segment = omega arith in
      let is : t ≡ the-family.sort = sym e ∙ p.sort_is in
      in-first_keys key (keys_from 0 (map storage_of us))
      (key-in 0 (map storage_of us) x.segment (storage_of p.u) key (storage-found us x.segment p.u p.unit)
      (subst (λ g. In key (keys_in_segment g names 0 (storage_of p.u).families)) seg
      (key-in-segment x.segment names 0 (storage_of p.u).families number the-family key (family_found p.u p.n p.r)
      (subst (λ m. In key (placed_key x.segment names m the-family.sort)) at (subst (λ s. In key (placed_key x.segment names number s)) is h)))))

  private-extent : key_extent (map storage_of us) (Private x.segment number) ≡ the-family.extent
  private-extent =
      ap (λ o. extent_in_storage o number) (storage-found us x.segment p.u p.unit) ∙ ap extent_of_family (family_found p.u p.n p.r)

  shared-extent : (d : ℕ) → x.sort ≡ sort.Common d → the-family.extent ≤ key_extent (map storage_of us) (Shared (name_at names d))
  shared-extent d e =
      let here : the-family.extent ≤ extent_in_segment (name_at names d) names (storage_of p.u).families =
      extent-in-segment names (storage_of p.u).families number the-family d (family_found p.u p.n p.r) (sym p.sort_is ∙ e) in
      let all : extent_in_segment (name_at names d) names (storage_of p.u).families ≤ common_extent (name_at names d) (map storage_of us) =
      extent-in (name_at names d) (map storage_of us) x.segment (storage_of p.u) (storage-found us x.segment p.u p.unit) in
      omega (arith, here, all)

  standing : (t : Sort) → x.sort ≡ t → Standing us x
  standing (sort.Common d) e =
      let key : x.family ≡ Shared (name_at names d) = p.key_is ∙ ap (key_of x.segment names number) e in
      is_put
      (record {
        known = subst (λ k. In k (first_keys (keys_from 0 (map storage_of us)))) (sym key) (known-in (sort.Common d) (Shared (name_at names d)) e (inl refl));
        extent = subst (λ k. x.offset + x.words ≤ key_extent (map storage_of us) k) (sym key) (omega (arith, p.extent_in, shared-extent d e));
        start =
            p.start_is ∙ ap (family_address (placed_families (map storage_of us)) x.segment names number) e
            ∙ ap (λ k. start_of k (placed_families (map storage_of us))) (sym key);
      })
  standing sort.Own e =
      let key : x.family ≡ Private x.segment number = p.key_is ∙ ap (key_of x.segment names number) e in
      is_put
      (record {
        known = subst (λ k. In k (first_keys (keys_from 0 (map storage_of us)))) (sym key) (known-in sort.Own (Private x.segment number) e (inl refl));
        extent = subst (λ k. x.offset + x.words ≤ key_extent (map storage_of us) k) (sym key) (omega (arith, p.extent_in, private-extent));
        start =
            p.start_is ∙ ap (family_address (placed_families (map storage_of us)) x.segment names number) e
            ∙ ap (λ k. start_of k (placed_families (map storage_of us))) (sym key);
      })
  standing (sort.Absolute a) e = is_absolute a e
  standing (sort.Frame o) e = is_in_frame o e

  how : Standing us x
  how = standing x.sort refl

  -- the range of an absolute family
  at-number : (a : ℕ) → x.sort ≡ sort.Absolute a → x.start ≡ a
  at-number a e = p.start_is ∙ ap (family_address (placed_families (map storage_of us)) x.segment names number) e

  -- and a family of a frame
  at-offset : (o : ℕ) → x.sort ≡ sort.Frame o → x.start ≡ o
  at-offset o e = p.start_is ∙ ap (family_address (placed_families (map storage_of us)) x.segment names number) e

  abbrev the-range : ℕ → Range
  the-range a = record { start = a; end = a + the-family.extent }

  range-known : (a : ℕ) → x.sort ≡ sort.Absolute a → In (the-range a) (absolute_ranges (map storage_of us))
  range-known a e =
      range-in (map storage_of us) x.segment (storage_of p.u) (the-range a) (storage-found us x.segment p.u p.unit)
      (range-in-segment (storage_of p.u).families number the-family (the-range a) (family_found p.u p.n p.r)
      (subst (λ s. In (the-range a) (absolute_range s the-family.extent)) (sym e ∙ p.sort_is) (inl refl)))

  within-range : (a : ℕ) → x.sort ≡ sort.Absolute a → x.start + (x.offset + x.words) ≤ (the-range a).end
  within-range a e = omega (arith, at-number a e, p.extent_in)

-- ---- the claims

All-in : (P : Range → Type 0) (r : Range) (rs : List Range) → All P rs → In r rs → P r
All-in P r [] h i = absurd i
All-in P r (s ∷ rs) h (inl e) = subst P (sym e) (All-head P s rs h)
All-in P r (s ∷ rs) h (inr i) = All-in P r rs (All-tail P s rs h) i

no-meet : (s n : ℕ) (r : Range) (a b : ℕ) → meets s n r ≡ false → s ≤ a → a < s + n → r.start ≤ b → b < r.end → a ≡ b → ⊥
no-meet s n r a b h i j k l e = omega (arith, ltb-false (max s r.start) (min (s + n) r.end) h, i, j, k, l, e)

not-in-frame : (o : ℕ) (t : Sort) → t ≡ sort.Frame o → ¬ (¬ IsInFrame t)
not-in-frame o t e h = h (subst IsInFrame (sym e) tt)

is-absolute : (a : ℕ) (t : Sort) → t ≡ sort.Absolute a → IsAbsolute t
is-absolute a t e = subst IsAbsolute (sym e) tt

module _ (us : List SourceUnit) where
  apart-put : (x y : StoredItem) → Put us x → Put us y → ¬ (x.family ≡ y.family) → (a b : ℕ) → a < x.words → b < y.words → word_of x a ≡ word_of y b → ⊥
  apart-put x y p q d a b i j e =
      elim (apart (map storage_of us) (absolute_ranges (map storage_of us)) 0 (first_keys (keys_from 0 (map storage_of us))) x.family y.family d p.known q.known) [
        | inl h ↦ omega (arith, h, p.start, q.start, p.extent, q.extent, i, j, e)
        | inr h ↦ omega (arith, h, p.start, q.start, p.extent, q.extent, i, j, e)
      ]

  fits-put : (x : StoredItem) → Put us x → Fits (map storage_of us) (absolute_ranges (map storage_of us)) x.family 0 (placed_families (map storage_of us))
  fits-put x p = fits (map storage_of us) (absolute_ranges (map storage_of us)) 0 (first_keys (keys_from 0 (map storage_of us))) x.family p.known

  apart-absolute : (x y : StoredItem) → Put us x → (q : Stands us y) → (n : ℕ) → y.sort ≡ sort.Absolute n → (a b : ℕ) → a < x.words → b < y.words → word_of x a ≡ word_of y b → ⊥
  apart-absolute x y p q n s a b i j e =
      no-meet (start_of x.family (placed_families (map storage_of us))) (key_extent (map storage_of us) x.family) (the-range us y q n) (word_of x a) (word_of y b)
      ((fits-put x p).clear (the-range us y q n) (range-known us y q n s))
      (omega (arith, p.start))
      (omega (arith, p.start, p.extent, i))
      (omega (arith, at-number us y q n s))
      (omega (arith, within-range us y q n s, j))
      e

  apart-standing : (x y : StoredItem) → Stands us x → Stands us y → Standing us x → Standing us y → ¬ (x.family ≡ y.family) → ¬ IsInFrame x.sort → ¬ IsInFrame y.sort → (a b : ℕ) → a < x.words → b < y.words → word_of x a ≡ word_of y b → IsAbsolute x.sort × IsAbsolute y.sort
  apart-standing x y p q (is_put v) (is_put w) d f g a b i j e = absurd (apart-put x y v w d a b i j e)
  apart-standing x y p q (is_put v) (is_absolute n s) d f g a b i j e = absurd (apart-absolute x y v q n s a b i j e)
  apart-standing x y p q (is_absolute n s) (is_put w) d f g a b i j e = absurd (apart-absolute y x w p n s b a j i (sym e))
  apart-standing x y p q (is_absolute n s) (is_absolute m t) d f g a b i j e = (is-absolute n x.sort s, is-absolute m y.sort t)
  apart-standing x y p q (is_in_frame o s) w d f g a b i j e = absurd (not-in-frame o x.sort s f)
  apart-standing x y p q (is_put v) (is_in_frame o s) d f g a b i j e = absurd (not-in-frame o y.sort s g)
  apart-standing x y p q (is_absolute n t) (is_in_frame o s) d f g a b i j e = absurd (not-in-frame o y.sort s g)

  below : (limits : Limits) → FitsArea us limits → (x : StoredItem) → Stands us x → Standing us x → ¬ IsInFrame x.sort → x.start + (x.offset + x.words) ≤ limits.area - limits.frames
  below limits fit x p (is_put v) f =
      let h : start_of x.family (placed_families (map storage_of us)) + key_extent (map storage_of us) x.family ≤ (storage_map us).end = (fits-put x v).before in
      omega (arith, h, v.start, v.extent, fit.placed)
  below limits fit x p (is_absolute a s) f =
      let h : (the-range us x p a).end + limits.frames ≤ limits.area =
      All-in (λ r. r.end + limits.frames ≤ limits.area) (the-range us x p a) (absolute_ranges (map storage_of us)) fit.absolute (range-known us x p a s) in
      omega (arith, h, within-range us x p a s)
  below limits fit x p (is_in_frame o s) f = absurd (not-in-frame o x.sort s f)

-- ---- frames

frame-home : (u : SourceUnit) (r : ℕ) (owner : Option ℕ) (h : Home) → IsInFrame (sort_of u r owner h) → h ≡ home.Frame
frame-home u r owner (home.Common d) i = absurd i
frame-home u r owner home.Own i = absurd i
frame-home u r owner (home.Absolute a) i = absurd i
frame-home u r owner home.Frame i = refl
frame-home u r owner (home.Over b o) i = absurd i

frame-key : (g n : ℕ) (names : List Name) (t : Sort) → IsInFrame t → key_of g names n t ≡ Private g n
frame-key g n ns (sort.Common d) i = absurd i
frame-key g n ns sort.Own i = absurd i
frame-key g n ns (sort.Absolute a) i = absurd i
frame-key g n ns (sort.Frame o) i = refl

-- the family of an item of a frame
record Framed (us : List SourceUnit) (x : StoredItem) (p : Stands us x) : Type 0 where
  q : ℕ
  is_home : p.r.item.home ≡ home.Frame
  is_owner : p.r.item.owner ≡ Some q
  starts : x.start ≡ frame_words p.u q (take (root_of p.u p.n) p.u.items)

framed : (us : List SourceUnit) → AllStorable us → (x : StoredItem) (p : Stands us x) → IsInFrame x.sort → Framed us x p
framed us ok x p i =
    let is : p.r.item.home ≡ home.Frame = frame-home p.u (root_of p.u p.n) p.r.item.owner p.r.item.home (subst IsInFrame p.sort_is i) in
    let o : (q : ℕ) × (p.r.item.owner ≡ Some q) = (ok x.segment p.u p.unit).frame_owned (root_of p.u p.n) p.r.item p.r.found is in
    record {
      q = o.0;
      is_home = is;
      is_owner = o.1;
      starts =
          p.start_is
          ∙ ap (family_address (placed_families (map storage_of us)) x.segment (storage_of p.u).names (family_of p.u p.n))
          (p.sort_is ∙ ap₂ (λ w h. sort_of p.u (root_of p.u p.n) w h) o.1 is);
    }

in-frame : (us : List SourceUnit) → AllStorable us → (x : StoredItem) (p : Stands us x) → IsInFrame x.sort → x.start + (x.offset + x.words) ≤ frame_size_in us x.segment x.frame
in-frame us ok x p i =
    let f : Framed us x p = framed us ok x p i in
    let size : frame_size_in us x.segment x.frame ≡ frame_size p.u f.q =
    ap (frame_size_in us x.segment) (p.frame_is ∙ f.is_owner) ∙ ap (λ o. elim o [ None ↦ 0 | Some u ↦ frame_size u f.q ]) p.unit in
    omega (arith, size, f.starts, p.extent_in, inside_frame p.u f.q (root_of p.u p.n) p.r.item p.r.found f.is_home f.is_owner)

ordered : (u v : SourceUnit) → u ≡ v → (q k m : ℕ) (i : Item) → k < m → slice_get u.items k ≡ Some i → i.home ≡ home.Frame → i.owner ≡ Some q → frame_words u q (take k u.items) + family_extent u k ≤ frame_words v q (take m v.items)
ordered u v e q k m i b found h o =
    subst (λ w. frame_words u q (take k u.items) + family_extent u k ≤ frame_words w q (take m w.items)) e (past_in_frame u q k m i b found h o)

frame-order : (us : List SourceUnit) → (x y : StoredItem) (p : Stands us x) (r : Stands us y) → (f : Framed us x p) (g : Framed us y r) → x.segment ≡ y.segment → f.q ≡ g.q → root_of p.u p.n < root_of r.u r.n → x.start + (x.offset + x.words) ≤ y.start
frame-order us x y p r f g e same b =
    let h : frame_words p.u g.q (take (root_of p.u p.n) p.u.items) + family_extent p.u (root_of p.u p.n) ≤ frame_words r.u g.q (take (root_of r.u r.n) r.u.items) =
    ordered p.u r.u (same-unit us x y p r e) g.q (root_of p.u p.n) (root_of r.u r.n) p.r.item b p.r.found f.is_home (f.is_owner ∙ ap Some same) in
    let s : x.start ≡ frame_words p.u g.q (take (root_of p.u p.n) p.u.items) = f.starts ∙ ap (λ q. frame_words p.u q (take (root_of p.u p.n) p.u.items)) same in
    omega (arith, h, s, g.starts, p.extent_in)

frame-apart : (us : List SourceUnit) → AllStorable us → (x y : StoredItem) → Stands us x → Stands us y → ¬ (x.family ≡ y.family) → IsInFrame x.sort → IsInFrame y.sort → x.segment ≡ y.segment → x.frame ≡ y.frame → (a b : ℕ) → a < x.words → b < y.words → word_of x a ≡ word_of y b → ⊥
frame-apart us ok x y p r d i j e f a b k l same =
    let fx : Framed us x p = framed us ok x p i in
    let fy : Framed us y r = framed us ok y r j in
    let owner : fx.q ≡ fy.q = same_Some fx.q fy.q (sym fx.is_owner ∙ sym p.frame_is ∙ f ∙ r.frame_is ∙ fy.is_owner) in
    let unit : p.u ≡ r.u = same-unit us x y p r e in
    let number : root_of p.u p.n ≡ root_of r.u r.n → x.family ≡ y.family =
    λ h.
    p.key_is ∙ frame-key x.segment (family_of p.u p.n) (storage_of p.u).names x.sort i
    ∙ ap₂ (λ g n. Private g n) e (ap₂ (λ u m. roots_in u (take m u.items)) unit h)
    ∙ sym (r.key_is ∙ frame-key y.segment (family_of r.u r.n) (storage_of r.u).names y.sort j) in
    elim (cases_Bool (nat_lt (root_of p.u p.n) (root_of r.u r.n))) [
      | inl t ↦ omega (arith, frame-order us x y p r fx fy e owner (ltb-true (root_of p.u p.n) (root_of r.u r.n) t), same, k)
      | inr t ↦ elim (cases_Bool (nat_lt (root_of r.u r.n) (root_of p.u p.n))) [
        | inl v ↦ omega (arith, frame-order us y x r p fy fx (sym e) (sym owner) (ltb-true (root_of r.u r.n) (root_of p.u p.n) v), same, l)
        | inr v ↦ absurd (d (number (omega (arith, ltb-false (root_of p.u p.n) (root_of r.u r.n) t, ltb-false (root_of r.u r.n) (root_of p.u p.n) v))))
      ]
    ]

pub valid-map : (us : List SourceUnit) (limits : Limits) → ((g : ℕ) (u : SourceUnit) → slice_get us g ≡ Some u → IsStorable u) → FitsArea us limits → ValidStorageMap us limits (storage_map us)
valid-map us limits ok fit =
    record {
      pairs = λ x y h g.
          let p : Stands us x = stands us ok x h in
          let q : Stands us y = stands us ok y g in
          record {
            overlaid = overlaid us x y p q;
            apart = apart-standing us x y p q (how us x p) (how us y q);
            apart_in_frame = frame-apart us ok x y p q;
          };
      each = λ x h.
          let p : Stands us x = stands us ok x h in
          record { below_frames = below us limits fit x p (how us x p); at_number = at-number us x p; at_offset = at-offset us x p; inside_frame = in-frame us ok x p };
    }
