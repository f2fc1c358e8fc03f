-- The layout and the map of a unit whose items are single words of its own.
use Rattle.std.proofs.Common.{◌≡◌, ◌≢◌, ℕ, zero, suc, ◌+◌, ◌<◌, ◌≤◌, max, List, [], ◌∷◌, ◌++◌, map, length, take, replicate, true, false, ◌&&◌, cond, nat_eq, Some, None, is_none, All, slice_get, refl, sym, ap, ap₂, ◌∙◌, arith, length-take-le, inl, inr, subst, true≢false, append-nil}
use Rattle.std.proofs.lemmas.List.Elements.{All-head, All-tail, All-take, All-nil}
use Rattle.std.proofs.lemmas.Option.{none-some, same_Some}
use Rattle.std.proofs.lemmas.Bool.{eq-eqb, eqb-true}
use Rattle.std.proofs.lemmas.Bool.Decides.{eqb_tells}
use Rattle.cw_unit.specs.declared.unit.Unit.{Unit as SourceUnit}
use Rattle.cw_unit.specs.declared.unit.Item.{Item}
use Rattle.cw_unit.specs.declared.unit.Proc.{Proc}
use Rattle.cw_unit.specs.declared.unit.Home.TheVariants as home
use Rattle.cw_unit.specs.declared.layout.Family.{Family}
use Rattle.cw_unit.specs.declared.layout.Layout.{Layout}
use Rattle.cw_unit.specs.declared.layout.Preset.{Preset}
use Rattle.cw_unit.specs.Storage.{base_of_home, base_of_item, base_of, root_within, offset_within, root_of, family_offset, extent_from, family_extent, roots_in, family_of, is_frame_home, is_owner, frame_words_from, frame_sizes_from, family_at, families_from, positions_from, presets_from, preset_at, layout_of, sort_of}
use Rattle.cw_unit.specs.OwnSingles.{IsOwnSingle, numbers_from, own_word, own_layout, own_map}
use Rattle.cw_unit.specs.declared.layout.Map.{Map}
use Rattle.cw_unit.specs.declared.layout.Limits.{Limits}
use Rattle.cw_unit.specs.ValidStorage.{IsStorable, FitsArea, ValidStorageMap}
use Rattle.cw_unit.proofs.ValidMap.{valid-map}
use Rattle.cw_unit.specs.Allocation.{Name, FamilyKey, Private, SegmentStorage, storage_of, keys_in_segment, absolute_ranges_in, is_same_key, without, first_keys, Placed, extent_of_family, placed_from, last_end_of, start_of, addresses_from, placed_families, map_of, storage_map}

abbrev pub AllSingle : List Item → Type 0
AllSingle is = All IsOwnSingle is

single-base : (u : SourceUnit) (i : Item) → IsOwnSingle i → base_of_home u i.home ≡ None
single-base u i h = ap (base_of_home u) h.own

item-base : (u : SourceUnit) (is : List Item) (n : ℕ) → AllSingle is → base_of_item u (slice_get is n) ≡ None
item-base u [] n h = refl
item-base u (i ∷ is) zero h = single-base u i (All-head IsOwnSingle i is h)
item-base u (i ∷ is) (suc n) h = item-base u is n (All-tail IsOwnSingle i is h)

no-root : (n : ℕ) (u : SourceUnit) (i : ℕ) → base_of u i ≡ None → root_within n u i ≡ i
no-root zero u i h = refl
no-root (suc n) u i h = ap (λ b. elim b [ None ↦ i | Some c ↦ root_within n u c.0 ]) h

no-offset : (n : ℕ) (u : SourceUnit) (i : ℕ) → base_of u i ≡ None → offset_within n u i ≡ 0
no-offset zero u i h = refl
no-offset (suc n) u i h = ap (λ b. elim b [ None ↦ 0 | Some c ↦ c.1 + offset_within n u c.0 ]) h

-- the unit's items are all single words of its own
module _ (u : SourceUnit) (all : AllSingle u.items) where
  pub own-root : (n : ℕ) → root_of u n ≡ n
  own-root n = no-root n u n (item-base u u.items n all)

  pub own-offset : (n : ℕ) → family_offset u n ≡ 0
  own-offset n = no-offset n u n (item-base u u.items n all)

  pub own-roots : (is : List Item) → AllSingle is → roots_in u is ≡ length is
  own-roots [] h = refl
  own-roots (i ∷ is) h =
      ap₂ (λ b n. cond (is_none b) 1 0 + n) (single-base u i (All-head IsOwnSingle i is h)) (own-roots is (All-tail IsOwnSingle i is h)) ∙ omega arith

  part-one : (n : ℕ) (i : Item) → IsOwnSingle i → cond (nat_eq (root_of u n) n) (family_offset u n + i.words) 0 ≡ 1
  part-one n i h =
      ap (λ b. cond b (family_offset u n + i.words) 0) (eq-eqb (root_of u n) n (own-root n)) ∙ ap₂ (λ x y. x + y) (own-offset n) h.single

  part-none : (n r : ℕ) (i : Item) → n ≢ r → cond (nat_eq (root_of u n) r) (family_offset u n + i.words) 0 ≡ 0
  part-none n r i h = rw (own-root n) (grind (arith, eqb-true))

  pub no-extent : (n r : ℕ) (is : List Item) → r < n → extent_from n u r is ≡ 0
  no-extent n r [] h = refl
  no-extent n r (i ∷ is) h = ap₂ max (part-none n r i (omega (arith, h))) (no-extent (n + 1) r is (omega (arith, h)))

  pub one-extent : (n r : ℕ) (is : List Item) → AllSingle is → n ≤ r → r < n + length is → extent_from n u r is ≡ 1
  one-extent n r [] h a b = absurd (omega (arith, a, b))
  one-extent n r (i ∷ is) h a b =
      let first : IsOwnSingle i = All-head IsOwnSingle i is h in
      let rest : AllSingle is = All-tail IsOwnSingle i is h in
      elim (eqb_tells n r) [
        | inl e ↦ rw (sym e.1) (ap₂ max (part-one n i first) (no-extent (n + 1) n is (omega arith)))
        | inr e ↦ ap₂ max (part-none n r i e.1) (one-extent (n + 1) r is rest (omega (arith, a, e.1)) (omega (arith, b)))
      ]

  pub own-family : (n : ℕ) (i : Item) → IsOwnSingle i → n < length u.items → family_at u n i ≡ own_word
  own-family n i h b =
      ap₂ {C = Family} (λ s e. record { sort = s; extent = e }) (ap (sort_of u n i.owner) h.own) (one-extent 0 n u.items all (omega arith) (omega (arith, b)))

  pub own-families : (n : ℕ) (is : List Item) → AllSingle is → n + length is ≤ length u.items → families_from n u is ≡ replicate (length is) own_word
  own-families n [] h b = refl
  own-families n (i ∷ is) h b =
      let first : IsOwnSingle i = All-head IsOwnSingle i is h in
      let rest : AllSingle is = All-tail IsOwnSingle i is h in
      ap (λ c. cond (is_none c) (family_at u n i ∷ families_from (n + 1) u is) (families_from (n + 1) u is)) (single-base u i first)
      ∙ ap₂ (λ f fs. f ∷ fs) (own-family n i first (omega (arith, b))) (own-families (n + 1) is rest (omega (arith, b)))

  pub own-number : (n : ℕ) → n ≤ length u.items → family_of u n ≡ n
  own-number n b = rw (own-root n) (own-roots (take n u.items) (All-take IsOwnSingle n u.items all) ∙ length-take-le n u.items b)

  pub own-positions : (n : ℕ) (is : List Item) → n + length is ≤ length u.items → positions_from n u is ≡ map (λ k. (k, 0)) (numbers_from n (length is))
  own-positions n [] b = refl
  own-positions n (i ∷ is) b =
      ap₂ (λ f fs. f ∷ fs) (ap₂ {C = ℕ × ℕ} (λ f o. (f, o)) (own-number n (omega (arith, b))) (own-offset n)) (own-positions (n + 1) is (omega (arith, b)))

  pub no-frame : (n q : ℕ) (is : List Item) → AllSingle is → frame_words_from n u q is ≡ 0
  no-frame n q [] h = refl
  no-frame n q (i ∷ is) h =
      ap₂ (λ b m. cond (b && is_owner q i.owner) (family_extent u n) 0 + m) (ap is_frame_home (All-head IsOwnSingle i is h).own)
      (no-frame (n + 1) q is (All-tail IsOwnSingle i is h))

  pub no-frames : (q : ℕ) (ps : List Proc) → frame_sizes_from q u ps ≡ replicate (length ps) 0
  no-frames q [] = refl
  no-frames q (p ∷ ps) = ap₂ (λ n ns. n ∷ ns) (no-frame 0 q u.items all) (no-frames (q + 1) ps)

  pub no-presets : (n : ℕ) (is : List Item) → AllSingle is → presets_from n u is ≡ []
  no-presets n [] h = refl
  no-presets n (i ∷ is) h =
      ap₂ {C = List Preset} (λ xs ys. map (preset_at u n) xs ++ ys) (All-head IsOwnSingle i is h).unfilled (no-presets (n + 1) is (All-tail IsOwnSingle i is h))

pub own-layout : (u : SourceUnit) → AllSingle u.items → layout_of u ≡ own_layout (length u.items) (length u.procs)
own-layout u all =
    let make : List Family → List (ℕ × ℕ) → List ℕ → List Preset → Layout =
    λ f h s w. record { families = f; homes = h; frames = s; words = w } in
    ap₂ {C = Layout} (λ f h. make f h (frame_sizes_from 0 u u.procs) (presets_from 0 u u.items)) (own-families u all 0 u.items all (omega arith))
    (own-positions u all 0 u.items (omega arith))
    ∙ ap₂ {C = Layout} (λ s w. make (replicate (length u.items) own_word) (map (λ k. (k, 0)) (numbers_from 0 (length u.items))) s w)
    (no-frames u all 0 u.procs)
    (no-presets u all 0 u.items all)

-- ---- the map

privates : (n count : ℕ) → List FamilyKey
privates n zero = []
privates n (suc k) = Private 0 n ∷ privates (n + 1) k

own-keys : (names : List Name) (n k : ℕ) → keys_in_segment 0 names n (replicate k own_word) ≡ privates n k
unfolding privates
own-keys names n zero = refl
own-keys names n (suc k) = ap (λ ks. Private 0 n ∷ ks) (own-keys names (n + 1) k)

no-ranges : (k : ℕ) → absolute_ranges_in (replicate k own_word) ≡ []
no-ranges zero = refl
no-ranges (suc k) = no-ranges k

other-key : (j n : ℕ) → j ≢ n → is_same_key (Private 0 j) (Private 0 n) ≡ false
other-key j n h = grind (arith, eqb-true)

own-without : (j n k : ℕ) → j < n → without (Private 0 j) (privates n k) ≡ privates n k
unfolding privates
own-without j n zero h = refl
own-without j n (suc k) h =
    ap (λ b. cond b (without (Private 0 j) (privates (n + 1) k)) (Private 0 n ∷ without (Private 0 j) (privates (n + 1) k))) (other-key j n (omega (arith, h)))
    ∙ ap (λ ks. Private 0 n ∷ ks) (own-without j (n + 1) k (omega (arith, h)))

own-first_keys : (n k : ℕ) → first_keys (privates n k) ≡ privates n k
unfolding privates
own-first_keys n zero = refl
own-first_keys n (suc k) =
    ap (λ ks. Private 0 n ∷ without (Private 0 n) ks) (own-first_keys (n + 1) k)
    ∙ ap (λ ks. Private 0 n ∷ ks) (own-without n (n + 1) k (omega arith))

own_places : (n count : ℕ) → List Placed
own_places n zero = []
own_places n (suc k) = record { key = Private 0 n; start = n; extent = 1 } ∷ own_places (n + 1) k

own-extent : (n k : ℕ) → n < k → extent_of_family (slice_get (replicate k own_word) n) ≡ 1
own-extent n zero h = absurd (omega (arith, h))
own-extent zero (suc k) h = refl
own-extent (suc n) (suc k) h = own-extent n k (omega (arith, h))

own-placed : (s : SegmentStorage) (m n k : ℕ) → s.families ≡ replicate m own_word → n + k ≤ m → placed_from (s ∷ []) [] n (privates n k) ≡ own_places n k
unfolding privates own_places
own-placed s m n zero e h = refl
own-placed s m n (suc k) e h =
    let one : extent_of_family (slice_get s.families n) ≡ 1 = ap (λ fs. extent_of_family (slice_get fs n)) e ∙ own-extent n m (omega (arith, h)) in
    ap (λ x. record { key = Private 0 n; start = n; extent = x } ∷ placed_from (s ∷ []) [] (n + x) (privates (n + 1) k)) one
    ∙ ap (λ ps. record { key = Private 0 n; start = n; extent = 1 } ∷ ps) (own-placed s m (n + 1) k e (omega (arith, h)))

own-end : (n k : ℕ) → last_end_of n (own_places n k) ≡ n + k
unfolding own_places
own-end n zero = omega arith
own-end n (suc k) = own-end (n + 1) k ∙ omega arith

same-key : (j n : ℕ) → j ≡ n → is_same_key (Private 0 j) (Private 0 n) ≡ true
same-key j n h = eq-eqb j n h

own-start : (n k j : ℕ) → n ≤ j → j < n + k → start_of (Private 0 j) (own_places n k) ≡ j
unfolding own_places
own-start n zero j a b = absurd (omega (arith, a, b))
own-start n (suc k) j a b =
    elim (eqb_tells j n) [
      | inl e ↦ ap (λ c. cond c n (start_of (Private 0 j) (own_places (n + 1) k))) (same-key j n e.1) ∙ sym e.1
      | inr e ↦ ap (λ c. cond c n (start_of (Private 0 j) (own_places (n + 1) k))) (other-key j n e.1)
          ∙ own-start (n + 1) k j (omega (arith, a, e.1)) (omega (arith, b))
    ]

own-addresses : (names : List Name) (m n k : ℕ) → n + k ≤ m → addresses_from (own_places 0 m) 0 names n (replicate k own_word) ≡ numbers_from n k
own-addresses names m n zero h = refl
own-addresses names m n (suc k) h =
    ap₂ (λ x xs. x ∷ xs) (own-start 0 m n (omega arith) (omega (arith, h))) (own-addresses names m (n + 1) k (omega (arith, h)))

pub own-map_of : (s : SegmentStorage) (m : ℕ) → s.families ≡ replicate m own_word → map_of (s ∷ []) ≡ own_map m
own-map_of s m e =
    let placed : placed_families (s ∷ []) ≡ own_places 0 m =
    ap₂ (λ rs ks. placed_from (s ∷ []) (rs ++ []) 0 (first_keys (ks ++ []))) (ap absolute_ranges_in e ∙ no-ranges m)
    (ap (keys_in_segment 0 s.names 0) e ∙ own-keys s.names 0 m)
    ∙ ap (λ ks. placed_from (s ∷ []) [] 0 (first_keys ks)) (append-nil (privates 0 m))
    ∙ ap (placed_from (s ∷ []) [] 0) (own-first_keys 0 m)
    ∙ own-placed s m 0 m e (omega arith) in
    ap₂ {C = Map} (λ ps fs. record { homes = addresses_from ps 0 s.names 0 fs ∷ []; end = last_end_of 0 ps }) placed e
    ∙ ap₂ {C = Map} (λ xs n. record { homes = xs ∷ []; end = n }) (own-addresses s.names m 0 m (omega arith)) (own-end 0 m ∙ omega arith)

pub own-storage_map : (u : SourceUnit) → AllSingle u.items → storage_map (u ∷ []) ≡ own_map (length u.items)
own-storage_map u all = own-map_of (storage_of u) (length u.items) (ap (λ l. l.families) (own-layout u all))

-- ---- the map is valid

not-frame : home.Own ≡ home.Frame → ⊥
not-frame h = true≢false (sym (ap is_frame_home h))

own-at : (is : List Item) (n : ℕ) (i : Item) → AllSingle is → slice_get is n ≡ Some i → IsOwnSingle i
own-at [] n i h e = absurd (none-some i e)
own-at (j ∷ is) zero i h e = subst IsOwnSingle (same_Some j i e) (All-head IsOwnSingle j is h)
own-at (j ∷ is) (suc n) i h e = own-at is n i (All-tail IsOwnSingle j is h) e

own-storable : (u : SourceUnit) → AllSingle u.items → IsStorable u
own-storable u all =
    record {
      base_before = λ n b e. absurd (none-some b (sym (item-base u u.items n all) ∙ e));
      frame_owned = λ n i e h. absurd (not-frame (sym (own-at u.items n i all e).own ∙ h));
    }

the-one : (u : SourceUnit) → AllSingle u.items → (g : ℕ) (v : SourceUnit) → slice_get (u ∷ []) g ≡ Some v → IsStorable v
the-one u all zero v e = subst IsStorable (same_Some u v e) (own-storable u all)
the-one u all (suc g) v e = absurd (none-some v e)

own-fits : (u : SourceUnit) (limits : Limits) → AllSingle u.items → length u.items + limits.frames ≤ limits.area → FitsArea (u ∷ []) limits
own-fits u limits all h =
    record {
      placed = subst (λ m. m.end + limits.frames ≤ limits.area) (sym (own-storage_map u all)) h;
      absolute =
          subst (All (λ r. r.end + limits.frames ≤ limits.area))
          (sym (ap (λ l. absolute_ranges_in l.families ++ []) (own-layout u all) ∙ ap (λ rs. rs ++ []) (no-ranges (length u.items))))
          (All-nil (λ r. r.end + limits.frames ≤ limits.area));
    }

pub own-valid : (u : SourceUnit) (limits : Limits) → AllSingle u.items → length u.items + limits.frames ≤ limits.area → ValidStorageMap (u ∷ []) limits (storage_map (u ∷ []))
own-valid u limits all h = valid-map (u ∷ []) limits (λ g v e. the-one u all g v e) (own-fits u limits all h)
