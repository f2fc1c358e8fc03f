-- Families that are placed stay where they are while others are placed.
use Rattle.std.proofs.Common.{◌≡◌, ℕ, ◌+◌, ◌≤◌, List, [], ◌∷◌, ◌++◌, length, take, Some, slice_get, refl, sym, ap, ap₂, subst, ◌∙◌, arith, inl, take_all}
use Rattle.cw_unit.specs.declared.layout.Family.{Family}
use Rattle.cw_unit.specs.declared.layout.Sort.{Sort}
use Rattle.cw_unit.specs.declared.layout.Sort.TheVariants as sort
use Rattle.cw_unit.specs.Allocation.{Name, name_at, FamilyKey, Shared, Private, SegmentStorage, Range, absolute_ranges, key_extent, first_fit, map_of, first_keys, Placed, placed_from, last_end_of, placed_families, start_of, placed_key, keys_in_segment, keys_from, family_address, addresses_from, homes_from}
use Rattle.cw_unit.specs.declared.layout.Map.{Map}
use Rattle.cw_unit.proofs.FirstFit.{first_fit-after}
use Rattle.cw_unit.proofs.Placing.{In, in-left, in-right, in-first_keys}
use Rattle.cw_comm.specs.declared.face.Agreed.{Agreed}
use Rattle.cw_place.specs.declared.space.Space.{Space}
use Rattle.cw_place.specs.Segments.{names_of, segment_storage}
use Rattle.cw_place.specs.Placing.{keys_of_some, keys_before, placed_by, placed_before, told_address, told, start_if_placed}
use Rattle.cw_place.proofs.Keys.{others, first_append, next_family, next_whole, whole_before, from_end, taken, count}
use Rattle.cw_place.proofs.Numbers.{storage_read, storage_length}
use Rattle.cw_place.proofs.Placed.{placed_append, told_append, found_first, start_found, there}

module _ (ss : List SegmentStorage) (ks more : List FamilyKey) where
  start-kept : (key : FamilyKey) → In key ks → start_of key (told (placed_by ss (ks ++ more))) ≡ start_of key (told (placed_by ss ks))
  start-kept key h =
      let rs = absolute_ranges ss in
      let ps = placed_by ss ks in
      let qs = placed_from ss rs (last_end_of 0 ps) (others ks (first_keys more)) in
      let found = there ss rs 0 (first_keys ks) key (in-first_keys key ks h) in
      let grown : placed_by ss (ks ++ more) ≡ ps ++ qs = ap (placed_from ss rs 0) (first_append ks more) ∙ placed_append ss rs 0 (first_keys ks) (others ks (first_keys more)) in
      let still : start_if_placed key (told (placed_by ss (ks ++ more))) ≡ Some found.0 = ap (λ xs. start_if_placed key (told xs)) grown ∙ ap (start_if_placed key) (told_append ps qs) ∙ found_first key (told ps) (told qs) found.0 found.1 in
      sym (start_found key (told (placed_by ss (ks ++ more))) found.0 still) ∙ start_found key (told ps) found.0 found.1

  address-kept : (g : ℕ) (names : List Name) (n : ℕ) (s : Sort) → ((key : FamilyKey) → In key (placed_key g names n s) → In key ks) → family_address (told (placed_by ss (ks ++ more))) g names n s ≡ family_address (told (placed_by ss ks)) g names n s
  address-kept g names n (sort.Common d) h = start-kept (Shared (name_at names d)) (h _ (inl refl))
  address-kept g names n sort.Own h = start-kept (Private g n) (h _ (inl refl))
  address-kept g names n (sort.Absolute a) h = refl
  address-kept g names n (sort.Frame o) h = refl

  pub addresses_kept : (g : ℕ) (names : List Name) (n : ℕ) (fs : List Family) → ((key : FamilyKey) → In key (keys_in_segment g names n fs) → In key ks) → addresses_from (told (placed_by ss (ks ++ more))) g names n fs ≡ addresses_from (told (placed_by ss ks)) g names n fs
  addresses_kept g names n [] h = refl
  addresses_kept g names n (f ∷ fs) h =
      ap₂ (λ a as_. a ∷ as_) (address-kept g names n f.sort (λ key i. h key (in-left key (placed_key g names n f.sort) (keys_in_segment g names (n + 1) fs) i)))
      (addresses_kept g names (n + 1) fs (λ key i. h key (in-right key (placed_key g names n f.sort) (keys_in_segment g names (n + 1) fs) i)))

  pub homes_kept : (g : ℕ) (ts : List SegmentStorage) → ((key : FamilyKey) → In key (keys_from g ts) → In key ks) → homes_from (told (placed_by ss (ks ++ more))) g ts ≡ homes_from (told (placed_by ss ks)) g ts
  homes_kept g [] h = refl
  homes_kept g (t ∷ ts) h =
      ap₂ (λ a as_. a ∷ as_) (addresses_kept g t.names 0 t.families (λ key i. h key (in-left key (keys_in_segment g t.names 0 t.families) (keys_from (g + 1) ts) i)))
      (homes_kept (g + 1) ts (λ key i. h key (in-right key (keys_in_segment g t.names 0 t.families) (keys_from (g + 1) ts) i)))

-- ---- the addresses of one family more

addresses-end : (ps : List Placed) (g : ℕ) (names : List Name) (n : ℕ) (fs : List Family) (f : Family) → addresses_from ps g names n (fs ++ f ∷ []) ≡ addresses_from ps g names n fs ++ family_address ps g names (n + length fs) f.sort ∷ []
addresses-end ps g names n [] f = let e : n ≡ n + 0 = omega arith in ap (λ m. family_address ps g names m f.sort ∷ []) e
addresses-end ps g names n (j ∷ fs) f =
    let e : n + 1 + length fs ≡ n + length (j ∷ fs) = omega arith in
    ap (λ as_. family_address ps g names n j.sort ∷ as_) (addresses-end ps g names (n + 1) fs f ∙ ap (λ m. addresses_from ps g names (n + 1) fs ++ family_address ps g names m f.sort ∷ []) e)

pub next_address : (agreed : Agreed) (spaces : List Space) (g n : ℕ) (s : Space) (f : Family) (homes : List ℕ) (a : ℕ) → slice_get spaces g ≡ Some s → slice_get s.families n ≡ Some f
    → homes ≡ addresses_from (told (placed_before agreed spaces g n)) g (names_of agreed g) 0 (take n s.families) → a ≡ family_address (told (placed_before agreed spaces g (n + 1))) g (names_of agreed g) n f.sort
    → homes ++ a ∷ [] ≡ addresses_from (told (placed_before agreed spaces g (n + 1))) g (names_of agreed g) 0 (take (n + 1) s.families)
next_address agreed spaces g n s f homes a is at h e =
    let ss = segment_storage agreed spaces in
    let names = names_of agreed g in
    let t : SegmentStorage = record { names = names; families = s.families } in
    let found : slice_get ss g ≡ Some t = storage_read agreed spaces g s is in
    let ks = keys_before ss g n in
    let more = placed_key g names n f.sort in
    let grown : keys_before ss g (n + 1) ≡ ks ++ more = next_family ss g n t f found at in
    let mine : (key : FamilyKey) → In key (keys_in_segment g names 0 (take n s.families)) → In key ks =
    λ key i. in-right key (keys_from 0 (take g ss)) (keys_of_some g n (slice_get ss g)) (subst (λ o. In key (keys_of_some g n o)) (sym found) i) in
    let kept = addresses_kept ss ks more g names 0 (take n s.families) mine in
    let now = told (placed_before agreed spaces g (n + 1)) in
    let same : now ≡ told (placed_by ss (ks ++ more)) = ap (λ js. told (placed_by ss js)) grown in
    ap₂ (λ as_ b. as_ ++ b ∷ []) (h ∙ sym kept ∙ ap (λ ps. addresses_from ps g names 0 (take n s.families)) (sym same)) (e ∙ ap (λ m. family_address now g names m f.sort) (sym (count s.families n f at)))
    ∙ sym (addresses-end now g names 0 (take n s.families) f) ∙ ap (addresses_from now g names 0) (sym (taken s.families n f at))

-- all of a segment
pub all_addresses : (agreed : Agreed) (spaces : List Space) (g n : ℕ) (s : Space) (homes : List ℕ) → slice_get spaces g ≡ Some s → length s.families ≤ n
    → homes ≡ addresses_from (told (placed_before agreed spaces g n)) g (names_of agreed g) 0 (take n s.families) → homes ≡ addresses_from (told (placed_before agreed spaces (g + 1) 0)) g (names_of agreed g) 0 s.families
all_addresses agreed spaces g n s homes is le h =
    h ∙ ap (λ ks. addresses_from (told (placed_by (segment_storage agreed spaces) ks)) g (names_of agreed g) 0 (take n s.families)) (next_whole (segment_storage agreed spaces) g n _ (storage_read agreed spaces g s is) le)
    ∙ ap (addresses_from (told (placed_before agreed spaces (g + 1) 0)) g (names_of agreed g) 0) (take_all n s.families le)

pub all_placed : (agreed : Agreed) (spaces : List Space) (g n : ℕ) (s : Space) → slice_get spaces g ≡ Some s → length s.families ≤ n → placed_before agreed spaces g n ≡ placed_before agreed spaces (g + 1) 0
all_placed agreed spaces g n s is le = ap (placed_by (segment_storage agreed spaces)) (next_whole (segment_storage agreed spaces) g n _ (storage_read agreed spaces g s is) le)

-- ---- the addresses of one segment more

homes-end : (ps : List Placed) (g : ℕ) (ts : List SegmentStorage) (t : SegmentStorage) → homes_from ps g (ts ++ t ∷ []) ≡ homes_from ps g ts ++ addresses_from ps (g + length ts) t.names 0 t.families ∷ []
homes-end ps g [] t = let e : g ≡ g + 0 = omega arith in ap (λ m. addresses_from ps m t.names 0 t.families ∷ []) e
homes-end ps g (j ∷ ts) t =
    let e : g + 1 + length ts ≡ g + length (j ∷ ts) = omega arith in
    ap (λ as_. addresses_from ps g j.names 0 j.families ∷ as_) (homes-end ps (g + 1) ts t ∙ ap (λ m. homes_from ps (g + 1) ts ++ addresses_from ps m t.names 0 t.families ∷ []) e)

pub next_homes : (agreed : Agreed) (spaces : List Space) (g : ℕ) (s : Space) (homes : List (List ℕ)) (a : List ℕ) → slice_get spaces g ≡ Some s
    → homes ≡ homes_from (told (placed_before agreed spaces g 0)) 0 (take g (segment_storage agreed spaces)) → a ≡ addresses_from (told (placed_before agreed spaces (g + 1) 0)) g (names_of agreed g) 0 s.families
    → homes ++ a ∷ [] ≡ homes_from (told (placed_before agreed spaces (g + 1) 0)) 0 (take (g + 1) (segment_storage agreed spaces))
next_homes agreed spaces g s homes a is h e =
    let ss = segment_storage agreed spaces in
    let t : SegmentStorage = record { names = names_of agreed g; families = s.families } in
    let found : slice_get ss g ≡ Some t = storage_read agreed spaces g s is in
    let ks = keys_from 0 (take g ss) in
    let more = keys_in_segment (0 + length (take g ss)) t.names 0 t.families in
    let first : keys_before ss g 0 ≡ ks = whole_before ss g in
    let grown : keys_before ss (g + 1) 0 ≡ ks ++ more = whole_before ss (g + 1) ∙ ap (keys_from 0) (taken ss g t found) ∙ from_end 0 (take g ss) t in
    let now = told (placed_before agreed spaces (g + 1) 0) in
    let same : now ≡ told (placed_by ss (ks ++ more)) = ap (λ js. told (placed_by ss js)) grown in
    let kept = homes_kept ss ks more 0 (take g ss) (λ key i. i) in
    ap₂ (λ as_ b. as_ ++ b ∷ []) (h ∙ ap (λ js. homes_from (told (placed_by ss js)) 0 (take g ss)) first ∙ sym kept ∙ ap (λ ps. homes_from ps 0 (take g ss)) (sym same)) (e ∙ ap (λ m. addresses_from now m t.names 0 t.families) (sym (count ss g t found)))
    ∙ sym (homes-end now 0 (take g ss) t) ∙ ap (homes_from now 0) (sym (taken ss g t found))

-- all segments
pub all_before : (agreed : Agreed) (spaces : List Space) (g : ℕ) → length spaces ≤ g → placed_before agreed spaces g 0 ≡ placed_families (segment_storage agreed spaces)
all_before agreed spaces g le =
    let ss = segment_storage agreed spaces in
    ap (placed_by ss) (whole_before ss g ∙ ap (keys_from 0) (take_all g ss (omega (arith, le, storage_length 0 agreed spaces))))

pub all_homes : (agreed : Agreed) (spaces : List Space) (g : ℕ) (homes : List (List ℕ)) → length spaces ≤ g → homes ≡ homes_from (told (placed_before agreed spaces g 0)) 0 (take g (segment_storage agreed spaces)) → homes ≡ homes_from (told (placed_families (segment_storage agreed spaces))) 0 (segment_storage agreed spaces)
all_homes agreed spaces g homes le h =
    let ss = segment_storage agreed spaces in
    h ∙ ap₂ (λ ps ts. homes_from (told ps) 0 ts) (all_before agreed spaces g le) (take_all g ss (omega (arith, le, storage_length 0 agreed spaces)))

-- ---- starts that are told whole

last-after : (ss : List SegmentStorage) (rs : List Range) (e : ℕ) (ks : List FamilyKey) → e ≤ last_end_of e (placed_from ss rs e ks)
last-after ss rs e [] = omega arith
last-after ss rs e (k ∷ ks) = omega (arith, first_fit-after rs (key_extent ss k) e, last-after ss rs (first_fit rs (key_extent ss k) e + key_extent ss k) ks)

told-same : (ss : List SegmentStorage) (rs : List Range) (e : ℕ) (ks : List FamilyKey) → last_end_of e (placed_from ss rs e ks) ≤ 65535 → told (placed_from ss rs e ks) ≡ placed_from ss rs e ks
told-same ss rs e [] h = refl
told-same ss rs e (k ∷ ks) h =
    let x = key_extent ss k in
    let a = first_fit rs x e in
    let small : told_address a ≡ a = omega (arith, h, last-after ss rs (a + x) ks) in
    ap₂ (λ b ps. record { key = k; start = b; extent = x } ∷ ps) small (told-same ss rs (a + x) ks h)

pub map_is : (ss : List SegmentStorage) (homes : List (List ℕ)) (end : ℕ) → homes ≡ homes_from (told (placed_families ss)) 0 ss → end ≡ last_end_of 0 (placed_families ss) → end ≤ 65535 → ◌≡◌ {A = Map} (record { homes = homes; end = end }) (map_of ss)
map_is ss homes end are is small =
    let whole : told (placed_families ss) ≡ placed_families ss = told-same ss (absolute_ranges ss) 0 (first_keys (keys_from 0 ss)) (omega (arith, is, small)) in
    ap₂ (λ hs e. record { homes = hs; end = e }) (are ∙ ap (λ ps. homes_from ps 0 ss) whole) is
