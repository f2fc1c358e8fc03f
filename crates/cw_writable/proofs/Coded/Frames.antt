-- The orders that bind arguments to parameters have code, where each parameter has its words and the frame is within the data area.
use Rattle.std.proofs.Common.{◌≡◌, ℕ, zero, suc, ◌+◌, ◌%◌, ◌<◌, ◌≤◌, nat_lt, nat_le, List, [], ◌∷◌, map, length, All, IsTrue, Option, Some, None, slice_get, slice_index_or, refl, sym, ap, ◌∙◌, subst, arith}
use Rattle.std.proofs.lemmas.Bool.{leb-true, eqb-true}
use Rattle.std.proofs.lemmas.Option.{none-some}
use Rattle.std.specs.List.{list_all}
use Rattle.cw_unit.specs.declared.layout.Family.{Family}
use Rattle.cw_unit.specs.declared.layout.Limits.{Limits}
use Rattle.cw_unit.specs.declared.layout.Sort.{Sort}
use Rattle.cw_unit.specs.declared.layout.Sort.TheVariants as sort
use Rattle.cw_unit.specs.declared.unit.Unit.{Unit as SourceUnit}
use Rattle.cw_unit.specs.declared.unit.Item.{Item}
use Rattle.cw_unit.specs.declared.unit.Param.{Param}
use Rattle.cw_unit.specs.declared.unit.Param.TheVariants as param
use Rattle.cw_unit.specs.Allocation.{Range, absolute_ranges, storage_of, storage_map}
use Rattle.cw_unit.specs.Storage.{layout_of, positions_from, root_of, family_of, family_offset, frame_size}
use Rattle.cw_unit.specs.ValidStorage.{IsStorable, FitsArea, ValidStorageMap, IsInFrame, sort_in, owner_in, sort_of_family, as_stored, frame_size_in}
use Rattle.cw_order.specs.declared.order.Order.TheVariants as order
use Rattle.cw_gen_expr.specs.NamedItems.{is_same_procedure, may_name, item_has, has_words}
use Rattle.cw_gen_expr.specs.ReferenceExpressions.{argument_words}
use Rattle.cw_gen_expr.specs.ReferenceEntries.{bound_by, bound_in, bound_order, parameter_orders, bind_orders}
use Rattle.cw_gen_unit.specs.BuiltUnits.{item_fits, items_fit}
use Rattle.cw_built.specs.Coded.{has_code}
use Rattle.cw_writable.proofs.Coded.Fine.{no, both, parts, passed}
use Rattle.cw_writable.proofs.Coded.Numbers.{lt_true, lined, first}

-- the law of storage maps
abbrev pub MapsValid : Type 0
MapsValid = (us : List SourceUnit) (limits : Limits) → All IsStorable us → FitsArea us limits → ValidStorageMap us limits (storage_map us)

-- ---- an area that is large enough

abbrev ends : List Range → ℕ
ends [] = 0
ends (r ∷ rs) = r.end + ends rs

ends-within : (rs : List Range) (k : ℕ) (d : Range) → k < length rs → (slice_index_or rs k d).end + 0 ≤ ends rs
ends-within [] k d lt = absurd (omega (arith, lt))
ends-within (r ∷ rs) zero d lt = omega arith
ends-within (r ∷ rs) (suc k) d lt =
    let h = ends-within rs k d (let l : k < length rs = omega (arith, lt) in l) in
    let z : (slice_index_or rs k d).end + 0 ≤ r.end + ends rs = omega (arith, h) in z

-- ---- positions

position-from : (u : SourceUnit) (n : ℕ) (xs : List Item) (k : ℕ) (x : Item) → slice_get xs k ≡ Some x → slice_index_or (positions_from n u xs) k (0, 0) ≡ (family_of u (n + k), family_offset u (n + k))
position-from u n [] k x e = absurd (none-some x e)
position-from u n (y ∷ xs) zero x e = let at : n ≡ n + 0 = omega arith in ap (λ k. (family_of u k, family_offset u k)) at
position-from u n (y ∷ xs) (suc k) x e =
    let at : n + 1 + k ≡ n + suc k = omega arith in position-from u (n + 1) xs k x e ∙ ap (λ k. (family_of u k, family_offset u k)) at

pub position-of : (u : SourceUnit) (k : ℕ) (x : Item) → slice_get u.items k ≡ Some x → slice_index_or (layout_of u).homes k (0, 0) ≡ (family_of u k, family_offset u k)
position-of u k x e = let at : 0 + k ≡ k = omega arith in position-from u 0 u.items k x e ∙ ap (λ k. (family_of u k, family_offset u k)) at

same-procedure : (p : ℕ) (owner : Option ℕ) → IsTrue (is_same_procedure (Some p) owner) → owner ≡ Some p
same-procedure p None h = no h
same-procedure p (Some q) h = ap Some (sym (eqb-true p q h))

-- an argument that goes to a word of a family
bind-word : (k f o : ℕ) → k < 256 → IsTrue (has_code (order.Bind k f (o % 65536)))
bind-word k f o lt = lined (order.Bind k f (o % 65536)) (lt_true k 256 lt) refl

module _ (maps : MapsValid) (u : SourceUnit) (storable : IsStorable u) where
  limits : Limits
  limits = record { area = (storage_map (u ∷ [])).end + ends (absolute_ranges (map storage_of (u ∷ []))); frames = 0; depth = 0 }

  alone-storable : (k : ℕ) (d : SourceUnit) → k < length (u ∷ []) → IsStorable (slice_index_or (u ∷ []) k d)
  alone-storable zero d lt = storable
  alone-storable (suc k) d lt = absurd (omega (arith, lt))

  fits : FitsArea (u ∷ []) limits
  unfolding limits
  fits = record {
    placed = (let z : (storage_map (u ∷ [])).end + 0 ≤ (storage_map (u ∷ [])).end + ends (absolute_ranges (map storage_of (u ∷ []))) = omega arith in z);
    absolute = λ k d lt.
        let rs = absolute_ranges (map storage_of (u ∷ [])) in
        let h = ends-within rs k d lt in
        let z : (slice_index_or rs k d).end + 0 ≤ (storage_map (u ∷ [])).end + ends rs = omega (arith, h) in z;
  }

  -- a word in a frame of at most 32,768 words
  near : (p i : ℕ) (x : Item) → slice_get u.items i ≡ Some x → IsTrue (item_has u (Some p) i (Some x) 1) → frame_size u p ≤ 32768 → (base : ℕ) → sort_of_family u (family_of u i) ≡ sort.Frame base → base + family_offset u i < 32768
  near p i x found h le base e =
      let m = storage_map (u ∷ []) in
      let y = as_stored 0 u (slice_index_or m.homes 0 []) i x in
      let place = (maps (u ∷ []) limits alone-storable fits).each y (0, i, u, x, refl, found, refl) in
      let owner = owner_in (slice_get u.items (root_of u i)) in
      let t = parts (nat_le 1 x.words) (may_name (Some p) owner (sort_of_family u (family_of u i))) h in
      let words : 1 ≤ x.words = leb-true 1 x.words t.0 in
      let mine : owner ≡ Some p = same-procedure p owner (subst (λ k. IsTrue (may_name (Some p) owner k)) e t.1) in
      let start : y.start ≡ base = place.at_offset base e in
      let inside : y.start + (family_offset u i + x.words) ≤ frame_size_in (u ∷ []) 0 owner = place.inside_frame (subst IsInFrame (sym e) tt) in
      let size : frame_size_in (u ∷ []) 0 owner ≡ frame_size u p = ap (frame_size_in (u ∷ []) 0) mine in
      omega (arith, words, start, inside, size, le)

  module _ (p : ℕ) (small : frame_size u p ≤ 32768) where
    bound-coded : (k i : ℕ) → k < 256 → IsTrue (has_words u (Some p) i 1) → IsTrue (has_code (bound_order (layout_of u) k i))
    bound-coded k i lt h = by_item (slice_get u.items i) refl h
      where
        by_sort : (x : Item) → slice_get u.items i ≡ Some x → IsTrue (item_has u (Some p) i (Some x) 1) → (s : Sort) → sort_of_family u (family_of u i) ≡ s → IsTrue (has_code (bound_by k s (family_of u i) (family_offset u i)))
        by_sort x found h (sort.Frame base) e =
            let o = family_offset u i in
            let below = near p i x found h small base e in
            let z : (base + o) % 65536 < 32768 = omega (arith, below) in
            lined (order.BindFrame k ((base + o) % 65536)) (both (nat_lt k 256) (nat_lt ((base + o) % 65536) 32768) (lt_true k 256 lt) (lt_true ((base + o) % 65536) 32768 z)) refl
        by_sort x found h (sort.Common d) e = bind-word k (family_of u i) (family_offset u i) lt
        by_sort x found h sort.Own e = bind-word k (family_of u i) (family_offset u i) lt
        by_sort x found h (sort.Absolute a) e = bind-word k (family_of u i) (family_offset u i) lt

        by_family : (x : Item) → slice_get u.items i ≡ Some x → IsTrue (item_has u (Some p) i (Some x) 1) → (f : Option Family) → slice_get (layout_of u).families (family_of u i) ≡ f → IsTrue (has_code (bound_in k f (family_of u i) (family_offset u i)))
        by_family x found h None e = bind-word k (family_of u i) (family_offset u i) lt
        by_family x found h (Some f) e = by_sort x found h f.sort (ap sort_in e)

        by_item : (x : Option Item) → slice_get u.items i ≡ x → IsTrue (item_has u (Some p) i x 1) → IsTrue (has_code (bound_order (layout_of u) k i))
        by_item None e h = no h
        by_item (Some x) e h =
            subst (λ (at : ℕ × ℕ). IsTrue (has_code (bound_in k (slice_get (layout_of u).families at.0) at.0 at.1))) (sym (position-of u i x e))
            (by_family x e h (slice_get (layout_of u).families (family_of u i)) refl)

    parameter-coded : (q : Param) (k : ℕ) → k < 256 → IsTrue (item_fits (λ i. has_words u (Some p) i 1) q) → IsTrue (list_all has_code (parameter_orders (layout_of u) q k))
    parameter-coded (param.Value i s) k lt h = first (bound_order (layout_of u) k i) [] (bound-coded k i lt h) refl
    parameter-coded (param.Location i s) k lt h = first (bound_order (layout_of u) k i) [] (bound-coded k i lt h) refl
    parameter-coded (param.Array i s) k lt h = first (bound_order (layout_of u) k i) [] (bound-coded k i lt h) refl
    parameter-coded (param.Table i n) k lt h = first (bound_order (layout_of u) k i) [] (bound-coded k i lt h) refl
    parameter-coded (param.Label j) k lt h = refl
    parameter-coded (param.Switch j) k lt h = refl
    parameter-coded (param.Proc j s) k lt h = refl

    pub bind-coded : (ps : List Param) → argument_words ps < 256 → IsTrue (items_fit (λ i. has_words u (Some p) i 1) ps) → IsTrue (list_all has_code (bind_orders (layout_of u) ps))
    bind-coded [] lt h = refl
    bind-coded (q ∷ qs) lt h =
        let t = parts (item_fits (λ i. has_words u (Some p) i 1) q) (items_fit (λ i. has_words u (Some p) i 1) qs) h in
        let less : argument_words qs < 256 = omega (arith, lt) in
        passed (parameter_orders (layout_of u) q (argument_words qs)) (bind_orders (layout_of u) qs) (parameter-coded q (argument_words qs) less t.0) (bind-coded qs less t.1)
