-- The families of a unit, and the words that they hold at the start.
use Rattle.std.proofs.Common.{◌≡◌, ℕ, zero, suc, ◌+◌, ◌<◌, ◌≤◌, List, [], ◌∷◌, ◌++◌, map, take, length, Bool, true, false, not, ◌&&◌, IsTrue, cond, nat_lt, Option, Some, None, is_none, slice_get, refl, sym, ap, subst, ◌∙◌, arith}
use Rattle.std.specs.List.{list_all}
use Rattle.cw_unit.specs.declared.unit.Unit.{Unit as SourceUnit}
use Rattle.cw_unit.specs.declared.unit.Item.{Item}
use Rattle.cw_unit.specs.declared.unit.Home.{Home}
use Rattle.cw_unit.specs.declared.unit.Home.TheVariants as home
use Rattle.cw_unit.specs.declared.layout.Family.{Family}
use Rattle.cw_unit.specs.declared.layout.Sort.{Sort}
use Rattle.cw_unit.specs.Storage.{base_of_home, root_of, family_offset, family_extent, family_of, roots_in, frame_offset, sort_of, family_at, families_from, preset_at, presets_from, layout_of}
use Rattle.cw_unit.proofs.Families.{Root, root_at, family_found, inside_family, inside_frame, least_extent}
use Rattle.cw_view.specs.Payloads.{sort_operand}
use Rattle.cw_view.specs.ObjectFormat.{is_placed, is_frame, has_preset}
use Rattle.cw_object.specs.Fits.{is_word, is_long, fits_preset}
use Rattle.cw_object.specs.IsWritable.{is_kept, is_set}
use Rattle.cw_writable.specs.Front.Front.{ItemsFit, HomesFit, PresetsFit}
use Rattle.cw_writable.proofs.Front.Truth.{lt_true, le_true, lt_of, both, first_of_two, second_of_two}

-- ---- families

pub all_append : {A : Type 0} (p : A → Bool) (xs ys : List A) → IsTrue (list_all p xs) → IsTrue (list_all p ys) → IsTrue (list_all p (xs ++ ys))
all_append p [] ys h k = k
all_append p (x ∷ xs) ys h k = both (p x) (list_all p (xs ++ ys)) (first_of_two (p x) (list_all p xs) h) (all_append p xs ys (second_of_two (p x) (list_all p xs) h) k)

module _ (u : SourceUnit) (fit : ItemsFit u) where
  pub extent_within : (r : ℕ) → family_extent u r ≤ 32768
  extent_within r = least_extent u r 32768 (λ k i e f. fit.reach k i e)

  module _ (homes : HomesFit u) where
    kept : (n : ℕ) (x : Item) (h : Home) → slice_get u.items n ≡ Some x → x.home ≡ h → IsTrue (is_kept (length u.descs) (record { sort = sort_of u n x.owner h; extent = family_extent u n }))
    kept n x h e k =
        let few = extent_within n in
        let long : IsTrue (is_long (family_extent u n)) = lt_true (family_extent u n) 4294967296 (omega (arith, few)) in
        let s : Sort = sort_of u n x.owner h in
        let p = placed n x h e k in
        both (is_word (sort_operand s) && is_long (family_extent u n)) (is_placed (length u.descs) s (family_extent u n))
        (both (is_word (sort_operand s)) (is_long (family_extent u n)) p.0 long) p.1
      where
        word : (a : ℕ) → a < 65536 → IsTrue (is_word a)
        word a h = lt_true a 65536 h

        framed : (n : ℕ) (x : Item) (o : Option ℕ) → slice_get u.items n ≡ Some x → x.home ≡ home.Frame → x.owner ≡ o → frame_offset u o n + family_extent u n ≤ 32768
        framed n x None e k w = let few = extent_within n in omega (arith, few)
        framed n x (Some q) e k w = let a = inside_frame u q n x e k w in let b = homes.frames n x q e k w in omega (arith, a, b)

        placed : (n : ℕ) (x : Item) (h : Home) → slice_get u.items n ≡ Some x → x.home ≡ h → IsTrue (is_word (sort_operand (sort_of u n x.owner h))) × IsTrue (is_placed (length u.descs) (sort_of u n x.owner h) (family_extent u n))
        placed n x (home.Common d) e k =
            let below = homes.common n x d e k in
            let few = homes.descriptors in
            (word d (omega (arith, below, few)), lt_true d (length u.descs) below)
        placed n x home.Own e k = (refl, refl)
        placed n x (home.Absolute a) e k = (word a (homes.absolute n x a e k), refl)
        placed n x home.Frame e k =
            let room = framed n x x.owner e k refl in
            (word (frame_offset u x.owner n) (omega (arith, room)), le_true (frame_offset u x.owner n + family_extent u n) 32768 room)
        placed n x (home.Over b o) e k = (refl, refl)

    kept_if : (b : Bool) (f : Family) (fs : List Family) → IsTrue (is_kept (length u.descs) f) → IsTrue (list_all (is_kept (length u.descs)) fs) → IsTrue (list_all (is_kept (length u.descs)) (cond b (f ∷ fs) fs))
    kept_if true f fs h k = both (is_kept (length u.descs) f) (list_all (is_kept (length u.descs)) fs) h k
    kept_if false f fs h k = k

    families_from_kept : (n : ℕ) (is : List Item) → ((k : ℕ) (x : Item) → slice_get is k ≡ Some x → slice_get u.items (n + k) ≡ Some x) → IsTrue (list_all (is_kept (length u.descs)) (families_from n u is))
    families_from_kept n [] at = refl
    families_from_kept n (x ∷ xs) at =
        let here : n + 0 ≡ n = omega arith in
        let next = λ (k : ℕ). (let same : n + 1 + k ≡ n + suc k = omega arith in same) in
        kept_if (is_none (base_of_home u x.home)) (family_at u n x) (families_from (n + 1) u xs)
        (kept n x x.home (ap (slice_get u.items) (sym here) ∙ at 0 x refl) refl)
        (families_from_kept (n + 1) xs (λ k y e. ap (slice_get u.items) (next k) ∙ at (suc k) y e))

    pub families_kept : IsTrue (list_all (is_kept (length u.descs)) (layout_of u).families)
    families_kept = families_from_kept 0 u.items (λ k x e. (let same : 0 + k ≡ k = omega arith in ap (slice_get u.items) same ∙ e))

  -- ---- words at the start

  few_roots : (is : List Item) → roots_in u is ≤ length is
  few_roots [] = omega arith
  few_roots (x ∷ xs) = count (is_none (base_of_home u x.home)) (few_roots xs)
    where
      count : (b : Bool) → roots_in u xs ≤ length xs → cond b 1 0 + roots_in u xs ≤ length (x ∷ xs)
      count true h = omega (arith, h)
      count false h = omega (arith, h)

  few_taken : (n : ℕ) (is : List Item) → length (take n is) ≤ length is
  few_taken zero [] = omega arith
  few_taken zero (x ∷ xs) = omega arith
  few_taken (suc n) [] = omega arith
  few_taken (suc n) (x ∷ xs) = let h = few_taken n xs in omega (arith, h)

  pub family_word : (n : ℕ) → family_of u n < 65536
  family_word n =
      let a = few_roots (take (root_of u n) u.items) in
      let b = few_taken (root_of u n) u.items in
      let c = fit.few in
      omega (arith, a, b, c)

  module _ (presets : PresetsFit u) where
    not_framed : (n : ℕ) (x r : Item) (h : Home) (p : ℕ × ℕ) (ps : List (ℕ × ℕ)) → slice_get u.items n ≡ Some x → slice_get u.items (root_of u n) ≡ Some r → r.home ≡ h → x.presets ≡ p ∷ ps → IsTrue (not (is_frame (sort_of u (root_of u n) r.owner h)))
    not_framed n x r home.Frame p ps e f k w = let none = presets.apart n x r e f k in absurd (cc)
    not_framed n x r _ p ps e f k w = refl

    set : (n : ℕ) (x : Item) (p : ℕ × ℕ) → slice_get u.items n ≡ Some x → (q : ℕ × ℕ) (qs : List (ℕ × ℕ)) → x.presets ≡ q ∷ qs → IsTrue (nat_lt p.0 x.words) → IsTrue (nat_lt p.1 65536) → IsTrue (is_set (layout_of u).families (preset_at u n p))
    set n x p e q qs w inside word =
        let r : Root u n = root_at u fit.storable n x e in
        let root : ℕ = root_of u n in
        let reach = fit.reach n x e in
        let ends = inside_family u n x e in
        let low = lt_of p.0 x.words inside in
        let found = family_found u n r in
        let there : IsTrue (has_preset (family_offset u n + p.0) (Some (family_at u root r.item))) =
        both (not (is_frame (sort_of u root r.item.owner r.item.home))) (nat_lt (family_offset u n + p.0) (family_extent u root)) (not_framed n x r.item r.item.home q qs e r.found refl w)
        (lt_true (family_offset u n + p.0) (family_extent u root) (omega (arith, ends, low))) in
        both (fits_preset (preset_at u n p)) (has_preset (family_offset u n + p.0) (slice_get (layout_of u).families (family_of u n)))
        (both (is_word (family_of u n)) (is_word (family_offset u n + p.0) && is_word p.1) (lt_true (family_of u n) 65536 (family_word n))
        (both (is_word (family_offset u n + p.0)) (is_word p.1) (lt_true (family_offset u n + p.0) 65536 (omega (arith, reach, low))) word))
        (subst (λ (o : Option Family). IsTrue (has_preset (family_offset u n + p.0) o)) (sym found) there)

    item_set : (n : ℕ) (x : Item) → slice_get u.items n ≡ Some x → (all : List (ℕ × ℕ)) → x.presets ≡ all → (ps : List (ℕ × ℕ)) → (all ≡ [] → ps ≡ []) → IsTrue (list_all (λ (p : ℕ × ℕ). nat_lt p.0 x.words) ps) → IsTrue (list_all (λ (p : ℕ × ℕ). nat_lt p.1 65536) ps)
        → IsTrue (list_all (is_set (layout_of u).families) (map (preset_at u n) ps))
    item_set n x e all w [] only h k = refl
    item_set n x e [] w (p ∷ ps) only h k = let none : p ∷ ps ≡ [] = only refl in absurd (cc)
    item_set n x e (q ∷ qs) w (p ∷ ps) only h k =
        both (is_set (layout_of u).families (preset_at u n p)) (list_all (is_set (layout_of u).families) (map (preset_at u n) ps))
        (set n x p e q qs w (first_of_two (nat_lt p.0 x.words) (list_all (λ (z : ℕ × ℕ). nat_lt z.0 x.words) ps) h) (first_of_two (nat_lt p.1 65536) (list_all (λ (z : ℕ × ℕ). nat_lt z.1 65536) ps) k))
        (item_set n x e (q ∷ qs) w ps (λ z. absurd (cc)) (second_of_two (nat_lt p.0 x.words) (list_all (λ (z : ℕ × ℕ). nat_lt z.0 x.words) ps) h) (second_of_two (nat_lt p.1 65536) (list_all (λ (z : ℕ × ℕ). nat_lt z.1 65536) ps) k))

    presets_from_set : (n : ℕ) (is : List Item) → ((k : ℕ) (x : Item) → slice_get is k ≡ Some x → slice_get u.items (n + k) ≡ Some x) → IsTrue (list_all (is_set (layout_of u).families) (presets_from n u is))
    presets_from_set n [] at = refl
    presets_from_set n (x ∷ xs) at =
        let here : n + 0 ≡ n = omega arith in
        let e : slice_get u.items n ≡ Some x = ap (slice_get u.items) (sym here) ∙ at 0 x refl in
        let next = λ (k : ℕ). (let same : n + 1 + k ≡ n + suc k = omega arith in same) in
        all_append (is_set (layout_of u).families) (map (preset_at u n) x.presets) (presets_from (n + 1) u xs)
        (item_set n x e x.presets refl x.presets (λ z. z) (presets.within n x e) (presets.words n x e))
        (presets_from_set (n + 1) xs (λ k y f. ap (slice_get u.items) (next k) ∙ at (suc k) y f))

    pub presets_set : IsTrue (list_all (is_set (layout_of u).families) (layout_of u).words)
    presets_set = presets_from_set 0 u.items (λ k x e. (let same : 0 + k ≡ k = omega arith in ap (slice_get u.items) same ∙ e))
