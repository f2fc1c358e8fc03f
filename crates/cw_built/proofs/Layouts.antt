-- A unit whose storage stands has a layout.
use Rattle.std.proofs.Common.{◌≡◌, ℕ, zero, suc, ◌+◌, ◌<◌, ◌≤◌, max, List, [], ◌∷◌, length, Bool, true, false, cond, IsTrue, ◌&&◌, nat_eq, nat_lt, nat_le, Option, Some, None, slice_get, refl, ap, subst, inl, inr, ◌⊎◌, arith}
use Rattle.std.specs.List.{list_all}
use Rattle.std.proofs.lemmas.Bool.{leb-true, ltb-true, cases_lt}
use Rattle.std.proofs.lemmas.Option.{none-some, same_Some}
use Rattle.cw_unit.specs.declared.unit.Unit.{Unit as SourceUnit}
use Rattle.cw_unit.specs.declared.unit.Item.{Item}
use Rattle.cw_unit.specs.declared.unit.Proc.{Proc}
use Rattle.cw_unit.specs.declared.unit.Home.{Home}
use Rattle.cw_unit.specs.declared.unit.Home.TheVariants as home
use Rattle.cw_unit.specs.declared.descriptor.Desc.{Desc}
use Rattle.cw_unit.specs.Storage.{base_of_home, base_of_item, family_offset, extent_from, family_extent, is_frame_home, is_owner, frame_words_from, frame_size}
use Rattle.cw_unit.specs.ValidStorage.{IsStorable}
use Rattle.cw_unit.specs.HasLayout.{HasLayout}
use Rattle.cw_safety.proofs.Truth.{both, no}
use Rattle.cw_built.specs.Stored.{is_owned, is_before, is_home, is_base, are_bases, ends_in_reach, is_preset, is_item, are_items, are_frames, is_stored}
use Rattle.cw_built.proofs.Truth.{all-get, unequal}

-- ---- an item

record Item-is (u : SourceUnit) (n : ℕ) (x : Item) : Type 0 where
  home : IsTrue (is_home u n x.owner x.home)
  reach : family_offset u n + x.words < 65536
  presets : IsTrue (list_all (is_preset x.words) x.presets)

item-is : (u : SourceUnit) (n : ℕ) (x : Item) → IsTrue (is_item u n x) → Item-is u n x
item-is u n x h =
    let rest : Bool = ends_in_reach u n x.words && list_all (is_preset x.words) x.presets in
    let a = both (is_home u n x.owner x.home) rest h in
    let b = both (ends_in_reach u n x.words) (list_all (is_preset x.words) x.presets) a.1 in
    record { home = a.0; reach = ltb-true (family_offset u n + x.words) 65536 b.0; presets = b.1 }

item-from : (u : SourceUnit) (n k : ℕ) (xs : List Item) (x : Item) → IsTrue (are_items u n xs) → slice_get xs k ≡ Some x → IsTrue (is_item u (n + k) x)
item-from u n k [] x h e = absurd (none-some x e)
item-from u n zero (y ∷ xs) x h e =
    let at : n ≡ n + 0 = omega arith in
    subst (λ m. IsTrue (is_item u m x)) at (subst (λ z. IsTrue (is_item u n z)) (same_Some y x e) (both (is_item u n y) (are_items u (suc n) xs) h).0)
item-from u n (suc k) (y ∷ xs) x h e =
    let at : suc n + k ≡ n + suc k = omega arith in
    subst (λ m. IsTrue (is_item u m x)) at (item-from u (suc n) k xs x (both (is_item u n y) (are_items u (suc n) xs) h).1 e)

item-at : (u : SourceUnit) (n : ℕ) (x : Item) → IsTrue (are_items u 0 u.items) → slice_get u.items n ≡ Some x → Item-is u n x
item-at u n x h e =
    let at : 0 + n ≡ n = omega arith in
    item-is u n x (subst (λ m. IsTrue (is_item u m x)) at (item-from u 0 n u.items x h e))

-- ---- bases and owners

before-item : (n : ℕ) (v : Option (ℕ × ℕ)) (b : ℕ × ℕ) → IsTrue (is_before n v) → v ≡ Some b → b.0 < n
before-item n None b h e = absurd (none-some b e)
before-item n (Some c) b h e = let lt : c.0 < n = ltb-true c.0 n h in subst (λ q. q.0 < n) (same_Some c b e) lt

home-before : (u : SourceUnit) (n : ℕ) (owner : Option ℕ) (x : Home) (b : ℕ × ℕ) → IsTrue (is_home u n owner x) → base_of_home u x ≡ Some b → b.0 < n
home-before u n owner (home.Common d) b h e = before-item n (base_of_home u (home.Common d)) b h e
home-before u n owner home.Own b h e = absurd (none-some b e)
home-before u n owner (home.Absolute a) b h e = absurd (none-some b e)
home-before u n owner home.Frame b h e = absurd (none-some b e)
home-before u n owner (home.Over c offset) b h e = let lt : c < n = ltb-true c n h in subst (λ k. k < n) (ap (λ q. q.0) (same_Some (c, offset) b e)) lt

base-before : (u : SourceUnit) (n : ℕ) (b : ℕ × ℕ) (v : Option Item) → IsTrue (are_items u 0 u.items) → slice_get u.items n ≡ v → base_of_item u v ≡ Some b → b.0 < n
base-before u n b None h is e = absurd (none-some b e)
base-before u n b (Some x) h is e = home-before u n x.owner x.home b (item-at u n x h is).home e

owned : (procs : ℕ) (owner : Option ℕ) → IsTrue (is_owned procs owner) → (q : ℕ) × (owner ≡ Some q)
owned procs None h = no h
owned procs (Some q) h = (q, refl)

owner-within : (procs q : ℕ) (owner : Option ℕ) → IsTrue (is_owned procs owner) → owner ≡ Some q → q < procs
owner-within procs q None h e = no h
owner-within procs q (Some p) h e = let lt : p < procs = ltb-true p procs h in subst (λ k. k < procs) (same_Some p q e) lt

frame-owned : (u : SourceUnit) (n : ℕ) (x : Item) → IsTrue (are_items u 0 u.items) → slice_get u.items n ≡ Some x → x.home ≡ home.Frame → IsTrue (is_owned (length u.procs) x.owner)
frame-owned u n x h is e = subst (λ y. IsTrue (is_home u n x.owner y)) e (item-at u n x h is).home

-- ---- extents

longer : (b : Bool) (a c k : ℕ) → a < k → c < k → max (cond b a 0) c < k
longer true a c k f g = omega (arith, f, g)
longer false a c k f g = omega (arith, f, g)

extent-within : (u : SourceUnit) (r n : ℕ) (xs : List Item) → IsTrue (are_items u n xs) → extent_from n u r xs < 65536
extent-within u r n [] h = omega arith
extent-within u r n (x ∷ xs) h =
    let p = both (is_item u n x) (are_items u (suc n) xs) h in
    let next : suc n ≡ n + 1 = omega arith in
    let rest : extent_from (n + 1) u r xs < 65536 = extent-within u r (n + 1) xs (subst (λ m. IsTrue (are_items u m xs)) next p.1) in
    longer _ (family_offset u n + x.words) (extent_from (n + 1) u r xs) 65536 (item-is u n x p.0).reach rest

-- ---- frames

not-owner : (u : SourceUnit) (n q : ℕ) (owner : Option ℕ) (x : Home) → IsTrue (is_home u n owner x) → length u.procs ≤ q → (is_frame_home x && is_owner q owner) ≡ false
not-owner u n q owner (home.Common d) h le = refl
not-owner u n q owner home.Own h le = refl
not-owner u n q owner (home.Absolute a) h le = refl
not-owner u n q owner (home.Over c offset) h le = refl
not-owner u n q None home.Frame h le = refl
not-owner u n q (Some p) home.Frame h le = let lt : p < length u.procs = ltb-true p (length u.procs) h in unequal q p (nat_eq q p) refl (omega (arith, lt, le))

none-added : (b : Bool) (e k : ℕ) → b ≡ false → k ≡ 0 → cond b e 0 + k ≡ 0
none-added true e k f g = absurd (cc)
none-added false e k f g = omega (arith, g)

no-frame : (u : SourceUnit) (q n : ℕ) (xs : List Item) → length u.procs ≤ q → IsTrue (are_items u n xs) → frame_words_from n u q xs ≡ 0
no-frame u q n [] le h = refl
no-frame u q n (x ∷ xs) le h =
    let p = both (is_item u n x) (are_items u (suc n) xs) h in
    let next : suc n ≡ n + 1 = omega arith in
    none-added (is_frame_home x.home && is_owner q x.owner) (family_extent u n) (frame_words_from (n + 1) u q xs) (not-owner u n q x.owner x.home (item-is u n x p.0).home le)
    (no-frame u q (n + 1) xs le (subst (λ m. IsTrue (are_items u m xs)) next p.1))

frame-from : (u : SourceUnit) (n k : ℕ) (ps : List Proc) → IsTrue (are_frames u n ps) → k < length ps → frame_size u (n + k) < 65536
frame-from u n k [] h lt = absurd (omega (arith, lt))
frame-from u n zero (p ∷ ps) h lt =
    let at : n ≡ n + 0 = omega arith in
    subst (λ m. frame_size u m < 65536) at (ltb-true (frame_size u n) 65536 (both (nat_lt (frame_size u n) 65536) (are_frames u (suc n) ps) h).0)
frame-from u n (suc k) (p ∷ ps) h lt =
    let at : suc n + k ≡ n + suc k = omega arith in
    subst (λ m. frame_size u m < 65536) at (frame-from u (suc n) k ps (both (nat_lt (frame_size u n) 65536) (are_frames u (suc n) ps) h).1 (omega (arith, lt)))

frame-within : (u : SourceUnit) (q : ℕ) → IsTrue (are_items u 0 u.items) → IsTrue (are_frames u 0 u.procs) → (q < length u.procs) ⊎ (length u.procs ≤ q) → frame_size u q < 65536
frame-within u q items frames (inl lt) = let at : 0 + q ≡ q = omega arith in subst (λ m. frame_size u m < 65536) at (frame-from u 0 q u.procs frames lt)
frame-within u q items frames (inr le) = let none : frame_size u q ≡ 0 = no-frame u q 0 u.items le items in omega (arith, none)

-- ---- the whole

pub record Stored (u : SourceUnit) : Type 0 where
  pub few : length u.items ≤ 65535
  pub bases : IsTrue (are_bases u)
  pub items : IsTrue (are_items u 0 u.items)
  pub frames : IsTrue (are_frames u 0 u.procs)

pub stored : (u : SourceUnit) → IsTrue (is_stored u) → Stored u
stored u h =
    let last : Bool = are_items u 0 u.items && are_frames u 0 u.procs in
    let a = both (nat_le (length u.items) 65535) (are_bases u && last) h in
    let b = both (are_bases u) last a.1 in
    let c = both (are_items u 0 u.items) (are_frames u 0 u.procs) b.1 in
    record { few = leb-true (length u.items) 65535 a.0; bases = b.0; items = c.0; frames = c.1 }

pub storable : (u : SourceUnit) → IsTrue (are_items u 0 u.items) → IsStorable u
storable u h = record {
  base_before = λ n b e. base-before u n b (slice_get u.items n) h refl e;
  frame_owned = λ n i is e. owned (length u.procs) i.owner (frame-owned u n i h is e);
}

base-there : (n : ℕ) (v : Option (ℕ × ℕ)) (b : ℕ × ℕ) → IsTrue (is_base n v) → v ≡ Some b → b.0 < n
base-there n None b h e = absurd (none-some b e)
base-there n (Some c) b h e = let lt : c.0 < n = ltb-true c.0 n h in subst (λ q. q.0 < n) (same_Some c b e) lt

pub has-layout : (u : SourceUnit) → IsTrue (is_stored u) → HasLayout u
has-layout u h =
    let s = stored u h in
    let few : length u.items ≤ 65535 = s.few in
    record {
      storable = storable u s.items;
      item_count = omega (arith, few);
      extents = λ r. extent-within u r 0 u.items s.items;
      frames = λ q. frame-within u q s.items s.frames (cases_lt q (length u.procs));
      common_bases = λ d desc b is e. base-there (length u.descs) desc.over b (all-get (λ (x : Desc). is_base (length u.descs) x.over) u.descs d desc s.bases is) e;
      frame_owners = λ n q i is e o. owner-within (length u.procs) q i.owner (frame-owned u n i s.items is e) o;
      preset_places = λ n k i p is e. ltb-true p.0 i.words (all-get (is_preset i.words) i.presets k p (item-at u n i s.items is).presets e);
    }
