-- The definitions of a layout, where they have come one item further.
use Rattle.std.proofs.Common.{◌≡◌, ℕ, zero, suc, ◌+◌, ◌<◌, ◌≤◌, max, List, [], ◌∷◌, ◌++◌, length, take, map, Bool, true, false, ◌&&◌, cond, nat_eq, Option, Some, None, is_none, slice_get, get_or, refl, sym, ap, ◌∙◌, arith, append_assoc, append-nil}
use Rattle.std.proofs.lemmas.List.{take_more, length-take-le}
use Rattle.std.proofs.lemmas.Option.{none-some, same_Some}
use Rattle.cw_unit.specs.declared.unit.Unit.{Unit as SourceUnit}
use Rattle.cw_unit.specs.declared.unit.Item.{Item}
use Rattle.cw_unit.specs.declared.layout.Family.{Family}
use Rattle.cw_unit.specs.Storage.{base_of_home, root_of, family_offset, family_of, family_extent, extent_from, roots_in, is_frame_home, is_owner, frame_words_from, families_from, family_at, positions_from, presets_from, preset_at}

-- ---- at the end of a list

abbrev pub position : SourceUnit → (item : ℕ) → ℕ × ℕ
position u n = (family_of u n, family_offset u n)

positions-end : (n : ℕ) (u : SourceUnit) (is : List Item) (i : Item) → positions_from n u (is ++ i ∷ []) ≡ positions_from n u is ++ position u (n + length is) ∷ []
positions-end n u [] i = let e : n ≡ n + 0 = omega arith in ap (λ m. position u m ∷ []) e
positions-end n u (j ∷ js) i =
    let e : n + 1 + length js ≡ n + length (j ∷ js) = omega arith in
    ap (λ ps. position u n ∷ ps) (positions-end (n + 1) u js i ∙ ap (λ m. positions_from (n + 1) u js ++ position u m ∷ []) e)

presets-end : (n : ℕ) (u : SourceUnit) (is : List Item) (i : Item) → presets_from n u (is ++ i ∷ []) ≡ presets_from n u is ++ map (preset_at u (n + length is)) i.presets
presets-end n u [] i = let e : n ≡ n + 0 = omega arith in append-nil _ ∙ ap (λ m. map (preset_at u m) i.presets) e
presets-end n u (j ∷ js) i =
    let e : n + 1 + length js ≡ n + length (j ∷ js) = omega arith in
    ap (λ ps. map (preset_at u n) j.presets ++ ps) (presets-end (n + 1) u js i ∙ ap (λ m. presets_from (n + 1) u js ++ map (preset_at u m) i.presets) e)
    ∙ sym (append_assoc (map (preset_at u n) j.presets) (presets_from (n + 1) u js) (map (preset_at u (n + length (j ∷ js))) i.presets))

-- the family of an item, if it is a root
abbrev pub family_if : Bool → Family → List Family
family_if root f = cond root (f ∷ []) []

first-family : (root : Bool) (f : Family) (fs gs : List Family) → cond root (f ∷ (fs ++ gs)) (fs ++ gs) ≡ cond root (f ∷ fs) fs ++ gs
first-family true f fs gs = refl
first-family false f fs gs = refl

families-end : (n : ℕ) (u : SourceUnit) (is : List Item) (i : Item) → families_from n u (is ++ i ∷ []) ≡ families_from n u is ++ family_if (is_none (base_of_home u i.home)) (family_at u (n + length is) i)
families-end n u [] i = let e : n ≡ n + 0 = omega arith in ap (λ m. family_if (is_none (base_of_home u i.home)) (family_at u m i)) e
families-end n u (j ∷ js) i =
    let e : n + 1 + length js ≡ n + length (j ∷ js) = omega arith in
    let root = is_none (base_of_home u j.home) in
    let last : Family → List Family = family_if (is_none (base_of_home u i.home)) in
    ap (λ fs. cond root (family_at u n j ∷ fs) fs) (families-end (n + 1) u js i ∙ ap (λ m. families_from (n + 1) u js ++ last (family_at u m i)) e)
    ∙ first-family root (family_at u n j) (families_from (n + 1) u js) (last (family_at u (n + length (j ∷ js)) i))

roots-end : (u : SourceUnit) (is : List Item) (i : Item) → roots_in u (is ++ i ∷ []) ≡ roots_in u is + cond (is_none (base_of_home u i.home)) 1 0
roots-end u [] i = omega arith
roots-end u (j ∷ js) i = omega (arith, roots-end u js i)

extent-end : (n : ℕ) (u : SourceUnit) (r : ℕ) (is : List Item) (i : Item) → extent_from n u r (is ++ i ∷ []) ≡ max (extent_from n u r is) (cond (nat_eq (root_of u (n + length is)) r) (family_offset u (n + length is) + i.words) 0)
extent-end n u r [] i =
    let e : n ≡ n + 0 = omega arith in
    let f : max (cond (nat_eq (root_of u n) r) (family_offset u n + i.words) 0) 0 ≡ max 0 (cond (nat_eq (root_of u n) r) (family_offset u n + i.words) 0) = omega arith in
    f ∙ ap (λ m. max 0 (cond (nat_eq (root_of u m) r) (family_offset u m + i.words) 0)) e
extent-end n u r (j ∷ js) i =
    let e : n + 1 + length js ≡ n + length (j ∷ js) = omega arith in
    let rest = extent-end (n + 1) u r js i ∙ ap (λ m. max (extent_from (n + 1) u r js) (cond (nat_eq (root_of u m) r) (family_offset u m + i.words) 0)) e in
    omega (arith, rest)

frame-end : (n : ℕ) (u : SourceUnit) (q : ℕ) (is : List Item) (i : Item) → frame_words_from n u q (is ++ i ∷ []) ≡ frame_words_from n u q is + cond (is_frame_home i.home && is_owner q i.owner) (family_extent u (n + length is)) 0
frame-end n u q [] i =
    let e : n ≡ n + 0 = omega arith in
    let f : cond (is_frame_home i.home && is_owner q i.owner) (family_extent u n) 0 + 0 ≡ 0 + cond (is_frame_home i.home && is_owner q i.owner) (family_extent u n) 0 = omega arith in
    f ∙ ap (λ m. 0 + cond (is_frame_home i.home && is_owner q i.owner) (family_extent u m) 0) e
frame-end n u q (j ∷ js) i =
    let e : n + 1 + length js ≡ n + length (j ∷ js) = omega arith in
    let rest = frame-end (n + 1) u q js i ∙ ap (λ m. frame_words_from (n + 1) u q js + cond (is_frame_home i.home && is_owner q i.owner) (family_extent u m) 0) e in
    omega (arith, rest)

-- ---- one item more

-- item i is number k
pub record IsAt (u : SourceUnit) (k : ℕ) (i : Item) : Type 0 where
  pub within : k < length u.items
  pub read : i ≡ get_or u.items k i

taken : (u : SourceUnit) (k : ℕ) (i : Item) → IsAt u k i → take (k + 1) u.items ≡ take k u.items ++ i ∷ []
taken u k i at = take_more u.items k i at.within ∙ ap (λ x. take k u.items ++ x ∷ []) (sym at.read)

pub length_taken : {A : Type 0} (xs : List A) (k : ℕ) → k ≤ length xs → length (take k xs) ≡ k
length_taken xs k le = length-take-le k xs le

count : (u : SourceUnit) (k : ℕ) (i : Item) → IsAt u k i → 0 + length (take k u.items) ≡ k
count u k i at = let e = length_taken u.items k (omega (arith, at.within)) in omega (arith, e)

pub positions_next : (u : SourceUnit) (k : ℕ) (i : Item) → IsAt u k i → positions_from 0 u (take (k + 1) u.items) ≡ positions_from 0 u (take k u.items) ++ position u k ∷ []
positions_next u k i at =
    ap (positions_from 0 u) (taken u k i at) ∙ positions-end 0 u (take k u.items) i
    ∙ ap (λ m. positions_from 0 u (take k u.items) ++ position u m ∷ []) (count u k i at)

pub presets_next : (u : SourceUnit) (k : ℕ) (i : Item) → IsAt u k i → presets_from 0 u (take (k + 1) u.items) ≡ presets_from 0 u (take k u.items) ++ map (preset_at u k) i.presets
presets_next u k i at =
    ap (presets_from 0 u) (taken u k i at) ∙ presets-end 0 u (take k u.items) i
    ∙ ap (λ m. presets_from 0 u (take k u.items) ++ map (preset_at u m) i.presets) (count u k i at)

pub families_next : (u : SourceUnit) (k : ℕ) (i : Item) → IsAt u k i → families_from 0 u (take (k + 1) u.items) ≡ families_from 0 u (take k u.items) ++ family_if (is_none (base_of_home u i.home)) (family_at u k i)
families_next u k i at =
    ap (families_from 0 u) (taken u k i at) ∙ families-end 0 u (take k u.items) i
    ∙ ap (λ m. families_from 0 u (take k u.items) ++ family_if (is_none (base_of_home u i.home)) (family_at u m i)) (count u k i at)

pub roots_next : (u : SourceUnit) (k : ℕ) (i : Item) → IsAt u k i → roots_in u (take (k + 1) u.items) ≡ roots_in u (take k u.items) + cond (is_none (base_of_home u i.home)) 1 0
roots_next u k i at = ap (roots_in u) (taken u k i at) ∙ roots-end u (take k u.items) i

-- where an item is a root, there is one root more
pub roots_more : (u : SourceUnit) (k : ℕ) (i : Item) (base : Option (ℕ × ℕ)) (more roots roots' : ℕ) → IsAt u k i → base_of_home u i.home ≡ base → cond (is_none base) 1 0 ≡ more → roots ≡ roots_in u (take k u.items) → roots' ≡ roots + more → roots' ≡ roots_in u (take (k + 1) u.items)
roots_more u k i base more roots roots' at is counts so e =
    let one : ℕ = 1 in
    let nothing : ℕ = 0 in
    let next = roots_next u k i at in
    let counted : cond (is_none (base_of_home u i.home)) one nothing ≡ more = ap (λ b. cond (is_none b) one nothing) is ∙ counts in
    omega (arith, next, counted, so, e)

pub extent_next : (u : SourceUnit) (r k : ℕ) (i : Item) → IsAt u k i → extent_from 0 u r (take (k + 1) u.items) ≡ max (extent_from 0 u r (take k u.items)) (cond (nat_eq (root_of u k) r) (family_offset u k + i.words) 0)
extent_next u r k i at =
    ap (extent_from 0 u r) (taken u k i at) ∙ extent-end 0 u r (take k u.items) i
    ∙ ap (λ m. max (extent_from 0 u r (take k u.items)) (cond (nat_eq (root_of u m) r) (family_offset u m + i.words) 0)) (count u k i at)

pub frame_next : (u : SourceUnit) (q k : ℕ) (i : Item) → IsAt u k i → frame_words_from 0 u q (take (k + 1) u.items) ≡ frame_words_from 0 u q (take k u.items) + cond (is_frame_home i.home && is_owner q i.owner) (family_extent u k) 0
frame_next u q k i at =
    ap (frame_words_from 0 u q) (taken u k i at) ∙ frame-end 0 u q (take k u.items) i
    ∙ ap (λ m. frame_words_from 0 u q (take k u.items) + cond (is_frame_home i.home && is_owner q i.owner) (family_extent u m) 0) (count u k i at)

-- ---- numbers of families

count-families : (root : Bool) (f : Family) (fs : List Family) (m : ℕ) → length fs ≡ m → length (cond root (f ∷ fs) fs) ≡ cond root 1 0 + m
count-families true f fs m e = omega (arith, e)
count-families false f fs m e = omega (arith, e)

pub families_length : (n : ℕ) (u : SourceUnit) (is : List Item) → length (families_from n u is) ≡ roots_in u is
families_length n u [] = refl
families_length n u (i ∷ is) = count-families (is_none (base_of_home u i.home)) (family_at u n i) (families_from (n + 1) u is) (roots_in u is) (families_length (n + 1) u is)

pub positions_length : (n : ℕ) (u : SourceUnit) (is : List Item) → length (positions_from n u is) ≡ length is
positions_length n u [] = refl
positions_length n u (i ∷ is) = omega (arith, positions_length (n + 1) u is)

pub position_read : (n : ℕ) (u : SourceUnit) (is : List Item) (k : ℕ) (d : ℕ × ℕ) → k < length is → get_or (positions_from n u is) k d ≡ position u (n + k)
position_read n u [] k d b = absurd (omega (arith, b))
position_read n u (i ∷ is) zero d b = let e : n ≡ n + 0 = omega arith in ap (position u) e
position_read n u (i ∷ is) (suc k) d b = let e : n + 1 + k ≡ n + suc k = omega arith in position_read (n + 1) u is k d (omega (arith, b)) ∙ ap (position u) e

few-more : (root : Bool) (n a : ℕ) → n ≤ a → cond root 1 0 + n ≤ suc a
few-more true n a h = omega (arith, h)
few-more false n a h = omega (arith, h)

pub roots_few : (u : SourceUnit) (a : ℕ) (is : List Item) → roots_in u (take a is) ≤ a
roots_few u zero is = omega arith
roots_few u (suc a) [] = omega arith
roots_few u (suc a) (i ∷ is) = few-more (is_none (base_of_home u i.home)) (roots_in u (take a is)) a (roots_few u a is)

-- roots before another are fewer
pub roots_past : (u : SourceUnit) (is : List Item) (a b : ℕ) (i : Item) → a < b → slice_get is a ≡ Some i → base_of_home u i.home ≡ None → roots_in u (take a is) < roots_in u (take b is)
roots_past u [] a b i lt e h = absurd (none-some i e)
roots_past u (j ∷ js) a zero i lt e h = absurd (omega (arith, lt))
roots_past u (j ∷ js) zero (suc b) i lt e h =
    let one : ℕ = 1 in
    let c : cond (is_none (base_of_home u j.home)) 1 0 ≡ one = ap (λ x. cond (is_none (base_of_home u x.home)) 1 0) (same_Some j i e) ∙ ap (λ o. cond (is_none o) 1 0) h in
    omega (arith, c)
roots_past u (j ∷ js) (suc a) (suc b) i lt e h = let rest = roots_past u js a b i (omega (arith, lt)) e h in omega (arith, rest)

pub home_read : (u : SourceUnit) (k : ℕ) (homes : List (ℕ × ℕ)) → k < length u.items → homes ≡ positions_from 0 u u.items → get_or homes k (0, 0) ≡ position u k
home_read u k homes b e =
    let z : 0 + k ≡ k = omega arith in
    ap (λ (hs : List (ℕ × ℕ)). get_or hs k (0, 0)) e ∙ position_read 0 u u.items k (0, 0) b ∙ ap (position u) z

pub homes_length : (u : SourceUnit) (homes : List (ℕ × ℕ)) → homes ≡ positions_from 0 u u.items → length homes ≡ length u.items
homes_length u homes e = ap length e ∙ positions_length 0 u u.items
