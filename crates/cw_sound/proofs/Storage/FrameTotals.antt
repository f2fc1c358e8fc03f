-- The families that begin in a frame have together no more words than the area of the frame.
use Rattle.std.proofs.Common.{◌≡◌, ℕ, ◌+◌, ◌-◌, ◌≤◌, max, List, [], ◌∷◌, ◌++◌, Bool, true, false, Option, Some, None, nat_eq, refl, sym, ap, ap₂, subst, ◌∙◌, inl, inr, arith, eqb-true}
use Rattle.std.proofs.lemmas.Bool.{eq-eqb}
use Rattle.std.proofs.lemmas.Option.{none-some, same_Some}
use Rattle.cw_table.specs.declared.table.Row.{Row}
use Rattle.cw_items.specs.declared.families.Site.{Site}
use Rattle.cw_items.specs.declared.thing.Thing.{Thing}
use Rattle.cw_items.specs.Families.{Counts, count_in, with_count, site_of, Known, nothing_known, all_known, with_thing, things_judged, end_of, growth, area_with, with_area, has_room}
use Rattle.cw_sound.proofs.Items.Lists.{In, in-left, in-right, each-in}
use Rattle.cw_sound.proofs.Items.Room.{count-same, count-other, room-of, area, room-within}
use Rattle.cw_macro.specs.Premises.{Each}

-- ---- sums

abbrev pub total : Counts → List ℕ → ℕ
total cs [] = 0
total cs (r ∷ rs) = count_in cs r + total cs rs

abbrev pub Distinct : List ℕ → Type 0
Distinct [] = Unit {0}
Distinct (r ∷ rs) = (In r rs → ⊥) × Distinct rs

total_other : (cs : Counts) (k v : ℕ) (rs : List ℕ) → (In k rs → ⊥) → total (with_count cs k v) rs ≡ total cs rs
total_other cs k v [] h = refl
total_other cs k v (r ∷ rs) h = ap₂ (λ a b. a + b) (count-other cs k v r (λ e. h (inl (sym e)))) (total_other cs k v rs (λ i. h (inr i)))

pub not_equal : (a b : ℕ) → nat_eq a b ≡ false → a ≡ b → ⊥
not_equal a b t e = absurd (let no : true ≡ false = sym (eq-eqb a b e) ∙ t in absurd cc)

total_more : (cs : Counts) (k v : ℕ) (rs : List ℕ) → Distinct rs → total (with_count cs k v) rs ≤ total cs rs + (v - count_in cs k)
total_more cs k v [] d = omega arith
total_more cs k v (r ∷ rs) d = of_test (nat_eq r k) refl (total_more cs k v rs d.1)
  where
    of_test : (b : Bool) → nat_eq r k ≡ b → total (with_count cs k v) rs ≤ total cs rs + (v - count_in cs k) → total (with_count cs k v) (r ∷ rs) ≤ total cs (r ∷ rs) + (v - count_in cs k)
    of_test true t rest =
        let e : r ≡ k = eqb-true r k t in
        let a : count_in (with_count cs k v) r ≡ v = ap (count_in (with_count cs k v)) e ∙ count-same cs k v in
        let c : count_in cs r ≡ count_in cs k = ap (count_in cs) e in
        let b : total (with_count cs k v) rs ≡ total cs rs = total_other cs k v rs (λ i. d.0 (subst (λ x. In x rs) (sym e) i)) in
        omega (arith, a, b, c)
    of_test false t rest =
        let a : count_in (with_count cs k v) r ≡ count_in cs r = count-other cs k v r (not_equal r k t) in
        omega (arith, a, rest)

-- ---- roots of one frame

-- what has this root stands in the frame
abbrev pub OnlyIn : List (Row Site) → (frame root : ℕ) → Type 0
OnlyIn sites f r = (y : Row Site) → In y sites → y.item.root ≡ r → y.item.frame ≡ Some f

abbrev pub Held : (frame : ℕ) → Known → Type 0
Held f k = (rs : List ℕ) → Distinct rs → Each (OnlyIn k.sites f) rs → total k.extents rs ≤ count_in k.frames f

older : (f : ℕ) (sites : List (Row Site)) (q : Row Site) (rs : List ℕ) → Each (OnlyIn (sites ++ q ∷ []) f) rs → Each (OnlyIn sites f) rs
older f sites q [] h = tt
older f sites q (r ∷ rs) h = ((λ y i e. h.0 y (in-left y sites (q ∷ []) i) e), older f sites q rs h.1)

-- a new site of another frame has none of the roots
elsewhere : (f root : ℕ) (sites : List (Row Site)) (q : Row Site) (rs : List ℕ) → q.item.root ≡ root → (q.item.frame ≡ Some f → ⊥) → Each (OnlyIn (sites ++ q ∷ []) f) rs → In root rs → ⊥
elsewhere f root sites q rs e away only i = away (each-in (OnlyIn (sites ++ q ∷ []) f) rs only root i q (in-right q sites (q ∷ []) (inl refl)) e)

held_next : (f root v w : ℕ) (k : Known) (q : Row Site) (fr : Option ℕ) → q.item.root ≡ root → q.item.frame ≡ fr → w ≡ area k fr + (v - count_in k.extents root) → Held f k
    → Held f (with_area k (k.sites ++ q ∷ []) (with_count k.extents root v) fr w)
held_next f root v w k q None at frame more h rs d only =
    let a : total (with_count k.extents root v) rs ≡ total k.extents rs = total_other k.extents root v rs (elsewhere f root k.sites q rs at (λ e. none-some f (sym frame ∙ e)) only) in
    let b : total k.extents rs ≤ count_in k.frames f = h rs d (older f k.sites q rs only) in
    omega (arith, a, b)
held_next f root v w k q (Some g) at frame more h rs d only = of_test (nat_eq f g) refl (h rs d (older f k.sites q rs only))
  where
    of_test : (b : Bool) → nat_eq f g ≡ b → total k.extents rs ≤ count_in k.frames f → total (with_count k.extents root v) rs ≤ count_in (with_count k.frames g w) f
    of_test true t before =
        let e : f ≡ g = eqb-true f g t in
        let a : count_in (with_count k.frames g w) f ≡ w = ap (count_in (with_count k.frames g w)) e ∙ count-same k.frames g w in
        let c : count_in k.frames f ≡ count_in k.frames g = ap (count_in k.frames) e in
        let b : total (with_count k.extents root v) rs ≤ total k.extents rs + (v - count_in k.extents root) = total_more k.extents root v rs d in
        omega (arith, a, b, c, before, more)
    of_test false t before =
        let a : total (with_count k.extents root v) rs ≡ total k.extents rs =
        total_other k.extents root v rs (elsewhere f root k.sites q rs at (λ e. not_equal f g t (sym (same_Some g f (sym frame ∙ e)))) only) in
        let c : count_in (with_count k.frames g w) f ≡ count_in k.frames f = count-other k.frames g w f (not_equal f g t) in
        omega (arith, a, c, before)

few_next : (f w : ℕ) (k : Known) (sites : List (Row Site)) (cs : Counts) (fr : Option ℕ) → w ≤ 32768 → count_in k.frames f ≤ 32768 → count_in (with_area k sites cs fr w).frames f ≤ 32768
few_next f w k sites cs None l h = h
few_next f w k sites cs (Some g) l h = of_test (nat_eq f g) refl
  where
    of_test : (b : Bool) → nat_eq f g ≡ b → count_in (with_count k.frames g w) f ≤ 32768
    of_test true t = let a : count_in (with_count k.frames g w) f ≡ w = ap (count_in (with_count k.frames g w)) (eqb-true f g t) ∙ count-same k.frames g w in omega (arith, a, l)
    of_test false t = let a : count_in (with_count k.frames g w) f ≡ count_in k.frames f = count-other k.frames g w f (not_equal f g t) in omega (arith, a, h)

abbrev pub Fits : (frame : ℕ) → Known → Type 0
Fits f k = Held f k × (count_in k.frames f ≤ 32768)

fits_next : (f : ℕ) (k : Known) (t : Thing) → has_room k t (site_of k.sites t) ≡ true → Fits f k → Fits f (with_thing k t)
fits_next f k t room h =
    let s = site_of k.sites t in
    let x = count_in k.extents s.root in
    let e = end_of t s in
    let w = area_with k s.frame (growth k s e) in
    let q : Row Site = record { token = t.at.token; item = s } in
    let r = room-within k s.frame (e - x) room in
    let same = r.1 in
    let few = r.0 in
    let more : w ≡ area k s.frame + (max x e - x) = omega (arith, same) in
    let small : w ≤ 32768 = omega (arith, same, few) in
    (held_next f s.root (max x e) w k q s.frame refl refl more h.0, few_next f w k (k.sites ++ q ∷ []) (with_count k.extents s.root (max x e)) s.frame small h.1)

all_fit : (f : ℕ) (k : Known) (ts : List Thing) → things_judged k ts None ≡ None → Fits f k → Fits f (all_known k ts)
all_fit f k [] free h = h
all_fit f k (t ∷ ts) free h = all_fit f (with_thing k t) ts (room-of k t ts free).1 (fits_next f k t (room-of k t ts free).0 h)

none_held : (rs : List ℕ) → total [] rs ≡ 0
none_held [] = refl
none_held (r ∷ rs) = let h = none_held rs in omega (arith, h)

-- families whose roots stand in one frame have together at most the words of an area
pub frame_total : (f : ℕ) (ts : List Thing) → things_judged nothing_known ts None ≡ None → (rs : List ℕ) → Distinct rs → Each (OnlyIn (all_known nothing_known ts).sites f) rs → total (all_known nothing_known ts).extents rs ≤ 32768
frame_total f ts free rs d only =
    let all = all_fit f nothing_known ts free ((λ xs e o. let z = none_held xs in omega (arith, z)), omega arith) in
    let a = all.0 rs d only in
    let b = all.1 in
    omega (arith, a, b)
