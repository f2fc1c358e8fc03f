-- How far families reach, when all things are known.
use Rattle.std.proofs.Common.{◌≡◌, ℕ, zero, suc, ◌≤◌, max, take, length, List, [], ◌∷◌, ◌++◌, Bool, true, false, cond, Some, None, nat_eq, nat_le, slice_get, refl, sym, ap, subst, ◌∙◌, arith, eqb-true}
use Rattle.std.proofs.lemmas.Option.{none-some, same_Some, slice_get_within}
use Rattle.cw_table.specs.Rows.{item_at}
use Rattle.cw_items.specs.declared.families.Site.{Site}
use Rattle.cw_items.specs.declared.thing.Thing.{Thing}
use Rattle.cw_items.specs.Things.{capped}
use Rattle.cw_items.specs.Families.{Counts, count_in, with_count, site_of, site_by, Known, nothing_known, all_known, with_thing, things_judged, end_of, growth, area_with, frame_of}
use Rattle.cw_sound.specs.Items.Derived.{IsRising}
use Rattle.cw_sound.proofs.Items.Numbering.{tokens_of_things}
use Rattle.cw_sound.proofs.Items.Room.{count-same, count-other, extents-of, room-of, row-found, Orderly, orderly-first, orderly-next, site_at, site-found}
use Rattle.cw_sound.proofs.Storage.FrameTotals.{OnlyIn, not_equal}

extents_with : (k : Known) (t : Thing) → let s : Site = site_of k.sites t in (with_thing k t).extents ≡ with_count k.extents s.root (max (count_in k.extents s.root) (end_of t s))
extents_with k t =
    let s : Site = site_of k.sites t in
    extents-of k (k.sites ++ record { token = t.at.token; item = s } ∷ []) (with_count k.extents s.root (max (count_in k.extents s.root) (end_of t s))) s.frame (area_with k s.frame (growth k s (end_of t s)))

grows_once : (k : Known) (t : Thing) (r : ℕ) → count_in k.extents r ≤ count_in (with_thing k t).extents r
grows_once k t r = subst (λ (cs : Counts). count_in k.extents r ≤ count_in cs r) (sym (extents_with k t)) (of_test (nat_eq r (site_of k.sites t).root) refl)
  where
    of_test : (b : Bool) → nat_eq r (site_of k.sites t).root ≡ b
        → count_in k.extents r ≤ count_in (with_count k.extents (site_of k.sites t).root (max (count_in k.extents (site_of k.sites t).root) (end_of t (site_of k.sites t)))) r
    of_test true e =
        let root = (site_of k.sites t).root in
        let v = max (count_in k.extents root) (end_of t (site_of k.sites t)) in
        let same : r ≡ root = eqb-true r root e in
        let a : count_in (with_count k.extents root v) r ≡ v = ap (count_in (with_count k.extents root v)) same ∙ count-same k.extents root v in
        let c : count_in k.extents r ≡ count_in k.extents root = ap (count_in k.extents) same in
        omega (arith, a, c)
    of_test false e =
        let root = (site_of k.sites t).root in
        let a = count-other k.extents root (max (count_in k.extents root) (end_of t (site_of k.sites t))) r (not_equal r root e) in
        omega (arith, a)

grows_all : (k : Known) (ts : List Thing) (r : ℕ) → count_in k.extents r ≤ count_in (all_known k ts).extents r
grows_all k [] r = omega arith
grows_all k (t ∷ ts) r = let a = grows_once k t r in let b = grows_all (with_thing k t) ts r in omega (arith, a, b)

-- a thing ends within its family
pub reached : (k : Known) (ts : List Thing) (i : ℕ) (t : Thing) → slice_get ts i ≡ Some t → end_of t (site_at k ts i t) ≤ count_in (all_known k ts).extents (site_at k ts i t).root
reached k [] i t e = absurd (none-some t e)
reached k (x ∷ ts) zero t e =
    let s : Site = site_of k.sites x in
    let v = max (count_in k.extents s.root) (end_of x s) in
    let a : count_in (with_thing k x).extents s.root ≡ v = ap (λ (cs : Counts). count_in cs s.root) (extents_with k x) ∙ count-same k.extents s.root v in
    let b = grows_all (with_thing k x) ts s.root in
    let c : end_of x s ≤ count_in (all_known (with_thing k x) ts).extents s.root = omega (arith, a, b) in
    subst (λ (y : Thing). end_of y (site_of k.sites y) ≤ count_in (all_known (with_thing k x) ts).extents (site_of k.sites y).root) (same_Some x t e) c
reached k (x ∷ ts) (suc i) t e = reached (with_thing k x) ts i t e

pub below_capped : (n : ℕ) → n ≤ 32768 → n ≤ capped n
below_capped n h = of_test (nat_le n 32768)
  where
    of_test : (b : Bool) → n ≤ cond b n 32769
    of_test true = omega arith
    of_test false = omega (arith, h)

orderly_all : (n : ℕ) (k : Known) (ts : List Thing) → Orderly n k → IsRising n (tokens_of_things ts) → things_judged k ts None ≡ None → (m : ℕ) × Orderly m (all_known k ts)
orderly_all n k [] o r free = (n, o)
orderly_all n k (t ∷ ts) o r free = orderly_all (suc t.at.token) (with_thing k t) ts (orderly-next n k t o r.0 (room-of k t ts free).0) r.1 (room-of k t ts free).1

take_all : (ts : List Thing) → take (length ts) ts ≡ ts
take_all [] = refl
take_all (t ∷ ts) = ap (λ xs. t ∷ xs) (take_all ts)

-- the family of a thing of a frame, which has no base, stands in that frame
pub root_only : (things : List Thing) → IsRising 1 (tokens_of_things things) → things_judged nothing_known things None ≡ None → (i : ℕ) (t : Thing) (f : ℕ) → slice_get things i ≡ Some t → t.base ≡ None → frame_of t.sort t.owner ≡ Some f
    → OnlyIn (all_known nothing_known things).sites f t.at.token
root_only things rising free i t f e none frame y there same =
    let sites = (all_known nothing_known things).sites in
    let s : Site = site_at nothing_known things i t in
    let found : item_at sites t.at.token ≡ Some s =
    ap (λ ts. item_at (all_known nothing_known ts).sites t.at.token) (sym (take_all things)) ∙ site-found 1 nothing_known things rising (λ r j. absurd j) (length things) i t (slice_get_within things i t e) e in
    let r = row-found sites t.at.token s found in
    let o = orderly_all 1 nothing_known things (orderly-first 1) rising free in
    let before = (all_known nothing_known (take i things)).sites in
    let root : s.root ≡ t.at.token = ap (λ b. (site_by before b t).root) none in
    let own : s.frame ≡ Some f = ap (λ b. (site_by before b t).frame) none ∙ frame in
    o.1.agree y r.0 there r.1 (same ∙ sym root ∙ ap (λ (z : Site). z.root) (sym r.2)) ∙ ap (λ (z : Site). z.frame) r.2 ∙ own
