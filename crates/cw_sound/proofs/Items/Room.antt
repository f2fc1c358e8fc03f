-- Where each area has room, each thing ends within it.
use Rattle.std.proofs.Common.{◌≡◌, ℕ, zero, suc, ◌+◌, ◌-◌, ◌<◌, ◌≤◌, max, take, slice_get, append-nil, append_assoc, List, [], ◌∷◌, ◌++◌, Bool, true, false, cond, Option, Some, None, nat_eq, nat_le, refl, sym, ap, subst, ◌∙◌, ◌⊎◌, inl, inr, arith, eqb-true}
use Rattle.std.specs.Map.{lookup}
use Rattle.std.proofs.lemmas.Bool.{eq-eqb}
use Rattle.std.proofs.lemmas.Bool.Decides.{nat_tests}
use Rattle.std.proofs.lemmas.Option.{none-some, same_Some}
use Rattle.cw_table.specs.declared.table.Row.{Row}
use Rattle.cw_table.specs.Rows.{item_at}
use Rattle.cw_items.specs.declared.families.Site.{Site}
use Rattle.cw_items.specs.declared.thing.Base.{Base}
use Rattle.cw_items.specs.declared.thing.Thing.{Thing}
use Rattle.cw_items.specs.Things.{capped, amount_or_none}
use Rattle.cw_items.specs.Families.{Counts, count_in, with_count, site_on, site_by, site_of, Known, nothing_known, all_known, with_thing, thing_judged, things_judged, end_of, growth, area_with, with_area, with_site, has_room}
use Rattle.cw_scale.specs.declared.fault.Rule.TheVariants as rule
use Rattle.cw_sound.specs.Items.Derived.{IsRising}
use Rattle.cw_sound.proofs.Items.Lists.{In, in-either}
use Rattle.cw_sound.proofs.Items.Numbering.{tokens_of_things, found-here, found-later}
use Rattle.cw_sound.proofs.Expressions.Judging.{Keeps, keeps_fine, keeps_both, keeps_unless, both_free, holds}

-- ---- counts

pub count-same : (cs : Counts) (k v : ℕ) → count_in (with_count cs k v) k ≡ v
count-same [] k v = ap (λ b. amount_or_none (cond b (Some v) None)) (eq-eqb k k refl)
count-same (e ∷ cs) k v = of-test (nat_eq k e.0) refl (count-same cs k v)
  where
    of-test : (b : Bool) → nat_eq k e.0 ≡ b → count_in (with_count cs k v) k ≡ v → count_in (cond b ((e.0, v) ∷ cs) (e ∷ with_count cs k v)) k ≡ v
    of-test true t h = ap (λ b. amount_or_none (cond b (Some v) (lookup (nat_eq k) cs))) t
    of-test false t h = ap (λ b. amount_or_none (cond b (Some e.1) (lookup (nat_eq k) (with_count cs k v)))) t ∙ h

differ : (a b : ℕ) → (a ≡ b → ⊥) → nat_eq a b ≡ false
differ a b h = grind (arith, nat_tests)

pub count-other : (cs : Counts) (k v q : ℕ) → (q ≡ k → ⊥) → count_in (with_count cs k v) q ≡ count_in cs q
count-other [] k v q h = ap (λ b. amount_or_none (cond b (Some v) None)) (differ q k h)
count-other (e ∷ cs) k v q h = of-test (nat_eq k e.0) refl (nat_eq q e.0) refl (count-other cs k v q h)
  where
    of-test : (b : Bool) → nat_eq k e.0 ≡ b → (c : Bool) → nat_eq q e.0 ≡ c → count_in (with_count cs k v) q ≡ count_in cs q → count_in (cond b ((e.0, v) ∷ cs) (e ∷ with_count cs k v)) q ≡ count_in (e ∷ cs) q
    of-test true t true c r = absurd (h (eqb-true q e.0 c ∙ sym (eqb-true k e.0 t)))
    of-test true t false c r = ap (λ b. amount_or_none (cond b (Some v) (lookup (nat_eq q) cs))) c ∙ sym (ap (λ b. amount_or_none (cond b (Some e.1) (lookup (nat_eq q) cs))) c)
    of-test false t true c r = ap (λ b. amount_or_none (cond b (Some e.1) (lookup (nat_eq q) (with_count cs k v)))) c ∙ sym (ap (λ b. amount_or_none (cond b (Some e.1) (lookup (nat_eq q) cs))) c)
    of-test false t false c r = ap (λ b. amount_or_none (cond b (Some e.1) (lookup (nat_eq q) (with_count cs k v)))) c ∙ r ∙ sym (ap (λ b. amount_or_none (cond b (Some e.1) (lookup (nat_eq q) cs))) c)

-- ---- areas

-- the words of the area of a frame, or of the rest
abbrev pub area : Known → Option ℕ → ℕ
area k None = k.rest
area k (Some f) = count_in k.frames f

capped-within : (n : ℕ) → nat_le (capped n) 32768 ≡ true → (n ≤ 32768) × (capped n ≡ n)
capped-within n h = of-test (nat_le n 32768) refl h
  where
    of-test : (b : Bool) → nat_le n 32768 ≡ b → nat_le (cond b n 32769) 32768 ≡ true → (n ≤ 32768) × (cond b n 32769 ≡ n)
    of-test true t e = (grind (arith, nat_tests), refl)
    of-test false t e = absurd cc

pub room-within : (k : Known) (f : Option ℕ) (n : ℕ) → nat_le (area_with k f n) 32768 ≡ true → (area k f + n ≤ 32768) × (area_with k f n ≡ area k f + n)
room-within k None n h = capped-within (k.rest + n) h
room-within k (Some f) n h = capped-within (count_in k.frames f + n) h

area-here : (k : Known) (sites : List (Row Site)) (extents : Counts) (f : Option ℕ) (w : ℕ) → area (with_area k sites extents f w) f ≡ w
area-here k sites extents None w = refl
area-here k sites extents (Some f) w = count-same k.frames f w

frames-grow : (k : Known) (f g w : ℕ) (b : Bool) → nat_eq g f ≡ b → count_in k.frames f ≤ w → count_in k.frames g ≤ count_in (with_count k.frames f w) g
frames-grow k f g w true t h = let e : g ≡ f = eqb-true g f t in subst (λ x. count_in k.frames x ≤ count_in (with_count k.frames f w) x) (sym e) (let s = count-same k.frames f w in omega (arith, s, h))
frames-grow k f g w false t h = let s = count-other k.frames f w g (λ e. absurd (let no : true ≡ false = sym (eq-eqb g f e) ∙ t in absurd cc)) in omega (arith, s)

area-grows : (k : Known) (sites : List (Row Site)) (extents : Counts) (f g : Option ℕ) (w : ℕ) → area k f ≤ w → area k g ≤ area (with_area k sites extents f w) g
area-grows k sites extents None None w h = h
area-grows k sites extents None (Some g) w h = omega arith
area-grows k sites extents (Some f) None w h = omega arith
area-grows k sites extents (Some f) (Some g) w h = frames-grow k f g w (nat_eq g f) refl h

sites-of : (k : Known) (sites : List (Row Site)) (extents : Counts) (f : Option ℕ) (w : ℕ) → (with_area k sites extents f w).sites ≡ sites
sites-of k sites extents None w = refl
sites-of k sites extents (Some f) w = refl

pub extents-of : (k : Known) (sites : List (Row Site)) (extents : Counts) (f : Option ℕ) (w : ℕ) → (with_area k sites extents f w).extents ≡ extents
extents-of k sites extents None w = refl
extents-of k sites extents (Some f) w = refl

-- ---- what is known of things so far, whose tokens are below a number

pub record Orderly (n : ℕ) (k : Known) : Type 0 where
  pub bounded : (r : Row Site) → In r k.sites → r.item.root < n
  pub held : (r : Row Site) → In r k.sites → count_in k.extents r.item.root ≤ area k r.item.frame
  pub agree : (r q : Row Site) → In r k.sites → In q k.sites → r.item.root ≡ q.item.root → r.item.frame ≡ q.item.frame
  pub fresh : (r : ℕ) → n ≤ r → count_in k.extents r ≡ 0

-- the site of a thing: its own, or that of one before it
data Sited (k : Known) (t : Thing) : Type 0 where
  own : (root : (site_of k.sites t).root ≡ t.at.token) → Sited k t
  on : (r : Row Site) (there : In r k.sites) (root : (site_of k.sites t).root ≡ r.item.root) (frame : (site_of k.sites t).frame ≡ r.item.frame) → Sited k t

pub row-found : (rs : List (Row Site)) (token : ℕ) (s : Site) → item_at rs token ≡ Some s → (r : Row Site) × In r rs × (r.item ≡ s)
row-found [] token s e = absurd (none-some s e)
row-found (r ∷ rs) token s e = of-test (nat_eq token r.token) refl (row-found rs token s)
  where
    of-test : (b : Bool) → nat_eq token r.token ≡ b → (item_at rs token ≡ Some s → (q : Row Site) × In q rs × (q.item ≡ s)) → (q : Row Site) × In q (r ∷ rs) × (q.item ≡ s)
    of-test true t rest = (r, inl refl, same_Some r.item s (sym (found-here r rs token (eqb-true token r.token t)) ∙ e))
    of-test false t rest = let q = rest (sym (found-later r rs token (λ x. absurd (let no : true ≡ false = sym (eq-eqb token r.token x) ∙ t in absurd cc))) ∙ e) in (q.0, inr q.1, q.2)

sited-by : (k : Known) (t : Thing) (o : Option Base) → t.base ≡ o → Sited k t
sited-by k t None e = own (ap (λ b. (site_by k.sites b t).root) e)
sited-by k t (Some b) e = of-site (item_at k.sites b.token) refl
  where
    of-site : (s : Option Site) → item_at k.sites b.token ≡ s → Sited k t
    of-site None f = own (ap (λ x. (site_by k.sites x t).root) e ∙ ap (λ x. (site_on x b t).root) f)
    of-site (Some s) f =
        let q = row-found k.sites b.token s f in
        on q.0 q.1 (ap (λ x. (site_by k.sites x t).root) e ∙ ap (λ x. (site_on x b t).root) f ∙ ap (λ (x : Site). x.root) (sym q.2)) (ap (λ x. (site_by k.sites x t).frame) e ∙ ap (λ x. (site_on x b t).frame) f ∙ ap (λ (x : Site). x.frame) (sym q.2))

sited : (k : Known) (t : Thing) → Sited k t
sited k t = sited-by k t t.base refl

-- its family is within its area so far
family-within : (n : ℕ) (k : Known) (t : Thing) → Orderly n k → n ≤ t.at.token → Sited k t → count_in k.extents (site_of k.sites t).root ≤ area k (site_of k.sites t).frame
family-within n k t o l (own root) = let z : count_in k.extents (site_of k.sites t).root ≡ 0 = ap (count_in k.extents) root ∙ o.fresh t.at.token l in omega (arith, z)
family-within n k t o l (on r there root frame) =
    subst (λ x. count_in k.extents x ≤ area k (site_of k.sites t).frame) (sym root) (subst (λ f. count_in k.extents r.item.root ≤ area k f) (sym frame) (o.held r there))

-- so it ends within the limit
pub ends-within : (n : ℕ) (k : Known) (t : Thing) → Orderly n k → n ≤ t.at.token → has_room k t (site_of k.sites t) ≡ true → (site_of k.sites t).place + t.words ≤ 32768
ends-within n k t o l room =
    let s = site_of k.sites t in
    let x = count_in k.extents s.root in
    let e = end_of t s in
    let w = room-within k s.frame (e - x) room in
    let h : x ≤ area k s.frame = family-within n k t o l (sited k t) in
    let c : capped (s.place + t.words) ≤ 32768 = omega (arith, w.0, h) in
    (capped-within (s.place + t.words) (le-true (capped (s.place + t.words)) 32768 c)).0
  where
    le-true : (a b : ℕ) → a ≤ b → nat_le a b ≡ true
    le-true a b h = grind (arith, nat_tests)

module _ (n : ℕ) (k : Known) (t : Thing) (o : Orderly n k) (l : n ≤ t.at.token) (room : has_room k t (site_of k.sites t) ≡ true) where
  abbrev s : Site
  s = site_of k.sites t

  abbrev x : ℕ
  x = count_in k.extents (site_of k.sites t).root

  abbrev e : ℕ
  e = end_of t (site_of k.sites t)

  abbrev after : Known
  after = with_site k t (site_of k.sites t)

  abbrev new : Row Site
  new = record { token = t.at.token; item = site_of k.sites t }

  fits : (area k s.frame + (e - x) ≤ 32768) × (area_with k s.frame (e - x) ≡ area k s.frame + (e - x))
  fits = room-within k s.frame (e - x) room

  small : x ≤ area k s.frame
  small = family-within n k t o l (sited k t)

  sites-after : after.sites ≡ k.sites ++ new ∷ []
  sites-after = sites-of k (k.sites ++ new ∷ []) (with_count k.extents s.root (max x e)) s.frame (area_with k s.frame (growth k s e))

  extents-after : after.extents ≡ with_count k.extents s.root (max x e)
  extents-after = extents-of k (k.sites ++ new ∷ []) (with_count k.extents s.root (max x e)) s.frame (area_with k s.frame (growth k s e))

  area-after : area after s.frame ≡ area k s.frame + (e - x)
  area-after = area-here k (k.sites ++ new ∷ []) (with_count k.extents s.root (max x e)) s.frame (area_with k s.frame (growth k s e)) ∙ fits.1

  grows : (g : Option ℕ) → area k g ≤ area after g
  grows g = area-grows k (k.sites ++ new ∷ []) (with_count k.extents s.root (max x e)) s.frame g (area_with k s.frame (growth k s e)) (let f = fits.1 in omega (arith, f))

  in-after : (r : Row Site) → In r after.sites → In r k.sites ⊎ (r ≡ new)
  in-after r i = elim (in-either r k.sites (new ∷ []) (subst (In r) sites-after i)) [ inl j ↦ inl j | inr j ↦ inr (only r j) ]
    where
      only : (r : Row Site) → In r (record { token = t.at.token; item = site_of k.sites t } ∷ []) → r ≡ record { token = t.at.token; item = site_of k.sites t }
      only r (inl h) = h
      only r (inr h) = absurd h

  old-frame : (r : Row Site) → In r k.sites → Sited k t → r.item.root ≡ s.root → r.item.frame ≡ s.frame
  old-frame r i (own root) h = let b = o.bounded r i in absurd (omega (arith, b, l, h, root))
  old-frame r i (on q there root frame) h = o.agree r q i there (h ∙ root) ∙ sym frame

  root-below : Sited k t → s.root < suc t.at.token
  root-below (own root) = omega (arith, root)
  root-below (on q there root frame) = let b = o.bounded q there in omega (arith, b, l, root)

  held-after : (r : ℕ) (f : Option ℕ) (b : Bool) → nat_eq r s.root ≡ b → (r ≡ s.root → f ≡ s.frame) → count_in k.extents r ≤ area k f → count_in after.extents r ≤ area after f
  held-after r f true c same h =
      let q : r ≡ s.root = eqb-true r s.root c in
      let here : count_in after.extents s.root ≡ max x e = ap (λ (cs : Counts). count_in cs s.root) extents-after ∙ count-same k.extents s.root (max x e) in
      let most : count_in after.extents s.root ≤ area after s.frame = omega (arith, here, area-after, small) in
      subst (λ y. count_in after.extents y ≤ area after f) (sym q) (subst (λ g. count_in after.extents s.root ≤ area after g) (sym (same q)) most)
  held-after r f false c same h =
      let other : count_in after.extents r ≡ count_in k.extents r =
      ap (λ (cs : Counts). count_in cs r) extents-after ∙ count-other k.extents s.root (max x e) r (λ q. absurd (let no : true ≡ false = sym (eq-eqb r s.root q) ∙ c in absurd cc)) in
      let more = grows f in
      omega (arith, other, more, h)

  bounded-after : (r : Row Site) → In r after.sites → r.item.root < suc t.at.token
  bounded-after r i = elim (in-after r i) [
    | inl j ↦ (let b = o.bounded r j in omega (arith, b, l))
    | inr h ↦ subst (λ (q : Row Site). q.item.root < suc t.at.token) (sym h) (root-below (sited k t))
  ]

  each-held : (r : Row Site) → In r after.sites → count_in after.extents r.item.root ≤ area after r.item.frame
  each-held r i = elim (in-after r i) [
    | inl j ↦ held-after r.item.root r.item.frame (nat_eq r.item.root s.root) refl (old-frame r j (sited k t)) (o.held r j)
    | inr h ↦ subst (λ (q : Row Site). count_in after.extents q.item.root ≤ area after q.item.frame) (sym h) (held-after s.root s.frame (nat_eq s.root s.root) refl (λ q. refl) small)
  ]

  all-agree : (r q : Row Site) → In r after.sites → In q after.sites → r.item.root ≡ q.item.root → r.item.frame ≡ q.item.frame
  all-agree r q i j h = elim (in-after r i) [
    | inl a ↦ elim (in-after q j) [ inl b ↦ o.agree r q a b h | inr b ↦ old-frame r a (sited k t) (h ∙ ap (λ (y : Row Site). y.item.root) b) ∙ sym (ap (λ (y : Row Site). y.item.frame) b) ]
    | inr a ↦ elim (in-after q j) [
      | inl b ↦ ap (λ (y : Row Site). y.item.frame) a ∙ sym (old-frame q b (sited k t) (sym h ∙ ap (λ (y : Row Site). y.item.root) a))
      | inr b ↦ ap (λ (y : Row Site). y.item.frame) a ∙ sym (ap (λ (y : Row Site). y.item.frame) b)
    ]
  ]

  all-fresh : (r : ℕ) → suc t.at.token ≤ r → count_in after.extents r ≡ 0
  all-fresh r h =
      let below = root-below (sited k t) in
      ap (λ (cs : Counts). count_in cs r) extents-after ∙ count-other k.extents s.root (max x e) r (λ q. absurd (omega (arith, below, h, q))) ∙ o.fresh r (omega (arith, l, h))

  pub orderly-next : Orderly (suc t.at.token) (with_site k t (site_of k.sites t))
  orderly-next = record { bounded = bounded-after; held = each-held; agree = all-agree; fresh = all-fresh }

pub orderly-first : (n : ℕ) → Orderly n nothing_known
orderly-first n = record { bounded = λ r i. absurd i; held = λ r i. absurd i; agree = λ r q i. absurd i; fresh = λ r h. refl }

-- ---- all things of a text

keeps_things : (k : Known) (ts : List Thing) → Keeps (things_judged k ts)
keeps_things k [] = keeps_fine
keeps_things k (t ∷ ts) = keeps_both (keeps_unless (has_room k t (site_of k.sites t)) rule.TooMany t.at) (keeps_things (with_thing k t) ts)

pub room-of : (k : Known) (t : Thing) (ts : List Thing) → things_judged k (t ∷ ts) None ≡ None → (has_room k t (site_of k.sites t) ≡ true) × (things_judged (with_thing k t) ts None ≡ None)
room-of k t ts free =
    let parts = both_free (thing_judged k t) (things_judged (with_thing k t) ts) (keeps_things (with_thing k t) ts) free in
    (holds (has_room k t (site_of k.sites t)) rule.TooMany t.at parts.0, parts.1)

-- the site of the thing at a place
abbrev pub site_at : Known → List Thing → (i : ℕ) → Thing → Site
site_at k ts i t = site_of (all_known k (take i ts)).sites t

pub ends : (n : ℕ) (k : Known) (ts : List Thing) → Orderly n k → IsRising n (tokens_of_things ts) → things_judged k ts None ≡ None → (i : ℕ) (t : Thing) → slice_get ts i ≡ Some t → (site_at k ts i t).place + t.words ≤ 32768
ends n k [] o r free i t e = absurd (none-some t e)
ends n k (x ∷ ts) o r free zero t e =
    subst (λ (y : Thing). (site_of k.sites y).place + y.words ≤ 32768) (same_Some x t e) (ends-within n k x o r.0 (room-of k x ts free).0)
ends n k (x ∷ ts) o r free (suc i) t e = ends (suc x.at.token) (with_thing k x) ts (orderly-next n k x o r.0 (room-of k x ts free).0) r.1 (room-of k x ts free).1 i t e

-- ---- what the sites are

abbrev Below : ℕ → List (Row Site) → Type 0
Below n rs = (r : Row Site) → In r rs → r.token < n

abbrev new_row : Known → Thing → Row Site
new_row k t = record { token = t.at.token; item = site_of k.sites t }

with-sites : (k : Known) (t : Thing) → (with_thing k t).sites ≡ k.sites ++ new_row k t ∷ []
with-sites k t =
    let s = site_of k.sites t in
    sites-of k (k.sites ++ new_row k t ∷ []) (with_count k.extents s.root (max (count_in k.extents s.root) (end_of t s))) s.frame (area_with k s.frame (growth k s (end_of t s)))

more-sites : (k : Known) (ts : List Thing) → (more : List (Row Site)) × ((all_known k ts).sites ≡ k.sites ++ more)
more-sites k [] = ([], sym (append-nil k.sites))
more-sites k (t ∷ ts) =
    let m = more-sites (with_thing k t) ts in
    (new_row k t ∷ m.0, m.1 ∙ ap (λ rs. rs ++ m.0) (with-sites k t) ∙ append_assoc k.sites (new_row k t ∷ []) m.0)

below-next : (n : ℕ) (k : Known) (t : Thing) → Below n k.sites → n ≤ t.at.token → Below (suc t.at.token) (with_thing k t).sites
below-next n k t h l r i = elim (in-either r k.sites (new_row k t ∷ []) (subst (In r) (with-sites k t) i)) [
  | inl j ↦ (let b = h r j in omega (arith, b, l))
  | inr j ↦ of-new j
]
  where
    of-new : In r (new_row k t ∷ []) → r.token < suc t.at.token
    of-new (inl e) = let q : r.token ≡ t.at.token = ap (λ (y : Row Site). y.token) e in omega (arith, q)
    of-new (inr j) = absurd j

found-behind : (rs : List (Row Site)) (q : Row Site) (more : List (Row Site)) → ((r : Row Site) → In r rs → q.token ≡ r.token → ⊥) → item_at (rs ++ q ∷ more) q.token ≡ Some q.item
found-behind [] q more h = found-here q more q.token refl
found-behind (r ∷ rs) q more h = found-later r (rs ++ q ∷ more) q.token (h r (inl refl)) ∙ found-behind rs q more (λ x i. h x (inr i))

pub site-found : (n : ℕ) (k : Known) (ts : List Thing) → IsRising n (tokens_of_things ts) → Below n k.sites → (i j : ℕ) (t : Thing) → j < i → slice_get ts j ≡ Some t → item_at (all_known k (take i ts)).sites t.at.token ≡ Some (site_at k ts j t)
site-found n k [] r b i j t l e = absurd (none-some t e)
site-found n k (x ∷ ts) r b zero j t l e = absurd (omega (arith, l))
site-found n k (x ∷ ts) r b (suc i) zero t l e =
    let same : x ≡ t = same_Some x t e in
    let m = more-sites (with_thing k x) (take i ts) in
    let whole : (all_known (with_thing k x) (take i ts)).sites ≡ k.sites ++ new_row k x ∷ m.0 = m.1 ∙ ap (λ rs. rs ++ m.0) (with-sites k x) ∙ append_assoc k.sites (new_row k x ∷ []) m.0 in
    subst (λ (y : Thing). item_at (all_known (with_thing k x) (take i ts)).sites y.at.token ≡ Some (site_of k.sites y)) same
    (ap (λ rs. item_at rs x.at.token) whole ∙ found-behind k.sites (new_row k x) m.0 (λ q j h. let c = b q j in absurd (omega (arith, c, h, r.0))))
site-found n k (x ∷ ts) r b (suc i) (suc j) t l e = site-found (suc x.at.token) (with_thing k x) ts r.1 (below-next n k x b r.0) i j t (omega (arith, l)) e
