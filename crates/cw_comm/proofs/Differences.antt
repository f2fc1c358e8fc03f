-- The first difference between descriptors of a name is found by looking at each in turn, against the first listing of its name alone: as long as
-- none was found, all listings before are equal.
use Rattle.std.proofs.Common.{◌≡◌, ◌≢◌, inl, inr, ℕ, zero, suc, ◌+◌, ◌<◌, Bool, true, false, cond, List, [], ◌∷◌, length, Some, refl, sym, ap, subst, ◌∙◌, arith}
use Rattle.std.specs.Prelude.{slice_get}
use Rattle.std.specs.Str.{bytes_eq}
use Rattle.std.proofs.lemmas.Bool.{cases_eq}
use Rattle.std.proofs.lemmas.Slice.Eq.{bytes_eq-Decides}
use Rattle.cw_unit.specs.declared.descriptor.Desc.{Desc}
use Rattle.cw_comm.specs.declared.face.Face.{Face}
use Rattle.cw_comm.specs.Agreement.{Name, listing_of, Listing, as_listed}
use Rattle.cw_comm.specs.Clashes.{Names, Lists, IsDifference, IsFirst, NoneBefore, IsFirstLister}
use Rattle.cw_comm.proofs.Firsts.{name_is, told_is, one_more, first_here}

some : {A : Type 0} (x y : A) → Some x ≡ Some y → x ≡ y
some x y e = cc

-- ---- what stands where

record At (ds : List Desc) (n : Name) (x : Desc) : Type 0 where
  place : ℕ
  there : slice_get ds place ≡ Some x
  named : x.name ≡ n

at_head : (b : Bool) (n : Name) (d : Desc) (ds : List Desc) (x : Desc) → (b ≡ true → n ≡ d.name) → (listing_of n ds ≡ Some x → At ds n x) → cond b (Some d) (listing_of n ds) ≡ Some x → At (d ∷ ds) n x
at_head true n d ds x same more e = let is : d ≡ x = some d x e in record { place = 0; there = e; named = ap (λ (z : Desc). z.name) (sym is) ∙ sym (same refl) }
at_head false n d ds x same more e = let a = more e in record { place = suc a.place; there = a.there; named = a.named }

listed_at : (n : Name) (ds : List Desc) (x : Desc) → listing_of n ds ≡ Some x → At ds n x
listed_at n [] x e = absurd cc
listed_at n (d ∷ ds) x e = at_head (bytes_eq n d.name) n d ds x (λ h. (bytes_eq-Decides n d.name).0 h) (listed_at n ds x) e

names_at : (faces : List Face) (i : ℕ) (n : Name) (x : Listing) → Lists faces i n x → (d : ℕ) × Names faces i d n
names_at faces i n x l =
    let a = listed_at n l.face.descs l.desc l.descriptor_is in
    (a.place, record { face = l.face; desc = l.desc; segment_is = l.segment_is; descriptor_is = a.there; name_is = a.named })

-- ---- none so far

-- its name was not listed before
pub next_new : (faces : List Face) (j d : ℕ) (name : Name) → Names faces j d name → ((i : ℕ) (x : Listing) → i < j → Lists faces i name x → ⊥) → NoneBefore (IsDifference faces) j d → NoneBefore (IsDifference faces) j (d + 1)
next_new faces j d name at new none =
    one_more (IsDifference faces) j d none (λ i n p. new i p.there p.before (subst (λ m. Lists faces i m p.there) (name_is faces j d n name p.names at) p.lists_there))

-- its name was listed before in this segment
pub next_seen : (faces : List Face) (j d e : ℕ) (name : Name) → Names faces j d name → e < d → Names faces j e name → NoneBefore (IsDifference faces) j d → NoneBefore (IsDifference faces) j (d + 1)
next_seen faces j d e name at lt seen none =
    one_more (IsDifference faces) j d none (λ i n p.
    let same : name ≡ n = name_is faces j d name n at p.names in
    elim (none j e i n (record { names = subst (Names faces j e) same seen; before = p.before; here = p.here; there = p.there; lists_here = p.lists_here; lists_there = p.lists_there; differ = p.differ })) [
      | inl h ↦ absurd (omega (arith, h))
      | inr h ↦ absurd (omega (arith, h.1, lt))
    ])

-- it tells what the first listing of its name does
pub next_same : (faces : List Face) (j d first : ℕ) (name : Name) (told : Listing) → Names faces j d name → IsFirstLister faces name first told → Lists faces j name told → NoneBefore (IsDifference faces) j d → NoneBefore (IsDifference faces) j (d + 1)
next_same faces j d first name told at l own none =
    one_more (IsDifference faces) j d none (λ i n p.
    let same : n ≡ name = name_is faces j d n name p.names at in
    let there : Lists faces i name p.there = subst (λ m. Lists faces i m p.there) same p.lists_there in
    let here_is : p.here ≡ told = told_is faces j name p.here told (subst (λ m. Lists faces j m p.here) same p.lists_here) own in
    elim (cases_eq first i) [
      | inl e ↦ p.differ (here_is ∙ told_is faces i name told p.there (subst (λ k. Lists faces k name told) e l.lists) there)
      | inr ne ↦
          let d2 = names_at faces i name p.there there in
          let earlier : IsDifference faces i d2.0 first name =
          record { names = d2.1; before = omega (arith, l.least i p.there there, ne); here = p.there; there = told; lists_here = there; lists_there = l.lists; differ = λ e. p.differ (here_is ∙ sym e) } in
          elim (none i d2.0 first name earlier) [ inl h ↦ omega (arith, h, p.before) | inr h ↦ omega (arith, h.0, p.before) ]
    ])

-- it differs from the first listing of its name: this is the first difference
pub found : (faces : List Face) (j d first : ℕ) (name : Name) (here told : Listing) → Names faces j d name → IsFirstLister faces name first told → first < j → Lists faces j name here → here ≢ told → NoneBefore (IsDifference faces) j d → IsFirst (IsDifference faces) j d first name
found faces j d first name here told at l lt own ne none =
    first_here (IsDifference faces) j d first name
    (record { names = at; before = lt; here = here; there = told; lists_here = own; lists_there = l.lists; differ = ne })
    (λ i n p. l.least i p.there (subst (λ m. Lists faces i m p.there) (name_is faces j d n name p.names at) p.lists_there)) none

pub ruleset differences = (next_new, next_seen, next_same, found)
