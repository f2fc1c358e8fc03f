-- What the entries of the tables tell.
use Rattle.std.proofs.Common.{◌≡◌, ℕ, zero, suc, ◌+◌, ◌<◌, ◌≤◌, Bool, true, false, cond, List, [], ◌∷◌, Option, Some, None, slice_get, refl, sym, ap, ◌∙◌, arith, inl, inr}
use Rattle.std.specs.Str.{bytes_eq}
use Rattle.std.proofs.lemmas.Bool.{cases_lt}
use Rattle.std.proofs.lemmas.Option.{none-some, same_Some}
use Rattle.std.proofs.lemmas.Slice.Eq.{bytes_eq-Decides}
use Rattle.cw_unit.specs.declared.descriptor.Desc.{Desc}
use Rattle.cw_comm.specs.declared.face.Face.{Face}
use Rattle.cw_comm.specs.Agreement.{Name, as_listed, listing_of}
use Rattle.cw_comm.specs.Clashes.{IsFirstLister}
use Rattle.cw_comm.specs.Tables.{place_from, listed_in, first_listing}

-- ---- the first descriptor of a name

-- it stands at this place, and no earlier one has the name
pub record Placed (ds : List Desc) (n : ℕ) (name : Name) (p : ℕ) : Type 0 where
  pub e : ℕ
  pub d : Desc
  pub place : p ≡ n + e
  pub at : slice_get ds e ≡ Some d
  pub listing : listing_of name ds ≡ Some d
  pub named : d.name ≡ name

placed-if : (b : Bool) (n p : ℕ) (name : Name) (d : Desc) (ds : List Desc) → bytes_eq name d.name ≡ b → (place_from (n + 1) name ds ≡ Some p → Placed ds (n + 1) name p) → cond b (Some n) (place_from (n + 1) name ds) ≡ Some p → Placed (d ∷ ds) n name p
placed-if true n p name d ds t more h =
    let e : n ≡ p = same_Some n p h in
    record { e = 0; d = d; place = omega (arith, e); at = refl; listing = ap (λ b. cond b (Some d) (listing_of name ds)) t; named = sym ((bytes_eq-Decides name d.name).0 t) }
placed-if false n p name d ds t more h =
    let r = more h in
    record { e = suc r.e; d = r.d; place = omega (arith, r.place); at = r.at; listing = ap (λ b. cond b (Some d) (listing_of name ds)) t ∙ r.listing; named = r.named }

pub placed : (n p : ℕ) (name : Name) (ds : List Desc) → place_from n name ds ≡ Some p → Placed ds n name p
placed n p name [] h = absurd (none-some p h)
placed n p name (d ∷ ds) h = placed-if (bytes_eq name d.name) n p name d ds refl (placed (n + 1) p name ds) h

unlisted-if : (b : Bool) (n : ℕ) (d : Desc) (o : Option ℕ) (l : Option Desc) → (o ≡ None → l ≡ None) → cond b (Some n) o ≡ None → cond b (Some d) l ≡ None
unlisted-if true n d o l more h = absurd (none-some n (sym h))
unlisted-if false n d o l more h = more h

pub unlisted : (n : ℕ) (name : Name) (ds : List Desc) → place_from n name ds ≡ None → listing_of name ds ≡ None
unlisted n name [] h = refl
unlisted n name (d ∷ ds) h = unlisted-if (bytes_eq name d.name) n d _ _ (unlisted (n + 1) name ds) h

-- a descriptor of the name has a first one, which does not stand behind it
first-if : (b : Bool) (n e : ℕ) (o : Option ℕ) → ((p : ℕ) × (o ≡ Some p) × (p ≤ n + 1 + e)) → (p : ℕ) × (cond b (Some n) o ≡ Some p) × (p ≤ n + suc e)
first-if true n e o r = (n, refl, omega arith)
first-if false n e o r = (r.0, r.1, omega (arith, r.2))

pub first_place : (n e : ℕ) (name : Name) (ds : List Desc) (d : Desc) → slice_get ds e ≡ Some d → d.name ≡ name → (p : ℕ) × (place_from n name ds ≡ Some p) × (p ≤ n + e)
first_place n e name [] d at is = absurd (none-some d at)
first_place n zero name (x ∷ ds) d at is =
    let t : bytes_eq name x.name ≡ true = (bytes_eq-Decides name x.name).1 (sym is ∙ ap (λ (y : Desc). y.name) (sym (same_Some x d at))) in
    (n, ap (λ b. cond b (Some n) (place_from (n + 1) name ds)) t, omega arith)
first_place n (suc e) name (x ∷ ds) d at is = first-if (bytes_eq name x.name) n e (place_from (n + 1) name ds) (first_place (n + 1) e name ds d at is)

-- ---- the first segment that lists a name

pub record FirstAt (fs : List Face) (g : ℕ) (name : Name) (i p : ℕ) : Type 0 where
  pub m : ℕ
  pub f : Face
  pub segment : i ≡ g + m
  pub at : slice_get fs m ≡ Some f
  pub place : place_from 0 name f.descs ≡ Some p
  pub before : (m' : ℕ) (f' : Face) → m' < m → slice_get fs m' ≡ Some f' → listing_of name f'.descs ≡ None

abbrev some : ℕ → Option ℕ
some x = Some x

abbrev pair : ℕ → ℕ → ℕ × ℕ
pair a b = (a, b)

before-skip : (name : Name) (f : Face) (fs : List Face) (m : ℕ) → listing_of name f.descs ≡ None → ((m' : ℕ) (f' : Face) → m' < m → slice_get fs m' ≡ Some f' → listing_of name f'.descs ≡ None) → (m' : ℕ) (f' : Face) → m' < suc m → slice_get (f ∷ fs) m' ≡ Some f' → listing_of name f'.descs ≡ None
before-skip name f fs m none h zero f' lt at = ap (λ (x : Face). listing_of name x.descs) (sym (same_Some f f' at)) ∙ none
before-skip name f fs m none h (suc m') f' lt at = h m' f' (omega (arith, lt)) at

first-in : (g i p : ℕ) (name : Name) (f : Face) (fs : List Face) (o : Option ℕ) → place_from 0 name f.descs ≡ o → (first_listing (g + 1) name fs ≡ Some (i, p) → FirstAt fs (g + 1) name i p) → listed_in g o (first_listing (g + 1) name fs) ≡ Some (i, p) → FirstAt (f ∷ fs) g name i p
first-in g i p name f fs None none more h =
    let r = more h in
    let skip : (m' : ℕ) (f' : Face) → m' < suc r.m → slice_get (f ∷ fs) m' ≡ Some f' → listing_of name f'.descs ≡ None = before-skip name f fs r.m (unlisted 0 name f.descs none) r.before in
    record { m = suc r.m; f = r.f; segment = omega (arith, r.segment); at = r.at; place = r.place; before = skip }
first-in g i p name f fs (Some d) is more h =
    let e = same_Some (g, d) (i, p) h in
    let a : g ≡ i = ap (λ (x : ℕ × ℕ). x.0) e in
    record { m = 0; f = f; segment = omega (arith, a); at = refl; place = is ∙ ap some (ap (λ (x : ℕ × ℕ). x.1) e); before = λ m' f' lt at'. absurd (omega (arith, lt)) }

pub first_at : (g i p : ℕ) (name : Name) (fs : List Face) → first_listing g name fs ≡ Some (i, p) → FirstAt fs g name i p
first_at g i p name [] h = absurd (none-some (pair i p) h)
first_at g i p name (f ∷ fs) h = first-in g i p name f fs (place_from 0 name f.descs) refl (first_at (g + 1) i p name fs) h

-- it is the first lister
pub first_lister : (faces : List Face) (name : Name) (i p : ℕ) → first_listing 0 name faces ≡ Some (i, p) → (f : Face) × (d : Desc) × (slice_get faces i ≡ Some f) × (slice_get f.descs p ≡ Some d) × IsFirstLister faces name i (as_listed f.descs d)
first_lister faces name i p h =
    let r = first_at 0 i p name faces h in
    let q = placed 0 p name r.f.descs r.place in
    let seg : i ≡ r.m = omega (arith, r.segment) in
    let place : p ≡ q.e = omega (arith, q.place) in
    let at : slice_get faces i ≡ Some r.f = ap (slice_get faces) seg ∙ r.at in (
      r.f,
      q.d,
      at,
      ap (slice_get r.f.descs) place ∙ q.at,
      record {
        lists = record { face = r.f; desc = q.d; segment_is = at; descriptor_is = q.listing; told_is = refl };
        least = λ j x l.
            elim (cases_lt j r.m) [
              | inl lt ↦ absurd (none-some l.desc (sym (r.before j l.face lt l.segment_is) ∙ l.descriptor_is))
              | inr le ↦ omega (arith, le, seg)
            ];
      },
    )

neither : (g : ℕ) (o : Option ℕ) (r : Option (ℕ × ℕ)) → listed_in g o r ≡ None → (o ≡ None) × (r ≡ None)
neither g None r h = (refl, h)
neither g (Some d) r h = absurd (none-some (pair g d) (sym h))

pub none_listed : (g : ℕ) (name : Name) (fs : List Face) → first_listing g name fs ≡ None → (m : ℕ) (f : Face) → slice_get fs m ≡ Some f → listing_of name f.descs ≡ None
none_listed g name [] h m f at = absurd (none-some f at)
none_listed g name (x ∷ fs) h zero f at = ap (λ (y : Face). listing_of name y.descs) (sym (same_Some x f at)) ∙ unlisted 0 name x.descs (neither g (place_from 0 name x.descs) (first_listing (g + 1) name fs) h).0
none_listed g name (x ∷ fs) h (suc m) f at = none_listed (g + 1) name fs (neither g (place_from 0 name x.descs) (first_listing (g + 1) name fs) h).1 m f at
