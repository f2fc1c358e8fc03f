-- Whether a descriptor is the first difference.
use Rattle.std.proofs.Common.{◌≡◌, ◌≢◌, ℕ, ◌+◌, ◌<◌, ◌≤◌, List, Option, Some, None, slice_get, get_or, refl, sym, ap, ap₂, subst, ◌∙◌, arith}
use Rattle.std.proofs.lemmas.Option.{none-some, same_Some}
use Rattle.cw_unit.specs.declared.descriptor.Desc.{Desc}
use Rattle.cw_comm.specs.declared.face.Face.{Face}
use Rattle.cw_comm.specs.Agreement.{Name, as_listed}
use Rattle.cw_comm.specs.Clashes.{Lists, IsDifference, NoneBefore}
use Rattle.cw_comm.specs.Tables.{place_from, first_listing, TellsListings, TellsHere, AreAlike, IsFirstTold}
use Rattle.cw_comm.proofs.Differences.{next_new, next_seen, next_same, found}
use Rattle.cw_comm.proofs.Entries.{Standing}
use Rattle.cw_comm.proofs.Listed.{Placed, placed, first_place, first_lister, none_listed}

abbrev pair : ℕ → ℕ → ℕ × ℕ
pair a b = (a, b)

abbrev someD : Desc → Option Desc
someD d = Some d

module _ {faces : List Face} {names : List Name} {firsts here : List (Option (ℕ × ℕ))} (tf : TellsListings names faces firsts) (g : ℕ) (th : TellsHere names faces g here) (d k : ℕ) (it : Standing faces names g d k) where
  abbrev f : Face
  f = it.mine.face

  abbrev x : Desc
  x = it.mine.desc

  own-place : (p : ℕ) × (place_from 0 it.name f.descs ≡ Some p) × (p ≤ 0 + d)
  own-place = first_place 0 d it.name f.descs x it.mine.descriptor_is it.mine.name_is

  here-is : get_or here k None ≡ Some (g, own-place.0)
  here-is = th.at k own-place.0 f it.stands.within it.mine.segment_is (ap (λ n. place_from 0 n f.descs) it.stands.there ∙ own-place.1)

  first-is : get_or firsts k None ≡ first_listing 0 it.name faces
  first-is = tf.at k it.stands.within ∙ ap (λ n. first_listing 0 n faces) it.stands.there

  pub here_some : get_or here k None ≡ None → ⊥
  here_some h = none-some (pair g own-place.0) (sym h ∙ here-is)

  own-is : (a own : ℕ) → get_or here k None ≡ Some (a, own) → own-place.0 ≡ own
  own-is a own h = ap (λ (q : ℕ × ℕ). q.1) (same_Some (pair g own-place.0) (pair a own) (sym here-is ∙ h))

  -- an earlier descriptor of the segment has the name
  pub not_first : (a own : ℕ) → get_or here k None ≡ Some (a, own) → own ≢ d → NoneBefore (IsDifference faces) g d → NoneBefore (IsDifference faces) g (d + 1)
  not_first a own h ne none =
      let p : Placed f.descs 0 it.name own-place.0 = placed 0 own-place.0 it.name f.descs own-place.1 in
      let e : own-place.0 ≡ own = own-is a own h in
      let lt : p.e < d = omega (arith, p.place, own-place.2, e, ne) in
      next_seen faces g d p.e it.name it.mine lt (record { face = f; desc = p.d; segment_is = it.mine.segment_is; descriptor_is = p.at; name_is = p.named }) none

  own-listing : (a : ℕ) → get_or here k None ≡ Some (a, d) → Lists faces g it.name (as_listed f.descs x)
  own-listing a h =
      let p : Placed f.descs 0 it.name own-place.0 = placed 0 own-place.0 it.name f.descs own-place.1 in
      let e : p.e ≡ d = omega (arith, p.place, own-is a d h) in
      let same : p.d ≡ x = same_Some p.d x (sym p.at ∙ ap (slice_get f.descs) e ∙ it.mine.descriptor_is) in
      record { face = f; desc = x; segment_is = it.mine.segment_is; descriptor_is = p.listing ∙ ap someD same; told_is = refl }

  pub no_lister : get_or firsts k None ≡ None → NoneBefore (IsDifference faces) g d → NoneBefore (IsDifference faces) g (d + 1)
  no_lister h none =
      next_new faces g d it.name it.mine (λ i y lt l. none-some l.desc (sym (none_listed 0 it.name faces (sym first-is ∙ h) i l.face l.segment_is) ∙ l.descriptor_is)) none

  -- no earlier segment lists the name
  pub none_earlier : (i p : ℕ) → get_or firsts k None ≡ Some (i, p) → g ≤ i → NoneBefore (IsDifference faces) g d → NoneBefore (IsDifference faces) g (d + 1)
  none_earlier i p h le none =
      let r = first_lister faces it.name i p (sym first-is ∙ h) in
      next_new faces g d it.name it.mine (λ j y lt l. let m = r.4.least j y l in absurd (omega (arith, m, lt, le))) none

  pub alike : (a i p : ℕ) → get_or here k None ≡ Some (a, d) → get_or firsts k None ≡ Some (i, p) → AreAlike faces g d i p → NoneBefore (IsDifference faces) g d → NoneBefore (IsDifference faces) g (d + 1)
  alike a i p own h same none =
      let r = first_lister faces it.name i p (sym first-is ∙ h) in
      let told : as_listed f.descs x ≡ as_listed r.0.descs r.1 = same f r.0 x r.1 it.mine.segment_is it.mine.descriptor_is r.2 r.3 in
      next_same faces g d i it.name (as_listed r.0.descs r.1) it.mine r.4 (subst (Lists faces g it.name) told (own-listing a own)) none

  pub differs : (a i p : ℕ) → get_or here k None ≡ Some (a, d) → get_or firsts k None ≡ Some (i, p) → i < g → (AreAlike faces g d i p → ⊥) → NoneBefore (IsDifference faces) g d → IsFirstTold (IsDifference faces) faces g d i
  differs a i p own h lt same none =
      let r = first_lister faces it.name i p (sym first-is ∙ h) in
      record {
        name = it.name;
        names = it.mine;
        first = found faces g d i it.name (as_listed f.descs x) (as_listed r.0.descs r.1) it.mine r.4 lt (own-listing a own)
            (λ e. same (λ f' e' x' y' fi xi ei yi.
            let ff : f ≡ f' = same_Some f f' (sym it.mine.segment_is ∙ fi) in
            let ee : r.0 ≡ e' = same_Some r.0 e' (sym r.2 ∙ ei) in
            let xx : x ≡ x' = same_Some x x' (sym it.mine.descriptor_is ∙ ap (λ (z : Face). slice_get z.descs d) ff ∙ xi) in
            let yy : r.1 ≡ y' = same_Some r.1 y' (sym r.3 ∙ ap (λ (z : Face). slice_get z.descs p) ee ∙ yi) in
            sym (ap₂ (λ (z : Face) (w : Desc). as_listed z.descs w) ff xx) ∙ e ∙ ap₂ (λ (z : Face) (w : Desc). as_listed z.descs w) ee yy)) none;
      }
