-- Units whose objects have a place have a valid storage map, with room on the control stack.
use Rattle.std.proofs.Common.{◌≡◌, ℕ, zero, suc, ◌+◌, ◌*◌, ◌<◌, ◌≤◌, max, List, [], ◌∷◌, map, Option, Some, None, Ok, slice_get, refl, sym, ap, ap₂, ◌∙◌, subst, arith}
use Rattle.std.specs.Prelude.{All, IsTrue}
use Rattle.std.proofs.lemmas.Nat.{mul-le}
use Rattle.std.proofs.lemmas.Option.{slice_get-map}
use Rattle.std.specs.Option.{option_map}
use Rattle.std.proofs.lemmas.List.Elements.{All-nil, All-cons, All-head, All-tail}
use Rattle.cw_unit.specs.declared.unit.Unit.{Unit as SourceUnit}
use Rattle.cw_unit.specs.declared.descriptor.Desc.{Desc}
use Rattle.cw_unit.specs.declared.layout.Limits.{Limits}
use Rattle.cw_unit.specs.Storage.{layout_of}
use Rattle.cw_unit.specs.StackBound.{body_depth, procedures_need, unit_need, largest_need, control_need}
use Rattle.cw_unit.specs.Allocation.{SegmentStorage, map_of, storage_of, storage_map}
use Rattle.cw_unit.specs.ValidStorage.{IsStorable, ValidStorageMap}
use Rattle.cw_comm.specs.declared.face.Agreed.{Agreed}
use Rattle.cw_comm.specs.declared.face.Face.{Face}
use Rattle.cw_comm.specs.Clashes.{agreed_of}
use Rattle.cw_place.specs.declared.space.Space.{Space}
use Rattle.cw_place.specs.Fitting as fitting
use Rattle.cw_place.specs.Segments.{names_of, storage_from, segment_storage}
use Rattle.cw_place.specs.Placement.{AnswersPlace, NoneOutside, FitsData, FitsControl}
use Rattle.cw_link.specs.Contents.{Contents}
use Rattle.cw_link.specs.LinkedImage.{spaces_of}
use Rattle.cw_link.specs.LinkedImage as linked
use Rattle.cw_link.specs.LinkFaults.{HavePlace, storages_of}
use Rattle.cw_built.specs.Built.{is_built}
use Rattle.cw_build.specs.Compiled.{contents_of_unit, contents_of_units}
use Rattle.cw_build_laws.proofs.Images.Given.{Given}

-- an element of a list, mapped
pub get-map : {A B : Type 0} (f : A → B) (xs : List A) (k : ℕ) (x : A) → slice_get xs k ≡ Some x → slice_get (map f xs) k ≡ Some (f x)
get-map f xs k x e = slice_get-map f xs k ∙ ap (option_map f) e

-- ---- storage

storages-same : (us : List SourceUnit) → storages_of (contents_of_units us) ≡ map storage_of us
storages-same [] = refl
storages-same (u ∷ us) = ap (λ (ss : List SegmentStorage). storage_of u ∷ ss) (storages-same us)

abbrev with_names : SourceUnit → List (List ℕ) → SegmentStorage
with_names u ns = record { names = ns; families = (layout_of u).families }

-- each segment's descriptors have their names
storage-by : (agreed : Agreed) (g : ℕ) (us : List SourceUnit) → ((h : ℕ) (u : SourceUnit) → slice_get us h ≡ Some u → names_of agreed (g + h) ≡ map (λ (d : Desc). d.name) u.descs)
    → storage_from g agreed (spaces_of (contents_of_units us)) ≡ map storage_of us
storage-by agreed g [] told = refl
storage-by agreed g (u ∷ us) told =
    let z : g ≡ g + 0 = omega arith in
    ap₂ (λ (ns : List (List ℕ)) (ss : List SegmentStorage). with_names u ns ∷ ss) (ap (names_of agreed) z ∙ told 0 u refl)
    (storage-by agreed (g + 1) us (λ h v is. let e : g + 1 + h ≡ g + suc h = omega arith in ap (names_of agreed) e ∙ told (suc h) v is))

-- ---- control stack

largest-same : (us : List SourceUnit) → fitting.largest_need (spaces_of (contents_of_units us)) ≡ largest_need us
largest-same [] = refl
largest-same (u ∷ us) = ap (max (unit_need u)) (largest-same us)

pub room-by : (us : List SourceUnit) (limits : Limits) → FitsControl (spaces_of (contents_of_units us)) limits → control_need us limits.depth ≤ 32000
room-by us limits fits = subst (λ n. (limits.depth + 1) * n + 64 ≤ 32000) (largest-same us) fits

need-some : (u : SourceUnit) → 8 ≤ unit_need u
need-some u = omega (arith)

some-need : (us : List SourceUnit) → (us ≡ [] → ⊥) → 8 ≤ largest_need us
some-need [] some = absurd (some refl)
some-need (u ∷ us) some = let n = need-some u in larger (unit_need u) (largest_need us) n
  where
    larger : (a b : ℕ) → 8 ≤ a → 8 ≤ max a b
    larger a b h = omega (arith, h)

few-calls : (depth need : ℕ) → 8 ≤ need → (depth + 1) * need + 64 ≤ 32000 → depth < 65536
few-calls depth need some fits =
    let least : (depth + 1) * 8 ≤ (depth + 1) * need = mul-le (depth + 1) 8 (depth + 1) need (let l : depth + 1 ≤ depth + 1 = omega arith in l) some in
    omega (arith, least, fits)

pub calls-by : (us : List SourceUnit) (limits : Limits) → (us ≡ [] → ⊥) → control_need us limits.depth ≤ 32000 → limits.depth < 65536
calls-by us limits some fits = few-calls limits.depth (largest_need us) (some-need us some) fits

-- ---- the map

module _ (given : Given) (us : List SourceUnit) (limits : Limits) where
  abbrev agreed : Agreed
  agreed = agreed_of (linked.faces_of (contents_of_units us))

  abbrev spaces : List Space
  spaces = spaces_of (contents_of_units us)

  told : (g : ℕ) (u : SourceUnit) → slice_get us g ≡ Some u → names_of agreed g ≡ map (λ (d : Desc). d.name) u.descs
  told g u is =
      given.names (linked.faces_of (contents_of_units us)) g (linked.face_of (contents_of_unit u))
      (get-map linked.face_of (contents_of_units us) g (contents_of_unit u) (get-map contents_of_unit us g u is))

  storage-same : segment_storage agreed spaces ≡ map storage_of us
  storage-same = storage-by agreed 0 us (λ h u is. let e : 0 + h ≡ h = omega arith in ap (names_of agreed) e ∙ told h u is)

  has-place : HavePlace (contents_of_units us) limits → AnswersPlace (segment_storage agreed spaces) spaces limits (Ok (storage_map us))
  has-place place =
      subst (λ ss. AnswersPlace ss spaces limits (Ok (storage_map us))) (sym storage-same)
      (place.0, subst (λ ss. FitsData ss limits) (storages-same us) place.1, place.2, refl)

  storable : (vs : List SourceUnit) → All (λ u. IsTrue (is_built u)) vs → All IsStorable vs
  storable [] h = All-nil IsStorable
  storable (v ∷ vs) h =
      All-cons IsStorable v vs (given.layout v (All-head (λ u. IsTrue (is_built u)) v vs h)).storable (storable vs (All-tail (λ u. IsTrue (is_built u)) v vs h))

  pub valid : All (λ u. IsTrue (is_built u)) us → HavePlace (contents_of_units us) limits → ValidStorageMap us limits (storage_map us)
  valid built place = given.valid agreed spaces us limits (storage_map us) storage-same (storable us built) (has-place place)
