-- What agreement and placement answer, said of objects.
use Rattle.std.proofs.Common.{◌≡◌, ℕ, suc, ◌+◌, List, [], ◌∷◌, map, Some, Ok, Err, slice_get, refl, ap, ap₂, subst, ◌∙◌, arith}
use Rattle.std.specs.Prelude.{Result}
use Rattle.cw_unit.specs.declared.descriptor.Desc.{Desc}
use Rattle.cw_unit.specs.declared.layout.Limits.{Limits}
use Rattle.cw_unit.specs.declared.layout.Map.{Map}
use Rattle.cw_unit.specs.Allocation.{SegmentStorage}
use Rattle.cw_comm.specs.declared.face.Agreed.{Agreed}
use Rattle.cw_comm.specs.Clashes.{Agree, agreed_of}
use Rattle.cw_place.specs.declared.space.Space.{Space}
use Rattle.cw_place.specs.declared.space.PlaceFault.{PlaceFault}
use Rattle.cw_place.specs.declared.space.PlaceFault.TheVariants as places
use Rattle.cw_place.specs.Segments.{names_of, storage_from, segment_storage}
use Rattle.cw_place.specs.Placement.{IsFirstFault, AnswersPlace}
use Rattle.cw_link.specs.Contents.{Contents}
use Rattle.cw_link.specs.LinkedImage.{faces_of, spaces_of, linked_map}
use Rattle.cw_link.specs.LinkFaults.{storages_of, of_place_fault, HavePlace, IsFirstLinkFault}

-- each segment's descriptors have their names
abbrev pub TellsNames : Agreed → List Contents → Type 0
TellsNames agreed cs = (g : ℕ) (c : Contents) → slice_get cs g ≡ Some c → names_of agreed g ≡ map (λ (d : Desc). d.name) c.descs

storage-from : (agreed : Agreed) (g : ℕ) (cs : List Contents) → ((h : ℕ) (c : Contents) → slice_get cs h ≡ Some c → names_of agreed (g + h) ≡ map (λ (d : Desc). d.name) c.descs) → storage_from g agreed (spaces_of cs) ≡ storages_of cs
storage-from agreed g [] told = refl
storage-from agreed g (c ∷ cs) told =
    let z : g ≡ g + 0 = omega arith in
    ap₂ (λ (ns : List (List ℕ)) (ss : List SegmentStorage). record { names = ns; families = c.families } ∷ ss) (ap (names_of agreed) z ∙ told 0 c refl)
    (storage-from agreed (g + 1) cs (λ h d is. let e : g + 1 + h ≡ g + suc h = omega arith in ap (names_of agreed) e ∙ told (suc h) d is))

module _ (cs : List Contents) (limits : Limits) (agreed : Agreed) (spaces : List Space) (agreed_is : agreed ≡ agreed_of (faces_of cs)) (spaces_are : spaces ≡ spaces_of cs) (told : TellsNames (agreed_of (faces_of cs)) cs) where
  storage-is : segment_storage (agreed_of (faces_of cs)) (spaces_of cs) ≡ storages_of cs
  storage-is = storage-from (agreed_of (faces_of cs)) 0 cs (λ h c is. let e : 0 + h ≡ h = omega arith in ap (names_of (agreed_of (faces_of cs))) e ∙ told h c is)

  answers : (r : Result Map PlaceFault) → AnswersPlace (segment_storage agreed spaces) spaces limits r → AnswersPlace (storages_of cs) (spaces_of cs) limits r
  answers r h =
      subst (λ ss. AnswersPlace ss (spaces_of cs) limits r) storage-is
      (subst (λ sp. AnswersPlace (segment_storage (agreed_of (faces_of cs)) sp) sp limits r) spaces_are (subst (λ a. AnswersPlace (segment_storage a spaces) spaces limits r) agreed_is h))

  pub have_place : (m : Map) → AnswersPlace (segment_storage agreed spaces) spaces limits (Ok m) → HavePlace cs limits × (m ≡ linked_map cs)
  have_place m h = let a = answers (Ok m) h in ((a.0, a.1, a.2), a.3)

  fault-by : (f : PlaceFault) → Agree (faces_of cs) → IsFirstFault (storages_of cs) (spaces_of cs) limits f → IsFirstLinkFault cs limits (of_place_fault f)
  fault-by (places.AbsoluteOutside segment address) a h = (a, h)
  fault-by (places.DataTooBig need) a h = (a, h)
  fault-by (places.ControlTooBig need) a h = (a, h)
  fault-by places.NoMemory a h = tt

  pub no_place : (f : PlaceFault) → Agree (faces_of cs) → AnswersPlace (segment_storage agreed spaces) spaces limits (Err f) → IsFirstLinkFault cs limits (of_place_fault f)
  no_place f a h = fault-by f a (answers (Err f) h)
