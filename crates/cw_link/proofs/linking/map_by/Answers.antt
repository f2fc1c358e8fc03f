use Rattle.std.proofs.Common.{map, option_map, sym, ap, subst, ◌∙◌}
use Rattle.std.proofs.lemmas.List.{length-map}
use Rattle.std.proofs.lemmas.Option.{slice_get-map}
use Rattle.cw_comm.specs.declared.face.Agreed.{Agreed}
use Rattle.cw_comm.specs.Clashes.{agreed_of}
use Rattle.cw_place.specs.Segments.{AreOf}
use Rattle.cw_link.specs.Contents.{contents_of}
use Rattle.cw_link.specs.LinkedImage.{face_of, faces_of, space_of, spaces_of}
use Rattle.cw_link.specs.LinkFaults.{IsFirstLinkFault}
use Rattle.cw_link.proofs.Opened.{own_families}
use Rattle.cw_link.proofs.Placing.{TellsNames, have_place, no_place}
use Rattle.cw_link.proofs.linking.map_by.Goals as goal

pub place-requires-clause-of : goal.place-requires-clause-of
place-requires-clause-of c =
    let cs = map contents_of c.args.views.now in
    let is = c.agreed_segments.ensures.of (faces_of cs) (spaces_of cs) (length-map cs face_of ∙ sym (length-map cs space_of)) (own_families c.args.views.now c.requires.opened) in
    subst (λ (a : Agreed). AreOf a c.as_slice.result.now) (sym c.requires.agreed) (subst (AreOf (agreed_of (faces_of cs))) (sym (c.as_slice.ensures ∙ c.in_ok-spaces.ensures)) is)

pub returns-in-Ok-clause-place : goal.returns-in-Ok-clause-place
returns-in-Ok-clause-place c =
    let cs = map contents_of c.args.views.now in
    let told : TellsNames (agreed_of (faces_of cs)) cs = λ g x is. c.agreed_segments.ensures.names (faces_of cs) g (face_of x) (slice_get-map face_of cs g ∙ ap (option_map face_of) is) in
    have_place cs c.args.limits.now c.args.agreed.now c.as_slice.result.now c.requires.agreed (c.as_slice.ensures ∙ c.in_ok-spaces.ensures) told c.in-Ok.map c.in-Ok.ensures

pub returns-clause-fault : goal.returns-clause-fault
returns-clause-fault c =
    let cs = map contents_of c.args.views.now in
    let told : TellsNames (agreed_of (faces_of cs)) cs = λ g x is. c.agreed_segments.ensures.names (faces_of cs) g (face_of x) (slice_get-map face_of cs g ∙ ap (option_map face_of) is) in
    subst (IsFirstLinkFault cs c.args.limits.now) (sym c.from.ensures) (no_place cs c.args.limits.now c.args.agreed.now c.as_slice.result.now c.requires.agreed (c.as_slice.ensures ∙ c.in_ok-spaces.ensures) told c.in-Err.fault c.requires.agree c.in-Err.ensures)
