use Rattle.std.proofs.Common.{◌≡◌, length, sym, subst, ◌∙◌, arith}
use Rattle.cw_comm.specs.declared.face.Agreed.{Agreed}
use Rattle.cw_place.specs.Segments.{AreOf}
use Rattle.cw_checks_storage.proofs.Plain.{plain-families}
use Rattle.cw_checks_storage.proofs.faults.end_of.Goals as goal

pub place-requires-clause-of : goal.place-requires-clause-of
place-requires-clause-of c =
    let same : length c.args.faces.now ≡ length c.args.spaces.now = omega (arith, c.if-faces-spaces.false) in
    let plain = plain-families c.args.faces.now c.args.spaces.now (sym c.have_plain.ensures ∙ c.if-not-have_plain.false) in
    subst (λ (agreed : Agreed). AreOf agreed c.args.spaces.now) (sym c.in-Ok.ensures.1) (c.agreed_segments.ensures.of c.args.faces.now c.args.spaces.now same plain)
