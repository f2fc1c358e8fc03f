use Rattle.std.proofs.Common.{ap, ◌∙◌, arith}
use Rattle.std.specs.Prelude.{slice_get}
use Rattle.cw_trace.proofs.Marked.{nothing_marked, marks_more}
use Rattle.cw_trace.proofs.marks.mark_places.Goals as goal

pub loop-place-init : goal.loop-place-init
loop-place-init c k less = ap (λ table. slice_get table k) c.requires ∙ nothing_marked 65536 k less

pub loop-place-preserved : goal.loop-place-preserved
loop-place-preserved c =
    marks_more c.args.places.now c.loop-place.table c.loop-place.place-index c.loop-place-test.true (omega (arith, c.type_inv.places c.loop-place.place-index)) c.loop-place.invariant
