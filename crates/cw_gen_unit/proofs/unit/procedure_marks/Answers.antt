use Rattle.std.proofs.Common.{◌+◌, ◌<◌, ◌++◌, drop, length, ap, ap₂, ◌∙◌, ◌≡◌, subst}
use Rattle.cw_gen_expr.specs.UnitTables.{procedure_mark}
use Rattle.cw_gen_unit.specs.ReferenceUnits.{procedure_marks}
use Rattle.cw_gen_unit.proofs.WholeUnits.{next-mark}
use Rattle.cw_gen_unit.proofs.unit.procedure_marks.Goals as goal

pub loop-i-preserved : goal.loop-i-preserved
loop-i-preserved c =
    let u = c.args.unit.now in
    let i = c.loop-i.i in
    let lt : i < length u.procs = subst (λ l. i < length l) c.as_slice-procedures.ensures c.loop-i-test.true in
    let mark : c.in_ok-procedure_mark.field-0 ≡ procedure_mark u i =
    c.in_ok-procedure_mark.ensures ∙ ap₂ (λ ds ls. length ds + (length ls + i)) c.as_slice-defined.ensures c.as_slice-labels.ensures in
    ap (λ ms. ms ++ procedure_marks u (i + 1) (drop (i + 1) u.procs)) c.in_ok-push.ensures.ok
    ∙ next-mark u i c.in_ok-procedure_mark.field-0 u.procs c.loop-i.marks lt mark
    ∙ c.loop-i.invariant
