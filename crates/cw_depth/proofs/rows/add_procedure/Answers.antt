use Rattle.std.proofs.Common.{◌≡◌, ◌+◌, ◌^◌, ◌<◌, ◌++◌, slice_index, sym, ◌∙◌, ap, arith}
use Rattle.std.proofs.lemmas.Result.{on_ok_weaker}
use Rattle.cw_depth.specs.Numbering.{first_number}
use Rattle.cw_depth.proofs.Firsts.{place_number, place_fits}
use Rattle.cw_depth.proofs.Adding.{listed_is}
use Rattle.cw_depth.proofs.rows.add_procedure.Goals as goal

pub overflow_add-number_at : goal.overflow_add-number_at
overflow_add-number_at c =
    let small : slice_index c.args.firsts.now c.in-Some.segment + c.in-Some.number < 2 ^ 64 = place_fits c.args.units.now c.args.firsts.now c.in-Some.segment c.in-Some.number c.in-Some-procedure_at.field-0.now c.requires.few c.requires.firsts c.in-Some-procedure_at.ensures in
    omega (arith, c.number_at.ensures)

pub returns-in-Some-procedure_at : goal.returns-in-Some-procedure_at
returns-in-Some-procedure_at c =
    let us = c.args.units.now in
    let g = c.in-Some.segment in
    let q = c.in-Some.number in
    let p = c.in-Some-procedure_at.field-0.now in
    let there = c.in-Some-procedure_at.ensures in
    let number : c.number_at.result ≡ first_number us g = c.number_at.ensures ∙ place_number us c.args.firsts.now g q p c.requires.firsts there in
    on_ok_weaker c.push.result (λ e. e ∙ ap (λ xs. c.args.row.now ++ xs) (sym (listed_is us c.args.place g q c.number_at.result p c.in-Some.is there number))) c.push.ensures.ok
