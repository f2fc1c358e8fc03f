use Rattle.std.proofs.Common.{◌≡◌, ◌+◌, ◌^◌, ◌<◌, slice_index, length, sym, ◌∙◌, ap, arith}
use Rattle.std.proofs.lemmas.Result.{on_ok_weaker}
use Rattle.cw_keyed.proofs.Numbers.{number_low}
use Rattle.cw_depth.specs.CallGraph.{spec_of}
use Rattle.cw_depth.specs.Numbering.{first_number}
use Rattle.cw_depth.proofs.Firsts.{place_number, place_fits}
use Rattle.cw_depth.proofs.Adding.{one_group}
use Rattle.cw_depth.proofs.groups.join_group.Goals as goal

pub overflow_add-number_at : goal.overflow_add-number_at
overflow_add-number_at c =
    let small : slice_index c.args.firsts.now c.args.segment + c.args.number < 2 ^ 64 = place_fits c.args.units.now c.args.firsts.now c.args.segment c.args.number c.in-Some.procedure.now c.requires.few c.requires.firsts c.in-Some.ensures in
    omega (arith, c.number_at.ensures)

pub returns-in-Some-2 : goal.returns-in-Some-2
returns-in-Some-2 c =
    let us = c.args.units.now in
    let heads = c.args.heads.now in
    let g = c.args.segment in
    let q = c.args.number in
    let p = c.in-Some.procedure.now in
    let h = c.in-Some-2.head in
    let number = sym c.in_ok-head-in-Some.ensures ∙ c.in-Some-2.is in
    let first : c.number_at.result ≡ first_number us g = c.number_at.ensures ∙ place_number us c.args.firsts.now g q p c.requires.firsts c.in-Some.ensures in
    let low : h < length c.args.groups.now = omega (arith, number_low heads (spec_of p) h number, c.requires.size) in
    on_ok_weaker c.add_member.result (λ e. one_group us heads g q h _ p c.args.groups.now _ c.in-Some.ensures number (ap (λ n. n + q) first) low e) c.add_member.ensures
