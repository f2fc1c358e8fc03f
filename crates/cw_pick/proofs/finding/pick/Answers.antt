use Rattle.std.proofs.Common.{◌≡◌, ℕ, false, List, length}
use Rattle.std.specs.Prelude.{slice_index_or}
use Rattle.std.proofs.lemmas.Result.{IfOk-weaker}
use Rattle.cw_pick.specs.Picking.{numbers_below}
use Rattle.cw_pick.specs.Selection.{IsSelection}
use Rattle.cw_pick.proofs.Unique.{picked_selection}
use Rattle.cw_pick.proofs.finding.pick.Goals as goal

pub returns : goal.returns
returns c =
    let given = c.args.given.now in
    let members = c.args.members.now in
    let shown = c.as_slice-3.result.now in
    IfOk-weaker c.numbers.result (λ (ns : List ℕ). ns ≡ numbers_below (λ k. slice_index_or shown k false) (length shown)) (λ (ns : List ℕ). IsSelection given members ns)
    (λ ns is.
    picked_selection given members c.in_ok-needs.needs c.in_ok-offers.offers c.as_slice.result.now c.as_slice-2.result.now c.in_ok-picked.picked.items shown ns c.in_ok-needs.ensures c.in_ok-offers.ensures c.as_slice.ensures c.as_slice-2.ensures
    c.in_ok-picked.ensures.least c.in_ok-picked.ensures.count c.as_slice-3.ensures.value is)
    c.numbers.ensures
