use Rattle.std.proofs.Common.{◌≡◌, false}
use Rattle.std.specs.Prelude.{slice_index_or}
use Rattle.cw_pick.specs.Picking.{numbers_below}
use Rattle.cw_pick.proofs.finding.numbers.Given as goal

abbrev pub invariant-loop-k : goal.invariant-loop-k
invariant-loop-k l = l.numbers ≡ numbers_below (λ k. slice_index_or l.picked k false) l.k
