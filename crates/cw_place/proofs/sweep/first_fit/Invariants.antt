-- What was passed ends before the address, and no free words begin between the first address and this one.
use Rattle.std.proofs.Common.{ℕ, length, ◌-◌, ◌≤◌, ◌<◌, ◌+◌, ◌^◌}
use Rattle.cw_place.specs.Sweep.{ArePassed}
use Rattle.cw_place.proofs.Fits_first.{IsClear}
use Rattle.cw_place.proofs.sweep.first_fit.Given as goal

abbrev pub invariant-loop-passed : goal.invariant-loop-passed
invariant-loop-passed l = record {
  within : l.passed ≤ length l.spans;
  up : l.fn.sweep.address ≤ l.address;
  small : l.address + l.extent < 2 ^ 63;
  passed : ArePassed l.spans l.passed l.address;
  least : (b : ℕ) → l.fn.sweep.address ≤ b → IsClear l.spans l.extent b → l.address ≤ b;
}

abbrev pub decreases-loop-passed : goal.decreases-loop-passed
decreases-loop-passed l = length l.spans - l.passed
