-- The bytes up to a place are records that may stand so.
use Rattle.std.proofs.Common.{length, ◌-◌}
use Rattle.cw_view.specs.Fronts.{Reaches}
use Rattle.cw_view.proofs.view.read_records.Given as goal

abbrev pub invariant-loop-front : goal.invariant-loop-front
invariant-loop-front l = Reaches l.version l.bytes l.front l.at

abbrev pub decreases-loop-front : goal.decreases-loop-front
decreases-loop-front l = length l.bytes - l.at
