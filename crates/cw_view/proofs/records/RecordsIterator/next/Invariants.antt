use Rattle.std.proofs.Common.{◌≡◌, length}
use Rattle.cw_view.specs.Splitting.{payloads_left}
use Rattle.cw_view.proofs.records.RecordsIterator.next.Given as goal

abbrev pub invariant-loop-kind : goal.invariant-loop-kind
invariant-loop-kind l = payloads_left l.self ≡ payloads_left l.fn.self

abbrev pub decreases-loop-kind : goal.decreases-loop-kind
decreases-loop-kind l = length l.self.rest.now
