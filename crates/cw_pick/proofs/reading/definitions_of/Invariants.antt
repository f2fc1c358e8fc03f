use Rattle.std.proofs.Common.{◌≡◌, ◌++◌, map, drop}
use Rattle.cw_view.specs.Reading.{definition_in}
use Rattle.cw_view.specs.Splitting.{payloads_in, payloads_left}
use Rattle.cw_pick.specs.Selection.{values_in}
use Rattle.cw_pick.proofs.reading.definitions_of.Given as goal

abbrev pub invariant-loop-payload : goal.invariant-loop-payload
invariant-loop-payload l = l.numbers ++ map (λ d. d.0) (values_in definition_in (payloads_left l.payload-iterator)) ≡ map (λ d. d.0) (values_in definition_in (payloads_in 8 (drop 6 l.fn.view.bytes.now)))
