use Rattle.std.proofs.Common.{◌≡◌, ◌++◌, drop}
use Rattle.cw_view.specs.Reading.{descriptor_in}
use Rattle.cw_view.specs.Splitting.{payloads_in, payloads_left}
use Rattle.cw_view.specs.Values.{values_in}
use Rattle.cw_view.proofs.building.descriptors_of.Given as goal

abbrev pub invariant-loop-payload : goal.invariant-loop-payload
invariant-loop-payload l = l.descs ++ values_in descriptor_in (payloads_left l.payload-iterator) ≡ values_in descriptor_in (payloads_in 2 (drop 6 l.fn.view.bytes.now))
