use Rattle.std.proofs.Common.{◌≡◌, ◌++◌, map}
use Rattle.cw_view.specs.Reading.{definition_in}
use Rattle.cw_view.specs.Splitting.{payloads_left}
use Rattle.cw_link.specs.Contents.{values_in, records_of}
use Rattle.cw_link.proofs.contents.defined_by.Given as goal

abbrev pub invariant-loop-payload : goal.invariant-loop-payload
invariant-loop-payload l = l.defined ++ map (λ d. d.0) (values_in definition_in (payloads_left l.payload-iterator)) ≡ map (λ d. d.0) (records_of definition_in 8 l.fn.view)
