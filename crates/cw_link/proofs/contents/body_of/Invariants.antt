use Rattle.std.proofs.Common.{◌≡◌}
use Rattle.cw_view.specs.Reading.{body_facts_in}
use Rattle.cw_view.specs.Splitting.{payloads_left}
use Rattle.cw_link.specs.Contents.{values_in, records_of}
use Rattle.cw_link.proofs.contents.body_of.Given as goal

abbrev pub invariant-loop-payload : goal.invariant-loop-payload
invariant-loop-payload l = values_in body_facts_in (payloads_left l.payload-iterator) ≡ records_of body_facts_in 9 l.fn.view
