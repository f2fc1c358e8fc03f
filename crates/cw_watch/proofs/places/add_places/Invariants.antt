use Rattle.std.proofs.Common.{◌≡◌, ◌++◌}
use Rattle.cw_view.specs.Reading.{statement_in}
use Rattle.cw_view.specs.Splitting.{payloads_left}
use Rattle.cw_link.specs.Contents.{values_in, records_of}
use Rattle.cw_watch.specs.Watching.{places_at}
use Rattle.cw_watch.proofs.places.add_places.Given as goal

abbrev pub invariant-loop-payload : goal.invariant-loop-payload
invariant-loop-payload l =
    l.places ++ places_at l.start l.line (values_in statement_in (payloads_left l.payload-iterator)) ≡ l.fn.places ++ places_at l.start l.line (records_of statement_in 10 l.fn.view)
