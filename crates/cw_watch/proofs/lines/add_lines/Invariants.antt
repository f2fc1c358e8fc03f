use Rattle.std.proofs.Common.{◌≡◌, ◌++◌, flat_map}
use Rattle.cw_view.specs.Reading.{family_in, item_in}
use Rattle.cw_view.specs.Splitting.{payloads_left}
use Rattle.cw_link.specs.Contents.{values_in, records_of}
use Rattle.cw_watch.specs.Watching.{line_of}
use Rattle.cw_watch.proofs.lines.add_lines.Given as goal

abbrev pub invariant-loop-payload : goal.invariant-loop-payload
invariant-loop-payload l =
    l.lines ++ flat_map (line_of l.fn.view.name (records_of family_in 3 l.fn.view) l.homes) (values_in item_in (payloads_left l.payload-iterator))
    ≡ l.fn.lines ++ flat_map (line_of l.fn.view.name (records_of family_in 3 l.fn.view) l.homes) (records_of item_in 4 l.fn.view)
