use Rattle.std.proofs.Common.{◌≡◌, ◌++◌, drop}
use Rattle.cw_watch.specs.Watching.{lines_from}
use Rattle.cw_watch.proofs.lines.all_lines.Given as goal

abbrev pub invariant-loop-segment : goal.invariant-loop-segment
invariant-loop-segment l = l.lines ++ lines_from l.segment l.map.homes (drop l.segment l.objects) ≡ lines_from 0 l.map.homes l.objects
