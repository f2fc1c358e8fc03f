use Rattle.std.proofs.Common.{◌≡◌, drop}
use Rattle.cw_watch.specs.Watching.{item_at}
use Rattle.cw_watch.proofs.Found.{earlier}
use Rattle.cw_watch.proofs.finding.item_at.Given as goal

abbrev pub invariant-loop-line : goal.invariant-loop-line
invariant-loop-line l = earlier l.found (item_at l.text (drop l.line-index l.lines)) ≡ item_at l.text l.lines
