use Rattle.std.proofs.Common.{◌≡◌, ◌++◌, drop}
use Rattle.cw_tmpl.specs.ReferenceCode.{label_starts}
use Rattle.cw_assemble.proofs.places.label_places.Given as goal

abbrev pub invariant-loop-number : goal.invariant-loop-number
invariant-loop-number l = l.list ++ label_starts l.names l.number (drop l.number l.labels) ≡ label_starts l.names 0 l.labels
