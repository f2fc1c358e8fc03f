use Rattle.std.proofs.Common.{◌≡◌, ◌++◌, drop}
use Rattle.cw_tmpl.specs.ReferenceCode.{statements_from}
use Rattle.cw_assemble.proofs.places.statement_places.Given as goal

abbrev pub invariant-loop-k : goal.invariant-loop-k
invariant-loop-k l = l.list ++ statements_from l.k l.places (drop l.k l.orders) ≡ statements_from 0 l.places l.orders
