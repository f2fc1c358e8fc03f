use Rattle.std.proofs.Common.{◌≡◌, ◌++◌, None, drop}
use Rattle.cw_assemble.specs.Noted.{blocks_from}
use Rattle.cw_tmpl.specs.Backward.{calls_from}
use Rattle.cw_assemble.proofs.places.calls.Given as goal

abbrev pub invariant-loop-k : goal.invariant-loop-k
invariant-loop-k l = (l.list ++ calls_from l.longest l.last l.k l.left (drop l.k l.orders) ≡ calls_from l.longest None 0 0 l.orders) × (drop l.k l.blocks ≡ blocks_from l.left (drop l.k l.orders))
