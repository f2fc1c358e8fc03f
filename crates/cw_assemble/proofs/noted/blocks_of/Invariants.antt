use Rattle.std.proofs.Common.{◌≡◌, ◌++◌, drop}
use Rattle.cw_assemble.specs.Noted.{blocks_from}
use Rattle.cw_assemble.proofs.noted.blocks_of.Given as goal

abbrev pub invariant-loop-k : goal.invariant-loop-k
invariant-loop-k l = l.blocks ++ blocks_from l.left (drop l.k l.orders) ≡ blocks_from 0 l.orders
