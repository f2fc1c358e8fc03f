use Rattle.std.proofs.Common.{◌≡◌, drop, length}
use Rattle.cw_assemble.specs.Noted.{blocks_from}
use Rattle.cw_tmpl.specs.ReferenceCode.{templates}
use Rattle.cw_assemble.proofs.Growing.{Coming}
use Rattle.cw_assemble.proofs.assembling.put_orders.Given as goal

abbrev pub invariant-loop-k : goal.invariant-loop-k
invariant-loop-k l =
    Coming l.fn.code (templates l.names (length l.fn.code.assembly.bytes) 0 0 l.list) l.code (templates l.names (length l.code.assembly.bytes) l.k l.left (drop l.k l.list))
    × (drop l.k l.blocks ≡ blocks_from l.left (drop l.k l.list))
