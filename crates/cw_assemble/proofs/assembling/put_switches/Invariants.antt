use Rattle.std.proofs.Common.{drop, length}
use Rattle.cw_tmpl.specs.Named.{is_named_switch}
use Rattle.cw_tmpl.specs.ReferenceCode.{switches}
use Rattle.cw_assemble.proofs.Growing.{Coming}
use Rattle.cw_assemble.proofs.assembling.put_switches.Given as goal

abbrev pub invariant-loop-number : goal.invariant-loop-number
invariant-loop-number l =
    let named = is_named_switch l.orders in
    Coming l.fn.code (switches l.names named (length l.fn.code.assembly.bytes) 0 l.orders.switches) l.code (switches l.names named (length l.code.assembly.bytes) l.number (drop l.number l.switches))
