use Rattle.std.proofs.Common.{drop, length}
use Rattle.cw_tmpl.specs.Named.{is_named_label}
use Rattle.cw_tmpl.specs.ReferenceCode.{landings}
use Rattle.cw_assemble.proofs.Growing.{Coming}
use Rattle.cw_assemble.proofs.assembling.put_landings.Given as goal

abbrev pub invariant-loop-number : goal.invariant-loop-number
invariant-loop-number l =
    let named = is_named_label l.orders in
    Coming l.fn.code (landings l.names named (length l.fn.code.assembly.bytes) 0 l.orders.labels) l.code (landings l.names named (length l.code.assembly.bytes) l.number (drop l.number l.labels))
