use Rattle.std.proofs.Common.{◌≡◌, ◌++◌, drop}
use Rattle.cw_tmpl.specs.Named.{is_named_switch}
use Rattle.cw_tmpl.specs.ReferenceCode.{switch_places}
use Rattle.cw_assemble.proofs.places.switch_places.Given as goal

abbrev pub invariant-loop-number : goal.invariant-loop-number
invariant-loop-number l =
    l.list ++ switch_places (is_named_switch l.orders) l.at l.number (drop l.number l.switches) ≡ switch_places (is_named_switch l.orders) l.first 0 l.orders.switches
