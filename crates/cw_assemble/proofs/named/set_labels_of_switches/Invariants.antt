use Rattle.std.proofs.Common.{drop}
use Rattle.cw_tmpl.specs.Named.{is_named_switch, switches_list_label}
use Rattle.cw_assemble.proofs.Flags.{Setting}
use Rattle.cw_assemble.proofs.named.set_labels_of_switches.Given as goal

abbrev pub invariant-loop-number : goal.invariant-loop-number
invariant-loop-number l =
    Setting l.flags.items l.fn.flags.items (switches_list_label (is_named_switch l.orders) l.number (drop l.number l.switches)) (switches_list_label (is_named_switch l.orders) 0 l.orders.switches)
