use Rattle.std.proofs.Common.{length, ap}
use Rattle.cw_assemble.proofs.Flags.{switches_told}
use Rattle.cw_assemble.proofs.named.named_switches.Goals as goal

pub returns : goal.returns
returns c =
    switches_told c.args.orders.now (length c.as_slice.result.now) c.in_ok-flags.flags.items c.set_switches_of_orders.new.flags.items c.set_shared_switches.new.flags.items c.of.result c.as_slice-2.result.now c.as_slice-3.result.now
    c.in_ok-flags.ensures (ap length c.as_slice.ensures) c.as_slice-2.ensures c.as_slice-3.ensures
    c.set_switches_of_orders.ensures.long c.set_switches_of_orders.ensures.each c.set_shared_switches.ensures.long c.set_shared_switches.ensures.each c.of.ensures
