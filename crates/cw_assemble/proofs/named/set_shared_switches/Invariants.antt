use Rattle.std.proofs.Common.{drop}
use Rattle.cw_tmpl.specs.Named.{shared_has_switch}
use Rattle.cw_assemble.proofs.Flags.{Setting}
use Rattle.cw_assemble.proofs.named.set_shared_switches.Given as goal

abbrev pub invariant-loop-one : goal.invariant-loop-one
invariant-loop-one l = Setting l.flags.items l.fn.flags.items (shared_has_switch (drop l.one-index l.shared)) (shared_has_switch l.shared)
