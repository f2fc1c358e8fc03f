use Rattle.std.proofs.Common.{◌≡◌, ◌++◌, drop}
use Rattle.cw_comm.proofs.agreement.in_order.Given as goal

abbrev pub invariant-loop-n : goal.invariant-loop-n
invariant-loop-n l = l.list ++ drop l.n l.names.keys ≡ l.names.keys
