use Rattle.std.proofs.Common.{replicate}
use Rattle.cw_show.specs.Adding.{Extends}
use Rattle.cw_show.proofs.leaf.put_zeros.Given as goal

abbrev pub invariant-loop : goal.invariant-loop
invariant-loop l = Extends l.initial.out l.out (replicate l.counter 48)
