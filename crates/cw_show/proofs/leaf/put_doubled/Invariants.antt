use Rattle.std.proofs.Common.{drop}
use Rattle.cw_show.specs.Canonical.{doubled}
use Rattle.cw_show.proofs.Adding.{KeepsBytes}
use Rattle.cw_show.proofs.leaf.put_doubled.Given as goal

abbrev pub invariant-loop-byte : goal.invariant-loop-byte
invariant-loop-byte l = KeepsBytes l.initial.out l.out (doubled l.characters) (doubled (drop l.byte-index l.characters))
