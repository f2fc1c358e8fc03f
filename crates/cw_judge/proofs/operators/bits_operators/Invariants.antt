use Rattle.std.proofs.Common.{◌≡◌, map, drop}
use Rattle.cw_judge.specs.Operators.{bits_at, counted}
use Rattle.cw_judge.proofs.operators.bits_operators.Given as goal

abbrev pub invariant-loop-one : goal.invariant-loop-one
invariant-loop-one l = counted (map bits_at (drop l.one-index l.bits)) l.tally ≡ counted (map bits_at l.bits) l.initial.tally
