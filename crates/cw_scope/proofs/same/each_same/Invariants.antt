use Rattle.std.proofs.Common.{◌≡◌, drop}
use Rattle.cw_scope.specs.Same.{each_same}
use Rattle.cw_scope.proofs.same.each_same.Given as goal

abbrev pub invariant-loop-x : goal.invariant-loop-x
invariant-loop-x l = each_same (drop l.x-index l.a) l.rest ≡ each_same l.a l.b
