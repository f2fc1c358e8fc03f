use Rattle.std.proofs.Common.{◌≡◌, drop}
use Rattle.cw_scope.specs.Same.{each_same_plain}
use Rattle.cw_scope.proofs.same.each_same_plain.Given as goal

abbrev pub invariant-loop-x : goal.invariant-loop-x
invariant-loop-x l = each_same_plain (drop l.x-index l.a) l.rest ≡ each_same_plain l.a l.b
