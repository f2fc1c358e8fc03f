use Rattle.std.proofs.Common.{◌≡◌, ◌++◌, drop}
use Rattle.cw_make_items.specs.Types.{each_taken}
use Rattle.cw_make_items.proofs.types.each_taken.Given as goal

abbrev pub invariant-loop-param : goal.invariant-loop-param
invariant-loop-param l = l.all ++ each_taken (drop l.param-index l.params) ≡ each_taken l.params
