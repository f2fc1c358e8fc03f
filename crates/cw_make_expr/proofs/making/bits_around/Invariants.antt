use Rattle.std.proofs.Common.{◌≡◌, drop}
use Rattle.cw_make_expr.specs.Made.{bits_around}
use Rattle.cw_make_expr.proofs.making.bits_around.Given as goal

abbrev pub invariant-loop-i : goal.invariant-loop-i
invariant-loop-i l = l.inner ≡ bits_around (drop l.i l.all) l.initial.inner
