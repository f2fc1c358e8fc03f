use Rattle.std.proofs.Common.{◌≡◌, drop}
use Rattle.cw_place.specs.Fitting.{outside_in}
use Rattle.cw_place.proofs.space.outside.Given as goal

abbrev pub invariant-loop-family : goal.invariant-loop-family
invariant-loop-family l = outside_in l.room (drop l.family-index l.families) ≡ outside_in l.room l.families
