use Rattle.std.proofs.Common.{◌≡◌, ◌+◌, drop}
use Rattle.cw_place.specs.Fitting.{first_outside}
use Rattle.cw_place.proofs.space.first_outside.Given as goal

abbrev pub invariant-loop-number : goal.invariant-loop-number
invariant-loop-number l = first_outside l.room (l.number + 1) (drop l.number l.spaces) ≡ first_outside l.room 1 l.spaces
