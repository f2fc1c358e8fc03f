use Rattle.std.proofs.Common.{◌≡◌, max, drop}
use Rattle.cw_place.specs.Fitting.{largest_need}
use Rattle.cw_place.proofs.space.largest_need.Given as goal

abbrev pub invariant-loop-space : goal.invariant-loop-space
invariant-loop-space l = max l.largest (largest_need (drop l.space-index l.spaces)) ≡ largest_need l.spaces
