-- What digits mean, up to a bound.
use Rattle.std.proofs.Common.{◌≡◌, ℕ, ◌+◌, ◌-◌, ◌*◌, ◌<◌, List, length, take, get_or, min, arith}
use Rattle.std.proofs.lemmas.List.Sums.{fold_more}
use Rattle.cw_stop.specs.Stopping.{value_of}
