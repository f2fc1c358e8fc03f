use Rattle.std.proofs.Common.{◌≤◌, Bool, true, false, arith}
use Rattle.cw_i86.specs.Sums.{bit}

pub bit_is_small : (b : Bool) → bit b ≤ 1
bit_is_small true = omega arith
bit_is_small false = omega arith
