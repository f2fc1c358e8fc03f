use Rattle.std.proofs.Common.{◌≡◌, ℕ, ◌+◌, add-one, refl}
use Rattle.cw_i86.specs.declared.shift.ShiftOp.{ShiftOp}
use Rattle.cw_i86.specs.Shifts.{State, once, repeated}

pub more : (shift : ShiftOp) (half n : ℕ) (s : State) → repeated shift half (n + 1) s ≡ once shift half (repeated shift half n s)
unfolding repeated
more shift half n s = rw add-one refl
