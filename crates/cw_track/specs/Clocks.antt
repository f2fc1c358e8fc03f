-- Three small machines that do the same: a clock that is to strike a number of times and then rests. Each shows how many
-- strikes are left.
use Rattle.std.specs.Prelude.{ℕ, zero, suc, Bool, true, false}
use Rattle.cw_track.specs.Machine.{Machine}

abbrev pub is_striking : ℕ → Bool
is_striking zero = false
is_striking (suc n) = true

-- the pendulum ticks, and the clock strikes at every second tick; the state tells whether the next tick is a silent one
abbrev pub tick : ℕ × Bool → ℕ × Bool
tick (zero, silent) = (zero, silent)
tick (suc n, true) = (suc n, false)
tick (suc n, false) = (n, true)

abbrev pub pendulum : Machine ℕ
pendulum = record { State = ℕ × Bool; step = tick; shown = λ s. s.0; weight = λ s. 3 }

-- the escapement moves once for each strike
abbrev pub let_go : ℕ → ℕ
let_go zero = zero
let_go (suc n) = n

abbrev pub escapement : Machine ℕ
escapement = record { State = ℕ; step = let_go; shown = λ n. n; weight = λ n. 3 }

-- the wheels turn three times for each strike, after a first turn that winds them up: how they stand between turns
pub data Position : Type 0 where
  Wound : Position
  First : Position
  Second : Position
  Third : Position

abbrev pub turn : ℕ × Position → ℕ × Position
turn (n, Wound) = (n, First)
turn (zero, First) = (zero, First)
turn (zero, Second) = (zero, Second)
turn (zero, Third) = (zero, Third)
turn (suc n, First) = (suc n, Second)
turn (suc n, Second) = (suc n, Third)
turn (suc n, Third) = (n, First)

abbrev pub wheels : Machine ℕ
wheels = record { State = ℕ × Position; step = turn; shown = λ s. s.0; weight = λ s. 1 }
