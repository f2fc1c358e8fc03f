-- Deterministic machines: transition systems in which each state has exactly one next state, and whose steps have a cost.
use Rattle.std.specs.Prelude.{ℕ, zero, suc, ◌+◌}

-- a machine whose states show an O: its states, its transition function, what an observer sees of a state, and what the
-- step from a state costs. The transition function is total: the state of a run that is over steps to itself
pub record Machine (O : Type 0) : Type 1 where
  pub State : Type 0
  pub step : State → State
  pub shown : State → O
  pub weight : State → ℕ

-- the state after k steps
abbrev pub state_after : {O : Type 0} (M : Machine O) → ℕ → M.State → M.State
state_after M zero s = s
state_after M (suc k) s = state_after M k (M.step s)

-- what an observer sees after k steps
abbrev pub shown_after : {O : Type 0} (M : Machine O) → ℕ → M.State → O
shown_after M k s = M.shown (state_after M k s)

-- what k steps cost together
abbrev pub cost : {O : Type 0} (M : Machine O) → ℕ → M.State → ℕ
cost M zero s = 0
cost M (suc k) s = M.weight s + cost M k (M.step s)
