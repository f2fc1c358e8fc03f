-- One machine tracks another: it shows the same things, at a cost that the other's steps pay for. A is the machine that
-- says what is to happen, and B the one that carries it out.
use Rattle.std.specs.Prelude.{◌≡◌, ◌⊎◌, ℕ, suc, ◌+◌, ◌*◌, ◌≤◌, Bool, false}
use Rattle.cw_track.specs.Machine.{Machine, shown_after, cost}

-- B from t tracks A from s, after an initial cost. B shows nothing that A does not show: each moment k of B has a moment m of
-- A that shows the same. And B shows all that A shows: each moment m of A has such a moment k. The initial cost and A's
-- steps pay for B's steps. For a given k, B may be in the middle of what it does for one step of A, so that step pays as
-- well; in return B's next step is counted too. Without that, tracking would not compose: a machine that tracks B would have
-- a step under way that nothing pays for. Once B shows that the run is over, its further steps need not be paid for
pub record TracksAfter {O : Type 0} (is_running : O → Bool) (initial : ℕ) (A : Machine O) (s : A.State) (B : Machine O) (t : B.State) : Type 0 where
  pub shows_only : (k : ℕ) → (m : ℕ) × (shown_after B k t ≡ shown_after A m s)
      × ((cost B (suc k) t ≤ initial + cost A (suc m) s) ⊎ (is_running (shown_after B k t) ≡ false))
  pub shows_all : (m : ℕ) → (k : ℕ) × (shown_after B k t ≡ shown_after A m s) × (cost B k t ≤ initial + cost A m s)

-- B tracks A from the first step on
abbrev pub Tracks : {O : Type 0} (is_running : O → Bool) (A : Machine O) (s : A.State) (B : Machine O) (t : B.State) → Type 0
Tracks is_running A s B t = TracksAfter is_running 0 A s B t

-- the same in numbers of steps: B takes at most so many for each step of A and one more. This bounds every moment of B, also
-- those before A's first step and in the middle of one
pub record KeepsPace {O : Type 0} (is_running : O → Bool) (ratio : ℕ) (A : Machine O) (s : A.State) (B : Machine O) (t : B.State) : Type 0 where
  pub shows_only : (k : ℕ) → (m : ℕ) × (shown_after B k t ≡ shown_after A m s) × ((k ≤ ratio * (m + 1)) ⊎ (is_running (shown_after B k t) ≡ false))
  pub shows_all : (m : ℕ) → (k : ℕ) × (shown_after B k t ≡ shown_after A m s) × (k ≤ ratio * (m + 1))

-- how many instructions of the processor the start-up code may take, and one step of the source semantics; and how many
-- they then take at most for each step and one more
abbrev pub startup_budget : ℕ
startup_budget = 32

abbrev pub step_budget : ℕ
step_budget = 224

abbrev pub step_ratio : ℕ
step_ratio = 256
