-- The start-up of a machine that tracks, and the bound on its steps.
use Rattle.std.proofs.Common.{◌≡◌, ◌⊎◌, inl, inr, ⊎_elim, ℕ, zero, suc, ◌+◌, ◌*◌, ◌≤◌, Bool, false, refl, ap, ◌∙◌, arith}
use Rattle.cw_track.specs.Machine.{Machine, shown_after, cost}
use Rattle.cw_track.specs.Tracking.{TracksAfter, KeepsPace, startup_budget, step_budget, step_ratio}
use Rattle.cw_track.proofs.Paths.{Path, stay, next, reach}

module _ {O : Type 0} (is_running : O → Bool) (A B : Machine O) (s : A.State) where
  -- the moment k of B, which the cost c and A's steps pay for
  abbrev Only : ℕ → ℕ → B.State → Type 0
  Only k c t = (m : ℕ) × (shown_after B k t ≡ shown_after A m s) × ((cost B (suc k) t ≤ c + cost A (suc m) s) ⊎ (is_running (shown_after B k t) ≡ false))

  -- a moment of a run that begins with a path, from the moments of the run after it
  only_from : (initial w x : ℕ) (t u : B.State) → x ≡ w + initial → Path (λ o. o ≡ A.shown s) B w t u → ((k : ℕ) → Only k initial u) → (k : ℕ) → Only k x t
  only_from initial w x t u sum (stay tu z) later k =
      let a = later k in
      let e = ap (shown_after B k) tu in (
        a.0,
        e ∙ a.1,
        ⊎_elim
            (λ (l : cost B (suc k) u ≤ initial + cost A (suc a.0) s). inl (let l' : cost B (suc k) t ≤ x + cost A (suc a.0) s = omega (arith, ap (cost B (suc k)) tu) in l'))
            (λ (off : is_running (shown_after B k u) ≡ false). inr (ap is_running e ∙ off))
            a.2,
      )
  only_from initial w x t u sum (next {w' = w'} {t' = t'} shows st we p) later zero =
      (0, shows, inl (let l : B.weight t + 0 ≤ x + (A.weight s + 0) = omega arith in l))
  only_from initial w x t u sum (next {w' = w'} {t' = t'} shows st we p) later (suc k) =
      let a = only_from initial w' (w' + initial) t' u refl p later k in
      let e = ap (shown_after B k) st in (
        a.0,
        e ∙ a.1,
        ⊎_elim
            (λ (l : cost B (suc k) t' ≤ w' + initial + cost A (suc a.0) s). inl (let l' : B.weight t + cost B (suc k) (B.step t) ≤ x + cost A (suc a.0) s = omega (arith, ap (cost B (suc k)) st) in l'))
            (λ (off : is_running (shown_after B k t') ≡ false). inr (ap is_running e ∙ off))
            a.2,
      )

  -- where B, before it tracks A, first goes a way on which it shows what A shows at its start, that way adds to the initial cost
  pub starts_up : (initial w x : ℕ) (t u : B.State) → x ≡ w + initial → Path (λ o. o ≡ A.shown s) B w t u → TracksAfter is_running initial A s B u → TracksAfter is_running x A s B t
  starts_up initial w x t u sum p after = record {
    shows_only = only_from initial w x t u sum p after.shows_only;
    shows_all = λ m.
        let a = after.shows_all m in
        let b = reach _ B (shown_after A m s) w (initial + cost A m s) t u p a.0 a.1 a.2 in
        (b.0, b.1, (let l : cost B b.0 t ≤ x + cost A m s = omega (arith, b.2) in l));
  }

-- where each step costs at most so much, m steps cost at most m times as much
cost_at_most : {O : Type 0} (A : Machine O) (per_step : ℕ) → ((s : A.State) → A.weight s ≤ per_step) → (m : ℕ) (s : A.State) → cost A m s ≤ per_step * m
cost_at_most A per_step at_most zero s = let none : per_step * 0 ≡ 0 = grind arith in let l : 0 ≤ per_step * 0 = omega arith in l
cost_at_most A per_step at_most (suc m) s =
    let rest = cost_at_most A per_step at_most m (A.step s) in
    let first = at_most s in
    let product : per_step * suc m ≡ per_step + per_step * m = grind arith in
    let l : A.weight s + cost A m (A.step s) ≤ per_step * suc m = omega arith in
    l

-- where each step costs something, k steps cost at least k
steps_within_cost : {O : Type 0} (B : Machine O) → ((t : B.State) → 1 ≤ B.weight t) → (k : ℕ) (t : B.State) → k ≤ cost B k t
steps_within_cost B at_least zero t = let l : 0 ≤ 0 = omega arith in l
steps_within_cost B at_least (suc k) t =
    let rest = steps_within_cost B at_least k (B.step t) in
    let first = at_least t in
    let l : suc k ≤ B.weight t + cost B k (B.step t) = omega arith in
    l

-- the arithmetic of the bound: an initial cost and so much a step, against the ratio
within_ratio : (initial per_step ratio m : ℕ) → initial + per_step ≤ ratio → initial + per_step * suc m ≤ ratio * (m + 1)
within_ratio initial per_step ratio zero fits =
    let a : per_step * 1 ≡ per_step = grind arith in
    let b : ratio * (0 + 1) ≡ ratio = grind arith in
    let l : initial + per_step * 1 ≤ ratio * (0 + 1) = omega arith in
    l
within_ratio initial per_step ratio (suc m) fits =
    let less = within_ratio initial per_step ratio m fits in
    let a : per_step * suc (suc m) ≡ per_step * suc m + per_step = grind arith in
    let b : ratio * (suc m + 1) ≡ ratio * (m + 1) + ratio = grind arith in
    let l : initial + per_step * suc (suc m) ≤ ratio * (suc m + 1) = omega arith in
    l

module _ {O : Type 0} (is_running : O → Bool) (A B : Machine O) where
  -- where the initial cost and the most that a step of A costs fit the ratio together, and each step of B costs something, B
  -- keeps pace with A
  pub keeps_pace : (initial per_step ratio : ℕ) → initial + per_step ≤ ratio → ((s : A.State) → A.weight s ≤ per_step) → ((t : B.State) → 1 ≤ B.weight t) → (s : A.State) (t : B.State) → TracksAfter is_running initial A s B t → KeepsPace is_running ratio A s B t
  keeps_pace initial per_step ratio fits at_most at_least s t tracks = record {
    shows_only = λ k.
        let a = tracks.shows_only k in
        let bound = within_ratio initial per_step ratio a.0 fits in
        let steps = steps_within_cost B at_least (suc k) t in
        let spent = cost_at_most A per_step at_most (suc a.0) s in (
          a.0,
          a.1,
          ⊎_elim
              (λ (l : cost B (suc k) t ≤ initial + cost A (suc a.0) s). inl (let n : k ≤ ratio * (a.0 + 1) = omega arith in n))
              (λ (off : is_running (shown_after B k t) ≡ false). inr off)
              a.2,
        );
    shows_all = λ m.
        let a = tracks.shows_all m in
        let bound = within_ratio initial per_step ratio m fits in
        let steps = steps_within_cost B at_least a.0 t in
        let spent = cost_at_most A per_step at_most m s in
        let more : per_step * suc m ≡ per_step * m + per_step = grind arith in
        (a.0, a.1, (let n : a.0 ≤ ratio * (m + 1) = omega (arith, a.2) in n));
  }

  -- the same with the budgets of the start-up and of a step
  pub keeps_budget : (initial : ℕ) → initial ≤ startup_budget → ((s : A.State) → A.weight s ≤ step_budget) → ((t : B.State) → 1 ≤ B.weight t) → (s : A.State) (t : B.State) → TracksAfter is_running initial A s B t → KeepsPace is_running step_ratio A s B t
  keeps_budget initial fits at_most at_least s t tracks =
      keeps_pace initial step_budget step_ratio (let l : initial + 224 ≤ 256 = omega arith in l) at_most at_least s t tracks
