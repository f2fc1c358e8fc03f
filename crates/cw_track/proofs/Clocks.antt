-- The three clocks track each other.
use Rattle.std.proofs.Common.{◌≡◌, inl, inr, ℕ, zero, suc, Bool, true, false, refl, sym, ap, ◌∙◌, subst, arith}
use Rattle.std.proofs.lemmas.Bool.{true≢false, false≢true}
use Rattle.cw_track.specs.Tracking.{TracksAfter, Tracks, KeepsPace}
use Rattle.cw_track.specs.Clocks.{Position, Wound, First, is_striking, tick, let_go, turn, pendulum, escapement, wheels}
use Rattle.cw_track.proofs.Paths.{Path, stay, next}
use Rattle.cw_track.proofs.Simulations.{Followed, Simulation, tracks}
use Rattle.cw_track.proofs.Composition.{tracks_through}
use Rattle.cw_track.proofs.Budgets.{starts_up, keeps_pace}

-- ---- the escapement tracks the pendulum

abbrev SameLeft : ℕ × Bool → ℕ → Type 0
SameLeft s n = n ≡ s.0

-- after a silent tick the next one strikes
abbrev silent_ticks : ℕ × Bool → ℕ
silent_ticks (n, true) = 1
silent_ticks (n, false) = 0

still_pendulum : (n : ℕ) (silent : Bool) → is_striking n ≡ false → tick (n, silent) ≡ (n, silent)
still_pendulum zero silent off = refl
still_pendulum (suc n) silent off = absurd (true≢false off)

still_escapement : (n : ℕ) → is_striking n ≡ false → let_go n ≡ n
still_escapement zero off = refl
still_escapement (suc n) off = absurd (true≢false off)

strike : (n : ℕ) (silent : Bool) → is_striking n ≡ true → Followed pendulum escapement SameLeft silent_ticks (n, silent) n
strike zero silent on = absurd (false≢true on)
strike (suc n) true on = record { spent = 0; reached = suc n; path = stay refl refl; within = omega arith; matched = refl; progress = inr (omega arith) }
strike (suc n) false on = record { spent = 3; reached = n; path = next (inl refl) refl refl (stay refl refl); within = omega arith; matched = refl; progress = inl (omega arith) }

escapement_simulates : Simulation is_striking pendulum escapement SameLeft silent_ticks
escapement_simulates = record {
  agrees = λ s n same. same;
  rests = λ s n same off. (still_pendulum s.0 s.1 off, still_escapement n (ap is_striking same ∙ off));
  follows = λ s n same on. subst (λ k. Followed pendulum escapement SameLeft silent_ticks s k) (sym same) (strike s.0 s.1 on);
}

pub strikes : (n : ℕ) → Tracks is_striking pendulum (n, true) escapement n
strikes n = tracks is_striking pendulum escapement SameLeft silent_ticks escapement_simulates (n, true) n refl

-- ---- the wheels track the escapement

abbrev AtFirst : ℕ → ℕ × Position → Type 0
AtFirst n t = t ≡ (n, First)

-- the wheels never wait
abbrev no_rank : ℕ → ℕ
no_rank n = 0

still_wheels : (n : ℕ) → is_striking n ≡ false → turn (n, First) ≡ (n, First)
still_wheels zero off = refl
still_wheels (suc n) off = absurd (true≢false off)

three_turns : (n : ℕ) → is_striking n ≡ true → Followed escapement wheels AtFirst no_rank n (n, First)
three_turns zero on = absurd (false≢true on)
three_turns (suc n) on = record {
  spent = 3;
  reached = (n, First);
  path = next (inl refl) refl refl (next (inl refl) refl refl (next (inl refl) refl refl (stay refl refl)));
  within = omega arith;
  matched = refl;
  progress = inl (omega arith);
}

wheels_simulate : Simulation is_striking escapement wheels AtFirst no_rank
wheels_simulate = record {
  agrees = λ n t same. ap (λ u. u.0) same;
  rests = λ n t same off. (still_escapement n off, subst (λ u. turn u ≡ u) (sym same) (still_wheels n off));
  follows = λ n t same on. subst (λ u. Followed escapement wheels AtFirst no_rank n u) (sym same) (three_turns n on);
}

-- ---- the wheels track the pendulum

pub turns : (n : ℕ) → Tracks is_striking pendulum (n, true) wheels (n, First)
turns n = tracks_through is_striking pendulum escapement wheels 0 0 0 (n, true) n (n, First) refl (strikes n) (tracks is_striking escapement wheels AtFirst no_rank wheels_simulate n (n, First) refl)

pub pace : (n : ℕ) → KeepsPace is_striking 4 pendulum (n, true) wheels (n, Wound)
pace n =
    let wind : Path (λ o. o ≡ n) wheels 1 (n, Wound) (n, First) = next refl refl refl (stay refl refl) in
    let after : TracksAfter is_striking 1 pendulum (n, true) wheels (n, Wound) = starts_up is_striking pendulum wheels (n, true) 0 1 1 (n, Wound) (n, First) refl wind (turns n) in
    keeps_pace is_striking pendulum wheels 1 3 4 (omega arith) (λ s. omega arith) (λ t. omega arith) (n, true) (n, Wound) after
