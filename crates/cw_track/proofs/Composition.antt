-- Tracking composes: what tracks a machine that tracks a third tracks the third, and the initial costs add up.
use Rattle.std.proofs.Common.{◌≡◌, inl, inr, ⊎_elim, ℕ, suc, ◌+◌, ◌≤◌, Bool, false, ap, ◌∙◌, arith}
use Rattle.cw_track.specs.Machine.{Machine, shown_after, cost}
use Rattle.cw_track.specs.Tracking.{TracksAfter}

pub tracks_through : {O : Type 0} (is_running : O → Bool) (A B C : Machine O) (i j x : ℕ) (s : A.State) (t : B.State) (u : C.State) → x ≡ i + j → TracksAfter is_running i A s B t → TracksAfter is_running j B t C u → TracksAfter is_running x A s C u
tracks_through is_running A B C i j x s t u sum ab bc = record {
  shows_only = λ k.
      let c = bc.shows_only k in
      let b = ab.shows_only c.0 in
      let over : is_running (shown_after B c.0 t) ≡ false → is_running (shown_after C k u) ≡ false = λ h. ap is_running c.1 ∙ h in (
        b.0,
        c.1 ∙ b.1,
        ⊎_elim
            (λ (l : cost C (suc k) u ≤ j + cost B (suc c.0) t). ⊎_elim
            (λ (m : cost B (suc c.0) t ≤ i + cost A (suc b.0) s). inl (let n : cost C (suc k) u ≤ x + cost A (suc b.0) s = omega arith in n))
            (λ (h : is_running (shown_after B c.0 t) ≡ false). inr (over h))
            b.2)
            (λ (h : is_running (shown_after C k u) ≡ false). inr h)
            c.2,
      );
  shows_all = λ m.
      let b = ab.shows_all m in
      let c = bc.shows_all b.0 in
      (c.0, c.1 ∙ b.1, (let n : cost C c.0 u ≤ x + cost A m s = omega (arith, b.2, c.2) in n));
}
