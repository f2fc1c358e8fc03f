-- Runs that are over are not at work.
use Rattle.std.proofs.Common.{◌≡◌, ℕ, ◌+◌, ◌*◌, Bool, true, false, List, inl, inr, sym, ◌∙◌}
use Rattle.std.specs.Prelude.{◌==◌, if◌then◌else◌}
use Rattle.cw_i86.specs.MachineRun.{Event, End, Running, Ended, Stopped, IsOver, last_given}
use Rattle.cw_i86.specs.State.{State}

-- after HLT
has_halted : (b : Bool) (kind segment line : ℕ) → (if b then Ended else Stopped kind segment line) ≡ Running → ⊥
has_halted true kind segment line on = cc
has_halted false kind segment line on = cc

-- a run that is over is not at work
pub has_ended : (s : State) (n : ℕ) (events : List Event) (end : End) → IsOver s n events end → end ≡ Running → ⊥
has_ended s n events end (k, t, less, runs, inl (u, steps, is)) on =
    has_halted (last_given 0x13 events 0 == 0) (last_given 0x13 events 0) (last_given 0x14 events 0) (last_given 0x15 events 0 + 256 * last_given 0x16 events 0) (sym is ∙ on)
has_ended s n events end (k, t, less, runs, inr (inl (steps, is))) on = cc
has_ended s n events end (k, t, less, runs, inr (inr (steps, is))) on = cc
