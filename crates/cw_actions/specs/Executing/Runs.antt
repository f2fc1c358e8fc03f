-- How a run went, as the functions of this crate tell each other.
use Rattle.std.specs.Prelude.{◌≡◌, ℕ}
use Rattle.cw_i86.specs.State.{State}
use Rattle.cw_ports.specs.Running.{Outside, outside, RunTells}
use Rattle.cw_ports.specs.declared.running.ImageEnd.{ImageEnd}
use Rattle.cw_correct.specs.Calls.{Surroundings}
use Rattle.cw_say.specs.declared.status.Status.{Status}
use Rattle.cw_actions.specs.Going.Runs.{status_of}

-- the part of the surroundings that a run uses
abbrev pub image_side : Surroundings → Outside
image_side s = outside s.left s.input_faults s.out s.out_faults

-- it ran from this state, and the status tells how it ended
pub record Runs (start : State) (steps : ℕ) (a b : Outside) (status : Status) : Type 0 where
  pub end : ImageEnd
  pub is : status ≡ status_of steps end
  pub tells : RunTells end start steps a b
