-- Where a run of the 8086 leads the processor.
use Rattle.std.specs.Prelude.{◌≡◌, ◌⊎◌, ℕ, List}
use Rattle.cw_i86.specs.State.{State}
use Rattle.cw_i86.specs.MachineRun.{Event, Runs, FitsInput, Running, IsOver}
use Rattle.cw_run86.specs.Processor.{Processor}

-- The processor is at work, in the state to which a run of n steps over this input leads; or such a run is over, with the processor's end.
pub record IsReached (s : State) (input : List ℕ) (n : ℕ) (p : Processor) : Type 0 where
  pub events : List Event
  pub fits : FitsInput input events
  pub is : (Runs n s events p.state × (p.end ≡ Running)) ⊎ IsOver s n events p.end
