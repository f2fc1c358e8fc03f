-- Semantic preservation: what the image of a program shows is what its source means.
use Rattle.std.specs.Prelude.{◌≡◌, ◌⊎◌, ℕ, ◌+◌, ◌*◌, ◌<◌, ◌≤◌, false, List, All}
use Rattle.cw_track.specs.Tracking.{step_ratio}
use Rattle.cw_i86.specs.State.{State}
use Rattle.cw_i86.specs.MachineRun as run
use Rattle.cw_unit.specs.declared.unit.Unit.{Unit as SourceUnit}
use Rattle.cw_unit.specs.declared.layout.Limits.{Limits}
use Rattle.cw_unit.specs.declared.layout.Map.{Map}
use Rattle.cw_unit.specs.Program.{Program, program_at}
use Rattle.cw_unit.specs.InitialMemory.{initial_memory}
use Rattle.cw_unit.specs.Stop.{StopKind, stop_number, End, Running, Ended, Stopped}
use Rattle.cw_unit.specs.Behaviour.{Observation, is_running, observed}
use Rattle.cw_safety.specs.WellFormed.{WellFormed}
use Rattle.cw_gen_unit.specs.BuiltUnits.{AllBuilt, Suits}
use Rattle.cw_gen_unit.specs.ReferenceUnits.{orders_program}
use Rattle.cw_follow.specs.Placing.{IsImage, Codable, BeginsWith}

-- ---- what is promised

-- The 8086 tells the end that the source means. Bad code and a division that faults are no such end.
abbrev pub TellsEnd : run.End → End → Type 0
TellsEnd run.Running end = end ≡ Running
TellsEnd run.Ended end = end ≡ Ended
TellsEnd (run.Stopped kind segment line) end = (stop : StopKind) × (kind ≡ stop_number stop) × (end ≡ Stopped stop segment line)
TellsEnd (run.Bad offset) end = ⊥
TellsEnd (run.Divided offset) end = ⊥

-- the output and the end are those that the source means
pub record ShowsAs (shown : run.Observed) (meant : Observation) : Type 0 where
  pub output : shown.output ≡ meant.output
  pub end : TellsEnd shown.end meant.end

-- After k instructions the 8086 shows what the source means after some number of its steps, and k is at most 256 for each of these and
-- one more, unless that meaning has ended or stopped.
pub record Preserves (p : Program) (input : List ℕ) (k : ℕ) (shown : run.Observed) : Type 0 where
  pub steps : ℕ
  pub shows : ShowsAs shown (observed p input steps)
  pub pace : (k ≤ step_ratio * (steps + 1)) ⊎ (is_running (observed p input steps) ≡ false)

-- And what the source means after so many steps, the 8086 shows after at most 256 instructions for each of these and one more.
pub record Completes (p : Program) (input : List ℕ) (steps : ℕ) (s : State) : Type 0 where
  pub k : ℕ
  pub shown : run.Observed
  pub shows_at : run.Shows s input k shown
  pub shows : ShowsAs shown (observed p input steps)
  pub pace : k ≤ step_ratio * (steps + 1)

-- ---- of which programs

-- Well-formed units whose orders all have code, with a storage map, limits and room that suit them, and a state of the 8086 that begins
-- with their image and their first words.
pub record IsLoaded (us : List SourceUnit) (m : Map) (limits : Limits) (input : List ℕ) (s : State) : Type 0 where
  pub room : ℕ
  pub well_formed : WellFormed (program_at us m limits)
  pub built : AllBuilt us
  pub suits : Suits us m limits room
  pub codable : Codable (orders_program us m limits room)
  pub image : List ℕ
  pub words : List ℕ
  pub is_image : IsImage (orders_program us m limits room) image
  pub begins : BeginsWith (orders_program us m limits room) (initial_memory us m limits.area) words
  pub starts : run.IsStart image words s
  pub bytes : All (λ b. b < 256) input
