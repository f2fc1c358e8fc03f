-- The laws that the promise of `go` stands on.
use Rattle.std.proofs.Common.{◌≡◌, ◌≢◌, ℕ, ◌<◌, ◌≤◌, List, [], length}
use Rattle.std.specs.Prelude.{All}
use Rattle.cw_i86.specs.State.{State}
use Rattle.cw_i86.specs.MachineRun as run
use Rattle.cw_unit.specs.declared.unit.Unit.{Unit as SourceUnit}
use Rattle.cw_unit.specs.declared.layout.Limits.{Limits}
use Rattle.cw_unit.specs.declared.layout.Map.{Map}
use Rattle.cw_unit.specs.Allocation.{storage_map}
use Rattle.cw_unit.specs.ValidStorage.{ValidStorageMap}
use Rattle.cw_unit.specs.Program.{Program, program_at}
use Rattle.cw_unit.specs.Configuration.{FramesApart, activations_of}
use Rattle.cw_unit.specs.Behaviour.{configuration_after}
use Rattle.cw_sim.specs.Preservation.{IsLoaded, Preserves, Completes}
use Rattle.cw_place.specs.Placement.{IsLimits}
use Rattle.cw_build.specs.Compiled.{IsCompilable}
use Rattle.cw_build.specs.Linking.{Links, image_of}
use Rattle.cw_actions.specs.Resulting.Texts.{OneOfText, AreCompilable, HasSizes}

-- on storage: the map of what links, and the frames of a run
pub record OnStorage : Type 0 where
  pub map : (us : List SourceUnit) (limits : Limits) → All IsCompilable us → Links us limits → ValidStorageMap us limits (storage_map us)
  pub frames : (p : Program) (input : List ℕ) (m : ℕ) → FramesApart p (activations_of (configuration_after p input m))

-- on runs
pub record OnRuns : Type 0 where
  pub loaded : (us : List SourceUnit) (limits : Limits) (input : List ℕ) (s : State) → us ≢ [] → length us ≤ 200 → All IsCompilable us → IsLimits limits → Links us limits → All (λ b. b < 256) input
      → run.IsStart (image_of us limits).code (image_of us limits).words s → IsLoaded us (storage_map us) limits input s
  pub preserves : (us : List SourceUnit) (m : Map) (limits : Limits) (input : List ℕ) (s : State) (k : ℕ) (shown : run.Observed) → IsLoaded us m limits input s → run.Shows s input k shown → Preserves (program_at us m limits) input k shown
  pub completes : (us : List SourceUnit) (m : Map) (limits : Limits) (input : List ℕ) (s : State) (steps : ℕ) → IsLoaded us m limits input s → Completes (program_at us m limits) input steps s
  pub once : (s : State) (input : List ℕ) (n : ℕ) (a b : run.Observed) → run.Shows s input n a → run.Shows s input n b → a ≡ b

pub record Given : Type 0 where
  pub texts : OneOfText
  pub units : AreCompilable
  pub storages : OnStorage
  pub runs : OnRuns
  pub sizes : HasSizes

-- the state that begins with an image is one, and so is what shows of its run
pub record OneRun : Type 0 where
  pub starts : (code words : List ℕ) (s t : State) → run.IsStart code words s → run.IsStart code words t → s ≡ t
  pub once : (s : State) (input : List ℕ) (n : ℕ) (a b : run.Observed) → run.Shows s input n a → run.Shows s input n b → a ≡ b
