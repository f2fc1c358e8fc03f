-- The laws that are joined.
use Rattle.std.proofs.Common.{◌≡◌, ◌≢◌, ℕ, ◌<◌, List, []}
use Rattle.std.specs.Prelude.{ℤ, All}
use Rattle.cw_track.specs.Tracking.{Tracks, TracksAfter}
use Rattle.cw_track.specs.Machine.{shown_after}
use Rattle.cw_track.specs.Watching.{watched}
use Rattle.cw_i86.specs.State.{State}
use Rattle.cw_i86.specs.MachineRun.{Observed, Shows, IsStart}
use Rattle.cw_unit.specs.declared.unit.Unit.{Unit as SourceUnit}
use Rattle.cw_unit.specs.declared.layout.Limits.{Limits}
use Rattle.cw_unit.specs.declared.layout.Map.{Map}
use Rattle.cw_unit.specs.Program.{Program, program_at}
use Rattle.cw_unit.specs.Stop.{Stuck}
use Rattle.cw_unit.specs.Begun.{Begun, begins}
use Rattle.cw_unit.specs.Behaviour.{is_running, initial_configuration, observed as meant}
use Rattle.cw_safety.specs.WellFormed.{WellFormed}
use Rattle.cw_order.specs.OrderProgram.{OrderProgram}
use Rattle.cw_order.specs.OrderMachine.{order_machine, order_start}
use Rattle.cw_order.specs.Starting.{starts}
use Rattle.cw_gen_unit.specs.BuiltUnits.{AllBuilt, Suits}
use Rattle.cw_gen_unit.specs.ReferenceUnits.{meaning, orders_program, first_order}
use Rattle.cw_image.specs.Begun.{StatementPlace, Begins}
use Rattle.cw_follow.specs.Passing.{passes, statement_places, PlacesStand}
use Rattle.cw_follow.specs.Showing.{shown_as}
use Rattle.cw_follow.specs.Placing.{IsImage, Codable, BeginsWith, NeverStuck, startup_cost}
use Rattle.cw_run86.specs.Processor.{processor_machine, processor_start, processor_after, observed}

pub record Given : Type 0 where
  pub sound : (p : Program) (input : List ℕ) (m : ℕ) → WellFormed p → (meant p input m).end ≢ Stuck
  pub upper : (us : List SourceUnit) (m : Map) (limits : Limits) (room : ℕ) (input : List ℕ) → WellFormed (program_at us m limits) → AllBuilt us → Suits us m limits room → All (λ b. b < 256) input
      → Tracks (λ o. is_running o.0) (watched (meaning (program_at us m limits)) begins) (initial_configuration (program_at us m limits) input, [])
      (watched (order_machine (orders_program us m limits room)) (starts (orders_program us m limits room))) (first_order us m limits room input, [])
  pub lower : (p : OrderProgram) (image words : List ℕ) (memory : List ℤ) (input : List ℕ) (s : State) (places : List StatementPlace)
      → IsImage p image → PlacesStand p image places → Codable p → BeginsWith p memory words → NeverStuck p memory input → IsStart image words s → All (λ b. b < 256) input
      → TracksAfter (λ o. is_running o.0) startup_cost (watched (order_machine p) (starts p)) (order_start p memory input, []) (watched (processor_machine shown_as) (passes places p.limits.area)) (processor_start s input, [])
  pub places : (p : OrderProgram) (image : List ℕ) → IsImage p image → Codable p → PlacesStand p image (statement_places p)
  pub runs : (s : State) (input : List ℕ) (n : ℕ) → All (λ b. b < 256) input → Shows s input n (observed (processor_after n (processor_start s input)))
  pub once : (s : State) (input : List ℕ) (n : ℕ) (a b : Observed) → Shows s input n a → Shows s input n b → a ≡ b
  pub began : (places : List StatementPlace) (area : ℕ) (s : State) (input : List ℕ) (n : ℕ) (started : List Begun) → All (λ b. b < 256) input → Begins places area s input n started
      → started ≡ (shown_after (watched (processor_machine shown_as) (passes places area)) n (processor_start s input, [])).1
