-- What a run that is watched reports of the program: a line for each statement that the source begins at the stop's segment and line.
use Rattle.std.specs.Prelude.{◌≡◌, ℕ, ◌+◌, List, flat_map, map, Some, Result, Ok, slice_get}
use Rattle.cw_i86.specs.MachineRun as run
use Rattle.cw_unit.specs.declared.unit.Unit.{Unit as SourceUnit}
use Rattle.cw_unit.specs.declared.layout.Limits.{Limits}
use Rattle.cw_unit.specs.Allocation.{storage_map}
use Rattle.cw_unit.specs.Program.{Program, program_of}
use Rattle.cw_unit.specs.Begun.{Begun}
use Rattle.cw_build.specs.Compiled.{object_of}
use Rattle.cw_sim.specs.Statements.{BeginsStatements}
use Rattle.cw_stop.specs.declared.stopping.Stop.{Stop}
use Rattle.cw_trace.specs.Statements.{told_of}
use Rattle.cw_trace.specs.declared.watch.Watch.{Watch}
use Rattle.cw_watch.specs.Watching.{AnswersWatch}
use Rattle.cw_watch.specs.declared.fault.WatchFault.{WatchFault}

-- what a stop means in units, by their objects and their storage map
abbrev pub MeansInUnits : List SourceUnit → Limits → Stop → Result Watch WatchFault → Type 0
MeansInUnits us limits stop answer = AnswersWatch (map object_of us) (storage_map us) limits stop answer

-- the segment of this number, from 1, has the name
abbrev pub IsNamed : List SourceUnit → (segment : ℕ) → (name : List ℕ) → Type 0
IsNamed us segment name = (k : ℕ) × (u : SourceUnit) × (slice_get us k ≡ Some u) × (segment ≡ k + 1) × (u.name ≡ name)

-- After so many instructions, which show so much, the text has a line for each statement that the source begins at the watched line in the
-- segment of this number: in the same number of steps as it shows so much, in the same order, with the words as they are then.
pub record Reported (watch : Watch) (segment : ℕ) (p : Program) (input : List ℕ) (k : ℕ) (shown : run.Observed) (text : List ℕ) : Type 0 where
  pub started : List Begun
  pub begins : BeginsStatements p input k shown started
  pub lines : text ≡ flat_map (told_of watch segment) started

-- the same of the program of units, at the watch that the stop means in them
pub record ReportsUnits (us : List SourceUnit) (limits : Limits) (stop : Stop) (input : List ℕ) (k : ℕ) (shown : run.Observed) (text : List ℕ) : Type 0 where
  pub watch : Watch
  pub segment : ℕ
  pub means : MeansInUnits us limits stop (Ok watch)
  pub named : IsNamed us segment stop.segment
  pub reported : Reported watch segment (program_of us limits) input k shown text
