-- The law of the places of statements: where the image begins one, and what the words of memory are then.
use Rattle.std.specs.Prelude.{◌≡◌, ℕ, List}
use Rattle.cw_i86.specs.MachineRun as run
use Rattle.cw_image.specs.Begun.{StatementPlace}
use Rattle.cw_unit.specs.declared.unit.Unit.{Unit as SourceUnit}
use Rattle.cw_unit.specs.declared.layout.Limits.{Limits}
use Rattle.cw_unit.specs.declared.layout.Map.{Map}
use Rattle.cw_unit.specs.Program.{Program}
use Rattle.cw_unit.specs.Begun.{Begun, begun}
use Rattle.cw_gen_unit.specs.ReferenceUnits.{orders_program}
use Rattle.cw_follow.specs.Passing.{statement_places}
use Rattle.cw_sim.specs.Preservation.{Preserves}

-- The places that the codes of the units tell, each moved to where its code stands in the image. The room of the control stack has no
-- part in them.
abbrev pub image_places : List SourceUnit → Map → Limits → List StatementPlace
image_places us m limits = statement_places (orders_program us m limits 0)

-- After k instructions the 8086 shows what the source means after some number of its steps, as preservation says, and the statements that
-- it began are those that the source begins in as many steps: in the same order, with the same segments, lines and words of memory.
pub record BeginsStatements (p : Program) (input : List ℕ) (k : ℕ) (shown : run.Observed) (started : List Begun) : Type 0 where
  pub preserved : Preserves p input k shown
  pub same : started ≡ begun p input preserved.steps
