-- What a run of the source shows.
use Rattle.std.specs.Prelude.{ℕ, List, [], Bool, true, false, Option, Some, None, slice_get}
use Rattle.cw_unit.specs.declared.unit.Unit.{Unit as SourceUnit}
use Rattle.cw_unit.specs.Program.{Program}
use Rattle.cw_unit.specs.InitialMemory.{initial_memory}
use Rattle.cw_unit.specs.Stop.{End, Running, Ended, Stopped, Stuck}
use Rattle.cw_unit.specs.Work.{Work, Nothing, Run}
use Rattle.cw_unit.specs.Configuration.{Configuration, at}
use Rattle.cw_unit.specs.Step.{steps}

-- the first body, before its first step
abbrev pub first_body : Option SourceUnit → Work
first_body None = Nothing
first_body (Some u) = Run u.body Nothing

abbrev pub initial_configuration : Program → (input : List ℕ) → Configuration
initial_configuration p input =
    at 0 (first_body (slice_get p.units 0)) []
    (record {
      operands = [];
      memory = initial_memory p.units p.addresses p.limits.area;
      input = input;
      output = [];
    }) Running

-- what a run shows
pub record Observation : Type 0 where
  pub output : List ℕ
  pub end : End

-- whether a run that shows this goes on
abbrev pub is_running : Observation → Bool
is_running s = elim s.end [ Running ↦ true | Ended ↦ false | Stopped kind segment line ↦ false | Stuck ↦ false ]

abbrev pub shown : Configuration → Observation
shown (at s k acts w e) = record { output = w.output; end = e }

abbrev pub configuration_after : Program → (input : List ℕ) → (m : ℕ) → Configuration
configuration_after p input m = steps p m (initial_configuration p input)

-- what the source semantics shows after m steps
abbrev pub observed : Program → (input : List ℕ) → (m : ℕ) → Observation
observed p input m = shown (configuration_after p input m)
