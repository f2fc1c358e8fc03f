-- What `go` promises of the meaning of its texts.
use Rattle.std.specs.Prelude.{◌≡◌, ◌≢◌, ℕ, ◌+◌, ◌*◌, ◌≤◌, List, map, length, Some}
use Rattle.cw_i86.specs.MachineRun as run
use Rattle.cw_io.specs.File.{Told}
use Rattle.cw_unit.specs.declared.unit.Unit.{Unit as SourceUnit}
use Rattle.cw_unit.specs.Program.{Program, program_of}
use Rattle.cw_unit.specs.Stop.{Running}
use Rattle.cw_unit.specs.Behaviour.{observed}
use Rattle.cw_track.specs.Tracking.{step_ratio}
use Rattle.cw_sim.specs.Preservation.{Preserves}
use Rattle.cw_cpu86.specs.Ports.{AreBytes}
use Rattle.cw_ports.specs.Pieces.{input_limit}
use Rattle.cw_say.specs.compile.Texts.{text_limit}
use Rattle.cw_build.specs.Linking.{Links}
use Rattle.cw_link_files.specs.files.Texts.{HasUnit}
use Rattle.cw_link_files.specs.files.Reading.{AllTaken}
use Rattle.cw_correct.specs.Calls.{Call, told_files, NoFault}
use Rattle.cw_say.specs.declared.status.Status.{Status}
use Rattle.cw_say.specs.declared.status.Status.TheVariants.{Ended, Stopped, Unfinished, Outside, NoMemory, TooLong, BadCode, Divided}
use Rattle.cw_say.specs.declared.status.Which.TheVariants.{Input, Out}
use Rattle.cw_say.specs.declared.status.Long.TheVariants as long

-- What the image shows after so many instructions is what the source means after some number of its steps, with at most 256 instructions for
-- each and one more. For Ended and Stopped their number is the limit of the run. No run meets bad code or a division that faults.
abbrev pub PreservesMeaning : Program → (input : List ℕ) → (instructions : ℕ) → run.Observed → Status → Type 0
PreservesMeaning p input n shown Ended = Preserves p input n shown
PreservesMeaning p input n shown (Stopped kind segment line) = Preserves p input n shown
PreservesMeaning p input n shown (Unfinished ran) = Preserves p input n shown
PreservesMeaning p input n shown (Outside Out) = Preserves p input n shown
PreservesMeaning p input n shown (Outside Input) = Preserves p input n shown
PreservesMeaning p input n shown (TooLong long.Input) = Preserves p input n shown
PreservesMeaning p input n shown (BadCode offset) = ⊥
PreservesMeaning p input n shown (Divided offset) = ⊥
PreservesMeaning p input n shown status = Unit {0}

-- the program ran to its end or to a stop, or memory was wanted
abbrev pub IsEnd : Status → Type 0
IsEnd Ended = Unit {0}
IsEnd (Stopped kind segment line) = Unit {0}
IsEnd NoMemory = Unit {0}
IsEnd status = ⊥

-- the store tells that the files have these bytes
abbrev pub TellBytes : List Told → List (List ℕ) → Type 0
TellBytes files texts = files ≡ map (λ text. Some (Some text)) texts

-- the store tells each file, and each has a unit; and these link
pub record TellsUnits (c : Call) (us : List SourceUnit) : Type 0 where
  pub texts : List (List ℕ)
  pub told : TellBytes (told_files c) texts
  pub units : AllTaken text_limit HasUnit (told_files c) us

-- Texts that compile and link, in a store that tells them, end or stop as their meaning does, where that has ended or stopped after so many
-- steps that 256 instructions for each and one more are within those of the run, nothing outside fails, the input is no longer than it may be, and memory is
-- found.
abbrev pub CompletesRuns : Call → (input : List ℕ) → Status → Type 0
CompletesRuns c input status =
    (us : List SourceUnit) (m : ℕ) → TellsUnits c us → Links us c.limits → NoFault c.before c.after
    → AreBytes input → length input ≤ input_limit → step_ratio * (m + 1) ≤ c.steps → (observed (program_of us c.limits) input m).end ≢ Running → IsEnd status
