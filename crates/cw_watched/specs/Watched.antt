-- What a run of an image that is watched shows and tells, and what becomes of its input and its output.
use Rattle.std.specs.Prelude.{◌≡◌, ◌⊎◌, ℕ, ◌+◌, ◌<◌, ◌≤◌, false, List, ◌++◌, length, take, Option}
use Rattle.cw_io.specs.Bytes.{after_told}
use Rattle.cw_io.specs.Count.{Rose}
use Rattle.cw_i86.specs.State.{State}
use Rattle.cw_i86.specs.MachineRun as run
use Rattle.cw_i86.specs.MachineRun.{Event, FitsInput, Observed}
use Rattle.cw_ports.specs.Running.{IsInput, Ran, TakenWithin, Outside, RunShows, reached}
use Rattle.cw_ports.specs.declared.running.ImageEnd.{ImageEnd}
use Rattle.cw_ports.specs.declared.running.ImageEnd.TheVariants.{InputFault, OutFault, TooLong}
use Rattle.cw_trace.specs.Reports.{Reports}
use Rattle.cw_trace.specs.declared.watch.Watch.{Watch}
use Rattle.cw_watched.specs.declared.running.WatchedEnd.{WatchedEnd}
use Rattle.cw_watched.specs.declared.running.WatchedEnd.TheVariants.{Image, SayFault}

-- what is told in the first k instructions of a run over an input
abbrev pub TellsOf : Watch → State → (input : List ℕ) → (k : ℕ) → (text : List ℕ) → Type 0
TellsOf watch s input k text = (events : List Event) × FitsInput input events × Reports watch s events k text

-- What is told of a run behind so many instructions. Where it was cut short at an instruction that asks for input, that one was told of too; and where `out`
-- failed, maybe.
abbrev pub TellsRun : ImageEnd → Watch → State → (input : List ℕ) → (n : ℕ) → (text : List ℕ) → Type 0
TellsRun InputFault watch s input n text = TellsOf watch s input (n + 1) text
TellsRun TooLong watch s input n text = TellsOf watch s input (n + 1) text
TellsRun OutFault watch s input n text = TellsOf watch s input n text ⊎ TellsOf watch s input (n + 1) text
TellsRun end watch s input n text = TellsOf watch s input n text

-- what `say` holds and how often it failed
pub record Said : Type 0 where
  pub held : Option (List ℕ)
  pub faults : ℕ

abbrev pub said_at : (held : Option (List ℕ)) → (faults : ℕ) → Said
said_at held faults = record { held = held; faults = faults }

-- The run ended as one does that is not watched, and all that is told of it was written.
pub record ToldRun (watch : Watch) (end : ImageEnd) (s : State) (input : List ℕ) (steps : ℕ) (a b : Outside) (said said' : Said) : Type 0 where
  pub shows : RunShows end s input steps a b
  pub text : List ℕ
  pub tells : TellsRun end watch s input (reached end s input steps a b shows) text
  pub writes : said'.held ≡ after_told said.held text
  pub same : said'.faults ≡ said.faults

-- `say` failed. The run was cut short behind n instructions: what is told of these was written, and a proper first part of what is told
-- before the next one. `out` got all that they write, unless it failed too.
pub record CutShort (watch : Watch) (s : State) (input : List ℕ) (steps : ℕ) (a b : Outside) (said said' : Said) : Type 0 where
  pub n : ℕ
  pub within : n < steps
  pub shown : Observed
  pub ran : Ran s input n a.left b.left false shown
  pub running : shown.end ≡ run.Running
  pub count : ℕ
  pub output : b.held ≡ after_told a.held (take count shown.output)
  pub whole : (Rose a.out_faults b.out_faults → ⊥) → count ≡ length shown.output
  pub within_limit : TakenWithin a.left b.left
  pub no_input_fault : b.input_faults ≡ a.input_faults
  pub text : List ℕ
  pub tells : TellsOf watch s input n text
  pub next : List ℕ
  pub tells_next : TellsOf watch s input (n + 1) (text ++ next)
  pub part : ℕ
  pub proper : part < length next
  pub writes : said'.held ≡ after_told said.held (text ++ take part next)
  pub later : said.faults ≤ said'.faults
  pub rose : Rose said.faults said'.faults

-- what a run of at most so many steps from a state over an input does
abbrev pub WatchedShows : Watch → WatchedEnd → State → (input : List ℕ) → (steps : ℕ) → (a b : Outside) → (said said' : Said) → Type 0
WatchedShows watch (Image end) s input steps a b said said' = ToldRun watch end s input steps a b said said'
WatchedShows watch SayFault s input steps a b said said' = CutShort watch s input steps a b said said'

-- over the input that the source tells, or over some bytes where it tells none
abbrev pub WatchedTells : Watch → WatchedEnd → State → (steps : ℕ) → (a b : Outside) → (said said' : Said) → Type 0
WatchedTells watch end s steps a b said said' = (input : List ℕ) × IsInput a.left input × WatchedShows watch end s input steps a b said said'
