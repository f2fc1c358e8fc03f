-- How the run of an image ends, by how that of the processor did.
use Rattle.std.specs.Prelude.{◌≡◌, ℕ, Bool, false, List}
use Rattle.cw_i86.specs.State.{State}
use Rattle.cw_i86.specs.MachineRun.{Event, End, FitsInput}
use Rattle.cw_cpu86.specs.Ports.{Device}
use Rattle.cw_cpu86.specs.Answers.{RunAnswers, RunCounts, NoneTold, events_of, steps_shown, end_shown}
use Rattle.cw_cpu86.specs.declared.cpu.RunEnd.{RunEnd}
use Rattle.cw_cpu86.specs.declared.cpu.RunEnd.TheVariants as ends
use Rattle.cw_ports.specs.Later.{InputSide, IsUnread, OutputSide, IsUnwritten, SidesLater, faults_of}
use Rattle.cw_ports.specs.Running.{IsInput, Tells, Outside, outside, RunShows, reached}
use Rattle.cw_ports.specs.declared.running.ImageEnd.{ImageEnd}
use Rattle.cw_ports.specs.declared.running.ImageEnd.TheVariants.{InputFault, OutFault, TooLong}

-- ---- the ports before a run and after it

-- nothing was told to the ports
pub record IsFresh (d : Device) (a : InputSide) (o : OutputSide) : Type 0 where
  pub input : IsUnread d.left d.at_end d.is_used d.is_cut a
  pub output : IsUnwritten d.held o
  pub none : NoneTold d

abbrev pub outside_of : InputSide → OutputSide → Outside
outside_of a o = outside a.left a.faults o.held o.faults

-- ---- the end

-- the end of an image, by that of the processor and what it shows: where the output was written, and the input has not too many bytes
abbrev pub Means : RunEnd → (shown : End) → ImageEnd → Type 0
Means (ends.PortFault n) shown status = status ≡ InputFault
Means end shown status = Tells status shown

-- a run that no port refused asks for nothing after it
abbrev pub IsQuiet : RunEnd → (is_asking : Bool) → Type 0
IsQuiet (ends.PortFault n) is_asking = Unit {0}
IsQuiet end is_asking = is_asking ≡ false

-- What shows ends as the run of the processor did. Where that run was cut short for its input, `RunShows` says as much.
abbrev pub EndsAlike : RunEnd → (shown : End)
    → (status : ImageEnd) (s : State) (input : List ℕ) (steps : ℕ) (a b : Outside)
    → RunShows status s input steps a b → Type 0
EndsAlike end shown InputFault s input steps a b shows = Unit {0}
EndsAlike end shown TooLong s input steps a b shows = Unit {0}
EndsAlike end shown OutFault s input steps a b shows = IsQuiet end shows.2 × (shows.3.end ≡ shown)
EndsAlike end shown status s input steps a b shows = shows.0.end ≡ shown

-- What the image shows of a run that said this to the ports. It shows behind as many instructions as the run of the processor does.
pub record Concludes (end : RunEnd) (shown : End) (status : ImageEnd) (s : State) (events : List Event) (steps : ℕ) (a b : Outside) : Type 0 where
  pub input : List ℕ
  pub is_input : IsInput a.left input
  pub fits : FitsInput input events
  pub shows : RunShows status s input steps a b
  pub behind : reached status s input steps a b shows ≡ steps_shown end steps
  pub alike : EndsAlike end shown status s input steps a b shows

-- Of whatever run ended so, from ports to which nothing was told to those which tell d' and stand as b and p do, the
-- image shows this, and now the outside is as told.
abbrev pub ConcludesRuns : RunEnd → ImageEnd → (d' : Device) (b : InputSide) (p : OutputSide) (gathered' : ℕ) (now : Outside) → Type 0
ConcludesRuns end status d' b p gathered' now =
    (s s' : State) (steps : ℕ) (d : Device) (a : InputSide) (o : OutputSide) (gathered : ℕ) → IsFresh d a o → (answers : RunAnswers end steps s d s' d')
    → RunCounts end (faults_of a.supply o.is_broken) (faults_of b.supply p.is_broken) → SidesLater a o gathered b p gathered'
    → Concludes end (end_shown end d') status s (events_of end steps s d s' d' answers) steps (outside_of a o) now
