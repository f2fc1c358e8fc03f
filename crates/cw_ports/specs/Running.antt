-- What a run of an image shows, and what becomes of its input and its output.
use Rattle.std.specs.Prelude.{◌≡◌, ℕ, ◌+◌, ◌*◌, ◌<◌, ◌≤◌, ◌||◌, Bool, true, false, List, [], length, take, Option, Some, None, option_map}
use Rattle.cw_io.specs.Bytes.{before_told, after_told}
use Rattle.cw_io.specs.Count.{Rose}
use Rattle.cw_i86.specs.State.{State}
use Rattle.cw_i86.specs.MachineRun as run
use Rattle.cw_i86.specs.MachineRun.{Event, left_behind, is_of_input, asks_input, Stands, Runs, Shows, Observed}
use Rattle.cw_i86.specs.declared.instr.Instr.TheVariants.{In}
use Rattle.cw_cpu86.specs.Ports.{AreBytes}
use Rattle.cw_ports.specs.Pieces.{input_limit}
use Rattle.cw_ports.specs.declared.running.ImageEnd.{ImageEnd}
use Rattle.cw_ports.specs.declared.running.ImageEnd.TheVariants.{Ended, Stopped, Unfinished, BadCode, Divided, InputFault, OutFault, TooLong}

-- the input of a run: the bytes that are left, where they are told, and some bytes where they aren't
abbrev pub IsInput : (left : Option (List ℕ)) → (input : List ℕ) → Type 0
IsInput (Some told) input = input ≡ told
IsInput None input = AreBytes input

-- What a source has left after these events. What the program has left is what is in hand, at most a piece, and then
-- what the source has left. Nothing was taken
-- where neither port 10h nor 11h was used, by the events or by an instruction that was tried after them.
pub record ReadsAhead (events : List Event) (left left' : Option (List ℕ)) (is_asking : Bool) : Type 0 where
  pub hand : List ℕ
  pub piece : length hand ≤ 4096
  pub rest : option_map (left_behind events) left ≡ before_told hand left'
  pub untouched : (asks_input events || is_asking) ≡ false → left' ≡ left

-- behind so many steps, which said this to the ports, stands an instruction that asks for input: IN 10h or IN 11h
abbrev pub AsksInput : (s : State) (n : ℕ) (events : List Event) → Type 0
AsksInput s n events = (t : State) × (port : ℕ) × Runs n s events t × Stands t (In port) × (is_of_input port ≡ true)

-- What shows of so many steps from a state over an input, and what its source has left afterwards; and whether it was asked for input once more.
pub record Ran (s : State) (input : List ℕ) (n : ℕ) (left left' : Option (List ℕ)) (is_asking : Bool) (shown : Observed) : Type 0 where
  pub shows : Shows s input n shown
  pub ahead : ReadsAhead shows.events left left' is_asking
  pub asks : is_asking ≡ true → AsksInput s n shows.events

-- so many bytes were taken
abbrev pub Taken : (left left' : Option (List ℕ)) → (count : ℕ) → Type 0
Taken left left' count = (bytes : List ℕ) × (left ≡ before_told bytes left') × (count ≡ length bytes)

-- at most as many bytes were taken as an input may have
abbrev pub TakenWithin : (left left' : Option (List ℕ)) → Type 0
TakenWithin left left' = (count : ℕ) × Taken left left' count × (count ≤ input_limit)

-- how a run stands that ends so
abbrev pub Tells : ImageEnd → run.End → Type 0
Tells Ended end = end ≡ run.Ended
Tells (Stopped kind segment line) end = end ≡ run.Stopped kind segment line
Tells Unfinished end = end ≡ run.Running
Tells (BadCode offset) end = end ≡ run.Bad offset
Tells (Divided offset) end = end ≡ run.Divided offset
Tells _ end = ⊥

-- the end that is told by the last bytes given to ports 13h to 16h
abbrev pub IsTold : (kind segment line_low line_high : ℕ) → ImageEnd → Type 0
IsTold kind segment line_low line_high end = Tells end (run.end_told kind segment (line_low + 256 * line_high))

-- the outside of a run before and after
pub record Outside : Type 0 where
  pub left : Option (List ℕ)
  pub input_faults : ℕ
  pub held : Option (List ℕ)
  pub out_faults : ℕ

abbrev pub outside : (left : Option (List ℕ)) → (input_faults : ℕ) → (held : Option (List ℕ)) → (out_faults : ℕ) → Outside
outside left input_faults held out_faults = record { left = left; input_faults = input_faults; held = held; out_faults = out_faults }

-- The run was cut short after n steps, at an instruction that asks for input: all that they write was written.
pub record Cut (s : State) (input : List ℕ) (steps : ℕ) (a b : Outside) : Type 0 where
  pub n : ℕ
  pub within : n < steps
  pub shown : Observed
  pub ran : Ran s input n a.left b.left true shown
  pub running : shown.end ≡ run.Running
  pub output : b.held ≡ after_told a.held shown.output

-- What a run of at most so many steps from a state over an input does. A fault of the input comes where no byte was in hand, and it took a byte over the limit
-- exactly where it ends with TooLong.
abbrev pub RunShows : ImageEnd → State → (input : List ℕ) → (steps : ℕ) → (a b : Outside) → Type 0
RunShows InputFault s input steps a b = ((cut : Cut s input steps a b) × (cut.ran.ahead.hand ≡ []))
    × TakenWithin a.left b.left × Rose a.input_faults b.input_faults
RunShows TooLong s input steps a b = Cut s input steps a b × Taken a.left b.left (input_limit + 1) × (input_limit < length input)
RunShows OutFault s input steps a b =
    (n : ℕ) × (n ≤ steps) × (is_asking : Bool) × (shown : Observed) × Ran s input n a.left b.left is_asking shown
    × ((count : ℕ) × (b.held ≡ after_told a.held (take count shown.output))) × TakenWithin a.left b.left
    × (b.input_faults ≡ a.input_faults) × Rose a.out_faults b.out_faults
RunShows end s input steps a b =
    (shown : Observed) × Ran s input steps a.left b.left false shown × Tells end shown.end × (b.held ≡ after_told a.held shown.output)
    × TakenWithin a.left b.left × (b.input_faults ≡ a.input_faults) × (b.out_faults ≡ a.out_faults)

-- the instructions behind which a run shows what it does
abbrev pub reached : (end : ImageEnd) (s : State) (input : List ℕ) (steps : ℕ) (a b : Outside) → RunShows end s input steps a b → ℕ
reached InputFault s input steps a b shows = shows.0.0.n
reached TooLong s input steps a b shows = shows.0.n
reached OutFault s input steps a b shows = shows.0
reached end s input steps a b shows = steps

-- and what that is
abbrev pub shown_of : (end : ImageEnd) (s : State) (input : List ℕ) (steps : ℕ) (a b : Outside) → RunShows end s input steps a b → Observed
shown_of Ended s input steps a b shows = shows.0
shown_of (Stopped kind segment line) s input steps a b shows = shows.0
shown_of Unfinished s input steps a b shows = shows.0
shown_of (BadCode offset) s input steps a b shows = shows.0
shown_of (Divided offset) s input steps a b shows = shows.0
shown_of InputFault s input steps a b shows = shows.0.0.shown
shown_of TooLong s input steps a b shows = shows.0.shown
shown_of OutFault s input steps a b shows = shows.3

-- over the input that the source tells, or over some bytes where it tells none
abbrev pub RunTells : ImageEnd → State → (steps : ℕ) → (a b : Outside) → Type 0
RunTells end s steps a b = (input : List ℕ) × IsInput a.left input × RunShows end s input steps a b
