-- A step of the machine, a run, and what a run shows.
use Rattle.std.specs.Prelude.{◌≡◌, ℕ, zero, suc, ◌+◌, ◌*◌, ◌/◌, ◌%◌, ◌<◌, ◌≤◌, ◌^◌, ◌==◌, ◌||◌, ◌⊎◌, Bool, false, List}
use Rattle.std.specs.Prelude.{[], ◌∷◌, ◌++◌, Option, Some, None, length, drop, slice_index, if◌then◌else◌}
use Rattle.cw_i86.specs.Encoding.{bytes_of, IsInstr, BeginsWith}
use Rattle.cw_i86.specs.State.{State, window, byte_register, with_byte_register, past}
use Rattle.cw_i86.specs.Effect.{executed}
use Rattle.cw_i86.specs.declared.instr.Instr.{Instr}
use Rattle.cw_i86.specs.declared.instr.Instr.TheVariants.{In, Out, Hlt}

-- ---- a step

-- what a step says to the ports: nothing, or a byte that it takes from one or gives to one
pub data Event : Type 0 where
  Silent : Event
  Takes : (port value : ℕ) → Event
  Gives : (port value : ℕ) → Event

-- how a step goes: on to a state, to the state behind HLT, a quotient that faults, or no instruction
pub data Outcome : Type 0 where
  GoesOn : State → Event → Outcome
  Halts : State → Outcome
  Divides : Outcome
  Undefined : Outcome

-- No instruction has more than seven bytes.
abbrev pub code_at : State → List ℕ
code_at s = window 7 s.memory s.code_segment s.instruction_pointer

-- the instruction stands at CS:IP
abbrev pub Stands : State → Instr → Type 0
Stands s i = IsInstr i × BeginsWith (code_at s) i

abbrev pub NothingStands : State → Type 0
NothingStands s = (i : Instr) → Stands s i → ⊥

abbrev pub completed : Option State → Outcome
completed None = Divides
completed (Some s) = GoesOn s Silent

-- what an instruction does, from the state with IP past it
abbrev pub Does : Instr → State → Outcome → Type 0
Does (In port) s o = (value : ℕ) × (value < 2 ^ 8) × (o ≡ GoesOn (with_byte_register s 0 value) (Takes port value))
Does (Out port) s o = o ≡ GoesOn s (Gives port (byte_register s 0))
Does Hlt s o = o ≡ Halts s
Does i s o = o ≡ completed (executed i s)

-- A step is that of the instruction which stands at CS:IP, and undefined where none does. Only IN leaves a choice: the byte that the port gives.
abbrev pub Steps : State → Outcome → Type 0
Steps s o =
    ((i : Instr) × Stands s i × Does i (past s (length (bytes_of i))) o) ⊎ (NothingStands s × (o ≡ Undefined))

-- the two outcomes took no different bytes from one port
abbrev pub TakeAlike : Outcome → Outcome → Type 0
TakeAlike (GoesOn s (Takes port value)) (GoesOn t (Takes other given)) = port ≡ other → value ≡ given
TakeAlike o p = Unit {0}

-- ---- a run

-- so many steps that go on, and what they said to the ports
abbrev pub Runs : ℕ → State → List Event → State → Type 0
Runs zero s events t = (events ≡ []) × (t ≡ s)
Runs (suc n) s events t =
    (u : State) × (before : List Event) × (event : Event) × Runs n s before u × Steps u (GoesOn t event) × (events ≡ before ++ event ∷ [])

-- ---- ports

-- the byte that a port gives where this input is left
abbrev pub taken : (port : ℕ) → List ℕ → ℕ
taken port input =
    if port == 0x10 then slice_index input 0
    else if port == 0x11 then (if length input == 0 then 1 else 0)
    else 0

-- the input left after that
abbrev pub left_after : (port : ℕ) → List ℕ → List ℕ
left_after port input = if port == 0x10 then drop 1 input else input

-- the bytes taken are those of this input
abbrev pub FitsInput : List ℕ → List Event → Type 0
FitsInput input [] = Unit {0}
FitsInput input (Takes port value ∷ events) = (value ≡ taken port input) × FitsInput (left_after port input) events
FitsInput input (event ∷ events) = FitsInput input events

-- the input left after these events
abbrev pub left_behind : List Event → List ℕ → List ℕ
left_behind [] input = input
left_behind (Takes port value ∷ events) input = left_behind events (left_after port input)
left_behind (event ∷ events) input = left_behind events input

-- the port tells of the input
abbrev pub is_of_input : (port : ℕ) → Bool
is_of_input port = port == 0x10 || port == 0x11

-- a byte was taken from a port that tells of the input
abbrev pub asks_input : List Event → Bool
asks_input [] = false
asks_input (Takes port value ∷ events) = is_of_input port || asks_input events
asks_input (event ∷ events) = asks_input events

abbrev pub written_by : Event → List ℕ
written_by (Gives port value) = if port == 0x12 then value ∷ [] else []
written_by event = []

-- the bytes given to port 12h, in order
abbrev pub written : List Event → List ℕ
written [] = []
written (event ∷ events) = written_by event ++ written events

-- the last byte given to a port, or the one before
abbrev pub given_to : (port : ℕ) → Event → ℕ → ℕ
given_to port (Gives other value) before = if other == port then value else before
given_to port event before = before

abbrev pub last_given : (port : ℕ) → List Event → ℕ → ℕ
last_given port [] before = before
last_given port (event ∷ events) before = last_given port events (given_to port event before)

-- ---- what a run shows

pub data End : Type 0 where
  Running : End
  Ended : End
  Stopped : (kind segment line : ℕ) → End
  Bad : (offset : ℕ) → End
  Divided : (offset : ℕ) → End

pub record Observed : Type 0 where
  pub output : List ℕ
  pub end : End

-- after HLT: the last kind of stop, segment and line that were told, each 0 where none was
abbrev pub end_told : (kind segment line : ℕ) → End
end_told kind segment line = if kind == 0 then Ended else Stopped kind segment line

abbrev pub end_after : List Event → End
end_after events =
    end_told (last_given 0x13 events 0) (last_given 0x14 events 0) (last_given 0x15 events 0 + 256 * last_given 0x16 events 0)

-- the run is at work after n steps
abbrev pub IsAtWork : State → ℕ → List Event → End → Type 0
IsAtWork s n events end = (t : State) × Runs n s events t × (end ≡ Running)

-- a step before the last of n is not one that goes on
abbrev pub IsOver : State → ℕ → List Event → End → Type 0
IsOver s n events end =
    (k : ℕ) × (t : State) × (k < n) × Runs k s events t ×
    (((u : State) × Steps t (Halts u) × (end ≡ end_after events))
    ⊎ (Steps t Undefined × (end ≡ Bad t.instruction_pointer))
    ⊎ (Steps t Divides × (end ≡ Divided t.instruction_pointer)))

-- What shows after n steps from a state over this input. A step that is tried and found bad or divided counts.
pub record Shows (s : State) (input : List ℕ) (n : ℕ) (shown : Observed) : Type 0 where
  pub events : List Event
  pub fits : FitsInput input events
  pub output : shown.output ≡ written events
  pub end : IsAtWork s n events shown.end ⊎ IsOver s n events shown.end

-- ---- the start

-- The code stands from 10000h, the words from 20000h with the low byte first, and all else in memory is 0. So are the registers, IP and the flags.
pub record IsStart (code words : List ℕ) (s : State) : Type 0 where
  pub bytes : length s.memory ≡ 2 ^ 20
  pub below : (a : ℕ) → a < 0x10000 → slice_index s.memory a ≡ 0
  pub code_bytes : (k : ℕ) → k < length code → slice_index s.memory (0x10000 + k) ≡ slice_index code k
  pub between : (a : ℕ) → 0x10000 + length code ≤ a → a < 0x20000 → slice_index s.memory a ≡ 0
  pub low_bytes : (k : ℕ) → k < length words → slice_index s.memory (0x20000 + 2 * k) ≡ slice_index words k % 256
  pub high_bytes : (k : ℕ) → k < length words → slice_index s.memory (0x20000 + 2 * k + 1) ≡ slice_index words k / 256
  pub above : (a : ℕ) → 0x20000 + 2 * length words ≤ a → slice_index s.memory a ≡ 0
  pub registers : s.registers ≡ 0 ∷ 0 ∷ 0 ∷ 0 ∷ 0 ∷ 0 ∷ 0 ∷ 0 ∷ []
  pub code_segment : s.code_segment ≡ 0x1000
  pub instruction_pointer : s.instruction_pointer ≡ 0
  pub flags : s.flags ≡ record { cf = false; pf = false; af = false; zf = false; sf = false; of = false }
