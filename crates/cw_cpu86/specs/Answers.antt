-- What a step and a run may answer, and what they leave.
use Rattle.std.specs.Prelude.{◌≡◌, ℕ, ◌+◌, ◌*◌, ◌-◌, ◌<◌, ◌≤◌, ◌⊎◌, List}
use Rattle.cw_io.specs.Count.{Rose}
use Rattle.cw_i86.specs.State.{State}
use Rattle.cw_i86.specs.MachineRun.{Event, GoesOn, Halts, Divides, Undefined, Steps, Stands, Runs, End, Running, Bad, Divided, end_told}
use Rattle.cw_i86.specs.declared.instr.Instr.TheVariants.{In, Out}
use Rattle.cw_cpu86.specs.Ports.{Device, Answers, Follows, after_refused_take}
use Rattle.cw_cpu86.specs.declared.cpu.Step.{Step}
use Rattle.cw_cpu86.specs.declared.cpu.Step.TheVariants.{Ran, Halted, BadCode, Divide, PortFault}
use Rattle.cw_cpu86.specs.declared.cpu.RunEnd.{RunEnd}
use Rattle.cw_cpu86.specs.declared.cpu.RunEnd.TheVariants as ends

-- ---- a step

-- an IN or OUT stands at CS:IP, and its port failed
abbrev pub PortFails : State → (old new : Device) → Type 0
PortFails s old new =
    ((port : ℕ) × Stands s (In port) × (new ≡ after_refused_take port old)) ⊎ ((port : ℕ) × Stands s (Out port) × (new ≡ old))

-- a step from s and a device to s' and another
abbrev pub StepAnswers : Step → State → Device → State → Device → Type 0
StepAnswers Ran s d s' d' = (event : Event) × Steps s (GoesOn s' event) × Answers event d d'
StepAnswers Halted s d s' d' = Steps s (Halts s') × (d' ≡ d)
StepAnswers (BadCode offset) s d s' d' = Steps s Undefined × (offset ≡ s.instruction_pointer) × (s' ≡ s) × (d' ≡ d)
StepAnswers (Divide offset) s d s' d' = Steps s Divides × (offset ≡ s.instruction_pointer) × (s' ≡ s) × (d' ≡ d)
StepAnswers PortFault s d s' d' = PortFails s d d' × (s' ≡ s)

-- the faults that the ports count, before and after a step
abbrev pub StepCounts : Step → (before now : ℕ) → Type 0
StepCounts PortFault before now = (before ≤ now) × Rose before now
StepCounts step before now = now ≡ before

-- ---- a run

-- so many steps that go on, and the ports with them
pub record Went (n : ℕ) (s : State) (d : Device) (s' : State) (d' : Device) : Type 0 where
  pub events : List Event
  pub runs : Runs n s events s'
  pub follows : Follows events d d'

-- A run of at most so many steps. HLT is one of the steps, and an instruction that did not run isn't.
abbrev pub RunAnswers : RunEnd → (limit : ℕ) → State → Device → State → Device → Type 0
RunAnswers ends.Limit limit s d s' d' = Went limit s d s' d'
RunAnswers (ends.Halted n) limit s d s' d' =
    (0 < n) × (n ≤ limit) × ((t : State) × Went (n - 1) s d t d' × Steps t (Halts s'))
RunAnswers (ends.BadCode offset n) limit s d s' d' =
    (n < limit) × Went n s d s' d' × Steps s' Undefined × (offset ≡ s'.instruction_pointer)
RunAnswers (ends.Divide offset n) limit s d s' d' =
    (n < limit) × Went n s d s' d' × Steps s' Divides × (offset ≡ s'.instruction_pointer)
RunAnswers (ends.PortFault n) limit s d s' d' = (n < limit) × ((e : Device) × Went n s d s' e × PortFails s' e d')

-- the events of the run that an answer tells of
abbrev pub events_of : (end : RunEnd) (limit : ℕ) (s : State) (d : Device) (s' : State) (d' : Device) → RunAnswers end limit s d s' d' → List Event
events_of ends.Limit limit s d s' d' went = went.events
events_of (ends.Halted n) limit s d s' d' answer = answer.2.1.events
events_of (ends.BadCode offset n) limit s d s' d' answer = answer.1.events
events_of (ends.Divide offset n) limit s d s' d' answer = answer.1.events
events_of (ends.PortFault n) limit s d s' d' answer = answer.1.1.events

-- the faults that the ports count, before and after a run
abbrev pub RunCounts : RunEnd → (before now : ℕ) → Type 0
RunCounts (ends.PortFault n) before now = (before ≤ now) × Rose before now
RunCounts end before now = now ≡ before

-- ---- what a run shows

-- the steps after which the answer of a run shows
abbrev pub steps_shown : RunEnd → (limit : ℕ) → ℕ
steps_shown (ends.PortFault n) limit = n
steps_shown end limit = limit

-- the end that an answer means, with what was told to ports 13h to 16h
abbrev pub end_shown : RunEnd → Device → End
end_shown ends.Limit d = Running
end_shown (ends.PortFault n) d = Running
end_shown (ends.Halted n) d = end_told d.kind d.segment (d.line_low + 256 * d.line_high)
end_shown (ends.BadCode offset n) d = Bad offset
end_shown (ends.Divide offset n) d = Divided offset

-- the last byte given to each of ports 13h to 16h is 0, or none was
pub record NoneTold (d : Device) : Type 0 where
  pub kind : d.kind ≡ 0
  pub segment : d.segment ≡ 0
  pub line_low : d.line_low ≡ 0
  pub line_high : d.line_high ≡ 0
