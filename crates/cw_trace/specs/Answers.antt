-- What a run that is watched answers, and what it leaves.
use Rattle.std.specs.Prelude.{◌≡◌, ℕ, ◌+◌, ◌<◌, ◌≤◌, List, ◌++◌, length, take, Option}
use Rattle.cw_io.specs.Bytes.{after_told}
use Rattle.cw_io.specs.Count.{Rose}
use Rattle.cw_i86.specs.State.{State}
use Rattle.cw_i86.specs.MachineRun.{Event}
use Rattle.cw_cpu86.specs.Ports.{Device}
use Rattle.cw_cpu86.specs.Answers.{Went, RunAnswers, RunCounts, events_of}
use Rattle.cw_cpu86.specs.declared.cpu.RunEnd.{RunEnd}
use Rattle.cw_cpu86.specs.declared.cpu.RunEnd.TheVariants as ends
use Rattle.cw_trace.specs.Reports.{Reports, told_at}
use Rattle.cw_trace.specs.declared.watch.Watch.{Watch}
use Rattle.cw_trace.specs.declared.watch.WatchEnd.{WatchEnd}
use Rattle.cw_trace.specs.declared.watch.WatchEnd.TheVariants.{Run, SayFault}

-- the instructions that an answer covers: as many as were allowed, or those up to the one whose port failed, with that one
abbrev pub reach_of : RunEnd → (limit : ℕ) → ℕ
reach_of (ends.PortFault n) limit = n + 1
reach_of end limit = limit

-- all that the run tells was written
abbrev pub Tells : Watch → State → List Event → (n : ℕ) → (held held' : Option (List ℕ)) → Type 0
Tells watch s events n held held' = (text : List ℕ) × Reports watch s events n text × (held' ≡ after_told held text)

-- all that n instructions tell was written, and a proper first part of what is told before the next one, at s'
abbrev pub TellsPart : Watch → (s s' : State) → List Event → (n : ℕ) → (held held' : Option (List ℕ)) → Type 0
TellsPart watch s s' events n held held' =
    (text : List ℕ) × Reports watch s events n text
    × ((count : ℕ) × (count < length (told_at watch s')) × (held' ≡ after_told held (text ++ take count (told_at watch s'))))

-- What a run of at most so many steps answers and leaves: processor and ports as they are after such a run that is not watched, and what is
-- told of it. Where that could not be written, they are as they were before the instruction of which it tells.
abbrev pub WatchAnswers : Watch → WatchEnd → (limit : ℕ) → State → Device → State → Device → (held held' : Option (List ℕ)) → Type 0
WatchAnswers watch (Run end) limit s d s' d' held held' =
    (answer : RunAnswers end limit s d s' d') × Tells watch s (events_of end limit s d s' d' answer) (reach_of end limit) held held'
WatchAnswers watch SayFault limit s d s' d' held held' =
    (n : ℕ) × (n < limit) × ((went : Went n s d s' d') × TellsPart watch s s' went.events n held held')

-- the faults that the ports count, before and after, and those that the sink counts
abbrev pub WatchCounts : WatchEnd → (ports ports' say say' : ℕ) → Type 0
WatchCounts (Run end) ports ports' say say' = RunCounts end ports ports' × (say' ≡ say)
WatchCounts SayFault ports ports' say say' = (ports' ≡ ports) × (say ≤ say') × Rose say say'
