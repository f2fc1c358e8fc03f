-- What the 8086 shows, in the words of the source semantics.
use Rattle.std.specs.Prelude.{ℕ, ◌==◌, Option, None, Some, if◌then◌else◌}
use Rattle.cw_i86.specs.MachineRun as run
use Rattle.cw_unit.specs.Stop.{StopKind, Overflow, ZeroDivisor, SwitchRange, AddressRange, FramesFull}
use Rattle.cw_unit.specs.Stop.{DepthReached, IndexRange, End, Running, Ended, Stopped, Stuck}
use Rattle.cw_unit.specs.Behaviour.{Observation}

-- the stop of a number
abbrev pub stop_of : ℕ → Option StopKind
stop_of kind =
    if kind == 1 then Some Overflow
    else if kind == 2 then Some ZeroDivisor
    else if kind == 3 then Some SwitchRange
    else if kind == 4 then Some AddressRange
    else if kind == 5 then Some FramesFull
    else if kind == 6 then Some DepthReached
    else if kind == 7 then Some IndexRange
    else None

abbrev pub stopped_by : Option StopKind → (segment line : ℕ) → End
stopped_by None segment line = Stuck
stopped_by (Some kind) segment line = Stopped kind segment line

-- bad code, a division that faults and an unknown stop are nothing that a program means
abbrev pub end_of : run.End → End
end_of run.Running = Running
end_of run.Ended = Ended
end_of (run.Stopped kind segment line) = stopped_by (stop_of kind) segment line
end_of (run.Bad offset) = Stuck
end_of (run.Divided offset) = Stuck

abbrev pub shown_as : run.Observed → Observation
shown_as o = record { output = o.output; end = end_of o.end }
