-- A sink in memory, as its callers see it.
use Rattle.std.specs.Prelude.{◌≡◌, ℕ, ◌-◌, ◌<◌, List, length}
use Rattle.cw_io.specs.Schedule.{IsCalled}
use Rattle.cw_io.specs.declared.schedule.Schedule.{Schedule}
use Rattle.cw_io.specs.declared.mem_sink.MemSink.{MemSink}

-- the bytes that it holds
abbrev pub held_of : MemSink → List ℕ
held_of sink = sink.held.items

-- how many more it has room for
abbrev pub room_of : MemSink → ℕ
room_of sink = sink.room - length sink.held.items

-- the most bytes that a call moves
abbrev pub most_of : MemSink → ℕ
most_of sink = sink.piece

-- which calls fail, and the counts
abbrev pub schedule_of : MemSink → Schedule
schedule_of sink = sink.schedule

-- there is no room for a piece
abbrev pub IsFull : MemSink → List ℕ → Type 0
IsFull sink piece = (0 < length piece) × (room_of sink ≡ 0)

-- the same sink after one more call, but for the bytes held, the room and the count of faults
pub record IsNextSink (old new : MemSink) : Type 0 where
  pub most : most_of new ≡ most_of old
  pub called : IsCalled (schedule_of old) (schedule_of new)
