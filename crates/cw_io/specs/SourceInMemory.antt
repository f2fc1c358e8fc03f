-- A source in memory, as its callers see it.
use Rattle.std.specs.Prelude.{◌≡◌, ℕ, List, drop}
use Rattle.cw_io.specs.Schedule.{IsCalled}
use Rattle.cw_io.specs.declared.schedule.Schedule.{Schedule}
use Rattle.cw_io.specs.declared.mem_source.MemSource.{MemSource}

-- the bytes that are left
abbrev pub left_of : MemSource → List ℕ
left_of source = drop source.at source.left

-- the most bytes that a call moves
abbrev pub most_of : MemSource → ℕ
most_of source = source.piece

-- which calls fail, and the counts
abbrev pub schedule_of : MemSource → Schedule
schedule_of source = source.schedule

-- the same source after one more call, but for the bytes left and the count of faults
pub record IsNextSource (old new : MemSource) : Type 0 where
  pub most : most_of new ≡ most_of old
  pub called : IsCalled (schedule_of old) (schedule_of new)
