-- A store in memory, as its callers see it.
use Rattle.std.specs.Prelude.{◌≡◌, ◌⊎◌, ◌+◌, ◌-◌, ◌<◌, ℕ, List, Option, length}
use Rattle.cw_io.specs.Schedule.{IsCalled}
use Rattle.cw_io.specs.Written.{written_file, given_file}
use Rattle.cw_io.specs.declared.schedule.Schedule.{Schedule}
use Rattle.cw_io.specs.declared.mem_store.MemStore.{MemStore}

-- the file of a name
abbrev pub file_in : MemStore → List ℕ → Option (List ℕ)
file_in store name = written_file store.places.items store.text.items name (given_file store.files name)

-- how many more files can be written
abbrev pub slots_of : MemStore → ℕ
slots_of store = store.slots - length store.places.items

-- how many more bytes of names and files can be written
abbrev pub room_of : MemStore → ℕ
room_of store = store.room - length store.text.items

-- the most bytes that a call of read_part moves
abbrev pub most_of : MemStore → ℕ
most_of store = store.piece

-- which calls fail, and the counts
abbrev pub schedule_of : MemStore → Schedule
schedule_of store = store.schedule

-- how often a file that was asked for wasn't there
abbrev pub absences_of : MemStore → ℕ
absences_of store = store.absences

-- a name and its bytes do not fit
abbrev pub IsFull : MemStore → List ℕ → List ℕ → Type 0
IsFull store name bytes = (slots_of store ≡ 0) ⊎ (room_of store < length name + length bytes)

-- the same store after one more call, but for its files, its slots and room, and its counts of faults and absences
pub record IsNextStore (old new : MemStore) : Type 0 where
  pub most : most_of new ≡ most_of old
  pub called : IsCalled (schedule_of old) (schedule_of new)

-- slots and room stay
pub record KeepsRoom (old new : MemStore) : Type 0 where
  pub slots : slots_of new ≡ slots_of old
  pub room : room_of new ≡ room_of old
