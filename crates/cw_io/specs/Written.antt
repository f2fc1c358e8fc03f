-- The files of a store in memory: those given, and those written since, whose names and bytes stand one after another in one text.
use Rattle.std.specs.Prelude.{ℕ, ◌-◌, ◌≤◌, List, length, take, drop, fold, find, Option, Some, option_map, if◌then◌else◌}
use Rattle.std.specs.Str.{bytes_eq}
use Rattle.cw_io.specs.declared.mem_file.Place.{Place}
use Rattle.cw_io.specs.declared.mem_file.MemFile.{MemFile}

-- the bytes from one place to another
abbrev pub part_of : List ℕ → ℕ → ℕ → List ℕ
part_of text from to = take (to - from) (drop from text)

-- the file written at a place, if it is of that name, and else what was found before
abbrev pub latest : List ℕ → List ℕ → Option (List ℕ) → Place → Option (List ℕ)
latest text name found place = if bytes_eq (part_of text place.name_at place.bytes_at) name then Some (part_of text place.bytes_at place.end) else found

-- the file that was written last under a name, or the one given
abbrev pub written_file : List Place → List ℕ → List ℕ → Option (List ℕ) → Option (List ℕ)
written_file places text name given = fold (latest text name) given places

-- the file of a name among those given
abbrev pub given_file : List MemFile → List ℕ → Option (List ℕ)
given_file files name = option_map (λ file. file.bytes) (find (λ file. bytes_eq file.name name) files)

-- the place lies in the text
pub record IsWithin (text : List ℕ) (place : Place) : Type 0 where
  pub name : place.name_at ≤ place.bytes_at
  pub bytes : place.bytes_at ≤ place.end
  pub end : place.end ≤ length text
