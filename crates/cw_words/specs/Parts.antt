-- What the words of the command line mean.
use Rattle.std.specs.Prelude.{◌≡◌, ℕ, ◌≤◌, ◌==◌, ◌&&◌, not, Bool, List, [], map, length, nat_eq, slice_index, slice_index_or}
use Rattle.std.specs.Prelude.{Option, None, Some, codes, if◌then◌else◌, nat_le, option_map, option_and_then}
use Rattle.std.specs.Str.{bytes_eq}
use Rattle.std.specs.Str.Parse.{digits_value, without_leading_plus}
use Rattle.clap.specs.Walk.{Row, Text, first_of, all_of}
use Rattle.clap.specs.ValueTests.{is_unsigned_in}
use Rattle.cw_stop.specs.Stopping.{stop_in}
use Rattle.cw_stop.specs.declared.stopping.Stop.{Stop}
use Rattle.cw_words.specs.Command.{faults_of, rows_in}
use Rattle.cw_words.specs.declared.request.Command.{Command}
use Rattle.cw_words.specs.declared.action.Action.{Action}
use Rattle.cw_words.specs.declared.action.Action.TheVariants.{Go, Compile, Link, Exec, List as Show, Map, Migrate, Big, Hex, Lib, Depth, Trace, Code}

-- the action of a name
unfoldable pub action_named : Text → Option Action
action_named name =
    if bytes_eq name (codes "go") then Some Go
    else (if bytes_eq name (codes "compile") then Some Compile
    else (if bytes_eq name (codes "link") then Some Link
    else (if bytes_eq name (codes "exec") then Some Exec
    else (if bytes_eq name (codes "list") then Some Show
    else (if bytes_eq name (codes "map") then Some Map
    else (if bytes_eq name (codes "migrate") then Some Migrate
    else (if bytes_eq name (codes "big") then Some Big
    else (if bytes_eq name (codes "hex") then Some Hex
    else (if bytes_eq name (codes "lib") then Some Lib
    else (if bytes_eq name (codes "depth") then Some Depth
    else (if bytes_eq name (codes "trace") then Some Trace
    else (if bytes_eq name (codes "code") then Some Code else None))))))))))))

-- the number of a text, where it has one in the range
unfoldable pub number_in : ℕ → ℕ → Text → Option ℕ
number_in low high text = if is_unsigned_in low high text then Some (digits_value 10 (without_leading_plus text)) else None

-- the number of an option
unfoldable pub number_at : ℕ → ℕ → Text → List Row → Option ℕ
number_at low high id rows = option_and_then (number_in low high) (first_of id rows)

unfoldable pub action_at : List Row → Option Action
action_at rows = option_and_then action_named (first_of (codes "ACTION") rows)

-- how many texts `big` makes by its WORD: one to three digits that mean 1 to 100
unfoldable pub copies_in : Text → Option ℕ
copies_in text = if nat_le (length text) 3 && not (nat_eq (slice_index text 0) 43) then number_in 1 100 text else None

-- the same for an action and its WORDs, where 0 stands for the others
unfoldable pub copies_of : Action → List Text → Option ℕ
copies_of Big names = copies_in (slice_index_or names 0 [])
copies_of _ names = Some 0

-- what stop `trace` reports at by its first WORD, a stop word; the others report at none
unfoldable pub stop_of : Action → List Text → Option (Option Stop)
stop_of Trace names = option_map (λ stop. Some stop) (stop_in (slice_index_or names 0 []))
stop_of _ names = Some None

-- how many WORDs an action takes, at least and at most
abbrev pub numbers_of_names : Action → ℕ × ℕ
numbers_of_names Go = (1, 200)
numbers_of_names Link = (1, 200)
numbers_of_names Map = (1, 200)
numbers_of_names Depth = (1, 200)
numbers_of_names Code = (1, 200)
numbers_of_names Lib = (2, 201)
numbers_of_names Trace = (2, 201)
numbers_of_names _ = (1, 1)

abbrev pub least_names : Action → ℕ
least_names action = (numbers_of_names action).0

abbrev pub most_names : Action → ℕ
most_names action = (numbers_of_names action).1

-- what the words mean
pub record Parts : Type 0 where
  pub action : Action
  pub area : ℕ
  pub frames : ℕ
  pub depth : ℕ
  pub steps : ℕ
  pub names : List Text
  pub copies : ℕ
  pub stop : Option Stop

-- frames aren't over data, and the action takes so many WORDs
abbrev pub are_fit : Parts → Bool
are_fit parts = nat_le parts.frames parts.area && nat_le (least_names parts.action) (length parts.names) && nat_le
    (length parts.names) (most_names parts.action)

abbrev pub fit_parts : Parts → Option Parts
fit_parts parts = if are_fit parts then Some parts else None

-- what the rows that `clap` found mean
abbrev pub parts_in : List Row → Option Parts
parts_in rows =
    option_and_then (λ action. option_and_then
    (λ area. option_and_then (λ frames. option_and_then
    (λ depth. option_and_then (λ steps. option_and_then
    (λ names. option_and_then (λ copies. option_and_then (λ stop.
    fit_parts (record { action = action; area = area; frames = frames; depth = depth; steps = steps; names = names; copies = copies; stop = stop }))
    (stop_of action names)) (copies_of action names))
    (all_of (codes "WORD") rows))
    (number_at 1 1000000000000 (codes "steps") rows)) (number_at 1 4096 (codes "depth") rows))
    (number_at 0 32768 (codes "frames") rows)) (number_at 1 32768 (codes "data") rows)) (action_at rows)

-- what the words mean, where `clap` takes them as the command
unfoldable pub parts_of : List Text → Option Parts
parts_of words = if length (faults_of words) == 0 then parts_in (rows_in words) else None

-- the parts of a command
abbrev pub command_parts : Command → Parts
command_parts command = record {
  action = command.action;
  area = command.area;
  frames = command.frames;
  depth = command.depth;
  steps = command.steps;
  names = map (λ name. name.now) command.names.items;
  copies = command.copies;
  stop = command.stop;
}

-- the ranges of the numbers of a command and of how many WORDs it has, and how many texts `big` makes and where `trace` reports by the first of them
pub record InRange (command : Command) : Type 0 where
  pub area : (1 ≤ command.area) × (command.area ≤ 32768)
  pub frames : command.frames ≤ command.area
  pub depth : (1 ≤ command.depth) × (command.depth ≤ 4096)
  pub steps : (1 ≤ command.steps) × (command.steps ≤ 1000000000000)
  pub names : (least_names command.action ≤ length command.names.items) × (length command.names.items ≤ most_names command.action)
  pub copies : copies_of command.action (map (λ name. name.now) command.names.items) ≡ Some command.copies
  pub made : command.action ≡ Big → (1 ≤ command.copies) × (command.copies ≤ 100)
  pub stop : stop_of command.action (map (λ name. name.now) command.names.items) ≡ Some command.stop
