-- What the command promises of a call, by its action.
use Rattle.std.specs.Prelude.{◌≡◌, ◌≢◌, ◌⊎◌, ℕ, List, [], map, All, Option, Some, None}
use Rattle.cw_io.specs.File.{AllStay}
use Rattle.cw_cpu86.specs.Ports.{AreBytes}
use Rattle.cw_ports.specs.Running.{IsInput}
use Rattle.cw_words.specs.Parts.{Parts, parts_of, copies_in}
use Rattle.cw_stop.specs.declared.stopping.Stop.{Stop}
use Rattle.cw_stop.specs.Stopping.{stop_in}
use Rattle.cw_words.specs.declared.action.Action.{Action}
use Rattle.cw_words.specs.declared.action.Action.TheVariants.{Go, Compile, Link, Exec, List as Show, Map, Migrate, Big, Hex, Lib, Depth, Trace, Code}
use Rattle.cw_correct.specs.Calls.{Surroundings, Call, call_of, told_files, first_name, over_others, NoFault, IsUntouched, IsUnwritten}
use Rattle.cw_correct.specs.Saying.{SaysLast}
use Rattle.cw_correct.specs.Going.{GoesRight}
use Rattle.cw_correct.specs.Making.{MakesRight}
use Rattle.cw_correct.specs.Tracing.{TracesRight}
use Rattle.cw_correct.specs.Executing.{ExecutesRight}
use Rattle.cw_correct.specs.Results.{MapsRight, DepthsRight, CodesRight, ShowsRight, CompilesRight, LibsRight, LinksRight, MigratesRight, HexesRight}
use Rattle.cw_say.specs.declared.status.Status.{Status}
use Rattle.cw_say.specs.declared.status.Status.TheVariants.{Usage, NoMemory, TooLong}
use Rattle.cw_say.specs.declared.status.Long.TheVariants as long

-- ---- words that are no command

-- Nothing is done, and `say` gets the line of usage; or memory was wanted.
pub record DoesNothing (before after : Surroundings) (status : Status) : Type 0 where
  pub comes : (status ≡ Usage) ⊎ (status ≡ NoMemory)
  pub says : SaysLast before after [] [] status
  pub untouched : IsUntouched before after
  pub unwritten : IsUnwritten before after
  pub stays : AllStay before.files after.files

-- ---- a command

abbrev pub CorrectAs : Action → Call → (input : List ℕ) → Status → Type 0
CorrectAs Go c input status = GoesRight c input status
CorrectAs Compile c input status = CompilesRight c status
CorrectAs Lib c input status = LibsRight c status
CorrectAs Link c input status = LinksRight c status
CorrectAs Exec c input status = ExecutesRight c input status
CorrectAs Show c input status = ShowsRight c status
CorrectAs Map c input status = MapsRight c status
CorrectAs Depth c input status = DepthsRight c status
CorrectAs Code c input status = CodesRight c status
CorrectAs Migrate c input status = MigratesRight c status
CorrectAs Hex c input status = HexesRight c status
CorrectAs Big c input status = (copies : ℕ) × (copies_in (first_name c) ≡ Some copies) × MakesRight copies c input status
CorrectAs Trace c input status = (stop : Stop) × (stop_in (first_name c) ≡ Some stop) × TracesRight stop (over_others c) input status

-- over this input
abbrev pub Correct : Call → (input : List ℕ) → Status → Type 0
Correct c input status = CorrectAs c.action c input status

-- for the input that the source tells, or for some bytes where it tells none
abbrev pub IsCorrectCall : Call → Status → Type 0
IsCorrectCall c status = (input : List ℕ) × IsInput c.before.left input × Correct c input status

-- for what the words ask for
abbrev pub IsCorrectRequest : Option Parts → (before after : Surroundings) → Status → Type 0
IsCorrectRequest None before after status = DoesNothing before after status
IsCorrectRequest (Some parts) before after status = IsCorrectCall (call_of parts before after) status

abbrev pub IsCorrect : (words : List (List ℕ)) → (before after : Surroundings) → Status → Type 0
IsCorrect words before after status = IsCorrectRequest (parts_of words) before after status

-- ---- one status

abbrev pub TellsBytes : Option (List ℕ) → Type 0
TellsBytes None = Unit {0}
TellsBytes (Some bytes) = AreBytes bytes

-- Two statuses never come of one call, where the store tells its files, which are bytes, no count rose, and memory
-- was found; and where one is TooLong(Input), the
-- source its input.
abbrev pub HasOneStatus : Type 0
HasOneStatus =
    (c : Call) (input : List ℕ) (a b : Status) (found : List (Option (List ℕ))) → told_files c ≡ map Some found
    → All TellsBytes found → NoFault c.before c.after → a ≢ NoMemory → b ≢ NoMemory
    → ((a ≡ TooLong long.Input) ⊎ (b ≡ TooLong long.Input) → (told : List ℕ) × (c.before.left ≡ Some told)) → Correct c input a → Correct c input b → a ≡ b
