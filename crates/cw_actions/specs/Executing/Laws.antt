-- Laws of the promise of `exec`.
use Rattle.std.specs.Prelude.{◌≡◌, ◌≢◌, ◌⊎◌, ℕ, List, [], map, Option, Some}
use Rattle.cw_correct.specs.Calls.{Call, told_files, NoFault}
use Rattle.cw_correct.specs.Closing.{Closes}
use Rattle.cw_correct.specs.Executing.{ExecutesRight}
use Rattle.cw_say.specs.declared.status.Status.{Status}
use Rattle.cw_say.specs.declared.status.Status.TheVariants.{NoMemory, TooLong}
use Rattle.cw_say.specs.declared.status.Long.TheVariants as long

-- A call that did nothing for want of memory, but for its closing line, keeps its promise.
abbrev pub IsRightIdle : Type 0
IsRightIdle = (c : Call) (input : List ℕ) → Closes c.before c.after c.names [] NoMemory → ExecutesRight c input NoMemory

-- Two statuses never come of one call, where the store tells its files, no count rose, and memory was found; and
-- where one is TooLong(Input), the source its input.
abbrev pub HasOneStatus : Type 0
HasOneStatus =
    (c : Call) (input : List ℕ) (a b : Status) (found : List (Option (List ℕ))) → told_files c ≡ map Some found
    → NoFault c.before c.after → a ≢ NoMemory → b ≢ NoMemory
    → ((a ≡ TooLong long.Input) ⊎ (b ≡ TooLong long.Input) → (told : List ℕ) × (c.before.left ≡ Some told))
    → ExecutesRight c input a → ExecutesRight c input b → a ≡ b
