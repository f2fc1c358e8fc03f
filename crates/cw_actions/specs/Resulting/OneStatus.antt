-- Two statuses never come of one call.
use Rattle.std.specs.Prelude.{◌≡◌, ◌≢◌, ℕ, List, map, All, Option, Some}
use Rattle.cw_correct.specs.Calls.{Call, told_files, NoFault}
use Rattle.cw_correct.specs.Correct.{TellsBytes}
use Rattle.cw_say.specs.declared.status.Status.{Status}
use Rattle.cw_say.specs.declared.status.Status.TheVariants.{NoMemory}

-- a promise allows one status, where the store tells its files, which are bytes, no count rose, and memory was found
abbrev pub AllowsOneStatus : (Right : Call → Status → Type 0) → Type 0
AllowsOneStatus Right =
    (c : Call) (a b : Status) (found : List (Option (List ℕ))) → told_files c ≡ map Some found → All TellsBytes found
    → NoFault c.before c.after → a ≢ NoMemory → b ≢ NoMemory → Right c a → Right c b → a ≡ b
