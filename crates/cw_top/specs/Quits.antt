-- A call that does nothing but write its closing line.
use Rattle.std.specs.Prelude.{ℕ, List, []}
use Rattle.cw_correct.specs.Calls.{Surroundings}
use Rattle.cw_correct.specs.Closing.{Closes}
use Rattle.cw_correct.specs.Correct.{IsCorrect}
use Rattle.cw_say.specs.declared.status.Status.TheVariants.{NoMemory}

-- Whatever the words ask for, it keeps its promise, where memory was wanted.
abbrev pub MayQuit : Type 0
MayQuit = (words : List (List ℕ)) (before after : Surroundings) → Closes before after [] [] NoMemory → IsCorrect words before after NoMemory
