-- A call of the command, by what its parts answer.
use Rattle.std.proofs.Common.{◌≡◌, ℕ, List, [], Option, Some, None, sym, subst}
use Rattle.cw_words.specs.Parts.{Parts, parts_of}
use Rattle.cw_write.specs.Said.{Says}
use Rattle.cw_say.specs.Closing.{closing_line}
use Rattle.cw_correct.specs.Calls.{Surroundings}
use Rattle.cw_correct.specs.Correct.{IsCorrectRequest, IsCorrect}
use Rattle.cw_say.specs.declared.status.Status.{Status}
use Rattle.cw_say.specs.declared.status.Status.TheVariants.{Ended, Usage, NoMemory}
use Rattle.cw_actions.proofs.Going.Called.{after_line, closes_by}
use Rattle.cw_top.specs.Quits.{MayQuit}
use Rattle.cw_top.proofs.Quits as quits

-- what was done for a command is done for its words
pub performed : (words : List (List ℕ)) (parts : Parts) (before after : Surroundings) (status : Status) → parts_of words ≡ Some parts → IsCorrectRequest (Some parts) before after status → IsCorrect words before after status
performed words parts before after status is right = subst (λ o. IsCorrectRequest o before after status) (sym is) right

module _ (a : Surroundings) (say : Option (List ℕ)) (say_faults : ℕ) where
  -- where the words are no command
  pub usage : (words : List (List ℕ)) → parts_of words ≡ None → Says a.say say a.say_faults say_faults (closing_line [] [] Usage) → (Usage ≡ Ended → say_faults ≡ a.say_faults) → (status : Status) → status ≡ Usage → IsCorrect words a (after_line a say say_faults) status
  usage words none says ended status same =
      subst (λ s. IsCorrect words a (after_line a say say_faults) s) (sym same)
      (subst (λ o. IsCorrectRequest o a (after_line a say say_faults) Usage) (sym none) (quits.usage a (after_line a say say_faults) (closes_by a say say_faults [] [] Usage says ended)))

  pub no_memory : MayQuit → (words : List (List ℕ)) → Says a.say say a.say_faults say_faults (closing_line [] [] NoMemory) → (NoMemory ≡ Ended → say_faults ≡ a.say_faults) → (status : Status) → status ≡ NoMemory → IsCorrect words a (after_line a say say_faults) status
  no_memory may words says ended status same = subst (λ s. IsCorrect words a (after_line a say say_faults) s) (sym same) (may words a (after_line a say say_faults) (closes_by a say say_faults [] [] NoMemory says ended))
