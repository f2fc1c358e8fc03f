-- What is done for an action is what the words ask for.
use Rattle.std.proofs.Common.{◌≡◌, ℕ, List, [], slice_index_or, option_map, Option, Some, None, sym, subst}
use Rattle.cw_words.specs.Parts.{Parts, copies_in, copies_of, stop_of}
use Rattle.cw_stop.specs.Stopping.{stop_in}
use Rattle.cw_stop.specs.declared.stopping.Stop.{Stop}
use Rattle.cw_words.specs.declared.action.Action.{Action}
use Rattle.cw_correct.specs.Calls.{Surroundings, Call, limits_of, call_as}
use Rattle.cw_words.specs.declared.action.Action.TheVariants.{Big, Trace}
use Rattle.cw_correct.specs.Correct.{Correct, IsCorrectCall, IsCorrectRequest}
use Rattle.cw_say.specs.declared.status.Status.{Status}
use Rattle.cw_actions.proofs.Executing.Running.{some_input}

-- the number of texts of `big` is told by its first WORD
pub copies_told : (names : List (List ℕ)) (copies : ℕ) → copies_of Big names ≡ Some copies → copies_in (slice_index_or names 0 []) ≡ Some copies
unfolding copies_of
copies_told names copies e = e

-- the stop of `trace` is told by its first WORD
named_stop : (read : Option Stop) (stop : Stop) → ◌≡◌ {A = Option (Option Stop)} (option_map (λ s. Some s) read) (Some (Some stop)) → read ≡ Some stop
named_stop None stop e = absurd (cc)
named_stop (Some s) stop e = cc e

pub stop_told : (names : List (List ℕ)) (stop : Stop) → stop_of Trace names ≡ Some (Some stop) → stop_in (slice_index_or names 0 []) ≡ Some stop
unfolding stop_of
stop_told names stop e = named_stop (stop_in (slice_index_or names 0 [])) stop e

unnamed_stop : (read : Option Stop) → ◌≡◌ {A = Option (Option Stop)} (option_map (λ s. Some s) read) (Some None) → ⊥
unnamed_stop None e = absurd (cc)
unnamed_stop (Some s) e = absurd (cc)

-- and there is one
pub no_stop : (names : List (List ℕ)) → stop_of Trace names ≡ Some None → ⊥
unfolding stop_of
no_stop names e = unnamed_stop (stop_in (slice_index_or names 0 [])) e

-- a call that does not use its input
pub over_any : (c : Call) (status : Status) → ((input : List ℕ) → Correct c input status) → IsCorrectCall c status
over_any c status right =
    let (input, is_input) = some_input c.before.left in
    (input, is_input, right input)

pub asked : (action : Action) (parts : Parts) (before after : Surroundings) (status : Status) → parts.action ≡ action
    → IsCorrectCall (call_as action (limits_of parts) parts.steps parts.names before after) status → IsCorrectRequest (Some parts) before after status
asked action parts before after status is right =
    subst (λ a. IsCorrectCall (call_as a (limits_of parts) parts.steps parts.names before after) status) (sym is) right

-- nor does what it promises name it
pub asked_so : (action : Action) (parts : Parts) (before after : Surroundings) (status : Status) → parts.action ≡ action
    → ((input : List ℕ) → Correct (call_as action (limits_of parts) parts.steps parts.names before after) input status) → IsCorrectRequest (Some parts) before after status
asked_so action parts before after status is right = asked action parts before after status is (over_any (call_as action (limits_of parts) parts.steps parts.names before after) status right)
