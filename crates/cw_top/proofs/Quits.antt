-- A call that did nothing but write its closing line keeps its promise.
use Rattle.std.proofs.Common.{◌≡◌, ◌⊎◌, ℕ, List, [], drop, Option, Some, None, refl, sym, ap, subst, inl, inr, arith}
use Rattle.cw_words.specs.Parts.{Parts, parts_of, copies_of, stop_of}
use Rattle.cw_words.specs.Copies.{TellsCopies, TellsStop}
use Rattle.cw_stop.specs.declared.stopping.Stop.{Stop}
use Rattle.cw_words.specs.declared.action.Action.{Action}
use Rattle.cw_words.specs.declared.action.Action.TheVariants.{Go, Compile, Link, Exec, List as Show, Map, Migrate, Big, Hex, Lib, Depth, Trace, Code}
use Rattle.cw_write.specs.Said.{Says}
use Rattle.cw_say.specs.Closing.{closing_line}
use Rattle.cw_build.specs.Linking.{map_text}
use Rattle.cw_big.specs.LargeProgram.{large_program}
use Rattle.cw_correct.specs.Calls.{Surroundings, Call, limits_of, call_as}
use Rattle.cw_correct.specs.Making.{program_line, in_memory, MakesRight}
use Rattle.cw_correct.specs.Closing.{Closes}
use Rattle.cw_correct.specs.Saying.{IsFirstPart, SaysLast}
use Rattle.cw_correct.specs.Correct.{DoesNothing, IsCorrectRequest}
use Rattle.cw_say.specs.declared.status.Status.{Status}
use Rattle.cw_say.specs.declared.status.Status.TheVariants.{Usage, NoMemory}
use Rattle.cw_actions.specs.Going.Laws as going
use Rattle.cw_actions.proofs.Going.Called.{closes_wanted}
use Rattle.cw_actions.proofs.Executing.Running.{after_nothing}
use Rattle.cw_actions.specs.Executing.Laws as executing
use Rattle.cw_actions.specs.Resulting.Idle.{IsIdle, AllowsIdle}
use Rattle.cw_actions.specs.Resulting.Laws.{OfResults, OfLibraries}
use Rattle.cw_actions.specs.Tracing.Laws as tracing
use Rattle.cw_top.specs.Quits.{MayQuit}
use Rattle.cw_top.proofs.Asked.{asked, asked_so, copies_told, stop_told, no_stop}

-- the promises of all actions for want of memory
pub record Idles : Type 0 where
  pub texts : going.IsRightIdle
  pub exec : executing.IsRightIdle
  pub results : OfResults AllowsIdle
  pub libraries : OfLibraries AllowsIdle
  pub trace : tracing.IsRightIdle

module _ (before after : Surroundings) where
  says_last : (names : List (List ℕ)) (status : Status) → IsFirstPart [] before.say_faults before.say_faults status [] → Says before.say after.say before.say_faults after.say_faults (closing_line names [] status) → SaysLast before after names [] status
  says_last names status is says = record {
    first = [];
    middle = before.say_faults;
    is_first = is;
    later = omega arith;
    closing = subst (λ told. Says told after.say before.say_faults after.say_faults (closing_line names [] status)) (sym (after_nothing before.say)) says;
  }

  does_nothing : (status : Status) → (status ≡ Usage) ⊎ (status ≡ NoMemory) → IsFirstPart [] before.say_faults before.say_faults status [] → Closes before after [] [] status → DoesNothing before after status
  does_nothing status comes is closes = record {
    comes = comes;
    says = says_last [] status is closes.says;
    untouched = record { input = closes.left; faults = closes.input_faults };
    unwritten = record { out = closes.out; faults = closes.out_faults };
    stays = λ name. ap (λ files. files name) closes.files;
  }

  pub usage : Closes before after [] [] Usage → DoesNothing before after Usage
  usage closes = does_nothing Usage (inl refl) refl closes

  -- the names of the files are of no account where memory was wanted
  named : (names : List (List ℕ)) → Closes before after [] [] NoMemory → Closes before after names [] NoMemory
  named names closes = closes_wanted before after [] [] names [] closes

  module _ (idles : Idles) (parts : Parts) (closes : Closes before after [] [] NoMemory) where
    abbrev call : Action → Call
    call action = call_as action (limits_of parts) parts.steps parts.names before after

    abbrev is_idle : (action : Action) → IsIdle (call action)
    is_idle action = record {
      says = says_last parts.names NoMemory refl closes.says;
      untouched = record { input = closes.left; faults = closes.input_faults };
      unwritten = record { out = closes.out; faults = closes.out_faults };
      stays = λ name. ap (λ files. files name) closes.files;
    }

    -- nor do those of `big` change
    in_memory_closes : (texts : List (List ℕ)) → Closes (in_memory before) (in_memory after) texts [] NoMemory
    in_memory_closes texts = record {
      says = closes.says;
      ended = closes.ended;
      files = refl;
      store_faults = refl;
      absences = refl;
      left = closes.left;
      input_faults = closes.input_faults;
      out = closes.out;
      out_faults = closes.out_faults;
    }

    of_action : (action : Action) → copies_of action parts.names ≡ Some parts.copies → stop_of action parts.names ≡ Some parts.stop → parts.action ≡ action → IsCorrectRequest (Some parts) before after NoMemory
    of_action Go told stops is = asked Go parts before after NoMemory is (idles.texts (λ us. map_text us (limits_of parts)) Go (limits_of parts) parts.steps parts.names before after (named parts.names closes))
    of_action Exec told stops is = asked_so Exec parts before after NoMemory is (λ input. idles.exec (call Exec) input (named parts.names closes))
    of_action Map told stops is = asked_so Map parts before after NoMemory is (λ input. idles.results.map (call Map) (is_idle Map))
    of_action Depth told stops is = asked_so Depth parts before after NoMemory is (λ input. idles.results.depth (call Depth) (is_idle Depth))
    of_action Code told stops is = asked_so Code parts before after NoMemory is (λ input. idles.results.code (call Code) (is_idle Code))
    of_action Show told stops is = asked_so Show parts before after NoMemory is (λ input. idles.results.list (call Show) (is_idle Show))
    of_action Compile told stops is = asked_so Compile parts before after NoMemory is (λ input. idles.results.compile (call Compile) (is_idle Compile))
    of_action Lib told stops is = asked_so Lib parts before after NoMemory is (λ input. idles.libraries.lib (call Lib) (is_idle Lib))
    of_action Link told stops is = asked_so Link parts before after NoMemory is (λ input. idles.libraries.link (call Link) (is_idle Link))
    of_action Migrate told stops is = asked_so Migrate parts before after NoMemory is (λ input. idles.results.migrate (call Migrate) (is_idle Migrate))
    of_action Hex told stops is = asked_so Hex parts before after NoMemory is (λ input. idles.results.hex (call Hex) (is_idle Hex))
    of_action Big told stops is =
        let (input, is_input, runs) = idles.texts (program_line parts.copies) Big (limits_of parts) parts.steps (large_program parts.copies) (in_memory before) (in_memory after) (in_memory_closes (large_program parts.copies)) in
        let right : MakesRight parts.copies (call Big) input NoMemory = record {
          runs = runs;
          none_of_files = tt;
          store_faults = closes.store_faults;
          absences = closes.absences;
          stays = λ name. ap (λ files. files name) closes.files;
        } in
        asked Big parts before after NoMemory is (input, is_input, (parts.copies, copies_told parts.names parts.copies told, right))
    of_action Trace told stops is = of_stop parts.stop stops
      where
        of_stop : (stop : Option Stop) → stop_of Trace parts.names ≡ Some stop → IsCorrectRequest (Some parts) before after NoMemory
        of_stop None e = absurd (no_stop parts.names e)
        of_stop (Some stop) e =
            let (input, is_input, right) = idles.trace stop Trace (limits_of parts) parts.steps (drop 1 parts.names) before after (named (drop 1 parts.names) closes) in
            asked Trace parts before after NoMemory is (input, is_input, (stop, stop_told parts.names stop e, right))

pub may_quit : Idles → TellsCopies → TellsStop → MayQuit
may_quit idles tells stops words before after closes = by (parts_of words) refl
  where
    by : (parts : Option Parts) → parts_of words ≡ parts → IsCorrectRequest parts before after NoMemory
    by None is = does_nothing before after NoMemory (inr refl) refl closes
    by (Some parts) is = of_action before after idles parts closes parts.action (tells words parts is) (stops words parts is) refl
