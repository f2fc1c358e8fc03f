-- Two statuses never come of one call, by its action.
use Rattle.std.proofs.Common.{◌≡◌, ◌≢◌, ◌⊎◌, ℕ, List, map, drop, Option, Some, sym, ap, ◌∙◌, subst, arith}
use Rattle.std.specs.Prelude.{All}
use Rattle.cw_words.specs.declared.action.Action.{Action}
use Rattle.cw_words.specs.declared.action.Action.TheVariants.{Go, Compile, Link, Exec, List as Show, Map, Migrate, Big, Hex, Lib, Depth, Trace, Code}
use Rattle.cw_build.specs.Linking.{map_text}
use Rattle.cw_big.specs.LargeProgram.{large_program}
use Rattle.cw_stop.specs.declared.stopping.Stop.{Stop}
use Rattle.cw_correct.specs.Calls.{Call, over_others, told_files, NoFault}
use Rattle.cw_correct.specs.Tracing.{TracesRight}
use Rattle.cw_correct.specs.Making.{program_line, in_memory, over_program, MakesRight}
use Rattle.cw_correct.specs.Correct.{CorrectAs, TellsBytes, HasOneStatus}
use Rattle.cw_say.specs.declared.status.Status.{Status}
use Rattle.cw_say.specs.declared.status.Status.TheVariants.{NoMemory, TooLong}
use Rattle.cw_say.specs.declared.status.Long.TheVariants as long
use Rattle.cw_actions.specs.Going.Laws as going
use Rattle.cw_actions.proofs.Resulting.Readings.{map_twice}
use Rattle.cw_actions.specs.Executing.Laws as executing
use Rattle.cw_actions.specs.Resulting.OneStatus.{AllowsOneStatus}
use Rattle.cw_actions.specs.Resulting.Laws.{OfResults, OfLibraries}
use Rattle.cw_actions.specs.Tracing.Laws as tracing
use Rattle.cw_actions.proofs.Resulting.Told.{behind_first}

-- the same of each action
pub record OneEach : Type 0 where
  pub texts : going.HasOneStatus
  pub exec : executing.HasOneStatus
  pub results : OfResults AllowsOneStatus
  pub libraries : OfLibraries AllowsOneStatus
  pub trace : tracing.HasOneStatus

module _ (each : OneEach) (c : Call) (input : List ℕ) (a b : Status) (found : List (Option (List ℕ))) (told : told_files c ≡ map Some found) (bytes : All TellsBytes found) (quiet : NoFault c.before c.after) (other : a ≢ NoMemory)
    (also : b ≢ NoMemory) (telling : (a ≡ TooLong long.Input) ⊎ (b ≡ TooLong long.Input) → (left : List ℕ) × (c.before.left ≡ Some left)) where
  number_of : {m n : ℕ} → ◌≡◌ {A = Option ℕ} (Some m) (Some n) → m ≡ n
  number_of e = cc e

  stop_same : {s t : Stop} → ◌≡◌ {A = Option Stop} (Some s) (Some t) → s ≡ t
  stop_same e = cc e

  -- what `big` runs is in no files
  in_memory_quiet : NoFault (in_memory c.before) (in_memory c.after)
  in_memory_quiet = record { store = λ r. absurd (omega (arith, r)); absences = λ r. absurd (omega (arith, r)); input = quiet.input; out = quiet.out; say = quiet.say }

  pub one_of : (action : Action) → CorrectAs action c input a → CorrectAs action c input b → a ≡ b
  one_of Go x y = each.texts (λ us. map_text us c.limits) c input a b found told quiet other also telling x y
  one_of Exec x y = each.exec c input a b found told quiet other also telling x y
  one_of Map x y = each.results.map c a b found told bytes quiet other also x y
  one_of Depth x y = each.results.depth c a b found told bytes quiet other also x y
  one_of Code x y = each.results.code c a b found told bytes quiet other also x y
  one_of Show x y = each.results.list c a b found told bytes quiet other also x y
  one_of Compile x y = each.results.compile c a b found told bytes quiet other also x y
  one_of Lib x y = each.libraries.lib c a b found told bytes quiet other also x y
  one_of Link x y = each.libraries.link c a b found told bytes quiet other also x y
  one_of Migrate x y = each.results.migrate c a b found told bytes quiet other also x y
  one_of Hex x y = each.results.hex c a b found told bytes quiet other also x y
  one_of Big (m, is, x) (n, also_is, y) =
      let same : n ≡ m = number_of (sym also_is ∙ is) in
      let again = subst (λ k. MakesRight k c input b) same y in
      each.texts (program_line m) (over_program m c) input a b (map Some (large_program m)) (map_twice Some Some (large_program m)) in_memory_quiet other also telling x.runs again.runs
  one_of Trace (stop, is, x) (other_stop, also_is, y) =
      let same : other_stop ≡ stop = stop_same (sym also_is ∙ is) in
      let files = behind_first c.before.files c.names ∙ ap (λ all. drop 1 all) told ∙ sym (behind_first Some found) in
      each.trace stop (over_others c) input a b (drop 1 found) files quiet other also telling x (subst (λ t. TracesRight t (over_others c) input b) same y)

pub one_status : OneEach → HasOneStatus
one_status each c input a b found told bytes quiet other also telling x y = one_of each c input a b found told bytes quiet other also telling c.action x y
