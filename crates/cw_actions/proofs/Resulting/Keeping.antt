-- How a call that was closed says so, and what was written.
use Rattle.std.proofs.Common.{◌≡◌, ◌≢◌, ℕ, List, [], Option, refl, sym, ap, ◌∙◌, subst, inl, inr, arith}
use Rattle.cw_io.specs.Count.{Rose}
use Rattle.cw_io.specs.File.{Told, as_file, AllStay, KeptOrWhole}
use Rattle.cw_write.specs.Said.{Says}
use Rattle.cw_say.specs.Closing.{closing_line}
use Rattle.cw_files.specs.Reading.{SameCounts as CountsStand}
use Rattle.cw_correct.specs.Calls.{Call, SameCounts, IsUntouched, IsUnwritten}
use Rattle.cw_correct.specs.Files.{counts_before, counts_after}
use Rattle.cw_correct.specs.Saying.{IsFirstPart, SaysLast}
use Rattle.cw_correct.specs.Results.{WritesOut, WritesFile}
use Rattle.cw_actions.specs.Resulting.Outside.{Files, files_at, out_at}
use Rattle.cw_actions.specs.Resulting.Written.{GivesOut, GivesFile}
use Rattle.cw_say.specs.declared.status.Status.{Status}
use Rattle.cw_say.specs.declared.status.Status.TheVariants.{Ended, Outside, TooLong}
use Rattle.cw_say.specs.declared.status.Which.TheVariants.{Say}
use Rattle.cw_say.specs.declared.status.Long.TheVariants.{File}
use Rattle.cw_actions.proofs.Executing.Running.{after_nothing}
use Rattle.cw_actions.proofs.Resulting.Cases.{gives_out, gives_file}

first_part : (faults middle : ℕ) (s : Status) → s ≢ Outside Say → IsFirstPart [] faults middle s []
first_part faults middle (Outside Say) other = absurd (other refl)
first_part faults middle (TooLong (File number)) other = refl
first_part faults middle _ other = refl

-- `say` got the line of the status
pub record Closed (c : Call) (s : Status) : Type 0 where
  pub says : Says c.before.say c.after.say c.before.say_faults c.after.say_faults (closing_line c.names [] s)
  pub ended : s ≡ Ended → c.after.say_faults ≡ c.before.say_faults

-- and nothing else
pub says_last : (c : Call) (s : Status) → s ≢ Outside Say → Closed c s → SaysLast c.before c.after c.names [] s
says_last c s other closed =
    let P : Option (List ℕ) → Type 0 = λ told. Says told c.after.say c.before.say_faults c.after.say_faults (closing_line c.names [] s) in
    record {
      first = [];
      middle = c.before.say_faults;
      is_first = first_part c.before.say_faults c.before.say_faults s other;
      later = omega arith;
      closing = subst P (sym (after_nothing c.before.say)) closed.says;
    }

pub unwritten : (c : Call) → out_at c.after.out c.after.out_faults ≡ out_at c.before.out c.before.out_faults → IsUnwritten c.before c.after
unwritten c e = record { out = ap (λ x. x.held) e; faults = ap (λ x. x.faults) e }

-- behind files that stay
kept_then : (old between new : List ℕ → Told) (name bytes : List ℕ) → AllStay old between → KeptOrWhole between new name bytes → KeptOrWhole old new name bytes
kept_then old between new name bytes stay (inl e) = inl (e ∙ stay name)
kept_then old between new name bytes stay (inr e) = inr (e ∙ ap (λ told. as_file told bytes) (stay name))

module _ (c : Call) (untouched : IsUntouched c.before c.after) where
  same_counts : c.after.store_faults ≡ c.before.store_faults → c.after.absences ≡ c.before.absences → c.after.out_faults ≡ c.before.out_faults → c.after.say_faults ≡ c.before.say_faults → SameCounts c.before c.after
  same_counts store absences out say = record { store = store; absences = absences; input = untouched.faults; out = out; say = say }

  -- a result that was written to `out`
  pub writes_out : (result : List ℕ) (s : Status) → CountsStand (counts_before c) (counts_after c) → Closed c s → GivesOut result (out_at c.before.out c.before.out_faults) (out_at c.after.out c.after.out_faults) s → WritesOut c result s
  writes_out result s same closed gives =
      gives_out (λ t. Closed c t → WritesOut c result t) result (out_at c.before.out c.before.out_faults) (out_at c.after.out c.after.out_faults)
      (λ x end. (x.0, same_counts same.0 same.1 x.1 (end.ended refl)))
      (λ x end. x)
      (λ x end. unwritten c x)
      s gives closed

  -- or to a file, behind files that were read
  pub writes_file : (name result : List ℕ) (all : Type 0) (s : Status) → all → IsUnwritten c.before c.after → (between : Files) → AllStay c.before.files between.told → CountsStand (counts_before c) between.counts → Closed c s
      → GivesFile name result between (files_at c.after.files c.after.store_faults c.after.absences) s → WritesFile c name result all s
  writes_file name result all s got none between stay same closed gives =
      gives_file (λ t. Closed c t → WritesFile c name result all t) name result between (files_at c.after.files c.after.store_faults c.after.absences)
      (λ x end. (x.0 ∙ ap (λ told. as_file told result) (stay name), (λ other differs. x.1 other differs ∙ stay other), same_counts (x.2.0 ∙ same.0) (x.2.1 ∙ same.1) none.faults (end.ended refl)))
      (λ x end. inr (got, kept_then c.before.files between.told c.after.files name result stay x.0, (λ other differs. x.1 other differs ∙ stay other), subst (λ faults. Rose faults c.after.store_faults) same.0 x.2))
      (λ x end. λ other. x other ∙ stay other)
      s gives closed
