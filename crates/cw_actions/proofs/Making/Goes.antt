-- A call that runs the large program goes as one that runs the files that hold its texts.
use Rattle.std.proofs.Common.{◌≡◌, ℕ, ◌≤◌, List, [], length, Option, Some, refl, sym, ap, ◌∙◌, subst, inl, inr, arith}
use Rattle.std.proofs.lemmas.List.{length-map}
use Rattle.cw_unit.specs.declared.unit.Unit.{Unit as SourceUnit}
use Rattle.cw_unit.specs.declared.layout.Limits.{Limits}
use Rattle.cw_ports.specs.declared.running.ImageEnd.{ImageEnd}
use Rattle.cw_ports.specs.declared.running.ImageEnd.TheVariants as ends
use Rattle.cw_image.specs.declared.image.Image.{Image}
use Rattle.cw_place.specs.Placement.{IsLimits}
use Rattle.cw_big.specs.LargeProgram.{large_program}
use Rattle.cw_files.specs.Texts.{HasUnit}
use Rattle.cw_files.specs.Reading.{HaveValues, AllTaken}
use Rattle.cw_compile.specs.Texts.{text_limit}
use Rattle.cw_words.specs.Parts.{copies_in}
use Rattle.cw_words.specs.declared.action.Action.TheVariants.{Big}
use Rattle.cw_correct.specs.Calls.{Surroundings, call_as, first_name}
use Rattle.cw_correct.specs.Making.{program_line, in_memory, NoneOfFiles}
use Rattle.cw_correct.specs.Correct.{IsCorrectCall}
use Rattle.cw_write.specs.Said.{Says}
use Rattle.cw_say.specs.Closing.{closing_line}
use Rattle.cw_say.specs.declared.status.Status.{Status}
use Rattle.cw_say.specs.declared.status.Status.TheVariants.{Ended, Usage, Refused, Unlinked, NoFile, NoMemory, BadFile, TooLong, NoPlace, NoItem}
use Rattle.cw_say.specs.declared.status.Long.TheVariants.{File}
use Rattle.cw_actions.specs.Going.Runs.{Streams, status_of, Runs}
use Rattle.cw_actions.specs.Going.Goes.{IsUnlinked, Goes}
use Rattle.cw_actions.specs.Going.Laws.{KeepsPromise, IsRight, IsRightIdle}
use Rattle.cw_actions.proofs.Going.Called.{after_line, before_line, closes_by}
use Rattle.cw_actions.proofs.Making.Texts.{Short, told, bytes, count}

-- ---- statuses

of_end : (steps : ℕ) (end : ImageEnd) → NoneOfFiles (status_of steps end)
of_end steps ends.Ended = tt
of_end steps _ = tt

pub of_run : (text : List ℕ) (image : Image) (steps : ℕ) (a b : Streams) (status : Status) → Runs text image steps a b status → NoneOfFiles status
of_run text image steps a b status (inl x) = subst NoneOfFiles (sym x.0) tt
of_run text image steps a b status (inr (inl x)) = subst NoneOfFiles (sym x.0) tt
of_run text image steps a b status (inr (inr x)) = subst NoneOfFiles (sym x.is) (of_end steps x.end)

pub of_link : (us : List SourceUnit) (limits : Limits) (status : Status) → IsUnlinked us limits status → NoneOfFiles status
of_link us limits NoMemory x = tt
of_link us limits (Unlinked fault) x = tt
of_link us limits _ x = absurd x

-- none of them tells the name of a file
same_line : (names segments : List (List ℕ)) (s : Status) → NoneOfFiles s → closing_line [] segments s ≡ closing_line names segments s
same_line names segments Usage x = absurd x
same_line names segments (Refused number fault) x = absurd x
same_line names segments (NoFile number) x = absurd x
same_line names segments (BadFile number fault) x = absurd x
same_line names segments (TooLong (File number)) x = absurd x
same_line names segments NoPlace x = absurd x
same_line names segments (NoItem index) x = absurd x
same_line names segments _ x = refl

-- ---- the call

-- the texts are as files that hold them, each of which has a unit
pub takes : (copies : ℕ) → Short → copies ≤ 100 → (us : List SourceUnit) → HaveValues HasUnit (large_program copies) us → length us ≡ copies → AllTaken text_limit HasUnit (told (large_program copies)) us
takes copies short few us values all = record {
  texts = large_program copies;
  have_bytes = bytes short copies copies few;
  have_values = values;
  all = all ∙ sym (count copies copies) ∙ sym (length-map (large_program copies) (λ (text : List ℕ). Some (Some text)));
}

module _ (copies : ℕ) (limits : Limits) (steps : ℕ) (names : List (List ℕ)) (before after : Surroundings) (is_number : copies_in (first_name (call_as Big limits steps names before after)) ≡ Some copies)
    (files : after.files ≡ before.files) (store_faults : after.store_faults ≡ before.store_faults) (absences : after.absences ≡ before.absences) where
  -- so did the call, whose result is as that over the texts
  right : (status : Status) → NoneOfFiles status → IsRight (program_line copies) (call_as Big limits steps (large_program copies) (in_memory before) (in_memory after)) status → (result : Status) → result ≡ status
      → IsCorrectCall (call_as Big limits steps names before after) result
  right status none (input, is_input, runs) result same =
      subst (IsCorrectCall (call_as Big limits steps names before after)) (sym same)
      (input, is_input, (copies, is_number, record { runs = runs; none_of_files = none; store_faults = store_faults; absences = absences; stays = λ name. ap (λ f. f name) files }))

  pub keeps : (segments : List (List ℕ)) (said : Option (List ℕ)) (faults : ℕ) (status result : Status) → result ≡ status → NoneOfFiles status → Says said after.say faults after.say_faults (closing_line [] segments status) → (status ≡ Ended → after.say_faults ≡ faults)
      → KeepsPromise → 1 ≤ copies → copies ≤ 100 → IsLimits limits → Goes (program_line copies) (call_as Big limits steps (large_program copies) (in_memory before) (in_memory (before_line after said faults))) segments status
      → IsCorrectCall (call_as Big limits steps names before after) result
  keeps segments said faults status result same none says ended promise some few within goes =
      let length_is = count copies copies in
      let between = in_memory (before_line after said faults) in
      right status none
      (promise (program_line copies) Big limits steps (large_program copies) segments (in_memory before) between (in_memory after) status within (omega (arith, length_is, some)) (omega (arith, length_is, few)) (λ name. refl) goes
      (closes_by between after.say after.say_faults (large_program copies) segments status (subst (λ line. Says said after.say faults after.say_faults line) (same_line (large_program copies) segments status none) says) ended)) result same

-- nothing was done, for want of memory
pub idle : (copies : ℕ) (limits : Limits) (steps : ℕ) (names : List (List ℕ)) (before : Surroundings) (say : Option (List ℕ)) (say_faults : ℕ) → copies_in (first_name (call_as Big limits steps names before (after_line before say say_faults))) ≡ Some copies
    → (result : Status) → result ≡ NoMemory → Says before.say say before.say_faults say_faults (closing_line [] [] NoMemory) → IsRightIdle → IsCorrectCall (call_as Big limits steps names before (after_line before say say_faults)) result
idle copies limits steps names before say say_faults is_number result same says idle_so =
    right copies limits steps names before (after_line before say say_faults) is_number refl refl refl NoMemory tt
    (idle_so (program_line copies) Big limits steps (large_program copies) (in_memory before) (in_memory (after_line before say say_faults)) (closes_by (in_memory before) say say_faults (large_program copies) [] NoMemory says (λ e. absurd (cc e)))) result same
