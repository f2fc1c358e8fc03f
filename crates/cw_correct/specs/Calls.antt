-- A call of the command: its words, and what is outside before and after it.
use Rattle.std.specs.Prelude.{◌≡◌, ℕ, List, [], map, drop, Option, slice_index_or}
use Rattle.cw_io.specs.Count.{Rose}
use Rattle.cw_io.specs.File.{Told}
use Rattle.cw_unit.specs.declared.layout.Limits.{Limits}
use Rattle.cw_words.specs.Parts.{Parts}
use Rattle.cw_words.specs.declared.action.Action.{Action}

-- ---- what is outside

-- what the store tells of its files, what the input has left and the two sinks hold, each as far as it is told; and the counts of faults and absences
pub record Surroundings : Type 0 where
  pub files : List ℕ → Told
  pub store_faults : ℕ
  pub absences : ℕ
  pub left : Option (List ℕ)
  pub input_faults : ℕ
  pub out : Option (List ℕ)
  pub out_faults : ℕ
  pub say : Option (List ℕ)
  pub say_faults : ℕ

abbrev pub surroundings_of : (files : List ℕ → Told) → (store_faults absences : ℕ) → (left : Option (List ℕ))
    → (input_faults : ℕ) → (out : Option (List ℕ)) → (out_faults : ℕ) → (say : Option (List ℕ)) → (say_faults : ℕ)
    → Surroundings
surroundings_of files store_faults absences left input_faults out out_faults say say_faults =
    record {
      files = files;
      store_faults = store_faults;
      absences = absences;
      left = left;
      input_faults = input_faults;
      out = out;
      out_faults = out_faults;
      say = say;
      say_faults = say_faults;
    }

-- ---- the call

-- The action, the limits and the most instructions of a run, and the names of the files; and what is outside.
pub record Call : Type 0 where
  pub action : Action
  pub limits : Limits
  pub steps : ℕ
  pub names : List (List ℕ)
  pub before : Surroundings
  pub after : Surroundings

-- of the words that are a command
abbrev pub limits_of : Parts → Limits
limits_of parts = record { area = parts.area; frames = parts.frames; depth = parts.depth }

abbrev pub call_as : Action → Limits → (steps : ℕ) → (names : List (List ℕ)) → (before after : Surroundings) → Call
call_as action limits steps names before after = record { action = action; limits = limits; steps = steps; names = names; before = before; after = after }

abbrev pub call_of : Parts → (before after : Surroundings) → Call
call_of parts before after = call_as parts.action (limits_of parts) parts.steps parts.names before after

-- what the store tells of the files
abbrev pub told_files : Call → List Told
told_files c = map c.before.files c.names

-- the name of the first file
abbrev pub first_name : Call → List ℕ
first_name c = slice_index_or c.names 0 []

-- the call over the files that are named behind the first name
abbrev pub over_others : Call → Call
over_others c = record c { names = drop 1 c.names }

-- no count of faults or absences rose
pub record NoFault (before after : Surroundings) : Type 0 where
  pub store : Rose before.store_faults after.store_faults → ⊥
  pub absences : Rose before.absences after.absences → ⊥
  pub input : Rose before.input_faults after.input_faults → ⊥
  pub out : Rose before.out_faults after.out_faults → ⊥
  pub say : Rose before.say_faults after.say_faults → ⊥

-- every count stands
pub record SameCounts (before after : Surroundings) : Type 0 where
  pub store : after.store_faults ≡ before.store_faults
  pub absences : after.absences ≡ before.absences
  pub input : after.input_faults ≡ before.input_faults
  pub out : after.out_faults ≡ before.out_faults
  pub say : after.say_faults ≡ before.say_faults

-- no byte of the input is taken, and the count of its faults stands
pub record IsUntouched (before after : Surroundings) : Type 0 where
  pub input : after.left ≡ before.left
  pub faults : after.input_faults ≡ before.input_faults

-- nothing is given to `out`
pub record IsUnwritten (before after : Surroundings) : Type 0 where
  pub out : after.out ≡ before.out
  pub faults : after.out_faults ≡ before.out_faults
