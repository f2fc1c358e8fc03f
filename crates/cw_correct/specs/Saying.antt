-- What is said: a first part, and then the closing line.
use Rattle.std.specs.Prelude.{◌≡◌, ℕ, ◌<◌, ◌≤◌, List, [], length, take}
use Rattle.cw_io.specs.Bytes.{after_told}
use Rattle.cw_io.specs.Count.{Rose}
use Rattle.cw_write.specs.Said.{Says}
use Rattle.cw_say.specs.Closing.{closing_line}
use Rattle.cw_say.specs.declared.status.Status.{Status}
use Rattle.cw_say.specs.declared.status.Status.TheVariants.{Usage, Refused, Unlinked, NoFile, Outside, NoMemory, BadFile, TooLong}
use Rattle.cw_say.specs.declared.status.Which.TheVariants.{Store, Say}
use Rattle.cw_say.specs.declared.status.Long.TheVariants.{File}
use Rattle.cw_correct.specs.Calls.{Surroundings}

-- The first part of what is said: a text, whole before an image runs; or a proper part of it, where the count of `say` rose while it was written. Nothing where
-- nothing was linked.
abbrev pub IsFirstPart : (text : List ℕ) → (faults middle : ℕ) → Status → (first : List ℕ) → Type 0
IsFirstPart text faults middle Usage first = first ≡ []
IsFirstPart text faults middle (Refused number fault) first = first ≡ []
IsFirstPart text faults middle (Unlinked fault) first = first ≡ []
IsFirstPart text faults middle (NoFile number) first = first ≡ []
IsFirstPart text faults middle (BadFile number fault) first = first ≡ []
IsFirstPart text faults middle (Outside Store) first = first ≡ []
IsFirstPart text faults middle (TooLong (File number)) first = first ≡ []
IsFirstPart text faults middle NoMemory first = first ≡ []
IsFirstPart text faults middle (Outside Say) first = (count : ℕ) × (count < length text) × (first ≡ take count text) × Rose faults middle
IsFirstPart text faults middle status first = first ≡ text

-- `say` gets the first part, and then the closing line of the status, or a part of that where it failed.
pub record SaysFirst (before after : Surroundings) (text : List ℕ) (names segments : List (List ℕ)) (status : Status) : Type 0 where
  pub first : List ℕ
  pub middle : ℕ
  pub is_first : IsFirstPart text before.say_faults middle status first
  pub later : before.say_faults ≤ middle
  pub closing : Says (after_told before.say first) after.say middle after.say_faults (closing_line names segments status)

-- the closing line alone
abbrev pub SaysLast : (before after : Surroundings) → (names segments : List (List ℕ)) → Status → Type 0
SaysLast before after names segments status = SaysFirst before after [] names segments status
