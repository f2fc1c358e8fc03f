-- Files that are taken in order, from number 0: each is read and accepted before the next is read. So the file that was not read, or was refused, is the one
-- behind those that were accepted.
use Rattle.std.specs.Prelude.{◌≡◌, ℕ, ◌≤◌, List, [], ◌∷◌, length, Option, None, Some, slice_get, Result, Ok, Err}
use Rattle.cw_io.specs.Count.{Rose}
use Rattle.cw_io.specs.File.{Told, Is, IsAbsent, IsLonger}
use Rattle.cw_unit.specs.declared.unit.Unit.{Unit as SourceUnit}
use Rattle.cw_unit.specs.declared.layout.Layout.{Layout}
use Rattle.cw_list.specs.Rows.{layouts_of}
use Rattle.cw_say.specs.compile.declared.fault.Refusal.{Refusal}
use Rattle.cw_say.specs.compile.Texts.{text_limit, IsRefused}
use Rattle.cw_build.specs.Compiled.{object_of}
use Rattle.cw_files.specs.Texts.{HasUnit, HasObject, HasRunnable, HasImage, IsBad, IsBadRunnable, object_limit}
use Rattle.cw_files.specs.declared.images.Runnable.{Runnable}
use Rattle.cw_image.specs.declared.image.Image.{Image}
use Rattle.cw_say.specs.declared.status.Bad.{Bad}
use Rattle.cw_say.specs.declared.status.Bad.TheVariants.{Object, Image as BadImage}
use Rattle.cw_say.specs.declared.status.Status.{Status}
use Rattle.cw_say.specs.declared.status.Status.TheVariants.{Refused, NoFile, Outside, NoMemory, BadFile, TooLong}
use Rattle.cw_say.specs.declared.status.Which.TheVariants.{Store}
use Rattle.cw_say.specs.declared.status.Long.TheVariants.{File}
use Rattle.cw_files.specs.declared.segments.Segments.{Segments}
use Rattle.std.specs.Prelude.{map}

-- ---- bytes and values

-- the first files have these bytes, as far as they are told, and none has more than the limit
abbrev pub HaveBytes : (limit : ℕ) → List Told → List (List ℕ) → Type 0
HaveBytes limit files [] = Unit {0}
HaveBytes limit [] (bytes ∷ more) = ⊥
HaveBytes limit (file ∷ files) (bytes ∷ more) = Is file bytes × (length bytes ≤ limit) × HaveBytes limit files more

-- the first of these bytes are accepted as these values
abbrev pub HaveValues : {X : Type 0} → (Accepts : List ℕ → X → Type 0) → List (List ℕ) → List X → Type 0
HaveValues Accepts texts [] = Unit {0}
HaveValues Accepts [] (x ∷ xs) = ⊥
HaveValues Accepts (text ∷ texts) (x ∷ xs) = Accepts text x × HaveValues Accepts texts xs

-- every file was read, and its bytes are accepted as these values
pub record AllTaken {X : Type 0} (limit : ℕ) (Accepts : List ℕ → X → Type 0) (files : List Told) (values : List X) : Type 0 where
  pub texts : List (List ℕ)
  pub have_bytes : HaveBytes limit files texts
  pub have_values : HaveValues Accepts texts values
  pub all : length values ≡ length files

-- ---- the file that was not taken

abbrev pub IsAbsentAt : Option Told → Type 0
IsAbsentAt None = ⊥
IsAbsentAt (Some file) = IsAbsent file

abbrev pub IsLongerAt : Option Told → (most : ℕ) → Type 0
IsLongerAt None most = ⊥
IsLongerAt (Some file) most = IsLonger file most

abbrev pub IsRefusedAt : Option (List ℕ) → Refusal → Type 0
IsRefusedAt None fault = ⊥
IsRefusedAt (Some text) fault = IsRefused text fault

-- by why bytes are refused
abbrev pub IsBadAt : (Refuses : List ℕ → Bad → Type 0) → Option (List ℕ) → Bad → Type 0
IsBadAt Refuses None fault = ⊥
IsBadAt Refuses (Some bytes) fault = Refuses bytes fault

-- ---- what reading answers

-- the counts of the store at some time
pub record Counts : Type 0 where
  pub faults : ℕ
  pub absences : ℕ

abbrev pub counts_at : (faults absences : ℕ) → Counts
counts_at faults absences = record { faults = faults; absences = absences }

-- the store could not give the next file, or it has too many bytes
abbrev pub IsUnread : (limit : ℕ) → List Told → (taken : ℕ) → (before after : Counts) → Status → Type 0
IsUnread limit files taken before after (NoFile number) = (number ≡ taken) × IsAbsentAt (slice_get files number) × Rose before.absences after.absences
IsUnread limit files taken before after (Outside Store) = Rose before.faults after.faults
IsUnread limit files taken before after (TooLong (File number)) = (number ≡ taken) × IsLongerAt (slice_get files number) limit
IsUnread limit files taken before after NoMemory = Unit {0}
IsUnread limit files taken before after status = ⊥

-- or it is refused
abbrev pub StopsTexts : List Told → (texts : List (List ℕ)) → (taken : ℕ) → (before after : Counts) → Status → Type 0
StopsTexts files texts taken before after (Refused number fault) = (number ≡ taken) × IsRefusedAt (slice_get texts number) fault
StopsTexts files texts taken before after status = IsUnread text_limit files taken before after status

abbrev pub StopsObjects : List Told → (texts : List (List ℕ)) → (taken : ℕ) → (before after : Counts) → Status → Type 0
StopsObjects files texts taken before after (BadFile number (Object fault)) = (number ≡ taken) × IsBadAt IsBad (slice_get texts number) (Object fault)
StopsObjects files texts taken before after status = IsUnread object_limit files taken before after status

abbrev pub StopsRunnables : List Told → (texts : List (List ℕ)) → (taken : ℕ) → (before after : Counts) → Status → Type 0
StopsRunnables files texts taken before after (BadFile number fault) = (number ≡ taken) × IsBadAt IsBadRunnable (slice_get texts number) fault
StopsRunnables files texts taken before after status = IsUnread object_limit files taken before after status

abbrev pub StopsImages : List Told → (texts : List (List ℕ)) → (taken : ℕ) → (before after : Counts) → Status → Type 0
StopsImages files texts taken before after (BadFile number (BadImage fault)) = (number ≡ taken) × IsBadAt IsBad (slice_get texts number) (BadImage fault)
StopsImages files texts taken before after status = IsUnread object_limit files taken before after status

-- reading stopped behind the files that were accepted as these values
pub record Stopped {X : Type 0} (limit : ℕ) (Accepts : List ℕ → X → Type 0) (Stops : List (List ℕ) → (taken : ℕ) → Type 0) (files : List Told) : Type 0 where
  pub texts : List (List ℕ)
  pub values : List X
  pub have_bytes : HaveBytes limit files texts
  pub have_values : HaveValues Accepts texts values
  pub stops : Stops texts (length values)

abbrev pub SameCounts : (before after : Counts) → Type 0
SameCounts before after = (after.faults ≡ before.faults) × (after.absences ≡ before.absences)

-- the units that files are compiled to, with their layouts and their objects
pub record AreSegmentsOf (us : List SourceUnit) (segments : Segments) : Type 0 where
  pub units : segments.units ≡ us
  pub layouts : segments.layouts ≡ layouts_of us
  pub objects : segments.objects ≡ map object_of us

abbrev pub AnswersUnits : List Told → (before after : Counts) → Result Segments Status → Type 0
AnswersUnits files before after (Ok segments) = AllTaken text_limit HasUnit files segments.units
    × AreSegmentsOf segments.units segments × SameCounts before after
AnswersUnits files before after (Err status) = Stopped text_limit HasUnit (λ texts taken. StopsTexts files texts taken before after status) files

abbrev pub AnswersObjects : List Told → (before after : Counts) → Result (List (List ℕ)) Status → Type 0
AnswersObjects files before after (Ok objects) = AllTaken object_limit HasObject files objects × SameCounts before after
AnswersObjects files before after (Err status) = Stopped object_limit HasObject (λ texts taken. StopsObjects files texts taken before after status) files

-- of the one file of `exec`
abbrev pub AnswersRunnable : Told → (before after : Counts) → Result Runnable Status → Type 0
AnswersRunnable file before after (Ok runnable) = AllTaken object_limit HasRunnable (file ∷ []) (runnable ∷ []) × SameCounts before after
AnswersRunnable file before after (Err status) = Stopped object_limit HasRunnable
    (λ texts taken. StopsRunnables (file ∷ []) texts taken before after status) (file ∷ [])

-- of the one file of `hex`
abbrev pub AnswersImage : Told → (before after : Counts) → Result Image Status → Type 0
AnswersImage file before after (Ok image) = AllTaken object_limit HasImage (file ∷ []) (image ∷ []) × SameCounts before after
AnswersImage file before after (Err status) = Stopped object_limit HasImage (λ texts taken. StopsImages (file ∷ []) texts taken before after status) (file ∷ [])
