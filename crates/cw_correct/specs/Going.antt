-- What the actions promise that run texts: the image of the texts runs, and shows what they mean.
use Rattle.std.specs.Prelude.{◌≢◌, ℕ, ◌+◌, ◌*◌, ◌<◌, List, [], ◌∷◌, length, map, sum}
use Rattle.cw_io.specs.Count.{Rose}
use Rattle.cw_io.specs.File.{AllStay}
use Rattle.cw_i86.specs.MachineRun as run
use Rattle.cw_cpu86.specs.Ports.{AreBytes}
use Rattle.cw_ports.specs.Pieces.{input_limit}
use Rattle.cw_ports.specs.Running.{Taken, TakenWithin}
use Rattle.cw_unit.specs.declared.unit.Unit.{Unit as SourceUnit}
use Rattle.cw_unit.specs.Allocation.{storage_map}
use Rattle.cw_unit.specs.ValidStorage.{ValidStorageMap}
use Rattle.cw_unit.specs.Program.{program_of}
use Rattle.cw_unit.specs.Configuration.{FramesApart, activations_of}
use Rattle.cw_unit.specs.Behaviour.{configuration_after}
use Rattle.cw_lex.specs.Lexical.{Lexeme}
use Rattle.cw_say.specs.compile.Texts.{text_limit, ExpandsTo}
use Rattle.cw_link.specs.declared.fault.LinkFault.{LinkFault}
use Rattle.cw_link.specs.declared.fault.LinkFault.TheVariants.{CodeTooBig}
use Rattle.cw_build.specs.Linking.{Links, IsLinkFault, image_of, map_text}
use Rattle.cw_link_files.specs.files.Texts.{HasUnit}
use Rattle.cw_link_files.specs.files.Reading.{HaveBytes, HaveValues, StopsTexts}
use Rattle.cw_correct.specs.Calls.{Call, told_files}
use Rattle.cw_correct.specs.Files.{counts_before, counts_after, AllAccepted}
use Rattle.cw_correct.specs.Saying.{SaysFirst}
use Rattle.cw_correct.specs.Running.{begins_as, RunsImage, ReadsInput}
use Rattle.cw_correct.specs.Meaning.{PreservesMeaning, CompletesRuns}
use Rattle.cw_say.specs.declared.status.Status.{Status}
use Rattle.cw_say.specs.declared.status.Status.TheVariants.{Usage, Refused, Unlinked, NoFile, Outside, NoMemory, BadFile, TooLong, TooMany, NoPlace, NoItem}
use Rattle.cw_say.specs.declared.status.Which.TheVariants.{Store, Input, Out}
use Rattle.cw_say.specs.declared.status.Long.TheVariants.{File}
use Rattle.cw_say.specs.declared.status.Long.TheVariants as long

-- ---- code that is too big

-- each of the texts expands to these items
abbrev pub ExpandTo : (texts : List (List ℕ)) → List (List Lexeme) → Type 0
ExpandTo [] [] = Unit {0}
ExpandTo (text ∷ texts) (expanded ∷ more) = ExpandsTo text expanded × ExpandTo texts more
ExpandTo _ _ = ⊥

-- the texts have more items than 32 bytes for each and 4,096 for the library leave room for
abbrev pub HaveManyItems : List (List ℕ) → Type 0
HaveManyItems texts = (expanded : List (List Lexeme)) × ExpandTo texts expanded × (65536 < 32 * sum (map length expanded) + 4096)

-- and no other code is too big
abbrev pub HasCause : List (List ℕ) → LinkFault → Type 0
HasCause texts (CodeTooBig bytes) = HaveManyItems texts
HasCause texts fault = Unit {0}

-- ---- when each status comes

-- For texts of the first files and the units of the first of these: of a file that stops the reading; of the units, where all files have one; of what they link
-- to.
abbrev pub GoComes : Call → (texts : List (List ℕ)) → (us : List SourceUnit) → Status → Type 0
GoComes c texts us Usage = ⊥
GoComes c texts us (BadFile number fault) = ⊥
GoComes c texts us (TooMany count) = ⊥
GoComes c texts us NoPlace = ⊥
GoComes c texts us (NoItem index) = ⊥
GoComes c texts us (Refused number fault) = StopsTexts (told_files c) texts (length us) (counts_before c) (counts_after c) (Refused number fault)
GoComes c texts us (NoFile number) = StopsTexts (told_files c) texts (length us) (counts_before c) (counts_after c) (NoFile number)
GoComes c texts us (TooLong (File number)) = StopsTexts (told_files c) texts (length us) (counts_before c) (counts_after c) (TooLong (File number))
GoComes c texts us (Outside Store) = StopsTexts (told_files c) texts (length us) (counts_before c) (counts_after c) (Outside Store)
GoComes c texts us NoMemory = Unit {0}
GoComes c texts us (Unlinked fault) = AllAccepted c us × IsLinkFault us c.limits fault × HasCause texts fault
GoComes c texts us (Outside Input) = AllAccepted c us × Links us c.limits × Rose c.before.input_faults c.after.input_faults
GoComes c texts us (Outside Out) = AllAccepted c us × Links us c.limits × Rose c.before.out_faults c.after.out_faults
GoComes c texts us (TooLong long.Input) = AllAccepted c us × Links us c.limits × Taken c.before.left c.after.left (input_limit + 1)
GoComes c texts us status = AllAccepted c us × Links us c.limits

-- ---- the promise

abbrev pub names_of : List SourceUnit → List (List ℕ)
names_of us = map (λ u. u.name) us

-- what is said of units before their image runs
abbrev pub Telling : Type 0
Telling = List SourceUnit → List ℕ

-- A call that runs texts and answers with this status, over this input: for the texts of its files and their units, and for the instructions that the image ran
-- and what showed of them.
pub record RunsTexts (telling : Telling) (c : Call) (input : List ℕ) (status : Status) : Type 0 where
  pub texts : List (List ℕ)
  pub units : List SourceUnit
  pub instructions : ℕ
  pub shown : run.Observed
  pub have_texts : HaveBytes text_limit (told_files c) texts
  pub have_units : HaveValues HasUnit texts units
  pub comes : GoComes c texts units status
  pub telling_first : SaysFirst c.before c.after (telling units) c.names (names_of units) status
  pub runs_image : RunsImage c input (begins_as (image_of units c.limits)) instructions shown status
  pub read_ahead : ReadsInput c input (begins_as (image_of units c.limits)) instructions shown status
  pub within_limit : status ≢ TooLong long.Input → TakenWithin c.before.left c.after.left
  pub preserves : AreBytes input → PreservesMeaning (program_of units c.limits) input instructions shown status
  pub valid_storage : AllAccepted c units → Links units c.limits → ValidStorageMap units c.limits (storage_map units)
  pub frames_apart : (m : ℕ) → FramesApart (program_of units c.limits) (activations_of (configuration_after (program_of units c.limits) input m))
  pub completes : CompletesRuns c input status
  pub stays : AllStay c.before.files c.after.files

-- `go` says the storage map of the files' units
abbrev pub GoesRight : Call → (input : List ℕ) → Status → Type 0
GoesRight c input status = RunsTexts (λ us. map_text us c.limits) c input status
