-- What the actions promise that run nothing: `map`, `depth`, `code` and `list` write their result to `out`;
-- `compile`, `lib`, `link`, `migrate` and `hex` write it to a file.
use Rattle.std.specs.Prelude.{◌≡◌, ◌≢◌, ◌⊎◌, ℕ, ◌<◌, ◌≤◌, List, [], ◌∷◌, ◌++◌, length, map, take, codes}
use Rattle.cw_io.specs.Bytes.{after_told}
use Rattle.cw_io.specs.Count.{Rose}
use Rattle.cw_io.specs.File.{as_file, KeptOrWhole, OthersStay, AllStay}
use Rattle.cw_unit.specs.declared.unit.Unit.{Unit as SourceUnit}
use Rattle.cw_unit.specs.declared.layout.Limits.{Limits}
use Rattle.cw_say.specs.compile.Texts.{text_limit, IsCanonicalOf}
use Rattle.cw_link.specs.Contents.{Contents}
use Rattle.cw_link.specs.LinkedImage.{linked_image}
use Rattle.cw_image.specs.ImageFormat.{image_bytes}
use Rattle.cw_image.specs.declared.image.Image.{Image}
use Rattle.cw_hex.specs.HexText.{hex_text}
use Rattle.cw_object.specs.ObjectContents.{contents_in}
use Rattle.cw_obj.specs.Migration.{IsMigrated}
use Rattle.cw_build.specs.Compiled.{object_of, code_of}
use Rattle.cw_build.specs.Linking.{AreLinked, IsFault, Links, IsLinkFault, image_of, map_text}
use Rattle.cw_listing.specs.CodeListing.{IsCodeListing}
use Rattle.cw_link_files.specs.files.Texts.{HasUnit, HasObject, HasImage, object_limit}
use Rattle.cw_lib.specs.LibraryFormat.{library_bytes}
use Rattle.cw_link_files.specs.Parts.{Part, HasPart, IsLinkList}
use Rattle.cw_link_files.specs.Taken.{StopsParts}
use Rattle.cw_link_files.specs.files.Reading.{HaveBytes, HaveValues, AllTaken, StopsTexts, StopsObjects, StopsImages}
use Rattle.cw_correct.specs.Calls.{Call, told_files, first_name, over_others, NoFault, SameCounts, IsUntouched, IsUnwritten}
use Rattle.cw_correct.specs.Files.{counts_before, counts_after, AllAccepted}
use Rattle.cw_correct.specs.Saying.{SaysLast}
use Rattle.cw_unit.specs.Program.{program_of}
use Rattle.cw_unit.specs.Stop.{Stopped, DepthReached}
use Rattle.cw_unit.specs.Behaviour.{observed}
use Rattle.cw_depth.specs.declared.depth_report.Report.{Report}
use Rattle.cw_depth.specs.declared.depth_report.Report.TheVariants.{Bound, Unbounded}
use Rattle.cw_depth.specs.Told.{IsReport}
use Rattle.cw_correct.specs.Depths.{depth_text}
use Rattle.cw_correct.specs.Going.{HasCause}
use Rattle.cw_correct.specs.Meaning.{TellBytes}
use Rattle.cw_say.specs.declared.status.Status.{Status}
use Rattle.cw_say.specs.declared.status.Status.TheVariants.{Ended, Unlinked, Outside, NoMemory, TooMany}
use Rattle.cw_say.specs.declared.status.Which.TheVariants.{Store, Out}

-- ---- where a result goes

-- What becomes of a result that is written to `out`: all of it, or a proper part where the count of `out` rose, or none.
abbrev pub WritesOut : Call → (result : List ℕ) → Status → Type 0
WritesOut c result Ended = (c.after.out ≡ after_told c.before.out result) × SameCounts c.before c.after
WritesOut c result (Outside Out) = (count : ℕ) × (count < length result)
    × (c.after.out ≡ after_told c.before.out (take count result)) × Rose c.before.out_faults c.after.out_faults
WritesOut c result status = IsUnwritten c.before c.after

-- What becomes of a result that is written to a file: the file is the result and all others stay; or the writing
-- failed, and the file is as it was or as it was to
-- be; or all stay.
abbrev pub WritesFile : Call → (name result : List ℕ) → (all : Type 0) → Status → Type 0
WritesFile c name result all Ended =
    (c.after.files name ≡ as_file (c.before.files name) result) × OthersStay c.before.files c.after.files name × SameCounts c.before c.after
WritesFile c name result all (Outside Store) =
    AllStay c.before.files c.after.files
    ⊎ (all × KeptOrWhole c.before.files c.after.files name result × OthersStay c.before.files c.after.files name
    × Rose c.before.store_faults c.after.store_faults)
WritesFile c name result all status = AllStay c.before.files c.after.files

-- the result was written, or memory was wanted
abbrev pub IsDone : Status → Type 0
IsDone Ended = Unit {0}
IsDone NoMemory = Unit {0}
IsDone status = ⊥

-- ---- map

abbrev pub MapComes : Call → (texts : List (List ℕ)) → (us : List SourceUnit) → Status → Type 0
MapComes c texts us Ended = AllAccepted c us × Links us c.limits
MapComes c texts us (Outside Out) = AllAccepted c us × Links us c.limits
MapComes c texts us (Unlinked fault) = AllAccepted c us × IsLinkFault us c.limits fault × HasCause texts fault
MapComes c texts us status = StopsTexts (told_files c) texts (length us) (counts_before c) (counts_after c) status

-- whether a text is what is to be written, where one is written
abbrev pub IsWritten : (Is : List ℕ → Type 0) → (text : List ℕ) → Status → Type 0
IsWritten Is text Ended = Is text
IsWritten Is text (Outside Out) = Is text
IsWritten Is text status = Unit {0}

-- what is told of the files' units, by a relation between the files' texts, these, the limits and what is written
pub record TellsOfUnits (IsText : (texts : List (List ℕ)) → List SourceUnit → Limits → List ℕ → Type 0) (c : Call) (status : Status) : Type 0 where
  pub texts : List (List ℕ)
  pub units : List SourceUnit
  pub text : List ℕ
  pub have_texts : HaveBytes text_limit (told_files c) texts
  pub have_units : HaveValues HasUnit texts units
  pub comes : MapComes c texts units status
  pub is_text : IsWritten (IsText texts units c.limits) text status
  pub says : SaysLast c.before c.after c.names [] status
  pub writes : WritesOut c text status
  pub untouched : IsUntouched c.before c.after
  pub stays : AllStay c.before.files c.after.files
  pub completes : (told : List (List ℕ)) (us : List SourceUnit) → TellBytes (told_files c) told
      → AllTaken text_limit HasUnit (told_files c) us → Links us c.limits → NoFault c.before c.after → IsDone status

-- the storage map that `go` writes to `say`
abbrev pub IsMap : List SourceUnit → Limits → (text : List ℕ) → Type 0
IsMap us limits text = text ≡ map_text us limits

abbrev pub MapsRight : Call → Status → Type 0
MapsRight c status = TellsOfUnits (λ texts. IsMap) c status

-- ---- depth

-- What a report says of runs: where it tells a longest chain, no run of the units at limits at which they link, and that allow as many calls or more, is
-- stopped by the depth of its calls, over any input and after any number of steps.
abbrev pub BoundsRuns : List SourceUnit → Report → Type 0
BoundsRuns us (Bound chain) =
    (limits : Limits) (input : List ℕ) (m segment line : ℕ) → Links us limits → length chain ≤ limits.depth
    → (observed (program_of us limits) input m).end ≢ Stopped DepthReached segment line
BoundsRuns us (Unbounded segment number) = Unit {0}

-- the depth report
abbrev pub IsDepth : List SourceUnit → Limits → (text : List ℕ) → Type 0
IsDepth us limits text = (report : Report) × IsReport us report × BoundsRuns us report × (text ≡ depth_text us report)

abbrev pub DepthsRight : Call → Status → Type 0
DepthsRight c status = TellsOfUnits (λ texts. IsDepth) c status

-- ---- code

-- the listing of the image's code, beside the texts that were compiled
abbrev pub IsCode : (texts : List (List ℕ)) → List SourceUnit → Limits → (text : List ℕ) → Type 0
IsCode texts us limits text = IsCodeListing (image_of us limits).code us (map code_of us) texts text

abbrev pub CodesRight : Call → Status → Type 0
CodesRight c status = TellsOfUnits IsCode c status

-- ---- list

-- a text is shown that has a unit
abbrev pub ShowComes : Call → (texts shown : List (List ℕ)) → Status → Type 0
ShowComes c texts shown Ended = AllAccepted c shown
ShowComes c texts shown (Outside Out) = AllAccepted c shown
ShowComes c texts shown status = StopsTexts (told_files c) texts (length shown) (counts_before c) (counts_after c) status

abbrev pub first_shown : (shown : List (List ℕ)) → List ℕ
first_shown [] = []
first_shown (text ∷ texts) = text

-- the canonical text of the file's tree
pub record ShowsRight (c : Call) (status : Status) : Type 0 where
  pub texts : List (List ℕ)
  pub shown : List (List ℕ)
  pub have_texts : HaveBytes text_limit (told_files c) texts
  pub have_shown : HaveValues IsCanonicalOf texts shown
  pub comes : ShowComes c texts shown status
  pub says : SaysLast c.before c.after c.names [] status
  pub writes : WritesOut c (first_shown shown) status
  pub untouched : IsUntouched c.before c.after
  pub stays : AllStay c.before.files c.after.files
  pub completes : (told canonical : List (List ℕ)) → TellBytes (told_files c) told
      → AllTaken text_limit IsCanonicalOf (told_files c) canonical → NoFault c.before c.after → IsDone status

-- ---- compile

abbrev pub CompileComes : Call → (texts : List (List ℕ)) → (us : List SourceUnit) → Status → Type 0
CompileComes c texts us Ended = AllAccepted c us
CompileComes c texts us (Outside Store) = Rose c.before.store_faults c.after.store_faults
CompileComes c texts us status = StopsTexts (told_files c) texts (length us) (counts_before c) (counts_after c) status

abbrev pub first_object : List SourceUnit → List ℕ
first_object [] = []
first_object (u ∷ us) = object_of u

-- the object of the file's unit, in the file of its name with `.SEG` added
pub record CompilesRight (c : Call) (status : Status) : Type 0 where
  pub texts : List (List ℕ)
  pub units : List SourceUnit
  pub have_texts : HaveBytes text_limit (told_files c) texts
  pub have_units : HaveValues HasUnit texts units
  pub comes : CompileComes c texts units status
  pub says : SaysLast c.before c.after c.names [] status
  pub writes : WritesFile c (first_name c ++ codes ".SEG") (first_object units) (AllAccepted c units) status
  pub untouched : IsUntouched c.before c.after
  pub unwritten : IsUnwritten c.before c.after
  pub completes : (told : List (List ℕ)) (us : List SourceUnit) → TellBytes (told_files c) told
      → AllTaken text_limit HasUnit (told_files c) us → NoFault c.before c.after → IsDone status

-- ---- objects in, one result out

abbrev pub ObjectsCome : Call → (texts objects : List (List ℕ)) → Status → Type 0
ObjectsCome c texts objects Ended = AllAccepted c objects
ObjectsCome c texts objects (Outside Store) = Rose c.before.store_faults c.after.store_faults
ObjectsCome c texts objects status = StopsObjects (told_files c) texts (length objects) (counts_before c) (counts_after c) status

-- ---- lib

-- the library of the call's objects, in the file of this name
pub record MakesLibrary (name : List ℕ) (c : Call) (status : Status) : Type 0 where
  pub texts : List (List ℕ)
  pub objects : List (List ℕ)
  pub have_bytes : HaveBytes object_limit (told_files c) texts
  pub have_objects : HaveValues HasObject texts objects
  pub comes : ObjectsCome c texts objects status
  pub says : SaysLast c.before c.after c.names [] status
  pub writes : WritesFile c name (library_bytes objects) (AllAccepted c objects) status
  pub untouched : IsUntouched c.before c.after
  pub unwritten : IsUnwritten c.before c.after
  pub completes : (told objects : List (List ℕ)) → TellBytes (told_files c) told
      → AllTaken object_limit HasObject (told_files c) objects → NoFault c.before c.after → IsDone status

-- of the objects behind the first name, in the file of that name
abbrev pub LibsRight : Call → Status → Type 0
LibsRight c status = MakesLibrary (first_name c) (over_others c) status

-- ---- link

abbrev pub all_contents : (objects : List (List ℕ)) → List Contents
all_contents objects = map contents_in objects

-- all files were taken, and this is the list that they come to
pub record AreListed (c : Call) (parts : List Part) (list : List (List ℕ)) : Type 0 where
  pub all : AllAccepted c parts
  pub listed : IsLinkList parts list

-- so many objects may be linked
abbrev pub AreFew : (list : List (List ℕ)) → Type 0
AreFew list = length list ≤ 200

abbrev pub LinkComes : Call → (texts : List (List ℕ)) → (parts : List Part) → (list : List (List ℕ)) → Status → Type 0
LinkComes c texts parts list Ended = AreListed c parts list × AreFew list × AreLinked (all_contents list) c.limits
LinkComes c texts parts list (Outside Store) = Rose c.before.store_faults c.after.store_faults
LinkComes c texts parts list (Unlinked fault) = AreListed c parts list × AreFew list × IsFault (all_contents list) c.limits fault
LinkComes c texts parts list (TooMany count) = AreListed c parts list × (count ≡ length list) × (200 < count)
LinkComes c texts parts list status = StopsParts (told_files c) texts (length parts) (counts_before c) (counts_after c) status

abbrev pub image_file : (list : List (List ℕ)) → Limits → List ℕ
image_file list limits = image_bytes (linked_image (all_contents list) limits)

-- the image of the list that the files come to, in the file `A.IMG`
pub record LinksRight (c : Call) (status : Status) : Type 0 where
  pub texts : List (List ℕ)
  pub parts : List Part
  pub list : List (List ℕ)
  pub have_bytes : HaveBytes object_limit (told_files c) texts
  pub have_parts : HaveValues HasPart texts parts
  pub comes : LinkComes c texts parts list status
  pub says : SaysLast c.before c.after c.names [] status
  pub writes : WritesFile c (codes "A.IMG") (image_file list c.limits) (AreListed c parts list × AreFew list × AreLinked (all_contents list) c.limits) status
  pub untouched : IsUntouched c.before c.after
  pub unwritten : IsUnwritten c.before c.after
  pub completes : (told : List (List ℕ)) (parts : List Part) (list : List (List ℕ)) →
      TellBytes (told_files c) told → AllTaken object_limit HasPart (told_files c) parts → IsLinkList parts list
      → AreFew list → AreLinked (all_contents list) c.limits → NoFault c.before c.after → IsDone status

-- ---- migrate

-- the object is of version 2 and has the records of the file's
abbrev pub MigratesTo : (objects : List (List ℕ)) → (result : List ℕ) → Status → Type 0
MigratesTo (object ∷ objects) result Ended = IsMigrated object result
MigratesTo objects result status = Unit {0}

-- the file's object in version 2, in the file of its name with `.SG2` added
pub record MigratesRight (c : Call) (status : Status) : Type 0 where
  pub texts : List (List ℕ)
  pub objects : List (List ℕ)
  pub result : List ℕ
  pub have_bytes : HaveBytes object_limit (told_files c) texts
  pub have_objects : HaveValues HasObject texts objects
  pub comes : ObjectsCome c texts objects status
  pub says : SaysLast c.before c.after c.names [] status
  pub migrates : MigratesTo objects result status
  pub writes : WritesFile c (first_name c ++ codes ".SG2") result (AllAccepted c objects) status
  pub untouched : IsUntouched c.before c.after
  pub unwritten : IsUnwritten c.before c.after
  pub completes : (told objects : List (List ℕ)) → TellBytes (told_files c) told
      → AllTaken object_limit HasObject (told_files c) objects → NoFault c.before c.after → IsDone status

-- ---- hex

abbrev pub HexComes : Call → (texts : List (List ℕ)) → List Image → Status → Type 0
HexComes c texts images Ended = AllAccepted c images
HexComes c texts images (Outside Store) = Rose c.before.store_faults c.after.store_faults
HexComes c texts images status = StopsImages (told_files c) texts (length images) (counts_before c) (counts_after c) status

abbrev pub first_hex_text : List Image → List ℕ
first_hex_text [] = []
first_hex_text (image ∷ images) = hex_text image.code image.words

-- the HEX text of the file's image, in the file of its name with `.HEX` added
pub record HexesRight (c : Call) (status : Status) : Type 0 where
  pub texts : List (List ℕ)
  pub images : List Image
  pub have_bytes : HaveBytes object_limit (told_files c) texts
  pub have_images : HaveValues HasImage texts images
  pub comes : HexComes c texts images status
  pub says : SaysLast c.before c.after c.names [] status
  pub writes : WritesFile c (first_name c ++ codes ".HEX") (first_hex_text images) (AllAccepted c images) status
  pub untouched : IsUntouched c.before c.after
  pub unwritten : IsUnwritten c.before c.after
  pub completes : (told : List (List ℕ)) (images : List Image) → TellBytes (told_files c) told
      → AllTaken object_limit HasImage (told_files c) images → NoFault c.before c.after → IsDone status
