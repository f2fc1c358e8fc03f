-- What reading the files of `link` answers.
use Rattle.std.specs.Prelude.{◌≡◌, ℕ, ◌≤◌, List, [], ◌∷◌, ◌++◌, length, slice_get, Result, Ok, Err, All}
use Rattle.cw_io.specs.File.{Told}
use Rattle.cw_view.specs.ObjectFormat.{IsObject}
use Rattle.cw_files.specs.Texts.{object_limit}
use Rattle.cw_files.specs.Reading.{Counts, SameCounts, IsBadAt, IsUnread, AllTaken, Stopped}
use Rattle.cw_files.specs.Taking.{Takes}
use Rattle.cw_link_files.specs.Parts.{Part, HasPart, IsBadPart, given_objects, all_members}
use Rattle.cw_link_files.specs.declared.reading.LinkFiles.{LinkFiles}
use Rattle.cw_files.specs.say.declared.status.Status.{Status}
use Rattle.cw_files.specs.say.declared.status.Status.TheVariants.{BadFile}

-- the file behind those that were taken could not be read, or is neither an object nor a library
abbrev pub StopsParts : List Told → (texts : List (List ℕ)) → (taken : ℕ) → (before after : Counts) → Status → Type 0
StopsParts files texts taken before after (BadFile number fault) = (number ≡ taken) × IsBadAt IsBadPart (slice_get texts number) fault
StopsParts files texts taken before after status = IsUnread object_limit files taken before after status

-- the objects and the members of files that were taken as these
pub record AreFilesOf (parts : List Part) (files : LinkFiles) : Type 0 where
  pub objects : files.objects ≡ given_objects parts
  pub members : files.members ≡ all_members parts

-- all of them are objects, and no more than 200 files have
pub record AreObjects (files : LinkFiles) : Type 0 where
  pub objects : All IsObject files.objects
  pub members : All IsObject files.members
  pub few : length files.objects ≤ 200
  pub fewer : length files.members ≤ 40000

-- behind these one more file was taken, or the call stops there
abbrev pub AnswersPart : List Told → (parts : List Part) → (before after : Counts) → (taken : LinkFiles) → Result (Unit {0}) Status → Type 0
AnswersPart files parts before after taken (Ok _) = (part : Part)
    × Takes object_limit HasPart files (parts ++ part ∷ []) × AreFilesOf (parts ++ part ∷ []) taken
    × SameCounts before after
AnswersPart files parts before after taken (Err status) = Stopped object_limit HasPart (λ texts number. StopsParts files texts number before after status) files

-- the files with those of one more part
pub record AreMore (old new : LinkFiles) (part : Part) : Type 0 where
  pub objects : new.objects ≡ old.objects ++ given_objects (part ∷ [])
  pub members : new.members ≡ old.members ++ all_members (part ∷ [])

-- the bytes of one file were taken as a part of the files
abbrev pub TookFile : (bytes : List ℕ) → (old new : LinkFiles) → Type 0
TookFile bytes old new = (part : Part) × HasPart bytes part × AreMore old new part

abbrev pub AnswersParts : List Told → (before after : Counts) → Result LinkFiles Status → Type 0
AnswersParts files before after (Ok taken) = (parts : List Part) × AllTaken object_limit HasPart files parts × AreFilesOf parts taken × SameCounts before after
AnswersParts files before after (Err status) = Stopped object_limit HasPart (λ texts taken. StopsParts files texts taken before after status) files
