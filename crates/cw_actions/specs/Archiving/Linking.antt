-- What comes of the list of objects that files come to, by the status: its image, or why there is none.
use Rattle.std.specs.Prelude.{◌≡◌, ℕ, ◌<◌, List, length, codes}
use Rattle.cw_io.specs.File.{AllStay}
use Rattle.cw_unit.specs.declared.layout.Limits.{Limits}
use Rattle.cw_link_files.specs.Parts.{IsListOf}
use Rattle.cw_build.specs.Linking.{AreLinked, IsFault}
use Rattle.cw_correct.specs.Results.{AreFew, all_contents, image_file}
use Rattle.cw_actions.specs.Resulting.Outside.{Files}
use Rattle.cw_actions.specs.Resulting.Written.{GivesFile}
use Rattle.cw_say.specs.declared.status.Status.{Status}
use Rattle.cw_say.specs.declared.status.Status.TheVariants.{Unlinked, NoMemory, TooMany}

-- objects that are not too many, whose image is written
abbrev pub LinksObjects : (objects : List (List ℕ)) → Limits → (files files' : Files) → Status → Type 0
LinksObjects objects limits files files' NoMemory = AllStay files.told files'.told
LinksObjects objects limits files files' (Unlinked fault) = IsFault (all_contents objects) limits fault × AllStay files.told files'.told
LinksObjects objects limits files files' status = AreLinked (all_contents objects) limits
    × GivesFile (codes "A.IMG") (image_file objects limits) files files' status

-- a list of objects, or how many they are where they are too many
abbrev pub LinksList : (list : List (List ℕ)) → Limits → (files files' : Files) → Status → Type 0
LinksList list limits files files' (TooMany count) = (count ≡ length list) × (200 < count) × AllStay files.told files'.told
LinksList list limits files files' status = AreFew list × LinksObjects list limits files files' status

-- given objects and members, by the list that they come to; or memory was wanted
abbrev pub LinksTaken : (objects members : List (List ℕ)) → Limits → (files files' : Files) → Status → Type 0
LinksTaken objects members limits files files' NoMemory = AllStay files.told files'.told
LinksTaken objects members limits files files' status = (list : List (List ℕ)) × IsListOf objects members list × LinksList list limits files files' status
