-- By cases of the status that comes of a call of `link`.
use Rattle.std.proofs.Common.{◌≡◌, ℕ, ◌<◌, List, [], length}
use Rattle.std.specs.Prelude.{codes}
use Rattle.cw_io.specs.Count.{Rose}
use Rattle.cw_io.specs.File.{AllStay}
use Rattle.cw_unit.specs.declared.layout.Limits.{Limits}
use Rattle.cw_link.specs.declared.fault.LinkFault.{LinkFault}
use Rattle.cw_build.specs.Linking.{AreLinked, IsFault}
use Rattle.cw_link_files.specs.Parts.{Part, IsListOf}
use Rattle.cw_link_files.specs.Taken.{StopsParts}
use Rattle.cw_correct.specs.Calls.{Call, told_files}
use Rattle.cw_correct.specs.Files.{counts_before, counts_after}
use Rattle.cw_correct.specs.Results.{AreListed, AreFew, all_contents, image_file, LinkComes}
use Rattle.cw_actions.specs.Resulting.Outside.{Files}
use Rattle.cw_actions.specs.Resulting.Written.{GivesFile}
use Rattle.cw_actions.specs.Archiving.Linking.{LinksObjects, LinksList, LinksTaken}
use Rattle.cw_say.specs.declared.status.Status.{Status}
use Rattle.cw_say.specs.declared.status.Status.TheVariants.{Ended, Unlinked, Outside, NoMemory, TooMany}
use Rattle.cw_say.specs.declared.status.Which.TheVariants.{Store}

module _ (P : Status → Type 0) where
  -- ---- of what comes of the files that were taken

  module _ (objects : List (List ℕ)) (limits : Limits) (files files' : Files)
      (unlinked : (fault : LinkFault) → IsFault (all_contents objects) limits fault × AllStay files.told files'.told → P (Unlinked fault))
      (wanted : AllStay files.told files'.told → P NoMemory)
      (gives : (s : Status) → AreLinked (all_contents objects) limits → GivesFile (codes "A.IMG") (image_file objects limits) files files' s → P s) where
    pub links_objects : (s : Status) → LinksObjects objects limits files files' s → P s
    links_objects (Unlinked fault) x = unlinked fault x
    links_objects NoMemory x = wanted x
    links_objects s x = gives s x.0 x.1

  module _ (list : List (List ℕ)) (limits : Limits) (files files' : Files)
      (many : (count : ℕ) → (count ≡ length list) × (200 < count) × AllStay files.told files'.told → P (TooMany count))
      (few : (s : Status) → AreFew list → LinksObjects list limits files files' s → P s) where
    pub links_list : (s : Status) → LinksList list limits files files' s → P s
    links_list (TooMany count) x = many count x
    links_list s x = few s x.0 x.1

  module _ (objects members : List (List ℕ)) (limits : Limits) (files files' : Files)
      (wanted : AllStay files.told files'.told → P NoMemory)
      (listed : (s : Status) (list : List (List ℕ)) → IsListOf objects members list → LinksList list limits files files' s → P s) where
    pub links_taken : (s : Status) → LinksTaken objects members limits files files' s → P s
    links_taken NoMemory x = wanted x
    links_taken s x = listed s x.0 x.1 x.2

  -- ---- of what the promise says of the status

  module _ (c : Call) (texts : List (List ℕ)) (parts : List Part) (list : List (List ℕ))
      (ended : AreListed c parts list × AreFew list × AreLinked (all_contents list) c.limits → P Ended)
      (failed : Rose c.before.store_faults c.after.store_faults → P (Outside Store))
      (unlinked : (fault : LinkFault) → AreListed c parts list × AreFew list × IsFault (all_contents list) c.limits fault → P (Unlinked fault))
      (many : (count : ℕ) → AreListed c parts list × (count ≡ length list) × (200 < count) → P (TooMany count))
      (stops : (s : Status) → StopsParts (told_files c) texts (length parts) (counts_before c) (counts_after c) s → P s) where
    pub link_comes : (s : Status) → LinkComes c texts parts list s → P s
    link_comes Ended x = ended x
    link_comes (Unlinked fault) x = unlinked fault x
    link_comes (Outside Store) x = failed x
    link_comes (TooMany count) x = many count x
    link_comes s x = stops s x

-- of a promise whose reading stopped
pub stops_come : (c : Call) (texts : List (List ℕ)) (parts : List Part) (s : Status) → StopsParts (told_files c) texts (length parts) (counts_before c) (counts_after c) s → LinkComes c texts parts [] s
stops_come c texts parts Ended x = absurd x
stops_come c texts parts (Unlinked fault) x = absurd x
stops_come c texts parts (TooMany count) x = absurd x
stops_come c texts parts (Outside Store) x = x
stops_come c texts parts _ x = x
