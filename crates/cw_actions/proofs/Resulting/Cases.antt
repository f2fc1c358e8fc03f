-- By cases of the status that comes of a call.
use Rattle.std.proofs.Common.{◌≡◌, ℕ, ◌<◌, List, [], length, slice_get}
use Rattle.std.specs.Prelude.{take, ◌++◌, codes}
use Rattle.cw_io.specs.Bytes.{after_told}
use Rattle.cw_io.specs.Count.{Rose}
use Rattle.cw_io.specs.File.{Told, as_file, KeptOrWhole, OthersStay, AllStay}
use Rattle.cw_files.specs.Reading.{Counts, SameCounts, IsAbsentAt, IsLongerAt, IsUnread, StopsTexts}
use Rattle.cw_compile.specs.Texts.{text_limit, IsRefused, IsCanonicalOf}
use Rattle.cw_compile.specs.declared.fault.Refusal.{Refusal}
use Rattle.cw_unit.specs.declared.unit.Unit.{Unit as SourceUnit}
use Rattle.cw_unit.specs.declared.layout.Limits.{Limits}
use Rattle.cw_link.specs.declared.fault.LinkFault.{LinkFault}
use Rattle.cw_obj.specs.Migration.{IsMigrated}
use Rattle.cw_build.specs.Linking.{Links, IsLinkFault}
use Rattle.cw_correct.specs.Files.{counts_before, counts_after, AllAccepted}
use Rattle.cw_correct.specs.Calls.{Call, told_files, IsUnwritten}
use Rattle.cw_correct.specs.Going.{HasCause}
use Rattle.cw_correct.specs.Results.{WritesOut, IsWritten, MapComes, ShowComes}
use Rattle.cw_actions.specs.Resulting.Outside.{Files, Out}
use Rattle.cw_actions.specs.Resulting.Written.{GivesOut, GivesFile}
use Rattle.cw_actions.specs.Resulting.Results.{TellsUnits, ShowsText, MigratesObject}
use Rattle.cw_say.specs.declared.status.Status.{Status}
use Rattle.cw_say.specs.declared.status.Status.TheVariants.{Ended, Refused, Unlinked, NoFile, Outside, NoMemory, TooLong}
use Rattle.cw_say.specs.declared.status.Which.TheVariants.{Store, Out as ToOut}
use Rattle.cw_say.specs.declared.status.Long.TheVariants.{File}

module _ (P : Status → Type 0) where
  -- ---- of what stopped the reading

  module _ (files : List Told) (taken : ℕ) (before after : Counts) (limit : ℕ)
      (absent : (number : ℕ) → (number ≡ taken) × IsAbsentAt (slice_get files number) × Rose before.absences after.absences → P (NoFile number))
      (failed : Rose before.faults after.faults → P (Outside Store))
      (longer : (number : ℕ) → (number ≡ taken) × IsLongerAt (slice_get files number) limit → P (TooLong (File number)))
      (wanted : P NoMemory) where
    pub unread : (s : Status) → IsUnread limit files taken before after s → P s
    unread (NoFile number) x = absent number x
    unread (Outside Store) x = failed x
    unread NoMemory x = wanted
    unread (TooLong (File number)) x = longer number x
    unread _ x = absurd x

  -- ---- of what was written

  module _ (result : List ℕ) (out out' : Out)
      (ended : (out'.held ≡ after_told out.held result) × (out'.faults ≡ out.faults) → P Ended)
      (cut : (count : ℕ) × (count < length result) × (out'.held ≡ after_told out.held (take count result)) × Rose out.faults out'.faults → P (Outside ToOut))
      (wanted : out' ≡ out → P NoMemory) where
    pub gives_out : (s : Status) → GivesOut result out out' s → P s
    gives_out Ended x = ended x
    gives_out (Outside ToOut) x = cut x
    gives_out NoMemory x = wanted x
    gives_out _ x = absurd x

  module _ (name result : List ℕ) (files files' : Files)
      (ended : (files'.told name ≡ as_file (files.told name) result) × OthersStay files.told files'.told name × SameCounts files.counts files'.counts → P Ended)
      (failed : KeptOrWhole files.told files'.told name result × OthersStay files.told files'.told name × Rose files.counts.faults files'.counts.faults → P (Outside Store))
      (wanted : AllStay files.told files'.told → P NoMemory) where
    pub gives_file : (s : Status) → GivesFile name result files files' s → P s
    gives_file Ended x = ended x
    gives_file (Outside Store) x = failed x
    gives_file NoMemory x = wanted x
    gives_file _ x = absurd x

  module _ (IsText : List SourceUnit → Limits → List ℕ → Type 0) (us : List SourceUnit) (limits : Limits) (out out' : Out)
      (unlinked : (fault : LinkFault) → IsLinkFault us limits fault × (out' ≡ out) → P (Unlinked fault))
      (wanted : out' ≡ out → P NoMemory)
      (gives : (s : Status) (text : List ℕ) → Links us limits → IsText us limits text → GivesOut text out out' s → P s) where
    pub tells_units : (s : Status) → TellsUnits IsText us limits out out' s → P s
    tells_units (Unlinked fault) x = unlinked fault x
    tells_units NoMemory x = wanted x
    tells_units s x = gives s x.0 x.1 x.2 x.3

  module _ (text : List ℕ) (out out' : Out)
      (refused : (number : ℕ) (refusal : Refusal) → (number ≡ 0) × IsRefused text refusal × (out' ≡ out) → P (Refused number refusal))
      (wanted : out' ≡ out → P NoMemory)
      (gives : (s : Status) (shown : List ℕ) → IsCanonicalOf text shown → GivesOut shown out out' s → P s) where
    pub shows_text : (s : Status) → ShowsText text out out' s → P s
    shows_text (Refused number refusal) x = refused number refusal x
    shows_text NoMemory x = wanted x
    shows_text s x = gives s x.0 x.1 x.2

  module _ (name object : List ℕ) (files files' : Files)
      (wanted : AllStay files.told files'.told → P NoMemory)
      (gives : (s : Status) (result : List ℕ) → IsMigrated object result → GivesFile (name ++ codes ".SG2") result files files' s → P s) where
    pub migrates_object : (s : Status) → MigratesObject name object files files' s → P s
    migrates_object NoMemory x = wanted x
    migrates_object s x = gives s x.0 x.1 x.2

  -- ---- of what a promise says of the status

  module _ (c : Call) (texts : List (List ℕ)) (us : List SourceUnit)
      (ended : AllAccepted c us × Links us c.limits → P Ended)
      (cut : AllAccepted c us × Links us c.limits → P (Outside ToOut))
      (unlinked : (fault : LinkFault) → AllAccepted c us × IsLinkFault us c.limits fault × HasCause texts fault → P (Unlinked fault))
      (stops : (s : Status) → StopsTexts (told_files c) texts (length us) (counts_before c) (counts_after c) s → P s) where
    pub map_comes : (s : Status) → MapComes c texts us s → P s
    map_comes Ended x = ended x
    map_comes (Unlinked fault) x = unlinked fault x
    map_comes (Outside ToOut) x = cut x
    map_comes s x = stops s x

  module _ (c : Call) (texts shown : List (List ℕ))
      (ended : AllAccepted c shown → P Ended)
      (cut : AllAccepted c shown → P (Outside ToOut))
      (refused : (number : ℕ) (refusal : Refusal) → StopsTexts (told_files c) texts (length shown) (counts_before c) (counts_after c) (Refused number refusal) → P (Refused number refusal))
      (stops : (s : Status) → IsUnread text_limit (told_files c) (length shown) (counts_before c) (counts_after c) s → P s) where
    pub show_comes : (s : Status) → ShowComes c texts shown s → P s
    show_comes Ended x = ended x
    show_comes (Refused number refusal) x = refused number refusal x
    show_comes (Outside ToOut) x = cut x
    show_comes s x = stops s x

-- ---- texts of which nothing is told since the reading stopped

module _ (c : Call) (texts : List (List ℕ)) (us : List SourceUnit) where
  abbrev Stops : Status → Type 0
  Stops s = StopsTexts (told_files c) texts (length us) (counts_before c) (counts_after c) s

  pub map_stops : (s : Status) → Stops s → MapComes c texts us s
  map_stops Ended x = absurd x
  map_stops (Unlinked fault) x = absurd x
  map_stops (Outside ToOut) x = absurd x
  map_stops _ x = x

  pub none_written : (Is : List ℕ → Type 0) (s : Status) → Stops s → IsWritten Is [] s
  none_written Is Ended x = absurd x
  none_written Is (Outside ToOut) x = absurd x
  none_written Is _ x = tt

  pub none_out : IsUnwritten c.before c.after → (s : Status) → Stops s → WritesOut c [] s
  none_out none Ended x = absurd x
  none_out none (Outside ToOut) x = absurd x
  none_out none _ x = none
