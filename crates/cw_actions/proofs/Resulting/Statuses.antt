-- Two statuses never come of one call.
use Rattle.std.proofs.Common.{◌≡◌, ℕ, List, [], ◌∷◌, All, Some, None}
use Rattle.std.proofs.lemmas.List.Elements.{All-head, All-tail}
use Rattle.cw_cpu86.specs.Ports.{AreBytes}
use Rattle.cw_unit.specs.declared.unit.Unit.{Unit as SourceUnit}
use Rattle.cw_compile.specs.Texts.{IsRefused}
use Rattle.cw_compile.specs.declared.fault.Refusal.{Refusal}
use Rattle.cw_view.specs.Uniqueness.{HasOneFault}
use Rattle.cw_correct.specs.Correct.{TellsBytes}
use Rattle.cw_unit.specs.declared.layout.Limits.{Limits}
use Rattle.cw_correct.specs.Results.{TellsOfUnits, IsMap, IsDepth, IsCode, DepthsRight, MapsRight, CodesRight, ShowsRight, CompilesRight, MigratesRight, HexesRight}
use Rattle.cw_actions.specs.Resulting.OneStatus.{AllowsOneStatus}
use Rattle.cw_actions.proofs.Resulting.Fates.{one_fate, one_ended, Any, any}
use Rattle.cw_actions.proofs.Resulting.Readings.{Found, AllFit}
use Rattle.cw_actions.specs.Resulting.Texts.{OneOfText}
use Rattle.cw_actions.proofs.Resulting.Units.{units, shown_texts, same_units}
use Rattle.cw_actions.proofs.Resulting.Objects.{objects}
use Rattle.cw_actions.proofs.Resulting.Maps as maps
use Rattle.cw_actions.proofs.Resulting.Shows as shows
use Rattle.cw_actions.proofs.Resulting.Images.{images, one_wrong}
use Rattle.cw_actions.proofs.Resulting.Filing as filing

pub all_bytes : (found : List Found) → All TellsBytes found → AllFit AreBytes found
all_bytes [] all = tt
all_bytes (None ∷ found) all = all_bytes found (All-tail TellsBytes None found all)
all_bytes (Some bytes ∷ found) all = (All-head TellsBytes (Some bytes) found all, all_bytes found (All-tail TellsBytes (Some bytes) found all))

module _ (given : OneOfText) where
  one_refusal : (text : List ℕ) (f g : Refusal) → Any text → IsRefused text f → IsRefused text g → f ≡ g
  one_refusal text f g fit is also = given.one_refusal text f g is also

  pub told_once : (IsText : (texts : List (List ℕ)) → List SourceUnit → Limits → List ℕ → Type 0) → AllowsOneStatus (TellsOfUnits IsText)
  told_once IsText c a b found told all quiet m n x y =
      one_fate (units given) (maps.After given IsText c) Any one_refusal found a b (λ us vs runs others after other. maps.one_after given IsText c us vs a b (same_units given found us vs runs others) after other)
      (any found) m n (maps.fate given IsText c a x found told quiet) (maps.fate given IsText c b y found told quiet)

  pub maps_once : AllowsOneStatus MapsRight
  maps_once = told_once (λ texts. IsMap)

  pub depths_once : AllowsOneStatus DepthsRight
  depths_once = told_once (λ texts. IsDepth)

  pub codes_once : AllowsOneStatus CodesRight
  codes_once = told_once IsCode

  pub shows_once : AllowsOneStatus ShowsRight
  shows_once c a b found told all quiet m n x y =
      one_ended (shown_texts given) Any one_refusal found a b (any found) m n
      (shows.fate given c x.texts x.shown x.have_texts x.have_shown a x.comes x.writes found told quiet) (shows.fate given c y.texts y.shown y.have_texts y.have_shown b y.comes y.writes found told quiet)

  pub compiles_once : AllowsOneStatus CompilesRight
  compiles_once c a b found told all quiet m n x y =
      one_ended (units given) Any one_refusal found a b (any found) m n
      (filing.fate (units given) c x.texts x.units x.have_texts x.have_units a x.comes found told quiet) (filing.fate (units given) c y.texts y.units y.have_texts y.have_units b y.comes found told quiet)

pub migrates_once : HasOneFault → AllowsOneStatus MigratesRight
migrates_once one_fault c a b found told all quiet m n x y =
    one_ended objects AreBytes one_fault found a b (all_bytes found all) m n
    (filing.fate objects c x.texts x.objects x.have_bytes x.have_objects a x.comes found told quiet) (filing.fate objects c y.texts y.objects y.have_bytes y.have_objects b y.comes found told quiet)

-- bytes of any kind have one fault
pub hexes_once : AllowsOneStatus HexesRight
hexes_once c a b found told all quiet m n x y =
    one_ended images Any (λ bytes f g fit is also. one_wrong bytes f g is also) found a b (any found) m n
    (filing.fate images c x.texts x.images x.have_bytes x.have_images a x.comes found told quiet) (filing.fate images c y.texts y.images y.have_bytes y.have_images b y.comes found told quiet)
