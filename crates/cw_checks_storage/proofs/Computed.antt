-- Maps and words are computed.
use Rattle.std.proofs.Common.{◌≡◌, refl, map}
use Rattle.std.specs.Fmt.{digits}
use Rattle.cw_list.specs.Listing.{five_digits}
use Rattle.cw_checks_storage.specs.Units.{result_of, wanted_of}
use Rattle.cw_checks_storage.specs.Examples.{overlays, tables_and_strings, presets, frames, absolutes, commons}

-- what is said of each group of examples
pub record AllPlaced : Type 0 where
  pub of_overlays : map result_of overlays ≡ map wanted_of overlays
  pub of_tables_and_strings : map result_of tables_and_strings ≡ map wanted_of tables_and_strings
  pub of_presets : map result_of presets ≡ map wanted_of presets
  pub of_frames : map result_of frames ≡ map wanted_of frames
  pub of_absolutes : map result_of absolutes ≡ map wanted_of absolutes
  pub of_commons : map result_of commons ≡ map wanted_of commons

pub all-placed : AllPlaced
unfolding five_digits digits
all-placed = record { of_overlays = refl; of_tables_and_strings = refl; of_presets = refl; of_frames = refl; of_absolutes = refl; of_commons = refl }
