use Rattle.cw_checks_storage.proofs.Computed.{all-placed}
use Rattle.cw_checks_storage.proofs.examples.Goals as goal

pub returns : goal.returns
returns c = record { overlays = all-placed.of_overlays; tables_and_strings = all-placed.of_tables_and_strings; presets = all-placed.of_presets; frames = all-placed.of_frames; absolutes = all-placed.of_absolutes; commons = all-placed.of_commons }
