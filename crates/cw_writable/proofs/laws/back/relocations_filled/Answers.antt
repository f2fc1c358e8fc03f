use Rattle.cw_writable.proofs.Back.Back.{relocations_filled}
use Rattle.cw_writable.proofs.laws.back.relocations_filled.Goals as goal

pub returns : goal.returns
returns c u built ready small = relocations_filled u built ready small
