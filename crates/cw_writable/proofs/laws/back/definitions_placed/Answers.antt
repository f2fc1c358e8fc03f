use Rattle.cw_writable.proofs.Back.Back.{definitions_placed}
use Rattle.cw_writable.proofs.laws.back.definitions_placed.Goals as goal

pub returns : goal.returns
returns c u built coded ready small = definitions_placed u built coded ready small
