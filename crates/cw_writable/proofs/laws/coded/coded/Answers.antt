use Rattle.cw_writable.proofs.Coded.Units.{coded}
use Rattle.cw_writable.proofs.laws.coded.coded.Goals as goal

pub returns : goal.returns
returns c u stored built ranged = coded u c.storage_maps.ensures stored built ranged
