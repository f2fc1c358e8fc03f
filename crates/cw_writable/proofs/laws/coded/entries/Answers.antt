use Rattle.cw_writable.proofs.Coded.Units.{entries}
use Rattle.cw_writable.proofs.laws.coded.entries.Goals as goal

pub returns : goal.returns
returns c u = entries u
