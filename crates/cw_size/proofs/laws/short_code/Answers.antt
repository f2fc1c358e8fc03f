use Rattle.cw_size.proofs.Units.{short}
use Rattle.cw_size.proofs.laws.short_code.Goals as goal

pub returns : goal.returns
returns c u stand = short u c.sizes.ensures.segment stand
