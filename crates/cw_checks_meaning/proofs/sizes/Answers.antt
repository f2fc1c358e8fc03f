use Rattle.cw_checks_meaning.proofs.Computed.{absolute-placed, packed-placed, filter-placed, first_sum-need}
use Rattle.cw_checks_meaning.proofs.sizes.Goals as goal

pub returns : goal.returns
returns c = record { absolute = absolute-placed; packed = packed-placed; filter = filter-placed; need = first_sum-need }
