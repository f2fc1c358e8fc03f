use Rattle.std.proofs.Common.{arith}
use Rattle.cw_tmpl.proofs.Sizes.{fetched_long, stored_long}
use Rattle.cw_assemble.proofs.sizes.frame_moved_size.Goals as goal

pub returns-clause-fetched : goal.returns-clause-fetched
returns-clause-fetched c = omega (arith, fetched_long c.args.offset, c.frame_size.ensures.is)

pub returns-clause-assigned : goal.returns-clause-assigned
returns-clause-assigned c = omega (arith, stored_long c.args.offset, c.frame_size.ensures.is)
