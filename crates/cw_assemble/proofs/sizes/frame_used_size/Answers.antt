use Rattle.std.proofs.Common.{arith}
use Rattle.cw_tmpl.proofs.Sizes.{frame_used_long}
use Rattle.cw_assemble.proofs.sizes.frame_used_size.Goals as goal

pub returns : goal.returns
returns c = omega (arith, frame_used_long c.args.offset c.args.with, c.frame_size.ensures.is, c.used_size.ensures.is)
