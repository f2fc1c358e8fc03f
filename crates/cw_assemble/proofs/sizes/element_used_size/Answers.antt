use Rattle.std.proofs.Common.{arith}
use Rattle.cw_tmpl.proofs.Sizes.{element_used_long}
use Rattle.cw_assemble.proofs.sizes.element_used_size.Goals as goal

pub returns : goal.returns
returns c = omega (arith, element_used_long c.args.element c.args.with, c.element_size.ensures.is, c.used_size.ensures.is)
