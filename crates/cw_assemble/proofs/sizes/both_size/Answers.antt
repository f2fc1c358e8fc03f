use Rattle.std.proofs.Common.{arith}
use Rattle.cw_order.specs.declared.order.Order.TheVariants as order
use Rattle.cw_tmpl.proofs.Sizes.{both_long}
use Rattle.cw_assemble.proofs.sizes.both_size.Goals as goal

pub returns : goal.returns
returns c = omega (arith, both_long c.args.first c.args.second order.Save, c.frame_size.ensures.is, c.frame_size-2.ensures.is)
