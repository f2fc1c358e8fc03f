use Rattle.std.proofs.Common.{arith}
use Rattle.cw_order.specs.declared.order.Order.TheVariants as order
use Rattle.cw_tmpl.proofs.Sizes.{part_fetched_long}
use Rattle.cw_assemble.proofs.sizes.frame_part_size.Goals as goal

pub returns : goal.returns
returns c = omega (arith, part_fetched_long c.args.offset c.args.t c.args.b c.args.signed order.Save, c.frame_size.ensures.is, c.part_size.ensures)
