use Rattle.std.proofs.Common.{arith}
use Rattle.cw_order.specs.declared.order.Order.TheVariants as order
use Rattle.cw_tmpl.proofs.Sizes.{part_stored_long}
use Rattle.cw_assemble.proofs.sizes.frame_part_stored_size.Goals as goal

pub returns : goal.returns
returns c = omega (arith, part_stored_long c.args.offset c.args.t c.args.b order.Save, c.frame_size.ensures.is, c.shift_size.ensures)
