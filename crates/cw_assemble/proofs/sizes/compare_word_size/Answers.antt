use Rattle.std.proofs.Common.{arith, false}
use Rattle.cw_order.specs.declared.order.Order.TheVariants as order
use Rattle.cw_tmpl.proofs.Sizes.{compare_word_long, word_compared_long}
use Rattle.cw_assemble.proofs.sizes.compare_word_size.Goals as goal

pub returns : goal.returns
returns c = omega (arith, compare_word_long false c.args.offset c.args.with c.args.comparator c.args.mark order.Save, word_compared_long c.args.offset c.args.with, c.word_compared_size.ensures)
