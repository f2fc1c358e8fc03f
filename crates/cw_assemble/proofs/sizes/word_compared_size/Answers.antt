use Rattle.std.proofs.Common.{arith}
use Rattle.cw_tmpl.proofs.Sizes.{word_compared_long}
use Rattle.cw_assemble.proofs.sizes.word_compared_size.Goals as goal

pub returns : goal.returns
returns c = omega (arith, word_compared_long c.args.offset c.args.with, c.frame_size.ensures.is)
