use Rattle.std.proofs.Common.{ap, ◌∙◌, arith}
use Rattle.std.proofs.lemmas.Int.{ints}
use Rattle.cw_i86.specs.Sums.{overflows}
use Rattle.cw_alu86.proofs.Bits.{bit_is_small}
use Rattle.cw_alu86.proofs.sums.difference_overflows.Goals as goal

pub returns : goal.returns
returns c = c.overflows.ensures ∙ ap (overflows c.args.half) (omega (arith, ints, bit_is_small c.args.borrow))
