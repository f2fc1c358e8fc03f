use Rattle.std.proofs.Common.{map, drop}
use Rattle.cw_show.specs.Canonical.{joined}
use Rattle.cw_show.specs.ExpressionTokens.{bits_tokens}
use Rattle.cw_show.proofs.Adding.{Keeps}
use Rattle.cw_show.proofs.expression.put_all_bits.Given as goal

abbrev pub invariant-loop-one : goal.invariant-loop-one
invariant-loop-one l = Keeps l.initial.out l.out (joined (map bits_tokens l.bits)) (joined (map bits_tokens (drop l.one-index l.bits)))
