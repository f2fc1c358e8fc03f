use Rattle.std.proofs.Common.{◌≡◌, ◌+◌, drop}
use Rattle.cw_gen_expr.specs.ReferenceExpressions.{argument_words}
use Rattle.cw_gen_expr.proofs.orders.all_words.Given as goal

abbrev pub invariant-loop-parameter : goal.invariant-loop-parameter
invariant-loop-parameter l = l.total + argument_words (drop l.parameter-index l.parameters) ≡ argument_words l.parameters
