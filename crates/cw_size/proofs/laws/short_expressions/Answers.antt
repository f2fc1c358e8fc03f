use Rattle.std.proofs.Common.{◌+◌, ◌*◌, ◌≤◌, arith}
use Rattle.cw_tokens.specs.LeastTokens.{expression_tokens}
use Rattle.cw_tmpl.specs.Sizes.{listed_sizes}
use Rattle.cw_gen_expr.specs.ReferenceExpressions.{expression_piece}
use Rattle.cw_size.proofs.Expressions.{expression_short}
use Rattle.cw_size.proofs.laws.short_expressions.Goals as goal

pub returns : goal.returns
returns c s e f place next =
    let h = (expression_short s e f).at place next in
    let z : listed_sizes (expression_piece s e f place next).orders ≤ 32 * expression_tokens e + 5 = omega (arith, h) in
    z
