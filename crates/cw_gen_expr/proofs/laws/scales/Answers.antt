use Rattle.cw_gen_expr.proofs.Scales.{natural-is, operand-is}
use Rattle.cw_gen_expr.proofs.laws.scales.Goals as goal

pub returns-clause-natural : goal.returns-clause-natural
returns-clause-natural c = natural-is

pub returns-clause-operand : goal.returns-clause-operand
returns-clause-operand c = operand-is
