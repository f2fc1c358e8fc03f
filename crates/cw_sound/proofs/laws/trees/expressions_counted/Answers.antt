-- An expression, a condition, a reference and the arguments of a call, each as it stands.
use Rattle.std.proofs.Common.{false}
use Rattle.cw_sound.proofs.Tokens.Expressions.{counted}
use Rattle.cw_sound.proofs.Tokens.Statements.{call_counted}
use Rattle.cw_sound.proofs.laws.trees.expressions_counted.Goals as goal

pub returns-clause-expression : goal.returns-clause-expression
returns-clause-expression c named numbers n p e a h = (counted named numbers h).made false

pub returns-clause-condition : goal.returns-clause-condition
returns-clause-condition c named numbers n p t a h = counted named numbers h

pub returns-clause-reference : goal.returns-clause-reference
returns-clause-reference c named numbers n p r a h = (counted named numbers h).place

pub returns-clause-call : goal.returns-clause-call
returns-clause-call c named numbers n p f es a h = call_counted named numbers f (counted named numbers h)
