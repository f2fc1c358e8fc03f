use Rattle.cw_show.specs.ExpressionTokens.{expr_tokens, cond_tokens, ref_tokens}
use Rattle.cw_read_back.specs.Expressions.Unplaced.{unplaced_expr, unplaced_cond, unplaced_ref}
use Rattle.cw_read_back.proofs.Expressions.Back.{back, said}
use Rattle.cw_read_back.proofs.laws.expressions.expressions.Goals as goal

pub returns-clause-expression : goal.returns-clause-expression
returns-clause-expression c p n x marks h ts e = said expr_tokens unplaced_expr x (back h) ts e

pub returns-clause-condition : goal.returns-clause-condition
returns-clause-condition c p n x marks h ts e = said cond_tokens unplaced_cond x (back h) ts e

pub returns-clause-reference : goal.returns-clause-reference
returns-clause-reference c p n x marks h ts e = said ref_tokens unplaced_ref x (back h).0 ts e
