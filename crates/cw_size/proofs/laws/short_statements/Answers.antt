use Rattle.cw_size.proofs.Statements.{statement_short}
use Rattle.cw_size.proofs.laws.short_statements.Goals as goal

pub returns : goal.returns
returns c s who answer t place next = (statement_short s who answer t).at place next
