use Rattle.cw_writable.proofs.Coded.Statements.{statement_good}
use Rattle.cw_writable.proofs.laws.coded.statements.Goals as goal

pub returns : goal.returns
returns c s who few answer t h place next = ((statement_good s few who answer t h).at place next).coded
