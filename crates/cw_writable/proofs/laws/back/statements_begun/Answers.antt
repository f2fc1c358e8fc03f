use Rattle.cw_writable.proofs.Back.Back.{statements_begun}
use Rattle.cw_writable.proofs.laws.back.statements_begun.Goals as goal

pub returns : goal.returns
returns c u built coded ready small = statements_begun u built coded ready small
