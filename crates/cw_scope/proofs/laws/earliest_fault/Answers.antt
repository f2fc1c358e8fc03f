use Rattle.cw_scope.proofs.Telling.{text_told}
use Rattle.cw_scope.proofs.laws.earliest_fault.Goals as goal

pub returns-clause-text : goal.returns-clause-text
returns-clause-text c = text_told
