use Rattle.cw_write.proofs.Said.{says}
use Rattle.cw_actions.proofs.go.closing.close.Goals as goal

pub returns-clause-line : goal.returns-clause-line
returns-clause-line g c = says _ _ _ _ _ _ c.write_last.ensures.line
