use Rattle.cw_assemble.proofs.Composed.{check_added}
use Rattle.cw_assemble.proofs.checks.put_sub.Goals as goal

pub returns : goal.returns
returns c = let all = check_added c.args.short c.args.line c.args.to c.put_less.ensures c.put_check.ensures in all
