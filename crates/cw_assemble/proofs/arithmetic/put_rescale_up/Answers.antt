use Rattle.cw_assemble.proofs.Composed.{check_added}
use Rattle.cw_assemble.proofs.arithmetic.put_rescale_up.Goals as goal

pub returns : goal.returns
returns c = check_added c.args.short c.args.line c.args.call c.put_rescale_before.ensures c.put_check.ensures
