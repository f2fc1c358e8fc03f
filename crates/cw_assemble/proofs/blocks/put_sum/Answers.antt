use Rattle.cw_assemble.proofs.Composed.{check_added}
use Rattle.cw_assemble.proofs.blocks.put_sum.Goals as goal

pub returns : goal.returns
returns c = check_added c.args.short c.args.line c.args.to c.put_with_operand.ensures c.put_check.ensures
