use Rattle.cw_assemble.proofs.Composed.{branch_added}
use Rattle.cw_assemble.proofs.blocks.put_comparison.Goals as goal

pub returns : goal.returns
returns c = branch_added c.args.short c.args.comparator c.args.to c.put_with_operand.ensures c.put_branch.ensures
