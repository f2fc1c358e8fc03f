use Rattle.cw_assemble.proofs.Ended.{times_added}
use Rattle.cw_assemble.proofs.arithmetic.put_times.Goals as goal

pub returns : goal.returns
returns c =
    times_added c.args.code.now c.put_times_before.new.code c.put_unless_overflow.new.code c.args.stop c.args.line c.args.number c.put_times_before.ensures c.put_unless_overflow.ensures
