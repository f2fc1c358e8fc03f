use Rattle.cw_assemble.proofs.Ended.{rescaled_up, rescaled_down}
use Rattle.cw_assemble.proofs.arithmetic.put_rescale.Goals as goal

pub returns-then-from-to : goal.returns-then-from-to
returns-then-from-to c =
    rescaled_up c.args.short c.args.code.now c.put_rescale_up.new.code c.args.line c.args.from c.args.to c.args.call c.if-from-to.true c.put_rescale_up.ensures

pub returns-else-from-to : goal.returns-else-from-to
returns-else-from-to c =
    rescaled_down c.args.short c.args.code.now c.put_rescale_down.new.code c.args.line c.args.from c.args.to c.args.call c.if-from-to.false c.put_rescale_down.ensures
