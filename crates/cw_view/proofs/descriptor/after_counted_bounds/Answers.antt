use Rattle.cw_view.specs.Reading.{bounds_in}
use Rattle.cw_view.proofs.Counting.{goes_on, ends}
use Rattle.cw_view.proofs.descriptor.after_counted_bounds.Goals as goal

pub returns-in_err-rest : goal.returns-in_err-rest
returns-in_err-rest c = rw c.from_residual.ensures (ends bounds_in _ _ _ _ c.loop-test.true c.in_err-rest.ensures c.loop.invariant)

pub loop-preserved : goal.loop-preserved
loop-preserved c = goes_on bounds_in _ _ _ _ _ c.loop-test.true c.in_ok-rest.ensures c.loop.invariant
