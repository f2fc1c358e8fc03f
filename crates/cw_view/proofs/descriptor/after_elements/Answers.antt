use Rattle.cw_view.specs.Reading.{element_in}
use Rattle.cw_view.proofs.Counting.{goes_on, ends}
use Rattle.cw_view.proofs.descriptor.after_elements.Goals as goal

pub returns-in_err-rest : goal.returns-in_err-rest
returns-in_err-rest c = rw c.from_residual.ensures (ends element_in _ _ _ _ c.loop-test.true c.in_err-rest.ensures c.loop.invariant)

pub loop-preserved : goal.loop-preserved
loop-preserved c = goes_on element_in _ _ _ _ _ c.loop-test.true c.in_ok-rest.ensures c.loop.invariant
