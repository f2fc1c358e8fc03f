use Rattle.std.proofs.Common.{refl}
use Rattle.cw_data.specs.Specifications.{spec_judged, specs_judged}
use Rattle.cw_data.proofs.Each.{goes_on}
use Rattle.cw_data.proofs.specifications.judge_specs.Goals as goal

pub loop-spec-preserved : goal.loop-spec-preserved
loop-spec-preserved c =
    goes_on spec_judged specs_judged (λ x xs. refl) c.args.specs.now c.loop-spec.spec-index c.spec-item.result c.loop-spec.first c.judge_spec.new.first _
    c.loop-spec-test.true c.spec-item.is c.judge_spec.ensures c.loop-spec.invariant
