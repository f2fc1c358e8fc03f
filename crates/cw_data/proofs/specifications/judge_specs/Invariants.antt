use Rattle.std.proofs.Common.{◌≡◌, drop}
use Rattle.cw_data.specs.Specifications.{specs_judged}
use Rattle.cw_data.proofs.specifications.judge_specs.Given as goal

abbrev pub invariant-loop-spec : goal.invariant-loop-spec
invariant-loop-spec l = specs_judged (drop l.spec-index l.specs) l.first ≡ specs_judged l.specs l.initial.first
