use Rattle.std.proofs.Common.{◌≡◌, drop}
use Rattle.cw_depth.specs.CallGraph.{spec_in}
use Rattle.cw_depth.proofs.specifications.spec_in.Given as goal

abbrev pub invariant-loop-parameter : goal.invariant-loop-parameter
invariant-loop-parameter l = spec_in l.control (drop l.parameter-index l.parameters) ≡ spec_in l.control l.parameters
