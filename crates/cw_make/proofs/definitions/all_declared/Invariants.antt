use Rattle.std.proofs.Common.{◌≡◌, ◌++◌, drop}
use Rattle.cw_make.specs.Definitions.{all_declared}
use Rattle.cw_make.proofs.definitions.all_declared.Given as goal

abbrev pub invariant-loop-fact : goal.invariant-loop-fact
invariant-loop-fact l = l.names ++ all_declared (drop l.fact-index l.facts) ≡ all_declared l.facts
